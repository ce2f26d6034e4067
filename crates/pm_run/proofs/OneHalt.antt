-- A script ends in one state, stopped by one thing.
use Rattle.std.proofs.Common.{◌≡◌, ℕ, ◌+◌, List, length, refl, sym, ◌∙◌, ap, subst, Option, Some, None}
use Rattle.pm_terms.specs.declared.fault.TextFault.{TextFault}
use Rattle.pm_terms.specs.declared.fault.TextFault.TheVariants.{Unexpected}
use Rattle.pm_cutter.specs.Cutting.{Part, cut, rest_of}
use Rattle.pm_goal.specs.declared.refusal.Refusal.{Refusal}
use Rattle.pm_run.specs.declared.stop.Stop.{Stop}
use Rattle.pm_run.specs.declared.stop.Stop.TheVariants as stop
use Rattle.pm_run.specs.Runs.{State, start, Outcome, RunsFrom, does_not_read, is_unbuilt, is_refused, goes_on, is_cut_off, ends_inside, ends}
use Rattle.pm_run.specs.Halting.{last_state, stop_in, HaltsFrom, HaltsAreOne}
use Rattle.pm_run.proofs.OneRun.{same_fault, read_or_not, one_done, same_place, some_or_none, open_or_not, same_refusal, same_state, unbuilt_refuses, unbuilt_moves, refuses_moves}

-- two runs end in the same state, stopped by the same
abbrev Same : (size : ℕ) (rest : Option ℕ) (n : ℕ) (s t : State) (ps : List Part) (a b : Outcome) → RunsFrom size rest n s ps a → RunsFrom size rest n t ps b → Type 0
Same size rest n s t ps a b run other = (last_state size rest n s ps a run ≡ last_state size rest n t ps b other) × (stop_in size rest n s ps a run ≡ stop_in size rest n t ps b other)

one_end : (size : ℕ) (rest : Option ℕ) (n : ℕ) (s : State) (ps : List Part) (a b : Outcome) (run : RunsFrom size rest n s ps a) (other : RunsFrom size rest n s ps b) → Same size rest n s s ps a b run other
unfolding last_state stop_in
one_end size rest n s _ _ _ (does_not_read p e) (does_not_read q f) = (refl, ap (λ (z : TextFault). Some (stop.Unreadable z)) (same_fault _ _ _ e f))
one_end size rest n s _ _ _ (does_not_read p e) (is_unbuilt q y f v) = absurd (read_or_not _ _ _ f e)
one_end size rest n s _ _ _ (does_not_read p e) (is_refused q y f v) = absurd (read_or_not _ _ _ f e)
one_end size rest n s _ _ _ (does_not_read p e) (goes_on q y t f v run) = absurd (read_or_not _ _ _ f e)
one_end size rest n s _ _ _ (is_unbuilt p x e u) (does_not_read q f) = absurd (read_or_not _ _ _ e f)
one_end size rest n s _ _ _ (is_unbuilt p x e u) (is_unbuilt q y f v) = (refl, refl)
one_end size rest n s _ _ _ (is_unbuilt p x e u) (is_refused q y f v) = absurd (unbuilt_refuses _ (one_done s _ x y _ _ e f u v))
one_end size rest n s _ _ _ (is_unbuilt p x e u) (goes_on q y t f v run) = absurd (unbuilt_moves _ (one_done s _ x y _ _ e f u v))
one_end size rest n s _ _ _ (is_refused p x e u) (does_not_read q f) = absurd (read_or_not _ _ _ e f)
one_end size rest n s _ _ _ (is_refused p x e u) (is_unbuilt q y f v) = absurd (unbuilt_refuses _ (one_done s _ y x _ _ f e v u))
one_end size rest n s _ _ _ (is_refused p x e u) (is_refused q y f v) = (refl, ap (λ (z : Refusal). Some (stop.Refused n q.offset z)) (same_refusal _ _ (one_done s _ x y _ _ e f u v)))
one_end size rest n s _ _ _ (is_refused p x e u) (goes_on q y t f v run) = absurd (refuses_moves _ _ (one_done s _ x y _ _ e f u v))
one_end size rest n s _ _ _ (goes_on p x new e u run) (does_not_read q f) = absurd (read_or_not _ _ _ e f)
one_end size rest n s _ _ _ (goes_on p x new e u run) (is_unbuilt q y f v) = absurd (unbuilt_moves _ (one_done s _ y x _ _ f e v u))
one_end size rest n s _ _ _ (goes_on p x new e u run) (is_refused q y f v) = absurd (refuses_moves _ _ (one_done s _ y x _ _ f e v u))
one_end size rest n s _ _ _ (goes_on p {ps = ps} x new {o = a} e u run) (goes_on q y t {o = b} f v run') =
    let same : new ≡ t = same_state new t (one_done s _ x y _ _ e f u v) in
    subst (λ (z : State). (w : RunsFrom size rest (n + 1) z ps b) → Same size rest (n + 1) new z ps a b run w) same (λ w. one_end size rest (n + 1) new ps a b run w) run'
one_end size rest n s _ _ _ (is_cut_off i e) (is_cut_off j f) = (refl, ap (λ (k : ℕ). Some (stop.Unreadable (Unexpected k))) (same_place rest i j e f))
one_end size rest n s _ _ _ (is_cut_off i e) (ends_inside f h) = absurd (some_or_none rest i e f)
one_end size rest n s _ _ _ (is_cut_off i e) (ends f h) = absurd (some_or_none rest i e f)
one_end size rest n s _ _ _ (ends_inside e g) (is_cut_off i f) = absurd (some_or_none rest i f e)
one_end size rest n s _ _ _ (ends_inside e g) (ends_inside f h) = (refl, refl)
one_end size rest n s _ _ _ (ends_inside e g) (ends f h) = absurd (open_or_not _ g h)
one_end size rest n s _ _ _ (ends e g) (is_cut_off i f) = absurd (some_or_none rest i f e)
one_end size rest n s _ _ _ (ends e g) (ends_inside f h) = absurd (open_or_not _ h g)
one_end size rest n s _ _ _ (ends e g) (ends f h) = (refl, refl)

one_halt : (size : ℕ) (rest : Option ℕ) (n : ℕ) (ps : List Part) (start s t : State) (a b : Option Stop) → HaltsFrom size rest n start ps s a → HaltsFrom size rest n start ps t b → (s ≡ t) × (a ≡ b)
one_halt size rest n ps start s t a b h k =
    let same = one_end size rest n start ps h.outcome k.outcome h.run k.run in
    (sym h.last_is ∙ same.0 ∙ k.last_is, sym h.stop_is ∙ same.1 ∙ k.stop_is)

pub halts_are_one : HaltsAreOne
halts_are_one bytes s t a b h k = one_halt (length bytes) (rest_of bytes) 1 (cut bytes) start s t a b h k
