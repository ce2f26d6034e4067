-- Where whole scripts end.
use Rattle.std.proofs.Common.{◌≡◌, ℕ, ◌+◌, List, [], ◌∷◌, ◌++◌, length, refl, sym, ◌∙◌, ap, subst, Option, Some, None}
use Rattle.std.specs.Prelude.{reverse, option_map}
use Rattle.std.proofs.lemmas.List.{append-nil}
use Rattle.std.proofs.lemmas.List.{reverse-reverse}
use Rattle.pm_rules.specs.declared.rules.Entail.{Entail}
use Rattle.pm_proof.specs.Known.{Tables}
use Rattle.pm_write.specs.Derived.{conclusions}
use Rattle.pm_goal.specs.declared.goal.Goal.{Goal}
use Rattle.pm_cutter.specs.declared.span.Span.{Span}
use Rattle.pm_cutter.specs.declared.span.Ended.{Ended}
use Rattle.pm_cutter.specs.declared.span.Ended.TheVariants as ended
use Rattle.pm_cutter.specs.Cutting.{Part, cut, rest_of}
use Rattle.pm_cutter.specs.Spans.{part_of, parts_of, end_from}
use Rattle.pm_terms.specs.declared.fault.TextFault.TheVariants.{Unexpected}
use Rattle.pm_run.specs.declared.stop.Stop.{Stop}
use Rattle.pm_run.specs.declared.stop.Stop.TheVariants as stop
use Rattle.pm_run.specs.declared.proof.Proof.{Proof}
use Rattle.pm_run.specs.declared.running.Running.{Running}
use Rattle.pm_run.specs.Runs.{OpenProof, State, start}
use Rattle.pm_run.specs.Keeping.{KeepsProofs, tables, Keeps}
use Rattle.pm_run.specs.Halting.{HaltsFrom, Halts, goals_of, EachWithin, halted, HaltsAs}
use Rattle.pm_run.specs.Looping.{AtSpan, AtSpans, end_parts, end_rest, IsCut, HaltsWith, HaltsAtEnd, HaltsKept}
use Rattle.pm_run.proofs.SoundGoals.{all_within}
use Rattle.pm_run.proofs.Halts.{halts_cut_off, halts_done}
use Rattle.pm_run.proofs.Looped.{cut_is}

-- ---- ends

pub end_clean : (r : Running) (n : ℕ) → HaltsAtEnd r n (end_from ended.Clean) r None
end_clean r n = λ s k. record { state = s; kept = k; halts = λ size. halts_done size n s }

pub end_rest_stops : (r : Running) (n at : ℕ) → HaltsAtEnd r n (end_from (ended.Rest at)) r (Some (stop.Unreadable (Unexpected at)))
end_rest_stops r n at = λ s k. record { state = s; kept = k; halts = λ size. halts_cut_off size at n s }

pub end_last : (r : Running) (n : ℕ) (span : Span) (new : Running) (by : Option Stop) → AtSpan r n span new by → HaltsAtEnd r n (end_from (ended.Last span)) new by
end_last r n span new None turn = λ s k.
    let b = turn s k in
    record { state = b.state; kept = b.kept; halts = λ size. b.halts size None [] b.state None (halts_done size (n + 1) b.state) }
end_last r n span new (Some at) turn = λ s k.
    let b = turn s k in
    record { state = b.state; kept = b.kept; halts = λ size. b.halts size None [] }

-- ---- scripts that are cut

cut_halts : (bytes : List ℕ) (spans : List Span) (end : Ended) → IsCut bytes spans end → (last : State) (by : Option Stop) → HaltsFrom (length bytes) (end_rest (end_from end)) 1 start (parts_of spans ++ end_parts (end_from end)) last by → Halts bytes last by
cut_halts bytes spans end is last by h =
    let whole = cut_is bytes spans end is in
    subst (λ (left : Option ℕ). HaltsFrom (length bytes) left 1 start (cut bytes) last by) (sym whole.1) (subst (λ (ps : List Part). HaltsFrom (length bytes) (end_rest (end_from end)) 1 start ps last by) (sym whole.0) h)

pub halts_stopped : (bytes : List ℕ) (spans : List Span) (end : Ended) (first new : Running) (m : ℕ) (at : Stop) → IsCut bytes spans end → Keeps first start → AtSpans first 1 spans new m (Some at) → HaltsKept bytes new (Some at)
halts_stopped bytes spans end first new m at is k went =
    let b = went start k in
    record { state = b.state; kept = b.kept; halts = cut_halts bytes spans end is b.state (Some at) (b.halts (length bytes) (end_rest (end_from end)) (end_parts (end_from end))) }

pub halts_ended : (bytes : List ℕ) (spans : List Span) (end : Ended) (first middle new : Running) (m : ℕ) (by : Option Stop) → IsCut bytes spans end → Keeps first start → AtSpans first 1 spans middle m None → HaltsAtEnd middle m (end_from end) new by → HaltsKept bytes new by
halts_ended bytes spans end first middle new m by is k went behind =
    let b = went start k in
    let e = behind b.state b.kept in
    record { state = e.state; kept = e.kept; halts = cut_halts bytes spans end is e.state by (b.halts (length bytes) (end_rest (end_from end)) (end_parts (end_from end)) e.state by (e.halts (length bytes))) }

-- ---- the goals that are left

pub turned : (goals first : List Goal) → reverse first ≡ goals ++ [] → first ≡ reverse goals
turned goals first e = sym (reverse-reverse first) ∙ ap reverse (e ∙ append-nil goals)

left_goals : (on : Tables) (known : List Entail) (p : Option Proof) (o : Option OpenProof) → KeepsProofs on known p o → option_map (λ (q : Proof). reverse q.goals) p ≡ goals_of o
left_goals on known None None k = refl
left_goals on known (Some p) (Some o) k = ap (λ (gs : List Goal). Some gs) k.goals_are
left_goals on known None (Some o) k = absurd k
left_goals on known (Some p) None k = absurd k

left_within : (s : State) (known : List Entail) (p : Option Proof) (o : Option OpenProof) → KeepsProofs (tables s) known p o → EachWithin (goals_of o)
left_within s known None None k = tt
left_within s known (Some p) (Some o) k = all_within s o.goals k.left
left_within s known None (Some o) k = absurd k
left_within s known (Some p) None k = absurd k

pub halts_as : (bytes : List ℕ) (r : Running) (by : Option Stop) → HaltsKept bytes r by → HaltsAs bytes (halted r by)
halts_as bytes r by h =
    let goals = left_goals (tables h.state) (conclusions r.proofs) r.proof h.state.proof h.kept.proof_is in
    record {
      last = h.state;
      halts = h.halts;
      preds_are = h.kept.preds_are;
      goals_are = goals;
      within = subst EachWithin (sym goals) (left_within h.state (conclusions r.proofs) r.proof h.state.proof h.kept.proof_is);
    }
