-- Actions that leave the variables, so that terms fit the works behind them.
use Rattle.std.proofs.Common.{◌≡◌, ℕ, Bool, true, false, ◌-◌, ◌≤◌, List, [], ◌∷◌, length, take as take_of, drop, get_or, sym, subst, arith}
use Rattle.std.specs.Prelude.{Ok}
use Rattle.std.specs.List.{AllByRecursion}
use Rattle.std.proofs.lemmas.List.{take_all}
use Rattle.pm_logic.specs.declared.formula.Term.{Term}
use Rattle.pm_logic.specs.Size.{term_nodes}
use Rattle.pm_logic.specs.Substitution.{opened_of}
use Rattle.pm_classes.specs.Classes.{into_forall}
use Rattle.pm_goal.specs.declared.work.Work.{Work}
use Rattle.pm_goal.specs.declared.refusal.Row.TheVariants.{ConclusionNotExistential, NoSuchHypothesis, NotUniversal}
use Rattle.pm_proof.specs.Valid.{TermFits}
use Rattle.pm_proof.specs.declared.proof.Parts.{Parts}
use Rattle.pm_table.specs.declared.place.Place.{Place}
use Rattle.pm_table.specs.Limits.{work_at}
use Rattle.pm_goal.specs.declared.work.Lemmas.{Lemmas}
use Rattle.pm_patterns.specs.declared.pattern.Head.{Head}
use Rattle.pm_patterns.specs.declared.pattern.Head.TheVariants as head
use Rattle.pm_table.specs.Outcomes.{Action, one}
use Rattle.pm_table.specs.Works.{Named, at_rest}
use Rattle.pm_table.specs.Terms.{held_as, take, lend, with_term}
use Rattle.pm_table.specs.Directives.{head_run}
use Rattle.pm_table.specs.Running.{Run, ran, stopped, act_with}
use Rattle.pm_table.specs.Basic.{on_goal, exists, body_of_ex, gives_goal, for}
use Rattle.pm_table.specs.Stepping.{Each}
use Rattle.pm_table.proofs.Keeping.{Everywhere, InRun, Good, rest_good, act_with_in}
use Rattle.pm_table.proofs.Outcomes.{good, require_some_in, require_entry_in, with_last_in}
use Rattle.pm_sweep.specs.Standing.{Follows}
use Rattle.pm_directives.specs.Built.{is_hypothesis}
use Rattle.pm_directives.specs.Steps.{AllVariables, TermsFitAll}

-- the work has so many variables
abbrev Has : ℕ → Work → Type 0
Has k w = length w.goal.vars ≡ k

pub exists_keeps : (k : ℕ) (t : Term) → Good (Has k) (on_goal (exists t))
exists_keeps k t =
    rest_good (Has k) (λ w. exists t w.goal)
    (good (Has k) (λ w. exists t w.goal) (λ w h. require_entry_in (Has k) (body_of_ex w.goal.concl) ConclusionNotExistential (λ b. gives_goal (for (opened_of b t) w.goal)) (λ b e. (h, tt))))
    (good (Has k) one (λ w h. (h, tt)))

led_in : (P : Work → Type 0) (r : Run) (old next : Parts Place) → InRun P r → Follows old r (Ok next) → Everywhere P next.goals
led_in P (ran n ps) old next h f = subst (λ qs. Everywhere P qs) (sym f.0) h
led_in P (stopped x) old next h f = absurd f

rest_of : (k : ℕ) (ts : List Term) → 1 ≤ length ts → AllByRecursion (TermFits k) ts → AllByRecursion (TermFits k) (take_of (length ts - 1) (drop 1 ts))
rest_of k [] lt h = absurd (omega (arith, lt))
rest_of k (s ∷ ts) lt h = subst (λ xs. AllByRecursion (TermFits k) xs) (sym (take_all (length (s ∷ ts) - 1) ts (omega arith))) h.1

pub with_term_keeps : (k : ℕ) (t : Term) → Good (Has k) (with_term t)
with_term_keeps k t = good (Has k) (with_term t) (λ w h. with_last_in (Has k) w _ h (λ hand e. require_entry_in (Has k) (into_forall hand.last.formula) NotUniversal _ (λ b f. (h, tt))))

stays : (k : ℕ) → Good (Has k) one
stays k = good (Has k) one (λ w h. (h, tt))

take_keeps : (k : ℕ) (x : Named) → Good (Has k) (at_rest (take x))
take_keeps k x = rest_good (Has k) (take x) (good (Has k) (take x) (λ w h. require_some_in (Has k) (held_as x w.goal) NoSuchHypothesis x _ (λ held e. (h, tt)))) (stays k)

lend_keeps : (k : ℕ) (x : Named) → Good (Has k) (at_rest (lend x))
lend_keeps k x = rest_good (Has k) (lend x) (good (Has k) (lend x) (λ w h. require_some_in (Has k) (held_as x w.goal) NoSuchHypothesis x _ (λ held e. (h, tt)))) (stays k)

-- a term after another
pub rest_fit : (action : Term → Action) → ((k : ℕ) (t : Term) → Good (Has k) (action t)) → (ts : List Term) (t : Term) (old next : Parts Place) → 1 ≤ length ts → TermsFitAll ts old.goals → Follows old (act_with (term_nodes t) (action t) old.goals) (Ok next) → TermsFitAll (take_of (length ts - 1) (drop 1 ts)) next.goals
rest_fit action keeps ts t old next lt h f = record {
  vars = h.vars;
  same = led_in (Has h.vars) (act_with (term_nodes t) (action t) old.goals) old next (act_with_in (Has h.vars) (term_nodes t) (action t) (keeps h.vars t) old.goals h.same) f;
  fit = rest_of h.vars ts lt h.fit;
}

-- and behind the head
held_fit : (action : Action) → ((k : ℕ) → Good (Has k) action) → (ts : List Term) (old next : Parts Place) → TermsFitAll ts old.goals → Follows old (act_with 0 action old.goals) (Ok next) → TermsFitAll ts next.goals
held_fit action keeps ts old next h f = record {
  vars = h.vars;
  same = led_in (Has h.vars) (act_with 0 action old.goals) old next (act_with_in (Has h.vars) 0 action (keeps h.vars) old.goals h.same) f;
  fit = h.fit;
}

pub terms_fit_behind : (lemmas : Lemmas) (taken : Bool) (x : Head) (ts : List Term) (old next : Parts Place) → is_hypothesis x ≡ true → TermsFitAll ts old.goals → Follows old (head_run lemmas taken x old.goals) (Ok next) → TermsFitAll ts next.goals
terms_fit_behind lemmas true (head.Hyp n) ts old next built h f = held_fit (at_rest (take n)) (λ k. take_keeps k n) ts old next h f
terms_fit_behind lemmas false (head.Hyp n) ts old next built h f = held_fit (at_rest (lend n)) (λ k. lend_keeps k n) ts old next h f
terms_fit_behind lemmas taken (head.Lemma n) ts old next built h f = absurd cc
