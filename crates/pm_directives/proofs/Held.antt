-- What stands where a proof term is in hand.
use Rattle.std.proofs.Common.{◌≡◌, Bool, true, false, ◌&&◌, List, [], ◌∷◌, refl, sym, subst}
use Rattle.std.specs.Prelude.{Result, Ok}
use Rattle.pm_logic.specs.Size.{term_nodes}
use Rattle.pm_goal.specs.declared.refusal.StepFault.{StepFault}
use Rattle.pm_patterns.specs.declared.pattern.Spat.{Spat}
use Rattle.pm_table.specs.Introductions.{is_empty}
use Rattle.pm_table.specs.Terms.{with_term, with_spat}
use Rattle.pm_table.specs.Running.{after, act, act_with, in_order}
use Rattle.pm_goal.specs.declared.work.Lemmas.{Lemmas}
use Rattle.pm_patterns.specs.declared.pattern.Head.{Head}
use Rattle.pm_patterns.specs.declared.pattern.ProofTerm.{ProofTerm}
use Rattle.pm_proof.specs.declared.proof.Parts.{Parts}
use Rattle.pm_table.specs.declared.place.Place.{Place}
use Rattle.pm_table.specs.Directives.{head_run, term_run}
use Rattle.pm_sweep.specs.Standing.{IsStanding, Follows}
use Rattle.pm_sweep.proofs.Following.{stands_after}
use Rattle.pm_directives.specs.Built.{is_hypothesis, is_built_term}
use Rattle.pm_directives.specs.Steps.{HoldsHead, HoldsTerm}
use Rattle.pm_directives.proofs.Chained.{then_one, nothing_after}

pub no_lemmas : Lemmas
no_lemmas = record { list = [] }

pub head_stands : (taken : Bool) (h : Head) (old mid : Parts Place) → IsStanding old → HoldsHead taken h old (Ok mid) → IsStanding mid
head_stands taken h old mid s f = stands_after old mid (head_run no_lemmas taken h old.goals) s (f no_lemmas)

pub stands_held : (taken : Bool) (t : ProofTerm) (old mid : Parts Place) → IsStanding old → HoldsTerm taken t old (Ok mid) → IsStanding mid
stands_held taken t old mid s f = stands_after old mid (term_run no_lemmas taken t old.goals) s (f no_lemmas)

-- ---- what is built

both_true : (a b : Bool) → (a && b) ≡ true → (a ≡ true) × (b ≡ true)
both_true true b e = (refl, e)
both_true false b e = absurd cc

none_there : {A : Type 0} (xs : List A) → is_empty xs ≡ true → xs ≡ []
none_there [] e = refl
none_there (x ∷ xs) e = absurd cc

pub head_built : (t : ProofTerm) → is_built_term t ≡ true → is_hypothesis t.head ≡ true
head_built t e = (both_true (is_hypothesis t.head) (is_empty t.spats) e).0

-- the head, then the terms; there are no premises
pub held_term : (taken : Bool) (t : ProofTerm) (old mid : Parts Place) (result : Result (Parts Place) StepFault) → is_built_term t ≡ true → HoldsHead taken t.head old (Ok mid)
    → Follows mid (in_order (λ x. act_with (term_nodes x) (with_term x)) t.terms mid.goals) result → HoldsTerm taken t old result
held_term taken t old mid result built first then = λ lemmas.
    let none : t.spats ≡ [] = none_there t.spats (both_true (is_hypothesis t.head) (is_empty t.spats) built).1 in
    let terms = in_order (λ x. act_with (term_nodes x) (with_term x)) t.terms in
    let rest : Follows mid (after (terms mid.goals) (in_order (λ s. act (with_spat s)) t.spats)) result = subst (λ (ss : List Spat). Follows mid (after (terms mid.goals) (in_order (λ s. act (with_spat s)) ss)) result) (sym none) (subst (λ r. Follows mid r result) (nothing_after (terms mid.goals)) then) in
    then_one old (term_run lemmas taken t old.goals) (head_run lemmas taken t.head old.goals) mid (λ qs. after (terms qs) (in_order (λ s. act (with_spat s)) t.spats)) result refl (first lemmas) rest
