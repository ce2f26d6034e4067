-- What `goals` answers to an input: there is one status and one text.
use Rattle.std.proofs.Common.{◌≡◌, ℕ, zero, suc, ◌+◌, ◌<◌, ◌≤◌, max, List, [], ◌∷◌, ◌++◌, length, take, get_or, refl, sym, ◌∙◌, ap, ap₂, subst, append_assoc, arith, Option, Some, None}
use Rattle.std.specs.Prelude.{All}
use Rattle.std.proofs.lemmas.List.{append-nil}
use Rattle.std.proofs.lemmas.List.Elements.{All-nil}
use Rattle.pm_logic.specs.declared.formula.TheConstants.{BOUND}
use Rattle.pm_logic.specs.declared.formula.Formula.{Formula}
use Rattle.pm_logic.specs.declared.formula.Pred.{Pred}
use Rattle.pm_logic.specs.Size.{depth_of}
use Rattle.pm_goal.specs.declared.goal.Hyp.{Hyp}
use Rattle.pm_goal.specs.declared.goal.Goal.{Goal}
use Rattle.pm_goal.specs.Left.{facts, hyps}
use Rattle.pm_display.specs.Goals.{IsShallowHyp, IsShallow}
use Rattle.pm_run.specs.declared.halted.Halted.{Halted}
use Rattle.pm_run.specs.declared.stop.Stop.{Stop}
use Rattle.pm_run.specs.Runs.{State}
use Rattle.pm_table.specs.Limits.{greatest_depth}
use Rattle.pm_run.specs.Within.{IsWithin}
use Rattle.pm_run.specs.Keeping.{AreWithin}
use Rattle.pm_run.specs.Halting.{goals_of, EachWithin, HaltsAs}
use Rattle.pm_run.proofs.OneHalt.{halts_are_one}
use Rattle.pm_top.specs.declared.status.Status.{Status}
use Rattle.pm_top.specs.Shown.{numbered_goal, numbered_goals, proof_text, stop_line, stop_status, halt_text, Shows, EachShallow}
use Rattle.pm_top.proofs.Shallow.{all_cons}

pub one_shown : (bytes : List ℕ) (s r : Status) (text line : List ℕ) → Shows bytes s text → Shows bytes r line → (s ≡ r) × (text ≡ line)
one_shown bytes s r text line h k =
    let same = halts_are_one bytes h.last k.last h.by k.by h.halts k.halts in
    (h.status_is ∙ ap stop_status same.1 ∙ sym k.status_is, h.text_is ∙ ap₂ halt_text same.0 same.1 ∙ sym k.text_is)

-- ---- goals one after the other

next_goal : (preds : List Pred) (k : ℕ) (gs : List Goal) (i : ℕ) (g : Goal) → i < length gs → g ≡ get_or gs i g → numbered_goals preds k (take (suc i) gs) ≡ numbered_goals preds k (take i gs) ++ numbered_goal preds (i + k) g
unfolding numbered_goals
next_goal preds k [] i g lt is = absurd (omega (arith, lt))
next_goal preds k (x ∷ gs) zero g lt is =
    let at : k ≡ 0 + k = omega arith in
    append-nil (numbered_goal preds k x) ∙ ap₂ (numbered_goal preds) at (sym is)
next_goal preds k (x ∷ gs) (suc i) g lt is =
    let at : i + (k + 1) ≡ suc i + k = omega arith in
    ap (λ (ls : List ℕ). numbered_goal preds k x ++ ls) (next_goal preds (k + 1) gs i g (omega (arith, lt)) is)
    ∙ sym (append_assoc (numbered_goal preds k x) (numbered_goals preds (k + 1) (take i gs)) (numbered_goal preds (i + (k + 1)) g))
    ∙ ap (λ (n : ℕ). (numbered_goal preds k x ++ numbered_goals preds (k + 1) (take i gs)) ++ numbered_goal preds n g) at

pub none_added : (preds : List Pred) (t : List ℕ) → t ≡ t ++ numbered_goals preds 1 []
unfolding numbered_goals
none_added preds t = sym (append-nil t)

-- one goal more behind the first ones
pub goal_added : (preds : List Pred) (gs : List Goal) (i : ℕ) (g : Goal) (t₀ t₁ t₂ : List ℕ) → i < length gs → g ≡ get_or gs i g → t₁ ≡ t₀ ++ numbered_goals preds 1 (take i gs) → t₂ ≡ t₁ ++ numbered_goal preds (i + 1) g → t₂ ≡ t₀ ++ numbered_goals preds 1 (take (i + 1) gs)
goal_added preds gs i g t₀ t₁ t₂ lt is h₁ h₂ =
    let at : suc i ≡ i + 1 = omega arith in
    h₂ ∙ ap (λ (t : List ℕ). t ++ numbered_goal preds (i + 1) g) h₁
    ∙ append_assoc t₀ (numbered_goals preds 1 (take i gs)) (numbered_goal preds (i + 1) g)
    ∙ ap (λ (ls : List ℕ). t₀ ++ ls) (sym (next_goal preds 1 gs i g lt is))
    ∙ ap (λ (n : ℕ). t₀ ++ numbered_goals preds 1 (take n gs)) at

-- ---- goals within the limits can be printed

part_of_more : (fs gs : List Formula) (n : ℕ) → greatest_depth (fs ++ gs) ≤ n → (greatest_depth fs ≤ n) × (greatest_depth gs ≤ n)
part_of_more [] gs n le = (omega arith, le)
part_of_more (f ∷ fs) gs n le = let rest = part_of_more fs gs n (omega (arith, le)) in let first = rest.0 in (omega (arith, le, first), rest.1)

hyps_shallow : (hs : List Hyp) → greatest_depth (hyps hs) ≤ 200 → All IsShallowHyp hs
hyps_shallow [] le = All-nil IsShallowHyp
hyps_shallow (h ∷ hs) le = all_cons IsShallowHyp h hs (omega (arith, le)) (hyps_shallow hs (omega (arith, le)))

within_shallow : (g : Goal) → IsWithin g → IsShallow g
within_shallow g w =
    let ints = part_of_more (facts g.pures) (hyps g.ints ++ (hyps g.spats ++ (g.concl ∷ []))) 200 w.shallow in
    let spats = part_of_more (hyps g.ints) (hyps g.spats ++ (g.concl ∷ [])) 200 ints.1 in
    let concl = part_of_more (hyps g.spats) (g.concl ∷ []) 200 spats.1 in
    let least = concl.1 in
    record { ints = hyps_shallow g.ints spats.0; spats = hyps_shallow g.spats concl.0; concl = omega (arith, least) }

are_shallow : (gs : List Goal) → AreWithin gs → All IsShallow gs
are_shallow [] all = All-nil IsShallow
are_shallow (g ∷ gs) all = all_cons IsShallow g gs (within_shallow g all.0) (are_shallow gs all.1)

each_shallow : (o : Option (List Goal)) → EachWithin o → EachShallow o
each_shallow None h = tt
each_shallow (Some gs) h = are_shallow gs h

-- ---- from what the run gives

pub halted_shallow : (bytes : List ℕ) (h : Halted) → HaltsAs bytes h → EachShallow h.goals
halted_shallow bytes h known = each_shallow h.goals known.within

pub halted_shows : (bytes : List ℕ) (h : Halted) (s : Status) (first line text : List ℕ) → HaltsAs bytes h → first ≡ proof_text h.preds.list h.goals → s ≡ stop_status h.stop → line ≡ stop_line h.stop → text ≡ first ++ line → Shows bytes s text
halted_shows bytes h s first line text known e status_is f g = record {
  last = known.last;
  by = h.stop;
  halts = known.halts;
  status_is = status_is;
  text_is = g ∙ ap₂ (λ (a b : List ℕ). a ++ b) (e ∙ ap₂ proof_text known.preds_are known.goals_are) f;
}
