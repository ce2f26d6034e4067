-- The two goals of a conclusion that is split.
use Rattle.std.specs.Prelude.{◌≡◌, ℕ, ◌+◌, ◌≤◌, [], ◌∷◌, length, Option}
use Rattle.pm_logic.specs.declared.formula.Formula.{Formula}
use Rattle.pm_logic.specs.declared.formula.Formula.TheViews as view
use Rattle.pm_rules.specs.declared.rules.Entail.{Entail}
use Rattle.pm_goal.specs.declared.work.Work.{Work}
use Rattle.pm_proof.specs.Trees.{Tree, entail}
use Rattle.pm_proof.specs.Known.{Proves, Every}
use Rattle.pm_classes.specs.declared.entry.Pair.{Pair}
use Rattle.pm_classes.specs.Classes.{Parts}
use Rattle.pm_classes.specs.Entries.{PairAnswers, HasProof}
use Rattle.pm_table.specs.declared.place.Place.TheVariants.{Current as current}
use Rattle.pm_table.specs.Limits.{resting}
use Rattle.pm_table.specs.Basic.{for, split_parts}
use Rattle.pm_action.specs.Meanings.{meaning, meanings, room}

-- both parts entail the conclusion
abbrev pub both_say : ℕ → Formula → Parts → Entail
both_say k c p = entail k (view.And p.first p.second) c

-- the entry's proof is one of the conclusion from both parts
abbrev pub AreHalves : ℕ → Formula → Pair → Type 0
AreHalves k c e = HasProof k c (entail k (view.And e.first e.second) c) e.proof

-- the entry of the table, or none where there is none
abbrev pub SplitAnswer : ℕ → Formula → Option Pair → Type 0
SplitAnswer k c r = PairAnswers (both_say k c) k c (split_parts c) r

-- what each part by the work's star means is what the work means, by a proof of its conclusion from both
abbrev pub Joined : Work → (a b : Formula) → Tree → Tree → Type 0
Joined w a b closing t =
    let k = length w.goal.vars in
    (n d q : ℕ) → room w (current [] (resting (for a w.goal)) ∷ current [] (resting (for b w.goal)) ∷ []) ≤ d → k ≤ q
    → w.held ≡ [] → Proves Every (entail k (view.And a b) w.goal.concl) [] n d q closing
    → Proves Every (meaning w) (meanings (current [] (resting (for a w.goal)) ∷ current [] (resting (for b w.goal)) ∷ [])) (n + 2) d q t
