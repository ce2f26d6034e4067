-- The text of goals.
use Rattle.std.specs.Prelude.{ℕ, ◌≤◌, List, [], ◌∷◌, ◌++◌, codes, reverse, All, Option, Some, None}
use Rattle.std.specs.List.{flat_map}
use Rattle.pm_logic.specs.declared.formula.TheConstants.{BOUND}
use Rattle.pm_logic.specs.declared.formula.Pred.{Pred}
use Rattle.pm_logic.specs.declared.formula.Pure.{Pure}
use Rattle.pm_logic.specs.declared.formula.Formula.{Formula}
use Rattle.pm_logic.specs.Size.{depth_of}
use Rattle.pm_tokens.specs.declared.symbol.Symbol.TheVariants as s
use Rattle.pm_print.specs.Printing.{Names, sign, spelled, pure_text, formula_text}
use Rattle.pm_goal.specs.declared.goal.Fact.{Fact}
use Rattle.pm_goal.specs.declared.goal.Hyp.{Hyp}
use Rattle.pm_goal.specs.declared.goal.Goal.{Goal}

-- ---- lines

abbrev pub line_feed : List ℕ
line_feed = 10 ∷ []

-- the names of a goal's variables by their index, 0 the newest
abbrev pub index_names : Goal → Names
index_names goal = reverse goal.vars

abbrev pub variable_line : List ℕ → List ℕ
variable_line name = name ++ (codes " : Z" ++ line_feed)

-- a fact, without corners
abbrev pub fact_line : Names → List ℕ → Pure → List ℕ
fact_line names name pure = name ++ (codes " : " ++ (pure_text names pure ++ line_feed))

abbrev pub formula_line : List Pred → Names → Formula → List ℕ
formula_line preds names formula = formula_text preds names formula ++ line_feed

abbrev pub hyp_line : List Pred → Names → List ℕ → Formula → List ℕ
hyp_line preds names name formula = codes "\"" ++ (name ++ (codes "\" : " ++ formula_line preds names formula))

-- twenty hyphens
abbrev pub hyphens : List ℕ
hyphens = codes "--------------------"

unfoldable pub box_line : List ℕ
box_line = hyphens ++ (spelled (sign s.Persistently) ++ line_feed)

unfoldable pub star_line : List ℕ
star_line = hyphens ++ (spelled (sign s.Star) ++ line_feed)

-- ---- parts of a goal

abbrev pub lines_of : {A : Type 0} → (A → List ℕ) → List A → List ℕ
lines_of line xs = flat_map line xs

-- the line of what is there
abbrev pub line_at : {A : Type 0} → (A → List ℕ) → Option A → List ℕ
line_at line None = []
line_at line (Some x) = line x

abbrev pub fact_line_of : Names → Fact → List ℕ
fact_line_of names fact = fact_line names fact.name fact.pure

abbrev pub hyp_line_of : List Pred → Names → Hyp → List ℕ
hyp_line_of preds names hyp = hyp_line preds names hyp.name hyp.formula

-- the line behind the intuitionistic hypotheses, where there are any
abbrev pub parting : List Hyp → List ℕ
parting [] = []
parting (h ∷ hs) = box_line

abbrev pub shown_ints : List Pred → Goal → List ℕ
shown_ints preds goal = lines_of (hyp_line_of preds (index_names goal)) goal.ints ++ parting goal.ints

abbrev pub shown_spats : List Pred → Goal → List ℕ
shown_spats preds goal = lines_of (hyp_line_of preds (index_names goal)) goal.spats ++ star_line

-- the variables, the oldest first, the facts, the intuitionistic and the spatial hypotheses, and the conclusion
abbrev pub shown_goal : List Pred → Goal → List ℕ
shown_goal preds goal =
    lines_of variable_line goal.vars
    ++ (lines_of (fact_line_of (index_names goal)) goal.pures
    ++ (shown_ints preds goal
    ++ (shown_spats preds goal
    ++ formula_line preds (index_names goal) goal.concl)))

-- ---- what can be printed

abbrev pub IsShallowHyp : Hyp → Type 0
IsShallowHyp hyp = depth_of hyp.formula ≤ BOUND

pub record IsShallow (goal : Goal) : Type 0 where
  pub ints : All IsShallowHyp goal.ints
  pub spats : All IsShallowHyp goal.spats
  pub concl : depth_of goal.concl ≤ BOUND
