-- A proof line in the parts that the code reads one after another.
use Rattle.std.specs.Prelude.{ℕ, nat_le, List, Option, Result, Ok}
use Rattle.std.specs.Fmt.{decimal}
use Rattle.pm_logic.specs.declared.limits.TheConstants.{MAX_LINE_VARIABLES}
use Rattle.pm_rules.specs.declared.rules.Rule.{Rule}
use Rattle.pm_rules.specs.declared.rules.Entail.{Entail}
use Rattle.pm_dtext.specs.declared.fault.Fault.{Fault}
use Rattle.pm_dtext.specs.declared.signs.RuleSign.{RuleSign}
use Rattle.pm_dtext.specs.declared.line.Line.{Line}
use Rattle.pm_dtext.specs.declared.line.Line.TheVariants.{Step}
use Rattle.pm_dtext.specs.Reading.{◌>>=◌, expect_at, part_at, says_at, rule_sign_of, up_to, cite_at, count_of, args_at, entail_at, ends_at}

-- the number, what the rule's name says, and how many variables there are
unfoldable pub front_at : ℕ → List ℕ → Result (RuleSign × ℕ × List ℕ) Fault
front_at n bytes = do
  a ← expect_at (decimal n) bytes
  sign ← part_at (says_at rule_sign_of) a
  k ← part_at (says_at (up_to MAX_LINE_VARIABLES)) sign.1
  Ok (sign.0, k.0, k.1)

-- the citations of a rule that takes so many premises
unfoldable pub cites_at : ℕ → ℕ → List ℕ → Result (Option ℕ × Option ℕ × List ℕ) Fault
cites_at n count bytes = do
  first ← cite_at n (nat_le 1 count) bytes
  second ← cite_at n (nat_le 2 count) first.1
  Ok (first.0, second.0, second.1)

-- the rule with its arguments, and what it derives
unfoldable pub derived_at : List ℕ → ℕ → RuleSign → List ℕ → Result (Rule × Entail × List ℕ) Fault
derived_at arities k sign bytes = do
  rule ← args_at arities k sign bytes
  e ← entail_at arities k rule.1
  Ok (rule.0, e.0, e.1)

unfoldable pub step_in_parts : List ℕ → ℕ → List ℕ → Result (Line × List ℕ) Fault
step_in_parts arities n bytes = do
  front ← front_at n bytes
  cites ← cites_at n (count_of front.0) front.2
  derived ← derived_at arities front.1 front.0 cites.2
  ends_at (Step derived.0 cites.0 cites.1 derived.1, derived.2)
