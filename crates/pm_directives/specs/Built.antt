-- Which directives and patterns are built.
use Rattle.std.specs.Prelude.{Bool, true, false, ◌&&◌, List, IsTrue}
use Rattle.std.specs.List.{list_all}
use Rattle.pm_patterns.specs.declared.pattern.Head.{Head}
use Rattle.pm_patterns.specs.declared.pattern.Head.TheVariants as head
use Rattle.pm_patterns.specs.declared.pattern.ProofTerm.{ProofTerm}
use Rattle.pm_patterns.specs.declared.pattern.Pat.{Pat}
use Rattle.pm_patterns.specs.declared.pattern.Pat.TheVariants as pat
use Rattle.pm_patterns.specs.Patterns.{Pair, Either, Int, Spat}
use Rattle.pm_table.specs.Introductions.{is_empty}
use Rattle.pm_script.specs.declared.directive.Directive.{Directive}
use Rattle.pm_script.specs.declared.directive.Directive.TheVariants as d

-- of what is in hand
unfoldable pub is_built_pattern : Pat → Bool
is_built_pattern (pat.Name h) = true
is_built_pattern pat.Fresh = true
is_built_pattern pat.Drop = true
is_built_pattern pat.Frame = true
is_built_pattern (Pair p q) = is_built_pattern p && is_built_pattern q
is_built_pattern (Either p q) = is_built_pattern p && is_built_pattern q
is_built_pattern pat.Absurd = true
is_built_pattern (pat.PureName h) = true
is_built_pattern pat.PureFresh = true
is_built_pattern (Int p) = is_built_pattern p
is_built_pattern (Spat p) = is_built_pattern p
is_built_pattern _ = false

-- at the top of `iIntros`
abbrev pub is_built_intro : Pat → Bool
is_built_intro pat.Done = true
is_built_intro pat.Alls = true
is_built_intro pat.AllsWands = true
is_built_intro (pat.Clear sels) = true
is_built_intro p = is_built_pattern p

abbrev pub is_hypothesis : Head → Bool
is_hypothesis (head.Hyp h) = true
is_hypothesis (head.Lemma n) = false

-- proof terms whose head is a hypothesis, without premises
abbrev pub is_built_term : ProofTerm → Bool
is_built_term t = is_hypothesis t.head && is_empty t.spats

abbrev pub is_built : Directive → Bool
is_built (d.Intros pats) = list_all is_built_intro pats
is_built (d.Destruct t p) = is_built_term t && is_built_pattern p
is_built (d.PoseProof t p) = is_built_term t && is_built_pattern p
is_built (d.Specialize t) = is_built_term t
is_built d.Split = true
is_built (d.SplitL list) = true
is_built (d.SplitR list) = true
is_built d.Left = true
is_built d.Right = true
is_built (d.Exists ts) = true
is_built (d.Exact h) = true
is_built d.Assumption = true
is_built d.ExFalso = true
is_built d.Done = true
is_built (d.Clear sels) = true
is_built (d.Rename h k) = true
is_built (d.Revert xs sels) = true
is_built (d.Frame sels) = true
is_built _ = false

abbrev pub IsBuiltPattern : Pat → Type 0
IsBuiltPattern p = IsTrue (is_built_pattern p)

abbrev pub IsBuilt : Directive → Type 0
IsBuilt directive = IsTrue (is_built directive)

abbrev pub AreBuiltIntros : List Pat → Type 0
AreBuiltIntros pats = IsTrue (list_all is_built_intro pats)
