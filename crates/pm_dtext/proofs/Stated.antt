-- The laws, as the public functions state them.
use Rattle.std.proofs.Common.{◌≡◌, ◌-◌, refl, Some}
use Rattle.std.specs.Prelude.{slice_get}
use Rattle.pm_rules.specs.declared.rules.Rule.{Rule}
use Rattle.pm_rules.specs.declared.rules.Rule.TheVariants.{Refl}
use Rattle.pm_rules.specs.Rules.{rule_number}
use Rattle.pm_dtext.specs.Spelling.{rule_name}
use Rattle.pm_dtext.specs.Texts.{printed_names}
use Rattle.pm_dtext.specs.Laws.{LinesAreRead, HeadersAreRead, AritiesAreRead, PredsAreRead, RangesAreScopes, NamesAreNumbered}
use Rattle.pm_dtext.proofs.LineLaws.{line_again, line_found}
use Rattle.pm_dtext.proofs.HeadLaws.{header_again, header_found, arities_again, arities_found, pred_again, pred_found}
use Rattle.pm_dtext.proofs.Scopes.{is_scoped, has_integers, is_in_range}

pub lines : LinesAreRead
lines = record { found = λ table n b l r h. line_found table n b l r h; again = λ table n l r h k m. line_again table n l r h k m }

pub headers : HeadersAreRead
headers = record { found = λ b r h. header_found b r h; again = λ r. header_again r }

pub arities : AritiesAreRead
arities = record { found = λ b table r h. arities_found b table r h; again = λ table r h. arities_again table r h }

pub preds : PredsAreRead
preds = record { found = λ table ns n b q r h k. pred_found table ns n b q r h k; again = λ table ns q r h k. pred_again table ns q r h k }

pub scopes : RangesAreScopes
scopes = record { scoped = λ ps k f h. is_scoped ps k f h; integers = λ ps k f h. has_integers ps.list k f h; in_range = λ ps k f s i. is_in_range ps k f s i }

numbered : (r : Rule) → slice_get printed_names (rule_number r - 1) ≡ Some (rule_name r)
numbered Refl = refl
numbered r = refl

pub names : NamesAreNumbered
names = record { rule = λ r. numbered r; qed = refl }
