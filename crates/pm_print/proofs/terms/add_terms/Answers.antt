use Rattle.std.proofs.Common.{sym}
use Rattle.std.proofs.lemmas.List.{append-nil}
use Rattle.pm_print.specs.Parts.{bound_by}
use Rattle.pm_print.proofs.Joined.{text_none, two}
use Rattle.pm_print.proofs.TermCases.{terms_empty, terms_first}
use Rattle.pm_print.proofs.terms.add_terms.Goals as goal

pub returns-in_ok-add_term-in-len1-up : goal.returns-in_ok-add_term-in-len1-up
returns-in_ok-add_term-in-len1-up c =
    two _ _ _ _ _ _ _ (c.in_ok-add_term-in-len1-up.ensures) c.add_more.ensures (terms_first (bound_by c.args.binders c.args.vars.now) c.args.ts.now c.first-item.result c.in-len1-up.len_at_least c.first-item.is)

pub returns-in-empty : goal.returns-in-empty
returns-in-empty c = rw (terms_empty (bound_by c.args.binders c.args.vars.now) c.args.ts.now c.in-empty.len_below, text_none) (sym (append-nil c.args.text.now))
