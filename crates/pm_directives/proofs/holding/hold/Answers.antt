use Rattle.std.proofs.Common.{sym, subst}
use Rattle.pm_logic.specs.Size.{term_nodes}
use Rattle.pm_table.specs.Running.{act_with, in_order}
use Rattle.pm_table.specs.Terms.{with_term}
use Rattle.pm_sweep.specs.Standing.{Follows}
use Rattle.pm_directives.specs.Steps.{TermsFitAll}
use Rattle.pm_directives.proofs.Held.{no_lemmas, head_built, head_stands, held_term}
use Rattle.pm_directives.proofs.Variables.{terms_fit_behind}
use Rattle.pm_directives.proofs.holding.hold.Goals as goal

pub hold_head-requires-clause-built : goal.hold_head-requires-clause-built
hold_head-requires-clause-built c = head_built c.args.term.now c.requires.built

pub with_terms-requires-clause-standing : goal.with_terms-requires-clause-standing
with_terms-requires-clause-standing c = head_stands c.args.taken c.args.term.now.head c.args.standing c.in_ok-held.held c.requires.standing c.in_ok-held.ensures

pub with_terms-requires-clause-terms : goal.with_terms-requires-clause-terms
with_terms-requires-clause-terms c = subst (λ ts. TermsFitAll ts c.in_ok-held.held.goals) (sym c.as_slice.ensures) (terms_fit_behind no_lemmas c.args.taken c.args.term.now.head c.args.term.now.terms c.args.standing c.in_ok-held.held (head_built c.args.term.now c.requires.built) c.requires.terms (c.in_ok-held.ensures no_lemmas))

pub returns : goal.returns
returns c = held_term c.args.taken c.args.term.now c.args.standing c.in_ok-held.held c.with_terms.result c.requires.built c.in_ok-held.ensures
    (subst (λ ts. Follows c.in_ok-held.held (in_order (λ t. act_with (term_nodes t) (with_term t)) ts c.in_ok-held.held.goals) c.with_terms.result) c.as_slice.ensures c.with_terms.ensures)
