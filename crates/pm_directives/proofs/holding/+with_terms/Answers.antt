use Rattle.std.proofs.Common.{rules}
use Rattle.pm_logic.specs.Size.{term_nodes}
use Rattle.pm_table.specs.Running.{act_with}
use Rattle.pm_table.specs.Terms.{with_term}
use Rattle.pm_directives.proofs.Variables.{with_term_keeps, rest_fit}
use Rattle.pm_sweep.proofs.Following.{stands_after}
use Rattle.pm_directives.proofs.Chained.{ends, goes_on}
use Rattle.pm_directives.proofs.holding.+with_terms.Goals as goal

pub returns-in_err-next-in-len1-up : goal.returns-in_err-next-in-len1-up
returns-in_err-next-in-len1-up t c = ends (λ x. act_with (term_nodes x) (with_term x)) c.args.standing c.args.terms.now c.term-item.result c.from_residual.result c.in_err-next-in-len1-up.field-0.0 c.in-len1-up.len_at_least c.term-item.is (search rules) c.in_err-next-in-len1-up.ensures

pub with_terms-requires : goal.with_terms-requires
with_terms-requires t c = (search rules, (stands_after c.args.standing c.in_ok-next-in-len1-up.next (act_with (term_nodes c.term-item.result) (with_term c.term-item.result) c.args.standing.goals) c.requires.standing c.in_ok-next-in-len1-up.ensures, rest_fit with_term with_term_keeps c.args.terms.now c.term-item.result c.args.standing c.in_ok-next-in-len1-up.next c.in-len1-up.len_at_least c.requires.terms c.in_ok-next-in-len1-up.ensures))

pub returns-in_ok-next-in-len1-up : goal.returns-in_ok-next-in-len1-up
returns-in_ok-next-in-len1-up t c = goes_on (λ x. act_with (term_nodes x) (with_term x)) c.args.standing c.in_ok-next-in-len1-up.next c.args.terms.now c.term-item.result c.with_terms.result c.in-len1-up.len_at_least c.term-item.is c.in_ok-next-in-len1-up.ensures c.with_terms.ensures
