use Rattle.std.proofs.Common.{ℕ, ◌+◌, [], ◌∷◌, sym, ap, subst, ◌∙◌}
use Rattle.pm_logic.specs.declared.formula.Formula.TheViews as view
use Rattle.pm_proof.specs.Trees.{entail}
use Rattle.pm_schemes.specs.Sketches.{deepest}
use Rattle.pm_intro.specs.Closing.{ClosesBoth}
use Rattle.pm_intro.proofs.Handed.{rest_small}
use Rattle.pm_intro.proofs.Alternatives.{split_more, reached_says, split_known}
use Rattle.pm_intro.proofs.cases.split.Goals as goal

pub reach-requires-clause-small : goal.reach-requires-clause-small
reach-requires-clause-small c = rest_small c.args.work.now c.in_ok-rest.rest c.requires.some c.in_ok-rest.ensures c.requires.handed

pub reach-requires-clause-more : goal.reach-requires-clause-more
reach-requires-clause-more c = split_more c.args.work.now c.in_ok-rest.rest c.args.left.now c.args.kind c.args.a.now c.in_ok-a.a c.in_ok-rest.ensures c.requires.left c.in_ok-a.ensures

pub reach-requires-2-clause-small : goal.reach-requires-2-clause-small
reach-requires-2-clause-small c = rest_small c.args.work.now c.in_ok-rest.rest c.requires.some c.in_ok-rest.ensures c.requires.handed

pub reach-requires-2-clause-more : goal.reach-requires-2-clause-more
reach-requires-2-clause-more c = split_more c.args.work.now c.in_ok-rest.rest c.args.right.now c.args.kind c.args.b.now c.in_ok-b.b c.in_ok-rest.ensures c.requires.right c.in_ok-b.ensures

pub by_cases-requires-clause-first : goal.by_cases-requires-clause-first
by_cases-requires-clause-first c = reached_says c.args.work.now c.in_ok-rest.rest c.args.left.now c.args.kind c.args.a.now c.in_ok-a.a c.in_ok-star.star c.in_ok-first.first c.requires.left c.in_ok-star.ensures c.in_ok-first.ensures ∙ ap (λ (k : ℕ). entail k (view.Sep c.in_ok-a.a c.in_ok-star.star) c.args.work.now.goal.concl) (sym c.len-vars.ensures)

pub by_cases-requires-clause-second : goal.by_cases-requires-clause-second
by_cases-requires-clause-second c = reached_says c.args.work.now c.in_ok-rest.rest c.args.right.now c.args.kind c.args.b.now c.in_ok-b.b c.in_ok-star.star c.in_ok-second.second c.requires.right c.in_ok-star.ensures c.in_ok-second.ensures ∙ ap (λ (k : ℕ). entail k (view.Sep c.in_ok-b.b c.in_ok-star.star) c.args.work.now.goal.concl) (sym c.len-vars.ensures)

pub returns : goal.returns
returns c = split_known c.args.work.now c.requires.some c.args.kind c.args.a.now c.args.b.now c.in_ok-a.a c.in_ok-b.b c.in_ok-rest.rest c.args.left.now c.args.right.now c.in_ok-star.star c.in_ok-first.first c.in_ok-second.second c.in_ok-proof.proof c.in_ok-rest.ensures c.in_ok-a.ensures c.in_ok-b.ensures c.requires.left c.requires.right c.in_ok-star.ensures c.in_ok-first.ensures c.in_ok-second.ensures (subst (λ (k : ℕ). ClosesBoth c.in_ok-first.first c.in_ok-second.second (entail k (view.Sep (view.Or c.in_ok-a.a c.in_ok-b.b) c.in_ok-star.star) c.args.work.now.goal.concl) 4 (deepest (c.in_ok-a.a ∷ c.in_ok-b.b ∷ c.in_ok-star.star ∷ c.args.work.now.goal.concl ∷ []) [] + 2) k c.in_ok-proof.proof) c.len-vars.ensures c.in_ok-proof.ensures)
