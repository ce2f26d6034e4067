use Rattle.pm_star.specs.Chains.{Follows}
use Rattle.pm_star.proofs.Chained.{follows, chain_proves, chain_extends, chain_continues}
use Rattle.pm_star.proofs.chaining.compose.Goals as goal

pub returns : goal.returns
returns c =
    let f : Follows c.args.first c.args.second c.in_ok-proof.proof = follows c.args.first c.args.second c.in_ok-proof.proof c.conclusion-e.result.now c.conclusion.result.now c.in_ok-left.left c.in_ok-right.right c.conclusion-e.ensures c.conclusion.ensures c.in_ok-left.ensures c.in_ok-right.ensures c.in_ok-proof.ensures.tree c.requires.vars c.requires.meet in
    record {
      follows = f;
      proves = chain_proves c.args.first c.args.second c.in_ok-proof.proof c.requires.vars c.requires.meet f;
      extends = chain_extends c.args.first c.args.second c.in_ok-proof.proof c.requires.vars c.requires.meet f;
      continues = chain_continues c.args.first c.args.second c.in_ok-proof.proof c.requires.vars c.requires.meet f;
    }
