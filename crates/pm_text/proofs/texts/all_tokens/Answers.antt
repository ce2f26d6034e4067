use Rattle.std.proofs.Common.{length}
use Rattle.pm_text.proofs.FewTokens.{few_tokens}
use Rattle.pm_text.proofs.texts.all_tokens.Goals as goal

pub returns-clause-few : goal.returns-clause-few
returns-clause-few c =
    let found = c.in_ok-found.found in
    few_tokens found.list.items found.stop (length c.args.text.now) c.in_ok-found.ensures.offsets c.in_ok-found.ensures.within
