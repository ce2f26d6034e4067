use Rattle.std.proofs.Common.{◌∙◌, sym, ap}
use Rattle.pm_name_sets.specs.Sets.{has}
use Rattle.pm_name_sets.proofs.Sets.{in_keys}
use Rattle.pm_name_sets.proofs.set.NameSet.contains.Goals as goal

pub returns : goal.returns
returns c = c.contains.ensures ∙ sym (in_keys c.self.inside.names.keys c.args.name.now) ∙ ap (λ set. has set c.args.name.now) c.self.view_is
