use Rattle.std.proofs.Common.{◌+◌, ◌<◌, ◌∙◌, length, Some, None, ap, arith}
use Rattle.std.specs.Str.{bytes_eq}
use Rattle.std.specs.List.{position_from}
use Rattle.pm_name_sets.proofs.Places.{found_from}
use Rattle.pm_name_sets.proofs.index.NameIndex.place.Goals as goal

pub overflow_add-result : goal.overflow_add-result
overflow_add-result c =
    let found = found_from (bytes_eq c.args.name.now) c.args.from c.args.self.now (Some c.in-Some.place.now) (c.in-Some.ensures.value ∙ c.self.invariant c.args.name.now ∙ ap (λ names. position_from (bytes_eq c.args.name.now) 0 names) c.self.view_is) in
    let below : c.args.from + c.in-Some.place.now < c.args.from + length c.args.self.now = found.1 in
    omega (arith, below, c.requires)

pub returns-in-Some-clause-place : goal.returns-in-Some-clause-place
returns-in-Some-clause-place c = (found_from (bytes_eq c.args.name.now) c.args.from c.args.self.now (Some c.in-Some.place.now) (c.in-Some.ensures.value ∙ c.self.invariant c.args.name.now ∙ ap (λ names. position_from (bytes_eq c.args.name.now) 0 names) c.self.view_is)).0

pub returns-in-Some-clause-within : goal.returns-in-Some-clause-within
returns-in-Some-clause-within c = (found_from (bytes_eq c.args.name.now) c.args.from c.args.self.now (Some c.in-Some.place.now) (c.in-Some.ensures.value ∙ c.self.invariant c.args.name.now ∙ ap (λ names. position_from (bytes_eq c.args.name.now) 0 names) c.self.view_is)).1

pub returns-in-None-clause-place : goal.returns-in-None-clause-place
returns-in-None-clause-place c = (found_from (bytes_eq c.args.name.now) c.args.from c.args.self.now None (c.in-None.ensures.value ∙ c.self.invariant c.args.name.now ∙ ap (λ names. position_from (bytes_eq c.args.name.now) 0 names) c.self.view_is)).0
