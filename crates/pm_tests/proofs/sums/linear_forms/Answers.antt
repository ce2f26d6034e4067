use Rattle.std.proofs.Common.{arith, rules}
use Rattle.std.proofs.lemmas.Int.{ints}
use Rattle.pm_linform.proofs.Bounds.{zero_room, word_room, word_times_room}
use Rattle.pm_tests.proofs.sums.linear_forms.Goals as goal

pub add_const-requires : goal.add_const-requires
add_const-requires g c = zero_room _ c.zero-form.ensures

pub add_var-requires-clause-room : goal.add_var-requires-clause-room
add_var-requires-clause-room g c = word_room _ _ (omega (arith, ints)) (c.within.ensures.0 (search rules))

pub add_scaled-requires-clause-room : goal.add_scaled-requires-clause-room
add_scaled-requires-clause-room g c = zero_room _ c.zero-sum.ensures

pub add_scaled-requires-clause-scaled : goal.add_scaled-requires-clause-scaled
add_scaled-requires-clause-scaled g c =
    word_times_room _ _ _ (omega (arith, ints)) (record { low = omega (arith, ints); high = omega (arith, ints) }) (c.within-2.ensures.0 (search rules))

pub add_const-requires-2 : goal.add_const-requires-2
add_const-requires-2 g c = zero_room _ c.zero-one.ensures
