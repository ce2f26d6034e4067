use Rattle.std.proofs.Common.{arith, ◌≡◌, ◌<◌, ◌++◌, ◌∙◌, [], subst, reverse, length, take, drop, ap}
use Rattle.pm_proof.proofs.Copies.{no_items}
use Rattle.pm_write.proofs.Recalling.{written_back}
use Rattle.pm_write.proofs.Looping.{Parted, goes_none, goes_more, goes_whole}
use Rattle.pm_write.proofs.written.Written.prove.Goals as goal

pub loop-part-preserved : goal.loop-part-preserved
loop-part-preserved c =
    let same : c.deref_mut.result.now ≡ c.loop-part.recalled.items = c.deref_mut.ensures.value in
    let long : length c.part.new.recalled ≡ length c.loop-part.recalled.items = c.in_ok-part.ensures.length ∙ ap length same in
    let part = subst (λ ps. Parted c.loop-part.self c.part.new.self c.args.earlier.now c.in-Some.part (reverse c.loop-part.built.items) (reverse c.part.new.built.items) ps c.part.new.recalled) same c.in_ok-part.ensures.lines in
    let back : take c.loop-part.recalled.len (c.part.new.recalled ++ drop (length c.part.new.recalled) c.loop-part.recalled.items) ≡ c.part.new.recalled = written_back c.loop-part.recalled.len c.loop-part.recalled.items c.part.new.recalled long (omega (arith, c.loop-part.recalled.ok.0)) in
    rw back (goes_more c.args.self.now c.loop-part.self c.part.new.self c.args.earlier.now c.args.proof.now c.in-Some.part c.loop-part.parts.items c.pop.new.self.items (reverse c.loop-part.built.items) (reverse c.part.new.built.items) c.loop-part.recalled.items c.part.new.recalled c.in-Some.ensures.items c.loop-part.invariant.0 part, omega (arith, long, c.loop-part.invariant.1))

pub loop-part-init : goal.loop-part-init
loop-part-init c = (goes_none c.args.self.now c.args.earlier.now c.args.proof.now c.in_ok-parts.parts.items c.new-built.result.items c.in_ok-recalled.recalled.items c.in_ok-parts.ensures c.new-built.ensures.items c.in_ok-recalled.ensures.none, c.in_ok-recalled.ensures.some)

pub returns-in-Some-pop : goal.returns-in-Some-pop
returns-in-Some-pop c =
    let none : c.loop-part.parts.items ≡ [] = no_items c.loop-part.parts.items (omega (arith, c.loop-part.parts.ok.0, c.in_default.ensures.cases.0)) in
    goes_whole c.args.self.now c.loop-part.self _ _ c.loop-part.parts.items c.loop-part.built.items c.pop-2.new.self.items c.loop-part.recalled.items c.in-Some-pop.number none c.in-Some-pop.ensures.items c.loop-part.invariant.0
