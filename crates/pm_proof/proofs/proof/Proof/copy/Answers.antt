use Rattle.std.proofs.Common.{arith, ◌≡◌, [], ◌∷◌, ◌++◌, reverse, subst, sym, ◌∙◌}
use Rattle.pm_proof.specs.Parts.{parts_of_all}
use Rattle.pm_proof.proofs.Copies.{ready, copied, whole, single, no_items}
use Rattle.pm_proof.proofs.proof.Proof.copy.Goals as goal

pub loop-part-preserved : goal.loop-part-preserved
loop-part-preserved c =
    let all = parts_of_all (c.args.self.now ∷ []) in
    let inv : (c.pop.new.self.items ++ c.in-Some.part ∷ []) ++ parts_of_all (reverse c.loop-part.built.items) ≡ all = subst (λ l. l ++ parts_of_all (reverse c.loop-part.built.items) ≡ all) c.in-Some.ensures.items c.loop-part.invariant in
    let r = ready c.pop.new.self.items c.loop-part.built.items (c.args.self.now ∷ []) c.in-Some.part inv in
    copied c.pop.new.self.items c.loop-part.built.items c.build.new.built.items all r.0 c.in-Some.part inv r.1 (c.in_ok-build.ensures r.0 r.1)

pub returns-in-Some-pop : goal.returns-in-Some-pop
returns-in-Some-pop c =
    let none : c.loop-part.parts.items ≡ [] = no_items c.loop-part.parts.items (omega (arith, c.loop-part.parts.ok.0, c.in_default.ensures.cases.0)) in
    let all : parts_of_all (reverse c.loop-part.built.items) ≡ parts_of_all (c.args.self.now ∷ []) = subst (λ l. l ++ parts_of_all (reverse c.loop-part.built.items) ≡ parts_of_all (c.args.self.now ∷ [])) none c.loop-part.invariant in
    single c.pop-2.new.self.items c.args.self.now c.in-Some-pop.same (sym (whole c.loop-part.built.items c.args.self.now all) ∙ c.in-Some-pop.ensures.items)
