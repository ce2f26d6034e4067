use Rattle.std.proofs.Common.{arith, ap, length, length-append, ◌∷◌, [], None, subst, sym}
use Rattle.std.specs.Prelude.{List}
use Rattle.pm_dtext.specs.declared.line.Line.{Line}
use Rattle.pm_write.specs.Writing.{AreRecalled}
use Rattle.pm_write.proofs.Recalling.{recalled_more}
use Rattle.pm_write.proofs.recalled.places.Goals as goal

pub loop-preserved : goal.loop-preserved
loop-preserved c =
    let more = c.in_ok-push-2.ensures.items in
    (λ (lines : List Line). subst (λ ps. AreRecalled lines ps) (sym more) (recalled_more lines c.loop.out.items (c.loop.invariant.0 lines)), omega (arith, ap length more, length-append c.loop.out.items (None ∷ [])))
