-- The shapes and the derivations that static data stand for.
use Rattle.std.specs.Prelude.{List, map}
use Rattle.pm_logic.specs.declared.formula.Pure as P
use Rattle.pm_logic.specs.declared.formula.Formula.{Formula}
use Rattle.pm_rules.specs.declared.rules.Rule.{Rule}
use Rattle.pm_rules.specs.declared.rules.Rule.TheVariants as rule
use Rattle.pm_rules.specs.PureShapes as pure
use Rattle.pm_rules.specs.Shapes as shape
use Rattle.pm_rules.specs.Shapes.{Sequent}
use Rattle.pm_schemes.specs.declared.bare.Bare.{Bare}
use Rattle.pm_schemes.specs.declared.bare.Bare.TheVariants as bare
use Rattle.pm_schemes.specs.declared.pattern.PurePattern.{PurePattern}
use Rattle.pm_schemes.specs.declared.pattern.PurePattern.TheVariants as q
use Rattle.pm_schemes.specs.declared.pattern.Pattern.{Pattern}
use Rattle.pm_schemes.specs.declared.pattern.Pattern.TheVariants as p
use Rattle.pm_schemes.specs.declared.pattern.Sides.{Sides}
use Rattle.pm_schemes.specs.declared.scheme.Scheme.{Scheme}
use Rattle.pm_schemes.specs.declared.scheme.Scheme.TheVariants as s
use Rattle.pm_schemes.specs.declared.instances.Letters.{Letters}
use Rattle.pm_schemes.specs.Sketches as sketch
use Rattle.pm_schemes.specs.Sketches.{Sketch, letters_at}

abbrev pub rule_of : Bare → Rule
rule_of bare.Refl = rule.Refl
rule_of bare.Trans = rule.Trans
rule_of bare.True = rule.True
rule_of bare.False = rule.False
rule_of bare.AndL = rule.AndL
rule_of bare.AndR = rule.AndR
rule_of bare.AndI = rule.AndI
rule_of bare.OrL = rule.OrL
rule_of bare.OrR = rule.OrR
rule_of bare.OrE = rule.OrE
rule_of bare.ImpI = rule.ImpI
rule_of bare.ImpE = rule.ImpE
rule_of bare.SepMono = rule.SepMono
rule_of bare.SepComm = rule.SepComm
rule_of bare.SepAssocR = rule.SepAssocR
rule_of bare.SepAssocL = rule.SepAssocL
rule_of bare.SepUnit = rule.SepUnit
rule_of bare.SepWeaken = rule.SepWeaken
rule_of bare.WandI = rule.WandI
rule_of bare.WandE = rule.WandE
rule_of bare.LaterMono = rule.LaterMono
rule_of bare.LaterIntro = rule.LaterIntro
rule_of bare.Loeb = rule.Loeb
rule_of bare.LaterSep = rule.LaterSep
rule_of bare.SepLater = rule.SepLater
rule_of bare.LaterAnd = rule.LaterAnd
rule_of bare.LaterOr = rule.LaterOr
rule_of bare.LaterAll = rule.LaterAll
rule_of bare.LaterEx = rule.LaterEx
rule_of bare.PersMono = rule.PersMono
rule_of bare.PersElim = rule.PersElim
rule_of bare.PersIdem = rule.PersIdem
rule_of bare.PersDup = rule.PersDup
rule_of bare.PersPure = rule.PersPure
rule_of bare.PersAnd = rule.PersAnd
rule_of bare.PersOr = rule.PersOr
rule_of bare.PersAll = rule.PersAll
rule_of bare.PersEx = rule.PersEx
rule_of bare.PersLater = rule.PersLater
rule_of bare.LaterPers = rule.LaterPers
rule_of bare.UpdMono = rule.UpdMono
rule_of bare.UpdIntro = rule.UpdIntro
rule_of bare.UpdTrans = rule.UpdTrans
rule_of bare.UpdFrame = rule.UpdFrame
rule_of bare.UpdPure = rule.UpdPure
rule_of bare.PureAnd = rule.PureAnd
rule_of bare.AndPure = rule.AndPure
rule_of bare.PureOr = rule.PureOr
rule_of bare.OrPure = rule.OrPure
rule_of bare.Not = rule.Not
rule_of bare.Em = rule.Em

abbrev pub pure_shape_of : PurePattern → pure.PureShape
pure_shape_of (q.Letter i) = pure.Letter i
pure_shape_of q.True = pure.True
pure_shape_of q.False = pure.False
pure_shape_of (q.And' _ a _ b) = pure.And (pure_shape_of a) (pure_shape_of b)
pure_shape_of (q.Or' _ a _ b) = pure.Or (pure_shape_of a) (pure_shape_of b)
pure_shape_of (q.Not' _ a) = pure.Not (pure_shape_of a)

abbrev pub shape_of : Pattern → shape.Shape
shape_of (p.Letter i) = shape.Letter i
shape_of (p.Pure a) = shape.Pure (pure_shape_of a.now)
shape_of (p.One' o _ a) = shape.One o (shape_of a)
shape_of (p.Two' o _ a _ b) = shape.Two o (shape_of a) (shape_of b)

abbrev pub sequent_of : Sides → Sequent
sequent_of c = record { left = shape_of c.left; right = shape_of c.right }

abbrev pub sketch_of : Scheme → Sketch
sketch_of (s.Gap c) = sketch.Gap (sequent_of c)
sketch_of (s.Axiom r c) = sketch.Axiom (rule_of r) (sequent_of c)
sketch_of (s.One' r c _ a) = sketch.One (rule_of r) (sequent_of c) (sketch_of a)
sketch_of (s.Two' r c _ a _ b) = sketch.Two (rule_of r) (sequent_of c) (sketch_of a) (sketch_of b)

abbrev pub formulas_of : Letters → List Formula
formulas_of l = map (λ x. x.now) l.formulas.now

abbrev pub pures_of : Letters → List P.Pure
pures_of l = map (λ x. x.now) l.pures.now

abbrev pub letters_of : Letters → shape.Letters
letters_of l = letters_at (formulas_of l) (pures_of l)
