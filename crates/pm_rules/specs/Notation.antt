-- How shapes are written.
use Rattle.pm_rules.specs.declared.pattern.Unary.TheVariants as unary
use Rattle.pm_rules.specs.declared.pattern.Binary.TheVariants as binary
use Rattle.pm_rules.specs.PureShapes as pure
use Rattle.pm_rules.specs.Shapes.{Shape, Letter, Shifted, Pure, One, Two, Sequent}

infix 4 ◌⊢◌
infixr 5 ◌⇒◌
infixr 5 ◌─✶◌
infixr 6 ◌⩔◌
infixr 7 ◌⩓◌
infixr 7 ◌✶◌
infixr 6 ◌⊔◌
infixr 7 ◌⊓◌
abbrev pub ◌⊢◌ : Shape → Shape → Sequent
a ⊢ b = record { left = a; right = b }

abbrev pub ◌✶◌ : Shape → Shape → Shape
a ✶ b = Two binary.Sep a b

abbrev pub ◌─✶◌ : Shape → Shape → Shape
a ─✶ b = Two binary.Wand a b

abbrev pub ◌⩓◌ : Shape → Shape → Shape
a ⩓ b = Two binary.And a b

abbrev pub ◌⩔◌ : Shape → Shape → Shape
a ⩔ b = Two binary.Or a b

abbrev pub ◌⇒◌ : Shape → Shape → Shape
a ⇒ b = Two binary.Imp a b

abbrev pub All : Shape → Shape
All a = One unary.All a

abbrev pub Ex : Shape → Shape
Ex a = One unary.Ex a

abbrev pub ▷ : Shape → Shape
▷ a = One unary.Later a

abbrev pub □ : Shape → Shape
□ a = One unary.Pers a

abbrev pub ⤇ : Shape → Shape
⤇ a = One unary.Upd a

abbrev pub ⌜◌⌝ : pure.PureShape → Shape
⌜ a ⌝ = Pure a

abbrev pub truth : pure.PureShape
truth = pure.True

abbrev pub falsity : pure.PureShape
falsity = pure.False

abbrev pub ◌⊓◌ : pure.PureShape → pure.PureShape → pure.PureShape
a ⊓ b = pure.And a b

abbrev pub ◌⊔◌ : pure.PureShape → pure.PureShape → pure.PureShape
a ⊔ b = pure.Or a b

abbrev pub ∼ : pure.PureShape → pure.PureShape
∼ a = pure.Not a

-- the letters of formulas
abbrev pub P : Shape
P = Letter 0

abbrev pub Q : Shape
Q = Letter 1

abbrev pub R : Shape
R = Letter 2

abbrev pub B : Shape
B = Letter 2

abbrev pub P1 : Shape
P1 = Letter 2

abbrev pub Q1 : Shape
Q1 = Letter 3

-- the letters with each free index one higher
abbrev pub P↑ : Shape
P↑ = Shifted 0

abbrev pub Q↑ : Shape
Q↑ = Shifted 1

-- the letters of pure formulas
abbrev pub φ : pure.PureShape
φ = pure.Letter 0

abbrev pub ψ : pure.PureShape
ψ = pure.Letter 1
