-- A step that passes its test is met by its rule, whatever its letters stand for.
use Rattle.std.proofs.Common.{ℕ, suc, ◌+◌, ◌≡◌, true, ◌&&◌, ◌==◌, List, [], ◌∷◌, map, length, refl, sym, ap, ◌∙◌, arith}
use Rattle.std.proofs.lemmas.Bool.{eqb-true, and_parts}
use Rattle.std.specs.List.{AllByRecursion}
use Rattle.pm_logic.specs.declared.formula.Pure.TheViews as pure_view
use Rattle.pm_logic.specs.declared.formula.Formula.TheVariants.{Pure as Fact}
use Rattle.pm_logic.specs.declared.formula.Preds.{Preds}
use Rattle.pm_rules.specs.declared.rules.Entail.{Entail}
use Rattle.pm_rules.specs.declared.rules.Rule.{Rule}
use Rattle.pm_rules.specs.declared.rules.Rule.TheVariants.{Inst, Linear, PtsOver, Timeless}
use Rattle.pm_rules.specs.declared.pattern.Unary.{Unary}
use Rattle.pm_rules.specs.declared.pattern.Unary.TheVariants as o
use Rattle.pm_rules.specs.declared.pattern.Binary.{Binary}
use Rattle.pm_rules.specs.declared.pattern.Binary.TheVariants as t
use Rattle.pm_rules.specs.PureShapes as pure
use Rattle.pm_rules.specs.PureShapes.{PureShape, pure_instance}
use Rattle.pm_rules.specs.Shapes as shape
use Rattle.pm_rules.specs.Shapes.{Shape, Letters, Sequent, instance, one, two}
use Rattle.pm_rules.specs.Rows.{Row, Shapes, Computed, row, frame}
use Rattle.pm_rules.specs.Rules.{RuleOk, IsInstance, AreInstances, HaveVariables, HasShapeOf, count_of}
use Rattle.pm_rules.specs.Rows.{HasArguments, HasBracket}
use Rattle.pm_schemes.specs.Sketches.{entail_of}
use Rattle.pm_schemes.specs.Tests.{same_unary, same_binary, same_pure_shape, same_shape, Guess, guess, meets_pure, meets, sides_meet, all_meet, is_bare, fits_row, fits}

-- ---- equal shapes

unary_same : (x y : Unary) → same_unary x y ≡ true → x ≡ y
unary_same o.All o.All h = refl
unary_same o.Ex o.Ex h = refl
unary_same o.Later o.Later h = refl
unary_same o.Pers o.Pers h = refl
unary_same o.Upd o.Upd h = refl
unary_same _ _ h = cc

binary_same : (x y : Binary) → same_binary x y ≡ true → x ≡ y
binary_same t.Sep t.Sep h = refl
binary_same t.Wand t.Wand h = refl
binary_same t.And t.And h = refl
binary_same t.Or t.Or h = refl
binary_same t.Imp t.Imp h = refl
binary_same _ _ h = cc

pure_same : (x y : PureShape) → same_pure_shape x y ≡ true → x ≡ y
pure_same (pure.Letter i) (pure.Letter j) h = ap pure.Letter (eqb-true i j h)
pure_same pure.True pure.True h = refl
pure_same pure.False pure.False h = refl
pure_same (pure.And a b) (pure.And c d) h =
    let hs = and_parts (same_pure_shape a c) (same_pure_shape b d) h in
    ap (λ z. pure.And z b) (pure_same a c hs.0) ∙ ap (pure.And c) (pure_same b d hs.1)
pure_same (pure.Or a b) (pure.Or c d) h =
    let hs = and_parts (same_pure_shape a c) (same_pure_shape b d) h in
    ap (λ z. pure.Or z b) (pure_same a c hs.0) ∙ ap (pure.Or c) (pure_same b d hs.1)
pure_same (pure.Not a) (pure.Not b) h = ap pure.Not (pure_same a b h)
pure_same _ _ h = cc

shape_same : (x y : Shape) → same_shape x y ≡ true → x ≡ y
shape_same (shape.Letter i) (shape.Letter j) h = ap shape.Letter (eqb-true i j h)
shape_same (shape.Pure a) (shape.Pure b) h = ap shape.Pure (pure_same a b h)
shape_same (shape.One u a) (shape.One v b) h =
    let hs = and_parts (same_unary u v) (same_shape a b) h in
    ap (λ z. shape.One z a) (unary_same u v hs.0) ∙ ap (shape.One v) (shape_same a b hs.1)
shape_same (shape.Two u a b) (shape.Two v c d) h =
    let hs = and_parts (same_binary u v && same_shape a c) (same_shape b d) h in
    let ks = and_parts (same_binary u v) (same_shape a c) hs.0 in
    ap (λ z. shape.Two z a b) (binary_same u v ks.0) ∙ ap (λ z. shape.Two v z b) (shape_same a c ks.1) ∙ ap (shape.Two v c) (shape_same b d hs.1)
shape_same _ _ h = cc

-- ---- the letters that a row has, where its letters are shapes

abbrev through : Letters → Guess → Letters
through s g = record { formula = λ i. instance s (g.formula i); pure = λ i. pure_instance s.pure (g.pure i) }

pure_met : (s : Letters) (g : Guess) (x c : PureShape) → meets_pure g.pure x c ≡ true → pure_instance s.pure c ≡ pure_instance (through s g).pure x
pure_met s g (pure.Letter i) c h = ap (pure_instance s.pure) (sym (pure_same (g.pure i) c h))
pure_met s g pure.True pure.True h = refl
pure_met s g pure.False pure.False h = refl
pure_met s g (pure.And a b) (pure.And c d) h =
    let hs = and_parts (meets_pure g.pure a c) (meets_pure g.pure b d) h in
    ap (λ z. pure_view.And z (pure_instance s.pure d)) (pure_met s g a c hs.0) ∙ ap (pure_view.And (pure_instance (through s g).pure a)) (pure_met s g b d hs.1)
pure_met s g (pure.Or a b) (pure.Or c d) h =
    let hs = and_parts (meets_pure g.pure a c) (meets_pure g.pure b d) h in
    ap (λ z. pure_view.Or z (pure_instance s.pure d)) (pure_met s g a c hs.0) ∙ ap (pure_view.Or (pure_instance (through s g).pure a)) (pure_met s g b d hs.1)
pure_met s g (pure.Not a) (pure.Not b) h = ap pure_view.Not (pure_met s g a b h)
pure_met s g _ _ h = absurd (cc)

met : (s : Letters) (g : Guess) (x c : Shape) → meets g x c ≡ true → instance s c ≡ instance (through s g) x
met s g (shape.Letter i) c h = ap (instance s) (sym (shape_same (g.formula i) c h))
met s g (shape.Pure a) (shape.Pure b) h = ap Fact (pure_met s g a b h)
met s g (shape.One u a) (shape.One v b) h =
    let hs = and_parts (same_unary u v) (meets g a b) h in
    ap (λ z. one z (instance s b)) (sym (unary_same u v hs.0)) ∙ ap (one u) (met s g a b hs.1)
met s g (shape.Two u a b) (shape.Two v c d) h =
    let hs = and_parts (same_binary u v && meets g a c) (meets g b d) h in
    let ks = and_parts (same_binary u v) (meets g a c) hs.0 in
    ap (λ z. two z (instance s c) (instance s d)) (sym (binary_same u v ks.0)) ∙ ap (λ z. two u z (instance s d)) (met s g a c ks.1) ∙ ap (two u (instance (through s g) a)) (met s g b d hs.1)
met s g _ _ h = absurd (cc)

sides_met : (k : ℕ) (s : Letters) (g : Guess) (x c : Sequent) → sides_meet g x c ≡ true → IsInstance (through s g) x (entail_of k s c)
sides_met k s g x c h =
    let hs = and_parts (meets g x.left c.left) (meets g x.right c.right) h in
    record { left_is = met s g x.left c.left hs.0; right_is = met s g x.right c.right hs.1 }

all_met : (k : ℕ) (s : Letters) (g : Guess) (xs cs : List Sequent) → all_meet g xs cs ≡ true → AreInstances (through s g) xs (map (entail_of k s) cs)
all_met k s g [] [] h = tt
all_met k s g (x ∷ xs) (c ∷ cs) h =
    let hs = and_parts (sides_meet g x c) (all_meet g xs cs) h in
    (sides_met k s g x c hs.0, all_met k s g xs cs hs.1)
all_met k s g [] (c ∷ cs) h = absurd (cc)
all_met k s g (x ∷ xs) [] h = absurd (cc)

all_counted : (g : Guess) (xs cs : List Sequent) → all_meet g xs cs ≡ true → length cs ≡ length xs
all_counted g [] [] h = refl
all_counted g (x ∷ xs) (c ∷ cs) h = let hs = and_parts (sides_meet g x c) (all_meet g xs cs) h in ap suc (all_counted g xs cs hs.1)
all_counted g [] (c ∷ cs) h = absurd (cc)
all_counted g (x ∷ xs) [] h = absurd (cc)

length_of_map : (k : ℕ) (s : Letters) (cs : List Sequent) → length (map (entail_of k s) cs) ≡ length cs
length_of_map k s [] = refl
length_of_map k s (c ∷ cs) = ap suc (length_of_map k s cs)

all_in : (k n : ℕ) (s : Letters) (cs : List Sequent) → n ≡ 0 → AllByRecursion (λ p. p.vars ≡ k + n) (map (entail_of k s) cs)
all_in k n s [] z = tt
all_in k n s (c ∷ cs) z = (omega arith, all_in k n s cs z)

record RowMet (x : Row) (preds : Preds) (ps : List Entail) (e : Entail) : Type 0 where
  premises : length ps ≡ count_of (frame x)
  variables : HaveVariables (frame x) ps e
  shape : HasShapeOf x preds ps e

row_met : (preds : Preds) (k : ℕ) (s : Letters) (x : Row) (gs : List Sequent) (c : Sequent) → fits_row x gs c ≡ true → RowMet x preds (map (entail_of k s) gs) (entail_of k s c)
unfolding fits_row
row_met preds k s (Shapes n more given x) gs c h =
    let g : Guess = guess (x ∷ given) (c ∷ gs) in
    let hs = and_parts (more == 0 && sides_meet g x c) (all_meet g given gs) h in
    let ks = and_parts (more == 0) (sides_meet g x c) hs.0 in
    record {
      premises = length_of_map k s gs ∙ all_counted g given gs hs.1;
      variables = all_in k more s gs (eqb-true more 0 ks.0);
      shape = record { letters = through s g; premises = all_met k s g given gs hs.1; conclusion = sides_met k s g x c ks.1 };
    }
row_met preds k s (Computed n count holds) gs c h = absurd (cc)

bare_arguments : (r : Rule) (ps : List Entail) → is_bare r ≡ true → HasArguments r ps
unfolding HasArguments
bare_arguments (Inst sigma) ps h = absurd (cc)
bare_arguments _ ps h = tt

bare_bracket : (r : Rule) (gs : List Sequent) (c : Sequent) (e : Entail) → is_bare r ≡ true → fits_row (row r) gs c ≡ true → HasBracket r e
unfolding HasBracket fits_row
bare_bracket (Linear a b) gs c e h f = absurd (cc)
bare_bracket PtsOver gs c e h f = absurd (cc)
bare_bracket Timeless gs c e h f = absurd (cc)
bare_bracket _ gs c e h f = tt

pub step_met : (preds : Preds) (k : ℕ) (s : Letters) (r : Rule) (gs : List Sequent) (c : Sequent) → fits r gs c ≡ true → RuleOk preds r (map (entail_of k s) gs) (entail_of k s c)
step_met preds k s r gs c h =
    let hs = and_parts (is_bare r) (fits_row (row r) gs c) h in
    let ok = row_met preds k s (row r) gs c hs.1 in
    record {
      premises = ok.premises;
      variables = ok.variables;
      arguments = bare_arguments r (map (entail_of k s) gs) hs.0;
      shape = ok.shape;
      bracket = bare_bracket r gs c (entail_of k s c) hs.0 hs.1;
    }
