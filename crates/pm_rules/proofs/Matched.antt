-- Formulas under signs match shapes by their operands.
use Rattle.std.proofs.Common.{◌≡◌, Option, None, Some, refl, ap, sym, ◌∙◌}
use Rattle.pm_logic.specs.declared.formula.Formula.{Formula}
use Rattle.pm_logic.specs.Trees as tree
use Rattle.pm_logic.proofs.Views.{view_sep, view_wand, view_and, view_or, view_imp, view_all, view_ex, view_later, view_pers, view_upd}
use Rattle.pm_rules.specs.declared.pattern.Unary.{Unary}
use Rattle.pm_rules.specs.declared.pattern.Unary.TheVariants as unary
use Rattle.pm_rules.specs.declared.pattern.Binary.{Binary}
use Rattle.pm_rules.specs.declared.pattern.Binary.TheVariants as binary
use Rattle.pm_rules.specs.Shapes.{Shape, One, Two, one, two, instance}
use Rattle.pm_rules.specs.Matching.{Known, Matches}

-- the first part of a formula, and the second
part : Formula → Formula
part (tree.Sep a b) = a
part (tree.Wand a b) = a
part (tree.And a b) = a
part (tree.Or a b) = a
part (tree.Imp a b) = a
part (tree.All a) = a
part (tree.Ex a) = a
part (tree.Later a) = a
part (tree.Pers a) = a
part (tree.Upd a) = a
part f = f

second : Formula → Formula
second (tree.Sep a b) = b
second (tree.Wand a b) = b
second (tree.And a b) = b
second (tree.Or a b) = b
second (tree.Imp a b) = b
second f = f

pub one_same : (o : Unary) (a b : Formula) → one o a ≡ one o b → a ≡ b
unfolding part
one_same unary.All a b e = ap part (sym (view_all a) ∙ e ∙ view_all b)
one_same unary.Ex a b e = ap part (sym (view_ex a) ∙ e ∙ view_ex b)
one_same unary.Later a b e = ap part (sym (view_later a) ∙ e ∙ view_later b)
one_same unary.Pers a b e = ap part (sym (view_pers a) ∙ e ∙ view_pers b)
one_same unary.Upd a b e = ap part (sym (view_upd a) ∙ e ∙ view_upd b)

both_same : (a b c d f g : Formula) → part f ≡ a → second f ≡ b → part g ≡ c → second g ≡ d → f ≡ g → (a ≡ c) × (b ≡ d)
both_same a b c d f g p q r s e = (sym p ∙ ap part e ∙ r, sym q ∙ ap second e ∙ s)

pub two_same : (o : Binary) (a b c d : Formula) → two o a b ≡ two o c d → (a ≡ c) × (b ≡ d)
unfolding part second
two_same binary.Sep a b c d e = both_same a b c d (tree.Sep a b) (tree.Sep c d) refl refl refl refl (sym (view_sep a b) ∙ e ∙ view_sep c d)
two_same binary.Wand a b c d e = both_same a b c d (tree.Wand a b) (tree.Wand c d) refl refl refl refl (sym (view_wand a b) ∙ e ∙ view_wand c d)
two_same binary.And a b c d e = both_same a b c d (tree.And a b) (tree.And c d) refl refl refl refl (sym (view_and a b) ∙ e ∙ view_and c d)
two_same binary.Or a b c d e = both_same a b c d (tree.Or a b) (tree.Or c d) refl refl refl refl (sym (view_or a b) ∙ e ∙ view_or c d)
two_same binary.Imp a b c d e = both_same a b c d (tree.Imp a b) (tree.Imp c d) refl refl refl refl (sym (view_imp a b) ∙ e ∙ view_imp c d)

pub one_matches : (o : Unary) (k : Known) (x : Shape) (f a : Formula) (r : Option Known) → f ≡ one o a → Matches k x a r → Matches k (One o x) f r
one_matches o k x f a None e m = record { none = λ s g c. m.none s g (one_same o a (instance s x) (sym e ∙ c)) }
one_matches o k x f a (Some k1) e m = record {
  to = λ s g. ((m.to s g).0, e ∙ ap (one o) (m.to s g).1);
  from = λ s g c. m.from s g (one_same o a (instance s x) (sym e ∙ c));
}

pub two_denied : (o : Binary) (k : Known) (x y : Shape) (f a b : Formula) → f ≡ two o a b → Matches k x a None → Matches k (Two o x y) f None
two_denied o k x y f a b e m = record { none = λ s g c. m.none s g (two_same o a b (instance s x) (instance s y) (sym e ∙ c)).0 }

pub two_matches : (o : Binary) (k k1 : Known) (x y : Shape) (f a b : Formula) (r : Option Known) → f ≡ two o a b → Matches k x a (Some k1) → Matches k1 y b r → Matches k (Two o x y) f r
two_matches o k k1 x y f a b None e m n = record { none = λ s g c. n.none s (m.from s g (two_same o a b (instance s x) (instance s y) (sym e ∙ c)).0) (two_same o a b (instance s x) (instance s y) (sym e ∙ c)).1 }
two_matches o k k1 x y f a b (Some k2) e m n = record {
  to = λ s g. ((m.to s (n.to s g).0).0, e ∙ ap (λ z. two o z b) (m.to s (n.to s g).0).1 ∙ ap (two o (instance s x)) (n.to s g).1);
  from = λ s g c. n.from s (m.from s g (two_same o a b (instance s x) (instance s y) (sym e ∙ c)).0) (two_same o a b (instance s x) (instance s y) (sym e ∙ c)).1;
}
