-- Which way takes apart what is last in hand.
use Rattle.std.proofs.Common.{◌≡◌, Bool, true, false, [], ◌∷◌, length, refl, sym, ◌∙◌, ap, ap₂, Option, Some, None}
use Rattle.pm_logic.specs.declared.formula.Formula.{Formula}
use Rattle.pm_logic.specs.declared.formula.Formula.TheViews as view
use Rattle.pm_logic.specs.Trees.{And}
use Rattle.pm_logic.proofs.Views.{view_and}
use Rattle.pm_goal.specs.declared.work.Kind.{Kind}
use Rattle.pm_goal.specs.declared.work.Kind.TheVariants.{Int, Spat}
use Rattle.pm_goal.specs.declared.work.Held.{Held}
use Rattle.pm_goal.specs.declared.work.Work.{Work}
use Rattle.pm_goal.specs.declared.refusal.Row.TheVariants.{NotPair, NameInUse}
use Rattle.pm_goal.specs.Left.{of_kind}
use Rattle.pm_patterns.specs.declared.pattern.Pat.{Pat}
use Rattle.pm_proof.specs.Trees.{entail}
use Rattle.pm_classes.specs.declared.entry.Pair.{Pair}
use Rattle.pm_classes.specs.declared.entry.One.{One}
use Rattle.pm_classes.specs.Classes.{Parts, parts, into_exist}
use Rattle.pm_table.specs.declared.place.Place.TheVariants.{Current as current}
use Rattle.pm_table.specs.Outcomes.{Outcome, gives, refuse, refuse_plain, require}
use Rattle.pm_table.specs.Works.{Hand, Named, fits, holding}
use Rattle.pm_table.specs.Destructs as table
use Rattle.pm_table.specs.Destructs.{into_parts, parts_or, third_way, one_part, var_name, is_drop}
use Rattle.pm_action.specs.Acting.{IsLast}
use Rattle.pm_action.proofs.Hands.{with_last_is}
use Rattle.pm_intro.specs.Hands.{hand_at, PartsAnswer, BodyAnswer}
use Rattle.pm_intro.specs.Pairs.{fourth, other_ways}
use Rattle.pm_intro.specs.Variables.{opened}
use Rattle.pm_intro.proofs.ByKind.{pair_is, none_is, one_is, nothing_is}

-- ---- two parts, or another way

abbrev acts_on : Pat → Pat → Work → Hand → Outcome
acts_on p q w hand = parts_or w hand (into_parts hand.last.kind hand.last.formula) (other_ways w hand p q)

row : (w : Work) (l : Held) (p q : Pat) (o : Option Parts) → IsLast w l → into_parts l.kind l.formula ≡ o → table.pair p q w ≡ parts_or w (hand_at w l) o (other_ways w (hand_at w l) p q)
row w l p q o last e = with_last_is w (acts_on p q w) l last ∙ ap (λ x. parts_or w (hand_at w l) x (other_ways w (hand_at w l) p q)) e

pub row_parts : (w : Work) (l : Held) (p q : Pat) (r : Pair) → IsLast w l → PartsAnswer l.kind (length w.goal.vars) l.formula (Some r) → table.pair p q w ≡ table.both_parts w (hand_at w l) (parts r.first r.second)
row_parts w l p q r last a =
    let k = length w.goal.vars in
    row w l p q (Some (parts r.first r.second)) last (pair_is (λ x y. entail k (of_kind l.kind l.formula) (view.Sep (of_kind l.kind x) (of_kind l.kind y))) k (of_kind l.kind l.formula) (into_parts l.kind l.formula) r a)

pub row_others : (w : Work) (l : Held) (p q : Pat) → IsLast w l → PartsAnswer l.kind (length w.goal.vars) l.formula None → table.pair p q w ≡ other_ways w (hand_at w l) p q
row_others w l p q last a =
    let k = length w.goal.vars in
    row w l p q None last (none_is (λ x y. entail k (of_kind l.kind l.formula) (view.Sep (of_kind l.kind x) (of_kind l.kind y))) k (of_kind l.kind l.formula) (into_parts l.kind l.formula) a)

-- ---- a variable and a body, or one part of a conjunction

unnamed : (w : Work) (l : Held) (b : Option Formula) (o : Outcome) → third_way w (hand_at w l) None b o ≡ o
unnamed w l b o = refl

pub ways_unnamed : (w : Work) (l : Held) (p q : Pat) → None ≡ var_name w.goal p → other_ways w (hand_at w l) p q ≡ fourth w (hand_at w l) p q
ways_unnamed w l p q e = ap (λ x. third_way w (hand_at w l) x (into_exist l.formula) (fourth w (hand_at w l) p q)) (sym e) ∙ unnamed w l (into_exist l.formula) (fourth w (hand_at w l) p q)

ways_at : (w : Work) (l : Held) (p q : Pat) (x : Named) (b : Option Formula) → Some x ≡ var_name w.goal p → into_exist l.formula ≡ b → other_ways w (hand_at w l) p q ≡ third_way w (hand_at w l) (Some x) b (fourth w (hand_at w l) p q)
ways_at w l p q x b e f = ap₂ (λ y c. third_way w (hand_at w l) y c (fourth w (hand_at w l) p q)) (sym e) f

pub ways_bodiless : (w : Work) (l : Held) (p q : Pat) (x : Named) → Some x ≡ var_name w.goal p → BodyAnswer l.kind (length w.goal.vars) l.formula None → other_ways w (hand_at w l) p q ≡ fourth w (hand_at w l) p q
ways_bodiless w l p q x e a =
    let k = length w.goal.vars in
    ways_at w l p q x None e (nothing_is (λ c. entail k (of_kind l.kind l.formula) (view.Ex (of_kind l.kind c))) k (of_kind l.kind l.formula) (into_exist l.formula) a)

pub ways_body : (w : Work) (l : Held) (p q : Pat) (x : Named) (r : One) → Some x ≡ var_name w.goal p → BodyAnswer l.kind (length w.goal.vars) l.formula (Some r) → other_ways w (hand_at w l) p q ≡ table.body_held w (hand_at w l) x r.formula
ways_body w l p q x r e a =
    let k = length w.goal.vars in
    ways_at w l p q x (Some r.formula) e (one_is (λ c. entail k (of_kind l.kind l.formula) (view.Ex (of_kind l.kind c))) k (of_kind l.kind l.formula) (into_exist l.formula) r a)

-- ---- the name of the variable

opens_as : (w : Work) (l : Held) (x : Named) (b : Formula) (f : Bool) → fits w.goal x ≡ f → table.body_held w (hand_at w l) x b ≡ require f NameInUse x (gives (current (false ∷ true ∷ []) (opened w l.kind x b) ∷ []))
opens_as w l x b f e = ap (λ y. require y NameInUse x (gives (current (false ∷ true ∷ []) (opened w l.kind x b) ∷ []))) e

pub body_used : (w : Work) (l : Held) (x : Named) (b : Formula) → fits w.goal x ≡ false → table.body_held w (hand_at w l) x b ≡ refuse NameInUse x
body_used w l x b e = opens_as w l x b false e

pub body_free : (w : Work) (l : Held) (x : Named) (b : Formula) → fits w.goal x ≡ true → table.body_held w (hand_at w l) x b ≡ gives (current (false ∷ true ∷ []) (opened w l.kind x b) ∷ [])
body_free w l x b e = opens_as w l x b true e

-- ---- one part of a conjunction

abbrev one_of : Work → Held → Kind → Bool → Bool → Formula → Outcome
one_of w l Spat p q f = one_part w (hand_at w l) p q f
one_of w l Int p q f = refuse_plain NotPair

fourth_is : (w : Work) (l : Held) (z : Kind) (p q : Bool) → table.fourth_way w (hand_at w l) z p q ≡ one_of w l z p q l.formula
fourth_is w l Spat p q = refl
fourth_is w l Int p q = refl

at_and : (w : Work) (l : Held) (p q : Bool) (a b : Formula) → l.kind ≡ Spat → l.formula ≡ view.And a b → table.fourth_way w (hand_at w l) l.kind p q ≡ one_part w (hand_at w l) p q (And a b)
at_and w l p q a b z f = fourth_is w l l.kind p q ∙ ap₂ (λ x g. one_of w l x p q g) z (f ∙ view_and a b)

pub fourth_second : (w : Work) (l : Held) (p q : Bool) (a b : Formula) → l.kind ≡ Spat → l.formula ≡ view.And a b → p ≡ true → table.fourth_way w (hand_at w l) l.kind p q ≡ table.second_part w (hand_at w l) b
fourth_second w l p q a b z f e = at_and w l p q a b z f ∙ ap (λ x. one_part w (hand_at w l) x q (And a b)) e

pub fourth_first : (w : Work) (l : Held) (p q : Bool) (a b : Formula) → l.kind ≡ Spat → l.formula ≡ view.And a b → p ≡ false → q ≡ true → table.fourth_way w (hand_at w l) l.kind p q ≡ table.first_part w (hand_at w l) a
fourth_first w l p q a b z f e g = at_and w l p q a b z f ∙ ap₂ (λ x y. one_part w (hand_at w l) x y (And a b)) e g

pub fourth_none : (w : Work) (l : Held) (p q : Bool) (a b : Formula) → l.kind ≡ Spat → l.formula ≡ view.And a b → p ≡ false → q ≡ false → table.fourth_way w (hand_at w l) l.kind p q ≡ refuse_plain NotPair
fourth_none w l p q a b z f e g = at_and w l p q a b z f ∙ ap₂ (λ x y. one_part w (hand_at w l) x y (And a b)) e g

not_and : (w : Work) (l : Held) (p q : Bool) (f : Formula) → ((a b : Formula) → f ≡ view.And a b → ⊥) → one_part w (hand_at w l) p q f ≡ refuse_plain NotPair
not_and w l p q (And a b) n = absurd (n a b (sym (view_and a b)))
not_and w l true q f n = refl
not_and w l false true f n = refl
not_and w l false false f n = refl

pub fourth_other : (w : Work) (l : Held) (p q : Bool) → l.kind ≡ Spat → ((a b : Formula) → l.formula ≡ view.And a b → ⊥) → table.fourth_way w (hand_at w l) l.kind p q ≡ refuse_plain NotPair
fourth_other w l p q z n = fourth_is w l l.kind p q ∙ ap (λ x. one_of w l x p q l.formula) z ∙ not_and w l p q l.formula n

pub fourth_boxed : (w : Work) (l : Held) (p q : Bool) → l.kind ≡ Int → table.fourth_way w (hand_at w l) l.kind p q ≡ refuse_plain NotPair
fourth_boxed w l p q z = ap (λ x. table.fourth_way w (hand_at w l) x p q) z

-- ---- as code has it

pub held_and : (l : Held) (a b : Formula) → l.kind ≡ Spat → l.formula ≡ view.And a b → l ≡ holding Spat (view.And a b)
held_and l a b z f = ap₂ (λ x y. holding x y) z f

pub fourth_as : (w : Work) (l : Held) (p q : Pat) (p1 q1 : Bool) → p1 ≡ is_drop p → q1 ≡ is_drop q → fourth w (hand_at w l) p q ≡ table.fourth_way w (hand_at w l) l.kind p1 q1
fourth_as w l p q p1 q1 e f = ap₂ (λ x y. table.fourth_way w (hand_at w l) l.kind x y) (sym e) (sym f)
