-- Patterns that are built: their parts are, and each may stand where it does.
use Rattle.std.proofs.Common.{◌≡◌, ℕ, ◌-◌, ◌≤◌, Bool, true, false, ◌&&◌, List, [], ◌∷◌, length, take, drop, refl, sym, ◌∙◌, ap, ap₂, subst, arith}
use Rattle.std.specs.List.{list_all}
use Rattle.std.proofs.lemmas.List.{take_all}
use Rattle.pm_patterns.specs.declared.pattern.Sel.{Sel}
use Rattle.pm_patterns.specs.declared.pattern.Pat.{Pat}
use Rattle.pm_patterns.specs.declared.pattern.Pat.TheVariants as pat
use Rattle.pm_patterns.specs.declared.pattern.Pat.TheViews as view
use Rattle.pm_patterns.specs.declared.pattern.Pat.TheBlock as block
use denote.Hole.Carrier as carrier
use Rattle.pm_patterns.specs.Patterns as tree
use Rattle.pm_script.specs.declared.directive.Directive.{Directive}
use Rattle.pm_script.specs.declared.directive.Directive.TheVariants as d
use Rattle.pm_table.specs.declared.place.Place.{Place}
use Rattle.pm_table.specs.Running.{after}
use Rattle.pm_table.specs.Destructs as destructs
use Rattle.pm_table.specs.Patterns.{opening, turn, destruct, intro, intro_pattern}
use Rattle.pm_table.specs.Hands.{is_inner, is_item, is_well_placed}
use Rattle.pm_directives.specs.Built.{is_built_pattern, is_built_intro, IsBuiltPattern, IsBuilt, AreBuiltIntros}

-- ---- variants as code makes them

view_pair : (p q : Pat) → view.Pair p q ≡ tree.Pair p q
unfolding block.shape-the_row-Pat-0 block.hidden-the_row-Pat-0 carrier.hidden
view_pair p q = refl

view_either : (p q : Pat) → view.Either p q ≡ tree.Either p q
unfolding block.shape-the_row-Pat-0 block.hidden-the_row-Pat-0 carrier.hidden
view_either p q = refl

view_int : (p : Pat) → view.Int p ≡ tree.Int p
unfolding block.shape-the_row-Pat-0 block.hidden-the_row-Pat-0 carrier.hidden
view_int p = refl

view_spat : (p : Pat) → view.Spat p ≡ tree.Spat p
unfolding block.shape-the_row-Pat-0 block.hidden-the_row-Pat-0 carrier.hidden
view_spat p = refl

-- ---- parts

both_true : (a b : Bool) → (a && b) ≡ true → (a ≡ true) × (b ≡ true)
both_true true b e = (refl, e)
both_true false b e = absurd cc

built_pair : (p q : Pat) → IsBuiltPattern (tree.Pair p q) → IsBuiltPattern p × IsBuiltPattern q
unfolding is_built_pattern
built_pair p q h = both_true (is_built_pattern p) (is_built_pattern q) h

built_either : (p q : Pat) → IsBuiltPattern (tree.Either p q) → IsBuiltPattern p × IsBuiltPattern q
unfolding is_built_pattern
built_either p q h = both_true (is_built_pattern p) (is_built_pattern q) h

pub pair_built : (f p1 q1 p q : Pat) → f ≡ view.Pair p1 q1 → p ≡ p1 → q ≡ q1 → IsBuiltPattern f → IsBuiltPattern p × IsBuiltPattern q
pair_built f p1 q1 p q is left right h = built_pair p q (subst IsBuiltPattern (is ∙ ap₂ view.Pair (sym left) (sym right) ∙ view_pair p q) h)

pub either_built : (f p1 q1 p q : Pat) → f ≡ view.Either p1 q1 → p ≡ p1 → q ≡ q1 → IsBuiltPattern f → IsBuiltPattern p × IsBuiltPattern q
either_built f p1 q1 p q is left right h = built_either p q (subst IsBuiltPattern (is ∙ ap₂ view.Either (sym left) (sym right) ∙ view_either p q) h)

pub int_built : (f p1 p : Pat) → f ≡ view.Int p1 → p ≡ p1 → IsBuiltPattern f → IsBuiltPattern p
unfolding is_built_pattern
int_built f p1 p is same h = subst IsBuiltPattern (is ∙ ap view.Int (sym same) ∙ view_int p) h

pub spat_built : (f p1 p : Pat) → f ≡ view.Spat p1 → p ≡ p1 → IsBuiltPattern f → IsBuiltPattern p
unfolding is_built_pattern
spat_built f p1 p is same h = subst IsBuiltPattern (is ∙ ap view.Spat (sym same) ∙ view_spat p) h

-- ---- what they do

pub pair_run : (f p1 q1 p q : Pat) (ps : List Place) → f ≡ view.Pair p1 q1 → p ≡ p1 → q ≡ q1 → destruct f ps ≡ after (turn 2 (destructs.pair p q) ps) (λ qs. after (destruct p qs) (destruct q))
unfolding destruct
pair_run f p1 q1 p q ps is left right = ap (λ x. destruct x ps) (is ∙ ap₂ view.Pair (sym left) (sym right) ∙ view_pair p q)

pub either_run : (f p1 q1 p q : Pat) (ps : List Place) → f ≡ view.Either p1 q1 → p ≡ p1 → q ≡ q1 → destruct f ps ≡ after (turn 2 destructs.either ps) (λ qs. after (destruct p qs) (destruct q))
unfolding destruct
either_run f p1 q1 p q ps is left right = ap (λ x. destruct x ps) (is ∙ ap₂ view.Either (sym left) (sym right) ∙ view_either p q)

pub int_run : (f p1 p : Pat) (ps : List Place) → f ≡ view.Int p1 → p ≡ p1 → destruct f ps ≡ after (turn 1 (opening (true ∷ []) destructs.to_int) ps) (destruct p)
unfolding destruct
int_run f p1 p ps is same = ap (λ x. destruct x ps) (is ∙ ap view.Int (sym same) ∙ view_int p)

pub spat_run : (f p1 p : Pat) (ps : List Place) → f ≡ view.Spat p1 → p ≡ p1 → destruct f ps ≡ after (turn 1 (opening (true ∷ []) destructs.to_spat) ps) (destruct p)
unfolding destruct
spat_run f p1 p ps is same = ap (λ x. destruct x ps) (is ∙ ap view.Spat (sym same) ∙ view_spat p)

-- ---- what isn't built

pub not_built : (f : Pat) → ((h : List ℕ) → f ≡ pat.Name h → ⊥) → (f ≡ pat.Fresh → ⊥) → (f ≡ pat.Drop → ⊥) → (f ≡ pat.Frame → ⊥) → ((p q : Pat) → f ≡ view.Pair p q → ⊥) → ((p q : Pat) → f ≡ view.Either p q → ⊥) → (f ≡ pat.Absurd → ⊥) → ((h : List ℕ) → f ≡ pat.PureName h → ⊥) → (f ≡ pat.PureFresh → ⊥) → ((p : Pat) → f ≡ view.Int p → ⊥) → ((p : Pat) → f ≡ view.Spat p → ⊥) → is_built_pattern f ≡ false
unfolding is_built_pattern
not_built (pat.Name h) name fresh drop frame pair either none pure_name pure int spat = absurd (name h refl)
not_built pat.Fresh name fresh drop frame pair either none pure_name pure int spat = absurd (fresh refl)
not_built pat.Drop name fresh drop frame pair either none pure_name pure int spat = absurd (drop refl)
not_built pat.Frame name fresh drop frame pair either none pure_name pure int spat = absurd (frame refl)
not_built (tree.Pair p q) name fresh drop frame pair either none pure_name pure int spat = absurd (pair p q (sym (view_pair p q)))
not_built (tree.Either p q) name fresh drop frame pair either none pure_name pure int spat = absurd (either p q (sym (view_either p q)))
not_built pat.Absurd name fresh drop frame pair either none pure_name pure int spat = absurd (none refl)
not_built (pat.PureName h) name fresh drop frame pair either none pure_name pure int spat = absurd (pure_name h refl)
not_built pat.PureFresh name fresh drop frame pair either none pure_name pure int spat = absurd (pure refl)
not_built (tree.Int p) name fresh drop frame pair either none pure_name pure int spat = absurd (int p (sym (view_int p)))
not_built (tree.Spat p) name fresh drop frame pair either none pure_name pure int spat = absurd (spat p (sym (view_spat p)))
not_built f name fresh drop frame pair either none pure_name pure int spat = refl

pub built_never : {A : Type 0} (f : Pat) → is_built_pattern f ≡ false → IsBuiltPattern f → A
built_never f e h = absurd cc

-- ---- tests of the parts

pub pair_test : (f p1 q1 p q : Pat) (x y : Bool) → f ≡ view.Pair p1 q1 → p ≡ p1 → q ≡ q1 → x ≡ is_built_pattern p → y ≡ is_built_pattern q → (x && y) ≡ is_built_pattern f
unfolding is_built_pattern
pair_test f p1 q1 p q x y is left right first second = ap₂ (λ u v. u && v) first second ∙ sym (ap is_built_pattern (is ∙ ap₂ view.Pair (sym left) (sym right) ∙ view_pair p q))

pub either_test : (f p1 q1 p q : Pat) (x y : Bool) → f ≡ view.Either p1 q1 → p ≡ p1 → q ≡ q1 → x ≡ is_built_pattern p → y ≡ is_built_pattern q → (x && y) ≡ is_built_pattern f
unfolding is_built_pattern
either_test f p1 q1 p q x y is left right first second = ap₂ (λ u v. u && v) first second ∙ sym (ap is_built_pattern (is ∙ ap₂ view.Either (sym left) (sym right) ∙ view_either p q))

pub int_test : (f p1 p : Pat) (x : Bool) → f ≡ view.Int p1 → p ≡ p1 → x ≡ is_built_pattern p → x ≡ is_built_pattern f
unfolding is_built_pattern
int_test f p1 p x is same test = test ∙ sym (ap is_built_pattern (is ∙ ap view.Int (sym same) ∙ view_int p))

pub spat_test : (f p1 p : Pat) (x : Bool) → f ≡ view.Spat p1 → p ≡ p1 → x ≡ is_built_pattern p → x ≡ is_built_pattern f
unfolding is_built_pattern
spat_test f p1 p x is same test = test ∙ sym (ap is_built_pattern (is ∙ ap view.Spat (sym same) ∙ view_spat p))

pub and_true : (x y z : Bool) → x ≡ true → (x && y) ≡ z → y ≡ z
and_true x y z holds e = ap (λ u. u && y) (sym holds) ∙ e

pub and_false : (x y z : Bool) → x ≡ false → (x && y) ≡ z → x ≡ z
and_false x y z fails e = fails ∙ (ap (λ u. u && y) (sym fails) ∙ e)

-- ---- the top of `iIntros`

pub intro_run : (f : Pat) (ps : List Place) → (f ≡ pat.Done → ⊥) → (f ≡ pat.Alls → ⊥) → (f ≡ pat.AllsWands → ⊥) → ((sels : List Sel) → f ≡ pat.Clear sels → ⊥) → is_built_intro f ≡ true → intro f ps ≡ intro_pattern f ps
unfolding intro is_built_pattern
intro_run pat.ModIntro ps done alls wands clear h = absurd cc
intro_run pat.Done ps done alls wands clear h = absurd (done refl)
intro_run pat.Alls ps done alls wands clear h = absurd (alls refl)
intro_run pat.AllsWands ps done alls wands clear h = absurd (wands refl)
intro_run (pat.Clear sels) ps done alls wands clear h = absurd (clear sels refl)
intro_run f ps done alls wands clear h = refl

-- the patterns behind the first
pub rest_built : (pats : List Pat) → 1 ≤ length pats → AreBuiltIntros pats → AreBuiltIntros (take (length pats - 1) (drop 1 pats))
rest_built [] lt h = absurd (omega (arith, lt))
rest_built (q ∷ pats) lt h = ap (list_all is_built_intro) (take_all (length (q ∷ pats) - 1) pats (omega arith)) ∙ (both_true (is_built_intro q) (list_all is_built_intro pats) h).1

-- ---- each may stand where it does

inner : (p : Pat) → is_built_pattern p ≡ true → is_inner p ≡ true
unfolding is_built_pattern is_inner
inner (pat.Name h) e = refl
inner pat.Fresh e = refl
inner pat.Drop e = refl
inner pat.Frame e = refl
inner (tree.Pair p q) e = let b = both_true (is_built_pattern p) (is_built_pattern q) e in ap₂ (λ x y. x && y) (inner p b.0) (inner q b.1)
inner (tree.Either p q) e = let b = both_true (is_built_pattern p) (is_built_pattern q) e in ap₂ (λ x y. x && y) (inner p b.0) (inner q b.1)
inner pat.Absurd e = refl
inner (pat.PureName h) e = refl
inner pat.PureFresh e = refl
inner (tree.Int p) e = inner p e
inner (tree.Spat p) e = inner p e
inner (tree.Elim p) e = absurd cc
inner pat.Rewrite e = refl
inner pat.RewriteBack e = refl
inner pat.ModIntro e = absurd cc
inner pat.Done e = absurd cc
inner pat.Alls e = absurd cc
inner pat.AllsWands e = absurd cc
inner (pat.Clear sels) e = absurd cc

item : (p : Pat) → is_built_intro p ≡ true → is_item p ≡ true
unfolding is_item
item (pat.Name h) e = inner (pat.Name h) e
item pat.Fresh e = inner pat.Fresh e
item pat.Drop e = inner pat.Drop e
item pat.Frame e = inner pat.Frame e
item (tree.Pair p q) e = inner (tree.Pair p q) e
item (tree.Either p q) e = inner (tree.Either p q) e
item pat.Absurd e = inner pat.Absurd e
item (pat.PureName h) e = inner (pat.PureName h) e
item pat.PureFresh e = inner pat.PureFresh e
item (tree.Int p) e = inner (tree.Int p) e
item (tree.Spat p) e = inner (tree.Spat p) e
item (tree.Elim p) e = inner (tree.Elim p) e
item pat.Rewrite e = inner pat.Rewrite e
item pat.RewriteBack e = inner pat.RewriteBack e
item pat.ModIntro e = refl
item pat.Done e = refl
item pat.Alls e = refl
item pat.AllsWands e = refl
item (pat.Clear sels) e = refl

items : (pats : List Pat) → list_all is_built_intro pats ≡ true → list_all is_item pats ≡ true
items [] e = refl
items (p ∷ pats) e = let b = both_true (is_built_intro p) (list_all is_built_intro pats) e in ap₂ (λ x y. x && y) (item p b.0) (items pats b.1)

pub well_placed : (directive : Directive) → IsBuilt directive → is_well_placed directive ≡ true
unfolding is_well_placed
well_placed (d.Intros pats) h = items pats h
well_placed (d.Destruct t p) h = inner p (both_true _ _ h).1
well_placed (d.PoseProof t p) h = inner p (both_true _ _ h).1
well_placed (d.Specialize t) h = refl
well_placed (d.Apply t) h = refl
well_placed (d.Assert f s p) h = absurd cc
well_placed d.Split h = refl
well_placed (d.SplitL list) h = refl
well_placed (d.SplitR list) h = refl
well_placed d.Left h = refl
well_placed d.Right h = refl
well_placed (d.Exists ts) h = refl
well_placed (d.Exact x) h = refl
well_placed d.Assumption h = refl
well_placed d.ExFalso h = refl
well_placed d.Done h = refl
well_placed (d.Clear sels) h = refl
well_placed (d.Rename x y) h = refl
well_placed (d.Revert xs sels) h = refl
well_placed (d.Frame sels) h = refl
well_placed d.ModIntro h = refl
well_placed d.Next h = refl
well_placed (d.Mod t p) h = absurd cc
well_placed (d.Loeb x) h = refl
well_placed (d.Unfold x) h = refl
well_placed (d.Fold f x) h = refl
well_placed (d.Combine x y p) h = absurd cc
well_placed (d.Write x t) h = refl
well_placed (d.Alloc t l p) h = absurd cc
well_placed d.PureIntro h = refl
well_placed (d.Rewrite back x target) h = refl
well_placed (d.Cases p x) h = refl
well_placed d.Linear h = refl
well_placed (d.LinearWith certs) h = refl
