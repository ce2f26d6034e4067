-- The arms of framing: the answer for a conclusion, from its form and what the step gives.
use Rattle.std.proofs.Common.{ℕ, suc, ◌+◌, ◌≡◌, ◌≤◌, ◌<◌, max, Bool, true, false, IsTrue, ◌↔◌, map, [], ◌∷◌, Option, None, Some, inl, inr, refl, sym, ap, subst, ◌∙◌, arith, add-one}
use Rattle.std.specs.Bool.{then_some}
use Rattle.std.specs.Prelude.{option_and_then}
use denote.Hole.Carrier as carrier
use Rattle.pm_logic.specs.declared.formula.Term.{Term}
use Rattle.pm_logic.specs.declared.formula.Term.TheVariants.{Lit, Var}
use Rattle.pm_logic.specs.declared.formula.Pure as P
use Rattle.pm_logic.specs.declared.formula.Pure.TheVariants.{True, False, Eq, Le, Lt}
use Rattle.pm_logic.specs.declared.formula.Formula.{Formula}
use Rattle.pm_logic.specs.declared.formula.Formula.TheVariants.{Pure as Fact, Pts, Call}
use Rattle.pm_logic.specs.declared.formula.Formula.TheViews as view
use Rattle.pm_logic.specs.declared.formula.Formula.TheBlock as block
use Rattle.pm_logic.specs.declared.formula.TheConstants.{BOUND}
use Rattle.pm_logic.specs.Trees.{add, sub, neg, scale, both, either, nope, Sep, Wand, And, Or, Imp, All, Ex, Later, Pers, Upd}
use Rattle.pm_logic.specs.Bounds.{IsBounded}
use Rattle.pm_logic.specs.Scope.{ScopedIn}
use Rattle.pm_logic.specs.Size.{term_depth, terms_depth, pure_depth, depth_of}
use Rattle.pm_logic.specs.Substitution.{in_formula, shift_of}
use Rattle.pm_logic.proofs.Scopes.{scoped_in_sep, scoped_in_and, scoped_in_or, scoped_in_wand, scoped_in_quantified, scoped_in_modal}
use Rattle.pm_classes.proofs.Bound.{shift_deep, shifted_in}
use Rattle.pm_classes.proofs.Calls.{both_ways}
use Rattle.pm_classes.proofs.Sizes.{has_levels, depth_sep, depth_and, depth_or, depth_wand, depth_all, depth_ex, depth_later, depth_upd}
use Rattle.pm_goal.specs.Find.{first_of_two}
use Rattle.pm_table.specs.Equality.{formula_eq}
use Rattle.pm_table.specs.Modalities.{under_later}
use Rattle.pm_table.specs.Framing.{truth, star, conjunction, disjunction, above, whole, fewer_units, frame}
use Rattle.pm_table.proofs.Equals.{formula, formula_same}
use Rattle.pm_frame.specs.declared.framed.Framed.{Framed}
use Rattle.pm_frame.specs.Frames.{AreHanded, IsFramed, FrameAnswer, FrameAnswers}
use Rattle.pm_frame.proofs.Parts.{nothing}

-- ---- the form of the conclusion, with the parts as they were got

pub two_is : (node : Formula → Formula → Formula) (q a1 b1 a b : Formula) → q ≡ node a1 b1 → a ≡ a1 → b ≡ b1 → q ≡ node a b
two_is node q a1 b1 a b is ea eb = is ∙ ap (λ z. node z b1) (sym ea) ∙ ap (node a) (sym eb)

pub one_is : (node : Formula → Formula) (q a1 a : Formula) → q ≡ node a1 → a ≡ a1 → q ≡ node a
one_is node q a1 a is ea = is ∙ ap node (sym ea)

-- ---- parts may be handed on

handed_as : (k : ℕ) (r q p : Formula) → q ≡ p → AreHanded k r q → AreHanded k r p
handed_as k r q p is h = subst (AreHanded k r) is h

handed_part : (k : ℕ) (r p a : Formula) → (ScopedIn k p → ScopedIn k a) → depth_of a ≤ depth_of p → AreHanded k r p → AreHanded k r a
handed_part k r p a scoped levels h = record { hypothesis = h.hypothesis; conclusion = scoped h.conclusion; within = omega (arith, h.within, levels) }

pub sep_first : (k : ℕ) (r q a b : Formula) → q ≡ view.Sep a b → AreHanded k r q → AreHanded k r a
sep_first k r q a b is h = handed_part k r (view.Sep a b) a (λ s. (scoped_in_sep k a b s).0) (omega (arith, depth_sep a b)) (handed_as k r q (view.Sep a b) is h)

pub sep_second : (k : ℕ) (r q a b : Formula) → q ≡ view.Sep a b → AreHanded k r q → AreHanded k r b
sep_second k r q a b is h = handed_part k r (view.Sep a b) b (λ s. (scoped_in_sep k a b s).1) (omega (arith, depth_sep a b)) (handed_as k r q (view.Sep a b) is h)

pub and_first : (k : ℕ) (r q a b : Formula) → q ≡ view.And a b → AreHanded k r q → AreHanded k r a
and_first k r q a b is h = handed_part k r (view.And a b) a (λ s. (scoped_in_and k a b s).0) (omega (arith, depth_and a b)) (handed_as k r q (view.And a b) is h)

pub and_second : (k : ℕ) (r q a b : Formula) → q ≡ view.And a b → AreHanded k r q → AreHanded k r b
and_second k r q a b is h = handed_part k r (view.And a b) b (λ s. (scoped_in_and k a b s).1) (omega (arith, depth_and a b)) (handed_as k r q (view.And a b) is h)

pub or_first : (k : ℕ) (r q a b : Formula) → q ≡ view.Or a b → AreHanded k r q → AreHanded k r a
or_first k r q a b is h = handed_part k r (view.Or a b) a (λ s. (scoped_in_or k a b s).0) (omega (arith, depth_or a b)) (handed_as k r q (view.Or a b) is h)

pub or_second : (k : ℕ) (r q a b : Formula) → q ≡ view.Or a b → AreHanded k r q → AreHanded k r b
or_second k r q a b is h = handed_part k r (view.Or a b) b (λ s. (scoped_in_or k a b s).1) (omega (arith, depth_or a b)) (handed_as k r q (view.Or a b) is h)

pub wand_second : (k : ℕ) (r q a1 b1 b : Formula) → q ≡ view.Wand a1 b1 → b ≡ b1 → AreHanded k r q → AreHanded k r b
wand_second k r q a1 b1 b is eb h = let at : q ≡ view.Wand a1 b = is ∙ ap (view.Wand a1) (sym eb) in handed_part k r (view.Wand a1 b) b (λ s. (scoped_in_wand k a1 b s).1) (omega (arith, depth_wand a1 b)) (handed_as k r q (view.Wand a1 b) at h)

pub later_part : (k : ℕ) (r q a : Formula) → q ≡ view.Later a → AreHanded k r q → AreHanded k r a
later_part k r q a is h = handed_part k r (view.Later a) a (scoped_in_modal k (view.Later a) a (inl refl)) (omega (arith, depth_later a)) (handed_as k r q (view.Later a) is h)

pub upd_part : (k : ℕ) (r q a : Formula) → q ≡ view.Upd a → AreHanded k r q → AreHanded k r a
upd_part k r q a is h = handed_part k r (view.Upd a) a (scoped_in_modal k (view.Upd a) a (inr (inr refl))) (omega (arith, depth_upd a)) (handed_as k r q (view.Upd a) is h)

-- what stands under ▷ in both
pub stripped_part : (k : ℕ) (r s q a : Formula) → r ≡ view.Later s → q ≡ view.Later a → AreHanded k r q → AreHanded k s a
stripped_part k r s q a at is h =
    let p = subst (λ (z : Formula). AreHanded k z a) at (later_part k r q a is h) in
    record { hypothesis = scoped_in_modal k (view.Later s) s (inl refl) p.hypothesis; conclusion = p.conclusion; within = omega (arith, p.within, depth_later s) }

-- ---- a shifted formula is no deeper

has_term : (t : Term) → 1 ≤ term_depth t
unfolding term_depth
has_term (Lit z) = omega arith
has_term (Var i) = omega arith
has_term (add s t) = omega arith
has_term (sub s t) = omega arith
has_term (neg t) = omega arith
has_term (scale z t) = omega arith

has_pure : (p : P.Pure) → 1 ≤ pure_depth p
unfolding pure_depth
has_pure True = omega arith
has_pure False = omega arith
has_pure (Eq s t) = omega arith
has_pure (Le s t) = omega arith
has_pure (Lt s t) = omega arith
has_pure (both a b) = omega arith
has_pure (either a b) = omega arith
has_pure (nope a) = omega arith

shift_flat : (f : Formula) → depth_of (shift_of f) ≤ depth_of f
unfolding depth_of terms_depth in_formula
shift_flat (Fact a) = omega (arith, shift_deep (Fact a), has_pure a)
shift_flat (Sep a b) = omega (arith, shift_deep (Sep a b), has_levels a)
shift_flat (Wand a b) = omega (arith, shift_deep (Wand a b), has_levels a)
shift_flat (And a b) = omega (arith, shift_deep (And a b), has_levels a)
shift_flat (Or a b) = omega (arith, shift_deep (Or a b), has_levels a)
shift_flat (Imp a b) = omega (arith, shift_deep (Imp a b), has_levels a)
shift_flat (All a) = omega (arith, shift_deep (All a), has_levels a)
shift_flat (Ex a) = omega (arith, shift_deep (Ex a), has_levels a)
shift_flat (Later a) = omega (arith, shift_deep (Later a), has_levels a)
shift_flat (Pers a) = omega (arith, shift_deep (Pers a), has_levels a)
shift_flat (Upd a) = omega (arith, shift_deep (Upd a), has_levels a)
shift_flat (Pts l u v) = omega (arith, shift_deep (Pts l u v), has_term l)
shift_flat (Call q []) = omega arith
shift_flat (Call q (t ∷ ts)) = omega (arith, shift_deep (Call q (t ∷ ts)), has_term t)

under_binder : (k : ℕ) (r s q a : Formula) → s ≡ shift_of r → ScopedIn (k + 1) a → depth_of q ≡ suc (depth_of a) → AreHanded k r q → AreHanded (k + 1) s a
under_binder k r s q a shifted scoped levels h = record {
  hypothesis = subst (λ (z : Formula). ScopedIn (k + 1) z) (sym shifted) (rw add-one (shifted_in k r h.hypothesis));
  conclusion = scoped;
  within = omega (arith, h.within, levels, ap depth_of shifted, shift_flat r);
}

pub all_part : (k : ℕ) (r s q a : Formula) → s ≡ shift_of r → q ≡ view.All a → AreHanded k r q → AreHanded (k + 1) s a
all_part k r s q a shifted is h = let p = handed_as k r q (view.All a) is h in under_binder k r s (view.All a) a shifted (scoped_in_quantified k (view.All a) a (inl refl) p.conclusion) (depth_all a) p

pub ex_part : (k : ℕ) (r s q a : Formula) → s ≡ shift_of r → q ≡ view.Ex a → AreHanded k r q → AreHanded (k + 1) s a
ex_part k r s q a shifted is h = let p = handed_as k r q (view.Ex a) is h in under_binder k r s (view.Ex a) a shifted (scoped_in_quantified k (view.Ex a) a (inr refl) p.conclusion) (depth_ex a) p

pub hypothesis_bounded : (k : ℕ) (r q : Formula) → AreHanded k r q → IsBounded r
hypothesis_bounded k r q h = record { vars = k; scoped = h.hypothesis; within = omega (arith, h.within) }

pub room : (k : ℕ) (r q : Formula) → AreHanded k r q → k + 1 < BOUND
room k r q h = omega (arith, h.within, has_levels r, has_levels q)

-- ---- the rows, where the conclusion isn't the hypothesis

not_equal : (r q : Formula) → (r ≡ q → ⊥) → formula_eq r q ≡ false
not_equal r q isnt = go (formula_eq r q) refl
  where
    go : (c : Bool) → formula_eq r q ≡ c → c ≡ false
    go true is = absurd (isnt (formula r q is))
    go false is = refl

not_whole : (r q : Formula) (o : Option Formula) → (r ≡ q → ⊥) → first_of_two (whole r q) o ≡ o
unfolding whole
not_whole r q o isnt = ap (λ (c : Bool). first_of_two (then_some c truth) o) (not_equal r q isnt)

pts_row : (r : Formula) (l : Term) (u : ℕ) (v : Term) → frame r (Pts l u v) ≡ first_of_two (whole r (Pts l u v)) (fewer_units r l u v)
unfolding frame
pts_row r l u v = refl

sep_row : (r a b : Formula) → frame r (view.Sep a b) ≡ first_of_two (whole r (view.Sep a b)) (star a b (frame r a) (frame r b))
unfolding block.shape-the_row-Formula-0 block.hidden-the_row-Formula-0 carrier.hidden frame
sep_row r a b = refl

and_row : (r a b : Formula) → frame r (view.And a b) ≡ first_of_two (whole r (view.And a b)) (conjunction a b (frame r a) (frame r b))
unfolding block.shape-the_row-Formula-0 block.hidden-the_row-Formula-0 carrier.hidden frame
and_row r a b = refl

or_row : (r a b : Formula) → frame r (view.Or a b) ≡ first_of_two (whole r (view.Or a b)) (disjunction a b (frame r a) (frame r b))
unfolding block.shape-the_row-Formula-0 block.hidden-the_row-Formula-0 carrier.hidden frame
or_row r a b = refl

ex_row : (r a : Formula) → frame r (view.Ex a) ≡ first_of_two (whole r (view.Ex a)) (above view.Ex (frame (shift_of r) a))
unfolding block.shape-the_row-Formula-0 block.hidden-the_row-Formula-0 carrier.hidden frame
ex_row r a = refl

all_row : (r a : Formula) → frame r (view.All a) ≡ first_of_two (whole r (view.All a)) (above view.All (frame (shift_of r) a))
unfolding block.shape-the_row-Formula-0 block.hidden-the_row-Formula-0 carrier.hidden frame
all_row r a = refl

upd_row : (r a : Formula) → frame r (view.Upd a) ≡ first_of_two (whole r (view.Upd a)) (above view.Upd (frame r a))
unfolding block.shape-the_row-Formula-0 block.hidden-the_row-Formula-0 carrier.hidden frame
upd_row r a = refl

wand_row : (r a b : Formula) → frame r (view.Wand a b) ≡ first_of_two (whole r (view.Wand a b)) (above (view.Wand a) (frame r b))
unfolding block.shape-the_row-Formula-0 block.hidden-the_row-Formula-0 carrier.hidden frame
wand_row r a b = refl

later_row : (r a : Formula) → frame r (view.Later a) ≡ first_of_two (whole r (view.Later a)) (above view.Later (first_of_two (option_and_then (λ s. frame s a) (under_later r)) (frame r a)))
unfolding block.shape-the_row-Formula-0 block.hidden-the_row-Formula-0 carrier.hidden frame
later_row r a = refl

strips : (s : Formula) → under_later (view.Later s) ≡ Some s
unfolding block.shape-the_row-Formula-0 block.hidden-the_row-Formula-0 carrier.hidden under_later
strips s = refl

strips_not : (r : Formula) → ((s : Formula) → r ≡ view.Later s → ⊥) → under_later r ≡ None
unfolding block.shape-the_row-Formula-0 block.hidden-the_row-Formula-0 carrier.hidden under_later
strips_not (Later s) isnt = absurd (isnt s refl)
strips_not _ isnt = refl

pub not_same : (c : Bool) (r q : Formula) → (IsTrue c ↔ (r ≡ q)) → c ≡ false → r ≡ q → ⊥
not_same c r q test fails e = both_ways c (test.1 e) fails

-- ---- the answers

arm : (k : ℕ) (r q p : Formula) (o : Option Formula) (f : Option Framed) → q ≡ p → (r ≡ q → ⊥) → frame r p ≡ first_of_two (whole r p) o → FrameAnswers k r p o f → FrameAnswer k r q f
arm k r q p o f is isnt row h =
    let not_p : r ≡ p → ⊥ = λ e. isnt (e ∙ sym is) in
    subst (λ (z : Formula). FrameAnswer k r z f) (sym is) (subst (λ (z : Option Formula). FrameAnswers k r p z f) (sym (row ∙ not_whole r p o not_p)) h)

first_is : (o u : Option Formula) → o ≡ Some truth → first_of_two o u ≡ Some truth
first_is o u is = ap (λ z. first_of_two z u) is

is_whole : (r : Formula) → whole r r ≡ Some truth
unfolding whole
is_whole r = ap (λ (c : Bool). then_some c truth) (formula_same r)

whole_is : (r : Formula) → frame r r ≡ Some truth
unfolding frame
whole_is (Pts l b v) = first_is (whole (Pts l b v) (Pts l b v)) (fewer_units (Pts l b v) l b v) (is_whole (Pts l b v))
whole_is (Sep a b) = let q = Sep a b in first_is (whole q q) (star a b (frame q a) (frame q b)) (is_whole q)
whole_is (And a b) = let q = And a b in first_is (whole q q) (conjunction a b (frame q a) (frame q b)) (is_whole q)
whole_is (Or a b) = let q = Or a b in first_is (whole q q) (disjunction a b (frame q a) (frame q b)) (is_whole q)
whole_is (Ex a) = let q = Ex a in first_is (whole q q) (above (λ x. Ex x) (frame (shift_of q) a)) (is_whole q)
whole_is (All a) = let q = All a in first_is (whole q q) (above (λ x. All x) (frame (shift_of q) a)) (is_whole q)
whole_is (Later a) = let q = Later a in first_is (whole q q) (above (λ x. Later x) (first_of_two (option_and_then (λ s. frame s a) (under_later q)) (frame q a))) (is_whole q)
whole_is (Upd a) = let q = Upd a in first_is (whole q q) (above (λ x. Upd x) (frame q a)) (is_whole q)
whole_is (Wand a b) = let q = Wand a b in first_is (whole q q) (above (λ x. Wand a x) (frame q b)) (is_whole q)
whole_is (Fact p) = is_whole (Fact p)
whole_is (Imp a b) = is_whole (Imp a b)
whole_is (Pers a) = is_whole (Pers a)
whole_is (Call p args) = is_whole (Call p args)

pub whole_arm : (k : ℕ) (r q : Formula) (f : Framed) → r ≡ q → IsFramed k r r truth f → FrameAnswer k r q (Some f)
whole_arm k r q f same h = subst (λ (z : Formula). FrameAnswer k r z (Some f)) same (subst (λ (z : Option Formula). FrameAnswers k r r z (Some f)) (sym (whole_is r)) h)

pub pts_arm : (k : ℕ) (r q : Formula) (l : Term) (u : ℕ) (v : Term) (f : Option Framed) → q ≡ Pts l u v → (r ≡ q → ⊥) → FrameAnswers k r (Pts l u v) (fewer_units r l u v) f → FrameAnswer k r q f
pts_arm k r q l u v f is isnt h = arm k r q (Pts l u v) (fewer_units r l u v) f is isnt (pts_row r l u v) h

pub sep_arm : (k : ℕ) (r q a b : Formula) (f : Option Framed) → q ≡ view.Sep a b → (r ≡ q → ⊥) → FrameAnswers k r (view.Sep a b) (star a b (frame r a) (frame r b)) f → FrameAnswer k r q f
sep_arm k r q a b f is isnt h = arm k r q (view.Sep a b) (star a b (frame r a) (frame r b)) f is isnt (sep_row r a b) h

pub and_arm : (k : ℕ) (r q a b : Formula) (f : Option Framed) → q ≡ view.And a b → (r ≡ q → ⊥) → FrameAnswers k r (view.And a b) (conjunction a b (frame r a) (frame r b)) f → FrameAnswer k r q f
and_arm k r q a b f is isnt h = arm k r q (view.And a b) (conjunction a b (frame r a) (frame r b)) f is isnt (and_row r a b) h

pub or_arm : (k : ℕ) (r q a b : Formula) (f : Option Framed) → q ≡ view.Or a b → (r ≡ q → ⊥) → FrameAnswers k r (view.Or a b) (disjunction a b (frame r a) (frame r b)) f → FrameAnswer k r q f
or_arm k r q a b f is isnt h = arm k r q (view.Or a b) (disjunction a b (frame r a) (frame r b)) f is isnt (or_row r a b) h

pub ex_arm : (k : ℕ) (r q a : Formula) (f : Option Framed) → q ≡ view.Ex a → (r ≡ q → ⊥) → FrameAnswers k r (view.Ex a) (above view.Ex (frame (shift_of r) a)) f → FrameAnswer k r q f
ex_arm k r q a f is isnt h = arm k r q (view.Ex a) (above view.Ex (frame (shift_of r) a)) f is isnt (ex_row r a) h

pub all_arm : (k : ℕ) (r q a : Formula) (f : Option Framed) → q ≡ view.All a → (r ≡ q → ⊥) → FrameAnswers k r (view.All a) (above view.All (frame (shift_of r) a)) f → FrameAnswer k r q f
all_arm k r q a f is isnt h = arm k r q (view.All a) (above view.All (frame (shift_of r) a)) f is isnt (all_row r a) h

pub upd_arm : (k : ℕ) (r q a : Formula) (f : Option Framed) → q ≡ view.Upd a → (r ≡ q → ⊥) → FrameAnswers k r (view.Upd a) (above view.Upd (frame r a)) f → FrameAnswer k r q f
upd_arm k r q a f is isnt h = arm k r q (view.Upd a) (above view.Upd (frame r a)) f is isnt (upd_row r a) h

pub wand_arm : (k : ℕ) (r q a b : Formula) (f : Option Framed) → q ≡ view.Wand a b → (r ≡ q → ⊥) → FrameAnswers k r (view.Wand a b) (above (view.Wand a) (frame r b)) f → FrameAnswer k r q f
wand_arm k r q a b f is isnt h = arm k r q (view.Wand a b) (above (view.Wand a) (frame r b)) f is isnt (wand_row r a b) h

-- what is left under ▷, of the hypothesis without its own ▷ where it has one and else of itself
under : Formula → Formula → Option Formula
under r a = first_of_two (option_and_then (λ s. frame s a) (under_later r)) (frame r a)

later_at : (k : ℕ) (r q a : Formula) (o : Option Formula) (f : Option Framed) → q ≡ view.Later a → (r ≡ q → ⊥) → under r a ≡ o → FrameAnswers k r (view.Later a) (above view.Later o) f → FrameAnswer k r q f
unfolding under
later_at k r q a o f is isnt row h = arm k r q (view.Later a) (above view.Later o) f is isnt (later_row r a ∙ ap (λ z. first_of_two (whole r (view.Later a)) (above view.Later z)) row) h

not_later : (r a : Formula) → ((s : Formula) → r ≡ view.Later s → ⊥) → under r a ≡ frame r a
unfolding under
not_later r a isnt = ap (λ z. first_of_two (option_and_then (λ s. frame s a) z) (frame r a)) (strips_not r isnt)

stripped : (r s a : Formula) (o : Option Formula) → r ≡ view.Later s → frame s a ≡ o → under r a ≡ first_of_two o (frame r a)
unfolding under
stripped r s a o is row = ap (λ z. first_of_two (option_and_then (λ s. frame s a) z) (frame r a)) (ap under_later is ∙ strips s) ∙ ap (λ z. first_of_two z (frame r a)) row

pub later_arm : (k : ℕ) (r q a : Formula) (f : Option Framed) → q ≡ view.Later a → (r ≡ q → ⊥) → ((s : Formula) → r ≡ view.Later s → ⊥) → FrameAnswers k r (view.Later a) (above view.Later (frame r a)) f → FrameAnswer k r q f
later_arm k r q a f is isnt not h = later_at k r q a (frame r a) f is isnt (not_later r a not) h

pub stripped_not_arm : (k : ℕ) (r s q a : Formula) (f : Option Framed) → r ≡ view.Later s → q ≡ view.Later a → (r ≡ q → ⊥) → FrameAnswer k s a None → FrameAnswers k r (view.Later a) (above view.Later (frame r a)) f → FrameAnswer k r q f
stripped_not_arm k r s q a f at is isnt none h = later_at k r q a (frame r a) f is isnt (stripped r s a None at (nothing k s a (frame s a) none)) h

there : (k : ℕ) (s a : Formula) (o u : Option Formula) (x : Framed) → FrameAnswers k s a o (Some x) → first_of_two o u ≡ o
there k s a None u x h = absurd h
there k s a (Some g) u x h = refl

pub stripped_arm : (k : ℕ) (r s q a : Formula) (x : Framed) (f : Option Framed) → r ≡ view.Later s → q ≡ view.Later a → (r ≡ q → ⊥) → FrameAnswer k s a (Some x) → FrameAnswers k (view.Later s) (view.Later a) (above view.Later (frame s a)) f → FrameAnswer k r q f
stripped_arm k r s q a x f at is isnt some h = later_at k r q a (frame s a) f is isnt (stripped r s a (frame s a) at refl ∙ there k s a (frame s a) (frame r a) x some) (subst (λ (z : Formula). FrameAnswers k z (view.Later a) (above view.Later (frame s a)) f) (sym at) h)

only : (o : Option Formula) → o ≡ first_of_two o None
only None = refl
only (Some f) = refl

rest_row : (r q : Formula) → ((l : Term) (u : ℕ) (v : Term) → q ≡ Pts l u v → ⊥) → ((a b : Formula) → q ≡ view.Sep a b → ⊥) → ((a b : Formula) → q ≡ view.And a b → ⊥) → ((a b : Formula) → q ≡ view.Or a b → ⊥) → ((a : Formula) → q ≡ view.Ex a → ⊥) → ((a : Formula) → q ≡ view.All a → ⊥) → ((a : Formula) → q ≡ view.Later a → ⊥) → ((a : Formula) → q ≡ view.Upd a → ⊥) → ((a b : Formula) → q ≡ view.Wand a b → ⊥) → frame r q ≡ first_of_two (whole r q) None
unfolding block.shape-the_row-Formula-0 block.hidden-the_row-Formula-0 carrier.hidden frame
rest_row r (Pts l u v) pts sep and_ or_ ex all later upd wand = absurd (pts l u v refl)
rest_row r (Sep a b) pts sep and_ or_ ex all later upd wand = absurd (sep a b refl)
rest_row r (And a b) pts sep and_ or_ ex all later upd wand = absurd (and_ a b refl)
rest_row r (Or a b) pts sep and_ or_ ex all later upd wand = absurd (or_ a b refl)
rest_row r (Ex a) pts sep and_ or_ ex all later upd wand = absurd (ex a refl)
rest_row r (All a) pts sep and_ or_ ex all later upd wand = absurd (all a refl)
rest_row r (Later a) pts sep and_ or_ ex all later upd wand = absurd (later a refl)
rest_row r (Upd a) pts sep and_ or_ ex all later upd wand = absurd (upd a refl)
rest_row r (Wand a b) pts sep and_ or_ ex all later upd wand = absurd (wand a b refl)
rest_row r (Fact p) pts sep and_ or_ ex all later upd wand = only (whole r (Fact p))
rest_row r (Imp a b) pts sep and_ or_ ex all later upd wand = only (whole r (Imp a b))
rest_row r (Pers a) pts sep and_ or_ ex all later upd wand = only (whole r (Pers a))
rest_row r (Call p args) pts sep and_ or_ ex all later upd wand = only (whole r (Call p args))

pub rest_arm : (k : ℕ) (r q : Formula) → (r ≡ q → ⊥) → ((l : Term) (u : ℕ) (v : Term) → q ≡ Pts l u v → ⊥) → ((a b : Formula) → q ≡ view.Sep a b → ⊥) → ((a b : Formula) → q ≡ view.And a b → ⊥) → ((a b : Formula) → q ≡ view.Or a b → ⊥) → ((a : Formula) → q ≡ view.Ex a → ⊥) → ((a : Formula) → q ≡ view.All a → ⊥) → ((a : Formula) → q ≡ view.Later a → ⊥) → ((a : Formula) → q ≡ view.Upd a → ⊥) → ((a b : Formula) → q ≡ view.Wand a b → ⊥) → FrameAnswer k r q None
rest_arm k r q isnt pts sep and_ or_ ex all later upd wand = arm k r q q None None refl isnt (rest_row r q pts sep and_ or_ ex all later upd wand) tt
