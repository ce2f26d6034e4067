-- Conclusions that follow from one new conclusion.
use Rattle.std.proofs.Common.{◌≡◌, inl, inr, ℕ, suc, ◌+◌, ◌<◌, ◌≤◌, max, Bool, true, false, if◌then◌else◌, [], ◌∷◌, refl, sym, ◌∙◌, subst, arith, Some, None, option_map}
use Rattle.pm_logic.specs.declared.formula.Term.{Term}
use Rattle.pm_logic.specs.declared.formula.Pure as P
use Rattle.pm_logic.specs.declared.formula.Pure.TheVariants.{True, False, Eq, Le, Lt}
use Rattle.pm_logic.specs.declared.formula.Pure.TheViews as pure_view
use Rattle.pm_logic.specs.declared.formula.Formula.{Formula}
use Rattle.pm_logic.specs.declared.formula.Formula.TheVariants.{Pure as Assert, Pts, Call}
use Rattle.pm_logic.specs.declared.formula.Formula.TheViews as view
use Rattle.pm_logic.specs.declared.formula.TheConstants.{BOUND}
use Rattle.pm_logic.specs.Trees.{both, either, nope, Sep, Wand, And, Or, Imp, All, Ex, Later, Pers, Upd}
use Rattle.pm_logic.specs.Bounds.{IsBounded, past_indices}
use Rattle.pm_logic.specs.Scope.{ScopedIn, TermScoped}
use Rattle.pm_logic.specs.Size.{depth_of}
use Rattle.pm_logic.specs.Substitution.{opened_of}
use Rattle.pm_logic.proofs.Grows.{term_grows}
use Rattle.pm_logic.proofs.Scopes.{scoped_in_quantified}
use Rattle.pm_logic.proofs.Sizes.{depth_pair, depth_pure, depth_either, depth_quantified}
use Rattle.pm_logic.proofs.Views.{view_either, view_or, view_ex}
use Rattle.pm_proof.specs.Trees.{Tree, entail, side_depth}
use Rattle.pm_proof.specs.Known.{Proves, Every}
use Rattle.pm_proof.specs.Valid.{TermFits}
use Rattle.pm_proof.proofs.Fills.{weaker}
use Rattle.pm_schemes.specs.Sketches.{deepest}
use Rattle.pm_classes.specs.declared.entry.One.{One}
use Rattle.pm_table.specs.Basic.{or_parts, body_of_ex}
use Rattle.pm_basic.specs.Enough.{Suffices, IsEnough, Enough, picked}

pub falsity_suffices : (k : ℕ) (c : Formula) (t : Tree) → Proves Every (entail k (Assert False) c) [] 1 (deepest (c ∷ []) [] + 2) k t → Suffices k c (Assert False) t
falsity_suffices k c t p = weaker Every (entail k (Assert False) c) [] 1 (deepest (c ∷ []) [] + 2) k 10 (max (depth_of (Assert False)) (depth_of c) + 8) k t (omega arith) (omega arith) (omega arith) p

-- ---- disjunctions

module _ (k : ℕ) (a b : Formula) where
  depth_or : depth_of (view.Or a b) ≡ suc (max (depth_of a) (depth_of b))
  depth_or = depth_pair (view.Or a b) a b (inr (inr (inr (inl refl))))

  pub in_or_first : (first : Bool) (f : Formula) (t : Tree) → first ≡ true → f ≡ a → Proves Every (entail k a (view.Or a b)) [] 1 (deepest (a ∷ b ∷ []) [] + 1) k t → IsEnough k (view.Or a b) (if first then a else b) (record { formula = f; proof = t })
  in_or_first first f t e is p =
      subst (λ (x : Bool). IsEnough k (view.Or a b) (if x then a else b) (record { formula = f; proof = t })) (sym e)
      (record { formula = is; proof = weaker Every (entail k a (view.Or a b)) [] 1 (deepest (a ∷ b ∷ []) [] + 1) k 10 (max (depth_of a) (depth_of (view.Or a b)) + 8) k t (omega arith) (omega (arith, depth_or)) (omega arith) p })

  pub in_or_second : (first : Bool) (f : Formula) (t : Tree) → first ≡ false → f ≡ b → Proves Every (entail k b (view.Or a b)) [] 1 (deepest (a ∷ b ∷ []) [] + 1) k t → IsEnough k (view.Or a b) (if first then a else b) (record { formula = f; proof = t })
  in_or_second first f t e is p =
      subst (λ (x : Bool). IsEnough k (view.Or a b) (if x then a else b) (record { formula = f; proof = t })) (sym e)
      (record { formula = is; proof = weaker Every (entail k b (view.Or a b)) [] 1 (deepest (a ∷ b ∷ []) [] + 1) k 10 (max (depth_of b) (depth_of (view.Or a b)) + 8) k t (omega arith) (omega (arith, depth_or)) (omega arith) p })

module _ (k : ℕ) (p q : P.Pure) where
  abbrev fact : Formula
  fact = Assert (pure_view.Or p q)

  near : deepest [] (p ∷ q ∷ []) + 2 ≤ depth_of (Assert (pure_view.Or p q)) + 8
  near = omega (arith, depth_pure (pure_view.Or p q), depth_either p q)

  pub in_either_first : (first : Bool) (f : Formula) (t : Tree) → first ≡ true → f ≡ Assert p → Proves Every (entail k (Assert p) fact) [] 3 (deepest [] (p ∷ q ∷ []) + 2) k t → IsEnough k fact (if first then Assert p else Assert q) (record { formula = f; proof = t })
  in_either_first first f t e is h =
      subst (λ (y : Bool). IsEnough k fact (if y then Assert p else Assert q) (record { formula = f; proof = t })) (sym e)
      (record { formula = is; proof = weaker Every (entail k (Assert p) fact) [] 3 (deepest [] (p ∷ q ∷ []) + 2) k 10 (max (depth_of (Assert p)) (depth_of fact) + 8) k t (omega arith) (omega (arith, near)) (omega arith) h })

  pub in_either_second : (first : Bool) (f : Formula) (t : Tree) → first ≡ false → f ≡ Assert q → Proves Every (entail k (Assert q) fact) [] 3 (deepest [] (p ∷ q ∷ []) + 2) k t → IsEnough k fact (if first then Assert p else Assert q) (record { formula = f; proof = t })
  in_either_second first f t e is h =
      subst (λ (y : Bool). IsEnough k fact (if y then Assert p else Assert q) (record { formula = f; proof = t })) (sym e)
      (record { formula = is; proof = weaker Every (entail k (Assert q) fact) [] 3 (deepest [] (p ∷ q ∷ []) + 2) k 10 (max (depth_of (Assert q)) (depth_of fact) + 8) k t (omega arith) (omega (arith, near)) (omega arith) h })

module _ (k : ℕ) (first : Bool) where
  pub pure_or : (f p q : P.Pure) (r : One) → f ≡ pure_view.Or p q → IsEnough k (Assert (pure_view.Or p q)) (if first then Assert p else Assert q) r → Enough k (Assert f) (option_map (picked first) (or_parts (Assert f))) (Some r)
  pure_or f p q r is enough =
      subst (λ (x : P.Pure). Enough k (Assert x) (option_map (picked first) (or_parts (Assert x))) (Some r)) (sym (is ∙ view_either p q))
      (subst (λ (x : P.Pure). IsEnough k (Assert x) (if first then Assert p else Assert q) r) (view_either p q) enough)

  pub pure_no_or : (f : P.Pure) → ((p q : P.Pure) → ¬ (f ≡ pure_view.Or p q)) → Enough k (Assert f) (option_map (picked first) (or_parts (Assert f))) None
  pure_no_or True never = tt
  pure_no_or False never = tt
  pure_no_or (Eq s t) never = tt
  pure_no_or (Le s t) never = tt
  pure_no_or (Lt s t) never = tt
  pure_no_or (both p q) never = tt
  pure_no_or (either p q) never = absurd (never p q (sym (view_either p q)))
  pure_no_or (nope p) never = tt

  pub formula_or : (c a b : Formula) (r : One) → c ≡ view.Or a b → IsEnough k (view.Or a b) (if first then a else b) r → Enough k c (option_map (picked first) (or_parts c)) (Some r)
  formula_or c a b r is enough =
      subst (λ (x : Formula). Enough k x (option_map (picked first) (or_parts x)) (Some r)) (sym (is ∙ view_or a b))
      (subst (λ (x : Formula). IsEnough k x (if first then a else b) r) (view_or a b) enough)

  pub formula_no_or : (c : Formula) → ((a b : Formula) → ¬ (c ≡ view.Or a b)) → ((p : P.Pure) → ¬ (c ≡ Assert p)) → Enough k c (option_map (picked first) (or_parts c)) None
  formula_no_or (Assert p) never other = absurd (other p refl)
  formula_no_or (Or a b) never other = absurd (never a b (sym (view_or a b)))
  formula_no_or (Sep a b) never other = tt
  formula_no_or (Wand a b) never other = tt
  formula_no_or (And a b) never other = tt
  formula_no_or (Imp a b) never other = tt
  formula_no_or (All a) never other = tt
  formula_no_or (Ex a) never other = tt
  formula_no_or (Later a) never other = tt
  formula_no_or (Pers a) never other = tt
  formula_no_or (Upd a) never other = tt
  formula_no_or (Pts l u v) never other = tt
  formula_no_or (Call q args) never other = tt

-- ---- existentials

module _ (k : ℕ) (t : Term) where
  abbrev at_term : Formula → Formula
  at_term b = opened_of b t

  pub bounded_body : (b : Formula) → ScopedIn (k + 1) b → k + depth_of b < BOUND → IsBounded b
  bounded_body b s le = record { vars = k + 1; scoped = s; within = omega (arith, le) }

  pub term_placed : k ≤ BOUND → TermFits k t → TermScoped past_indices t
  unfolding past_indices
  term_placed le h = term_grows k past_indices t (omega arith) h.scoped

  pub instance_is : (b f : Formula) (p : Tree) → f ≡ at_term b → Proves Every (entail k (at_term b) (view.Ex b)) [] 1 (side_depth (entail k (at_term b) (view.Ex b))) k p → IsEnough k (view.Ex b) (at_term b) (record { formula = f; proof = p })
  instance_is b f p is h = record { formula = is; proof = weaker Every (entail k (at_term b) (view.Ex b)) [] 1 (side_depth (entail k (at_term b) (view.Ex b))) k 10 (max (depth_of (at_term b)) (depth_of (view.Ex b)) + 8) k p (omega arith) (omega arith) (omega arith) h }

  pub body_scoped : (c b : Formula) → c ≡ view.Ex b → ScopedIn k c → ScopedIn (k + 1) b
  body_scoped c b is s = scoped_in_quantified k c b (inr is) s

  pub body_small : (c b : Formula) → c ≡ view.Ex b → k + depth_of c < BOUND → k + depth_of b < BOUND
  body_small c b is le = omega (arith, le, depth_quantified c b (inr is))

  pub formula_ex : (c b : Formula) (r : One) → c ≡ view.Ex b → IsEnough k (view.Ex b) (at_term b) r → Enough k c (option_map at_term (body_of_ex c)) (Some r)
  formula_ex c b r is enough =
      subst (λ (x : Formula). Enough k x (option_map at_term (body_of_ex x)) (Some r)) (sym (is ∙ view_ex b))
      (subst (λ (x : Formula). IsEnough k x (at_term b) r) (view_ex b) enough)

  pub formula_no_ex : (c : Formula) → ((b : Formula) → ¬ (c ≡ view.Ex b)) → Enough k c (option_map at_term (body_of_ex c)) None
  formula_no_ex (Ex b) never = absurd (never b (sym (view_ex b)))
  formula_no_ex (Assert p) never = tt
  formula_no_ex (Or a b) never = tt
  formula_no_ex (Sep a b) never = tt
  formula_no_ex (Wand a b) never = tt
  formula_no_ex (And a b) never = tt
  formula_no_ex (Imp a b) never = tt
  formula_no_ex (All a) never = tt
  formula_no_ex (Later a) never = tt
  formula_no_ex (Pers a) never = tt
  formula_no_ex (Upd a) never = tt
  formula_no_ex (Pts l u v) never = tt
  formula_no_ex (Call q args) never = tt
