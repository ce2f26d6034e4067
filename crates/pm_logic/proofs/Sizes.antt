-- Depths and numbers of nodes at the variants as code makes them.
use Rattle.std.proofs.Common.{◌≡◌, ◌⊎◌, inl, inr, ℕ, zero, suc, ℤ, ◌+◌, ◌<◌, ◌≤◌, max, List, [], ◌∷◌, length, take, get_or, refl, ap, sym, ◌∙◌, add-one, add_assoc, arith}
use Rattle.pm_logic.specs.declared.formula.Term.{Term, the_lemmas as term_lemmas}
use Rattle.pm_logic.specs.declared.formula.Term.TheVariants.{Lit, Var}
use Rattle.pm_logic.specs.declared.formula.Term.TheViews as term
use Rattle.pm_logic.specs.declared.formula.Term.TheBlock as term_block
use denote.Hole.Carrier as carrier
use Rattle.pm_logic.specs.declared.formula.Pure.{Pure, the_lemmas as pure_lemmas}
use Rattle.pm_logic.specs.declared.formula.Pure.TheVariants.{True, False, Eq, Le, Lt}
use Rattle.pm_logic.specs.declared.formula.Pure.TheViews as pure
use Rattle.pm_logic.specs.declared.formula.Pure.TheBlock as pure_block
use Rattle.pm_logic.specs.declared.formula.Formula.{Formula, the_lemmas}
use Rattle.pm_logic.specs.declared.formula.Formula.TheVariants.{Pure as Fact, Pts, Call}
use Rattle.pm_logic.specs.declared.formula.Formula.TheViews as view
use Rattle.pm_logic.specs.declared.formula.Formula.TheBlock as block
use Rattle.pm_logic.specs.Size.{term_depth, terms_depth, pure_depth, depth_of, term_nodes, terms_nodes, pure_nodes, nodes_of}

pub depth_lit : (z : ℤ) → term_depth (Lit z) ≡ 1
unfolding term_depth
depth_lit z = refl

pub depth_var : (i : ℕ) → term_depth (Var i) ≡ 1
unfolding term_depth
depth_var i = refl

pub depth_add : (a b : Term) → term_depth (term.Add a b) ≡ suc (max (term_depth a) (term_depth b))
unfolding term_block.shape-the_row-Term-0 term_block.hidden-the_row-Term-0 carrier.hidden term_depth
depth_add a b = refl

pub depth_sub : (a b : Term) → term_depth (term.Sub a b) ≡ suc (max (term_depth a) (term_depth b))
unfolding term_block.shape-the_row-Term-0 term_block.hidden-the_row-Term-0 carrier.hidden term_depth
depth_sub a b = refl

pub depth_neg : (a : Term) → term_depth (term.Neg a) ≡ suc (term_depth a)
unfolding term_block.shape-the_row-Term-0 term_block.hidden-the_row-Term-0 carrier.hidden term_depth
depth_neg a = refl

pub depth_scale : (z : ℤ) (a : Term) → term_depth (term.Scale z a) ≡ suc (term_depth a)
unfolding term_block.shape-the_row-Term-0 term_block.hidden-the_row-Term-0 carrier.hidden term_depth
depth_scale z a = refl

pub depth_true : pure_depth True ≡ 1
unfolding pure_depth
depth_true = refl

pub depth_false : pure_depth False ≡ 1
unfolding pure_depth
depth_false = refl

pub depth_eq : (a b : Term) → pure_depth (Eq a b) ≡ suc (max (term_depth a) (term_depth b))
unfolding pure_depth
depth_eq a b = refl

pub depth_le : (a b : Term) → pure_depth (Le a b) ≡ suc (max (term_depth a) (term_depth b))
unfolding pure_depth
depth_le a b = refl

pub depth_lt : (a b : Term) → pure_depth (Lt a b) ≡ suc (max (term_depth a) (term_depth b))
unfolding pure_depth
depth_lt a b = refl

pub depth_both : (a b : Pure) → pure_depth (pure.And a b) ≡ suc (max (pure_depth a) (pure_depth b))
unfolding pure_block.shape-the_row-Pure-0 pure_block.hidden-the_row-Pure-0 carrier.hidden pure_depth
depth_both a b = refl

pub depth_either : (a b : Pure) → pure_depth (pure.Or a b) ≡ suc (max (pure_depth a) (pure_depth b))
unfolding pure_block.shape-the_row-Pure-0 pure_block.hidden-the_row-Pure-0 carrier.hidden pure_depth
depth_either a b = refl

pub depth_not : (a : Pure) → pure_depth (pure.Not a) ≡ suc (pure_depth a)
unfolding pure_block.shape-the_row-Pure-0 pure_block.hidden-the_row-Pure-0 carrier.hidden pure_depth
depth_not a = refl

pub depth_pair : (f a b : Formula) → (f ≡ view.Sep a b) ⊎ ((f ≡ view.Wand a b) ⊎ ((f ≡ view.And a b) ⊎ ((f ≡ view.Or a b) ⊎ (f ≡ view.Imp a b)))) → depth_of f ≡ suc (max (depth_of a) (depth_of b))
unfolding block.shape-the_row-Formula-0 block.hidden-the_row-Formula-0 carrier.hidden depth_of
depth_pair f a b (inl e) = ap depth_of e
depth_pair f a b (inr (inl e)) = ap depth_of e
depth_pair f a b (inr (inr (inl e))) = ap depth_of e
depth_pair f a b (inr (inr (inr (inl e)))) = ap depth_of e
depth_pair f a b (inr (inr (inr (inr e)))) = ap depth_of e

pub depth_quantified : (f a : Formula) → (f ≡ view.All a) ⊎ (f ≡ view.Ex a) → depth_of f ≡ suc (depth_of a)
unfolding block.shape-the_row-Formula-0 block.hidden-the_row-Formula-0 carrier.hidden depth_of
depth_quantified f a (inl e) = ap depth_of e
depth_quantified f a (inr e) = ap depth_of e

pub depth_modal : (f a : Formula) → (f ≡ view.Later a) ⊎ ((f ≡ view.Pers a) ⊎ (f ≡ view.Upd a)) → depth_of f ≡ suc (depth_of a)
unfolding block.shape-the_row-Formula-0 block.hidden-the_row-Formula-0 carrier.hidden depth_of
depth_modal f a (inl e) = ap depth_of e
depth_modal f a (inr (inl e)) = ap depth_of e
depth_modal f a (inr (inr e)) = ap depth_of e

pub depth_pure : (a : Pure) → depth_of (Fact a) ≡ suc (pure_depth a)
unfolding depth_of
depth_pure a = refl

pub depth_pts : (l : Term) (u : ℕ) (v : Term) → depth_of (Pts l u v) ≡ suc (max (term_depth l) (term_depth v))
unfolding depth_of
depth_pts l u v = refl

pub depth_call : (q : ℕ) (args : List Term) → depth_of (Call q args) ≡ suc (terms_depth args)
unfolding depth_of
depth_call q args = refl

pub nodes_lit : (z : ℤ) → term_nodes (Lit z) ≡ 1
unfolding term_nodes
nodes_lit z = refl

pub nodes_var : (i : ℕ) → term_nodes (Var i) ≡ 1
unfolding term_nodes
nodes_var i = refl

pub nodes_add : (a b : Term) → term_nodes (term.Add a b) ≡ suc (term_nodes a + term_nodes b)
unfolding term_block.shape-the_row-Term-0 term_block.hidden-the_row-Term-0 carrier.hidden term_nodes
nodes_add a b = refl

pub nodes_sub : (a b : Term) → term_nodes (term.Sub a b) ≡ suc (term_nodes a + term_nodes b)
unfolding term_block.shape-the_row-Term-0 term_block.hidden-the_row-Term-0 carrier.hidden term_nodes
nodes_sub a b = refl

pub nodes_neg : (a : Term) → term_nodes (term.Neg a) ≡ suc (term_nodes a)
unfolding term_block.shape-the_row-Term-0 term_block.hidden-the_row-Term-0 carrier.hidden term_nodes
nodes_neg a = refl

pub nodes_scale : (z : ℤ) (a : Term) → term_nodes (term.Scale z a) ≡ suc (term_nodes a)
unfolding term_block.shape-the_row-Term-0 term_block.hidden-the_row-Term-0 carrier.hidden term_nodes
nodes_scale z a = refl

pub nodes_true : pure_nodes True ≡ 1
unfolding pure_nodes
nodes_true = refl

pub nodes_false : pure_nodes False ≡ 1
unfolding pure_nodes
nodes_false = refl

pub nodes_eq : (a b : Term) → pure_nodes (Eq a b) ≡ suc (term_nodes a + term_nodes b)
unfolding pure_nodes
nodes_eq a b = refl

pub nodes_le : (a b : Term) → pure_nodes (Le a b) ≡ suc (term_nodes a + term_nodes b)
unfolding pure_nodes
nodes_le a b = refl

pub nodes_lt : (a b : Term) → pure_nodes (Lt a b) ≡ suc (term_nodes a + term_nodes b)
unfolding pure_nodes
nodes_lt a b = refl

pub nodes_both : (a b : Pure) → pure_nodes (pure.And a b) ≡ suc (pure_nodes a + pure_nodes b)
unfolding pure_block.shape-the_row-Pure-0 pure_block.hidden-the_row-Pure-0 carrier.hidden pure_nodes
nodes_both a b = refl

pub nodes_either : (a b : Pure) → pure_nodes (pure.Or a b) ≡ suc (pure_nodes a + pure_nodes b)
unfolding pure_block.shape-the_row-Pure-0 pure_block.hidden-the_row-Pure-0 carrier.hidden pure_nodes
nodes_either a b = refl

pub nodes_not : (a : Pure) → pure_nodes (pure.Not a) ≡ suc (pure_nodes a)
unfolding pure_block.shape-the_row-Pure-0 pure_block.hidden-the_row-Pure-0 carrier.hidden pure_nodes
nodes_not a = refl

pub nodes_pair : (f a b : Formula) → (f ≡ view.Sep a b) ⊎ ((f ≡ view.Wand a b) ⊎ ((f ≡ view.And a b) ⊎ ((f ≡ view.Or a b) ⊎ (f ≡ view.Imp a b)))) → nodes_of f ≡ suc (nodes_of a + nodes_of b)
unfolding block.shape-the_row-Formula-0 block.hidden-the_row-Formula-0 carrier.hidden nodes_of
nodes_pair f a b (inl e) = ap nodes_of e
nodes_pair f a b (inr (inl e)) = ap nodes_of e
nodes_pair f a b (inr (inr (inl e))) = ap nodes_of e
nodes_pair f a b (inr (inr (inr (inl e)))) = ap nodes_of e
nodes_pair f a b (inr (inr (inr (inr e)))) = ap nodes_of e

pub nodes_quantified : (f a : Formula) → (f ≡ view.All a) ⊎ (f ≡ view.Ex a) → nodes_of f ≡ suc (nodes_of a)
unfolding block.shape-the_row-Formula-0 block.hidden-the_row-Formula-0 carrier.hidden nodes_of
nodes_quantified f a (inl e) = ap nodes_of e
nodes_quantified f a (inr e) = ap nodes_of e

pub nodes_modal : (f a : Formula) → (f ≡ view.Later a) ⊎ ((f ≡ view.Pers a) ⊎ (f ≡ view.Upd a)) → nodes_of f ≡ suc (nodes_of a)
unfolding block.shape-the_row-Formula-0 block.hidden-the_row-Formula-0 carrier.hidden nodes_of
nodes_modal f a (inl e) = ap nodes_of e
nodes_modal f a (inr (inl e)) = ap nodes_of e
nodes_modal f a (inr (inr e)) = ap nodes_of e

pub nodes_pure : (a : Pure) → nodes_of (Fact a) ≡ suc (pure_nodes a)
unfolding nodes_of
nodes_pure a = refl

pub nodes_pts : (l : Term) (u : ℕ) (v : Term) → nodes_of (Pts l u v) ≡ suc (term_nodes l + term_nodes v)
unfolding nodes_of
nodes_pts l u v = refl

pub nodes_call : (q : ℕ) (args : List Term) → nodes_of (Call q args) ≡ suc (terms_nodes args)
unfolding nodes_of
nodes_call q args = refl

pub left_within : (k n : ℕ) (f a b : Formula) → (f ≡ view.Sep a b) ⊎ ((f ≡ view.Wand a b) ⊎ ((f ≡ view.And a b) ⊎ ((f ≡ view.Or a b) ⊎ (f ≡ view.Imp a b)))) → k + depth_of f ≤ n → k + depth_of a ≤ n
left_within k n f a b is h = let e = depth_pair f a b is in omega (arith, e)

pub right_within : (k n : ℕ) (f a b : Formula) → (f ≡ view.Sep a b) ⊎ ((f ≡ view.Wand a b) ⊎ ((f ≡ view.And a b) ⊎ ((f ≡ view.Or a b) ⊎ (f ≡ view.Imp a b)))) → k + depth_of f ≤ n → k + depth_of b ≤ n
right_within k n f a b is h = let e = depth_pair f a b is in omega (arith, e)

max_regrouped : (a b c : ℕ) → max a (max b c) ≡ max (max a b) c
max_regrouped a b c = omega arith

max_zero : (a : ℕ) → max a 0 ≡ max 0 a
max_zero a = omega arith

-- the depth of a list's items so far, and of one more
pub terms_depth_more : (ts : List Term) (i : ℕ) (d : Term) → i < length ts → terms_depth (take (i + 1) ts) ≡ max (terms_depth (take i ts)) (term_depth (get_or ts i d))
unfolding terms_depth
terms_depth_more [] i d lt = absurd (omega arith)
terms_depth_more (t ∷ ts) zero d lt = max_zero (term_depth t)
terms_depth_more (t ∷ ts) (suc i) d lt = rw add-one (ap (max (term_depth t)) (rw add-one at (terms_depth_more ts i d (omega arith))) ∙ max_regrouped (term_depth t) (terms_depth (take i ts)) (term_depth (get_or ts i d)))

pub terms_nodes_more : (ts : List Term) (i : ℕ) (d : Term) → i < length ts → terms_nodes (take (i + 1) ts) ≡ terms_nodes (take i ts) + term_nodes (get_or ts i d)
unfolding terms_nodes
terms_nodes_more [] i d lt = absurd (omega arith)
terms_nodes_more (t ∷ ts) zero d lt = omega arith
terms_nodes_more (t ∷ ts) (suc i) d lt = rw add-one (ap (λ n. term_nodes t + n) (rw add-one at (terms_nodes_more ts i d (omega arith))) ∙ sym (add_assoc (term_nodes t) (terms_nodes (take i ts)) (term_nodes (get_or ts i d))))

pub terms_depth_none : terms_depth [] ≡ 0
unfolding terms_depth
terms_depth_none = refl

pub terms_nodes_none : terms_nodes [] ≡ 0
unfolding terms_nodes
terms_nodes_none = refl

pub ruleset term_depths = (term_lemmas, depth_lit, depth_var, depth_add, depth_sub, depth_neg, depth_scale)

pub ruleset pure_depths = (pure_lemmas, depth_true, depth_false, depth_eq, depth_le, depth_lt, depth_both, depth_either, depth_not)

pub ruleset formula_depths = (the_lemmas, depth_pair, depth_quantified, depth_modal, depth_pure, depth_pts, depth_call)

pub ruleset term_counts = (term_lemmas, nodes_lit, nodes_var, nodes_add, nodes_sub, nodes_neg, nodes_scale)

pub ruleset pure_counts = (pure_lemmas, nodes_true, nodes_false, nodes_eq, nodes_le, nodes_lt, nodes_both, nodes_either, nodes_not)

pub ruleset formula_counts = (the_lemmas, nodes_pair, nodes_quantified, nodes_modal, nodes_pure, nodes_pts, nodes_call)

pub ruleset list_depths = (arith, terms_depth_none, terms_depth_more)

pub ruleset list_counts = (arith, terms_nodes_none, terms_nodes_more)
