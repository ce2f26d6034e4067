-- Formulas with the connective of another, at the variants as code makes them.
use Rattle.std.proofs.Common.{◌≡◌, ◌⊎◌, inl, inr, refl, sym, subst}
use Rattle.pm_logic.specs.declared.formula.Term.{Term}
use Rattle.pm_logic.specs.declared.formula.Pure.{Pure, the_lemmas as pure_lemmas}
use Rattle.pm_logic.specs.declared.formula.Pure.TheVariants.{Eq, Le, Lt}
use Rattle.pm_logic.specs.declared.formula.Pure.TheViews as pure
use Rattle.pm_logic.specs.declared.formula.Pure.TheBlock as pure_block
use denote.Hole.Carrier as carrier
use Rattle.pm_logic.specs.declared.formula.Formula.{Formula, the_lemmas}
use Rattle.pm_logic.specs.declared.formula.Formula.TheViews as view
use Rattle.pm_logic.specs.declared.formula.Formula.TheBlock as block
use Rattle.pm_logic.specs.Trees as tree
use Rattle.pm_logic.specs.Nodes.{HasTwoParts, HasOnePart, IsComparison, IsJoined, paired, single, compared, joined}

pub paired_sep : (a b x y : Formula) → paired (view.Sep a b) x y ≡ view.Sep x y
unfolding block.shape-the_row-Formula-0 block.hidden-the_row-Formula-0 carrier.hidden paired
paired_sep a b x y = refl

pub paired_wand : (a b x y : Formula) → paired (view.Wand a b) x y ≡ view.Wand x y
unfolding block.shape-the_row-Formula-0 block.hidden-the_row-Formula-0 carrier.hidden paired
paired_wand a b x y = refl

pub paired_and : (a b x y : Formula) → paired (view.And a b) x y ≡ view.And x y
unfolding block.shape-the_row-Formula-0 block.hidden-the_row-Formula-0 carrier.hidden paired
paired_and a b x y = refl

pub paired_or : (a b x y : Formula) → paired (view.Or a b) x y ≡ view.Or x y
unfolding block.shape-the_row-Formula-0 block.hidden-the_row-Formula-0 carrier.hidden paired
paired_or a b x y = refl

pub paired_imp : (a b x y : Formula) → paired (view.Imp a b) x y ≡ view.Imp x y
unfolding block.shape-the_row-Formula-0 block.hidden-the_row-Formula-0 carrier.hidden paired
paired_imp a b x y = refl

pub single_all : (a x : Formula) → single (view.All a) x ≡ view.All x
unfolding block.shape-the_row-Formula-0 block.hidden-the_row-Formula-0 carrier.hidden single
single_all a x = refl

pub single_ex : (a x : Formula) → single (view.Ex a) x ≡ view.Ex x
unfolding block.shape-the_row-Formula-0 block.hidden-the_row-Formula-0 carrier.hidden single
single_ex a x = refl

pub single_later : (a x : Formula) → single (view.Later a) x ≡ view.Later x
unfolding block.shape-the_row-Formula-0 block.hidden-the_row-Formula-0 carrier.hidden single
single_later a x = refl

pub single_pers : (a x : Formula) → single (view.Pers a) x ≡ view.Pers x
unfolding block.shape-the_row-Formula-0 block.hidden-the_row-Formula-0 carrier.hidden single
single_pers a x = refl

pub single_upd : (a x : Formula) → single (view.Upd a) x ≡ view.Upd x
unfolding block.shape-the_row-Formula-0 block.hidden-the_row-Formula-0 carrier.hidden single
single_upd a x = refl

pub pair_has_two : (f a b : Formula) → (f ≡ view.Sep a b) ⊎ ((f ≡ view.Wand a b) ⊎ ((f ≡ view.And a b) ⊎ ((f ≡ view.Or a b) ⊎ (f ≡ view.Imp a b)))) → HasTwoParts f
unfolding block.shape-the_row-Formula-0 block.hidden-the_row-Formula-0 carrier.hidden HasTwoParts
pair_has_two f a b (inl e) = let P : Formula → Type 0 = λ x. HasTwoParts x in subst P (sym e) tt
pair_has_two f a b (inr (inl e)) = let P : Formula → Type 0 = λ x. HasTwoParts x in subst P (sym e) tt
pair_has_two f a b (inr (inr (inl e))) = let P : Formula → Type 0 = λ x. HasTwoParts x in subst P (sym e) tt
pair_has_two f a b (inr (inr (inr (inl e)))) = let P : Formula → Type 0 = λ x. HasTwoParts x in subst P (sym e) tt
pair_has_two f a b (inr (inr (inr (inr e)))) = let P : Formula → Type 0 = λ x. HasTwoParts x in subst P (sym e) tt

pub quantified_has_one : (f a : Formula) → (f ≡ view.All a) ⊎ (f ≡ view.Ex a) → HasOnePart f
unfolding block.shape-the_row-Formula-0 block.hidden-the_row-Formula-0 carrier.hidden HasOnePart
quantified_has_one f a (inl e) = let P : Formula → Type 0 = λ x. HasOnePart x in subst P (sym e) tt
quantified_has_one f a (inr e) = let P : Formula → Type 0 = λ x. HasOnePart x in subst P (sym e) tt

pub modal_has_one : (f a : Formula) → (f ≡ view.Later a) ⊎ ((f ≡ view.Pers a) ⊎ (f ≡ view.Upd a)) → HasOnePart f
unfolding block.shape-the_row-Formula-0 block.hidden-the_row-Formula-0 carrier.hidden HasOnePart
modal_has_one f a (inl e) = let P : Formula → Type 0 = λ x. HasOnePart x in subst P (sym e) tt
modal_has_one f a (inr (inl e)) = let P : Formula → Type 0 = λ x. HasOnePart x in subst P (sym e) tt
modal_has_one f a (inr (inr e)) = let P : Formula → Type 0 = λ x. HasOnePart x in subst P (sym e) tt

pub only_pairs : (f : Formula) → HasTwoParts f → ((a b : Formula) → f ≡ view.Sep a b → ⊥) → ((a b : Formula) → f ≡ view.Wand a b → ⊥) → ((a b : Formula) → f ≡ view.And a b → ⊥) → ((a b : Formula) → f ≡ view.Or a b → ⊥) → ((a b : Formula) → f ≡ view.Imp a b → ⊥) → ⊥
unfolding block.shape-the_row-Formula-0 block.hidden-the_row-Formula-0 carrier.hidden HasTwoParts
only_pairs (tree.Sep a b) h not_sep not_wand not_and not_or not_imp = not_sep a b refl
only_pairs (tree.Wand a b) h not_sep not_wand not_and not_or not_imp = not_wand a b refl
only_pairs (tree.And a b) h not_sep not_wand not_and not_or not_imp = not_and a b refl
only_pairs (tree.Or a b) h not_sep not_wand not_and not_or not_imp = not_or a b refl
only_pairs (tree.Imp a b) h not_sep not_wand not_and not_or not_imp = not_imp a b refl
only_pairs _ h not_sep not_wand not_and not_or not_imp = h

pub only_singles : (f : Formula) → HasOnePart f → ((a : Formula) → f ≡ view.All a → ⊥) → ((a : Formula) → f ≡ view.Ex a → ⊥) → ((a : Formula) → f ≡ view.Later a → ⊥) → ((a : Formula) → f ≡ view.Pers a → ⊥) → ((a : Formula) → f ≡ view.Upd a → ⊥) → ⊥
unfolding block.shape-the_row-Formula-0 block.hidden-the_row-Formula-0 carrier.hidden HasOnePart
only_singles (tree.All a) h not_all not_ex not_later not_pers not_upd = not_all a refl
only_singles (tree.Ex a) h not_all not_ex not_later not_pers not_upd = not_ex a refl
only_singles (tree.Later a) h not_all not_ex not_later not_pers not_upd = not_later a refl
only_singles (tree.Pers a) h not_all not_ex not_later not_pers not_upd = not_pers a refl
only_singles (tree.Upd a) h not_all not_ex not_later not_pers not_upd = not_upd a refl
only_singles _ h not_all not_ex not_later not_pers not_upd = h

pub compared_eq : (s t x y : Term) → compared (Eq s t) x y ≡ Eq x y
unfolding compared
compared_eq s t x y = refl

pub compared_le : (s t x y : Term) → compared (Le s t) x y ≡ Le x y
unfolding compared
compared_le s t x y = refl

pub compared_lt : (s t x y : Term) → compared (Lt s t) x y ≡ Lt x y
unfolding compared
compared_lt s t x y = refl

pub joined_both : (a b x y : Pure) → joined (pure.And a b) x y ≡ pure.And x y
unfolding pure_block.shape-the_row-Pure-0 pure_block.hidden-the_row-Pure-0 carrier.hidden joined
joined_both a b x y = refl

pub joined_either : (a b x y : Pure) → joined (pure.Or a b) x y ≡ pure.Or x y
unfolding pure_block.shape-the_row-Pure-0 pure_block.hidden-the_row-Pure-0 carrier.hidden joined
joined_either a b x y = refl

pub is_comparison : (p : Pure) (s t : Term) → (p ≡ Eq s t) ⊎ ((p ≡ Le s t) ⊎ (p ≡ Lt s t)) → IsComparison p
unfolding pure_block.shape-the_row-Pure-0 pure_block.hidden-the_row-Pure-0 carrier.hidden IsComparison
is_comparison p s t (inl e) = let P : Pure → Type 0 = λ x. IsComparison x in subst P (sym e) tt
is_comparison p s t (inr (inl e)) = let P : Pure → Type 0 = λ x. IsComparison x in subst P (sym e) tt
is_comparison p s t (inr (inr e)) = let P : Pure → Type 0 = λ x. IsComparison x in subst P (sym e) tt

pub is_joined : (p : Pure) (a b : Pure) → (p ≡ pure.And a b) ⊎ (p ≡ pure.Or a b) → IsJoined p
unfolding pure_block.shape-the_row-Pure-0 pure_block.hidden-the_row-Pure-0 carrier.hidden IsJoined
is_joined p a b (inl e) = let P : Pure → Type 0 = λ x. IsJoined x in subst P (sym e) tt
is_joined p a b (inr e) = let P : Pure → Type 0 = λ x. IsJoined x in subst P (sym e) tt

pub only_comparisons : (p : Pure) → IsComparison p → ((s t : Term) → p ≡ Eq s t → ⊥) → ((s t : Term) → p ≡ Le s t → ⊥) → ((s t : Term) → p ≡ Lt s t → ⊥) → ⊥
unfolding pure_block.shape-the_row-Pure-0 pure_block.hidden-the_row-Pure-0 carrier.hidden IsComparison
only_comparisons (Eq s t) h not_eq not_le not_lt = not_eq s t refl
only_comparisons (Le s t) h not_eq not_le not_lt = not_le s t refl
only_comparisons (Lt s t) h not_eq not_le not_lt = not_lt s t refl
only_comparisons _ h not_eq not_le not_lt = h

pub only_joints : (p : Pure) → IsJoined p → ((a b : Pure) → p ≡ pure.And a b → ⊥) → ((a b : Pure) → p ≡ pure.Or a b → ⊥) → ⊥
unfolding pure_block.shape-the_row-Pure-0 pure_block.hidden-the_row-Pure-0 carrier.hidden IsJoined
only_joints (tree.both a b) h not_and not_or = not_and a b refl
only_joints (tree.either a b) h not_and not_or = not_or a b refl
only_joints _ h not_and not_or = h

pub ruleset pairs = (the_lemmas, paired_sep, paired_wand, paired_and, paired_or, paired_imp)

pub ruleset singles = (the_lemmas, single_all, single_ex, single_later, single_pers, single_upd)

pub ruleset comparisons = (pure_lemmas, compared_eq, compared_le, compared_lt)

pub ruleset joints = (pure_lemmas, joined_both, joined_either)
