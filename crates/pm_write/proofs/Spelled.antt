-- The texts of terms and formulas, at the variants as code makes them.
use Rattle.std.proofs.Common.{◌≡◌, ◌⊎◌, inl, inr, ℕ, zero, suc, ◌<◌, ◌≤◌, ◌-◌, List, [], ◌∷◌, ◌++◌, length, take, drop, get_or, refl, sym, ◌∙◌, ap, arith, Result, Ok, Err, append_assoc, append-nil}
use Rattle.std.specs.Prelude.{codes, OnOk, ℤ}
use Rattle.std.specs.Fmt.{decimal, signed_decimal}
use Rattle.pm_logic.specs.declared.list.Memory.{Memory}
use Rattle.pm_logic.specs.declared.formula.Term.{Term, the_lemmas as term_lemmas}
use Rattle.pm_logic.specs.declared.formula.Term.TheVariants.{Lit, Var}
use Rattle.pm_logic.specs.declared.formula.Term.TheViews as term
use Rattle.pm_logic.specs.declared.formula.Term.TheBlock as term_block
use Rattle.pm_logic.specs.declared.formula.Pure.{Pure, the_lemmas as pure_lemmas}
use Rattle.pm_logic.specs.declared.formula.Pure.TheVariants.{True, False, Eq, Le, Lt}
use Rattle.pm_logic.specs.declared.formula.Pure.TheViews as pure
use Rattle.pm_logic.specs.declared.formula.Pure.TheBlock as pure_block
use Rattle.pm_logic.specs.declared.formula.Formula.{Formula, the_lemmas}
use Rattle.pm_logic.specs.declared.formula.Formula.TheVariants.{Pure as Fact, Pts, Call}
use Rattle.pm_logic.specs.declared.formula.Formula.TheViews as view
use Rattle.pm_logic.specs.declared.formula.Formula.TheBlock as block
use denote.Hole.Carrier as carrier
use Rattle.pm_logic.specs.Trees as tree
use Rattle.pm_dtext.specs.Spelling.{term_text, pure_text, items_text, formula_text}
use Rattle.pm_write.specs.Signs.{term_sign, pure_sign, formula_sign}

-- ---- pieces one after the other

pub four : (t₀ t₁ t₂ t₃ t₄ a b c d total : List ℕ) (r : Result (Unit {0}) Memory) → t₁ ≡ t₀ ++ a → t₂ ≡ t₁ ++ b → t₃ ≡ t₂ ++ c → OnOk r (t₄ ≡ t₃ ++ d) → total ≡ a ++ (b ++ (c ++ d)) → OnOk r (t₄ ≡ t₀ ++ total)
four t₀ t₁ t₂ t₃ t₄ a b c d total (Ok u) h₁ h₂ h₃ h₄ whole = h₄ ∙ rw (h₃, h₂, h₁, whole) (simp append_assoc)
four t₀ t₁ t₂ t₃ t₄ a b c d total (Err e) h₁ h₂ h₃ h₄ whole = tt

pub two : (t₀ t₁ t₂ a b total : List ℕ) (r : Result (Unit {0}) Memory) → t₁ ≡ t₀ ++ a → OnOk r (t₂ ≡ t₁ ++ b) → total ≡ a ++ b → OnOk r (t₂ ≡ t₀ ++ total)
two t₀ t₁ t₂ a b total (Ok u) h₁ h₂ whole = h₂ ∙ rw (h₁, whole) (simp append_assoc)
two t₀ t₁ t₂ a b total (Err e) h₁ h₂ whole = tt

-- ---- what comes after a text

-- two parts behind a word
parts_before : (f g : List ℕ → List ℕ) (word rest : List ℕ) → ((r : List ℕ) → f r ≡ f [] ++ r) → ((r : List ℕ) → g r ≡ g [] ++ r) → word ++ f (32 ∷ g rest) ≡ (word ++ f (32 ∷ g [])) ++ rest
parts_before f g word rest before_f before_g =
    ap (λ t. word ++ t) (before_f (32 ∷ g rest) ∙ ap (λ t. f [] ++ (32 ∷ t)) (before_g rest) ∙ sym (append_assoc (f []) (32 ∷ g []) rest) ∙ ap (λ t. t ++ rest) (sym (before_f (32 ∷ g []))))
    ∙ sym (append_assoc word (f (32 ∷ g [])) rest)

-- one part behind a word
part_before : (f : List ℕ → List ℕ) (word rest : List ℕ) → ((r : List ℕ) → f r ≡ f [] ++ r) → word ++ f rest ≡ (word ++ f []) ++ rest
part_before f word rest before = ap (λ t. word ++ t) (before rest) ∙ sym (append_assoc word (f []) rest)

pub term_before : (t : Term) (rest : List ℕ) → term_text t rest ≡ term_text t [] ++ rest
unfolding term_text
term_before (Lit z) rest = simp (append_assoc, append-nil)
term_before (Var i) rest = simp (append_assoc, append-nil)
term_before (tree.add s t) rest = parts_before (term_text s) (term_text t) (codes "add ") rest (λ r. term_before s r) (λ r. term_before t r)
term_before (tree.sub s t) rest = parts_before (term_text s) (term_text t) (codes "sub ") rest (λ r. term_before s r) (λ r. term_before t r)
term_before (tree.neg t) rest = part_before (term_text t) (codes "neg ") rest (λ r. term_before t r)
term_before (tree.scale z t) rest = factor (signed_decimal z) (term_text t) (λ r. term_before t r)
  where
    factor : (ds : List ℕ) (f : List ℕ → List ℕ) → ((r : List ℕ) → f r ≡ f [] ++ r) → codes "mul " ++ (ds ++ (32 ∷ f rest)) ≡ (codes "mul " ++ (ds ++ (32 ∷ f []))) ++ rest
    factor ds f before = ap (λ t. codes "mul " ++ (ds ++ (32 ∷ t))) (before rest) ∙ ap (λ t. codes "mul " ++ t) (sym (append_assoc ds (32 ∷ f []) rest))

pub items_before : {A : Type 0} (text : A → List ℕ → List ℕ) → ((x : A) (r : List ℕ) → text x r ≡ text x [] ++ r) → (xs : List A) (rest : List ℕ) → items_text text xs rest ≡ items_text text xs [] ++ rest
unfolding items_text
items_before text each [] rest = refl
items_before text each (x ∷ xs) rest =
    ap (λ t. 32 ∷ t) (each x (items_text text xs rest) ∙ ap (λ t. text x [] ++ t) (items_before text each xs rest) ∙ sym (append_assoc (text x []) (items_text text xs []) rest) ∙ ap (λ t. t ++ rest) (sym (each x (items_text text xs []))))

pub pure_before : (p : Pure) (rest : List ℕ) → pure_text p rest ≡ pure_text p [] ++ rest
unfolding pure_text
pure_before True rest = refl
pure_before False rest = refl
pure_before (Eq s t) rest = parts_before (term_text s) (term_text t) (codes "eq ") rest (λ r. term_before s r) (λ r. term_before t r)
pure_before (Le s t) rest = parts_before (term_text s) (term_text t) (codes "le ") rest (λ r. term_before s r) (λ r. term_before t r)
pure_before (Lt s t) rest = parts_before (term_text s) (term_text t) (codes "lt ") rest (λ r. term_before s r) (λ r. term_before t r)
pure_before (tree.both a b) rest = parts_before (pure_text a) (pure_text b) (codes "cj ") rest (λ r. pure_before a r) (λ r. pure_before b r)
pure_before (tree.either a b) rest = parts_before (pure_text a) (pure_text b) (codes "dj ") rest (λ r. pure_before a r) (λ r. pure_before b r)
pure_before (tree.nope a) rest = part_before (pure_text a) (codes "no ") rest (λ r. pure_before a r)

pub formula_before : (f : Formula) (rest : List ℕ) → formula_text f rest ≡ formula_text f [] ++ rest
unfolding formula_text
formula_before (Fact a) rest = part_before (pure_text a) (codes "pure ") rest (λ r. pure_before a r)
formula_before (tree.Sep p q) rest = parts_before (formula_text p) (formula_text q) (codes "sep ") rest (λ r. formula_before p r) (λ r. formula_before q r)
formula_before (tree.Wand p q) rest = parts_before (formula_text p) (formula_text q) (codes "wand ") rest (λ r. formula_before p r) (λ r. formula_before q r)
formula_before (tree.And p q) rest = parts_before (formula_text p) (formula_text q) (codes "and ") rest (λ r. formula_before p r) (λ r. formula_before q r)
formula_before (tree.Or p q) rest = parts_before (formula_text p) (formula_text q) (codes "or ") rest (λ r. formula_before p r) (λ r. formula_before q r)
formula_before (tree.Imp p q) rest = parts_before (formula_text p) (formula_text q) (codes "imp ") rest (λ r. formula_before p r) (λ r. formula_before q r)
formula_before (tree.All p) rest = part_before (formula_text p) (codes "all ") rest (λ r. formula_before p r)
formula_before (tree.Ex p) rest = part_before (formula_text p) (codes "ex ") rest (λ r. formula_before p r)
formula_before (tree.Later p) rest = part_before (formula_text p) (codes "later ") rest (λ r. formula_before p r)
formula_before (tree.Pers p) rest = part_before (formula_text p) (codes "pers ") rest (λ r. formula_before p r)
formula_before (tree.Upd p) rest = part_before (formula_text p) (codes "upd ") rest (λ r. formula_before p r)
formula_before (Pts l u v) rest =
    ap (λ t. codes "pts " ++ t) (term_before l (32 ∷ (decimal u ++ (32 ∷ term_text v rest))) ∙ ap (λ t. term_text l [] ++ (32 ∷ (decimal u ++ (32 ∷ t)))) (term_before v rest) ∙ regroup (term_text l []) (decimal u) (term_text v []) ∙ ap (λ t. t ++ rest) (sym (term_before l (32 ∷ (decimal u ++ (32 ∷ term_text v []))))))
  where
    regroup : (a b c : List ℕ) → a ++ (32 ∷ (b ++ (32 ∷ (c ++ rest)))) ≡ (a ++ (32 ∷ (b ++ (32 ∷ c)))) ++ rest
    regroup a b c = simp append_assoc
formula_before (Call p ts) rest = part_before (λ r. decimal p ++ items_text term_text ts r) (codes "call ") rest (λ r. ap (λ t. decimal p ++ t) (items_before term_text term_before ts r) ∙ sym (append_assoc (decimal p) (items_text term_text ts []) r))

-- ---- the texts of the writer's variants

pub text_lit : (z : ℤ) → term_text (Lit z) [] ≡ signed_decimal z
unfolding term_text
text_lit z = append-nil (signed_decimal z)

pub text_var : (i : ℕ) → term_text (Var i) [] ≡ codes "v" ++ decimal i
unfolding term_text
text_var i = ap (λ t. codes "v" ++ t) (append-nil (decimal i))

pub text_two_terms : (w : List ℕ) (t a b a' b' : Term) → w ≡ term_sign t → (t ≡ term.Add a b) ⊎ (t ≡ term.Sub a b) → a' ≡ a → b' ≡ b → term_text t [] ≡ w ++ (term_text a' [] ++ (codes " " ++ term_text b' []))
unfolding term_block.shape-the_row-Term-0 term_block.hidden-the_row-Term-0 carrier.hidden term_text
text_two_terms w t a b a' b' ew (inl e) ea eb = rw (ew, e, ea, eb) (ap (λ x. codes "add " ++ x) (term_before a (32 ∷ term_text b [])))
text_two_terms w t a b a' b' ew (inr e) ea eb = rw (ew, e, ea, eb) (ap (λ x. codes "sub " ++ x) (term_before a (32 ∷ term_text b [])))

pub text_neg : (t a a' : Term) → t ≡ term.Neg a → a' ≡ a → term_text t [] ≡ codes "neg " ++ term_text a' []
unfolding term_block.shape-the_row-Term-0 term_block.hidden-the_row-Term-0 carrier.hidden term_text
text_neg t a a' e ea = rw (e, ea) refl

pub text_scale : (w : List ℕ) (t : Term) (z : ℤ) (a a' : Term) → w ≡ codes "mul " ++ (signed_decimal z ++ codes " ") → t ≡ term.Scale z a → a' ≡ a → term_text t [] ≡ w ++ term_text a' []
unfolding term_block.shape-the_row-Term-0 term_block.hidden-the_row-Term-0 carrier.hidden term_text
text_scale w t z a a' ew e ea = rw (ew, e, ea) (ap (λ t. codes "mul " ++ t) (sym (append_assoc (signed_decimal z) (codes " ") (term_text a []))))

pub text_true : pure_text True [] ≡ codes "T"
unfolding pure_text
text_true = refl

pub text_false : pure_text False [] ≡ codes "F"
unfolding pure_text
text_false = refl

pub text_compared : (w : List ℕ) (p : Pure) (s t s' t' : Term) → w ≡ pure_sign p → (p ≡ Eq s t) ⊎ ((p ≡ Le s t) ⊎ (p ≡ Lt s t)) → s' ≡ s → t' ≡ t → pure_text p [] ≡ w ++ (term_text s' [] ++ (codes " " ++ term_text t' []))
unfolding pure_text
text_compared w p s t s' t' ew (inl e) es et = rw (ew, e, es, et) (ap (λ x. codes "eq " ++ x) (term_before s (32 ∷ term_text t [])))
text_compared w p s t s' t' ew (inr (inl e)) es et = rw (ew, e, es, et) (ap (λ x. codes "le " ++ x) (term_before s (32 ∷ term_text t [])))
text_compared w p s t s' t' ew (inr (inr e)) es et = rw (ew, e, es, et) (ap (λ x. codes "lt " ++ x) (term_before s (32 ∷ term_text t [])))

pub text_two_pures : (w : List ℕ) (p a b a' b' : Pure) → w ≡ pure_sign p → (p ≡ pure.And a b) ⊎ (p ≡ pure.Or a b) → a' ≡ a → b' ≡ b → pure_text p [] ≡ w ++ (pure_text a' [] ++ (codes " " ++ pure_text b' []))
unfolding pure_block.shape-the_row-Pure-0 pure_block.hidden-the_row-Pure-0 carrier.hidden pure_text
text_two_pures w p a b a' b' ew (inl e) ea eb = rw (ew, e, ea, eb) (ap (λ x. codes "cj " ++ x) (pure_before a (32 ∷ pure_text b [])))
text_two_pures w p a b a' b' ew (inr e) ea eb = rw (ew, e, ea, eb) (ap (λ x. codes "dj " ++ x) (pure_before a (32 ∷ pure_text b [])))

pub text_not : (p a a' : Pure) → p ≡ pure.Not a → a' ≡ a → pure_text p [] ≡ codes "no " ++ pure_text a' []
unfolding pure_block.shape-the_row-Pure-0 pure_block.hidden-the_row-Pure-0 carrier.hidden pure_text
text_not p a a' e ea = rw (e, ea) refl

pub take_all : {A : Type 0} (xs : List A) (n : ℕ) → length xs ≤ n → take n xs ≡ xs
take_all [] zero le = refl
take_all [] (suc n) le = refl
take_all (x ∷ xs) zero le = absurd (omega arith)
take_all (x ∷ xs) (suc n) le = ap (λ ys. x ∷ ys) (take_all xs n (omega arith))

pub text_no_args : (ts : List Term) (out : List ℕ) → length ts < 1 → out ≡ out ++ items_text term_text ts []
unfolding items_text
text_no_args [] out few = sym (append-nil out)
text_no_args (t ∷ ts) out few = absurd (omega arith)

pub text_more_args : (ts : List Term) (t : Term) → 1 ≤ length ts → t ≡ get_or ts 0 t → items_text term_text ts [] ≡ codes " " ++ (term_text t [] ++ items_text term_text (take (length ts - 1) (drop 1 ts)) [])
unfolding items_text
text_more_args [] t some at = absurd (omega arith)
text_more_args (s ∷ ts) t some at =
    ap (λ x. 32 ∷ x) (term_before s (items_text term_text ts []) ∙ ap (λ (x : Term). term_text x [] ++ items_text term_text ts []) (sym at) ∙ ap (λ us. term_text t [] ++ items_text term_text us []) (sym (take_all ts (length (s ∷ ts) - 1) (omega arith))))

pub three : (t₀ t₁ t₂ t₃ a b c total : List ℕ) (r : Result (Unit {0}) Memory) → t₁ ≡ t₀ ++ a → t₂ ≡ t₁ ++ b → OnOk r (t₃ ≡ t₂ ++ c) → total ≡ a ++ (b ++ c) → OnOk r (t₃ ≡ t₀ ++ total)
three t₀ t₁ t₂ t₃ a b c total (Ok u) h₁ h₂ h₃ whole = h₃ ∙ rw (h₂, h₁, whole) (simp append_assoc)
three t₀ t₁ t₂ t₃ a b c total (Err e) h₁ h₂ h₃ whole = tt

pub text_fact : (f : Formula) (a : Pure) → f ≡ Fact a → formula_text f [] ≡ codes "pure " ++ pure_text a []
unfolding formula_text
text_fact f a e = rw e refl

pub text_two : (w : List ℕ) (f a b a' b' : Formula) → w ≡ formula_sign f → (f ≡ view.Sep a b) ⊎ ((f ≡ view.Wand a b) ⊎ ((f ≡ view.And a b) ⊎ ((f ≡ view.Or a b) ⊎ (f ≡ view.Imp a b)))) → a' ≡ a → b' ≡ b → formula_text f [] ≡ w ++ (formula_text a' [] ++ (codes " " ++ formula_text b' []))
unfolding block.shape-the_row-Formula-0 block.hidden-the_row-Formula-0 carrier.hidden formula_text
text_two w f a b a' b' ew (inl e) ea eb = rw (ew, e, ea, eb) (ap (λ x. codes "sep " ++ x) (formula_before a (32 ∷ formula_text b [])))
text_two w f a b a' b' ew (inr (inl e)) ea eb = rw (ew, e, ea, eb) (ap (λ x. codes "wand " ++ x) (formula_before a (32 ∷ formula_text b [])))
text_two w f a b a' b' ew (inr (inr (inl e))) ea eb = rw (ew, e, ea, eb) (ap (λ x. codes "and " ++ x) (formula_before a (32 ∷ formula_text b [])))
text_two w f a b a' b' ew (inr (inr (inr (inl e)))) ea eb = rw (ew, e, ea, eb) (ap (λ x. codes "or " ++ x) (formula_before a (32 ∷ formula_text b [])))
text_two w f a b a' b' ew (inr (inr (inr (inr e)))) ea eb = rw (ew, e, ea, eb) (ap (λ x. codes "imp " ++ x) (formula_before a (32 ∷ formula_text b [])))

pub text_one : (w : List ℕ) (f a a' : Formula) → w ≡ formula_sign f → (f ≡ view.All a) ⊎ ((f ≡ view.Ex a) ⊎ ((f ≡ view.Later a) ⊎ ((f ≡ view.Pers a) ⊎ (f ≡ view.Upd a)))) → a' ≡ a → formula_text f [] ≡ w ++ formula_text a' []
unfolding block.shape-the_row-Formula-0 block.hidden-the_row-Formula-0 carrier.hidden formula_text
text_one w f a a' ew (inl e) ea = rw (ew, e, ea) refl
text_one w f a a' ew (inr (inl e)) ea = rw (ew, e, ea) refl
text_one w f a a' ew (inr (inr (inl e))) ea = rw (ew, e, ea) refl
text_one w f a a' ew (inr (inr (inr (inl e)))) ea = rw (ew, e, ea) refl
text_one w f a a' ew (inr (inr (inr (inr e)))) ea = rw (ew, e, ea) refl

pub text_pts : (w : List ℕ) (f : Formula) (l : Term) (u : ℕ) (v : Term) → w ≡ codes " " ++ (decimal u ++ codes " ") → f ≡ Pts l u v → formula_text f [] ≡ codes "pts " ++ (term_text l [] ++ (w ++ term_text v []))
unfolding formula_text
text_pts w f l u v ew e = rw (ew, e) (ap (λ t. codes "pts " ++ t) (term_before l (32 ∷ (decimal u ++ (32 ∷ term_text v []))) ∙ ap (λ t. term_text l [] ++ (32 ∷ t)) (sym (append_assoc (decimal u) (codes " ") (term_text v [])))))

pub text_call : (w : List ℕ) (f : Formula) (p : ℕ) (ts ts' : List Term) → w ≡ codes "call " ++ decimal p → f ≡ Call p ts → ts' ≡ ts → formula_text f [] ≡ w ++ items_text term_text ts' []
unfolding formula_text
text_call w f p ts ts' ew e ets = rw (ew, e, ets) (sym (append_assoc (codes "call ") (decimal p) (items_text term_text ts [])))

-- ---- the words that texts begin with

pub sign_add : (a b : Term) → term_sign (term.Add a b) ≡ codes "add "
unfolding term_block.shape-the_row-Term-0 term_block.hidden-the_row-Term-0 carrier.hidden
sign_add a b = refl

pub sign_sub : (a b : Term) → term_sign (term.Sub a b) ≡ codes "sub "
unfolding term_block.shape-the_row-Term-0 term_block.hidden-the_row-Term-0 carrier.hidden
sign_sub a b = refl

pub sign_neg : (a : Term) → term_sign (term.Neg a) ≡ codes "neg "
unfolding term_block.shape-the_row-Term-0 term_block.hidden-the_row-Term-0 carrier.hidden
sign_neg a = refl

pub sign_scale : (t : Term) (z : ℤ) (a : Term) → t ≡ term.Scale z a → codes "mul " ≡ term_sign t
unfolding term_block.shape-the_row-Term-0 term_block.hidden-the_row-Term-0 carrier.hidden
sign_scale t z a e = rw e refl

pub sign_both : (a b : Pure) → pure_sign (pure.And a b) ≡ codes "cj "
unfolding pure_block.shape-the_row-Pure-0 pure_block.hidden-the_row-Pure-0 carrier.hidden
sign_both a b = refl

pub sign_either : (a b : Pure) → pure_sign (pure.Or a b) ≡ codes "dj "
unfolding pure_block.shape-the_row-Pure-0 pure_block.hidden-the_row-Pure-0 carrier.hidden
sign_either a b = refl

pub sign_not : (a : Pure) → pure_sign (pure.Not a) ≡ codes "no "
unfolding pure_block.shape-the_row-Pure-0 pure_block.hidden-the_row-Pure-0 carrier.hidden
sign_not a = refl

pub sign_sep : (a b : Formula) → formula_sign (view.Sep a b) ≡ codes "sep "
unfolding block.shape-the_row-Formula-0 block.hidden-the_row-Formula-0 carrier.hidden
sign_sep a b = refl

pub sign_wand : (a b : Formula) → formula_sign (view.Wand a b) ≡ codes "wand "
unfolding block.shape-the_row-Formula-0 block.hidden-the_row-Formula-0 carrier.hidden
sign_wand a b = refl

pub sign_and : (a b : Formula) → formula_sign (view.And a b) ≡ codes "and "
unfolding block.shape-the_row-Formula-0 block.hidden-the_row-Formula-0 carrier.hidden
sign_and a b = refl

pub sign_or : (a b : Formula) → formula_sign (view.Or a b) ≡ codes "or "
unfolding block.shape-the_row-Formula-0 block.hidden-the_row-Formula-0 carrier.hidden
sign_or a b = refl

pub sign_imp : (a b : Formula) → formula_sign (view.Imp a b) ≡ codes "imp "
unfolding block.shape-the_row-Formula-0 block.hidden-the_row-Formula-0 carrier.hidden
sign_imp a b = refl

pub sign_all : (a : Formula) → formula_sign (view.All a) ≡ codes "all "
unfolding block.shape-the_row-Formula-0 block.hidden-the_row-Formula-0 carrier.hidden
sign_all a = refl

pub sign_ex : (a : Formula) → formula_sign (view.Ex a) ≡ codes "ex "
unfolding block.shape-the_row-Formula-0 block.hidden-the_row-Formula-0 carrier.hidden
sign_ex a = refl

pub sign_later : (a : Formula) → formula_sign (view.Later a) ≡ codes "later "
unfolding block.shape-the_row-Formula-0 block.hidden-the_row-Formula-0 carrier.hidden
sign_later a = refl

pub sign_pers : (a : Formula) → formula_sign (view.Pers a) ≡ codes "pers "
unfolding block.shape-the_row-Formula-0 block.hidden-the_row-Formula-0 carrier.hidden
sign_pers a = refl

pub sign_upd : (a : Formula) → formula_sign (view.Upd a) ≡ codes "upd "
unfolding block.shape-the_row-Formula-0 block.hidden-the_row-Formula-0 carrier.hidden
sign_upd a = refl

pub ruleset term_signs = (term_lemmas, sign_add, sign_sub, sign_neg, sign_scale)

pub ruleset pure_signs = (pure_lemmas, sign_both, sign_either, sign_not)

pub ruleset formula_signs = (the_lemmas, sign_sep, sign_wand, sign_and, sign_or, sign_imp, sign_all, sign_ex, sign_later, sign_pers, sign_upd)

pub ruleset term_texts = (term_lemmas, text_lit, text_var)

pub ruleset pure_texts = (pure_lemmas, text_true, text_false)
