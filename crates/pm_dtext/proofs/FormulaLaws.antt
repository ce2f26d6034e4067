-- Formulas: what is spelled is read again, and what was read is spelled so.
use Rattle.std.proofs.Common.{◌≡◌, ◌&&◌, ℕ, zero, suc, ◌<◌, ◌≤◌, ◌^◌, ◌+◌, true, List, [], ◌∷◌, ◌++◌, length, refl, sym, ◌∙◌, ap, subst, arith, Option, Some, None, Result, Ok}
use Rattle.std.specs.Prelude.{codes, max, slice_get, nat_le}
use Rattle.std.specs.Fmt.{decimal}
use Rattle.std.specs.List.{AllByRecursion}
use Rattle.std.specs.Option.{option_map}
use Rattle.pm_logic.specs.declared.formula.Term.{Term}
use Rattle.pm_logic.specs.declared.formula.Pure.{Pure}
use Rattle.pm_logic.specs.declared.formula.Formula.{Formula}
use Rattle.pm_logic.specs.declared.formula.Formula.TheVariants.{Pure as Fact, Pts, Call}
use Rattle.pm_logic.specs.declared.formula.TheConstants.{UNIT}
use Rattle.pm_logic.specs.Trees.{Sep, Wand, And, Or, Imp, All, Ex, Later, Pers, Upd}
use Rattle.pm_logic.specs.Size.{term_depth, terms_depth, pure_depth, depth_of}
use Rattle.pm_logic.proofs.Views.{view_sep, view_wand, view_and, view_or, view_imp, view_all, view_ex, view_later, view_pers, view_upd}
use Rattle.pm_rules.specs.declared.pattern.Unary.{Unary}
use Rattle.pm_rules.specs.declared.pattern.Unary.TheVariants as unary
use Rattle.pm_rules.specs.declared.pattern.Binary.{Binary}
use Rattle.pm_rules.specs.declared.pattern.Binary.TheVariants as binary
use Rattle.pm_rules.specs.Shapes.{one, two}
use Rattle.pm_dtext.specs.declared.fault.Fault.{Fault}
use Rattle.pm_dtext.specs.declared.signs.FormulaSign.{FormulaSign}
use Rattle.pm_dtext.specs.declared.signs.FormulaSign.TheVariants as sign
use Rattle.pm_dtext.specs.Spelling.{term_text, pure_text, items_text, formula_text}
use Rattle.pm_dtext.specs.Ranges.{TermInRange, PureInRange, InRange, HasArity}
use Rattle.pm_dtext.specs.Reading.{part_as, says_at, number_of, units_of, part_at, parts_at, items_at, term_at, pure_at, formula_signs, formula_sign_of, variables_under, points_at, with_arity, predicate_of, call_at, formula_under, formula_at}
use Rattle.pm_dtext.proofs.Numbers.{number_again, number_some}
use Rattle.pm_dtext.proofs.Steps.{with_ok, ok_is, both_true, true_both, le_true, true_le}
use Rattle.pm_dtext.proofs.WordLaws.{stops, is_word, says_again, says_found, part_again, parts_again, part_found, parts_found, named_found, where_again, where_found, decimal_word}
use Rattle.pm_dtext.proofs.ItemLaws.{ItemFound, ItemsFound, items_again, items_found, items_stop}
use Rattle.pm_dtext.proofs.TermLaws.{term_again, term_found, TermFound, never}
use Rattle.pm_dtext.proofs.PureLaws.{pure_again, pure_found, PureFound}

-- ---- signs

abbrev two_text : Binary → List ℕ
two_text binary.Sep = codes "sep"
two_text binary.Wand = codes "wand"
two_text binary.And = codes "and"
two_text binary.Or = codes "or"
two_text binary.Imp = codes "imp"

abbrev one_text : Unary → List ℕ
one_text unary.All = codes "all"
one_text unary.Ex = codes "ex"
one_text unary.Later = codes "later"
one_text unary.Pers = codes "pers"
one_text unary.Upd = codes "upd"

-- the word that says a sign
abbrev sign_text : FormulaSign → List ℕ
sign_text sign.Pure = codes "pure"
sign_text (sign.Two s) = two_text s
sign_text (sign.One s) = one_text s
sign_text sign.Pts = codes "pts"
sign_text sign.Call = codes "call"

sign_word : (s : FormulaSign) → is_word (sign_text s) ≡ true
sign_word sign.Pure = refl
sign_word (sign.Two binary.Sep) = refl
sign_word (sign.Two binary.Wand) = refl
sign_word (sign.Two binary.And) = refl
sign_word (sign.Two binary.Or) = refl
sign_word (sign.Two binary.Imp) = refl
sign_word (sign.One unary.All) = refl
sign_word (sign.One unary.Ex) = refl
sign_word (sign.One unary.Later) = refl
sign_word (sign.One unary.Pers) = refl
sign_word (sign.One unary.Upd) = refl
sign_word sign.Pts = refl
sign_word sign.Call = refl

sign_again : (s : FormulaSign) → formula_sign_of (sign_text s) ≡ Some s
unfolding formula_sign_of
sign_again sign.Pure = refl
sign_again (sign.Two binary.Sep) = refl
sign_again (sign.Two binary.Wand) = refl
sign_again (sign.Two binary.And) = refl
sign_again (sign.Two binary.Or) = refl
sign_again (sign.Two binary.Imp) = refl
sign_again (sign.One unary.All) = refl
sign_again (sign.One unary.Ex) = refl
sign_again (sign.One unary.Later) = refl
sign_again (sign.One unary.Pers) = refl
sign_again (sign.One unary.Upd) = refl
sign_again sign.Pts = refl
sign_again sign.Call = refl

sign_found : (w : List ℕ) (s : FormulaSign) → formula_sign_of w ≡ Some s → w ≡ sign_text s
unfolding formula_sign_of
sign_found w s e = named_found sign_text formula_signs w s refl e

-- ---- units and predicates

units_again : (u : ℕ) (rest : List ℕ) → 1 ≤ u → u ≤ UNIT → stops rest ≡ true → says_at units_of (decimal u ++ rest) ≡ Ok (u, rest)
unfolding units_of
units_again u rest some whole e =
    let small : u < 2 ^ 64 = omega arith in
    says_again units_of (decimal u) rest u (decimal_word u small) e (where_again (λ n. nat_le 1 n && nat_le n UNIT) u small (true_both (nat_le 1 u) (nat_le u UNIT) (true_le 1 u some) (true_le u UNIT whole)))

record UnitsFound (bytes : List ℕ) (u : ℕ) (rest : List ℕ) : Type 0 where
  parts : bytes ≡ decimal u ++ rest
  some : 1 ≤ u
  whole : u ≤ UNIT

units_found : (bytes : List ℕ) (u : ℕ) (rest : List ℕ) → says_at units_of bytes ≡ Ok (u, rest) → UnitsFound bytes u rest
unfolding units_of
units_found bytes u rest e =
    let s = says_found units_of bytes u rest e in
    let f = where_found (λ n. nat_le 1 n && nat_le n UNIT) s.w u s.says_it in
    let b = both_true (nat_le 1 u) (nat_le u UNIT) f.passes in
    record { parts = s.parts ∙ ap (λ w. w ++ rest) f.spelled; some = le_true 1 u b.0; whole = le_true u UNIT b.1 }

known : (arities : List ℕ) (p n : ℕ) → p < 2 ^ 64 → HasArity arities p n → predicate_of arities (decimal p) ≡ Some (p, n)
unfolding predicate_of
known arities p n small has = rw (number_again p small) (rw has refl)

predicate_again : (arities : List ℕ) (p n : ℕ) (rest : List ℕ) → p < 2 ^ 64 → HasArity arities p n → stops rest ≡ true → says_at (predicate_of arities) (decimal p ++ rest) ≡ Ok ((p, n), rest)
predicate_again arities p n rest small has e = says_again (predicate_of arities) (decimal p) rest (p, n) (decimal_word p small) e (known arities p n small has)

record PredicateFound (arities : List ℕ) (bytes : List ℕ) (p n : ℕ) (rest : List ℕ) : Type 0 where
  parts : bytes ≡ decimal p ++ rest
  has : HasArity arities p n

arity_found : (arities : List ℕ) (w : List ℕ) (p n : ℕ) → predicate_of arities w ≡ Some (p, n) → (w ≡ decimal p) × HasArity arities p n
unfolding predicate_of
arity_found arities w p n h = go (number_of w) refl h
  where
    pick : (m : ℕ) (o : Option ℕ) → number_of w ≡ Some m → slice_get arities m ≡ o → option_map {U = ℕ × ℕ} (λ k. (m, k)) o ≡ Some (p, n) → (w ≡ decimal p) × HasArity arities p n
    pick m None e g h = absurd cc
    pick m (Some k) e g h =
        let both : (m, k) ≡ (p, n) = cc in
        let place : m ≡ p = ap (λ (x : ℕ × ℕ). x.0) both in
        let arity : k ≡ n = ap (λ (x : ℕ × ℕ). x.1) both in
        ((number_some w m e).0 ∙ ap decimal place, ap (slice_get arities) (sym place) ∙ (g ∙ ap (λ x. Some x) arity))

    go : (o : Option ℕ) → number_of w ≡ o → with_arity arities o ≡ Some (p, n) → (w ≡ decimal p) × HasArity arities p n
    go None e h = absurd cc
    go (Some m) e h = pick m (slice_get arities m) e refl h

predicate_found : (arities : List ℕ) (bytes : List ℕ) (p n : ℕ) (rest : List ℕ) → says_at (predicate_of arities) bytes ≡ Ok ((p, n), rest) → PredicateFound arities bytes p n rest
predicate_found arities bytes p n rest e =
    let s = says_found (predicate_of arities) bytes (p, n) rest e in
    let f = arity_found arities s.w p n s.says_it in
    record { parts = s.parts ∙ ap (λ w. w ++ rest) f.0; has = f.1 }

-- ---- what is spelled is read again

step_again : (arities : List ℕ) (n k : ℕ) (s : FormulaSign) (behind : List ℕ) (y : Result (Formula × List ℕ) Fault) → stops behind ≡ true → formula_under arities s k (pure_at n k) (term_at n k) (formula_at arities n) behind ≡ y → formula_at arities (suc n) k (sign_text s ++ behind) ≡ y
unfolding formula_at
step_again arities n k s behind y e under = rw (says_again formula_sign_of (sign_text s) behind s (sign_word s) e (sign_again s)) under

some_depth : (f : Formula) → 0 < depth_of f
unfolding depth_of
some_depth (Fact a) = omega arith
some_depth (Sep p q) = omega arith
some_depth (Wand p q) = omega arith
some_depth (And p q) = omega arith
some_depth (Or p q) = omega arith
some_depth (Imp p q) = omega arith
some_depth (All p) = omega arith
some_depth (Ex p) = omega arith
some_depth (Later p) = omega arith
some_depth (Pers p) = omega arith
some_depth (Upd p) = omega arith
some_depth (Pts l u v) = omega arith
some_depth (Call p ts) = omega arith

abbrev ReadsAgain : (List ℕ → Result (Formula × List ℕ) Fault) → Formula → Type 0
ReadsAgain inner f = (rest : List ℕ) → stops rest ≡ true → inner (formula_text f rest) ≡ Ok (f, rest)

two_again : (arities : List ℕ) (s : Binary) (n k : ℕ) (p q f : Formula) (rest : List ℕ) → two s p q ≡ f → ReadsAgain (formula_at arities n k) p → ReadsAgain (formula_at arities n k) q → stops rest ≡ true → formula_at arities (suc n) k (two_text s ++ (32 ∷ formula_text p (32 ∷ formula_text q rest))) ≡ Ok (f, rest)
unfolding formula_under part_as
two_again arities s n k p q f rest is each_p each_q e =
    step_again arities n k (sign.Two s) (32 ∷ formula_text p (32 ∷ formula_text q rest)) (Ok (f, rest)) refl
    (parts_again (two s) (formula_at arities n k) (formula_text p (32 ∷ formula_text q rest)) (formula_text q rest) rest p q (each_p (32 ∷ formula_text q rest) refl) (each_q rest e) ∙ ap (λ g. Ok (g, rest)) is)

one_again : (arities : List ℕ) (s : Unary) (n k : ℕ) (p f : Formula) (rest : List ℕ) → one s p ≡ f → ReadsAgain (formula_at arities n (variables_under s k)) p → stops rest ≡ true → formula_at arities (suc n) k (one_text s ++ (32 ∷ formula_text p rest)) ≡ Ok (f, rest)
unfolding formula_under part_as
one_again arities s n k p f rest is each e =
    step_again arities n k (sign.One s) (32 ∷ formula_text p rest) (Ok (f, rest)) refl
    (rw (part_again (formula_at arities n (variables_under s k)) (formula_text p rest)) (rw (each rest e) (ap (λ g. Ok (g, rest)) is)))

fact_again : (arities : List ℕ) (n k : ℕ) (a : Pure) (rest : List ℕ) → k < 2 ^ 64 → PureInRange k a → pure_depth a ≤ n → stops rest ≡ true → formula_at arities (suc n) k (codes "pure" ++ (32 ∷ pure_text a rest)) ≡ Ok (Fact a, rest)
unfolding formula_under part_as
fact_again arities n k a rest few fits deep e =
    step_again arities n k sign.Pure (32 ∷ pure_text a rest) (Ok (Fact a, rest)) refl
    (rw (part_again (pure_at n k) (pure_text a rest)) (rw (pure_again a n k rest few fits deep e) refl))

points_again : (terms : List ℕ → Result (Term × List ℕ) Fault) (l : Term) (u : ℕ) (v : Term) (a b rest : List ℕ) → terms a ≡ Ok (l, 32 ∷ (decimal u ++ (32 ∷ b))) → 1 ≤ u → u ≤ UNIT → terms b ≡ Ok (v, rest) → points_at terms (32 ∷ a) ≡ Ok (Pts l u v, rest)
unfolding points_at
points_again terms l u v a b rest loc some whole val =
    rw (part_again terms a) (rw loc
    (rw (part_again (says_at units_of) (decimal u ++ (32 ∷ b))) (rw (units_again u (32 ∷ b) some whole refl)
    (rw (part_again terms b) (rw val refl)))))

call_again : (arities : List ℕ) (terms : List ℕ → Result (Term × List ℕ) Fault) (p : ℕ) (ts : List Term) (a rest : List ℕ) → p < 2 ^ 64 → HasArity arities p (length ts) → stops a ≡ true → items_at terms (length ts) a ≡ Ok (ts, rest) → call_at arities terms (32 ∷ (decimal p ++ a)) ≡ Ok (Call p ts, rest)
unfolding call_at
call_again arities terms p ts a rest small has e args =
    rw (part_again (says_at (predicate_of arities)) (decimal p ++ a)) (rw (predicate_again arities p (length ts) a small has e) (rw args refl))

-- of terms that are in range and at most so deep
abbrev ArgFits : ℕ → ℕ → Term → Type 0
ArgFits levels k t = TermInRange k t × (term_depth t ≤ levels)

args_fit : (levels k : ℕ) (ts : List Term) → AllByRecursion (TermInRange k) ts → terms_depth ts ≤ levels → AllByRecursion (ArgFits levels k) ts
unfolding terms_depth
args_fit levels k [] fits deep = tt
args_fit levels k (t ∷ ts) fits deep = ((fits.0, omega arith), args_fit levels k ts fits.1 (omega arith))

place_small : (arities : List ℕ) (p n : ℕ) → length arities < 2 ^ 64 → HasArity arities p n → p < 2 ^ 64
place_small arities p n small has = let b : p < length arities = below arities p n has in omega arith
  where
    below : (xs : List ℕ) (p n : ℕ) → slice_get xs p ≡ Some n → p < length xs
    below [] p n e = absurd cc
    below (x ∷ xs) zero n e = omega arith
    below (x ∷ xs) (suc p) n e = let i : p < length xs = below xs p n e in omega arith

call_step : (arities : List ℕ) (n k p : ℕ) (ts : List Term) (rest : List ℕ) → length arities < 2 ^ 64 → k < 2 ^ 64 → HasArity arities p (length ts) → AllByRecursion (TermInRange k) ts → terms_depth ts ≤ n → stops rest ≡ true → formula_at arities (suc n) k (codes "call" ++ (32 ∷ (decimal p ++ items_text term_text ts rest))) ≡ Ok (Call p ts, rest)
unfolding formula_under part_as
call_step arities n k p ts rest table few has fits deep e =
    step_again arities n k sign.Call (32 ∷ (decimal p ++ items_text term_text ts rest)) (Ok (Call p ts, rest)) refl
    (call_again arities (term_at n k) p ts (items_text term_text ts rest) rest (place_small arities p (length ts) table has) has (items_stop term_text ts rest e)
    (items_again (term_at n k) term_text (ArgFits n k) ts rest (λ t r h s. term_again t n k r few h.0 h.1 s) (args_fit n k ts fits deep) e))

points_step : (arities : List ℕ) (n k : ℕ) (l : Term) (u : ℕ) (v : Term) (rest : List ℕ) → k < 2 ^ 64 → TermInRange k l × (1 ≤ u) × (u ≤ UNIT) × TermInRange k v → max (term_depth l) (term_depth v) ≤ n → stops rest ≡ true → formula_at arities (suc n) k (codes "pts" ++ (32 ∷ term_text l (32 ∷ (decimal u ++ (32 ∷ term_text v rest))))) ≡ Ok (Pts l u v, rest)
unfolding formula_under part_as
points_step arities n k l u v rest few fits deep e =
    step_again arities n k sign.Pts (32 ∷ term_text l (32 ∷ (decimal u ++ (32 ∷ term_text v rest)))) (Ok (Pts l u v, rest)) refl
    (points_again (term_at n k) l u v (term_text l (32 ∷ (decimal u ++ (32 ∷ term_text v rest)))) (term_text v rest) rest
    (term_again l n k (32 ∷ (decimal u ++ (32 ∷ term_text v rest))) few fits.0 (omega arith) refl) fits.1 fits.2 (term_again v n k rest few fits.3 (omega arith) e))

pub formula_again : (arities : List ℕ) (f : Formula) (levels k : ℕ) (rest : List ℕ) → length arities < 2 ^ 64 → k + levels < 2 ^ 64 → InRange arities k f → depth_of f ≤ levels → stops rest ≡ true → formula_at arities levels k (formula_text f rest) ≡ Ok (f, rest)
unfolding formula_text InRange depth_of
formula_again arities f zero k rest table few fits deep e = absurd (omega (arith, some_depth f))
formula_again arities (Fact a) (suc n) k rest table few fits deep e = fact_again arities n k a rest (omega arith) fits (omega arith) e
formula_again arities (Sep p q) (suc n) k rest table few fits deep e = two_again arities binary.Sep n k p q (Sep p q) rest (view_sep p q) (λ r h. formula_again arities p n k r table (omega arith) fits.0 (omega arith) h) (λ r h. formula_again arities q n k r table (omega arith) fits.1 (omega arith) h) e
formula_again arities (Wand p q) (suc n) k rest table few fits deep e = two_again arities binary.Wand n k p q (Wand p q) rest (view_wand p q) (λ r h. formula_again arities p n k r table (omega arith) fits.0 (omega arith) h) (λ r h. formula_again arities q n k r table (omega arith) fits.1 (omega arith) h) e
formula_again arities (And p q) (suc n) k rest table few fits deep e = two_again arities binary.And n k p q (And p q) rest (view_and p q) (λ r h. formula_again arities p n k r table (omega arith) fits.0 (omega arith) h) (λ r h. formula_again arities q n k r table (omega arith) fits.1 (omega arith) h) e
formula_again arities (Or p q) (suc n) k rest table few fits deep e = two_again arities binary.Or n k p q (Or p q) rest (view_or p q) (λ r h. formula_again arities p n k r table (omega arith) fits.0 (omega arith) h) (λ r h. formula_again arities q n k r table (omega arith) fits.1 (omega arith) h) e
formula_again arities (Imp p q) (suc n) k rest table few fits deep e = two_again arities binary.Imp n k p q (Imp p q) rest (view_imp p q) (λ r h. formula_again arities p n k r table (omega arith) fits.0 (omega arith) h) (λ r h. formula_again arities q n k r table (omega arith) fits.1 (omega arith) h) e
formula_again arities (All p) (suc n) k rest table few fits deep e = one_again arities unary.All n k p (All p) rest (view_all p) (λ r h. formula_again arities p n (suc k) r table (omega arith) fits (omega arith) h) e
formula_again arities (Ex p) (suc n) k rest table few fits deep e = one_again arities unary.Ex n k p (Ex p) rest (view_ex p) (λ r h. formula_again arities p n (suc k) r table (omega arith) fits (omega arith) h) e
formula_again arities (Later p) (suc n) k rest table few fits deep e = one_again arities unary.Later n k p (Later p) rest (view_later p) (λ r h. formula_again arities p n k r table (omega arith) fits (omega arith) h) e
formula_again arities (Pers p) (suc n) k rest table few fits deep e = one_again arities unary.Pers n k p (Pers p) rest (view_pers p) (λ r h. formula_again arities p n k r table (omega arith) fits (omega arith) h) e
formula_again arities (Upd p) (suc n) k rest table few fits deep e = one_again arities unary.Upd n k p (Upd p) rest (view_upd p) (λ r h. formula_again arities p n k r table (omega arith) fits (omega arith) h) e
formula_again arities (Pts l u v) (suc n) k rest table few fits deep e = points_step arities n k l u v rest (omega arith) fits (omega arith) e
formula_again arities (Call p ts) (suc n) k rest table few fits deep e = call_step arities n k p ts rest table (omega arith) fits.0 fits.1 (omega arith) e

-- ---- what was read is spelled so

pub record FormulaFound (arities : List ℕ) (levels k : ℕ) (bytes : List ℕ) (f : Formula) (rest : List ℕ) : Type 0 where
  pub spelled : bytes ≡ formula_text f rest
  pub in_range : InRange arities k f
  pub depth : depth_of f ≤ levels

abbrev FindsAll : List ℕ → ℕ → (ℕ → List ℕ → Result (Formula × List ℕ) Fault) → Type 0
FindsAll arities levels inner = (k : ℕ) (bytes : List ℕ) (f : Formula) (rest : List ℕ) → inner k bytes ≡ Ok (f, rest) → FormulaFound arities levels k bytes f rest

-- the formula of a sign and two more
record IsTwo (s : Binary) (f p q : Formula) : Type 0 where
  text : (rest : List ℕ) → formula_text f rest ≡ two_text s ++ (32 ∷ formula_text p (32 ∷ formula_text q rest))
  in_range : (arities : List ℕ) (k : ℕ) → InRange arities k p × InRange arities k q → InRange arities k f
  depth : depth_of f ≡ suc (max (depth_of p) (depth_of q))

is_two : (s : Binary) (p q : Formula) → IsTwo s (two s p q) p q
unfolding formula_text InRange depth_of
is_two binary.Sep p q = subst (λ (f : Formula). IsTwo binary.Sep f p q) (sym (view_sep p q)) (record { text = λ rest. refl; in_range = λ arities k h. h; depth = refl })
is_two binary.Wand p q = subst (λ (f : Formula). IsTwo binary.Wand f p q) (sym (view_wand p q)) (record { text = λ rest. refl; in_range = λ arities k h. h; depth = refl })
is_two binary.And p q = subst (λ (f : Formula). IsTwo binary.And f p q) (sym (view_and p q)) (record { text = λ rest. refl; in_range = λ arities k h. h; depth = refl })
is_two binary.Or p q = subst (λ (f : Formula). IsTwo binary.Or f p q) (sym (view_or p q)) (record { text = λ rest. refl; in_range = λ arities k h. h; depth = refl })
is_two binary.Imp p q = subst (λ (f : Formula). IsTwo binary.Imp f p q) (sym (view_imp p q)) (record { text = λ rest. refl; in_range = λ arities k h. h; depth = refl })

-- the formula of a sign and another
record IsOne (s : Unary) (f p : Formula) : Type 0 where
  text : (rest : List ℕ) → formula_text f rest ≡ one_text s ++ (32 ∷ formula_text p rest)
  in_range : (arities : List ℕ) (k : ℕ) → InRange arities (variables_under s k) p → InRange arities k f
  depth : depth_of f ≡ suc (depth_of p)

is_one : (s : Unary) (p : Formula) → IsOne s (one s p) p
unfolding formula_text InRange depth_of
is_one unary.All p = subst (λ (f : Formula). IsOne unary.All f p) (sym (view_all p)) (record { text = λ rest. refl; in_range = λ arities k h. h; depth = refl })
is_one unary.Ex p = subst (λ (f : Formula). IsOne unary.Ex f p) (sym (view_ex p)) (record { text = λ rest. refl; in_range = λ arities k h. h; depth = refl })
is_one unary.Later p = subst (λ (f : Formula). IsOne unary.Later f p) (sym (view_later p)) (record { text = λ rest. refl; in_range = λ arities k h. h; depth = refl })
is_one unary.Pers p = subst (λ (f : Formula). IsOne unary.Pers f p) (sym (view_pers p)) (record { text = λ rest. refl; in_range = λ arities k h. h; depth = refl })
is_one unary.Upd p = subst (λ (f : Formula). IsOne unary.Upd f p) (sym (view_upd p)) (record { text = λ rest. refl; in_range = λ arities k h. h; depth = refl })

two_found : (arities : List ℕ) (s : Binary) (levels k : ℕ) (inner : ℕ → List ℕ → Result (Formula × List ℕ) Fault) (bytes : List ℕ) (f : Formula) (rest : List ℕ) → FindsAll arities levels inner → parts_at (two s) (inner k) bytes ≡ Ok (f, rest) → FormulaFound arities (suc levels) k (two_text s ++ bytes) f rest
two_found arities s levels k inner bytes f rest each e =
    let p = parts_found (two s) (inner k) bytes f rest e in
    let l = each k p.a p.x (32 ∷ p.b) p.first in
    let r = each k p.b p.y rest p.second in
    let c = is_two s p.x p.y in
    subst (λ (g : Formula). FormulaFound arities (suc levels) k (two_text s ++ bytes) g rest) p.made
    (record {
      spelled = ap (λ x. two_text s ++ x) (p.parts ∙ ap (λ x. 32 ∷ x) (l.spelled ∙ ap (λ x. formula_text p.x (32 ∷ x)) r.spelled)) ∙ sym (c.text rest);
      in_range = c.in_range arities k (l.in_range, r.in_range);
      depth = omega (arith, c.depth, l.depth, r.depth);
    })

one_made : (arities : List ℕ) (s : Unary) (levels k : ℕ) (bytes at : List ℕ) (p : Formula) (rest : List ℕ) → bytes ≡ 32 ∷ at → FormulaFound arities levels (variables_under s k) at p rest → FormulaFound arities (suc levels) k (one_text s ++ bytes) (one s p) rest
one_made arities s levels k bytes at p rest parts h =
    let c = is_one s p in
    record {
      spelled = ap (λ x. one_text s ++ x) (parts ∙ ap (λ x. 32 ∷ x) h.spelled) ∙ sym (c.text rest);
      in_range = c.in_range arities k h.in_range;
      depth = omega (arith, c.depth, h.depth);
    }

fact_made : (arities : List ℕ) (levels k : ℕ) (bytes at : List ℕ) (a : Pure) (rest : List ℕ) → bytes ≡ 32 ∷ at → PureFound levels k at a rest → FormulaFound arities (suc levels) k (codes "pure" ++ bytes) (Fact a) rest
unfolding formula_text InRange depth_of
fact_made arities levels k bytes at a rest parts h = record {
  spelled = ap (λ x. codes "pure" ++ x) (parts ∙ ap (λ x. 32 ∷ x) h.spelled);
  in_range = h.in_range;
  depth = omega (arith, h.depth);
}

points_made : (arities : List ℕ) (levels k : ℕ) (l : Term) (u : ℕ) (v : Term) (bytes a b c d e rest : List ℕ) → bytes ≡ 32 ∷ a → TermFound levels k a l b → b ≡ 32 ∷ c → UnitsFound c u d → d ≡ 32 ∷ e → TermFound levels k e v rest → FormulaFound arities (suc levels) k (codes "pts" ++ bytes) (Pts l u v) rest
unfolding formula_text InRange depth_of
points_made arities levels k l u v bytes a b c d e rest s loc t units r val = record {
  spelled = ap (λ x. codes "pts" ++ x) (s ∙ ap (λ x. 32 ∷ x) (loc.spelled ∙ ap (term_text l) (t ∙ ap (λ x. 32 ∷ x) (units.parts ∙ ap (λ x. decimal u ++ x) (r ∙ ap (λ x. 32 ∷ x) val.spelled)))));
  in_range = (loc.in_range, units.some, units.whole, val.in_range);
  depth = omega (arith, loc.depth, val.depth);
}

points_found : (arities : List ℕ) (levels k : ℕ) (bytes : List ℕ) (f : Formula) (rest : List ℕ) → points_at (term_at levels k) bytes ≡ Ok (f, rest) → FormulaFound arities (suc levels) k (codes "pts" ++ bytes) f rest
unfolding points_at
points_found arities levels k bytes f rest h =
    with_ok (part_at (term_at levels k) bytes) _ (f, rest) h (λ l el hl.
    with_ok (part_at (says_at units_of) l.1) _ (f, rest) hl (λ u eu hu.
    with_ok (part_at (term_at levels k) u.1) _ (f, rest) hu (λ v ev hv.
    let a = part_found (term_at levels k) bytes l.0 l.1 el in
    let c = part_found (says_at units_of) l.1 u.0 u.1 eu in
    let e = part_found (term_at levels k) u.1 v.0 v.1 ev in
    subst (λ (p : Formula × List ℕ). FormulaFound arities (suc levels) k (codes "pts" ++ bytes) p.0 p.1) (ok_is {A = Formula × List ℕ} (Pts l.0 u.0 v.0, v.1) (f, rest) hv)
    (points_made arities levels k l.0 u.0 v.0 bytes a.at l.1 c.at u.1 e.at v.1 a.parts (term_found levels k a.at l.0 l.1 a.read) c.parts (units_found c.at u.0 u.1 c.read) e.parts (term_found levels k e.at v.0 v.1 e.read)))))

args_found : (levels k : ℕ) (ts : List Term) → AllByRecursion (ArgFits levels k) ts → AllByRecursion (TermInRange k) ts × (terms_depth ts ≤ levels)
unfolding terms_depth
args_found levels k [] h = (tt, omega arith)
args_found levels k (t ∷ ts) h =
    let i = args_found levels k ts h.1 in
    ((h.0.0, i.0), omega (arith, h.0.1, i.1))

call_made : (arities : List ℕ) (levels k p n : ℕ) (ts : List Term) (bytes a b rest : List ℕ) → bytes ≡ 32 ∷ a → PredicateFound arities a p n b → ItemsFound term_text (ArgFits levels k) n b ts rest → FormulaFound arities (suc levels) k (codes "call" ++ bytes) (Call p ts) rest
unfolding formula_text InRange depth_of
call_made arities levels k p n ts bytes a b rest s pred items =
    let args = args_found levels k ts items.fits in
    record {
      spelled = ap (λ x. codes "call" ++ x) (s ∙ ap (λ x. 32 ∷ x) (pred.parts ∙ ap (λ x. decimal p ++ x) items.spelled));
      in_range = (pred.has ∙ ap (λ m. Some m) (sym items.count), args.0);
      depth = omega (arith, args.1);
    }

arg_found : (levels k : ℕ) (bytes : List ℕ) (t : Term) (rest : List ℕ) → term_at levels k bytes ≡ Ok (t, rest) → ItemFound term_text (ArgFits levels k) bytes t rest
arg_found levels k bytes t rest e = let f = term_found levels k bytes t rest e in record { spelled = f.spelled; fits = (f.in_range, f.depth) }

call_found : (arities : List ℕ) (levels k : ℕ) (bytes : List ℕ) (f : Formula) (rest : List ℕ) → call_at arities (term_at levels k) bytes ≡ Ok (f, rest) → FormulaFound arities (suc levels) k (codes "call" ++ bytes) f rest
unfolding call_at
call_found arities levels k bytes f rest h =
    with_ok (part_at (says_at (predicate_of arities)) bytes) _ (f, rest) h (λ p ep hp.
    with_ok (items_at (term_at levels k) p.0.1 p.1) _ (f, rest) hp (λ ts et ht.
    let a = part_found (says_at (predicate_of arities)) bytes p.0 p.1 ep in
    subst (λ (q : Formula × List ℕ). FormulaFound arities (suc levels) k (codes "call" ++ bytes) q.0 q.1) (ok_is {A = Formula × List ℕ} (Call p.0.0 ts.0, ts.1) (f, rest) ht)
    (call_made arities levels k p.0.0 p.0.1 ts.0 bytes a.at p.1 ts.1 a.parts (predicate_found arities a.at p.0.0 p.0.1 p.1 a.read)
    (items_found (term_at levels k) term_text (ArgFits levels k) p.0.1 p.1 ts.0 ts.1 (λ b t r e. arg_found levels k b t r e) et))))

under_found : (arities : List ℕ) (levels k : ℕ) (inner : ℕ → List ℕ → Result (Formula × List ℕ) Fault) (s : FormulaSign) (bytes : List ℕ) (f : Formula) (rest : List ℕ) → FindsAll arities levels inner → formula_under arities s k (pure_at levels k) (term_at levels k) inner bytes ≡ Ok (f, rest) → FormulaFound arities (suc levels) k (sign_text s ++ bytes) f rest
unfolding formula_under part_as
under_found arities levels k inner sign.Pure bytes f rest each e =
    with_ok (part_at (pure_at levels k) bytes) _ (f, rest) e (λ a ea ha.
    let p = part_found (pure_at levels k) bytes a.0 a.1 ea in
    subst (λ (q : Formula × List ℕ). FormulaFound arities (suc levels) k (codes "pure" ++ bytes) q.0 q.1) (ok_is {A = Formula × List ℕ} (Fact a.0, a.1) (f, rest) ha)
    (fact_made arities levels k bytes p.at a.0 a.1 p.parts (pure_found levels k p.at a.0 a.1 p.read)))
under_found arities levels k inner (sign.Two s) bytes f rest each e = two_found arities s levels k inner bytes f rest each e
under_found arities levels k inner (sign.One s) bytes f rest each e =
    with_ok (part_at (inner (variables_under s k)) bytes) _ (f, rest) e (λ a ea ha.
    let p = part_found (inner (variables_under s k)) bytes a.0 a.1 ea in
    subst (λ (q : Formula × List ℕ). FormulaFound arities (suc levels) k (one_text s ++ bytes) q.0 q.1) (ok_is {A = Formula × List ℕ} (one s a.0, a.1) (f, rest) ha)
    (one_made arities s levels k bytes p.at a.0 a.1 p.parts (each (variables_under s k) p.at a.0 a.1 p.read)))
under_found arities levels k inner sign.Pts bytes f rest each e = points_found arities levels k bytes f rest e
under_found arities levels k inner sign.Call bytes f rest each e = call_found arities levels k bytes f rest e

pub formula_found : (arities : List ℕ) (levels k : ℕ) (bytes : List ℕ) (f : Formula) (rest : List ℕ) → formula_at arities levels k bytes ≡ Ok (f, rest) → FormulaFound arities levels k bytes f rest
unfolding formula_at
formula_found arities zero k bytes f rest e = absurd (never (says_at formula_sign_of bytes) _ (f, rest) e)
formula_found arities (suc n) k bytes f rest e =
    with_ok (says_at formula_sign_of bytes) _ (f, rest) e (λ s es hs.
    let said = says_found formula_sign_of bytes s.0 s.1 es in
    subst (λ (x : List ℕ). FormulaFound arities (suc n) k x f rest) (sym (said.parts ∙ ap (λ w. w ++ s.1) (sign_found said.w s.0 said.says_it)))
    (under_found arities n k (formula_at arities n) s.0 s.1 f rest (λ j b g r h. formula_found arities n j b g r h) hs))
