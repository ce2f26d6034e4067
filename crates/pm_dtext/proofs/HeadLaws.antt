-- The lines before the proof lines: what is spelled is read again, and what was read is spelled so.
use Rattle.std.proofs.Common.{◌≡◌, ℕ, zero, suc, ◌≤◌, List, [], ◌∷◌, ◌++◌, length, refl, ◌∙◌, ap, subst, arith, Ok, inl, inr}
use Rattle.std.specs.Prelude.{codes}
use Rattle.std.specs.Fmt.{decimal}
use Rattle.std.specs.List.{AllByRecursion}
use Rattle.pm_logic.specs.declared.limits.TheConstants.{MAX_LINE_LEVELS, MAX_PREDICATES, MAX_VARIABLES}
use Rattle.pm_logic.specs.declared.formula.Formula.{Formula}
use Rattle.pm_logic.specs.declared.formula.Pred.{Pred}
use Rattle.pm_dtext.specs.Spelling.{formula_text, number_text, items_text, header_text, arities_text, pred_text}
use Rattle.pm_dtext.specs.Ranges.{HasArity, AritiesFit, PredFits}
use Rattle.pm_dtext.specs.Reading.{expect_at, skip_at, says_at, up_to, part_at, formula_at, ends_at, header_at, ends_line, numbers_at, arities_at, new_name_of, pred_at}
use Rattle.pm_dtext.specs.Laws.{AritiesAreSpelled, PredIsSpelled}
use Rattle.pm_dtext.proofs.Steps.{with_ok, chosen, ok_is}
use Rattle.pm_dtext.proofs.WordLaws.{expect_again, part_again, part_found, expect_found, skip_found, up_to_again, up_to_found}
use Rattle.pm_dtext.proofs.ItemLaws.{items_stop}
use Rattle.pm_dtext.proofs.FormulaLaws.{formula_again, formula_found}
use Rattle.pm_dtext.proofs.NameLaws.{new_name_again, new_name_found}
use Rattle.pm_dtext.proofs.LineLaws.{ends_found}

-- ---- the first line

pub header_again : (rest : List ℕ) → header_at (header_text rest) ≡ Ok rest
unfolding header_at skip_at expect_at
header_again rest = refl

pub header_found : (bytes rest : List ℕ) → header_at bytes ≡ Ok rest → bytes ≡ header_text rest
unfolding header_at
header_found bytes rest h =
    with_ok (expect_at (codes "mosel-derivation") bytes) _ rest h (λ a ea ha.
    with_ok (skip_at 32 a) _ rest ha (λ b eb hb.
    with_ok (expect_at (codes "1") b) _ rest hb (λ c ec hc.
    expect_found (codes "mosel-derivation") bytes a ea ∙ ap (λ x. codes "mosel-derivation" ++ x) (skip_found 32 a b eb ∙ ap (λ x. 32 ∷ x) (expect_found (codes "1") b c ec ∙ ap (λ x. codes "1" ++ x) (skip_found 10 c rest hc))))))

-- ---- arities

abbrev AreArities : List ℕ → Type 0
AreArities arities = AllByRecursion (λ a. a ≤ MAX_VARIABLES) arities

numbers_again : (most : ℕ) (arities rest : List ℕ) → length arities ≤ most → AreArities arities → numbers_at most (items_text number_text arities (10 ∷ rest)) ≡ Ok (arities, rest)
unfolding numbers_at items_text ends_at skip_at
numbers_again zero [] rest few fits = refl
numbers_again zero (a ∷ arities) rest few fits = absurd (omega arith)
numbers_again (suc most) [] rest few fits = refl
numbers_again (suc most) (a ∷ arities) rest few fits =
    rw (part_again (says_at (up_to MAX_VARIABLES)) (decimal a ++ items_text number_text arities (10 ∷ rest)))
    (rw (up_to_again MAX_VARIABLES a (items_text number_text arities (10 ∷ rest)) (omega (arith, fits.0)) fits.0 (items_stop number_text arities (10 ∷ rest) refl))
    (rw (numbers_again most arities rest (omega arith) fits.1) refl))

pub arities_again : (arities rest : List ℕ) → AritiesFit arities → arities_at (arities_text arities rest) ≡ Ok (arities, rest)
unfolding arities_at
arities_again arities rest fits =
    rw (expect_again (codes "arities") (items_text number_text arities (10 ∷ rest)) refl (items_stop number_text arities (10 ∷ rest) refl)) (numbers_again MAX_PREDICATES arities rest fits.0 fits.1)

record NumbersFound (most : ℕ) (bytes arities rest : List ℕ) : Type 0 where
  spelled : bytes ≡ items_text number_text arities (10 ∷ rest)
  few : length arities ≤ most
  fits : AreArities arities

none_found : (most : ℕ) (bytes arities rest : List ℕ) → ends_at ([], bytes) ≡ Ok (arities, rest) → NumbersFound most bytes arities rest
unfolding items_text
none_found most bytes arities rest e =
    let end = ends_found [] arities bytes rest e in
    subst (λ (x : List ℕ). NumbersFound most bytes x rest) end.1 (record { spelled = end.0; few = omega arith; fits = tt })

more_found : (most a : ℕ) (bytes at middle arities rest : List ℕ) → bytes ≡ 32 ∷ at → at ≡ decimal a ++ middle → a ≤ MAX_VARIABLES → NumbersFound most middle arities rest → NumbersFound (suc most) bytes (a ∷ arities) rest
unfolding items_text
more_found most a bytes at middle arities rest p q small f = record {
  spelled = p ∙ ap (λ x. 32 ∷ x) (q ∙ ap (λ x. decimal a ++ x) f.spelled);
  few = omega (arith, f.few);
  fits = (small, f.fits);
}

numbers_found : (most : ℕ) (bytes arities rest : List ℕ) → numbers_at most bytes ≡ Ok (arities, rest) → NumbersFound most bytes arities rest
unfolding numbers_at
numbers_found zero bytes arities rest e = none_found zero bytes arities rest e
numbers_found (suc most) bytes arities rest e =
    elim (chosen (ends_line bytes) _ _ (Ok (arities, rest)) e) [
      | inl c ↦ none_found (suc most) bytes arities rest c.1
      | inr c ↦
          with_ok (part_at (says_at (up_to MAX_VARIABLES)) bytes) _ (arities, rest) c.1 (λ n en hn.
          with_ok (numbers_at most n.1) _ (arities, rest) hn (λ ns es hs.
          let p = part_found (says_at (up_to MAX_VARIABLES)) bytes n.0 n.1 en in
          let u = up_to_found MAX_VARIABLES p.at n.0 n.1 p.read in
          subst (λ (x : List ℕ × List ℕ). NumbersFound (suc most) bytes x.0 x.1) (ok_is {A = List ℕ × List ℕ} (n.0 ∷ ns.0, ns.1) (arities, rest) hs)
          (more_found most n.0 bytes p.at n.1 ns.0 ns.1 p.parts u.parts u.within (numbers_found most n.1 ns.0 ns.1 es))))
    ]

pub arities_found : (bytes arities rest : List ℕ) → arities_at bytes ≡ Ok (arities, rest) → AritiesAreSpelled bytes arities rest
unfolding arities_at
arities_found bytes arities rest e =
    with_ok (expect_at (codes "arities") bytes) _ (arities, rest) e (λ a ea ha.
    let f = numbers_found MAX_PREDICATES a arities rest ha in
    record { fits = (f.few, f.fits); spelled = expect_found (codes "arities") bytes a ea ∙ ap (λ x. codes "arities" ++ x) f.spelled })

-- ---- predicates

arity_small : (arities : List ℕ) (p n : ℕ) → AreArities arities → HasArity arities p n → n ≤ MAX_VARIABLES
arity_small [] p n h e = absurd cc
arity_small (a ∷ arities) zero n h e = let same : a ≡ n = cc in subst (λ (x : ℕ). x ≤ MAX_VARIABLES) same h.0
arity_small (a ∷ arities) (suc p) n h e = arity_small arities p n h.1 e

pred_read : (arities : List ℕ) (names : List (List ℕ)) (n : ℕ) (name : List ℕ) (body : Formula) (bytes a b rest : List ℕ) → expect_at (codes "pred") bytes ≡ Ok (32 ∷ a) → says_at (new_name_of names) a ≡ Ok (name, 32 ∷ b) → formula_at arities MAX_LINE_LEVELS n b ≡ Ok (body, 10 ∷ rest) → pred_at arities names n bytes ≡ Ok (record { name = name; arity = n; body = body }, rest)
unfolding pred_at part_at skip_at ends_at
pred_read arities names n name body bytes a b rest h k l = rw h (rw k (rw l refl))

pub pred_again : (arities : List ℕ) (names : List (List ℕ)) (q : Pred) (rest : List ℕ) → AritiesFit arities → PredFits arities names q → pred_at arities names q.arity (pred_text q rest) ≡ Ok (q, rest)
pred_again arities names q rest table fits =
    let small : q.arity ≤ MAX_VARIABLES = arity_small arities (length names) q.arity table.1 fits.arity in
    pred_read arities names q.arity q.name q.body (pred_text q rest) (q.name ++ (32 ∷ formula_text q.body (10 ∷ rest))) (formula_text q.body (10 ∷ rest)) rest
    (expect_again (codes "pred") (32 ∷ (q.name ++ (32 ∷ formula_text q.body (10 ∷ rest)))) refl refl)
    (new_name_again names q.name (32 ∷ formula_text q.body (10 ∷ rest)) fits.named fits.new refl)
    (formula_again arities q.body MAX_LINE_LEVELS q.arity (10 ∷ rest) (omega (arith, table.0)) (omega arith) fits.body.in_range fits.body.levels refl)

pub pred_found : (arities : List ℕ) (names : List (List ℕ)) (n : ℕ) (bytes : List ℕ) (q : Pred) (rest : List ℕ) → HasArity arities (length names) n → pred_at arities names n bytes ≡ Ok (q, rest) → PredIsSpelled arities names bytes q rest
unfolding pred_at
pred_found arities names n bytes q rest has e =
    with_ok (expect_at (codes "pred") bytes) _ (q, rest) e (λ a ea ha.
    with_ok (part_at (says_at (new_name_of names)) a) _ (q, rest) ha (λ name en hn.
    with_ok (part_at (formula_at arities MAX_LINE_LEVELS n) name.1) _ (q, rest) hn (λ body eb hb.
    let p = part_found (says_at (new_name_of names)) a name.0 name.1 en in
    let f = new_name_found names p.at name.0 name.1 p.read in
    let r = part_found (formula_at arities MAX_LINE_LEVELS n) name.1 body.0 body.1 eb in
    let g = formula_found arities MAX_LINE_LEVELS n r.at body.0 body.1 r.read in
    let end = ends_found (record { name = name.0; arity = n; body = body.0 }) q body.1 rest hb in
    subst (λ (x : Pred). PredIsSpelled arities names bytes x rest) end.1
    (record {
      fits = record { named = f.named; new = f.new; arity = has; body = record { in_range = g.in_range; levels = g.depth } };
      spelled = expect_found (codes "pred") bytes a ea ∙ ap (λ x. codes "pred" ++ x) (p.parts ∙ ap (λ x. 32 ∷ x) (f.parts ∙ ap (λ x. name.0 ++ x) (r.parts ∙ ap (λ x. 32 ∷ x) (g.spelled ∙ ap (formula_text body.0) end.0))));
    }))))
