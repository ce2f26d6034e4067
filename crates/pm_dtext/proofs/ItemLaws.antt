-- Items behind blanks: what is spelled is read again, and what was read is spelled so.
use Rattle.std.proofs.Common.{◌≡◌, ℕ, zero, suc, ◌<◌, ◌≤◌, ◌^◌, true, List, [], ◌∷◌, ◌++◌, length, refl, sym, ◌∙◌, ap, subst, arith, Result, Ok}
use Rattle.std.specs.Fmt.{decimal}
use Rattle.std.specs.List.{AllByRecursion}
use Rattle.pm_dtext.specs.declared.fault.Fault.{Fault}
use Rattle.pm_dtext.specs.Spelling.{items_text, list_text}
use Rattle.pm_dtext.specs.Reading.{says_at, up_to, part_at, items_at, list_at}
use Rattle.pm_dtext.proofs.Steps.{with_ok, ok_is}
use Rattle.pm_dtext.proofs.WordLaws.{stops, part_again, part_found, up_to_again, up_to_found}

pub items_stop : {A : Type 0} (text : A → List ℕ → List ℕ) (xs : List A) (rest : List ℕ) → stops rest ≡ true → stops (items_text text xs rest) ≡ true
unfolding items_text
items_stop text [] rest e = e
items_stop text (x ∷ xs) rest e = refl

abbrev pub EachAgain : {A : Type 0} → (List ℕ → Result (A × List ℕ) Fault) → (A → List ℕ → List ℕ) → (A → Type 0) → Type 0
EachAgain {A} inner text P = (x : A) (rest : List ℕ) → P x → stops rest ≡ true → inner (text x rest) ≡ Ok (x, rest)

pub items_again : {A : Type 0} (inner : List ℕ → Result (A × List ℕ) Fault) (text : A → List ℕ → List ℕ) (P : A → Type 0) (xs : List A) (rest : List ℕ) → EachAgain inner text P → AllByRecursion P xs → stops rest ≡ true → items_at inner (length xs) (items_text text xs rest) ≡ Ok (xs, rest)
unfolding items_at items_text
items_again inner text P [] rest each fits e = refl
items_again inner text P (x ∷ xs) rest each fits e =
    rw (part_again inner (text x (items_text text xs rest)))
    (rw (each x (items_text text xs rest) fits.0 (items_stop text xs rest e))
    (rw (items_again inner text P xs rest each fits.1 e) refl))

pub list_again : {A : Type 0} (most : ℕ) (inner : List ℕ → Result (A × List ℕ) Fault) (text : A → List ℕ → List ℕ) (P : A → Type 0) (xs : List A) (rest : List ℕ) → most < 2 ^ 64 → EachAgain inner text P → length xs ≤ most → AllByRecursion P xs → stops rest ≡ true → list_at most inner (list_text text xs rest) ≡ Ok (xs, rest)
unfolding list_at
list_again most inner text P xs rest small each few fits e =
    rw (up_to_again most (length xs) (items_text text xs rest) (omega arith) few (items_stop text xs rest e)) (items_again inner text P xs rest each fits e)

pub record ItemFound {A : Type 0} (text : A → List ℕ → List ℕ) (P : A → Type 0) (bytes : List ℕ) (x : A) (rest : List ℕ) : Type 0 where
  pub spelled : bytes ≡ text x rest
  pub fits : P x

abbrev pub EachFound : {A : Type 0} → (List ℕ → Result (A × List ℕ) Fault) → (A → List ℕ → List ℕ) → (A → Type 0) → Type 0
EachFound {A} inner text P = (bytes : List ℕ) (x : A) (rest : List ℕ) → inner bytes ≡ Ok (x, rest) → ItemFound text P bytes x rest

pub record ItemsFound {A : Type 0} (text : A → List ℕ → List ℕ) (P : A → Type 0) (n : ℕ) (bytes : List ℕ) (xs : List A) (rest : List ℕ) : Type 0 where
  pub spelled : bytes ≡ items_text text xs rest
  pub fits : AllByRecursion P xs
  pub count : length xs ≡ n

items_made : {A : Type 0} (text : A → List ℕ → List ℕ) (P : A → Type 0) (n : ℕ) (bytes at middle : List ℕ) (x : A) (xs : List A) (rest : List ℕ) → bytes ≡ 32 ∷ at → ItemFound text P at x middle → ItemsFound text P n middle xs rest → ItemsFound text P (suc n) bytes (x ∷ xs) rest
unfolding items_text
items_made text P n bytes at middle x xs rest e h k = record {
  spelled = e ∙ ap (λ y. 32 ∷ y) (h.spelled ∙ ap (text x) k.spelled);
  fits = (h.fits, k.fits);
  count = omega (arith, k.count);
}

pub items_found : {A : Type 0} (inner : List ℕ → Result (A × List ℕ) Fault) (text : A → List ℕ → List ℕ) (P : A → Type 0) (n : ℕ) (bytes : List ℕ) (xs : List A) (rest : List ℕ) → EachFound inner text P → items_at inner n bytes ≡ Ok (xs, rest) → ItemsFound text P n bytes xs rest
unfolding items_at items_text
items_found {A} inner text P zero bytes xs rest each e =
    subst (λ (p : List A × List ℕ). ItemsFound text P 0 bytes p.0 p.1) (ok_is {A = List A × List ℕ} ([], bytes) (xs, rest) e) (record { spelled = refl; fits = tt; count = refl })
items_found {A} inner text P (suc n) bytes xs rest each e =
    with_ok (part_at inner bytes) _ (xs, rest) e (λ x ex hx.
    with_ok (items_at inner n x.1) _ (xs, rest) hx (λ ys ey hy.
    let p = part_found inner bytes x.0 x.1 ex in
    subst (λ (q : List A × List ℕ). ItemsFound text P (suc n) bytes q.0 q.1) (ok_is {A = List A × List ℕ} (x.0 ∷ ys.0, ys.1) (xs, rest) hy)
    (items_made text P n bytes p.at x.1 x.0 ys.0 ys.1 p.parts (each p.at x.0 x.1 p.read) (items_found inner text P n x.1 ys.0 ys.1 each ey))))

pub record ListFound {A : Type 0} (text : A → List ℕ → List ℕ) (P : A → Type 0) (most : ℕ) (bytes : List ℕ) (xs : List A) (rest : List ℕ) : Type 0 where
  pub spelled : bytes ≡ list_text text xs rest
  pub fits : AllByRecursion P xs
  pub few : length xs ≤ most

pub list_found : {A : Type 0} (most : ℕ) (inner : List ℕ → Result (A × List ℕ) Fault) (text : A → List ℕ → List ℕ) (P : A → Type 0) (bytes : List ℕ) (xs : List A) (rest : List ℕ) → EachFound inner text P → list_at most inner bytes ≡ Ok (xs, rest) → ListFound text P most bytes xs rest
unfolding list_at
list_found most inner text P bytes xs rest each e =
    with_ok (says_at (up_to most) bytes) _ (xs, rest) e (λ n en hn.
    let u = up_to_found most bytes n.0 n.1 en in
    let f = items_found inner text P n.0 n.1 xs rest each hn in
    record {
      spelled = u.parts ∙ (ap (λ k. decimal k ++ n.1) (sym f.count) ∙ ap (λ y. decimal (length xs) ++ y) f.spelled);
      fits = f.fits;
      few = omega (arith, u.within, f.count);
    })
