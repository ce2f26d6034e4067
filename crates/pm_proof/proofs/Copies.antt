-- A list of all parts of some trees tells these trees.
use Rattle.std.proofs.Common.{suc, ◌+◌, ◌<◌, ◌≡◌, sym, ap, refl, ◌∙◌, arith, List, [], ◌∷◌, ◌++◌, length, reverse, append_assoc, length-append}
use Rattle.std.proofs.lemmas.List.{reverse-append, reverse-reverse}
use Rattle.pm_proof.specs.Trees.{Tree, Hole, Axiom, First, Second, Both}
use Rattle.pm_proof.specs.Parts.{premises_of, parts_of, parts_of_all}

tail_same : (x y : Tree) (xs ys : List Tree) → x ∷ xs ≡ y ∷ ys → xs ≡ ys
tail_same x y xs ys h = cc

head_same : (x y : Tree) (xs ys : List Tree) → x ∷ xs ≡ y ∷ ys → x ≡ y
head_same x y xs ys h = cc

not_empty : (x : Tree) (xs : List Tree) → [] ≡ x ∷ xs → ⊥
not_empty x xs h = cc

cancel : (xs ys zs : List Tree) → xs ++ ys ≡ xs ++ zs → ys ≡ zs
cancel [] ys zs h = h
cancel (x ∷ xs) ys zs h = cancel xs ys zs (tail_same x x (xs ++ ys) (xs ++ zs) h)

-- a tree's parts are the tree and the parts of its premises
pub unfold_parts : (t : Tree) (ts : List Tree) → parts_of t ++ parts_of_all ts ≡ t ∷ parts_of_all (premises_of t ++ ts)
unfold_parts (Hole e) ts = refl
unfold_parts (Axiom r e) ts = refl
unfold_parts (First r e a) ts = refl
unfold_parts (Second r e b) ts = refl
unfold_parts (Both r e a b) ts = ap (λ l. Both r e a b ∷ l) (append_assoc (parts_of a) (parts_of b) (parts_of_all ts))

pub same_trees : (xs ys : List Tree) → parts_of_all xs ≡ parts_of_all ys → xs ≡ ys
same_trees [] [] h = refl
same_trees [] (y ∷ ys) h = absurd (not_empty y (parts_of_all (premises_of y ++ ys)) (h ∙ unfold_parts y ys))
same_trees (x ∷ xs) [] h = absurd (not_empty x (parts_of_all (premises_of x ++ xs)) (sym h ∙ unfold_parts x xs))
same_trees (x ∷ xs) (y ∷ ys) h =
    let heads : x ≡ y = head_same x y (parts_of_all (premises_of x ++ xs)) (parts_of_all (premises_of y ++ ys)) (sym (unfold_parts x xs) ∙ h ∙ unfold_parts y ys) in
    let rest : parts_of_all xs ≡ parts_of_all ys = cancel (parts_of x) (parts_of_all xs) (parts_of_all ys) (h ∙ ap (λ z. parts_of z ++ parts_of_all ys) (sym heads)) in
    ap (λ z. z ∷ xs) heads ∙ ap (λ l. y ∷ l) (same_trees xs ys rest)

-- behind each part stand the parts of its premises
pub record Behind (t : Tree) (ts : List Tree) : Type 0 where
  pub rest : List Tree
  pub is : ts ≡ parts_of_all (premises_of t ++ rest)

pub behind : (before : List Tree) (t : Tree) (ts ws : List Tree) → before ++ t ∷ ts ≡ parts_of_all ws → Behind t ts
behind [] t ts [] h = absurd (not_empty t ts (sym h))
behind [] t ts (w ∷ ws) h =
    let heads : t ≡ w = head_same t w ts (parts_of_all (premises_of w ++ ws)) (h ∙ unfold_parts w ws) in
    record { rest = ws; is = tail_same t w ts (parts_of_all (premises_of w ++ ws)) (h ∙ unfold_parts w ws) ∙ ap (λ z. parts_of_all (premises_of z ++ ws)) (sym heads) }
behind (x ∷ before) t ts [] h = absurd (not_empty x (before ++ t ∷ ts) (sym h))
behind (x ∷ before) t ts (w ∷ ws) h =
    behind before t ts (premises_of w ++ ws) (tail_same x w (before ++ t ∷ ts) (parts_of_all (premises_of w ++ ws)) (h ∙ unfold_parts w ws))

-- the last one of a list that is kept the other way round
last_first : (ts : List Tree) (t : Tree) → reverse (ts ++ t ∷ []) ≡ t ∷ reverse ts
last_first ts t = reverse-append ts (t ∷ [])

-- a part is passed, and its premises stand ahead
pub passed : (parts ahead new all : List Tree) (t : Tree) → parts ++ parts_of_all (reverse (ahead ++ t ∷ [])) ≡ all → reverse new ≡ premises_of t ++ reverse ahead → (parts ++ t ∷ []) ++ parts_of_all (reverse new) ≡ all
passed parts ahead new all t h is =
    append_assoc parts (t ∷ []) (parts_of_all (reverse new)) ∙ ap (λ l. parts ++ (t ∷ parts_of_all l)) is ∙ ap (λ l. parts ++ l) (sym (unfold_parts t (reverse ahead))) ∙ ap (λ l. parts ++ parts_of_all l) (sym (last_first ahead t)) ∙ h

-- and there are fewer parts ahead
pub fewer : (ahead new : List Tree) (t : Tree) → reverse new ≡ premises_of t ++ reverse ahead → length (parts_of_all (reverse new)) < length (parts_of_all (reverse (ahead ++ t ∷ [])))
fewer ahead new t is =
    let e : length (parts_of_all (reverse (ahead ++ t ∷ []))) ≡ suc (length (parts_of_all (reverse new))) = ap (λ l. length (parts_of_all l)) (last_first ahead t) ∙ ap length (unfold_parts t (reverse ahead)) ∙ ap (λ l. suc (length (parts_of_all l))) (sym is) in
    omega (arith, e)

-- the copies of a part's premises are the last ones, the first one at the end
pub ready : (parts built ws : List Tree) (t : Tree) → (parts ++ t ∷ []) ++ parts_of_all (reverse built) ≡ parts_of_all ws → (rest : List Tree) × (reverse built ≡ premises_of t ++ rest)
ready parts built ws t h =
    let b = behind parts t (parts_of_all (reverse built)) ws (sym (append_assoc parts (t ∷ []) (parts_of_all (reverse built))) ∙ h) in
    (b.rest, same_trees (reverse built) (premises_of t ++ b.rest) b.is)

-- a part is copied
pub copied : (parts built new all rest : List Tree) (t : Tree) → (parts ++ t ∷ []) ++ parts_of_all (reverse built) ≡ all → reverse built ≡ premises_of t ++ rest → reverse new ≡ t ∷ rest → parts ++ parts_of_all (reverse new) ≡ all
copied parts built new all rest t h old is =
    ap (λ l. parts ++ parts_of_all l) is ∙ ap (λ l. parts ++ l) (unfold_parts t rest) ∙ ap (λ l. parts ++ (t ∷ parts_of_all l)) (sym old) ∙ sym (append_assoc parts (t ∷ []) (parts_of_all (reverse built))) ∙ h

-- all parts are copied
pub whole : (built : List Tree) (t : Tree) → parts_of_all (reverse built) ≡ parts_of_all (t ∷ []) → built ≡ t ∷ []
whole built t h = sym (reverse-reverse built) ∙ ap reverse (same_trees (reverse built) (t ∷ []) h)

-- the last one of a list of one
pub single : (ts : List Tree) (t u : Tree) → t ∷ [] ≡ ts ++ u ∷ [] → u ≡ t
single [] t u h = sym (head_same t u [] [] h)
single (x ∷ ts) t u h =
    let e : [] ≡ ts ++ u ∷ [] = tail_same t x [] (ts ++ u ∷ []) h in
    let n : 0 ≡ length ts + 1 = ap length e ∙ length-append ts (u ∷ []) in
    absurd (omega (arith, n))

pub no_items : (ts : List Tree) → length ts ≡ 0 → ts ≡ []
no_items [] h = refl
no_items (t ∷ ts) h = absurd (omega arith)
