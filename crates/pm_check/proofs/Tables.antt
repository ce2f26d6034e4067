-- Tables and one predicate more.
use Rattle.std.proofs.Common.{◌≡◌, ◌⊎◌, ℕ, zero, suc, ◌+◌, ◌<◌, ◌≤◌, List, [], ◌∷◌, ◌++◌, length, take, refl, sym, ◌∙◌, ap, ap₂, subst, arith, Option, Some, None, Ok, Err, MatchOption, inl, inr}
use Rattle.std.specs.Prelude.{slice_get, slice_index_or}
use Rattle.std.specs.List.{AllByRecursion}
use Rattle.pm_logic.specs.declared.formula.Formula.{Formula}
use Rattle.pm_logic.specs.declared.formula.Pred.{Pred}
use Rattle.pm_logic.specs.declared.formula.Preds.{Preds}
use Rattle.pm_logic.specs.Scope.{body_of}
use Rattle.pm_logic.specs.Guard.{CallsBelow, IsGuarded}
use Rattle.pm_rules.specs.Rules.{IsFit, HasFitBodies}
use Rattle.pm_dtext.specs.declared.fault.Fault.{Fault}
use Rattle.pm_dtext.specs.declared.fault.ReadFault.{ReadFault}
use Rattle.pm_dtext.specs.declared.fault.ReadFault.TheVariants as read
use Rattle.pm_dtext.specs.Spelling.{header_text, arities_text, pred_text}
use Rattle.pm_dtext.specs.Ranges.{HasArity, AritiesFit, PredFits}
use Rattle.pm_dtext.specs.Reading.{header_at, arities_at, pred_at}
use Rattle.pm_dtext.specs.Texts.{arities_of, names_of, Fails}
use Rattle.pm_dtext.specs.Laws.{HeadersAreRead, AritiesAreRead, PredsAreRead}
use Rattle.pm_check.specs.declared.fault.CheckFault.{CheckFault}
use Rattle.pm_check.specs.declared.fault.CheckFault.TheVariants.{Unguarded, Memory}
use Rattle.pm_check.specs.Table.{preds_text, table_text, BeginsTable}
use Rattle.pm_check.specs.Offence.{placed, FirstOffence, header, arities, predicate, unguarded}
use Rattle.pm_check.specs.Kept.{answered, HasTable}
use Rattle.pm_dtext.proofs.Steps.{same_some}
use Rattle.pm_check.proofs.Growing.{each_none, each_more}
use Rattle.pm_check.proofs.Ready.{is_fit}

-- ---- bodies

pub body_last : (qs : List Pred) (q : Pred) → body_of (qs ++ q ∷ []) (length qs) ≡ q.body
body_last [] q = refl
body_last (x ∷ qs) q = body_last qs q

body_before : (qs : List Pred) (q : Pred) (p : ℕ) → p < length qs → body_of (qs ++ q ∷ []) p ≡ body_of qs p
body_before [] q p lt = absurd (omega arith)
body_before (x ∷ qs) q zero lt = refl
body_before (x ∷ qs) q (suc p) lt = body_before qs q p (omega arith)

length_more : (qs : List Pred) (q : Pred) → length (qs ++ q ∷ []) ≡ suc (length qs)
length_more [] q = refl
length_more (x ∷ qs) q = ap suc (length_more qs q)

last_or_before : (i k : ℕ) → i < suc k → (k ≡ i) ⊎ (i < k)
last_or_before i k lt = grind arith

guarded_more : (qs : List Pred) (q : Pred) → IsGuarded qs → CallsBelow (length qs) q.body → IsGuarded (qs ++ q ∷ [])
guarded_more qs q old now p lt = elim (last_or_before p (length qs) (subst (λ (n : ℕ). p < n) (length_more qs q) lt)) [
  | inl e ↦ subst (λ (i : ℕ). CallsBelow i (body_of (qs ++ q ∷ []) i)) e (subst (λ (f : Formula). CallsBelow (length qs) f) (sym (body_last qs q)) now)
  | inr below ↦ subst (λ (f : Formula). CallsBelow p f) (sym (body_before qs q p below)) (old p below)
]

-- ---- one predicate more

pub table_none : (table : List ℕ) → AritiesFit table → BeginsTable table []
table_none table fit = record { fit = fit; each = each_none (λ before q. PredFits table (names_of before) q); guarded = λ p lt. absurd (omega arith) }

pub table_more : (table : List ℕ) (qs : List Pred) (q : Pred) → BeginsTable table qs → PredFits table (names_of qs) q → CallsBelow (length qs) q.body → BeginsTable table (qs ++ q ∷ [])
table_more table qs q b fits now = record {
  fit = b.fit;
  each = each_more (λ before q. PredFits table (names_of before) q) qs q b.each fits;
  guarded = guarded_more qs q b.guarded now;
}

preds_text_more : (qs : List Pred) (q : Pred) (rest : List ℕ) → preds_text (qs ++ q ∷ []) rest ≡ preds_text qs (pred_text q rest)
preds_text_more [] q rest = refl
preds_text_more (x ∷ qs) q rest = ap (pred_text x) (preds_text_more qs q rest)

pub table_text_more : (table : List ℕ) (qs : List Pred) (q : Pred) (rest : List ℕ) → table_text table (qs ++ q ∷ []) rest ≡ table_text table qs (pred_text q rest)
table_text_more table qs q rest = ap (λ t. header_text (arities_text table t)) (preds_text_more qs q rest)

pub arities_more : (qs : List Pred) (q : Pred) → arities_of (qs ++ q ∷ []) ≡ arities_of qs ++ q.arity ∷ []
arities_more [] q = refl
arities_more (x ∷ qs) q = ap (λ ns. x.arity ∷ ns) (arities_more qs q)

pub adds_pred : (old new : List Pred) (q : Pred) → new ≡ old ++ q ∷ [] → CallsBelow (length old) (body_of new (length old)) → (new ≡ old ++ q ∷ []) × CallsBelow (length old) q.body
adds_pred old new q is below = (is, subst (λ (f : Formula). CallsBelow (length old) f) (ap (λ ps. body_of ps (length old)) is ∙ body_last old q) below)

pub lacks_guard : (old new : List Pred) (q : Pred) (f : CheckFault) → new ≡ old ++ q ∷ [] → ¬ CallsBelow (length old) (body_of new (length old)) → f ≡ Unguarded (length old) → (f ≡ Memory) ⊎ (f ≡ Unguarded (length old)) × ¬ CallsBelow (length old) q.body
lacks_guard old new q f is bad e = inr (e, λ (below : CallsBelow (length old) q.body). bad (subst (λ (b : Formula). CallsBelow (length old) b) (sym (ap (λ ps. body_of ps (length old)) is ∙ body_last old q)) below))

-- ---- the loop

-- the first predicates were read behind these arities
pub record TableProgress (bytes table : List ℕ) (i : ℕ) (qs : List Pred) (rest : List ℕ) : Type 0 where
  pub text : bytes ≡ table_text table qs rest
  pub begins : BeginsTable table qs
  pub count : length qs ≡ i
  pub arities_are : arities_of qs ≡ take i table

pub table_begun : (bytes table rest : List ℕ) (qs : List Pred) → qs ≡ [] → bytes ≡ table_text table [] rest → AritiesFit table → TableProgress bytes table 0 qs rest
table_begun bytes table rest qs e text fit = record {
  text = text ∙ ap (λ ps. table_text table ps rest) (sym e);
  begins = subst (λ (ps : List Pred). BeginsTable table ps) (sym e) (table_none table fit);
  count = ap length e;
  arities_are = ap arities_of e;
}

take_more : (xs : List ℕ) (i x : ℕ) → slice_get xs i ≡ Some x → take (suc i) xs ≡ take i xs ++ x ∷ []
take_more [] i x e = absurd cc
take_more (y ∷ xs) zero x e = cc
take_more (y ∷ xs) (suc i) x e = ap (λ ys. y ∷ ys) (take_more xs i x e)

suc_is : (i : ℕ) → suc i ≡ i + 1
suc_is i = omega arith

take_whole : (xs : List ℕ) (i : ℕ) → length xs ≤ i → take i xs ≡ xs
take_whole [] zero le = refl
take_whole [] (suc i) le = refl
take_whole (x ∷ xs) zero le = absurd (omega arith)
take_whole (x ∷ xs) (suc i) le = ap (λ ys. x ∷ ys) (take_whole xs i (omega arith))

pub names_length : (qs : List Pred) → length (names_of qs) ≡ length qs
names_length [] = refl
names_length (x ∷ qs) = ap suc (names_length qs)

get_or : (xs : List ℕ) (i : ℕ) → i < length xs → slice_get xs i ≡ Some (slice_index_or xs i 0)
get_or [] i lt = absurd (omega arith)
get_or (x ∷ xs) zero lt = refl
get_or (x ∷ xs) (suc i) lt = get_or xs i (omega arith)

get_is : (table : List ℕ) (i a : ℕ) → i < length table → a ≡ slice_index_or table i 0 → slice_get table i ≡ Some a
get_is table i a lt e = get_or table i lt ∙ ap Some (sym e)

pub has_arity : (table : List ℕ) (qs : List Pred) (i a : ℕ) → length qs ≡ i → i < length table → a ≡ slice_index_or table i 0 → HasArity table (length qs) a
has_arity table qs i a e lt a_is = subst (λ (k : ℕ). HasArity table k a) (sym e) (get_is table i a lt a_is)

pub named_arity : (table : List ℕ) (qs : List Pred) (a : ℕ) → HasArity table (length qs) a → HasArity table (length (names_of qs)) a
named_arity table qs a h = subst (λ (k : ℕ). HasArity table k a) (sym (names_length qs)) h

pub table_grown : (bytes table rest : List ℕ) (i a : ℕ) (qs : List Pred) (q : Pred) (after : List ℕ) (new : List Pred) → PredsAreRead → TableProgress bytes table i qs rest → i < length table → a ≡ slice_index_or table i 0 → pred_at table (names_of qs) a rest ≡ Ok (q, after) → (new ≡ qs ++ q ∷ []) × CallsBelow (length qs) q.body → TableProgress bytes table (i + 1) new after
table_grown bytes table rest i a qs q after new law p lt a_is e added =
    let named = named_arity table qs a (has_arity table qs i a p.count lt a_is) in
    let found = law.found table (names_of qs) a rest q after named e in
    let same : a ≡ q.arity = same_some a q.arity (sym named ∙ found.fits.arity) in
    record {
      text = p.text ∙ ap (table_text table qs) found.spelled ∙ sym (table_text_more table qs q after) ∙ ap (λ ps. table_text table ps after) (sym added.0);
      begins = subst (λ (ps : List Pred). BeginsTable table ps) (sym added.0) (table_more table qs q p.begins found.fits added.1);
      count = let c = p.count in let l = ap length added.0 ∙ length_more qs q in omega arith;
      arities_are = ap arities_of added.0 ∙ arities_more qs q ∙ ap₂ (λ ns n. ns ++ n ∷ []) p.arities_are (sym same) ∙ sym (take_more table i a (get_is table i a lt a_is)) ∙ ap (λ k. take k table) (suc_is i);
    }

pub pred_unread : (bytes table rest : List ℕ) (i a : ℕ) (qs : List Pred) (e : ReadFault) (g : CheckFault) → TableProgress bytes table i qs rest → i < length table → a ≡ slice_index_or table i 0 → Fails e (pred_at table (names_of qs) a rest) → g ≡ answered bytes 0 e → (g ≡ Memory) ⊎ FirstOffence bytes g
pred_unread bytes table rest i a qs read.Memory g p lt a_is e g_is = inl g_is
pred_unread bytes table rest i a qs (read.Fault f) g p lt a_is e g_is = inr (subst (λ (h : CheckFault). FirstOffence bytes h) (sym g_is) (predicate table qs a rest f p.text p.begins (has_arity table qs i a p.count lt a_is) e))

pub pred_refused : (bytes table rest : List ℕ) (i a : ℕ) (qs : List Pred) (q : Pred) (after : List ℕ) (g : CheckFault) → PredsAreRead → TableProgress bytes table i qs rest → i < length table → a ≡ slice_index_or table i 0 → pred_at table (names_of qs) a rest ≡ Ok (q, after) → (g ≡ Memory) ⊎ (g ≡ Unguarded (length qs)) × ¬ CallsBelow (length qs) q.body → (g ≡ Memory) ⊎ FirstOffence bytes g
pred_refused bytes table rest i a qs q after g law p lt a_is e bad =
    let found = law.found table (names_of qs) a rest q after (named_arity table qs a (has_arity table qs i a p.count lt a_is)) e in
    elim bad [
      | inl memory ↦ inl memory
      | inr lacks ↦ inr (subst (λ (h : CheckFault). FirstOffence bytes h) (sym lacks.0) (unguarded table qs q after (p.text ∙ ap (table_text table qs) found.spelled) p.begins found.fits lacks.1))
    ]

pub table_read : (bytes table rest : List ℕ) (i : ℕ) (preds : Preds) → TableProgress bytes table i preds.list rest → length table ≤ i → HasTable bytes preds rest
table_read bytes table rest i preds p le =
    let same : table ≡ arities_of preds.list = sym (p.arities_are ∙ take_whole table i le) in
    record {
      text = p.text ∙ ap (λ ns. table_text ns preds.list rest) same;
      table = subst (λ (ns : List ℕ). BeginsTable ns preds.list) same p.begins;
    }

pub table_room : (bytes table rest : List ℕ) (i : ℕ) (qs : List Pred) → TableProgress bytes table i qs rest → i < length table → length qs < 64
table_room bytes table rest i qs p lt = let le = p.begins.fit.0 in let c = p.count in omega arith

each_small : (ns : List ℕ) (i : ℕ) → AllByRecursion (λ a. a ≤ 64) ns → slice_index_or ns i 0 ≤ 64
each_small [] i h = omega arith
each_small (x ∷ ns) zero h = h.0
each_small (x ∷ ns) (suc i) h = each_small ns i h.1

pub arity_small : (table : List ℕ) (i : ℕ) → AritiesFit table → slice_index_or table i 0 ≤ 64
arity_small table i fit = each_small table i fit.1

-- ---- the lines before them

pub header_unread : (bytes : List ℕ) (f : Fault) (g : CheckFault) → header_at bytes ≡ Err f → g ≡ placed bytes 0 f → (g ≡ Memory) ⊎ FirstOffence bytes g
header_unread bytes f g e is = inr (subst (λ (h : CheckFault). FirstOffence bytes h) (sym is) (header f e))

pub arities_unread : (bytes rest : List ℕ) (e : ReadFault) (g : CheckFault) → HeadersAreRead → header_at bytes ≡ Ok rest → Fails e (arities_at rest) → g ≡ answered bytes 0 e → (g ≡ Memory) ⊎ FirstOffence bytes g
arities_unread bytes rest read.Memory g law h e g_is = inl g_is
arities_unread bytes rest (read.Fault f) g law h e g_is = inr (subst (λ (x : CheckFault). FirstOffence bytes x) (sym g_is) (arities rest f (law.found bytes rest h) e))

pub arities_text_is : (bytes rest table after : List ℕ) → HeadersAreRead → AritiesAreRead → header_at bytes ≡ Ok rest → arities_at rest ≡ Ok (table, after) → bytes ≡ table_text table [] after
arities_text_is bytes rest table after law laws h e = law.found bytes rest h ∙ ap header_text (laws.found rest table after e).spelled

pub arities_fit : (rest table after : List ℕ) → AritiesAreRead → arities_at rest ≡ Ok (table, after) → AritiesFit table
arities_fit rest table after laws e = (laws.found rest table after e).fits

-- ---- what the rules ask of the table

split_at : (qs : List Pred) (p : ℕ) (q : Pred) → slice_get qs p ≡ Some q → (before : List Pred) × (behind : List Pred) × (qs ≡ before ++ q ∷ behind)
split_at [] p q e = absurd cc
split_at (x ∷ qs) zero q e = ([], qs, cc)
split_at (x ∷ qs) (suc p) q e = let s = split_at qs p q e in (x ∷ s.0, s.1, ap (λ ys. x ∷ ys) s.2)

arity_at : (ns : List ℕ) (i n : ℕ) → AllByRecursion (λ a. a ≤ 64) ns → slice_get ns i ≡ Some n → n ≤ 64
arity_at [] i n h e = absurd cc
arity_at (x ∷ ns) zero n h e = let same : x ≡ n = cc in let le = h.0 in omega arith
arity_at (x ∷ ns) (suc i) n h e = arity_at ns i n h.1 e

pub fit_bodies : (preds : Preds) → BeginsTable (arities_of preds.list) preds.list → HasFitBodies preds
fit_bodies preds b = record { at = λ p. go p (slice_get preds.list p) refl }
  where
    go : (p : ℕ) (o : Option Pred) → slice_get preds.list p ≡ o → MatchOption o (Unit {0}) (λ q. IsFit preds q.arity q.body)
    go p None e = tt
    go p (Some q) e =
        let s = split_at preds.list p q e in
        let fits = b.each s.0 q s.1 s.2 in
        let small = arity_at (arities_of preds.list) (length (names_of s.0)) q.arity b.fit.1 fits.arity in
        is_fit preds q.arity q.body (omega arith) fits.body
