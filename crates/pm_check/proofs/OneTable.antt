-- A table at the front of a text has one verdict.
use Rattle.std.proofs.Common.{◌≡◌, ℕ, ◌+◌, ◌<◌, ◌^◌, List, [], ◌∷◌, ◌++◌, length, refl, sym, ◌∙◌, ap, ap₂, subst, arith, Result, Ok, Err, append-nil}
use Rattle.pm_logic.specs.declared.formula.Pred.{Pred}
use Rattle.pm_logic.specs.declared.formula.Preds.{Preds}
use Rattle.pm_logic.specs.declared.formula.Formula.{Formula}
use Rattle.pm_logic.specs.Scope.{body_of}
use Rattle.pm_logic.specs.Guard.{CallsBelow, IsGuarded}
use Rattle.pm_dtext.specs.declared.line.Line.{Line}
use Rattle.pm_dtext.specs.declared.fault.Fault.{Fault}
use Rattle.pm_dtext.specs.Spelling.{pred_text}
use Rattle.pm_dtext.specs.Ranges.{HasArity, AritiesFit, PredFits}
use Rattle.pm_dtext.specs.Reading.{pred_at}
use Rattle.pm_dtext.specs.Texts.{arities_of, names_of}
use Rattle.pm_dtext.specs.Laws.{PredsAreRead}
use Rattle.pm_check.specs.declared.checked.Statement.{Statement}
use Rattle.pm_check.specs.declared.fault.CheckFault.{CheckFault}
use Rattle.pm_check.specs.declared.fault.CheckFault.TheVariants.{Unguarded}
use Rattle.pm_check.specs.Fronts.{EachBehind}
use Rattle.pm_check.specs.Table.{preds_text}
use Rattle.pm_check.specs.Derivation.{lines_text, IsNext}
use Rattle.pm_check.specs.Offence.{placed}
use Rattle.pm_check.proofs.Growing.{each_now, each_next}
use Rattle.std.proofs.lemmas.List.{append_assoc}
use Rattle.pm_check.proofs.Longer.{pred_longer}
use Rattle.pm_dtext.proofs.Steps.{same_some}
use Rattle.pm_check.proofs.Tables.{names_length}
use Rattle.pm_check.proofs.OneEnd.{LineLaws, Verdict, Stops, lines_once}

-- ---- the table

-- with the table
abbrev pub with_preds : Preds → Verdict → Result (Preds × List Statement) CheckFault
with_preds preds (Ok statements) = Ok (preds, statements)
with_preds preds (Err f) = Err f

abbrev pub table_of : List Pred → Preds
table_of qs = record { list = qs }

-- what is found behind the first predicates of a table
pub data TableStops (bytes table : List ℕ) (qs : List Pred) (rest : List ℕ) : Result (Preds × List Statement) CheckFault → Type 0 where
  no_pred : (a : ℕ) (f : Fault) → HasArity table (length qs) a → pred_at table (names_of qs) a rest ≡ Err f → TableStops bytes table qs rest (Err (placed bytes 0 f))
  no_guard : (q : Pred) (after : List ℕ) → rest ≡ pred_text q after → PredFits table (names_of qs) q → ¬ CallsBelow (length qs) q.body → TableStops bytes table qs rest (Err (Unguarded (length qs)))
  behind : (ls : List Line) (after : List ℕ) (v : Verdict) → table ≡ arities_of qs → rest ≡ lines_text 1 ls after → EachBehind (IsNext (table_of qs)) ls → Stops bytes (table_of qs) ls after v → TableStops bytes table qs rest (with_preds (table_of qs) v)

abbrev ReadPred : Type 0
ReadPred = Result (Pred × List ℕ) Fault

pred_ok_is : (p q : Pred × List ℕ) → (let r : ReadPred = Ok p in r) ≡ Ok q → p ≡ q
pred_ok_is p q e = cc

pred_err_is : (f g : Fault) → (let r : ReadPred = Err f in r) ≡ Err g → f ≡ g
pred_err_is f g e = cc

pred_ok_or_err : (p : Pred × List ℕ) (f : Fault) → (let r : ReadPred = Ok p in r) ≡ Err f → ⊥
pred_ok_or_err p f e = cc

own_arity : (table : List ℕ) (qs : List Pred) (q : Pred) → PredFits table (names_of qs) q → HasArity table (length qs) q.arity
own_arity table qs q fits = subst (λ (k : ℕ). HasArity table k q.arity) (names_length qs) fits.arity

arity_once : (table : List ℕ) (k a b : ℕ) → HasArity table k a → HasArity table k b → a ≡ b
arity_once table k a b h i = same_some a b (sym h ∙ i)

past : (qs : List Pred) (a : ℕ) → HasArity (arities_of qs) (length qs) a → ⊥
past [] a h = cc
past (q ∷ qs) a h = past qs a h

ended : (table : List ℕ) (qs : List Pred) (a : ℕ) → table ≡ arities_of qs → HasArity table (length qs) a → ⊥
ended table qs a e h = past qs a (subst (λ (ns : List ℕ). HasArity ns (length qs) a) e h)

reads_pred : (table : List ℕ) (qs : List Pred) (q : Pred) (rest after : List ℕ) (a : ℕ) → PredsAreRead → AritiesFit table → rest ≡ pred_text q after → PredFits table (names_of qs) q → HasArity table (length qs) a → pred_at table (names_of qs) a rest ≡ Ok (q, after)
reads_pred table qs q rest after a law fit e fits h =
    let same : a ≡ q.arity = arity_once table (length qs) a q.arity h (own_arity table qs q fits) in
    ap₂ (λ n x. pred_at table (names_of qs) n x) same e ∙ law.again table (names_of qs) q after fit fits

same_pred : (table : List ℕ) (qs : List Pred) (q r : Pred) (rest a b : List ℕ) → PredsAreRead → AritiesFit table → rest ≡ pred_text q a → PredFits table (names_of qs) q → rest ≡ pred_text r b → PredFits table (names_of qs) r → (q ≡ r) × (a ≡ b)
same_pred table qs q r rest a b law fit e fits e' fits' =
    let h = own_arity table qs q fits in
    let same = pred_ok_is (q, a) (r, b) (sym (reads_pred table qs q rest a q.arity law fit e fits h) ∙ reads_pred table qs r rest b q.arity law fit e' fits' h) in
    (ap (λ (p : Pred × List ℕ). p.0) same, ap (λ (p : Pred × List ℕ). p.1) same)

pub record Laws (table : List ℕ) : Type 0 where
  pub preds : PredsAreRead
  pub lines : LineLaws table
  pub fit : AritiesFit table

abbrev pub Found : Type 0
Found = Result (Preds × List Statement) CheckFault

table_stops_once : (bytes table : List ℕ) (qs : List Pred) (rest : List ℕ) (v w : Found) → length rest + 1 < 2 ^ 64 → Laws table → TableStops bytes table qs rest v → TableStops bytes table qs rest w → v ≡ w
table_stops_once bytes table qs rest _ _ small law (no_pred a f h e) (no_pred b g i e') =
    let same : a ≡ b = arity_once table (length qs) a b h i in
    ap (λ x. Err (placed bytes 0 x)) (pred_err_is f g (sym e ∙ ap (λ n. pred_at table (names_of qs) n rest) same ∙ e'))
table_stops_once bytes table qs rest _ _ small law (no_pred a f h e) (no_guard q after is fits bad) = absurd (pred_ok_or_err (q, after) f (sym (reads_pred table qs q rest after a law.preds law.fit is fits h) ∙ e))
table_stops_once bytes table qs rest _ _ small law (no_pred a f h e) (behind ls after v end is each s) = absurd (ended table qs a end h)
table_stops_once bytes table qs rest _ _ small law (no_guard q after is fits bad) (no_pred a f h e) = absurd (pred_ok_or_err (q, after) f (sym (reads_pred table qs q rest after a law.preds law.fit is fits h) ∙ e))
table_stops_once bytes table qs rest _ _ small law (no_guard q after is fits bad) (no_guard r after' is' fits' bad') = refl
table_stops_once bytes table qs rest _ _ small law (no_guard q after is fits bad) (behind ls after' v end is' each s) = absurd (ended table qs q.arity end (own_arity table qs q fits))
table_stops_once bytes table qs rest _ _ small law (behind ls after v end is each s) (no_pred a f h e) = absurd (ended table qs a end h)
table_stops_once bytes table qs rest _ _ small law (behind ls after v end is each s) (no_guard q after' is' fits bad) = absurd (ended table qs q.arity end (own_arity table qs q fits))
table_stops_once bytes table qs rest _ _ small law (behind ls after v end is each s) (behind ks after' w end' is' each' t) =
    let laws = subst (λ (ns : List ℕ). LineLaws ns) end law.lines in
    let same_length = ap length is in
    ap (with_preds (table_of qs)) (lines_once bytes (table_of qs) [] ls ks after after' v w (omega arith) laws (sym is ∙ is') each each' s t)

-- nothing stops before a guarded predicate
table_goes_on : (bytes table : List ℕ) (qs : List Pred) (q : Pred) (rest after : List ℕ) (v : Found) → Laws table → rest ≡ pred_text q after → PredFits table (names_of qs) q → CallsBelow (length qs) q.body → TableStops bytes table qs rest v → ⊥
table_goes_on bytes table qs q rest after _ law is fits below (no_pred a f h e) = pred_ok_or_err (q, after) f (sym (reads_pred table qs q rest after a law.preds law.fit is fits h) ∙ e)
table_goes_on bytes table qs q rest after _ law is fits below (no_guard r after' is' fits' bad) =
    let same = same_pred table qs q r rest after after' law.preds law.fit is fits is' fits' in
    bad (subst (λ (p : Pred). CallsBelow (length qs) p.body) same.0 below)
table_goes_on bytes table qs q rest after _ law is fits below (behind ls after' v end is' each s) = ended table qs q.arity end (own_arity table qs q fits)

-- ---- two lists of predicates

guard_at : (front : List Pred) (q : Pred) (qs : List Pred) → IsGuarded (front ++ q ∷ qs) → CallsBelow (length front) q.body
guard_at front q qs g = subst (λ (f : Formula). CallsBelow (length front) f) (body front) (g (length front) (within front))
  where
    body : (front : List Pred) → body_of (front ++ q ∷ qs) (length front) ≡ q.body
    body [] = refl
    body (x ∷ front) = body front

    within : (front : List Pred) → length front < length (front ++ q ∷ qs)
    within [] = omega arith
    within (x ∷ front) = let lt = within front in omega arith

abbrev Fits : List ℕ → List Pred → Pred → Type 0
Fits table before q = PredFits table (names_of before) q

none_more : (bytes table : List ℕ) (front : List Pred) (rest : List ℕ) (v : Found) → TableStops bytes table (front ++ []) rest v → TableStops bytes table front rest v
none_more bytes table front rest v s = subst (λ (xs : List Pred). TableStops bytes table xs rest v) (simp append-nil) s

one_more : (bytes table : List ℕ) (front : List Pred) (q : Pred) (qs : List Pred) (rest : List ℕ) (v : Found) → TableStops bytes table (front ++ q ∷ qs) rest v → TableStops bytes table ((front ++ q ∷ []) ++ qs) rest v
one_more bytes table front q qs rest v s = subst (λ (xs : List Pred). TableStops bytes table xs rest v) (sym (append_assoc front (q ∷ []) qs)) s

guarded_next : (front : List Pred) (q : Pred) (qs : List Pred) → IsGuarded (front ++ q ∷ qs) → IsGuarded ((front ++ q ∷ []) ++ qs)
guarded_next front q qs g = subst (λ (xs : List Pred). IsGuarded xs) (sym (append_assoc front (q ∷ []) qs)) g

pub table_once : (bytes table : List ℕ) (front qs rs : List Pred) (rest rest' : List ℕ) (v w : Found) → length (preds_text qs rest) + 1 < 2 ^ 64 → Laws table → preds_text qs rest ≡ preds_text rs rest' → EachBehind (Fits table) (front ++ qs) → EachBehind (Fits table) (front ++ rs) → IsGuarded (front ++ qs) → IsGuarded (front ++ rs) → TableStops bytes table (front ++ qs) rest v → TableStops bytes table (front ++ rs) rest' w → v ≡ w
table_once bytes table front [] [] rest rest' v w small law e a b g h s t = table_stops_once bytes table (front ++ []) rest v w small law s (subst (λ (x : List ℕ). TableStops bytes table (front ++ []) x w) (sym e) t)
table_once bytes table front [] (r ∷ rs) rest rest' v w small law e a b g h s t = absurd (table_goes_on bytes table front r rest (preds_text rs rest') v law e (each_now (Fits table) front r rs b) (guard_at front r rs h) (none_more bytes table front rest v s))
table_once bytes table front (q ∷ qs) [] rest rest' v w small law e a b g h s t = absurd (table_goes_on bytes table front q rest' (preds_text qs rest) w law (sym e) (each_now (Fits table) front q qs a) (guard_at front q qs g) (none_more bytes table front rest' w t))
table_once bytes table front (q ∷ qs) (r ∷ rs) rest rest' v w small law e a b g h s t =
    let x = preds_text (q ∷ qs) rest in
    let same = same_pred table front q r x (preds_text qs rest) (preds_text rs rest') law.preds law.fit refl (each_now (Fits table) front q qs a) e (each_now (Fits table) front r rs b) in
    let b' : EachBehind (Fits table) (front ++ q ∷ rs) = subst (λ (p : Pred). EachBehind (Fits table) (front ++ p ∷ rs)) (sym same.0) b in
    let h' : IsGuarded (front ++ q ∷ rs) = subst (λ (p : Pred). IsGuarded (front ++ p ∷ rs)) (sym same.0) h in
    let t' : TableStops bytes table (front ++ q ∷ rs) rest' w = subst (λ (p : Pred). TableStops bytes table (front ++ p ∷ rs) rest' w) (sym same.0) t in
    let longer = pred_longer q (preds_text qs rest) in
    table_once bytes table (front ++ q ∷ []) qs rs rest rest' v w (omega arith) law same.1 (each_next (Fits table) front q qs a) (each_next (Fits table) front q rs b') (guarded_next front q qs g) (guarded_next front q rs h') (one_more bytes table front q qs rest v s) (one_more bytes table front q rs rest' w t')
