-- Actions on all places, place by place.
use Rattle.std.proofs.Common.{◌≡◌, ℕ, suc, ◌+◌, ◌-◌, ◌<◌, ◌≤◌, List, [], ◌∷◌, ◌++◌, length, drop, get_or, refl, sym, ◌∙◌, ap, ap₂, subst, arith, Some}
use Rattle.std.specs.Prelude.{Ok, Err, slice_get}
use Rattle.std.proofs.lemmas.List.{append-nil, append_assoc}
use Rattle.pm_logic.specs.declared.formula.Preds.{Preds}
use Rattle.pm_goal.specs.declared.work.Work.{Work}
use Rattle.pm_goal.specs.declared.refusal.StepFault.{StepFault}
use Rattle.pm_goal.specs.declared.refusal.StepFault.TheVariants as fault
use Rattle.pm_rules.specs.declared.rules.Entail.{Entail}
use Rattle.pm_proof.specs.Trees.{Tree, conclusion, holes_of, splice}
use Rattle.pm_proof.specs.Valid.{EntailScoped}
use Rattle.pm_proof.specs.Known.{Proves, Every, ScopedWhere, FillProves}
use Rattle.pm_proof.specs.declared.proof.Parts.{Parts}
use Rattle.pm_star.proofs.Scoping.{work_scoped}
use Rattle.pm_table.specs.declared.place.Place.{Place}
use Rattle.pm_table.specs.Limits.{work_at}
use Rattle.pm_table.specs.Running.{Run, ran, stopped, beside, on_all}
use Rattle.pm_table.specs.Scopes.{IsWorkScoped}
use Rattle.pm_table.specs.Stepping.{Each}
use Rattle.pm_action.specs.Meanings.{meaning, meaning_at, meanings}
use Rattle.pm_action.proofs.Sums.{from_place, none_left}
use Rattle.pm_sweep.specs.Standing.{IsFit, AreFit, AreScoped, Stands, IsStanding, IsSound, Follows, Replaces, DEEPEST, WIDEST}

-- ---- scope of a work and of what it means

pub work_of_meaning : (preds : Preds) (w : Work) → EntailScoped preds (meaning w) → IsWorkScoped preds w
work_of_meaning preds w e =
    let s = (work_scoped preds (length w.goal.vars) w).0 e.0 in
    record { goal = record { pures = s.goal.pures; ints = s.goal.ints; spats = s.goal.spats; concl = e.1 }; held = s.held }

pub meaning_of_work : (preds : Preds) (w : Work) → IsWorkScoped preds w → EntailScoped preds (meaning w)
meaning_of_work preds w s =
    ((work_scoped preds (length w.goal.vars) w).1 (record { goal = record { pures = s.goal.pures; ints = s.goal.ints; spats = s.goal.spats }; held = s.held }), s.goal.concl)

-- ---- lists

each_append : {A : Type 0} (P : A → Type 0) (xs ys : List A) → Each P xs → Each P ys → Each P (xs ++ ys)
each_append P [] ys h g = g
each_append P (x ∷ xs) ys h g = (h.0, each_append P xs ys h.1 g)

each_parts : {A : Type 0} (P : A → Type 0) (xs ys : List A) → Each P (xs ++ ys) → Each P xs × Each P ys
each_parts P [] ys h = (tt, h)
each_parts P (x ∷ xs) ys h = let rest = each_parts P xs ys h.1 in ((h.0, rest.0), rest.1)

-- an item in the middle, by others
each_exchanged : {A : Type 0} (P : A → Type 0) (xs : List A) (y : A) (zs ys : List A) → Each P ys → Each P (xs ++ y ∷ zs) → Each P ((xs ++ ys) ++ zs)
each_exchanged P xs y zs ys g h = let parts = each_parts P xs (y ∷ zs) h in each_append P (xs ++ ys) zs (each_append P xs ys parts.0 g) parts.1.1

each_item : {A : Type 0} (P : A → Type 0) (xs : List A) (y : A) (zs : List A) → Each P (xs ++ y ∷ zs) → P y
each_item P xs y zs h = (each_parts P xs (y ∷ zs) h).1.0

meanings_append : (ps qs : List Place) → meanings (ps ++ qs) ≡ meanings ps ++ meanings qs
meanings_append [] qs = refl
meanings_append (p ∷ ps) qs = ap (λ es. meaning_at p ∷ es) (meanings_append ps qs)

splice_at : (xs : List Entail) (y : Entail) (zs ys : List Entail) → splice (xs ++ y ∷ zs) (length xs) ys ≡ (xs ++ ys) ++ zs
splice_at [] y zs ys = refl
splice_at (x ∷ xs) y zs ys = ap (λ es. x ∷ es) (splice_at xs y zs ys)

item_at : (xs : List Entail) (y : Entail) (zs : List Entail) → slice_get (xs ++ y ∷ zs) (length xs) ≡ Some y
item_at [] y zs = refl
item_at (x ∷ xs) y zs = item_at xs y zs

meanings_length : (ps : List Place) → length (meanings ps) ≡ length ps
meanings_length [] = refl
meanings_length (p ∷ ps) = ap suc (meanings_length ps)

-- the meanings where a place has become others
meanings_exchanged : (ps : List Place) (p : Place) (rest qs : List Place) → splice (meanings (ps ++ p ∷ rest)) (length ps) (meanings qs) ≡ meanings ((ps ++ qs) ++ rest)
meanings_exchanged ps p rest qs =
    ap₂ (λ es n. splice es n (meanings qs)) (meanings_append ps (p ∷ rest)) (sym (meanings_length ps))
    ∙ (splice_at (meanings ps) (meaning_at p) (meanings rest) (meanings qs)
    ∙ (ap (λ es. es ++ meanings rest) (sym (meanings_append ps qs)) ∙ sym (meanings_append (ps ++ qs) rest)))

pub hole_here : (ps : List Place) (p : Place) (rest : List Place) → slice_get (meanings (ps ++ p ∷ rest)) (length ps) ≡ Some (meaning_at p)
hole_here ps p rest = ap₂ (λ es n. slice_get es n) (meanings_append ps (p ∷ rest)) (sym (meanings_length ps)) ∙ item_at (meanings ps) (meaning_at p) (meanings rest)

-- ---- runs side by side

beside_assoc : (n m : ℕ) (ps qs : List Place) (r : Run) → beside (ran n ps) (beside (ran m qs) r) ≡ beside (ran (n + m) (ps ++ qs)) r
beside_assoc n m ps qs (ran k rs) = ap₂ ran (sum n m k) (sym (append_assoc ps qs rs))
  where
    sum : (n m k : ℕ) → n + (m + k) ≡ (n + m) + k
    sum n m k = omega arith
beside_assoc n m ps qs (stopped r) = refl

-- ---- one place after another

module _ (f : Place → Run) (old : Parts Place) where
  -- the places before this one have become these, and the proof goes on from there
  pub record IsSwept (i : ℕ) (new : List Place) (t : Tree) : Type 0 where
    pub within : i ≤ length old.goals
    pub rules : ℕ
    pub is : on_all f old.goals ≡ beside (ran rules new) (on_all f (drop i old.goals))
    pub leads : (w : Work) (m : ℕ) → Stands w m old → Stands w (m + rules) (record { goals = new ++ drop i old.goals; proof = t })

  -- the place that is next
  pub next_sound : (i : ℕ) (p : Place) (new : List Place) (t : Tree) → IsStanding old → i < length old.goals → p ≡ get_or old.goals i p → IsSwept i new t → IsSound p
  next_sound i p new t standing lt at s =
      let st = s.leads standing.work standing.rules standing.stands in
      let here : drop i old.goals ≡ p ∷ drop (suc i) old.goals = from_place old.goals i p lt at in
      let fit = each_item (λ q. IsFit (work_at q)) new p (drop (suc i) old.goals) (subst (λ ps. AreFit (new ++ ps)) here st.fit) in
      let scoped = each_item (λ q. IsWorkScoped st.over (work_at q)) new p (drop (suc i) old.goals) (subst (λ ps. AreScoped st.over (new ++ ps)) here (st.scoped st.over st.based)) in
      record { fit = fit; over = st.over; scoped = scoped }

  -- and its hole
  pub next_hole : (i : ℕ) (p : Place) (new : List Place) (t : Tree) → IsStanding old → i < length old.goals → p ≡ get_or old.goals i p → IsSwept i new t → slice_get (holes_of t) (length new) ≡ Some (meaning_at p)
  next_hole i p new t standing lt at s =
      let st = s.leads standing.work standing.rules standing.stands in
      let here : drop i old.goals ≡ p ∷ drop (suc i) old.goals = from_place old.goals i p lt at in
      ap (λ es. slice_get es (length new)) (st.proves.holes ∙ ap (λ ps. meanings (new ++ ps)) here) ∙ hole_here new p (drop (suc i) old.goals)

  -- which a proof fills of what the place means
  pub next_fills : (i : ℕ) (p : Place) (r : Run) (inner : Parts Place) (new : List Place) (t : Tree) → IsStanding old → i < length old.goals → p ≡ get_or old.goals i p → IsSwept i new t → Replaces p r (Ok inner) → slice_get (holes_of t) (length new) ≡ Some (conclusion inner.proof)
  next_fills i p (stopped x) inner new t standing lt at s one = absurd one
  next_fills i p (ran n qs) inner new t standing lt at s one =
      let sound = next_sound i p new t standing lt at s in
      let stands : Stands (work_at p) n inner = one.1 sound.over sound.scoped in
      next_hole i p new t standing lt at s ∙ ap (λ e. Some e) (sym stands.proves.concludes)

  -- what stands where a place has become others
  put : (p : Place) (n : ℕ) (inner : Parts Place) (new rest : List Place) (t u : Tree) → Stands (work_at p) n inner → FillProves t (length new) inner.proof u
      → (w : Work) (m : ℕ) → Stands w m (record { goals = new ++ p ∷ rest; proof = t }) → Stands w (m + n) (record { goals = (new ++ inner.goals) ++ rest; proof = u })
  put p n inner new rest t u one fill w m st =
      let scope : ScopedWhere (meaning w) (splice (meanings (new ++ p ∷ rest)) (length new) (meanings inner.goals)) (conclusion inner.proof) =
      λ preds e hs. subst (EntailScoped preds) (sym one.proves.concludes) (meaning_of_work preds (work_at p) (each_item (λ q. IsWorkScoped preds (work_at q)) new p rest (st.scoped preds (work_of_meaning preds w e)))) in
      let x : Proves Every (conclusion inner.proof) (meanings inner.goals) n DEEPEST WIDEST inner.proof = subst (λ e. Proves Every e (meanings inner.goals) n DEEPEST WIDEST inner.proof) (sym one.proves.concludes) one.proves in
      let y : Proves Every (meaning w) (splice (meanings (new ++ p ∷ rest)) (length new) (meanings inner.goals)) (m + n) DEEPEST WIDEST u = fill Every (meaning w) (meanings (new ++ p ∷ rest)) (meanings inner.goals) m n DEEPEST WIDEST st.proves x scope in
      record {
        proves = subst (λ es. Proves Every (meaning w) es (m + n) DEEPEST WIDEST u) (meanings_exchanged new p rest inner.goals) y;
        fit = each_exchanged (λ q. IsFit (work_at q)) new p rest inner.goals one.fit st.fit;
        scoped = λ preds s. each_exchanged (λ q. IsWorkScoped preds (work_at q)) new p rest inner.goals (one.scoped preds (each_item (λ q. IsWorkScoped preds (work_at q)) new p rest (st.scoped preds s))) (st.scoped preds s);
        over = st.over;
        based = st.based;
      }

  one_more : (i : ℕ) (p : Place) (r : Run) (inner : Parts Place) (new now : List Place) (t u : Tree) → IsStanding old → i < length old.goals → p ≡ get_or old.goals i p → f p ≡ r → IsSwept i new t → Replaces p r (Ok inner) → FillProves t (length new) inner.proof u → now ≡ new ++ inner.goals → IsSwept (suc i) now u
  one_more i p (stopped x) inner new now t u standing lt at is s one fill e = absurd one
  one_more i p (ran n qs) inner new now t u standing lt at is s one fill e =
      let sound = next_sound i p new t standing lt at s in
      let here : drop i old.goals ≡ p ∷ drop (suc i) old.goals = from_place old.goals i p lt at in
      let rest = drop (suc i) old.goals in
      let stands : Stands (work_at p) n inner = one.1 sound.over sound.scoped in
      record {
        within = omega (arith, lt);
        rules = s.rules + n;
        is =
            s.is
            ∙ (ap (λ ps. beside (ran s.rules new) (on_all f ps)) here
            ∙ (ap (λ x. beside (ran s.rules new) (beside x (on_all f rest))) (is ∙ ap (ran n) (sym one.0))
            ∙ (beside_assoc s.rules n new inner.goals (on_all f rest)
            ∙ ap (λ ps. beside (ran (s.rules + n) ps) (on_all f rest)) (sym e))));
        leads = λ w m st.
            let before = subst (λ ps. Stands w (m + s.rules) (record { goals = new ++ ps; proof = t })) here (s.leads w m st) in
            let after = put p n inner new rest t u stands fill w (m + s.rules) before in
            subst (λ k. Stands w k (record { goals = now ++ rest; proof = u })) (sum m s.rules n) (subst (λ ps. Stands w ((m + s.rules) + n) (record { goals = ps ++ rest; proof = u })) (sym e) after);
      }
    where
      sum : (m r n : ℕ) → (m + r) + n ≡ m + (r + n)
      sum m r n = omega arith

  pub goes_on : (i j : ℕ) (p : Place) (inner : Parts Place) (new now : List Place) (t u : Tree) → j ≡ i + 1 → IsStanding old → i < length old.goals → p ≡ get_or old.goals i p → IsSwept i new t → Replaces p (f p) (Ok inner) → FillProves t (length new) inner.proof u → now ≡ new ++ inner.goals → IsSwept j now u
  goes_on i j p inner new now t u next standing lt at s one fill e =
      let j_is : suc i ≡ j = omega (arith, next) in
      subst (λ k. IsSwept k now u) j_is (one_more i p (f p) inner new now t u standing lt at refl s one fill e)

  -- the first refusal
  refused_by : (p : Place) (r rest : Run) (n : ℕ) (new : List Place) (e : StepFault) → Replaces p r (Err e) → Follows old (beside (ran n new) (beside r rest)) (Err e)
  refused_by p (ran k qs) rest n new (fault.Refused x) one = absurd one
  refused_by p (ran k qs) rest n new fault.Memory one = lost (beside (ran n new) (beside (ran k qs) rest))
    where
      lost : (s : Run) → Follows old s (Err fault.Memory)
      lost (ran m qs) = tt
      lost (stopped q) = tt
  refused_by p (stopped r) rest n new e one = one

  pub refuses_at : (i : ℕ) (p : Place) (new : List Place) (t : Tree) (e : StepFault) → i < length old.goals → p ≡ get_or old.goals i p → IsSwept i new t → Replaces p (f p) (Err e) → Follows old (on_all f old.goals) (Err e)
  refuses_at i p new t e lt at s one =
      let here : drop i old.goals ≡ p ∷ drop (suc i) old.goals = from_place old.goals i p lt at in
      subst (λ r. Follows old r (Err e)) (sym (s.is ∙ ap (λ ps. beside (ran s.rules new) (on_all f ps)) here)) (refused_by p (f p) (on_all f (drop (suc i) old.goals)) s.rules new e one)

  pub ends : (i : ℕ) (new : List Place) (t : Tree) → length old.goals ≤ i → IsSwept i new t → Follows old (on_all f old.goals) (Ok (record { goals = new; proof = t }))
  ends i new t le s =
      let i_is : i ≡ length old.goals = omega (arith, le, s.within) in
      let gone : drop i old.goals ≡ [] = ap (λ k. drop k old.goals) i_is ∙ none_left old.goals in
      let all : on_all f old.goals ≡ ran (s.rules + 0) (new ++ []) = s.is ∙ ap (λ ps. beside (ran s.rules new) (on_all f ps)) gone in
      let same : ran (s.rules + 0) (new ++ []) ≡ ran s.rules new = ap₂ ran (none s.rules) (append-nil new) in
      subst (λ r. Follows old r (Ok (record { goals = new; proof = t }))) (sym (all ∙ same))
      (refl, λ w m st. subst (λ ps. Stands w (m + s.rules) (record { goals = ps; proof = t })) (append-nil new) (subst (λ ps. Stands w (m + s.rules) (record { goals = new ++ ps; proof = t })) gone (s.leads w m st)))
    where
      none : (n : ℕ) → n + 0 ≡ n
      none n = omega arith
