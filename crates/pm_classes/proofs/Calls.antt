-- The arms of the calls: the answer for a formula, from its form and what the step gives.
use Rattle.std.proofs.Common.{ℕ, ◌+◌, ◌*◌, ◌/◌, ◌%◌, ◌==◌, ◌||◌, ◌≡◌, ◌≤◌, ◌<◌, cond, Bool, true, false, [], ◌∷◌, Option, None, Some, refl, sym, ap, subst, ◌∙◌, arith}
use Rattle.std.proofs.lemmas.Bool.{eqb-true}
use Rattle.pm_logic.specs.declared.formula.Term.{Term}
use Rattle.pm_logic.specs.declared.formula.Pure as P
use Rattle.pm_logic.specs.declared.formula.Pure.TheViews as pure
use Rattle.pm_logic.specs.declared.formula.Formula.{Formula}
use Rattle.pm_logic.specs.declared.formula.Formula.TheVariants.{Pure as Fact, Pts, Call}
use Rattle.pm_logic.specs.declared.formula.Formula.TheViews as view
use denote.Hole.Carrier as carrier
use Rattle.pm_logic.specs.declared.formula.Formula.TheBlock as block
use Rattle.pm_logic.specs.Trees.{Sep, Wand, And, Or, Imp, All, Ex, Later, Pers, Upd}
use Rattle.pm_logic.specs.Classes.{IsPersistent}
use Rattle.pm_logic.specs.Size.{depth_of, nodes_of}
use Rattle.pm_logic.proofs.Sizes.{depth_pure, depth_both, depth_either, depth_pts}
use Rattle.pm_proof.specs.Trees.{Tree, entail, side_depth}
use Rattle.pm_proof.specs.Known.{Proves, Every}
use Rattle.pm_proof.proofs.Fills.{weaker}
use Rattle.pm_schemes.specs.Sketches.{deepest}
use Rattle.pm_classes.specs.declared.entry.Pair.{Pair}
use Rattle.pm_classes.specs.declared.entry.One.{One}
use Rattle.pm_classes.specs.declared.entry.OnePure.{OnePure}
use Rattle.pm_classes.specs.Persistence.{is_persistent}
use Rattle.pm_classes.specs.Classes.{Parts, parts, each_under, half, into_sep, into_and, into_or, into_exist, into_forall, into_wand, into_pure, from_pure, into_persistent}
use Rattle.pm_classes.specs.Closing.{Closes, ClosesBoth}
use Rattle.pm_classes.specs.Entries.{HasProof, PairAnswers, sep_says, and_says, or_says, exist_says, forall_says, wand_says, into_pure_says, from_pure_says, persistent_says, SepAnswer, AndAnswer, OrAnswer, ExistAnswer, ForallAnswer, WandAnswer, IntoPureAnswer, FromPureAnswer, PersistentAnswer}
use Rattle.pm_classes.proofs.Sizes.{depth_sep, depth_and, depth_or, depth_imp, depth_later, depth_pers, depth_upd, nodes_sep, nodes_and, nodes_or, nodes_later, nodes_pers, nodes_upd}
use Rattle.pm_classes.proofs.Known.{has, closed_has, closed_both_has}
use Rattle.pm_classes.proofs.Smaller.{no_larger}
use Rattle.pm_classes.proofs.Table as row
use Rattle.pm_classes.proofs.Done.{pair_done, pair_none, pair_moved, pair_here, pair_lifted, pair_lifted_none, one_done, one_none, one_moved, one_lifted, one_lifted_none, pure_done, pure_none, pure_moved, pure_same, pure_same_none, pure_joined, pure_first_none, pure_second_none}
use Rattle.pm_classes.proofs.Bodies.{forall_step}

pub and_sep_done : (k : ℕ) (f a1 b1 a b : Formula) (r : Pair) → f ≡ view.Sep a1 b1 → a ≡ a1 → b ≡ b1 → r.first ≡ a → r.second ≡ b → Proves Every (entail k (view.Pers (view.Sep a b)) (view.Sep (view.Pers a) (view.Pers b))) [] 9 (deepest (a ∷ b ∷ []) [] + 2) k r.proof → AndAnswer k f (Some r)
and_sep_done k f a1 b1 a b r is ea eb first second p = pair_here into_and (and_says k) k 9 (deepest (a ∷ b ∷ []) [] + 2) f (view.Sep a b) (parts a b) r (is ∙ ap (λ x. view.Sep x b1) (sym ea) ∙ ap (view.Sep a) (sym eb)) (row.and_sep a b) first second (omega arith) (omega (arith, depth_sep a b)) p

pub and_and_done : (k : ℕ) (f a1 b1 a b : Formula) (r : Pair) → f ≡ view.And a1 b1 → a ≡ a1 → b ≡ b1 → r.first ≡ a → r.second ≡ b → Proves Every (entail k (view.Pers (view.And a b)) (view.Sep (view.Pers a) (view.Pers b))) [] 7 (deepest (a ∷ b ∷ []) [] + 2) k r.proof → AndAnswer k f (Some r)
and_and_done k f a1 b1 a b r is ea eb first second p = pair_here into_and (and_says k) k 7 (deepest (a ∷ b ∷ []) [] + 2) f (view.And a b) (parts a b) r (is ∙ ap (λ x. view.And x b1) (sym ea) ∙ ap (view.And a) (sym eb)) (row.and_and a b) first second (omega arith) (omega (arith, depth_and a b)) p

pub and_fact : (k : ℕ) (f p1 q1 p q : P.Pure) (r : Pair) → f ≡ pure.And p1 q1 → p ≡ p1 → q ≡ q1 → r.first ≡ Fact p → r.second ≡ Fact q → Proves Every (entail k (view.Pers (Fact (pure.And p q))) (view.Sep (view.Pers (Fact p)) (view.Pers (Fact q)))) [] 10 (deepest [] (p ∷ q ∷ []) + 3) k r.proof → AndAnswer k (Fact f) (Some r)
and_fact k f p1 q1 p q r is ep eq first second h = pair_here into_and (and_says k) k 10 (deepest [] (p ∷ q ∷ []) + 3) (Fact f) (Fact (pure.And p q)) (parts (Fact p) (Fact q)) r (ap Fact (is ∙ ap (λ x. pure.And x q1) (sym ep) ∙ ap (pure.And p) (sym eq))) (row.and_fact p q) first second (omega arith) (omega (arith, depth_pure (pure.And p q), depth_both p q)) h

pub and_fact_none : (k : ℕ) (f : P.Pure) → ((x y : P.Pure) → f ≡ pure.And x y → ⊥) → AndAnswer k (Fact f) None
and_fact_none k f isnt = pair_none (and_says k (Fact f)) k (Fact f) (into_and (Fact f)) (row.and_fact_none f isnt)

pub and_later : (k : ℕ) (f a1 a : Formula) (entry r : Pair) → f ≡ view.Later a1 → a ≡ a1 → AndAnswer k a (Some entry) → r.first ≡ view.Later entry.first → r.second ≡ view.Later entry.second → Closes entry.proof (entail k (view.Pers (view.Later a)) (view.Sep (view.Pers (view.Later entry.first)) (view.Pers (view.Later entry.second)))) 9 (deepest (a ∷ entry.first ∷ entry.second ∷ []) [] + 3) k r.proof → AndAnswer k f (Some r)
and_later k f a1 a entry r is at h first second closes = pair_moved into_and (and_says k) k f (view.Later a) (Some r) (is ∙ ap view.Later (sym at)) (pair_lifted into_and view.Later (and_says k a) (and_says k (view.Later a)) k 9 3 a (view.Later a) entry r (no_larger.and_ a) (row.and_later a) (nodes_later a) (depth_later a) (omega arith) (omega arith) h first second closes)

pub and_later_none : (k : ℕ) (f a1 a : Formula) → f ≡ view.Later a1 → a ≡ a1 → AndAnswer k a None → AndAnswer k f None
and_later_none k f a1 a is at h = pair_moved into_and (and_says k) k f (view.Later a) None (is ∙ ap view.Later (sym at)) (pair_lifted_none into_and view.Later (and_says k a) (and_says k (view.Later a)) k a (view.Later a) (row.and_later a) h)

pub and_pers : (k : ℕ) (f a1 a : Formula) (entry r : Pair) → f ≡ view.Pers a1 → a ≡ a1 → AndAnswer k a (Some entry) → r.first ≡ view.Pers entry.first → r.second ≡ view.Pers entry.second → Closes entry.proof (entail k (view.Pers (view.Pers a)) (view.Sep (view.Pers (view.Pers entry.first)) (view.Pers (view.Pers entry.second)))) 6 (deepest (a ∷ entry.first ∷ entry.second ∷ []) [] + 3) k r.proof → AndAnswer k f (Some r)
and_pers k f a1 a entry r is at h first second closes = pair_moved into_and (and_says k) k f (view.Pers a) (Some r) (is ∙ ap view.Pers (sym at)) (pair_lifted into_and view.Pers (and_says k a) (and_says k (view.Pers a)) k 6 3 a (view.Pers a) entry r (no_larger.and_ a) (row.and_pers a) (nodes_pers a) (depth_pers a) (omega arith) (omega arith) h first second closes)

pub and_pers_none : (k : ℕ) (f a1 a : Formula) → f ≡ view.Pers a1 → a ≡ a1 → AndAnswer k a None → AndAnswer k f None
and_pers_none k f a1 a is at h = pair_moved into_and (and_says k) k f (view.Pers a) None (is ∙ ap view.Pers (sym at)) (pair_lifted_none into_and view.Pers (and_says k a) (and_says k (view.Pers a)) k a (view.Pers a) (row.and_pers a) h)

pub and_rest : (k : ℕ) (f : Formula) → ((a b : Formula) → f ≡ view.Sep a b → ⊥) → ((a b : Formula) → f ≡ view.And a b → ⊥) → ((p : P.Pure) → f ≡ Fact p → ⊥) → ((a : Formula) → f ≡ view.Later a → ⊥) → ((a : Formula) → f ≡ view.Pers a → ⊥) → AndAnswer k f None
and_rest k f no_sep no_and no_pure no_later no_pers = pair_none (and_says k f) k f (into_and f) (row.and_none f no_sep no_and no_pure no_later no_pers)

pub or_or_done : (k : ℕ) (f a1 b1 a b : Formula) (r : Pair) → f ≡ view.Or a1 b1 → a ≡ a1 → b ≡ b1 → r.first ≡ a → r.second ≡ b → HasProof k f (entail k f f) r.proof → OrAnswer k f (Some r)
or_or_done k f a1 b1 a b r is ea eb first second p =
    let e : f ≡ view.Or a b = is ∙ ap (λ x. view.Or x b1) (sym ea) ∙ ap (view.Or a) (sym eb) in
    pair_moved into_or (or_says k) k f (view.Or a b) (Some r) e (pair_done (or_says k (view.Or a b)) k (view.Or a b) (into_or (view.Or a b)) (parts a b) r (row.or_or a b) first second (subst (λ (x : Formula). HasProof k x (entail k x x) r.proof) e p))

pub or_fact : (k : ℕ) (f p1 q1 p q : P.Pure) (r : Pair) → f ≡ pure.Or p1 q1 → p ≡ p1 → q ≡ q1 → r.first ≡ Fact p → r.second ≡ Fact q → Proves Every (entail k (Fact (pure.Or p q)) (view.Or (Fact p) (Fact q))) [] 1 (deepest [] (p ∷ q ∷ []) + 2) k r.proof → OrAnswer k (Fact f) (Some r)
or_fact k f p1 q1 p q r is ep eq first second h = pair_here into_or (or_says k) k 1 (deepest [] (p ∷ q ∷ []) + 2) (Fact f) (Fact (pure.Or p q)) (parts (Fact p) (Fact q)) r (ap Fact (is ∙ ap (λ x. pure.Or x q1) (sym ep) ∙ ap (pure.Or p) (sym eq))) (row.or_fact p q) first second (omega arith) (omega (arith, depth_pure (pure.Or p q), depth_either p q)) h

pub or_fact_none : (k : ℕ) (f : P.Pure) → ((x y : P.Pure) → f ≡ pure.Or x y → ⊥) → OrAnswer k (Fact f) None
or_fact_none k f isnt = pair_none (or_says k (Fact f)) k (Fact f) (into_or (Fact f)) (row.or_fact_none f isnt)

pub or_later : (k : ℕ) (f a1 a : Formula) (entry r : Pair) → f ≡ view.Later a1 → a ≡ a1 → OrAnswer k a (Some entry) → r.first ≡ view.Later entry.first → r.second ≡ view.Later entry.second → Closes entry.proof (entail k (view.Later a) (view.Or (view.Later entry.first) (view.Later entry.second))) 3 (deepest (a ∷ entry.first ∷ entry.second ∷ []) [] + 2) k r.proof → OrAnswer k f (Some r)
or_later k f a1 a entry r is at h first second closes = pair_moved into_or (or_says k) k f (view.Later a) (Some r) (is ∙ ap view.Later (sym at)) (pair_lifted into_or view.Later (or_says k a) (or_says k (view.Later a)) k 3 2 a (view.Later a) entry r (no_larger.or_ a) (row.or_later a) (nodes_later a) (depth_later a) (omega arith) (omega arith) h first second closes)

pub or_later_none : (k : ℕ) (f a1 a : Formula) → f ≡ view.Later a1 → a ≡ a1 → OrAnswer k a None → OrAnswer k f None
or_later_none k f a1 a is at h = pair_moved into_or (or_says k) k f (view.Later a) None (is ∙ ap view.Later (sym at)) (pair_lifted_none into_or view.Later (or_says k a) (or_says k (view.Later a)) k a (view.Later a) (row.or_later a) h)

pub or_pers : (k : ℕ) (f a1 a : Formula) (entry r : Pair) → f ≡ view.Pers a1 → a ≡ a1 → OrAnswer k a (Some entry) → r.first ≡ view.Pers entry.first → r.second ≡ view.Pers entry.second → Closes entry.proof (entail k (view.Pers a) (view.Or (view.Pers entry.first) (view.Pers entry.second))) 3 (deepest (a ∷ entry.first ∷ entry.second ∷ []) [] + 2) k r.proof → OrAnswer k f (Some r)
or_pers k f a1 a entry r is at h first second closes = pair_moved into_or (or_says k) k f (view.Pers a) (Some r) (is ∙ ap view.Pers (sym at)) (pair_lifted into_or view.Pers (or_says k a) (or_says k (view.Pers a)) k 3 2 a (view.Pers a) entry r (no_larger.or_ a) (row.or_pers a) (nodes_pers a) (depth_pers a) (omega arith) (omega arith) h first second closes)

pub or_pers_none : (k : ℕ) (f a1 a : Formula) → f ≡ view.Pers a1 → a ≡ a1 → OrAnswer k a None → OrAnswer k f None
or_pers_none k f a1 a is at h = pair_moved into_or (or_says k) k f (view.Pers a) None (is ∙ ap view.Pers (sym at)) (pair_lifted_none into_or view.Pers (or_says k a) (or_says k (view.Pers a)) k a (view.Pers a) (row.or_pers a) h)

pub or_rest : (k : ℕ) (f : Formula) → ((a b : Formula) → f ≡ view.Or a b → ⊥) → ((p : P.Pure) → f ≡ Fact p → ⊥) → ((a : Formula) → f ≡ view.Later a → ⊥) → ((a : Formula) → f ≡ view.Pers a → ⊥) → OrAnswer k f None
or_rest k f no_or no_pure no_later no_pers = pair_none (or_says k f) k f (into_or f) (row.or_none f no_or no_pure no_later no_pers)

pub wand_wand_done : (k : ℕ) (f a1 b1 a b : Formula) (r : Pair) → f ≡ view.Wand a1 b1 → a ≡ a1 → b ≡ b1 → r.first ≡ a → r.second ≡ b → HasProof k f (entail k f f) r.proof → WandAnswer k f (Some r)
wand_wand_done k f a1 b1 a b r is ea eb first second p =
    let e : f ≡ view.Wand a b = is ∙ ap (λ x. view.Wand x b1) (sym ea) ∙ ap (view.Wand a) (sym eb) in
    pair_moved into_wand (wand_says k) k f (view.Wand a b) (Some r) e (pair_done (wand_says k (view.Wand a b)) k (view.Wand a b) (into_wand (view.Wand a b)) (parts a b) r (row.wand_wand a b) first second (subst (λ (x : Formula). HasProof k x (entail k x x) r.proof) e p))

pub wand_later : (k : ℕ) (f a1 a : Formula) (entry r : Pair) → f ≡ view.Later a1 → a ≡ a1 → WandAnswer k a (Some entry) → r.first ≡ view.Later entry.first → r.second ≡ view.Later entry.second → Closes entry.proof (entail k (view.Later a) (view.Wand (view.Later entry.first) (view.Later entry.second))) 5 (deepest (a ∷ entry.first ∷ entry.second ∷ []) [] + 2) k r.proof → WandAnswer k f (Some r)
wand_later k f a1 a entry r is at h first second closes = pair_moved into_wand (wand_says k) k f (view.Later a) (Some r) (is ∙ ap view.Later (sym at)) (pair_lifted into_wand view.Later (wand_says k a) (wand_says k (view.Later a)) k 5 2 a (view.Later a) entry r (no_larger.wand a) (row.wand_later a) (nodes_later a) (depth_later a) (omega arith) (omega arith) h first second closes)

pub wand_later_none : (k : ℕ) (f a1 a : Formula) → f ≡ view.Later a1 → a ≡ a1 → WandAnswer k a None → WandAnswer k f None
wand_later_none k f a1 a is at h = pair_moved into_wand (wand_says k) k f (view.Later a) None (is ∙ ap view.Later (sym at)) (pair_lifted_none into_wand view.Later (wand_says k a) (wand_says k (view.Later a)) k a (view.Later a) (row.wand_later a) h)

each_itself : (o : Option Parts) → o ≡ each_under (λ x. x) o
each_itself None = refl
each_itself (Some p) = refl

pub wand_pers : (k : ℕ) (f a1 a : Formula) (entry r : Pair) → f ≡ view.Pers a1 → a ≡ a1 → WandAnswer k a (Some entry) → r.first ≡ entry.first → r.second ≡ entry.second → Closes entry.proof (entail k (view.Pers a) (view.Wand entry.first entry.second)) 2 (deepest (a ∷ entry.first ∷ entry.second ∷ []) [] + 1) k r.proof → WandAnswer k f (Some r)
wand_pers k f a1 a entry r is at h first second closes = pair_moved into_wand (wand_says k) k f (view.Pers a) (Some r) (is ∙ ap view.Pers (sym at)) (pair_lifted into_wand (λ x. x) (wand_says k a) (wand_says k (view.Pers a)) k 2 1 a (view.Pers a) entry r (no_larger.wand a) (row.wand_pers a ∙ each_itself (into_wand a)) (nodes_pers a) (depth_pers a) (omega arith) (omega arith) h first second closes)

pub wand_pers_none : (k : ℕ) (f a1 a : Formula) → f ≡ view.Pers a1 → a ≡ a1 → WandAnswer k a None → WandAnswer k f None
wand_pers_none k f a1 a is at h = pair_moved into_wand (wand_says k) k f (view.Pers a) None (is ∙ ap view.Pers (sym at)) (pair_lifted_none into_wand (λ x. x) (wand_says k a) (wand_says k (view.Pers a)) k a (view.Pers a) (row.wand_pers a ∙ each_itself (into_wand a)) h)

cond_is : (b : Bool) (o : Option Parts) → b ≡ true → cond b o None ≡ o
cond_is true o h = refl
cond_is false o h = absurd (cc)

cond_isnt : (b : Bool) (o : Option Parts) → b ≡ false → cond b o None ≡ None
cond_isnt true o h = absurd (cc)
cond_isnt false o h = refl

pub wand_imp : (k : ℕ) (a b : Formula) (r : Pair) → IsPersistent a → r.first ≡ a → r.second ≡ b → Proves Every (entail k (view.Imp a b) (view.Wand a b)) [] 9 (deepest (a ∷ b ∷ []) [] + 2) k r.proof → WandAnswer k (view.Imp a b) (Some r)
wand_imp k a b r persists first second p = pair_here into_wand (wand_says k) k 9 (deepest (a ∷ b ∷ []) [] + 2) (view.Imp a b) (view.Imp a b) (parts a b) r refl (row.wand_imp a b ∙ cond_is (is_persistent a) (Some (parts a b)) (row.persistent_is a persists)) first second (omega arith) (omega (arith, depth_imp a b)) p

pub wand_imp_none : (k : ℕ) (a b : Formula) → (IsPersistent a → ⊥) → WandAnswer k (view.Imp a b) None
wand_imp_none k a b isnt = pair_none (wand_says k (view.Imp a b)) k (view.Imp a b) (into_wand (view.Imp a b)) (row.wand_imp a b ∙ cond_isnt (is_persistent a) (Some (parts a b)) (row.persistent_not a isnt))

pub wand_rest : (k : ℕ) (f : Formula) → ((a b : Formula) → f ≡ view.Wand a b → ⊥) → ((a b : Formula) → f ≡ view.Imp a b → ⊥) → ((a : Formula) → f ≡ view.Later a → ⊥) → ((a : Formula) → f ≡ view.Pers a → ⊥) → WandAnswer k f None
wand_rest k f no_wand no_imp no_later no_pers = pair_none (wand_says k f) k f (into_wand f) (row.wand_none f no_wand no_imp no_later no_pers)

pub sep_sep_done : (k : ℕ) (f a1 b1 a b : Formula) (r : Pair) → f ≡ view.Sep a1 b1 → a ≡ a1 → b ≡ b1 → r.first ≡ a → r.second ≡ b → HasProof k f (entail k f f) r.proof → SepAnswer k f (Some r)
sep_sep_done k f a1 b1 a b r is ea eb first second p =
    let e : f ≡ view.Sep a b = is ∙ ap (λ x. view.Sep x b1) (sym ea) ∙ ap (view.Sep a) (sym eb) in
    pair_moved into_sep (sep_says k) k f (view.Sep a b) (Some r) e (pair_done (sep_says k (view.Sep a b)) k (view.Sep a b) (into_sep (view.Sep a b)) (parts a b) r (row.sep_sep a b) first second (subst (λ (x : Formula). HasProof k x (entail k x x) r.proof) e p))

pub sep_fact : (k : ℕ) (f p1 q1 p q : P.Pure) (r : Pair) → f ≡ pure.And p1 q1 → p ≡ p1 → q ≡ q1 → r.first ≡ Fact p → r.second ≡ Fact q → Proves Every (entail k (Fact (pure.And p q)) (view.Sep (Fact p) (Fact q))) [] 13 (deepest [] (p ∷ q ∷ []) + 3) k r.proof → SepAnswer k (Fact f) (Some r)
sep_fact k f p1 q1 p q r is ep eq first second h = pair_here into_sep (sep_says k) k 13 (deepest [] (p ∷ q ∷ []) + 3) (Fact f) (Fact (pure.And p q)) (parts (Fact p) (Fact q)) r (ap Fact (is ∙ ap (λ x. pure.And x q1) (sym ep) ∙ ap (pure.And p) (sym eq))) (row.sep_fact p q) first second (omega arith) (omega (arith, depth_pure (pure.And p q), depth_both p q)) h

pub sep_fact_none : (k : ℕ) (f : P.Pure) → ((x y : P.Pure) → f ≡ pure.And x y → ⊥) → SepAnswer k (Fact f) None
sep_fact_none k f isnt = pair_none (sep_says k (Fact f)) k (Fact f) (into_sep (Fact f)) (row.sep_fact_none f isnt)

pub sep_later : (k : ℕ) (f a1 a : Formula) (entry r : Pair) → f ≡ view.Later a1 → a ≡ a1 → SepAnswer k a (Some entry) → r.first ≡ view.Later entry.first → r.second ≡ view.Later entry.second → Closes entry.proof (entail k (view.Later a) (view.Sep (view.Later entry.first) (view.Later entry.second))) 3 (deepest (a ∷ entry.first ∷ entry.second ∷ []) [] + 2) k r.proof → SepAnswer k f (Some r)
sep_later k f a1 a entry r is at h first second closes = pair_moved into_sep (sep_says k) k f (view.Later a) (Some r) (is ∙ ap view.Later (sym at)) (pair_lifted into_sep view.Later (sep_says k a) (sep_says k (view.Later a)) k 3 2 a (view.Later a) entry r (no_larger.sep a) (row.sep_later a) (nodes_later a) (depth_later a) (omega arith) (omega arith) h first second closes)

pub sep_later_none : (k : ℕ) (f a1 a : Formula) → f ≡ view.Later a1 → a ≡ a1 → SepAnswer k a None → SepAnswer k f None
sep_later_none k f a1 a is at h = pair_moved into_sep (sep_says k) k f (view.Later a) None (is ∙ ap view.Later (sym at)) (pair_lifted_none into_sep view.Later (sep_says k a) (sep_says k (view.Later a)) k a (view.Later a) (row.sep_later a) h)

pub both_ways : (b : Bool) → b ≡ true → b ≡ false → ⊥
both_ways true t f = absurd (cc)
both_ways false t f = absurd (cc)

left_or : (a b : Bool) → a ≡ true → a || b ≡ true
left_or true b h = refl
left_or false b h = absurd (cc)

right_or : (a b : Bool) → b ≡ true → a || b ≡ true
right_or true b h = refl
right_or false b h = h

neither : (a b : Bool) → a ≡ false → b ≡ false → a || b ≡ false
neither true b h g = absurd (cc)
neither false b h g = g

and_closed : (k n : ℕ) (a b g : Formula) (x : Tree) (r : Pair) → is_persistent a || is_persistent b ≡ true → r.first ≡ a → r.second ≡ b → n ≤ 200 → nodes_of g < nodes_of (view.And a b) → depth_of g ≤ depth_of (view.And a b) → HasProof k g (entail k g (view.Pers g)) x → Closes x (entail k (view.And a b) (view.Sep a b)) n (deepest (a ∷ b ∷ []) [] + 2) k r.proof → SepAnswer k (view.And a b) (Some r)
and_closed k n a b g x r either first second hn less levels p closes =
    pair_done (sep_says k (view.And a b)) k (view.And a b) (into_sep (view.And a b)) (parts a b) r (row.sep_and a b ∙ cond_is (is_persistent a || is_persistent b) (Some (parts a b)) either) first second
    (closed_has k n (deepest (a ∷ b ∷ []) [] + 2) k (view.And a b) g (entail k (view.And a b) (view.Sep a b)) (entail k g (view.Pers g)) x r.proof closes p hn (omega (arith, depth_and a b)) (omega arith) less levels)

pub sep_left : (k : ℕ) (a b : Formula) (x : Tree) (r : Pair) → IsPersistent a → HasProof k a (entail k a (view.Pers a)) x → r.first ≡ a → r.second ≡ b → Closes x (entail k (view.And a b) (view.Sep a b)) 10 (deepest (a ∷ b ∷ []) [] + 2) k r.proof → SepAnswer k (view.And a b) (Some r)
sep_left k a b x r persists p first second closes = and_closed k 10 a b a x r (left_or (is_persistent a) (is_persistent b) (row.persistent_is a persists)) first second (omega arith) (omega (arith, nodes_and a b)) (omega (arith, depth_and a b)) p closes

pub sep_right : (k : ℕ) (a b : Formula) (x : Tree) (r : Pair) → IsPersistent b → HasProof k b (entail k b (view.Pers b)) x → r.first ≡ a → r.second ≡ b → Closes x (entail k (view.And a b) (view.Sep a b)) 12 (deepest (a ∷ b ∷ []) [] + 2) k r.proof → SepAnswer k (view.And a b) (Some r)
sep_right k a b x r persists p first second closes = and_closed k 12 a b b x r (right_or (is_persistent a) (is_persistent b) (row.persistent_is b persists)) first second (omega arith) (omega (arith, nodes_and a b)) (omega (arith, depth_and a b)) p closes

pub sep_neither : (k : ℕ) (a b : Formula) → (IsPersistent a → ⊥) → (IsPersistent b → ⊥) → SepAnswer k (view.And a b) None
sep_neither k a b isnt nor = pair_none (sep_says k (view.And a b)) k (view.And a b) (into_sep (view.And a b)) (row.sep_and a b ∙ cond_isnt (is_persistent a || is_persistent b) (Some (parts a b)) (neither (is_persistent a) (is_persistent b) (row.persistent_not a isnt) (row.persistent_not b nor)))

even_is : (u : ℕ) → u % 2 ≡ 0 → (u % 2 == 0) ≡ true
even_is u h = rw h refl

odd_is : (u : ℕ) → (u % 2 ≡ 0 → ⊥) → (u % 2 == 0) ≡ false
odd_is u h = go (u % 2 == 0) refl
  where
    go : (b : Bool) → (u % 2 == 0) ≡ b → b ≡ false
    go true e = absurd (h (eqb-true (u % 2) 0 e))
    go false e = refl

pub sep_halves : (k : ℕ) (l : Term) (u : ℕ) (v : Term) (r : Pair) → u % 2 ≡ 0 → r.first ≡ half l u v → r.second ≡ half l u v → Proves Every (entail k (Pts l u v) (view.Sep (half l u v) (half l u v))) [] 1 (side_depth (entail k (Pts l u v) (view.Sep (half l u v) (half l u v)))) k r.proof → SepAnswer k (Pts l u v) (Some r)
sep_halves k l u v r even first second p = pair_here into_sep (sep_says k) k 1 (side_depth (entail k (Pts l u v) (view.Sep (half l u v) (half l u v)))) (Pts l u v) (Pts l u v) (parts (half l u v) (half l u v)) r refl (row.sep_pts l u v ∙ cond_is (u % 2 == 0) (Some (parts (half l u v) (half l u v))) (even_is u even)) first second (omega arith) (omega (arith, depth_sep (half l u v) (half l u v), depth_pts l u v, depth_pts l (u / 2) v)) p

pub sep_odd : (k : ℕ) (l : Term) (u : ℕ) (v : Term) → (u % 2 ≡ 0 → ⊥) → SepAnswer k (Pts l u v) None
sep_odd k l u v odd = pair_none (sep_says k (Pts l u v)) k (Pts l u v) (into_sep (Pts l u v)) (row.sep_pts l u v ∙ cond_isnt (u % 2 == 0) (Some (parts (half l u v) (half l u v))) (odd_is u odd))

pub sep_pers : (k : ℕ) (f a1 a : Formula) (entry r : Pair) → f ≡ view.Pers a1 → a ≡ a1 → AndAnswer k a (Some entry) → r.first ≡ view.Pers entry.first → r.second ≡ view.Pers entry.second → r.proof ≡ entry.proof → SepAnswer k f (Some r)
sep_pers k f a1 a entry r is at h first second same = pair_moved into_sep (sep_says k) k f (view.Pers a) (Some r) (is ∙ ap view.Pers (sym at)) (go (into_and a) refl h)
  where
    go : (o : Option Parts) → into_and a ≡ o → PairAnswers (and_says k a) k a o (Some entry) → SepAnswer k (view.Pers a) (Some r)
    go None e h = absurd h
    go (Some p) e h =
        let q : Proves Every (and_says k a p) [] (200 * nodes_of a) (depth_of a + 8) (k + depth_of a) r.proof = subst (λ (x : Tree). Proves Every (and_says k a p) [] (200 * nodes_of a) (depth_of a + 8) (k + depth_of a) x) (sym same) h.proof in
        pair_done (sep_says k (view.Pers a)) k (view.Pers a) (into_sep (view.Pers a)) (parts (view.Pers p.first) (view.Pers p.second)) r (row.sep_pers a ∙ ap (each_under view.Pers) e) (first ∙ ap view.Pers h.first) (second ∙ ap view.Pers h.second)
        (weaker Every (and_says k a p) [] (200 * nodes_of a) (depth_of a + 8) (k + depth_of a) (200 * nodes_of (view.Pers a)) (depth_of (view.Pers a) + 8) (k + depth_of (view.Pers a)) r.proof (omega (arith, nodes_pers a)) (omega (arith, depth_pers a)) (omega (arith, depth_pers a)) q)

pub sep_pers_none : (k : ℕ) (f a1 a : Formula) → f ≡ view.Pers a1 → a ≡ a1 → AndAnswer k a None → SepAnswer k f None
sep_pers_none k f a1 a is at h = pair_moved into_sep (sep_says k) k f (view.Pers a) None (is ∙ ap view.Pers (sym at)) (go (into_and a) refl h)
  where
    go : (o : Option Parts) → into_and a ≡ o → PairAnswers (and_says k a) k a o None → SepAnswer k (view.Pers a) None
    go None e h = pair_none (sep_says k (view.Pers a)) k (view.Pers a) (into_sep (view.Pers a)) (row.sep_pers a ∙ ap (each_under view.Pers) e)
    go (Some p) e h = absurd h

pub sep_rest : (k : ℕ) (f : Formula) → ((a b : Formula) → f ≡ view.Sep a b → ⊥) → ((p : P.Pure) → f ≡ Fact p → ⊥) → ((a b : Formula) → f ≡ view.And a b → ⊥) → ((l : Term) (u : ℕ) (v : Term) → f ≡ Pts l u v → ⊥) → ((a : Formula) → f ≡ view.Later a → ⊥) → ((a : Formula) → f ≡ view.Pers a → ⊥) → SepAnswer k f None
sep_rest k f no_sep no_pure no_and no_pts no_later no_pers = pair_none (sep_says k f) k f (into_sep f) (row.sep_none f no_sep no_pure no_and no_pts no_later no_pers)

pub exist_ex_done : (k : ℕ) (f a1 a : Formula) (r : One) → f ≡ view.Ex a1 → a ≡ a1 → r.formula ≡ a → HasProof k f (entail k f f) r.proof → ExistAnswer k f (Some r)
exist_ex_done k f a1 a r is at same p =
    let e : f ≡ view.Ex a = is ∙ ap view.Ex (sym at) in
    one_moved into_exist (exist_says k) k f (view.Ex a) (Some r) e (one_done (exist_says k (view.Ex a)) k (view.Ex a) (into_exist (view.Ex a)) a r (row.exist_ex a) same (subst (λ (x : Formula). HasProof k x (entail k x x) r.proof) e p))

pub exist_later : (k : ℕ) (f a1 a : Formula) (entry r : One) → f ≡ view.Later a1 → a ≡ a1 → ExistAnswer k a (Some entry) → r.formula ≡ view.Later entry.formula → Closes entry.proof (entail k (view.Later a) (view.Ex (view.Later entry.formula))) 3 (deepest (a ∷ entry.formula ∷ []) [] + 2) k r.proof → ExistAnswer k f (Some r)
exist_later k f a1 a entry r is at h same closes = one_moved into_exist (exist_says k) k f (view.Later a) (Some r) (is ∙ ap view.Later (sym at)) (one_lifted into_exist view.Later (exist_says k a) (exist_says k (view.Later a)) k 3 2 k a (view.Later a) entry r (no_larger.exist a) (row.exist_later a) (nodes_later a) (depth_later a) (omega arith) (omega arith) (omega arith) h same closes)

pub exist_later_none : (k : ℕ) (f a1 a : Formula) → f ≡ view.Later a1 → a ≡ a1 → ExistAnswer k a None → ExistAnswer k f None
exist_later_none k f a1 a is at h = one_moved into_exist (exist_says k) k f (view.Later a) None (is ∙ ap view.Later (sym at)) (one_lifted_none into_exist view.Later (exist_says k a) (exist_says k (view.Later a)) k a (view.Later a) (row.exist_later a) h)

pub exist_pers : (k : ℕ) (f a1 a : Formula) (entry r : One) → f ≡ view.Pers a1 → a ≡ a1 → ExistAnswer k a (Some entry) → r.formula ≡ view.Pers entry.formula → Closes entry.proof (entail k (view.Pers a) (view.Ex (view.Pers entry.formula))) 3 (deepest (a ∷ entry.formula ∷ []) [] + 2) k r.proof → ExistAnswer k f (Some r)
exist_pers k f a1 a entry r is at h same closes = one_moved into_exist (exist_says k) k f (view.Pers a) (Some r) (is ∙ ap view.Pers (sym at)) (one_lifted into_exist view.Pers (exist_says k a) (exist_says k (view.Pers a)) k 3 2 k a (view.Pers a) entry r (no_larger.exist a) (row.exist_pers a) (nodes_pers a) (depth_pers a) (omega arith) (omega arith) (omega arith) h same closes)

pub exist_pers_none : (k : ℕ) (f a1 a : Formula) → f ≡ view.Pers a1 → a ≡ a1 → ExistAnswer k a None → ExistAnswer k f None
exist_pers_none k f a1 a is at h = one_moved into_exist (exist_says k) k f (view.Pers a) None (is ∙ ap view.Pers (sym at)) (one_lifted_none into_exist view.Pers (exist_says k a) (exist_says k (view.Pers a)) k a (view.Pers a) (row.exist_pers a) h)

pub exist_rest : (k : ℕ) (f : Formula) → ((a : Formula) → f ≡ view.Ex a → ⊥) → ((a : Formula) → f ≡ view.Later a → ⊥) → ((a : Formula) → f ≡ view.Pers a → ⊥) → ExistAnswer k f None
exist_rest k f no_ex no_later no_pers = one_none (exist_says k f) k f (into_exist f) (row.exist_none f no_ex no_later no_pers)

pub forall_all_done : (k : ℕ) (f a1 a : Formula) (r : One) → f ≡ view.All a1 → a ≡ a1 → r.formula ≡ a → HasProof k f (entail k f f) r.proof → ForallAnswer k f (Some r)
forall_all_done k f a1 a r is at same p =
    let e : f ≡ view.All a = is ∙ ap view.All (sym at) in
    one_moved into_forall (forall_says k) k f (view.All a) (Some r) e (one_done (forall_says k (view.All a)) k (view.All a) (into_forall (view.All a)) a r (row.forall_all a) same (subst (λ (x : Formula). HasProof k x (entail k x x) r.proof) e p))

pub forall_later : (k : ℕ) (f a1 a : Formula) (entry r : One) (inward : Tree) → f ≡ view.Later a1 → a ≡ a1 → ForallAnswer k a (Some entry) → Proves Every (entail k (view.Later (view.All entry.formula)) (view.All (view.Later entry.formula))) [] 3 (depth_of entry.formula + 4) (k + 1) inward → r.formula ≡ view.Later entry.formula → ClosesBoth entry.proof inward (entail k (view.Later a) (view.All (view.Later entry.formula))) 2 (deepest (a ∷ entry.formula ∷ []) [] + 2) k r.proof → ForallAnswer k f (Some r)
forall_later k f a1 a entry r inward is at h p same closes = one_moved into_forall (forall_says k) k f (view.Later a) (Some r) (is ∙ ap view.Later (sym at)) (one_lifted into_forall view.Later (forall_says k a) (forall_says k (view.Later a)) k 5 4 (k + 1) a (view.Later a) entry r (no_larger.forall_ a) (row.forall_later a) (nodes_later a) (depth_later a) (omega arith) (omega arith) (omega arith) h same (forall_step k a entry.formula (entail k (view.Later a) (view.All (view.Later entry.formula))) (entail k (view.Later (view.All entry.formula)) (view.All (view.Later entry.formula))) entry.proof inward r.proof closes p))

pub forall_later_none : (k : ℕ) (f a1 a : Formula) → f ≡ view.Later a1 → a ≡ a1 → ForallAnswer k a None → ForallAnswer k f None
forall_later_none k f a1 a is at h = one_moved into_forall (forall_says k) k f (view.Later a) None (is ∙ ap view.Later (sym at)) (one_lifted_none into_forall view.Later (forall_says k a) (forall_says k (view.Later a)) k a (view.Later a) (row.forall_later a) h)

pub forall_pers : (k : ℕ) (f a1 a : Formula) (entry r : One) (inward : Tree) → f ≡ view.Pers a1 → a ≡ a1 → ForallAnswer k a (Some entry) → Proves Every (entail k (view.Pers (view.All entry.formula)) (view.All (view.Pers entry.formula))) [] 3 (depth_of entry.formula + 4) (k + 1) inward → r.formula ≡ view.Pers entry.formula → ClosesBoth entry.proof inward (entail k (view.Pers a) (view.All (view.Pers entry.formula))) 2 (deepest (a ∷ entry.formula ∷ []) [] + 2) k r.proof → ForallAnswer k f (Some r)
forall_pers k f a1 a entry r inward is at h p same closes = one_moved into_forall (forall_says k) k f (view.Pers a) (Some r) (is ∙ ap view.Pers (sym at)) (one_lifted into_forall view.Pers (forall_says k a) (forall_says k (view.Pers a)) k 5 4 (k + 1) a (view.Pers a) entry r (no_larger.forall_ a) (row.forall_pers a) (nodes_pers a) (depth_pers a) (omega arith) (omega arith) (omega arith) h same (forall_step k a entry.formula (entail k (view.Pers a) (view.All (view.Pers entry.formula))) (entail k (view.Pers (view.All entry.formula)) (view.All (view.Pers entry.formula))) entry.proof inward r.proof closes p))

pub forall_pers_none : (k : ℕ) (f a1 a : Formula) → f ≡ view.Pers a1 → a ≡ a1 → ForallAnswer k a None → ForallAnswer k f None
forall_pers_none k f a1 a is at h = one_moved into_forall (forall_says k) k f (view.Pers a) None (is ∙ ap view.Pers (sym at)) (one_lifted_none into_forall view.Pers (forall_says k a) (forall_says k (view.Pers a)) k a (view.Pers a) (row.forall_pers a) h)

pub forall_rest : (k : ℕ) (f : Formula) → ((a : Formula) → f ≡ view.All a → ⊥) → ((a : Formula) → f ≡ view.Later a → ⊥) → ((a : Formula) → f ≡ view.Pers a → ⊥) → ForallAnswer k f None
forall_rest k f no_all no_later no_pers = one_none (forall_says k f) k f (into_forall f) (row.forall_none f no_all no_later no_pers)

pub of_fact_done : (k : ℕ) (f : Formula) (p : P.Pure) (r : OnePure) → f ≡ Fact p → r.pure ≡ p → HasProof k (Fact p) (entail k (Fact p) (Fact p)) r.proof → IntoPureAnswer k f (Some r)
of_fact_done k f p r is same h = pure_moved into_pure (into_pure_says k) k f (Fact p) (Some r) is (pure_done (into_pure_says k (Fact p)) k (Fact p) (into_pure (Fact p)) p r (row.of_fact p) same h)

pub of_sep_done : (k : ℕ) (f a1 b1 a b : Formula) (x y r : OnePure) → f ≡ view.Sep a1 b1 → a ≡ a1 → b ≡ b1 → IntoPureAnswer k a (Some x) → IntoPureAnswer k b (Some y) → r.pure ≡ pure.And x.pure y.pure → ClosesBoth x.proof y.proof (entail k (view.Sep a b) (Fact (pure.And x.pure y.pure))) 9 (deepest (a ∷ b ∷ []) (x.pure ∷ y.pure ∷ []) + 2) k r.proof → IntoPureAnswer k f (Some r)
of_sep_done k f a1 b1 a b x y r is ea eb h g same closes = pure_moved into_pure (into_pure_says k) k f (view.Sep a b) (Some r) (is ∙ ap (λ x. view.Sep x b1) (sym ea) ∙ ap (view.Sep a) (sym eb)) (pure_joined into_pure pure.And (into_pure_says k a) (into_pure_says k b) (into_pure_says k (view.Sep a b)) k 9 2 a b (view.Sep a b) x y r (no_larger.pure_of a) (no_larger.pure_of b) (row.of_sep a b) (nodes_sep a b) (depth_sep a b) (omega arith) (omega arith) h g same closes)

pub of_sep_first : (k : ℕ) (f a1 b1 a : Formula) → f ≡ view.Sep a1 b1 → a ≡ a1 → IntoPureAnswer k a None → IntoPureAnswer k f None
of_sep_first k f a1 b1 a is ea h = pure_moved into_pure (into_pure_says k) k f (view.Sep a b1) None (is ∙ ap (λ x. view.Sep x b1) (sym ea)) (pure_first_none into_pure pure.And (into_pure_says k a) (into_pure_says k (view.Sep a b1)) k a b1 (view.Sep a b1) (row.of_sep a b1) h)

pub of_sep_second : (k : ℕ) (f a1 b1 b : Formula) → f ≡ view.Sep a1 b1 → b ≡ b1 → IntoPureAnswer k b None → IntoPureAnswer k f None
of_sep_second k f a1 b1 b is eb h = pure_moved into_pure (into_pure_says k) k f (view.Sep a1 b) None (is ∙ ap (view.Sep a1) (sym eb)) (pure_second_none into_pure pure.And (into_pure_says k b) (into_pure_says k (view.Sep a1 b)) k a1 b (view.Sep a1 b) (row.of_sep a1 b) h)

pub of_and_done : (k : ℕ) (f a1 b1 a b : Formula) (x y r : OnePure) → f ≡ view.And a1 b1 → a ≡ a1 → b ≡ b1 → IntoPureAnswer k a (Some x) → IntoPureAnswer k b (Some y) → r.pure ≡ pure.And x.pure y.pure → ClosesBoth x.proof y.proof (entail k (view.And a b) (Fact (pure.And x.pure y.pure))) 7 (deepest (a ∷ b ∷ []) (x.pure ∷ y.pure ∷ []) + 2) k r.proof → IntoPureAnswer k f (Some r)
of_and_done k f a1 b1 a b x y r is ea eb h g same closes = pure_moved into_pure (into_pure_says k) k f (view.And a b) (Some r) (is ∙ ap (λ x. view.And x b1) (sym ea) ∙ ap (view.And a) (sym eb)) (pure_joined into_pure pure.And (into_pure_says k a) (into_pure_says k b) (into_pure_says k (view.And a b)) k 7 2 a b (view.And a b) x y r (no_larger.pure_of a) (no_larger.pure_of b) (row.of_and a b) (nodes_and a b) (depth_and a b) (omega arith) (omega arith) h g same closes)

pub of_and_first : (k : ℕ) (f a1 b1 a : Formula) → f ≡ view.And a1 b1 → a ≡ a1 → IntoPureAnswer k a None → IntoPureAnswer k f None
of_and_first k f a1 b1 a is ea h = pure_moved into_pure (into_pure_says k) k f (view.And a b1) None (is ∙ ap (λ x. view.And x b1) (sym ea)) (pure_first_none into_pure pure.And (into_pure_says k a) (into_pure_says k (view.And a b1)) k a b1 (view.And a b1) (row.of_and a b1) h)

pub of_and_second : (k : ℕ) (f a1 b1 b : Formula) → f ≡ view.And a1 b1 → b ≡ b1 → IntoPureAnswer k b None → IntoPureAnswer k f None
of_and_second k f a1 b1 b is eb h = pure_moved into_pure (into_pure_says k) k f (view.And a1 b) None (is ∙ ap (view.And a1) (sym eb)) (pure_second_none into_pure pure.And (into_pure_says k b) (into_pure_says k (view.And a1 b)) k a1 b (view.And a1 b) (row.of_and a1 b) h)

pub of_or_done : (k : ℕ) (f a1 b1 a b : Formula) (x y r : OnePure) → f ≡ view.Or a1 b1 → a ≡ a1 → b ≡ b1 → IntoPureAnswer k a (Some x) → IntoPureAnswer k b (Some y) → r.pure ≡ pure.Or x.pure y.pure → ClosesBoth x.proof y.proof (entail k (view.Or a b) (Fact (pure.Or x.pure y.pure))) 7 (deepest (a ∷ b ∷ []) (x.pure ∷ y.pure ∷ []) + 2) k r.proof → IntoPureAnswer k f (Some r)
of_or_done k f a1 b1 a b x y r is ea eb h g same closes = pure_moved into_pure (into_pure_says k) k f (view.Or a b) (Some r) (is ∙ ap (λ x. view.Or x b1) (sym ea) ∙ ap (view.Or a) (sym eb)) (pure_joined into_pure pure.Or (into_pure_says k a) (into_pure_says k b) (into_pure_says k (view.Or a b)) k 7 2 a b (view.Or a b) x y r (no_larger.pure_of a) (no_larger.pure_of b) (row.of_or a b) (nodes_or a b) (depth_or a b) (omega arith) (omega arith) h g same closes)

pub of_or_first : (k : ℕ) (f a1 b1 a : Formula) → f ≡ view.Or a1 b1 → a ≡ a1 → IntoPureAnswer k a None → IntoPureAnswer k f None
of_or_first k f a1 b1 a is ea h = pure_moved into_pure (into_pure_says k) k f (view.Or a b1) None (is ∙ ap (λ x. view.Or x b1) (sym ea)) (pure_first_none into_pure pure.Or (into_pure_says k a) (into_pure_says k (view.Or a b1)) k a b1 (view.Or a b1) (row.of_or a b1) h)

pub of_or_second : (k : ℕ) (f a1 b1 b : Formula) → f ≡ view.Or a1 b1 → b ≡ b1 → IntoPureAnswer k b None → IntoPureAnswer k f None
of_or_second k f a1 b1 b is eb h = pure_moved into_pure (into_pure_says k) k f (view.Or a1 b) None (is ∙ ap (view.Or a1) (sym eb)) (pure_second_none into_pure pure.Or (into_pure_says k b) (into_pure_says k (view.Or a1 b)) k a1 b (view.Or a1 b) (row.of_or a1 b) h)

pub of_pers_done : (k : ℕ) (f a1 a : Formula) (entry r : OnePure) → f ≡ view.Pers a1 → a ≡ a1 → IntoPureAnswer k a (Some entry) → r.pure ≡ entry.pure → Closes entry.proof (entail k (view.Pers a) (Fact entry.pure)) 2 (deepest (a ∷ []) (entry.pure ∷ []) + 1) k r.proof → IntoPureAnswer k f (Some r)
of_pers_done k f a1 a entry r is at h same closes = pure_moved into_pure (into_pure_says k) k f (view.Pers a) (Some r) (is ∙ ap view.Pers (sym at)) (pure_same into_pure (into_pure_says k a) (into_pure_says k (view.Pers a)) k 2 1 a (view.Pers a) entry r (no_larger.pure_of a) (row.of_pers a) (nodes_pers a) (depth_pers a) (omega arith) (omega arith) h same closes)

pub of_pers_none : (k : ℕ) (f a1 a : Formula) → f ≡ view.Pers a1 → a ≡ a1 → IntoPureAnswer k a None → IntoPureAnswer k f None
of_pers_none k f a1 a is at h = pure_moved into_pure (into_pure_says k) k f (view.Pers a) None (is ∙ ap view.Pers (sym at)) (pure_same_none into_pure (into_pure_says k a) (into_pure_says k (view.Pers a)) k a (view.Pers a) (row.of_pers a) h)

pub of_upd_done : (k : ℕ) (f a1 a : Formula) (entry r : OnePure) → f ≡ view.Upd a1 → a ≡ a1 → IntoPureAnswer k a (Some entry) → r.pure ≡ entry.pure → Closes entry.proof (entail k (view.Upd a) (Fact entry.pure)) 3 (deepest (a ∷ []) (entry.pure ∷ []) + 2) k r.proof → IntoPureAnswer k f (Some r)
of_upd_done k f a1 a entry r is at h same closes = pure_moved into_pure (into_pure_says k) k f (view.Upd a) (Some r) (is ∙ ap view.Upd (sym at)) (pure_same into_pure (into_pure_says k a) (into_pure_says k (view.Upd a)) k 3 2 a (view.Upd a) entry r (no_larger.pure_of a) (row.of_upd a) (nodes_upd a) (depth_upd a) (omega arith) (omega arith) h same closes)

pub of_upd_none : (k : ℕ) (f a1 a : Formula) → f ≡ view.Upd a1 → a ≡ a1 → IntoPureAnswer k a None → IntoPureAnswer k f None
of_upd_none k f a1 a is at h = pure_moved into_pure (into_pure_says k) k f (view.Upd a) None (is ∙ ap view.Upd (sym at)) (pure_same_none into_pure (into_pure_says k a) (into_pure_says k (view.Upd a)) k a (view.Upd a) (row.of_upd a) h)

pub of_rest : (k : ℕ) (f : Formula) → ((p : P.Pure) → f ≡ Fact p → ⊥) → ((a b : Formula) → f ≡ view.Sep a b → ⊥) → ((a b : Formula) → f ≡ view.And a b → ⊥) → ((a b : Formula) → f ≡ view.Or a b → ⊥) → ((a : Formula) → f ≡ view.Pers a → ⊥) → ((a : Formula) → f ≡ view.Upd a → ⊥) → IntoPureAnswer k f None
of_rest k f no_pure no_sep no_and no_or no_pers no_upd = pure_none (into_pure_says k f) k f (into_pure f) (row.of_none f no_pure no_sep no_and no_or no_pers no_upd)

pub to_fact_done : (k : ℕ) (f : Formula) (p : P.Pure) (r : OnePure) → f ≡ Fact p → r.pure ≡ p → HasProof k (Fact p) (entail k (Fact p) (Fact p)) r.proof → FromPureAnswer k f (Some r)
to_fact_done k f p r is same h = pure_moved from_pure (from_pure_says k) k f (Fact p) (Some r) is (pure_done (from_pure_says k (Fact p)) k (Fact p) (from_pure (Fact p)) p r (row.to_fact p) same h)

pub to_sep_done : (k : ℕ) (f a1 b1 a b : Formula) (x y r : OnePure) → f ≡ view.Sep a1 b1 → a ≡ a1 → b ≡ b1 → FromPureAnswer k a (Some x) → FromPureAnswer k b (Some y) → r.pure ≡ pure.And x.pure y.pure → ClosesBoth x.proof y.proof (entail k (Fact (pure.And x.pure y.pure)) (view.Sep a b)) 13 (deepest (a ∷ b ∷ []) (x.pure ∷ y.pure ∷ []) + 3) k r.proof → FromPureAnswer k f (Some r)
to_sep_done k f a1 b1 a b x y r is ea eb h g same closes = pure_moved from_pure (from_pure_says k) k f (view.Sep a b) (Some r) (is ∙ ap (λ x. view.Sep x b1) (sym ea) ∙ ap (view.Sep a) (sym eb)) (pure_joined from_pure pure.And (from_pure_says k a) (from_pure_says k b) (from_pure_says k (view.Sep a b)) k 13 3 a b (view.Sep a b) x y r (no_larger.of_pure a) (no_larger.of_pure b) (row.to_sep a b) (nodes_sep a b) (depth_sep a b) (omega arith) (omega arith) h g same closes)

pub to_sep_first : (k : ℕ) (f a1 b1 a : Formula) → f ≡ view.Sep a1 b1 → a ≡ a1 → FromPureAnswer k a None → FromPureAnswer k f None
to_sep_first k f a1 b1 a is ea h = pure_moved from_pure (from_pure_says k) k f (view.Sep a b1) None (is ∙ ap (λ x. view.Sep x b1) (sym ea)) (pure_first_none from_pure pure.And (from_pure_says k a) (from_pure_says k (view.Sep a b1)) k a b1 (view.Sep a b1) (row.to_sep a b1) h)

pub to_sep_second : (k : ℕ) (f a1 b1 b : Formula) → f ≡ view.Sep a1 b1 → b ≡ b1 → FromPureAnswer k b None → FromPureAnswer k f None
to_sep_second k f a1 b1 b is eb h = pure_moved from_pure (from_pure_says k) k f (view.Sep a1 b) None (is ∙ ap (view.Sep a1) (sym eb)) (pure_second_none from_pure pure.And (from_pure_says k b) (from_pure_says k (view.Sep a1 b)) k a1 b (view.Sep a1 b) (row.to_sep a1 b) h)

pub to_and_done : (k : ℕ) (f a1 b1 a b : Formula) (x y r : OnePure) → f ≡ view.And a1 b1 → a ≡ a1 → b ≡ b1 → FromPureAnswer k a (Some x) → FromPureAnswer k b (Some y) → r.pure ≡ pure.And x.pure y.pure → ClosesBoth x.proof y.proof (entail k (Fact (pure.And x.pure y.pure)) (view.And a b)) 7 (deepest (a ∷ b ∷ []) (x.pure ∷ y.pure ∷ []) + 2) k r.proof → FromPureAnswer k f (Some r)
to_and_done k f a1 b1 a b x y r is ea eb h g same closes = pure_moved from_pure (from_pure_says k) k f (view.And a b) (Some r) (is ∙ ap (λ x. view.And x b1) (sym ea) ∙ ap (view.And a) (sym eb)) (pure_joined from_pure pure.And (from_pure_says k a) (from_pure_says k b) (from_pure_says k (view.And a b)) k 7 2 a b (view.And a b) x y r (no_larger.of_pure a) (no_larger.of_pure b) (row.to_and a b) (nodes_and a b) (depth_and a b) (omega arith) (omega arith) h g same closes)

pub to_and_first : (k : ℕ) (f a1 b1 a : Formula) → f ≡ view.And a1 b1 → a ≡ a1 → FromPureAnswer k a None → FromPureAnswer k f None
to_and_first k f a1 b1 a is ea h = pure_moved from_pure (from_pure_says k) k f (view.And a b1) None (is ∙ ap (λ x. view.And x b1) (sym ea)) (pure_first_none from_pure pure.And (from_pure_says k a) (from_pure_says k (view.And a b1)) k a b1 (view.And a b1) (row.to_and a b1) h)

pub to_and_second : (k : ℕ) (f a1 b1 b : Formula) → f ≡ view.And a1 b1 → b ≡ b1 → FromPureAnswer k b None → FromPureAnswer k f None
to_and_second k f a1 b1 b is eb h = pure_moved from_pure (from_pure_says k) k f (view.And a1 b) None (is ∙ ap (view.And a1) (sym eb)) (pure_second_none from_pure pure.And (from_pure_says k b) (from_pure_says k (view.And a1 b)) k a1 b (view.And a1 b) (row.to_and a1 b) h)

pub to_or_done : (k : ℕ) (f a1 b1 a b : Formula) (x y r : OnePure) → f ≡ view.Or a1 b1 → a ≡ a1 → b ≡ b1 → FromPureAnswer k a (Some x) → FromPureAnswer k b (Some y) → r.pure ≡ pure.Or x.pure y.pure → ClosesBoth x.proof y.proof (entail k (Fact (pure.Or x.pure y.pure)) (view.Or a b)) 7 (deepest (a ∷ b ∷ []) (x.pure ∷ y.pure ∷ []) + 2) k r.proof → FromPureAnswer k f (Some r)
to_or_done k f a1 b1 a b x y r is ea eb h g same closes = pure_moved from_pure (from_pure_says k) k f (view.Or a b) (Some r) (is ∙ ap (λ x. view.Or x b1) (sym ea) ∙ ap (view.Or a) (sym eb)) (pure_joined from_pure pure.Or (from_pure_says k a) (from_pure_says k b) (from_pure_says k (view.Or a b)) k 7 2 a b (view.Or a b) x y r (no_larger.of_pure a) (no_larger.of_pure b) (row.to_or a b) (nodes_or a b) (depth_or a b) (omega arith) (omega arith) h g same closes)

pub to_or_first : (k : ℕ) (f a1 b1 a : Formula) → f ≡ view.Or a1 b1 → a ≡ a1 → FromPureAnswer k a None → FromPureAnswer k f None
to_or_first k f a1 b1 a is ea h = pure_moved from_pure (from_pure_says k) k f (view.Or a b1) None (is ∙ ap (λ x. view.Or x b1) (sym ea)) (pure_first_none from_pure pure.Or (from_pure_says k a) (from_pure_says k (view.Or a b1)) k a b1 (view.Or a b1) (row.to_or a b1) h)

pub to_or_second : (k : ℕ) (f a1 b1 b : Formula) → f ≡ view.Or a1 b1 → b ≡ b1 → FromPureAnswer k b None → FromPureAnswer k f None
to_or_second k f a1 b1 b is eb h = pure_moved from_pure (from_pure_says k) k f (view.Or a1 b) None (is ∙ ap (view.Or a1) (sym eb)) (pure_second_none from_pure pure.Or (from_pure_says k b) (from_pure_says k (view.Or a1 b)) k a1 b (view.Or a1 b) (row.to_or a1 b) h)

pub to_pers_done : (k : ℕ) (f a1 a : Formula) (entry r : OnePure) → f ≡ view.Pers a1 → a ≡ a1 → FromPureAnswer k a (Some entry) → r.pure ≡ entry.pure → Closes entry.proof (entail k (Fact entry.pure) (view.Pers a)) 3 (deepest (a ∷ []) (entry.pure ∷ []) + 2) k r.proof → FromPureAnswer k f (Some r)
to_pers_done k f a1 a entry r is at h same closes = pure_moved from_pure (from_pure_says k) k f (view.Pers a) (Some r) (is ∙ ap view.Pers (sym at)) (pure_same from_pure (from_pure_says k a) (from_pure_says k (view.Pers a)) k 3 2 a (view.Pers a) entry r (no_larger.of_pure a) (row.to_pers a) (nodes_pers a) (depth_pers a) (omega arith) (omega arith) h same closes)

pub to_pers_none : (k : ℕ) (f a1 a : Formula) → f ≡ view.Pers a1 → a ≡ a1 → FromPureAnswer k a None → FromPureAnswer k f None
to_pers_none k f a1 a is at h = pure_moved from_pure (from_pure_says k) k f (view.Pers a) None (is ∙ ap view.Pers (sym at)) (pure_same_none from_pure (from_pure_says k a) (from_pure_says k (view.Pers a)) k a (view.Pers a) (row.to_pers a) h)

pub to_later_done : (k : ℕ) (f a1 a : Formula) (entry r : OnePure) → f ≡ view.Later a1 → a ≡ a1 → FromPureAnswer k a (Some entry) → r.pure ≡ entry.pure → Closes entry.proof (entail k (Fact entry.pure) (view.Later a)) 2 (deepest (a ∷ []) (entry.pure ∷ []) + 1) k r.proof → FromPureAnswer k f (Some r)
to_later_done k f a1 a entry r is at h same closes = pure_moved from_pure (from_pure_says k) k f (view.Later a) (Some r) (is ∙ ap view.Later (sym at)) (pure_same from_pure (from_pure_says k a) (from_pure_says k (view.Later a)) k 2 1 a (view.Later a) entry r (no_larger.of_pure a) (row.to_later a) (nodes_later a) (depth_later a) (omega arith) (omega arith) h same closes)

pub to_later_none : (k : ℕ) (f a1 a : Formula) → f ≡ view.Later a1 → a ≡ a1 → FromPureAnswer k a None → FromPureAnswer k f None
to_later_none k f a1 a is at h = pure_moved from_pure (from_pure_says k) k f (view.Later a) None (is ∙ ap view.Later (sym at)) (pure_same_none from_pure (from_pure_says k a) (from_pure_says k (view.Later a)) k a (view.Later a) (row.to_later a) h)

pub to_upd_done : (k : ℕ) (f a1 a : Formula) (entry r : OnePure) → f ≡ view.Upd a1 → a ≡ a1 → FromPureAnswer k a (Some entry) → r.pure ≡ entry.pure → Closes entry.proof (entail k (Fact entry.pure) (view.Upd a)) 2 (deepest (a ∷ []) (entry.pure ∷ []) + 1) k r.proof → FromPureAnswer k f (Some r)
to_upd_done k f a1 a entry r is at h same closes = pure_moved from_pure (from_pure_says k) k f (view.Upd a) (Some r) (is ∙ ap view.Upd (sym at)) (pure_same from_pure (from_pure_says k a) (from_pure_says k (view.Upd a)) k 2 1 a (view.Upd a) entry r (no_larger.of_pure a) (row.to_upd a) (nodes_upd a) (depth_upd a) (omega arith) (omega arith) h same closes)

pub to_upd_none : (k : ℕ) (f a1 a : Formula) → f ≡ view.Upd a1 → a ≡ a1 → FromPureAnswer k a None → FromPureAnswer k f None
to_upd_none k f a1 a is at h = pure_moved from_pure (from_pure_says k) k f (view.Upd a) None (is ∙ ap view.Upd (sym at)) (pure_same_none from_pure (from_pure_says k a) (from_pure_says k (view.Upd a)) k a (view.Upd a) (row.to_upd a) h)

pub to_rest : (k : ℕ) (f : Formula) → ((p : P.Pure) → f ≡ Fact p → ⊥) → ((a b : Formula) → f ≡ view.Sep a b → ⊥) → ((a b : Formula) → f ≡ view.And a b → ⊥) → ((a b : Formula) → f ≡ view.Or a b → ⊥) → ((a : Formula) → f ≡ view.Pers a → ⊥) → ((a : Formula) → f ≡ view.Later a → ⊥) → ((a : Formula) → f ≡ view.Upd a → ⊥) → FromPureAnswer k f None
to_rest k f no_pure no_sep no_and no_or no_pers no_later no_upd = pure_none (from_pure_says k f) k f (from_pure f) (row.to_none f no_pure no_sep no_and no_or no_pers no_later no_upd)

pub persistent_pers_done : (k : ℕ) (f a1 a : Formula) (r : One) → f ≡ view.Pers a1 → a ≡ a1 → r.formula ≡ a → HasProof k f (entail k f f) r.proof → PersistentAnswer k f (Some r)
persistent_pers_done k f a1 a r is at same p =
    let e : f ≡ view.Pers a = is ∙ ap view.Pers (sym at) in
    one_moved into_persistent (persistent_says k) k f (view.Pers a) (Some r) e (one_done (persistent_says k (view.Pers a)) k (view.Pers a) (into_persistent (view.Pers a)) a r (row.persistent_pers a) same (subst (λ (x : Formula). HasProof k x (entail k x x) r.proof) e p))

one_if : (b : Bool) (o : Option Formula) → b ≡ true → cond b o None ≡ o
one_if true o h = refl
one_if false o h = absurd (cc)

one_not : (b : Bool) (o : Option Formula) → b ≡ false → cond b o None ≡ None
one_not true o h = absurd (cc)
one_not false o h = refl

pub persistent_done : (k : ℕ) (f g : Formula) (t : Tree) → ((a : Formula) → f ≡ view.Pers a → ⊥) → IsPersistent f → g ≡ f → HasProof k f (entail k f (view.Pers f)) t → PersistentAnswer k f (Some (record { formula = g; proof = t }))
persistent_done k f g t isnt persists same p = one_done (persistent_says k f) k f (into_persistent f) f (record { formula = g; proof = t }) (row.persistent_else f isnt ∙ one_if (is_persistent f) (Some f) (row.persistent_is f persists)) same p

pub persistent_none : (k : ℕ) (f : Formula) → ((a : Formula) → f ≡ view.Pers a → ⊥) → (IsPersistent f → ⊥) → PersistentAnswer k f None
persistent_none k f other isnt = one_none (persistent_says k f) k f (into_persistent f) (row.persistent_else f other ∙ one_not (is_persistent f) (Some f) (row.persistent_not f isnt))

abbrev pub Boxed : ℕ → Formula → Tree → Type 0
Boxed k f t = HasProof k f (entail k f (view.Pers f)) t

pub boxed_moved : (k : ℕ) (f g : Formula) (t : Tree) → f ≡ g → Boxed k g t → Boxed k f t
boxed_moved k f g t is p = subst (λ (x : Formula). Boxed k x t) (sym is) p

pub boxed_at : (k : ℕ) (a b : Formula) (t : Tree) → a ≡ b → Boxed k a t → Boxed k b t
boxed_at k a b t is p = subst (λ (x : Formula). Boxed k x t) is p

pub persists_not : (f : Formula) → ((p : P.Pure) → f ≡ Fact p → ⊥) → ((a b : Formula) → f ≡ view.Sep a b → ⊥) → ((a b : Formula) → f ≡ view.And a b → ⊥) → ((a b : Formula) → f ≡ view.Or a b → ⊥) → ((a : Formula) → f ≡ view.All a → ⊥) → ((a : Formula) → f ≡ view.Ex a → ⊥) → ((a : Formula) → f ≡ view.Later a → ⊥) → ((a : Formula) → f ≡ view.Pers a → ⊥) → IsPersistent f → ⊥
unfolding block.shape-the_row-Formula-0 block.hidden-the_row-Formula-0 carrier.hidden IsPersistent
persists_not (Fact p) no_pure no_sep no_and no_or no_all no_ex no_later no_pers h = no_pure p refl
persists_not (Sep a b) no_pure no_sep no_and no_or no_all no_ex no_later no_pers h = no_sep a b refl
persists_not (And a b) no_pure no_sep no_and no_or no_all no_ex no_later no_pers h = no_and a b refl
persists_not (Or a b) no_pure no_sep no_and no_or no_all no_ex no_later no_pers h = no_or a b refl
persists_not (All a) no_pure no_sep no_and no_or no_all no_ex no_later no_pers h = no_all a refl
persists_not (Ex a) no_pure no_sep no_and no_or no_all no_ex no_later no_pers h = no_ex a refl
persists_not (Later a) no_pure no_sep no_and no_or no_all no_ex no_later no_pers h = no_later a refl
persists_not (Pers a) no_pure no_sep no_and no_or no_all no_ex no_later no_pers h = no_pers a refl
persists_not (Wand a b) no_pure no_sep no_and no_or no_all no_ex no_later no_pers h = h
persists_not (Imp a b) no_pure no_sep no_and no_or no_all no_ex no_later no_pers h = h
persists_not (Upd a) no_pure no_sep no_and no_or no_all no_ex no_later no_pers h = h
persists_not (Pts l u v) no_pure no_sep no_and no_or no_all no_ex no_later no_pers h = h
persists_not (Call q args) no_pure no_sep no_and no_or no_all no_ex no_later no_pers h = h

pub boxed_pure : (k : ℕ) (f : Formula) (p : P.Pure) (t : Tree) → f ≡ Fact p → Proves Every (entail k (Fact p) (view.Pers (Fact p))) [] 1 (deepest [] (p ∷ []) + 2) k t → Boxed k f t
boxed_pure k f p t is h = boxed_moved k f (Fact p) t is (has k 1 (deepest [] (p ∷ []) + 2) (Fact p) (entail k (Fact p) (view.Pers (Fact p))) t (omega arith) (omega (arith, depth_pure p)) h)

pub boxed_pers : (k : ℕ) (f a1 a : Formula) (t : Tree) → f ≡ view.Pers a1 → a ≡ a1 → Proves Every (entail k (view.Pers a) (view.Pers (view.Pers a))) [] 1 (deepest (a ∷ []) [] + 2) k t → Boxed k f t
boxed_pers k f a1 a t is at h = boxed_moved k f (view.Pers a) t (is ∙ ap view.Pers (sym at)) (has k 1 (deepest (a ∷ []) [] + 2) (view.Pers a) (entail k (view.Pers a) (view.Pers (view.Pers a))) t (omega arith) (omega (arith, depth_pers a)) h)

pub boxed_later_done : (k : ℕ) (f a1 a : Formula) (x t : Tree) → f ≡ view.Later a1 → a ≡ a1 → Boxed k a x → Closes x (entail k (view.Later a) (view.Pers (view.Later a))) 3 (deepest (a ∷ []) [] + 2) k t → Boxed k f t
boxed_later_done k f a1 a x t is at p c = boxed_moved k f (view.Later a) t (is ∙ ap view.Later (sym at)) (closed_has k 3 (deepest (a ∷ []) [] + 2) k (view.Later a) a (entail k (view.Later a) (view.Pers (view.Later a))) (entail k a (view.Pers a)) x t c p (omega arith) (omega (arith, depth_later a)) (omega arith) (omega (arith, nodes_later a)) (omega (arith, depth_later a)))

pub boxed_sep_done : (k : ℕ) (f a1 b1 a b : Formula) (x y t : Tree) → f ≡ view.Sep a1 b1 → a ≡ a1 → b ≡ b1 → Boxed k a x → Boxed k b y → ClosesBoth x y (entail k (view.Sep a b) (view.Pers (view.Sep a b))) 20 (deepest (a ∷ b ∷ []) [] + 3) k t → Boxed k f t
boxed_sep_done k f a1 b1 a b x y t is ea eb p q c = boxed_moved k f (view.Sep a b) t (is ∙ ap (λ x. view.Sep x b1) (sym ea) ∙ ap (view.Sep a) (sym eb)) (closed_both_has k 20 (deepest (a ∷ b ∷ []) [] + 3) k (view.Sep a b) a b (entail k (view.Sep a b) (view.Pers (view.Sep a b))) (entail k a (view.Pers a)) (entail k b (view.Pers b)) x y t c p q (omega arith) (omega (arith, depth_sep a b)) (omega arith) (nodes_sep a b) (omega (arith, depth_sep a b)) (omega (arith, depth_sep a b)))

pub boxed_and_done : (k : ℕ) (f a1 b1 a b : Formula) (x y t : Tree) → f ≡ view.And a1 b1 → a ≡ a1 → b ≡ b1 → Boxed k a x → Boxed k b y → ClosesBoth x y (entail k (view.And a b) (view.Pers (view.And a b))) 7 (deepest (a ∷ b ∷ []) [] + 2) k t → Boxed k f t
boxed_and_done k f a1 b1 a b x y t is ea eb p q c = boxed_moved k f (view.And a b) t (is ∙ ap (λ x. view.And x b1) (sym ea) ∙ ap (view.And a) (sym eb)) (closed_both_has k 7 (deepest (a ∷ b ∷ []) [] + 2) k (view.And a b) a b (entail k (view.And a b) (view.Pers (view.And a b))) (entail k a (view.Pers a)) (entail k b (view.Pers b)) x y t c p q (omega arith) (omega (arith, depth_and a b)) (omega arith) (nodes_and a b) (omega (arith, depth_and a b)) (omega (arith, depth_and a b)))

pub boxed_or_done : (k : ℕ) (f a1 b1 a b : Formula) (x y t : Tree) → f ≡ view.Or a1 b1 → a ≡ a1 → b ≡ b1 → Boxed k a x → Boxed k b y → ClosesBoth x y (entail k (view.Or a b) (view.Pers (view.Or a b))) 7 (deepest (a ∷ b ∷ []) [] + 2) k t → Boxed k f t
boxed_or_done k f a1 b1 a b x y t is ea eb p q c = boxed_moved k f (view.Or a b) t (is ∙ ap (λ x. view.Or x b1) (sym ea) ∙ ap (view.Or a) (sym eb)) (closed_both_has k 7 (deepest (a ∷ b ∷ []) [] + 2) k (view.Or a b) a b (entail k (view.Or a b) (view.Pers (view.Or a b))) (entail k a (view.Pers a)) (entail k b (view.Pers b)) x y t c p q (omega arith) (omega (arith, depth_or a b)) (omega arith) (nodes_or a b) (omega (arith, depth_or a b)) (omega (arith, depth_or a b)))
