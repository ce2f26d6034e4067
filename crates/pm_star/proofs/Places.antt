-- The parts of a goal or a work that gains a fact or a hypothesis, or loses one.
use Rattle.std.proofs.Common.{◌≡◌, ℕ, zero, suc, ◌+◌, ◌<◌, ◌≤◌, Some, List, [], ◌∷◌, ◌++◌, length, map, slice_get, insert, remove, refl, sym, ap, ◌∙◌, arith, append_assoc, length-append}
use Rattle.std.proofs.lemmas.List.{map-append, length-map}
use Rattle.pm_logic.specs.declared.formula.Formula.{Formula}
use Rattle.pm_logic.specs.declared.formula.Formula.TheVariants.{Pure as Assert}
use Rattle.pm_logic.specs.declared.formula.Formula.TheViews as view
use Rattle.pm_goal.specs.declared.goal.Hyp.{Hyp}
use Rattle.pm_goal.specs.declared.goal.Fact.{Fact}
use Rattle.pm_goal.specs.declared.goal.Goal.{Goal}
use Rattle.pm_goal.specs.declared.work.Held.{Held}
use Rattle.pm_goal.specs.declared.work.Work.{Work}
use Rattle.pm_goal.specs.declared.work.Kind.TheVariants as kind
use Rattle.pm_goal.specs.Left.{of_kind, facts, hyps_as, hyps, held_parts}
use Rattle.pm_star.specs.Stars.{shared, parts, work_parts, part_at, without}

-- ---- lists

insert_end : (fs : List Formula) (a : Formula) → fs ++ a ∷ [] ≡ insert fs (length fs) a
insert_end [] a = refl
insert_end (f ∷ fs) a = ap (λ l. f ∷ l) (insert_end fs a)

insert_behind : (fs gs : List Formula) (a : Formula) → fs ++ a ∷ gs ≡ insert (fs ++ gs) (length fs) a
insert_behind [] gs a = refl
insert_behind (f ∷ fs) gs a = ap (λ l. f ∷ l) (insert_behind fs gs a)

at_end : (fs gs : List Formula) (a : Formula) → (fs ++ a ∷ []) ++ gs ≡ insert (fs ++ gs) (length fs) a
at_end fs gs a = append_assoc fs (a ∷ []) gs ∙ insert_behind fs gs a

insert_left : (fs gs : List Formula) (n : ℕ) (a : Formula) → n ≤ length fs → insert fs n a ++ gs ≡ insert (fs ++ gs) n a
insert_left fs gs zero a le = refl
insert_left [] gs (suc n) a le = absurd (omega (arith, le))
insert_left (f ∷ fs) gs (suc n) a le = ap (λ l. f ∷ l) (insert_left fs gs n a (omega (arith, le)))

remove_left : (fs gs : List Formula) (i : ℕ) → i < length fs → remove fs i ++ gs ≡ remove (fs ++ gs) i
remove_left [] gs i lt = absurd (omega (arith, lt))
remove_left (f ∷ fs) gs zero lt = refl
remove_left (f ∷ fs) gs (suc i) lt = ap (λ l. f ∷ l) (remove_left fs gs i (omega (arith, lt)))

remove_right : (fs gs : List Formula) (i n : ℕ) → n ≡ length fs + i → fs ++ remove gs i ≡ remove (fs ++ gs) n
remove_right [] gs i n e = let same : i ≡ n = omega (arith, e) in ap (remove gs) same
remove_right (f ∷ fs) gs i zero e = absurd (omega (arith, e))
remove_right (f ∷ fs) gs i (suc n) e = ap (λ l. f ∷ l) (remove_right fs gs i n (omega (arith, e)))

map_remove : {A : Type 0} (part : A → Formula) (xs : List A) (i : ℕ) → map part (remove xs i) ≡ remove (map part xs) i
map_remove part [] zero = refl
map_remove part [] (suc i) = refl
map_remove part (x ∷ xs) zero = refl
map_remove part (x ∷ xs) (suc i) = ap (λ l. part x ∷ l) (map_remove part xs i)

part_left : (fs gs : List Formula) (i : ℕ) → i < length fs → part_at (fs ++ gs) i ≡ part_at fs i
part_left [] gs i lt = absurd (omega (arith, lt))
part_left (f ∷ fs) gs zero lt = refl
part_left (f ∷ fs) gs (suc i) lt = part_left fs gs i (omega (arith, lt))

part_right : (fs gs : List Formula) (i n : ℕ) → n ≡ length fs + i → part_at (fs ++ gs) n ≡ part_at gs i
part_right [] gs i n e = let same : n ≡ i = omega (arith, e) in ap (part_at gs) same
part_right (f ∷ fs) gs i zero e = absurd (omega (arith, e))
part_right (f ∷ fs) gs i (suc n) e = part_right fs gs i n (omega (arith, e))

part_of : {A : Type 0} (part : A → Formula) (xs : List A) (i : ℕ) (x : A) → slice_get xs i ≡ Some x → part_at (map part xs) i ≡ part x
part_of part [] i x e = absurd cc
part_of part (y ∷ xs) zero x e = ap part (let same : y ≡ x = cc in same)
part_of part (y ∷ xs) (suc i) x e = part_of part xs i x e

item_within : {A : Type 0} (part : A → Formula) (xs : List A) (i : ℕ) (x : A) → slice_get xs i ≡ Some x → i < length (map part xs)
item_within part [] i x e = absurd cc
item_within part (y ∷ xs) zero x e = omega arith
item_within part (y ∷ xs) (suc i) x e = omega (arith, item_within part xs i x e)

-- ---- a fact or a hypothesis more, the last of its context

pub goal_gains_fact : (old new : Goal) (f : Fact) → new.pures ≡ old.pures ++ f ∷ [] → new.ints ≡ old.ints → new.spats ≡ old.spats → parts new ≡ insert (parts old) (length old.pures) (Assert f.pure)
goal_gains_fact old new f pis iis sis =
    let fs : List Formula = facts old.pures in
    let is : List Formula = hyps_as kind.Int old.ints in
    let ss : List Formula = hyps old.spats in
    let n : length fs ≡ length old.pures = length-map old.pures (λ (g : Fact). Assert g.pure) in
    let le : length fs ≤ length (fs ++ is) = omega (arith, length-append fs is) in
    ap (λ ps. (facts ps ++ hyps_as kind.Int new.ints) ++ hyps new.spats) pis ∙ ap (λ js. (facts (old.pures ++ f ∷ []) ++ hyps_as kind.Int js) ++ hyps new.spats) iis ∙ ap (λ js. (facts (old.pures ++ f ∷ []) ++ is) ++ hyps js) sis ∙ ap (λ l. (l ++ is) ++ ss) (map-append (λ (g : Fact). Assert g.pure) old.pures (f ∷ [])) ∙ ap (λ l. l ++ ss) (at_end fs is (Assert f.pure)) ∙ insert_left (fs ++ is) ss (length fs) (Assert f.pure) le ∙ ap (λ j. insert (parts old) j (Assert f.pure)) n

pub goal_gains_int : (old new : Goal) (h : Hyp) → new.pures ≡ old.pures → new.ints ≡ old.ints ++ h ∷ [] → new.spats ≡ old.spats → parts new ≡ insert (parts old) (length (shared old)) (view.Pers h.formula)
goal_gains_int old new h pis iis sis =
    let fs : List Formula = facts old.pures in
    let is : List Formula = hyps_as kind.Int old.ints in
    let ss : List Formula = hyps old.spats in
    ap (λ ps. (facts ps ++ hyps_as kind.Int new.ints) ++ hyps new.spats) pis ∙ ap (λ js. (fs ++ hyps_as kind.Int js) ++ hyps new.spats) iis ∙ ap (λ js. (fs ++ hyps_as kind.Int (old.ints ++ h ∷ [])) ++ hyps js) sis ∙ ap (λ l. (fs ++ l) ++ ss) (map-append (λ (g : Hyp). of_kind kind.Int g.formula) old.ints (h ∷ [])) ∙ ap (λ l. l ++ ss) (sym (append_assoc fs is (view.Pers h.formula ∷ []))) ∙ at_end (fs ++ is) ss (view.Pers h.formula)

pub goal_gains_spat : (old new : Goal) (h : Hyp) → new.pures ≡ old.pures → new.ints ≡ old.ints → new.spats ≡ old.spats ++ h ∷ [] → parts new ≡ insert (parts old) (length (parts old)) h.formula
goal_gains_spat old new h pis iis sis =
    let ss : List Formula = hyps old.spats in
    ap (λ ps. (facts ps ++ hyps_as kind.Int new.ints) ++ hyps new.spats) pis ∙ ap (λ js. (facts old.pures ++ hyps_as kind.Int js) ++ hyps new.spats) iis ∙ ap (λ js. shared old ++ hyps js) sis ∙ ap (λ l. shared old ++ l) (map-append (λ (g : Hyp). of_kind kind.Spat g.formula) old.spats (h ∷ [])) ∙ sym (append_assoc (shared old) ss (h.formula ∷ [])) ∙ insert_end (parts old) h.formula

-- in a work
gains_in_goal : (old new : Work) (n : ℕ) (a : Formula) → n ≤ length (parts old.goal) → parts new.goal ≡ insert (parts old.goal) n a → new.held ≡ old.held → work_parts new ≡ insert (work_parts old) n a
gains_in_goal old new n a le is his = ap (λ l. l ++ held_parts new.held) is ∙ ap (λ hs. insert (parts old.goal) n a ++ held_parts hs) his ∙ insert_left (parts old.goal) (held_parts old.held) n a le

pub gains_fact : (old new : Work) (f : Fact) → new.goal.pures ≡ old.goal.pures ++ f ∷ [] → new.goal.ints ≡ old.goal.ints → new.goal.spats ≡ old.goal.spats → new.held ≡ old.held → work_parts new ≡ insert (work_parts old) (length old.goal.pures) (Assert f.pure)
gains_fact old new f pis iis sis his =
    let n = length-map old.goal.pures (λ (g : Fact). Assert g.pure) in
    let le : length old.goal.pures ≤ length (parts old.goal) = omega (arith, n, length-append (facts old.goal.pures) (hyps_as kind.Int old.goal.ints), length-append (shared old.goal) (hyps old.goal.spats)) in
    gains_in_goal old new (length old.goal.pures) (Assert f.pure) le (goal_gains_fact old.goal new.goal f pis iis sis) his

pub gains_int : (old new : Work) (h : Hyp) → new.goal.pures ≡ old.goal.pures → new.goal.ints ≡ old.goal.ints ++ h ∷ [] → new.goal.spats ≡ old.goal.spats → new.held ≡ old.held → work_parts new ≡ insert (work_parts old) (length (shared old.goal)) (view.Pers h.formula)
gains_int old new h pis iis sis his =
    let le : length (shared old.goal) ≤ length (parts old.goal) = omega (arith, length-append (shared old.goal) (hyps old.goal.spats)) in
    gains_in_goal old new (length (shared old.goal)) (view.Pers h.formula) le (goal_gains_int old.goal new.goal h pis iis sis) his

pub gains_spat : (old new : Work) (h : Hyp) → new.goal.pures ≡ old.goal.pures → new.goal.ints ≡ old.goal.ints → new.goal.spats ≡ old.goal.spats ++ h ∷ [] → new.held ≡ old.held → work_parts new ≡ insert (work_parts old) (length (parts old.goal)) h.formula
gains_spat old new h pis iis sis his = gains_in_goal old new (length (parts old.goal)) h.formula (omega arith) (goal_gains_spat old.goal new.goal h pis iis sis) his

pub gains_held : (old new : Work) (h : Held) → parts new.goal ≡ parts old.goal → new.held ≡ old.held ++ h ∷ [] → work_parts new ≡ insert (work_parts old) (length (work_parts old)) (of_kind h.kind h.formula)
gains_held old new h is his =
    let a : Formula = of_kind h.kind h.formula in
    ap (λ l. l ++ held_parts new.held) is ∙ ap (λ hs. parts old.goal ++ held_parts hs) his ∙ ap (λ l. parts old.goal ++ l) (map-append (λ (g : Held). of_kind g.kind g.formula) old.held (h ∷ [])) ∙ sym (append_assoc (parts old.goal) (held_parts old.held) (a ∷ [])) ∙ insert_end (work_parts old) a

-- ---- one less

pub goal_loses_fact : (old new : Goal) (i : ℕ) → i < length old.pures → new.pures ≡ remove old.pures i → new.ints ≡ old.ints → new.spats ≡ old.spats → parts new ≡ without (parts old) i
goal_loses_fact old new i lt pis iis sis =
    let fs : List Formula = facts old.pures in
    let is : List Formula = hyps_as kind.Int old.ints in
    let ss : List Formula = hyps old.spats in
    let at : i < length fs = omega (arith, lt, length-map old.pures (λ (g : Fact). Assert g.pure)) in
    let at2 : i < length (fs ++ is) = omega (arith, at, length-append fs is) in
    ap (λ ps. (facts ps ++ hyps_as kind.Int new.ints) ++ hyps new.spats) pis ∙ ap (λ js. (facts (remove old.pures i) ++ hyps_as kind.Int js) ++ hyps new.spats) iis ∙ ap (λ js. (facts (remove old.pures i) ++ is) ++ hyps js) sis ∙ ap (λ l. (l ++ is) ++ ss) (map_remove (λ (g : Fact). Assert g.pure) old.pures i) ∙ ap (λ l. l ++ ss) (remove_left fs is i at) ∙ remove_left (fs ++ is) ss i at2

pub goal_loses_int : (old new : Goal) (i : ℕ) → i < length old.ints → new.pures ≡ old.pures → new.ints ≡ remove old.ints i → new.spats ≡ old.spats → parts new ≡ without (parts old) (length old.pures + i)
goal_loses_int old new i lt pis iis sis =
    let fs : List Formula = facts old.pures in
    let is : List Formula = hyps_as kind.Int old.ints in
    let ss : List Formula = hyps old.spats in
    let n : length old.pures + i ≡ length fs + i = omega (arith, length-map old.pures (λ (g : Fact). Assert g.pure)) in
    let at : length old.pures + i < length (fs ++ is) = omega (arith, n, lt, length-map old.ints (λ (g : Hyp). of_kind kind.Int g.formula), length-append fs is) in
    ap (λ ps. (facts ps ++ hyps_as kind.Int new.ints) ++ hyps new.spats) pis ∙ ap (λ js. (fs ++ hyps_as kind.Int js) ++ hyps new.spats) iis ∙ ap (λ js. (fs ++ hyps_as kind.Int (remove old.ints i)) ++ hyps js) sis ∙ ap (λ l. (fs ++ l) ++ ss) (map_remove (λ (g : Hyp). of_kind kind.Int g.formula) old.ints i) ∙ ap (λ l. l ++ ss) (remove_right fs is i (length old.pures + i) n) ∙ remove_left (fs ++ is) ss (length old.pures + i) at

pub goal_loses_spat : (old new : Goal) (i : ℕ) → new.pures ≡ old.pures → new.ints ≡ old.ints → new.spats ≡ remove old.spats i → parts new ≡ without (parts old) (length (shared old) + i)
goal_loses_spat old new i pis iis sis =
    ap (λ ps. (facts ps ++ hyps_as kind.Int new.ints) ++ hyps new.spats) pis ∙ ap (λ js. (facts old.pures ++ hyps_as kind.Int js) ++ hyps new.spats) iis ∙ ap (λ js. shared old ++ hyps js) sis ∙ ap (λ l. shared old ++ l) (map_remove (λ (g : Hyp). of_kind kind.Spat g.formula) old.spats i) ∙ remove_right (shared old) (hyps old.spats) i (length (shared old) + i) refl

-- in a work
pub loses_in_goal : (old new : Work) (n : ℕ) → n < length (parts old.goal) → parts new.goal ≡ without (parts old.goal) n → new.held ≡ old.held → work_parts new ≡ without (work_parts old) n
loses_in_goal old new n lt is his = ap (λ l. l ++ held_parts new.held) is ∙ ap (λ hs. without (parts old.goal) n ++ held_parts hs) his ∙ remove_left (parts old.goal) (held_parts old.held) n lt

pub loses_held : (old new : Work) (i : ℕ) → parts new.goal ≡ parts old.goal → new.held ≡ remove old.held i → work_parts new ≡ without (work_parts old) (length (parts old.goal) + i)
loses_held old new i is his =
    ap (λ l. l ++ held_parts new.held) is ∙ ap (λ hs. parts old.goal ++ held_parts hs) his ∙ ap (λ l. parts old.goal ++ l) (map_remove (λ (g : Held). of_kind g.kind g.formula) old.held i) ∙ remove_right (parts old.goal) (held_parts old.held) i (length (parts old.goal) + i) refl

-- ---- what stands at a place

pub fact_at : (goal : Goal) (i : ℕ) (f : Fact) → slice_get goal.pures i ≡ Some f → part_at (parts goal) i ≡ Assert f.pure
fact_at goal i f e =
    let at : i < length (facts goal.pures) = item_within (λ (g : Fact). Assert g.pure) goal.pures i f e in
    let at2 : i < length (shared goal) = omega (arith, at, length-append (facts goal.pures) (hyps_as kind.Int goal.ints)) in
    part_left (shared goal) (hyps goal.spats) i at2 ∙ part_left (facts goal.pures) (hyps_as kind.Int goal.ints) i at ∙ part_of (λ (g : Fact). Assert g.pure) goal.pures i f e

pub int_at : (goal : Goal) (i : ℕ) (h : Hyp) → slice_get goal.ints i ≡ Some h → part_at (parts goal) (length goal.pures + i) ≡ view.Pers h.formula
int_at goal i h e =
    let fs : List Formula = facts goal.pures in
    let is : List Formula = hyps_as kind.Int goal.ints in
    let n : length goal.pures + i ≡ length fs + i = omega (arith, length-map goal.pures (λ (g : Fact). Assert g.pure)) in
    let at : length goal.pures + i < length (fs ++ is) = omega (arith, n, item_within (λ (g : Hyp). of_kind kind.Int g.formula) goal.ints i h e, length-append fs is) in
    part_left (shared goal) (hyps goal.spats) (length goal.pures + i) at ∙ part_right fs is i (length goal.pures + i) n ∙ part_of (λ (g : Hyp). of_kind kind.Int g.formula) goal.ints i h e

pub spat_at : (goal : Goal) (i : ℕ) (h : Hyp) → slice_get goal.spats i ≡ Some h → part_at (parts goal) (length (shared goal) + i) ≡ h.formula
spat_at goal i h e = part_right (shared goal) (hyps goal.spats) i (length (shared goal) + i) refl ∙ part_of (λ (g : Hyp). of_kind kind.Spat g.formula) goal.spats i h e

pub in_goal_at : (work : Work) (n : ℕ) → n < length (parts work.goal) → part_at (work_parts work) n ≡ part_at (parts work.goal) n
in_goal_at work n lt = part_left (parts work.goal) (held_parts work.held) n lt

pub held_at : (work : Work) (i : ℕ) (h : Held) → slice_get work.held i ≡ Some h → part_at (work_parts work) (length (parts work.goal) + i) ≡ of_kind h.kind h.formula
held_at work i h e = part_right (parts work.goal) (held_parts work.held) i (length (parts work.goal) + i) refl ∙ part_of (λ (g : Held). of_kind g.kind g.formula) work.held i h e
