-- What is last in hand, applied.
use Rattle.std.proofs.Common.{◌≡◌, ℕ, zero, suc, ◌+◌, ◌*◌, ◌<◌, ◌≤◌, max, List, [], ◌∷◌, ◌++◌, map, reverse, length, length-append, refl, sym, ◌∙◌, ap, ap₂, subst, arith, Option, Some, None, slice_get, append-nil}
use Rattle.std.specs.Prelude.{Result, Err}
use Rattle.std.specs.List.{AllByRecursion}
use Rattle.pm_logic.specs.declared.formula.Formula.{Formula}
use Rattle.pm_logic.specs.declared.formula.Formula.TheViews as view
use Rattle.pm_logic.specs.declared.formula.Preds.{Preds}
use Rattle.pm_logic.specs.Scope.{Scoped}
use Rattle.pm_logic.specs.Size.{depth_of, nodes_of}
use Rattle.pm_goal.specs.declared.goal.Goal.{Goal}
use Rattle.pm_goal.specs.declared.work.Kind.{Kind}
use Rattle.pm_goal.specs.declared.work.Kind.TheVariants as kind
use Rattle.pm_goal.specs.declared.work.Held.{Held}
use Rattle.pm_goal.specs.declared.work.Work.{Work}
use Rattle.pm_goal.specs.declared.refusal.Row.TheVariants.{ConclusionNotReached}
use Rattle.pm_goal.specs.declared.refusal.StepFault.{StepFault}
use Rattle.pm_goal.specs.declared.refusal.StepFault.TheVariants as fault
use Rattle.pm_goal.specs.Left.{star_onto, of_kind, held_parts, hyps, left_of, left_of_work, facts, hyps_as}
use Rattle.pm_rules.specs.declared.rules.Entail.{Entail}
use Rattle.pm_proof.specs.Trees.{Tree, entail, conclusion, holes_of, splice}
use Rattle.pm_proof.specs.Known.{Proves, Every, ScopedWhere, FillProves}
use Rattle.pm_proof.specs.declared.proof.Parts.{Parts}
use Rattle.pm_proof.proofs.Fills.{weaker}
use Rattle.pm_schemes.specs.Sketches.{deepest}
use Rattle.pm_star.specs.Stars.{star, shared, parts, work_parts, room as star_room, Moves}
use Rattle.pm_star.specs.Chains.{ChainProves, across}
use Rattle.pm_star.proofs.Contexts.{goal_star}
use Rattle.pm_star.proofs.Scoping.{sep_scoped, scoped_sep, box_scoped, scoped_box, scoped_star, star_scoped, depth_box}
use Rattle.pm_classes.proofs.Sizes.{has_levels, has_nodes}
use Rattle.pm_table.specs.declared.place.Place.{Place}
use Rattle.pm_table.specs.Outcomes.{Outcome, gives, require_entry}
use Rattle.pm_table.specs.Limits.{limited, resting, formulas, all_nodes, work_formulas, greatest_depth}
use Rattle.pm_table.specs.Running.{rules_within}
use Rattle.pm_table.specs.Terms as table
use Rattle.pm_table.specs.Terms.{premises, premise_goals}
use Rattle.pm_action.specs.Meanings.{meaning, meanings, height, room, width}
use Rattle.pm_action.specs.Acting.{Answers, Ends, IsActed, IsLast, plainly}
use Rattle.pm_action.proofs.Sums.{depth_append}
use Rattle.pm_action.proofs.Heights.{star_height, concl_height, parts_nodes}
use Rattle.pm_action.proofs.Hands.{with_last_is}
use Rattle.pm_hand.proofs.Relasts.{last_depth, last_nodes}
use Rattle.pm_apply.specs.declared.reaching.Reached.{Reached}
use Rattle.pm_apply.specs.Reaching.{ground, wanted, steps_for, Reaches, ReachAnswer, shared_star, wanted_of, IsBeside, IsInContext, IsOpened}
use Rattle.pm_apply.proofs.Wands.{steps_within}
use Rattle.pm_apply.proofs.Onward.{is_reached, not_reached}
use Rattle.pm_apply.proofs.PremiseGoals.{bare_star, mean_wanted}
use Rattle.pm_apply.proofs.Besides.{goal_deep, times_grow}

-- ---- the shared star

shared_deep : (w : Work) → depth_of (shared_star w.goal) ≤ height w + 1
unfolding star_onto
shared_deep w =
    let g = w.goal in
    let bare : Goal = record { vars = g.vars; pures = g.pures; ints = g.ints; spats = []; concl = g.concl } in
    let is : left_of bare ≡ shared_star g = bare_star g g [] (left_of bare) refl refl refl in
    let low : depth_of (left_of_work (resting bare)) ≤ height (resting bare) + 1 = star_height (resting bare) in
    let here : depth_of (shared_star g) ≤ height (resting bare) + 1 = subst (λ f. depth_of f ≤ height (resting bare) + 1) is low in
    omega (
      arith,
      here,
      depth_append (formulas bare) [],
      depth_append (facts g.pures) (hyps g.ints ++ (g.concl ∷ [])),
      depth_append (hyps g.ints) (g.concl ∷ []),
      depth_append (formulas g) (map (λ (h : Held). h.formula) w.held),
      depth_append (facts g.pures) (hyps g.ints ++ (hyps g.spats ++ (g.concl ∷ []))),
      depth_append (hyps g.ints) (hyps g.spats ++ (g.concl ∷ [])),
      depth_append (hyps g.spats) (g.concl ∷ []),
    )

first_all : (P : Formula → Type 0) (xs ys : List Formula) → AllByRecursion P (xs ++ ys) → AllByRecursion P xs
first_all P [] ys a = tt
first_all P (x ∷ xs) ys a = (a.0, first_all P xs ys a.1)

shared_scoped : (preds : Preds) (k : ℕ) (g : Goal) → Scoped preds k (left_of g) → Scoped preds k (shared_star g)
shared_scoped preds k g s = star_scoped preds k (shared g) (first_all (Scoped preds k) (shared g) (hyps g.spats) (scoped_star preds k (parts g) (subst (Scoped preds k) (sym (goal_star g)) s)))

unboxed_scoped : (preds : Preds) (k : ℕ) (z : Kind) (f : Formula) → Scoped preds k (of_kind z f) → Scoped preds k f
unboxed_scoped preds k kind.Int f s = scoped_box preds k f s
unboxed_scoped preds k kind.Spat f s = s

-- ---- in the context

module _ (w : Work) (l : Held) (is : IsLast w l) where
  abbrev k : ℕ
  k = length w.goal.vars

  abbrev whole : Formula
  whole = left_of w.goal

  abbrev common : Formula
  common = shared_star w.goal

  abbrev concl : Formula
  concl = w.goal.concl

  abbrev part : Formula
  part = of_kind l.kind l.formula

  low : deepest (whole ∷ common ∷ l.formula ∷ concl ∷ []) [] ≤ height w + 2
  low = omega (arith, goal_deep w, shared_deep w, last_depth w l is, concl_height w, has_levels concl)

  abbrev pub RuleProves : Tree → Type 0
  RuleProves t = Proves Every (entail k (view.Sep part whole) concl) (entail k whole (view.Pers common) ∷ entail k (ground whole common l.formula) concl ∷ []) 11 (deepest (whole ∷ common ∷ l.formula ∷ concl ∷ []) [] + 3) k t

  abbrev pub Boxed : Tree → Type 0
  Boxed t = Moves k (length (parts w.goal)) whole (view.Pers common) t

  abbrev pub ByPremises : List Formula → Tree → Type 0
  ByPremises ps t = Reaches k whole common concl l.formula ps t

  abbrev count : ℕ
  count = 100 * length (work_parts w) + 111

  abbrev deep : ℕ
  deep = height w + 14

  pub box_hole : (rule boxed : Tree) → RuleProves rule → Boxed boxed → slice_get (holes_of rule) 0 ≡ Some (conclusion boxed)
  box_hole rule boxed p b = ap (λ hs. slice_get hs 0) p.holes ∙ ap Some (sym b.concludes)

  filled : (rule boxed t : Tree) → RuleProves rule → Boxed boxed → FillProves rule 0 boxed t → Proves Every (entail k (view.Sep part whole) concl) (entail k (ground whole common l.formula) concl ∷ []) count deep (width w) t
  filled rule boxed t p b fills =
      let e = entail k (view.Sep part whole) concl in
      let h = entail k whole (view.Pers common) in
      let g = entail k (ground whole common l.formula) concl in
      let n = 100 * (length (parts w.goal) + 1) in
      let p1 : Proves Every e (h ∷ g ∷ []) 11 deep (width w) rule = weaker Every e (h ∷ g ∷ []) 11 (deepest (whole ∷ common ∷ l.formula ∷ concl ∷ []) [] + 3) k 11 deep (width w) rule (omega arith) (omega (arith, low)) (omega arith) p in
      let b1 : Proves Every (conclusion boxed) [] n deep (width w) boxed = subst (λ x. Proves Every x [] n deep (width w) boxed) (sym b.concludes) (weaker Every h [] n (star_room whole (view.Pers common)) k n deep (width w) boxed (omega arith) (omega (arith, goal_deep w, shared_deep w, depth_box common)) (omega arith) b) in
      let scope : ScopedWhere e (g ∷ []) h = λ preds es gs. let x = (scoped_sep preds k part whole es.0).1 in (x, box_scoped preds k common (shared_scoped preds k w.goal x)) in
      let all : Proves Every e (g ∷ []) (11 + n) deep (width w) t = fills Every e (h ∷ g ∷ []) [] 11 n deep (width w) p1 b1 (subst (λ x. ScopedWhere e (g ∷ []) x) (sym b.concludes) scope) in
      weaker Every e (g ∷ []) (11 + n) deep (width w) count deep (width w) t (omega (arith, length-append (parts w.goal) (held_parts w.held))) (omega arith) (omega arith) all

  pub by_hole : (rule boxed t by : Tree) (ps : List Formula) → RuleProves rule → Boxed boxed → FillProves rule 0 boxed t → ByPremises ps by → slice_get (holes_of t) 0 ≡ Some (conclusion by)
  by_hole rule boxed t by ps p b fills r = ap (λ hs. slice_get hs 0) (filled rule boxed t p b fills).holes ∙ ap Some (sym r.concludes)

  pub in_context : (rule boxed t u by : Tree) → RuleProves rule → Boxed boxed → FillProves rule 0 boxed t → FillProves t 0 by u → IsInContext w l by u
  in_context rule boxed t u by p b fills fills1 ps r =
      let e = entail k (view.Sep part whole) concl in
      let g = entail k (ground whole common l.formula) concl in
      let gs = wanted_of w ps in
      let m = steps_for (nodes_of l.formula) in
      let made = filled rule boxed t p b fills in
      let r1 : Proves Every (conclusion by) gs m deep (width w) by = subst (λ x. Proves Every x gs m deep (width w) by) (sym r.concludes) (weaker Every g gs m (deepest (whole ∷ common ∷ l.formula ∷ concl ∷ []) [] + 8) (k + depth_of l.formula) m deep (width w) by (omega arith) (omega (arith, low)) (omega (arith, last_depth w l is)) r) in
      let scope : ScopedWhere e (splice (g ∷ []) 0 gs) g = λ preds es hs.
      let both = scoped_sep preds k part whole es.0 in
      (sep_scoped preds k (view.Sep whole (view.Pers common)) l.formula (sep_scoped preds k whole (view.Pers common) both.1 (box_scoped preds k common (shared_scoped preds k w.goal both.1))) (unboxed_scoped preds k l.kind l.formula both.0), es.1) in
      let all : Proves Every e (splice (g ∷ []) 0 gs) (count + m) deep (width w) u = fills1 Every e (g ∷ []) gs count m deep (width w) made r1 (subst (λ x. ScopedWhere e (splice (g ∷ []) 0 gs) x) (sym r.concludes) scope) in
      weaker Every e gs (count + m) deep (width w) (m + 100 * length (work_parts w) + 111) deep (width w) u (omega arith) (omega arith) (omega arith) (subst (λ hs. Proves Every e hs (count + m) deep (width w) u) (append-nil gs) all)

  -- ---- from the star of the work

  abbrev InContext : List Formula → Tree → Type 0
  InContext ps t = Proves Every (entail k (view.Sep part whole) concl) (wanted_of w ps) (steps_for (nodes_of l.formula) + 100 * length (work_parts w) + 111) deep (width w) t

  pub open_meets : (moved inner by : Tree) (ps : List Formula) → IsBeside w part moved → ByPremises ps by → IsInContext w l by inner → (conclusion inner).left ≡ (conclusion moved).right
  open_meets moved inner by ps b r i = ap (λ (e : Entail). e.left) (i ps r).concludes ∙ sym (ap (λ (e : Entail). e.right) b.proves.concludes)

  pub open_vars : (moved inner by : Tree) (ps : List Formula) → IsBeside w part moved → ByPremises ps by → IsInContext w l by inner → (conclusion inner).vars ≡ (conclusion moved).vars
  open_vars moved inner by ps b r i = ap (λ (e : Entail). e.vars) (i ps r).concludes ∙ sym (ap (λ (e : Entail). e.vars) b.proves.concludes)

  pub opens : (moved inner by t : Tree) → IsBeside w part moved → IsInContext w l by inner → ChainProves moved inner t → IsOpened w l by t
  opens moved inner by t b i0 chain ps r =
      let i : InContext ps inner = i0 ps r in
      let x = left_of_work w in
      let y = view.Sep part whole in
      let gs = wanted_of w ps in
      let n = length w.held * (100 * length (work_parts w) + 101) in
      let m = steps_for (nodes_of l.formula) + 100 * length (work_parts w) + 111 in
      let b1 : Proves Every (conclusion moved) [] n deep (width w) moved = subst (λ e. Proves Every e [] n deep (width w) moved) (sym b.proves.concludes) (weaker Every (entail k x y) [] n (height w + 10) k n deep (width w) moved (omega arith) (omega arith) (omega arith) b.proves) in
      let i1 : Proves Every (conclusion inner) gs m deep (width w) inner = subst (λ e. Proves Every e gs m deep (width w) inner) (sym i.concludes) i in
      let over : across moved inner ≡ meaning w = ap₂ (λ (e f : Entail). entail e.vars e.left f.right) b.proves.concludes i.concludes in
      let scope : ScopedWhere (across moved inner) gs (conclusion moved) =
      subst (λ e. ScopedWhere e gs (conclusion moved)) (sym over) (subst (λ e. ScopedWhere (meaning w) gs e) (sym b.proves.concludes) (λ preds es hs. (es.0, b.scoped preds es.0))) in
      let all : Proves Every (across moved inner) gs (n + m + 1) deep (width w) t = chain Every [] gs n m deep (width w) b1 i1 scope in
      weaker Every (meaning w) gs (n + m + 1) deep (width w) (steps_for (nodes_of l.formula) + 100 * length (work_parts w) + 112 + n) deep (width w) t (omega arith) (omega arith) (omega arith) (subst (λ e. Proves Every e gs (n + m + 1) deep (width w) t) over all)

-- ---- of copies of the stars

abbrev RuleAt : ℕ → (whole common : Formula) → Work → Held → Tree → Type 0
RuleAt k x y w l t = Proves Every (entail k (view.Sep (of_kind l.kind l.formula) x) w.goal.concl) (entail k x (view.Pers y) ∷ entail k (ground x y l.formula) w.goal.concl ∷ []) 11 (deepest (x ∷ y ∷ l.formula ∷ w.goal.concl ∷ []) [] + 3) k t

pub rule_known : (w : Work) (l : Held) (is : IsLast w l) (k : ℕ) (x y : Formula) (t : Tree) → k ≡ length w.goal.vars → x ≡ left_of w.goal → y ≡ shared_star w.goal → RuleAt k x y w l t → RuleProves w l is t
rule_known w l is k x y t vars whole common p =
    subst (λ n. RuleAt n (left_of w.goal) (shared_star w.goal) w l t) vars (subst (λ f. RuleAt k f (shared_star w.goal) w l t) whole (subst (λ g. RuleAt k x g w l t) common p))

abbrev pub SomePremises : Work → (whole common r : Formula) → Tree → Type 0
SomePremises w x y r t = (ps : List Formula) × Reaches (length w.goal.vars) x y w.goal.concl r ps t

pub premises_known : (w : Work) (l : Held) (x y : Formula) (t : Tree) → x ≡ left_of w.goal → y ≡ shared_star w.goal → SomePremises w x y l.formula t → SomePremises w (left_of w.goal) (shared_star w.goal) l.formula t
premises_known w l x y t whole common p = subst (λ f. SomePremises w f (shared_star w.goal) l.formula t) whole (subst (λ g. SomePremises w x g l.formula t) common p)

pub answer_known : (w : Work) (l : Held) (k : ℕ) (x y : Formula) (o : Option Reached) → k ≡ length w.goal.vars → x ≡ left_of w.goal → y ≡ shared_star w.goal → ReachAnswer k x y w.goal.concl l.formula o → ReachAnswer (length w.goal.vars) (left_of w.goal) (shared_star w.goal) w.goal.concl l.formula o
answer_known w l k x y o vars whole common a =
    subst (λ n. ReachAnswer n (left_of w.goal) (shared_star w.goal) w.goal.concl l.formula o) vars (subst (λ f. ReachAnswer k f (shared_star w.goal) w.goal.concl l.formula o) whole (subst (λ g. ReachAnswer k x g w.goal.concl l.formula o) common a))

pub some_premises : (w : Work) (l : Held) (x y : Formula) (a : Reached) → ReachAnswer (length w.goal.vars) x y w.goal.concl l.formula (Some a) → SomePremises w x y l.formula a.proof
some_premises w l x y a answer = let found = is_reached (length w.goal.vars) x y w.goal.concl l.formula a answer in (found.0, found.2.proof)

-- ---- the bound on the rules

turned : (a b : ℕ) → suc a * b ≡ b + a * b
turned a b = omega arith

flipped : (a b : ℕ) → a * b ≡ b * a
flipped zero b = omega (arith, none b)
  where
    none : (b : ℕ) → b * 0 ≡ 0
    none b = omega arith
flipped (suc a) b = omega (arith, flipped a b, more b a)
  where
    more : (b a : ℕ) → b * suc a ≡ b + b * a
    more b a = omega arith

products : (a b c d : ℕ) → a ≤ c → b ≤ d → a * b ≤ c * d
products a b c d le le1 = omega (arith, times_grow a b d le1, times_grow d a c le, flipped a d, flipped c d)

hundreds : (a b : ℕ) → a * (101 * b) ≡ 101 * (a * b)
hundreds zero b = omega arith
hundreds (suc a) b = omega (arith, hundreds a b, turned a (101 * b), turned a b)

enough_rules : (s n m h : ℕ) → n ≤ s → m ≤ s → h ≤ s → steps_for n + 100 * m + 112 + h * (100 * m + 101) ≤ rules_within s
enough_rules s n m h le le1 le2 =
    let q = suc s * suc s in
    let wands : n * suc n ≤ q = products n (suc n) (suc s) (suc s) (omega (arith, le)) (omega (arith, le)) in
    let held : h * (100 * m + 101) ≤ suc s * (101 * suc s) = products h (100 * m + 101) (suc s) (101 * suc s) (omega (arith, le2)) (omega (arith, le1)) in
    let once : suc s ≤ q = omega (arith, turned s (suc s)) in
    omega (arith, steps_within n, wands, held, hundreds (suc s) (suc s), once, le1)

-- ---- what is answered

abbrev apply_row : Work → Option (List Formula) → Outcome
apply_row w o = require_entry o ConclusionNotReached (λ ps. gives (premise_goals w.goal ps))

row_is : (w : Work) (l : Held) → IsLast w l → table.apply w ≡ apply_row w (premises w.goal.concl l.formula)
row_is w l is = with_last_is w (λ hand. require_entry (premises w.goal.concl hand.last.formula) ConclusionNotReached (λ ps. gives (premise_goals w.goal ps))) l is

pub applied : (w : Work) (l : Held) (x : Reached) (places : List Place) (t : Tree) (r : Result (Parts Place) StepFault) → IsLast w l
    → ReachAnswer (length w.goal.vars) (left_of w.goal) (shared_star w.goal) w.goal.concl l.formula (Some x) → places ≡ premise_goals w.goal (reverse x.premises) → IsOpened w l x.proof t → Ends places t r
    → Answers (all_nodes (work_formulas w)) w (limited (table.apply w)) r
applied w l x places t r is answer made opened ends =
    let s = all_nodes (work_formulas w) in
    let found = is_reached (length w.goal.vars) (left_of w.goal) (shared_star w.goal) w.goal.concl l.formula x answer in
    let ps = found.0 in
    let places_are : places ≡ premise_goals w.goal ps = made ∙ ap (premise_goals w.goal) found.2.premises in
    let n = steps_for (nodes_of l.formula) + 100 * length (work_parts w) + 112 + length w.held * (100 * length (work_parts w) + 101) in
    let p : Proves Every (meaning w) (wanted_of w ps) n (height w + 14) (width w) t = opened ps found.2.proof in
    let mean : wanted_of w ps ≡ meanings places = sym (mean_wanted w.goal ps) ∙ ap meanings (sym places_are) in
    let held_few : length w.held ≤ length (work_parts w) = omega (arith, length-append (parts w.goal) (held_parts w.held), held_count w.held) in
    let fits : n ≤ rules_within s = enough_rules s (nodes_of l.formula) (length (work_parts w)) (length w.held) (last_nodes w l is) (omega (arith, parts_nodes w)) (omega (arith, held_few, parts_nodes w)) in
    let acted : IsActed s w places t = weaker Every (meaning w) (meanings places) n (height w + 14) (width w) (rules_within s) (room w places) (width w) t fits (omega arith) (omega arith) (subst (λ hs. Proves Every (meaning w) hs n (height w + 14) (width w) t) mean p) in
    subst (λ o. Answers s w (limited o) r) (ap gives places_are ∙ ap (apply_row w) (sym found.1) ∙ sym (row_is w l is)) (ends s w acted)
  where
    held_count : (hs : List Held) → length hs ≤ length (held_parts hs)
    held_count [] = omega arith
    held_count (h ∷ hs) = omega (arith, held_count hs)

pub not_applied : (w : Work) (l : Held) (f : StepFault) → IsLast w l → ReachAnswer (length w.goal.vars) (left_of w.goal) (shared_star w.goal) w.goal.concl l.formula None
    → f ≡ fault.Refused (plainly ConclusionNotReached) → Answers (all_nodes (work_formulas w)) w (limited (table.apply w)) (Err f)
not_applied w l f is answer e =
    let none = not_reached (length w.goal.vars) (left_of w.goal) (shared_star w.goal) w.goal.concl l.formula answer in
    subst (λ o. Answers (all_nodes (work_formulas w)) w (limited o) (Err f)) (ap (apply_row w) (sym none) ∙ sym (row_is w l is)) (rw e refl)
