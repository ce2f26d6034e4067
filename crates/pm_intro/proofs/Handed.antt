-- Formulas of a work that is handed in: their nodes, depths and scopes.
use Rattle.std.proofs.Common.{◌≡◌, ℕ, zero, suc, ◌+◌, ◌-◌, ◌^◌, ◌<◌, ◌≤◌, max, List, [], ◌∷◌, ◌++◌, length, map, get_or, Some, refl, ◌∙◌, ap, subst, arith}
use Rattle.std.specs.List.{AllByRecursion}
use Rattle.std.proofs.lemmas.List.{map-append}
use Rattle.pm_logic.specs.declared.formula.Formula.{Formula}
use Rattle.pm_logic.specs.Scope.{ScopedIn}
use Rattle.pm_logic.specs.Size.{nodes_of, depth_of}
use Rattle.pm_goal.specs.declared.work.Held.{Held}
use Rattle.pm_goal.specs.declared.work.Work.{Work}
use Rattle.pm_goal.specs.Left.{facts, hyps}
use Rattle.pm_classes.specs.Entries.{IsHanded as IsFormulaHanded}
use Rattle.pm_table.specs.Limits.{formulas, work_formulas, all_nodes, greatest_depth, hypotheses}
use Rattle.pm_action.specs.Meanings.{height}
use Rattle.pm_action.specs.Acting.{IsHanded, IsLast, all_but_last}
use Rattle.pm_action.proofs.Sums.{nodes_append, depth_append}
use Rattle.pm_action.proofs.Heights.{concl_depth, parts_are}
use Rattle.pm_action.proofs.Filtered.{last_is}
use Rattle.pm_star.specs.Stars.{work_parts}
use Rattle.pm_table.specs.Works.{hand_of}
use Rattle.pm_action.proofs.Hands.{held_is}
use Rattle.pm_intro.specs.Hands.{rest}

pub all_parts : {A : Type 0} (P : A → Type 0) (xs ys : List A) → AllByRecursion P (xs ++ ys) → AllByRecursion P xs × AllByRecursion P ys
all_parts P [] ys a = (tt, a)
all_parts P (x ∷ xs) ys a = let r = all_parts P xs ys a.1 in ((a.0, r.0), r.1)

-- ---- the conclusion

pub concl_all : (P : Formula → Type 0) (w : Work) → AllByRecursion P (work_formulas w) → P w.goal.concl
concl_all P w a =
    let g = w.goal in
    let b = (all_parts P (formulas g) (map (λ (h : Held). h.formula) w.held) a).0 in
    let c = (all_parts P (facts g.pures) (hyps g.ints ++ (hyps g.spats ++ (g.concl ∷ []))) b).1 in
    let d = (all_parts P (hyps g.ints) (hyps g.spats ++ (g.concl ∷ [])) c).1 in
    (all_parts P (hyps g.spats) (g.concl ∷ []) d).1.0

pub concl_nodes : (w : Work) → nodes_of w.goal.concl ≤ all_nodes (work_formulas w)
concl_nodes w =
    let g = w.goal in
    let c : nodes_of g.concl ≤ all_nodes (g.concl ∷ []) = omega arith in
    omega (
      arith,
      c,
      nodes_append (formulas g) (map (λ (h : Held). h.formula) w.held),
      nodes_append (facts g.pures) (hyps g.ints ++ (hyps g.spats ++ (g.concl ∷ []))),
      nodes_append (hyps g.ints) (hyps g.spats ++ (g.concl ∷ [])),
      nodes_append (hyps g.spats) (g.concl ∷ []),
    )

pub concl_handed : (w : Work) → IsHanded w → IsFormulaHanded (length w.goal.vars) w.goal.concl
concl_handed w h = record {
  scoped = concl_all (ScopedIn (length w.goal.vars)) w h.scoped;
  within = omega (arith, h.shallow, concl_depth w);
}

-- ---- what is last in hand

module _ (w : Work) (l : Held) (is : IsLast w l) where
  abbrev pub others : List Held
  others = all_but_last w.held

  abbrev pub before : List Formula
  before = formulas w.goal ++ map (λ (h : Held). h.formula) others

  regroup : (fs gs hs : List Formula) → fs ++ (gs ++ hs) ≡ (fs ++ gs) ++ hs
  regroup [] gs hs = refl
  regroup (f ∷ fs) gs hs = ap (λ l. f ∷ l) (regroup fs gs hs)

  -- it stands behind the other formulas
  pub behind : work_formulas w ≡ before ++ (l.formula ∷ [])
  behind =
      ap (λ hs. formulas w.goal ++ map (λ (h : Held). h.formula) hs) (held_is w l is)
      ∙ ap (λ fs. formulas w.goal ++ fs) (map-append (λ (h : Held). h.formula) others (l ∷ []))
      ∙ regroup (formulas w.goal) (map (λ (h : Held). h.formula) others) (l.formula ∷ [])

  pub last_all : (P : Formula → Type 0) → AllByRecursion P (work_formulas w) → AllByRecursion P (work_formulas (rest w)) × P l.formula
  last_all P a = let b = all_parts P before (l.formula ∷ []) (subst (AllByRecursion P) behind a) in (b.0, b.1.0)

  pub last_nodes : all_nodes (work_formulas w) ≡ all_nodes (work_formulas (rest w)) + nodes_of l.formula
  last_nodes = let one : all_nodes (l.formula ∷ []) ≡ nodes_of l.formula = omega arith in ap all_nodes behind ∙ nodes_append before (l.formula ∷ []) ∙ ap (λ n. all_nodes before + n) one

  pub last_depth : greatest_depth (work_formulas w) ≡ max (greatest_depth (work_formulas (rest w))) (depth_of l.formula)
  last_depth = let one : greatest_depth (l.formula ∷ []) ≡ depth_of l.formula = omega arith in ap greatest_depth behind ∙ depth_append before (l.formula ∷ []) ∙ ap (λ n. max (greatest_depth before) n) one

  more : (hs : List Held) → length (hs ++ l ∷ []) ≡ suc (length hs)
  more [] = refl
  more (h ∷ hs) = ap suc (more hs)

  pub last_count : hypotheses w ≡ suc (hypotheses (rest w))
  last_count = omega (arith, ap length (held_is w l is), more others)

  pub rest_height : height (rest w) ≤ height w
  rest_height = omega (arith, last_depth, last_count)

  pub last_handed : IsHanded w → IsFormulaHanded (length w.goal.vars) l.formula
  last_handed h = record {
    scoped = (last_all (ScopedIn (length w.goal.vars)) h.scoped).1;
    within = omega (arith, h.shallow, last_depth);
  }

-- ---- something is in hand

defaults : (hs : List Held) (i : ℕ) (d e : Held) → i < length hs → get_or hs i d ≡ get_or hs i e
defaults [] i d e lt = absurd (omega (arith, lt))
defaults (h ∷ hs) zero d e lt = refl
defaults (h ∷ hs) (suc i) d e lt = defaults hs i d e (omega (arith, lt))

last_of : (hs : List Held) → 0 < length hs → (l : Held) × (hand_of hs ≡ Some (record { others = all_but_last hs; last = l }))
last_of [] some = absurd (omega (arith, some))
last_of (d ∷ ds) some = let h = get_or (d ∷ ds) (length (d ∷ ds) - 1) d in (h, last_is (d ∷ ds) h some (defaults (d ∷ ds) (length (d ∷ ds) - 1) d h (omega (arith, some))))

pub has_last : (w : Work) → 0 < length w.held → (l : Held) × IsLast w l
has_last w some = last_of w.held some

-- what is left, as code has it
pub rest_few : (w r : Work) → r ≡ rest w → IsHanded w → length r.goal.vars < 2 ^ 32
rest_few w r is h = omega (arith, ap (λ (x : Work). length x.goal.vars) is, h.few)

pub rest_small : (w r : Work) → 0 < length w.held → r ≡ rest w → IsHanded w → length (work_parts r) < 2 ^ 32
rest_small w r some is h =
    let l = has_last w some in
    omega (arith, ap (λ (x : Work). length (work_parts x)) is, parts_are (rest w), last_count w l.0 l.1, h.few)
