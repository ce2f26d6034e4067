-- Examples, each computed.
use Rattle.std.specs.Prelude.{◌≡◌, ℕ, pos, false, codes, List, [], ◌∷◌, Some, None}
use Rattle.std.proofs.Common.{refl}
use Rattle.pm_logic.specs.declared.formula.Term.{Term}
use Rattle.pm_logic.specs.declared.formula.Term.TheVariants.{Lit, Var}
use Rattle.pm_logic.specs.declared.formula.Pure.TheVariants.{False, Eq, Le, Lt}
use Rattle.pm_logic.specs.declared.formula.Formula.{Formula}
use Rattle.pm_logic.specs.declared.formula.Formula.TheVariants.{Pure as Fact, Pts, Call}
use Rattle.pm_logic.specs.declared.formula.Preds.{Preds}
use Rattle.pm_logic.specs.declared.formula.TheConstants.{UNIT}
use Rattle.pm_logic.specs.Trees.{add, scale, Sep, Wand, And, Or, All, Ex, Later, Pers, Upd}
use Rattle.pm_logic.specs.Abstraction.{term_eq, new_index_or, abstracted}
use Rattle.pm_logic.specs.Changes.{changed, changed_pure}
use Rattle.pm_logic.specs.Substitution.{in_term, in_pure, in_formula, raised_by}
use Rattle.pm_logic.specs.Size.{nodes_of, pure_nodes, term_nodes, terms_nodes}
use Rattle.pm_rules.specs.Linear.{coefficient_of, constant_of, atom}
use Rattle.pm_goal.specs.declared.goal.Hyp.{Hyp}
use Rattle.pm_goal.specs.declared.goal.Fact.{Fact as Known}
use Rattle.pm_goal.specs.declared.goal.Goal.{Goal}
use Rattle.pm_goal.specs.declared.work.Kind.TheVariants.{Int, Spat}
use Rattle.pm_goal.specs.declared.refusal.Row.TheVariants.{NoSuchHypothesis, NotFullPointsTo, NoCertificate, CertificateFails, CoefficientTooLarge}
use Rattle.pm_patterns.specs.declared.pattern.Spat.TheVariants as premise
use Rattle.pm_patterns.specs.declared.pattern.Cert.{Cert}
use Rattle.pm_classes.specs.Classes.{into_wand, into_forall, from_pure, combine}
use Rattle.pm_table.specs.Outcomes.{gives, closed, one, refuse, refuse_plain}
use Rattle.pm_table.specs.declared.place.Place.TheVariants.{Finished as finished}
use Rattle.pm_table.specs.Equality.{terms_eq, pure_eq, formula_eq}
use Rattle.pm_table.specs.Occurrences.{in_a_term, in_some_term, in_a_pure, in_a_formula}
use Rattle.pm_table.specs.Works.{Named, hyp, fact, holding, work_of}
use Rattle.pm_table.specs.Basic.{gives_goal}
use Rattle.pm_table.specs.Modalities.{under_later, under_box, under_update, without_later, passed, modality_of, head_intro, next, elim_update}
use Rattle.pm_table.specs.Framing.{truth, star, conjunction, disjunction, above, whole, fewer_units, frame}
use Rattle.pm_table.specs.Heap.{full_location, combine_held, write, allocate}
use Rattle.pm_table.specs.Loeb.{body_of_call, loeb, unfold_call}
use Rattle.pm_table.specs.Rewriting.{equation_of, rewrite, pure_intro}
use Rattle.pm_table.specs.Terms.{by_pattern, with_term, with_spat, premises_before, apply, assert}
use Rattle.pm_table.specs.Linears.{indices, is_small, are_small, turned, conjuncts, linear_conclusion, linear, linear_with}

abbrev lit : ℕ → Term
lit n = Lit (pos n)

-- l ↦ v, and half of it
abbrev pts : ℕ → ℕ → Formula
pts l v = Pts (lit l) UNIT (lit v)

abbrev half : ℕ → ℕ → Formula
half l v = Pts (lit l) 360360 (lit v)

abbrev three_quarters : ℕ → ℕ → Formula
three_quarters l v = Pts (lit l) 540540 (lit v)

abbrev P : Formula
P = pts 1 2

abbrev Q : Formula
Q = pts 3 4

-- ---- framing

pub record FramingExamples : Type 0 where
  pub second_of_star : frame P (Sep Q P) ≡ Some Q
  pub itself : frame Q Q ≡ Some truth
  pub half_of_whole : frame (half 1 2) P ≡ Some (half 1 2)
  pub not_more : frame (three_quarters 1 2) (half 1 2) ≡ None
  pub not_both_of_star : frame P (Sep P P) ≡ Some P
  pub both_of_and : frame P (And (Sep P Q) (Sep Q P)) ≡ Some (And Q Q)
  pub one_of_and : frame P (And Q P) ≡ Some Q
  pub one_of_or : frame P (Or Q P) ≡ Some truth
  pub under_later : frame P (Later (Sep P Q)) ≡ Some (Later Q)
  pub later_under_later : frame (Later P) (Later (Sep P Q)) ≡ Some (Later Q)
  pub later_in_later : frame (Later P) (Later (Sep (Later P) Q)) ≡ Some (Later Q)
  pub under_binder : frame (Pts (Var 0) UNIT (lit 2)) (Ex (Sep (Pts (Var 1) UNIT (lit 2)) (Pts (Var 0) UNIT (lit 2)))) ≡ Some (Ex (Pts (Var 0) UNIT (lit 2)))
  pub in_wand : frame P (Wand P P) ≡ Some truth
  pub not_under_box : frame P (Pers P) ≡ None

pub framing : FramingExamples
unfolding frame star conjunction disjunction above whole fewer_units under_later formula_eq pure_eq terms_eq term_eq in_formula in_pure in_term
framing = record {
  second_of_star = refl;
  itself = refl;
  half_of_whole = refl;
  not_more = refl;
  not_both_of_star = refl;
  both_of_and = refl;
  one_of_and = refl;
  one_of_or = refl;
  under_later = refl;
  later_under_later = refl;
  later_in_later = refl;
  under_binder = refl;
  in_wand = refl;
  not_under_box = refl;
}

-- ---- goals

abbrev goal_of : List Named → List Known → List Hyp → List Hyp → Formula → Goal
goal_of vars facts ints spats c = record { vars = vars; pures = facts; ints = ints; spats = spats; concl = c }

abbrev from_spatial : List Hyp → Formula → Goal
from_spatial spats c = goal_of [] [] [] spats c

abbrev A : Named
A = codes "A"

abbrev B : Named
B = codes "B"

abbrev C : Named
C = codes "C"

abbrev H : Named
H = codes "H"

abbrev IH : Named
IH = codes "IH"

abbrev Hs : Named
Hs = codes "Hs"

abbrev Hl : Named
Hl = codes "Hl"

abbrev E : Named
E = codes "E"

abbrev l : Named
l = codes "l"

-- ---- the heap, updates and boxes

pub record HeapExamples : Type 0 where
  pub too_much_together : combine_held A B (from_spatial (hyp A (three_quarters 5 1) ∷ hyp B (half 5 2) ∷ []) (Fact False)) ≡ closed
  pub two_halves : combine_held A B (from_spatial (hyp A (half 5 1) ∷ hyp B (half 5 1) ∷ []) (pts 5 1)) ≡ one (work_of (from_spatial [] (pts 5 1)) (holding Spat (pts 5 1) ∷ []))
  pub written : write H (lit 2) (from_spatial (hyp H (pts 7 1) ∷ []) (Upd Q)) ≡ gives_goal (from_spatial (hyp H (pts 7 2) ∷ []) (Upd Q))
  pub half_not_written : write H (lit 2) (from_spatial (hyp H (half 7 1) ∷ []) (Upd Q)) ≡ refuse_plain NotFullPointsTo
  pub allocated : allocate (lit 9) l (from_spatial (hyp H P ∷ []) (Upd Q)) ≡ one (work_of (goal_of (l ∷ []) [] [] (hyp H P ∷ []) (Upd Q)) (holding Spat (Pts (Var 0) UNIT (lit 9)) ∷ []))
  pub updated : elim_update (work_of (from_spatial [] (Upd P)) (holding Spat (Upd P) ∷ [])) ≡ one (work_of (from_spatial [] (Upd P)) (holding Spat P ∷ []))
  pub box_clears : head_intro (from_spatial (hyp H P ∷ []) (Pers truth)) ≡ gives_goal (from_spatial [] truth)
  pub later_transforms : next (goal_of [] [] (hyp IH (Later P) ∷ []) (hyp H (Sep (Later P) Q) ∷ []) (Later Q)) ≡ gives_goal (goal_of [] [] (hyp IH P ∷ []) (hyp H (Sep P Q) ∷ []) Q)

pub heap : HeapExamples
unfolding full_location combine term_eq under_update under_box under_later without_later passed modality_of in_formula in_pure in_term
heap = record { too_much_together = refl; two_halves = refl; written = refl; half_not_written = refl; allocated = refl; updated = refl; box_clears = refl; later_transforms = refl }

-- ---- induction, predicates, application

-- inf(l) := ∃ v, l ↦ v ∗ ▷ inf(l + 1), and another predicate
abbrev inf : Term → Formula
inf t = Call 0 (t ∷ [])

abbrev inf2 : Term → Formula
inf2 t = Call 1 (t ∷ [])

abbrev inf_body : Term → Term → Formula
inf_body at_v next_at_v = Ex (Sep (Pts at_v UNIT (Var 0)) (Later (inf next_at_v)))

abbrev preds : Preds
preds = record { list = record { name = codes "inf"; arity = 1; body = inf_body (Var 1) (add (Var 1) (lit 1)) } ∷ record { name = codes "inf2"; arity = 1; body = truth } ∷ [] }

abbrev split : Formula
split = All (Wand (inf (Var 0)) (inf2 (Var 0)))

abbrev further : Term
further = add (Var 0) (lit 1)

-- in hand is ∀ l, inf(l) -∗ inf2(l), or what is left of it, and Hs is inf(l + 1)
abbrev applying : Formula → Goal
applying c = goal_of (l ∷ []) [] [] (hyp Hs (inf further) ∷ []) c

pub record TermExamples : Type 0 where
  pub induction : loeb IH (from_spatial [] split) ≡ gives_goal (goal_of [] [] (hyp IH (Later split) ∷ []) [] split)
  pub induction_over_spatial : loeb IH (from_spatial (hyp H P ∷ []) Q) ≡ gives_goal (goal_of [] [] (hyp IH (Later (Wand P Q)) ∷ []) (hyp H P ∷ []) Q)
  pub unfolded : unfold_call preds (Some H) (goal_of (l ∷ []) [] [] (hyp H (inf (Var 0)) ∷ []) Q) ≡ gives_goal (goal_of (l ∷ []) [] [] (hyp H (inf_body (Var 1) (add (Var 1) (lit 1))) ∷ []) Q)
  pub opened : with_term further (work_of (applying (inf2 further)) (holding Int split ∷ [])) ≡ one (work_of (applying (inf2 further)) (holding Int (Wand (inf further) (inf2 further)) ∷ []))
  pub premise_met : with_spat (premise.Name Hs) (work_of (applying (inf2 further)) (holding Int (Wand (inf further) (inf2 further)) ∷ [])) ≡ one (work_of (goal_of (l ∷ []) [] [] [] (inf2 further)) (holding Spat (inf2 further) ∷ []))
  pub premise_gone : with_spat (premise.Name Hl) (work_of (applying (inf2 further)) (holding Int (Wand (inf further) (inf2 further)) ∷ [])) ≡ refuse NoSuchHypothesis Hl
  pub applied : apply (work_of (applying (inf2 further)) (holding Int (Wand (inf further) (inf2 further)) ∷ [])) ≡ gives (finished (applying (inf further)) ∷ [])
  pub applied_at_once : apply (work_of (applying (inf2 further)) (holding Spat (inf2 further) ∷ [])) ≡ closed
  pub closed_premise : assert truth premise.Done (work_of (from_spatial (hyp H P ∷ []) P) []) ≡ one (work_of (from_spatial (hyp H P ∷ []) P) (holding Spat truth ∷ []))

pub terms : TermExamples
unfolding body_of_call by_pattern premises_before into_forall into_wand formula_eq pure_eq terms_eq term_eq nodes_of pure_nodes term_nodes terms_nodes in_formula in_pure in_term
terms = record { induction = refl; induction_over_spatial = refl; unfolded = refl; opened = refl; premise_met = refl; premise_gone = refl; applied = refl; applied_at_once = refl; closed_premise = refl }

-- ---- arithmetic and equations

abbrev x : Term
x = Var 2

abbrev y : Term
y = Var 1

abbrev z : Term
z = Var 0

-- x ≤ n * y + z, y ≤ 3 and z ≤ 0
abbrev bounded : ℕ → List Known
bounded n = fact A (Le x (add (scale (pos n) y) z)) ∷ fact B (Le y (lit 3)) ∷ fact C (Le z (lit 0)) ∷ []

abbrev below : ℕ → ℕ → Goal
below n m = goal_of (codes "x" ∷ codes "y" ∷ codes "z" ∷ []) (bounded n) [] [] (Fact (Le x (lit m)))

-- 1*A b*B 1*C 1*⊢
abbrev cert : ℕ → Cert
cert b = record { goal = pos 1; facts = record { factor = pos 1; fact = A } ∷ record { factor = pos b; fact = B } ∷ record { factor = pos 1; fact = C } ∷ [] }

pub record LinearExamples : Type 0 where
  pub in_the_box : linear (below 4 12) ≡ closed
  pub not_in_the_box : linear (below 5 15) ≡ refuse_plain NoCertificate
  pub given : linear_with (cert 5 ∷ []) (below 5 15) ≡ closed
  pub does_not_add_up : linear_with (cert 4 ∷ []) (below 5 15) ≡ refuse_plain CertificateFails
  pub too_large : linear (from_spatial [] (Fact (Lt (lit 0) (lit 9223372036854775807)))) ≡ refuse_plain CoefficientTooLarge
  pub rewritten : rewrite false E None (goal_of (codes "x" ∷ codes "y" ∷ []) (fact E (Eq (Var 1) (Var 0)) ∷ []) [] [] (inf (Var 1))) ≡ gives_goal (goal_of (codes "x" ∷ codes "y" ∷ []) (fact E (Eq (Var 1) (Var 0)) ∷ []) [] [] (inf (Var 0)))
  pub purely : pure_intro (from_spatial (hyp H P ∷ []) (Later (Fact (Le (lit 1) (lit 2))))) ≡ gives_goal (from_spatial [] (Fact (Le (lit 1) (lit 2))))

pub arithmetic : LinearExamples
unfolding indices is_small are_small turned conjuncts linear_conclusion atom coefficient_of constant_of equation_of from_pure changed changed_pure abstracted new_index_or raised_by term_eq in_formula in_pure in_term in_a_formula in_a_pure in_a_term in_some_term
arithmetic = record { in_the_box = refl; not_in_the_box = refl; given = refl; does_not_add_up = refl; too_large = refl; rewritten = refl; purely = refl }
