-- Scripts, each computed: its directives one after another, each on the first goal.
use Rattle.std.specs.Prelude.{◌≡◌, ℕ, pos, false, codes, List, [], ◌∷◌, ◌++◌, Some, None}
use Rattle.std.proofs.Common.{refl}
use Rattle.std.specs.Fmt.{digits}
use Rattle.pm_logic.specs.declared.formula.Term.{Term}
use Rattle.pm_logic.specs.declared.formula.Term.TheVariants.{Lit, Var}
use Rattle.pm_logic.specs.declared.formula.Pure.TheVariants.{True, False, Eq, Le, Lt}
use Rattle.pm_logic.specs.declared.formula.Formula.{Formula}
use Rattle.pm_logic.specs.declared.formula.Formula.TheVariants.{Pure as Assert, Pts, Call}
use Rattle.pm_logic.specs.declared.formula.Preds.{Preds}
use Rattle.pm_logic.specs.declared.formula.TheConstants.{UNIT}
use Rattle.pm_logic.specs.Trees.{add, Sep, Wand, Or, All, Ex, Later, Pers, Upd}
use Rattle.pm_logic.specs.Scope.{no_predicates}
use Rattle.pm_logic.specs.Abstraction.{term_eq, new_index_or, abstracted}
use Rattle.pm_logic.specs.Changes.{changed, changed_pure}
use Rattle.pm_logic.specs.Substitution.{in_term, in_pure, in_formula, raised_by}
use Rattle.pm_logic.specs.Size.{nodes_of, pure_nodes, term_nodes, terms_nodes, depth_of, pure_depth, term_depth, terms_depth}
use Rattle.pm_logic.specs.Classes.{IsPersistent}
use Rattle.pm_rules.specs.Linear.{coefficient_of, constant_of, atom}
use Rattle.pm_goal.specs.declared.goal.Goal.{Goal}
use Rattle.pm_goal.specs.declared.refusal.Row.TheVariants.{NoSuchHypothesis, NotFullPointsTo}
use Rattle.pm_goal.specs.declared.refusal.Refusal.{Refusal}
use Rattle.pm_goal.specs.Refusals.{refusal}
use Rattle.pm_patterns.specs.declared.pattern.Head.TheVariants as head
use Rattle.pm_patterns.specs.declared.pattern.Spat.{Spat}
use Rattle.pm_patterns.specs.declared.pattern.Spat.TheVariants as premise
use Rattle.pm_patterns.specs.declared.pattern.ProofTerm.{ProofTerm}
use Rattle.pm_patterns.specs.declared.pattern.Pat.{Pat}
use Rattle.pm_patterns.specs.declared.pattern.Pat.TheVariants as pat
use Rattle.pm_patterns.specs.Patterns.{Pair, Either, Int}
use Rattle.pm_script.specs.declared.directive.Directive.{Directive}
use Rattle.pm_script.specs.declared.directive.Directive.TheVariants as d
use Rattle.pm_classes.specs.Persistence.{persistence}
use Rattle.pm_classes.specs.Classes.{into_and, into_sep, into_or, into_exist, into_forall, into_wand, into_pure, from_pure, into_persistent, combine}
use Rattle.pm_table.specs.Equality.{terms_eq, pure_eq, formula_eq}
use Rattle.pm_table.specs.Occurrences.{in_a_term, in_some_term, in_a_pure, in_a_formula}
use Rattle.pm_table.specs.Works.{Named, hyp}
use Rattle.pm_table.specs.Modalities.{under_later, under_box, under_update, without_later, passed, modality_of}
use Rattle.pm_table.specs.Framing.{star as star_rest, conjunction, disjunction, above, whole, fewer_units, frame}
use Rattle.pm_table.specs.Heap.{full_location}
use Rattle.pm_table.specs.Loeb.{body_of_call}
use Rattle.pm_table.specs.Rewriting.{equation_of}
use Rattle.pm_table.specs.Terms.{by_pattern, premises_before}
use Rattle.pm_table.specs.Linears.{indices, is_small, are_small, turned, conjuncts, linear_conclusion}
use Rattle.pm_table.specs.Patterns.{destruct, intro}
use Rattle.pm_table.specs.Directives.{Stepped, goals, refused, step}

-- the goals that are left, or the refusal that ends the script
pub data Played : Type 0 where
  leaves : (goals : List Goal) → Played
  ends : (refusal : Refusal) → Played

abbrev pub played_on : Stepped → List Goal → (List Goal → Played) → Played
played_on (goals new) gs rest = rest (new ++ gs)
played_on (refused r) gs rest = ends r

abbrev pub play : Preds → List Directive → List Goal → Played
play preds [] gs = leaves gs
play preds (s ∷ ss) [] = leaves []
play preds (s ∷ ss) (g ∷ gs) = played_on (step preds (record { list = [] }) g s) gs (play preds ss)

abbrev pub opening_goal : Formula → Goal
opening_goal f = record { vars = []; pures = []; ints = []; spats = []; concl = f }

-- the directives on the goal that a lemma opens
abbrev pub proof : Preds → Formula → List Directive → Played
proof preds f ss = play preds ss (opening_goal f ∷ [])

abbrev pub proved : Played
proved = leaves []

abbrev pub refused_by : Refusal → Played
refused_by r = ends r

-- ---- spelling

abbrev n : ℕ → Term
n i = Lit (pos i)

abbrev cell : ℕ → ℕ → Formula
cell l v = Pts (n l) UNIT (n v)

abbrev three_quarters : ℕ → ℕ → Formula
three_quarters l v = Pts (n l) 540540 (n v)

abbrev half : ℕ → ℕ → Formula
half l v = Pts (n l) 360360 (n v)

abbrev term : List ℕ → List Term → List Spat → ProofTerm
term h ts ss = record { head = head.Hyp h; terms = ts; spats = ss }

abbrev A : Named
A = codes "A"

abbrev B : Named
B = codes "B"

abbrev C : Named
C = codes "C"

abbrev E : Named
E = codes "E"

abbrev H : Named
H = codes "H"

abbrev H1 : Named
H1 = codes "H1"

abbrev H2 : Named
H2 = codes "H2"

abbrev K : Named
K = codes "K"

abbrev IH : Named
IH = codes "IH"

abbrev l : Named
l = codes "l"

abbrev v : Named
v = codes "v"

abbrev x : Named
x = codes "x"

abbrev y : Named
y = codes "y"

abbrev z : Named
z = codes "z"

abbrev Hl : Named
Hl = codes "Hl"

abbrev Hs : Named
Hs = codes "Hs"

abbrev names : Named → Named → Pat
names h k = Pair (pat.Name h) (pat.Name k)

-- ---- predicates

-- ∃ v, l ↦ v ∗ ▷ inf(l + 1)
abbrev inf : Formula
inf = Ex (Sep (Pts (Var 1) UNIT (Var 0)) (Later (Call 0 (add (Var 1) (n 1) ∷ []))))

-- ∃ v, (l ↦{1/2} v ∗ l ↦{1/2} v) ∗ ▷ inf2(l + 1)
abbrev inf2 : Formula
inf2 = Ex (Sep (Sep (Pts (Var 1) 360360 (Var 0)) (Pts (Var 1) 360360 (Var 0))) (Later (Call 1 (add (Var 1) (n 1) ∷ []))))

-- ⌜x = y⌝ ∨ (∃ v n, x ↦ v ∗ (x + 1) ↦ n ∗ ▷ lseg(n, y))
abbrev lseg : Formula
lseg = Or (Assert (Eq (Var 0) (Var 1))) (Ex (Ex (Sep (Pts (Var 2) UNIT (Var 1)) (Sep (Pts (add (Var 2) (n 1)) UNIT (Var 0)) (Later (Call 0 (Var 0 ∷ Var 3 ∷ [])))))))

abbrev lists : Preds
lists = record { list = record { name = codes "inf"; arity = 1; body = inf } ∷ record { name = codes "inf2"; arity = 1; body = inf2 } ∷ [] }

abbrev segments : Preds
segments = record { list = record { name = codes "lseg"; arity = 2; body = lseg } ∷ [] }

-- ---- scripts

abbrev split_inf : List Directive
split_inf =
    d.Loeb IH
    ∷ d.Intros (pat.PureName l ∷ pat.Name H ∷ [])
    ∷ d.Unfold (Some H)
    ∷ d.Destruct (term H [] []) (Pair (pat.PureName v) (names Hl Hs))
    ∷ d.Unfold None
    ∷ d.Exists (Var 0 ∷ [])
    ∷ d.SplitL (Some (Hl ∷ []))
    ∷ d.Destruct (term Hl [] []) (names A B)
    ∷ d.Frame None
    ∷ []

abbrev by_induction : List Directive
by_induction = d.Apply (term IH (add (Var 1) (n 1) ∷ []) (premise.Name Hs ∷ [])) ∷ []

abbrev by_other : List Directive
by_other = d.Apply (term IH (add (Var 1) (n 1) ∷ []) (premise.Name Hl ∷ [])) ∷ []

abbrev append : List Directive
append =
    d.Loeb IH
    ∷ d.Intros (pat.PureName x ∷ pat.PureName y ∷ pat.PureName z ∷ pat.Name H1 ∷ pat.Name H2 ∷ [])
    ∷ d.Unfold (Some H1)
    ∷ d.Destruct (term H1 [] []) (Either (pat.PureName E) (pat.Name H1))
    ∷ d.Rewrite false E None
    ∷ d.Exact H2
    ∷ d.Destruct (term H1 [] []) (Pair (pat.PureName v) (Pair (pat.PureName (codes "n")) (Pair (pat.Name (codes "Hx")) (names (codes "Hn") (codes "Ht")))))
    ∷ d.Unfold None
    ∷ d.Right
    ∷ d.Exists (Var 1 ∷ Var 0 ∷ [])
    ∷ d.Frame None
    ∷ d.Next
    ∷ d.Apply (term IH (Var 0 ∷ Var 3 ∷ Var 2 ∷ []) (premise.Name (codes "Ht") ∷ premise.Name H2 ∷ []))
    ∷ []

abbrev swap : Formula
swap = Wand (Sep (cell 1 2) (cell 3 4)) (Sep (cell 3 4) (cell 1 2))

abbrev kept : Formula
kept = Wand (Sep (cell 1 2) (cell 3 4)) (Sep (cell 1 2) (cell 3 4))

-- ∀ y, (∀ x, ∃ z, ⌜x < z⌝) -∗ ∃ z, ⌜y + 1 < z⌝
abbrev above_next : Formula
above_next = All (Wand (All (Ex (Assert (Lt (Var 1) (Var 0))))) (Ex (Assert (Lt (add (Var 1) (n 1)) (Var 0)))))

abbrev next_goal : Goal
next_goal = record { vars = y ∷ []; pures = []; ints = []; spats = hyp H (Ex (Assert (Lt (add (Var 1) (n 1)) (Var 0)))) ∷ []; concl = Ex (Assert (Lt (add (Var 1) (n 1)) (Var 0))) }

abbrev truth : Formula
truth = Assert True

abbrev write_and_allocate : List Directive
write_and_allocate =
    d.Intros (pat.Name H ∷ [])
    ∷ d.Write H (n 2)
    ∷ d.Alloc (n 9) l (pat.Name K)
    ∷ d.ModIntro
    ∷ d.Exists (Var 0 ∷ [])
    ∷ d.Frame None
    ∷ []

-- |==> ∃ l, l ↦ 9 ∗ 7 ↦ 2
abbrev allocated : Formula
allocated = Upd (Ex (Sep (Pts (Var 0) UNIT (n 9)) (cell 7 2)))

abbrev with_truth : List Directive
with_truth =
    d.Intros (pat.Name H ∷ [])
    ∷ d.Assert truth premise.Done (Int (pat.Name (codes "T")))
    ∷ d.SplitR None
    ∷ d.Done
    ∷ d.Exact H
    ∷ []

-- ---- what they come to

pub swapped : proof no_predicates swap (d.Intros (names H1 H2 ∷ []) ∷ d.Frame None ∷ []) ≡ proved
unfolding destruct intro frame star_rest conjunction disjunction above whole fewer_units full_location indices is_small are_small turned conjuncts linear_conclusion body_of_call under_later under_box under_update without_later passed modality_of in_a_term in_some_term in_a_pure in_a_formula equation_of by_pattern premises_before terms_eq pure_eq formula_eq term_eq new_index_or abstracted changed changed_pure in_term in_pure in_formula raised_by nodes_of pure_nodes term_nodes terms_nodes depth_of pure_depth term_depth terms_depth IsPersistent persistence into_and into_sep into_or into_exist into_forall into_wand into_pure from_pure into_persistent combine digits atom coefficient_of constant_of
swapped = refl

pub over_whole : proof no_predicates (Wand (Sep (three_quarters 5 1) (half 5 2)) (Assert False)) (d.Intros (names A B ∷ []) ∷ d.Combine A B (pat.Name C) ∷ []) ≡ proved
unfolding destruct intro frame star_rest conjunction disjunction above whole fewer_units full_location indices is_small are_small turned conjuncts linear_conclusion body_of_call under_later under_box under_update without_later passed modality_of in_a_term in_some_term in_a_pure in_a_formula equation_of by_pattern premises_before terms_eq pure_eq formula_eq term_eq new_index_or abstracted changed changed_pure in_term in_pure in_formula raised_by nodes_of pure_nodes term_nodes terms_nodes depth_of pure_depth term_depth terms_depth IsPersistent persistence into_and into_sep into_or into_exist into_forall into_wand into_pure from_pure into_persistent combine digits atom coefficient_of constant_of
over_whole = refl

pub two_halves : proof no_predicates (Wand (Sep (half 5 1) (half 5 1)) (cell 5 1)) (d.Intros (names A B ∷ []) ∷ d.Combine A B (pat.Name C) ∷ d.Exact C ∷ []) ≡ proved
unfolding destruct intro frame star_rest conjunction disjunction above whole fewer_units full_location indices is_small are_small turned conjuncts linear_conclusion body_of_call under_later under_box under_update without_later passed modality_of in_a_term in_some_term in_a_pure in_a_formula equation_of by_pattern premises_before terms_eq pure_eq formula_eq term_eq new_index_or abstracted changed changed_pure in_term in_pure in_formula raised_by nodes_of pure_nodes term_nodes terms_nodes depth_of pure_depth term_depth terms_depth IsPersistent persistence into_and into_sep into_or into_exist into_forall into_wand into_pure from_pure into_persistent combine digits atom coefficient_of constant_of
two_halves = refl

pub infinite : proof lists (All (Wand (Call 0 (Var 0 ∷ [])) (Call 1 (Var 0 ∷ [])))) (split_inf ++ d.Next ∷ by_induction) ≡ proved
unfolding destruct intro frame star_rest conjunction disjunction above whole fewer_units full_location indices is_small are_small turned conjuncts linear_conclusion body_of_call under_later under_box under_update without_later passed modality_of in_a_term in_some_term in_a_pure in_a_formula equation_of by_pattern premises_before terms_eq pure_eq formula_eq term_eq new_index_or abstracted changed changed_pure in_term in_pure in_formula raised_by nodes_of pure_nodes term_nodes terms_nodes depth_of pure_depth term_depth terms_depth IsPersistent persistence into_and into_sep into_or into_exist into_forall into_wand into_pure from_pure into_persistent combine digits atom coefficient_of constant_of
infinite = refl

pub went_left : proof lists (All (Wand (Call 0 (Var 0 ∷ [])) (Call 1 (Var 0 ∷ [])))) (split_inf ++ d.Next ∷ by_other) ≡ refused_by (refusal NoSuchHypothesis Hl)
unfolding destruct intro frame star_rest conjunction disjunction above whole fewer_units full_location indices is_small are_small turned conjuncts linear_conclusion body_of_call under_later under_box under_update without_later passed modality_of in_a_term in_some_term in_a_pure in_a_formula equation_of by_pattern premises_before terms_eq pure_eq formula_eq term_eq new_index_or abstracted changed changed_pure in_term in_pure in_formula raised_by nodes_of pure_nodes term_nodes terms_nodes depth_of pure_depth term_depth terms_depth IsPersistent persistence into_and into_sep into_or into_exist into_forall into_wand into_pure from_pure into_persistent combine digits atom coefficient_of constant_of
went_left = refl

pub specialised : proof no_predicates above_next (d.Intros (pat.PureName y ∷ pat.Name H ∷ []) ∷ d.Specialize (term H (add (Var 0) (n 1) ∷ []) []) ∷ []) ≡ leaves (next_goal ∷ [])
unfolding destruct intro frame star_rest conjunction disjunction above whole fewer_units full_location indices is_small are_small turned conjuncts linear_conclusion body_of_call under_later under_box under_update without_later passed modality_of in_a_term in_some_term in_a_pure in_a_formula equation_of by_pattern premises_before terms_eq pure_eq formula_eq term_eq new_index_or abstracted changed changed_pure in_term in_pure in_formula raised_by nodes_of pure_nodes term_nodes terms_nodes depth_of pure_depth term_depth terms_depth IsPersistent persistence into_and into_sep into_or into_exist into_forall into_wand into_pure from_pure into_persistent combine digits atom coefficient_of constant_of
specialised = refl

pub no_such : proof no_predicates kept (d.Intros (names H1 H2 ∷ []) ∷ d.SplitL (Some (K ∷ [])) ∷ []) ≡ refused_by (refusal NoSuchHypothesis K)
unfolding destruct intro frame star_rest conjunction disjunction above whole fewer_units full_location indices is_small are_small turned conjuncts linear_conclusion body_of_call under_later under_box under_update without_later passed modality_of in_a_term in_some_term in_a_pure in_a_formula equation_of by_pattern premises_before terms_eq pure_eq formula_eq term_eq new_index_or abstracted changed changed_pure in_term in_pure in_formula raised_by nodes_of pure_nodes term_nodes terms_nodes depth_of pure_depth term_depth terms_depth IsPersistent persistence into_and into_sep into_or into_exist into_forall into_wand into_pure from_pure into_persistent combine digits atom coefficient_of constant_of
no_such = refl

pub cleared : proof no_predicates (Wand (cell 1 2) (Pers truth)) (d.Intros (pat.Name H ∷ []) ∷ d.ModIntro ∷ d.Exact H ∷ []) ≡ refused_by (refusal NoSuchHypothesis H)
unfolding destruct intro frame star_rest conjunction disjunction above whole fewer_units full_location indices is_small are_small turned conjuncts linear_conclusion body_of_call under_later under_box under_update without_later passed modality_of in_a_term in_some_term in_a_pure in_a_formula equation_of by_pattern premises_before terms_eq pure_eq formula_eq term_eq new_index_or abstracted changed changed_pure in_term in_pure in_formula raised_by nodes_of pure_nodes term_nodes terms_nodes depth_of pure_depth term_depth terms_depth IsPersistent persistence into_and into_sep into_or into_exist into_forall into_wand into_pure from_pure into_persistent combine digits atom coefficient_of constant_of
cleared = refl

pub reflexive : proof no_predicates (Assert (Eq (n 5) (n 5))) (d.Done ∷ []) ≡ proved
unfolding destruct intro frame star_rest conjunction disjunction above whole fewer_units full_location indices is_small are_small turned conjuncts linear_conclusion body_of_call under_later under_box under_update without_later passed modality_of in_a_term in_some_term in_a_pure in_a_formula equation_of by_pattern premises_before terms_eq pure_eq formula_eq term_eq new_index_or abstracted changed changed_pure in_term in_pure in_formula raised_by nodes_of pure_nodes term_nodes terms_nodes depth_of pure_depth term_depth terms_depth IsPersistent persistence into_and into_sep into_or into_exist into_forall into_wand into_pure from_pure into_persistent combine digits atom coefficient_of constant_of
reflexive = refl

pub appended : proof segments (All (All (All (Wand (Call 0 (Var 2 ∷ Var 1 ∷ [])) (Wand (Call 0 (Var 1 ∷ Var 0 ∷ [])) (Call 0 (Var 2 ∷ Var 0 ∷ []))))))) append ≡ proved
unfolding destruct intro frame star_rest conjunction disjunction above whole fewer_units full_location indices is_small are_small turned conjuncts linear_conclusion body_of_call under_later under_box under_update without_later passed modality_of in_a_term in_some_term in_a_pure in_a_formula equation_of by_pattern premises_before terms_eq pure_eq formula_eq term_eq new_index_or abstracted changed changed_pure in_term in_pure in_formula raised_by nodes_of pure_nodes term_nodes terms_nodes depth_of pure_depth term_depth terms_depth IsPersistent persistence into_and into_sep into_or into_exist into_forall into_wand into_pure from_pure into_persistent combine digits atom coefficient_of constant_of
appended = refl

pub written : proof no_predicates (Wand (cell 7 1) allocated) write_and_allocate ≡ proved
unfolding destruct intro frame star_rest conjunction disjunction above whole fewer_units full_location indices is_small are_small turned conjuncts linear_conclusion body_of_call under_later under_box under_update without_later passed modality_of in_a_term in_some_term in_a_pure in_a_formula equation_of by_pattern premises_before terms_eq pure_eq formula_eq term_eq new_index_or abstracted changed changed_pure in_term in_pure in_formula raised_by nodes_of pure_nodes term_nodes terms_nodes depth_of pure_depth term_depth terms_depth IsPersistent persistence into_and into_sep into_or into_exist into_forall into_wand into_pure from_pure into_persistent combine digits atom coefficient_of constant_of
written = refl

pub half_is_not_written : proof no_predicates (Wand (half 7 1) allocated) write_and_allocate ≡ refused_by (refusal NotFullPointsTo [])
unfolding destruct intro frame star_rest conjunction disjunction above whole fewer_units full_location indices is_small are_small turned conjuncts linear_conclusion body_of_call under_later under_box under_update without_later passed modality_of in_a_term in_some_term in_a_pure in_a_formula equation_of by_pattern premises_before terms_eq pure_eq formula_eq term_eq new_index_or abstracted changed changed_pure in_term in_pure in_formula raised_by nodes_of pure_nodes term_nodes terms_nodes depth_of pure_depth term_depth terms_depth IsPersistent persistence into_and into_sep into_or into_exist into_forall into_wand into_pure from_pure into_persistent combine digits atom coefficient_of constant_of
half_is_not_written = refl

pub updated : proof no_predicates (Wand (Upd (cell 1 2)) (Upd (cell 1 2))) (d.Intros (pat.Name H ∷ []) ∷ d.Mod (term H [] []) (pat.Name H) ∷ d.ModIntro ∷ d.Exact H ∷ []) ≡ proved
unfolding destruct intro frame star_rest conjunction disjunction above whole fewer_units full_location indices is_small are_small turned conjuncts linear_conclusion body_of_call under_later under_box under_update without_later passed modality_of in_a_term in_some_term in_a_pure in_a_formula equation_of by_pattern premises_before terms_eq pure_eq formula_eq term_eq new_index_or abstracted changed changed_pure in_term in_pure in_formula raised_by nodes_of pure_nodes term_nodes terms_nodes depth_of pure_depth term_depth terms_depth IsPersistent persistence into_and into_sep into_or into_exist into_forall into_wand into_pure from_pure into_persistent combine digits atom coefficient_of constant_of
updated = refl

pub linear_later : proof no_predicates (All (Wand (Assert (Lt (Var 0) (n 3))) (Later (Assert (Le (Var 0) (n 2)))))) (d.Intros (pat.PureName x ∷ pat.PureName (codes "L") ∷ []) ∷ d.PureIntro ∷ d.Linear ∷ []) ≡ proved
unfolding destruct intro frame star_rest conjunction disjunction above whole fewer_units full_location indices is_small are_small turned conjuncts linear_conclusion body_of_call under_later under_box under_update without_later passed modality_of in_a_term in_some_term in_a_pure in_a_formula equation_of by_pattern premises_before terms_eq pure_eq formula_eq term_eq new_index_or abstracted changed changed_pure in_term in_pure in_formula raised_by nodes_of pure_nodes term_nodes terms_nodes depth_of pure_depth term_depth terms_depth IsPersistent persistence into_and into_sep into_or into_exist into_forall into_wand into_pure from_pure into_persistent combine digits atom coefficient_of constant_of
linear_later = refl

pub asserted : proof no_predicates (Wand (cell 1 2) (Sep (Pers truth) (cell 1 2))) with_truth ≡ proved
unfolding destruct intro frame star_rest conjunction disjunction above whole fewer_units full_location indices is_small are_small turned conjuncts linear_conclusion body_of_call under_later under_box under_update without_later passed modality_of in_a_term in_some_term in_a_pure in_a_formula equation_of by_pattern premises_before terms_eq pure_eq formula_eq term_eq new_index_or abstracted changed changed_pure in_term in_pure in_formula raised_by nodes_of pure_nodes term_nodes terms_nodes depth_of pure_depth term_depth terms_depth IsPersistent persistence into_and into_sep into_or into_exist into_forall into_wand into_pure from_pure into_persistent combine digits atom coefficient_of constant_of
asserted = refl
