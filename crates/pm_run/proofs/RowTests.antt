-- The rows of predicates and lemmas, by what the code tests.
use Rattle.std.proofs.Common.{◌≡◌, ◌⊎◌, ◌↔◌, inl, inr, ℕ, ◌-◌, ◌^◌, ◌<◌, ◌≤◌, min, Bool, true, false, not, List, [], ◌∷◌, ◌++◌, length, length-append, refl, sym, ◌∙◌, ap, subst, arith, Option, Some, None}
use Rattle.std.specs.Prelude.{IsTrue, nat_lt, nat_le}
use Rattle.std.proofs.lemmas.Bool.Decides.{nat_tests}
use Rattle.std.proofs.lemmas.List.{length-map}
use Rattle.pm_logic.specs.declared.limits.TheConstants.{MAX_HYPOTHESES, MAX_LEMMAS, MAX_LEVELS, MAX_NODES, MAX_PREDICATES, MAX_VARIABLES}
use Rattle.pm_logic.specs.declared.formula.Formula.{Formula}
use Rattle.pm_logic.specs.declared.formula.Pred.{Pred}
use Rattle.pm_logic.specs.Scope.{body_of}
use Rattle.pm_logic.specs.Guard.{CallsBelow}
use Rattle.pm_logic.specs.Size.{nodes_of, depth_of}
use Rattle.pm_goal.specs.declared.goal.Goal.{Goal}
use Rattle.pm_goal.specs.declared.work.Lemmas.{Lemmas}
use Rattle.pm_goal.specs.declared.refusal.Row.{Row}
use Rattle.pm_goal.specs.declared.refusal.Row.TheVariants.{ProofIsOpen, NameIsDefined, NotGuarded, TooManyVariables, TooManyHypotheses, TooManyNodes, TooDeep, TooManyPredicates, TooManyLemmas}
use Rattle.pm_table.specs.Limits.{formulas, all_nodes, greatest_depth}
use Rattle.pm_run.specs.Rows.{Table, when, row_if, size_row, no_row, when_large, held}
use Rattle.pm_run.specs.Runs.{State, is_open, is_used, opening, stated, proved_lemmas, predicate_rows, lemma_rows}

-- ---- rows

-- a row that is tested by this answer, before others
pub row_is : (b : Bool) (P : Type 0) (row : Row) (others : Table) (o : Option Row) → (b ≡ true → P) → (b ≡ false → ¬ P) → others o → when P row others (row_if b row o)
row_is true P row others o yes_if no_if rest = inl (yes_if refl, refl)
row_is false P row others o yes_if no_if rest = inr (no_if refl, rest)

pub row_where : (b : Bool) (row : Row) (o : Option Row) (others : Table) → others o → when (IsTrue b) row others (row_if b row o)
row_where b row o others rest = row_is b (IsTrue b) row others o (λ e. e) (λ e. λ t. absurd (let f : true ≡ false = sym t ∙ e in cc)) rest

-- a number above a limit, tested by another
pub row_above : (limit n m : ℕ) (row : Row) (others : Table) (o : Option Row) → (limit < m → limit < n) → (limit < n → limit < m) → others o → when (limit < n) row others (row_if (nat_lt limit m) row o)
row_above limit n m row others o to back rest = row_is (nat_lt limit m) (limit < n) row others o (λ e. to (grind (arith, nat_tests, e))) (λ e. λ lt. let m_above = back lt in grind (arith, nat_tests, e, m_above)) rest

-- ---- the size of a goal

module _ (goal : Goal) (others : Option Row) (all deepest : ℕ) (nodes : all ≡ min (all_nodes (formulas goal)) (2 ^ 64 - 1)) (levels : deepest ≡ min (greatest_depth (formulas goal)) (2 ^ 32 - 1)) where
  abbrev rest : Table
  rest answer = answer ≡ others

  abbrev from_depth : Table
  from_depth = when (MAX_LEVELS < greatest_depth (formulas goal)) TooDeep rest

  abbrev from_nodes : Table
  from_nodes = when (MAX_NODES < all_nodes (formulas goal)) TooManyNodes from_depth

  abbrev from_count : Table
  from_count = when (MAX_HYPOTHESES < held goal) TooManyHypotheses from_nodes

  by_depth : from_depth (row_if (nat_lt MAX_LEVELS deepest) TooDeep others)
  by_depth = row_above MAX_LEVELS (greatest_depth (formulas goal)) deepest TooDeep rest others (λ lt. omega (arith, lt, levels)) (λ lt. omega (arith, lt, levels)) refl

  by_nodes : from_nodes (row_if (nat_lt MAX_NODES all) TooManyNodes (row_if (nat_lt MAX_LEVELS deepest) TooDeep others))
  by_nodes = row_above MAX_NODES (all_nodes (formulas goal)) all TooManyNodes from_depth (row_if (nat_lt MAX_LEVELS deepest) TooDeep others) (λ lt. omega (arith, lt, nodes)) (λ lt. omega (arith, lt, nodes)) by_depth

  pub large_rows : (vars count : ℕ) (result : Option Row) → vars ≡ length goal.vars → count ≡ held goal → result ≡ size_row vars count all deepest others → when_large goal rest result
  large_rows vars count result variables counts is =
      subst (when_large goal rest) (sym is)
      (row_above MAX_VARIABLES (length goal.vars) vars TooManyVariables from_count _ (λ lt. omega (arith, lt, variables)) (λ lt. omega (arith, lt, variables))
      (row_above MAX_HYPOTHESES (held goal) count TooManyHypotheses from_nodes _ (λ lt. omega (arith, lt, counts)) (λ lt. omega (arith, lt, counts)) by_nodes))

-- ---- predicates and lemmas

body_last : (qs : List Pred) (q : Pred) → body_of (qs ++ q ∷ []) (length qs) ≡ q.body
body_last [] q = refl
body_last (x ∷ qs) q = body_last qs q

-- a number at a limit or above it
row_from : (limit n : ℕ) (row : Row) (others : Table) (o : Option Row) → others o → when (limit ≤ n) row others (row_if (nat_le limit n) row o)
row_from limit n row others o rest = row_is (nat_le limit n) (limit ≤ n) row others o (λ e. grind (arith, nat_tests, e)) (λ e. λ le. grind (arith, nat_tests, e, le)) rest

not_true : (b : Bool) → not b ≡ true → ¬ (b ≡ true)
not_true true e f = absurd cc
not_true false e f = absurd cc

not_false : (b : Bool) → not b ≡ false → b ≡ true
not_false true e = refl
not_false false e = absurd cc

module _ (s : State) (q : Pred) (name : List ℕ) (params : List (List ℕ)) where
  body : Formula
  body = q.body

  pub predicate_row_is : (list : List Pred) (open_proof used guards : Bool) (count all deepest last : ℕ) (deep large wide many free named result : Option Row)
      → list ≡ s.preds ++ q ∷ [] → open_proof ≡ is_open s → used ≡ is_used s name → count ≡ length params → all ≡ min (nodes_of q.body) (2 ^ 64 - 1) → deepest ≡ min (depth_of q.body) (2 ^ 32 - 1)
      → last ≡ length list - 1 → (IsTrue guards ↔ CallsBelow last (body_of list last))
      → deep ≡ row_if (nat_lt MAX_LEVELS deepest) TooDeep None → large ≡ row_if (nat_lt MAX_NODES all) TooManyNodes deep → wide ≡ row_if (nat_lt MAX_VARIABLES count) TooManyVariables large → many ≡ row_if (nat_le MAX_PREDICATES last) TooManyPredicates wide
      → free ≡ row_if (not guards) NotGuarded many → named ≡ row_if used NameIsDefined free → result ≡ row_if open_proof ProofIsOpen named
      → predicate_rows s name params q.body result
  predicate_row_is list open_proof used guards count all deepest last deep large wide many free named result lists opens uses counts nodes levels lasts guarded d l w m f n r =
      let last_is : last ≡ length s.preds = let len = ap length lists in let more = length-append s.preds (q ∷ []) in omega (arith, lasts, len, more) in
      let body_is : body_of list last ≡ q.body = ap (λ (ps : List Pred). body_of ps last) lists ∙ (ap (λ (i : ℕ). body_of (s.preds ++ q ∷ []) i) last_is ∙ body_last s.preds q) in
      let here : CallsBelow last (body_of list last) → CallsBelow (length s.preds) q.body = λ x. subst (λ (g : Formula). CallsBelow (length s.preds) g) body_is (subst (λ (i : ℕ). CallsBelow i (body_of list last)) last_is x) in
      let there : CallsBelow (length s.preds) q.body → CallsBelow last (body_of list last) = λ x. subst (λ (i : ℕ). CallsBelow i (body_of list last)) (sym last_is) (subst (λ (g : Formula). CallsBelow (length s.preds) g) (sym body_is) x) in
      let guarded_table : Table = when (¬ CallsBelow (length s.preds) q.body) NotGuarded (when (MAX_PREDICATES ≤ length s.preds) TooManyPredicates (when (MAX_VARIABLES < length params) TooManyVariables (when (MAX_NODES < nodes_of q.body) TooManyNodes (when (MAX_LEVELS < depth_of q.body) TooDeep no_row)))) in
      let t4 : when (MAX_LEVELS < depth_of q.body) TooDeep no_row deep = subst (when (MAX_LEVELS < depth_of q.body) TooDeep no_row) (sym d) (row_above MAX_LEVELS (depth_of q.body) deepest TooDeep no_row None (λ lt. omega (arith, lt, levels)) (λ lt. omega (arith, lt, levels)) refl) in
      let t3 : when (MAX_NODES < nodes_of q.body) TooManyNodes (when (MAX_LEVELS < depth_of q.body) TooDeep no_row) large = subst (when (MAX_NODES < nodes_of q.body) TooManyNodes (when (MAX_LEVELS < depth_of q.body) TooDeep no_row)) (sym l) (row_above MAX_NODES (nodes_of q.body) all TooManyNodes (when (MAX_LEVELS < depth_of q.body) TooDeep no_row) deep (λ lt. omega (arith, lt, nodes)) (λ lt. omega (arith, lt, nodes)) t4) in
      let tail : Table = when (MAX_NODES < nodes_of q.body) TooManyNodes (when (MAX_LEVELS < depth_of q.body) TooDeep no_row) in
      let t1 : when (MAX_VARIABLES < length params) TooManyVariables tail wide = subst (when (MAX_VARIABLES < length params) TooManyVariables tail) (sym w) (row_above MAX_VARIABLES (length params) count TooManyVariables tail large (λ lt. omega (arith, lt, counts)) (λ lt. omega (arith, lt, counts)) t3) in
      let t6 : when (MAX_PREDICATES ≤ length s.preds) TooManyPredicates (when (MAX_VARIABLES < length params) TooManyVariables tail) many = subst (when (MAX_PREDICATES ≤ length s.preds) TooManyPredicates (when (MAX_VARIABLES < length params) TooManyVariables tail)) (sym m) (subst (λ (i : ℕ). when (MAX_PREDICATES ≤ i) TooManyPredicates (when (MAX_VARIABLES < length params) TooManyVariables tail) (row_if (nat_le MAX_PREDICATES last) TooManyPredicates wide)) last_is (row_from MAX_PREDICATES last TooManyPredicates (when (MAX_VARIABLES < length params) TooManyVariables tail) wide t1)) in
      let t7 : when (¬ CallsBelow (length s.preds) q.body) NotGuarded (when (MAX_PREDICATES ≤ length s.preds) TooManyPredicates (when (MAX_VARIABLES < length params) TooManyVariables tail)) free =
      subst (when (¬ CallsBelow (length s.preds) q.body) NotGuarded (when (MAX_PREDICATES ≤ length s.preds) TooManyPredicates (when (MAX_VARIABLES < length params) TooManyVariables tail))) (sym f)
      (row_is (not guards) (¬ CallsBelow (length s.preds) q.body) NotGuarded (when (MAX_PREDICATES ≤ length s.preds) TooManyPredicates (when (MAX_VARIABLES < length params) TooManyVariables tail)) many
      (λ e. λ calls. not_true guards e (guarded.1 (there calls)))
      (λ e. λ none. none (here (guarded.0 (not_false guards e)))) t6) in
      subst (predicate_rows s name params q.body) (sym r)
      (subst (λ (b : Bool). predicate_rows s name params q.body (row_if b ProofIsOpen named)) (sym opens)
      (row_where (is_open s) ProofIsOpen named (when (IsTrue (is_used s name)) NameIsDefined guarded_table) (subst (λ (o : Option Row). when (IsTrue (is_used s name)) NameIsDefined (when (¬ CallsBelow (length s.preds) q.body) NotGuarded (when (MAX_PREDICATES ≤ length s.preds) TooManyPredicates (when (MAX_VARIABLES < length params) TooManyVariables tail))) o) (sym (n ∙ ap (λ b. row_if b NameIsDefined free) uses)) (row_where (is_used s name) NameIsDefined free guarded_table t7))))

pub lemma_row_is : (s : State) (name : List ℕ) (statement : Formula) (open_proof used : Bool) (count all deepest : ℕ) (large many named result : Option Row)
    → all ≡ min (nodes_of statement) (2 ^ 64 - 1) → deepest ≡ min (depth_of statement) (2 ^ 32 - 1) → open_proof ≡ is_open s → used ≡ is_used s name → count ≡ length s.lemmas
    → large ≡ size_row 0 0 all deepest None → many ≡ row_if (nat_le MAX_LEMMAS count) TooManyLemmas large → named ≡ row_if used NameIsDefined many → result ≡ row_if open_proof ProofIsOpen named
    → lemma_rows s name statement result
lemma_row_is s name statement open_proof used count all deepest large many named result nodes levels opens uses counts w m n r =
    let sizes : Table = when_large (opening statement) no_row in
    let t0 : sizes large = large_rows (opening statement) None all deepest (omega (arith, nodes)) (omega (arith, levels)) 0 0 large refl refl w in
    let t7 : when (MAX_LEMMAS ≤ length s.lemmas) TooManyLemmas sizes many = subst (when (MAX_LEMMAS ≤ length s.lemmas) TooManyLemmas sizes) (sym m) (row_is (nat_le MAX_LEMMAS count) (MAX_LEMMAS ≤ length s.lemmas) TooManyLemmas sizes large (λ e. let le : MAX_LEMMAS ≤ count = grind (arith, nat_tests, e) in omega (arith, le, counts)) (λ e. λ le. let more : MAX_LEMMAS ≤ count = omega (arith, le, counts) in grind (arith, nat_tests, e, more)) t0) in
    subst (lemma_rows s name statement) (sym r)
    (subst (λ (b : Bool). lemma_rows s name statement (row_if b ProofIsOpen named)) (sym opens)
    (row_where (is_open s) ProofIsOpen named (when (IsTrue (is_used s name)) NameIsDefined (when (MAX_LEMMAS ≤ length s.lemmas) TooManyLemmas sizes)) (subst (λ (o : Option Row). when (IsTrue (is_used s name)) NameIsDefined (when (MAX_LEMMAS ≤ length s.lemmas) TooManyLemmas sizes) o) (sym (n ∙ ap (λ b. row_if b NameIsDefined many) uses)) (row_where (is_used s name) NameIsDefined many (when (MAX_LEMMAS ≤ length s.lemmas) TooManyLemmas sizes) t7))))

pub lemmas_counted : (s : State) (lemmas : Lemmas) (count : ℕ) → count ≡ length lemmas.list → lemmas ≡ proved_lemmas s → count ≡ length s.lemmas
lemmas_counted s lemmas count counts same = counts ∙ ap (λ (l : Lemmas). length l.list) same ∙ length-map s.lemmas stated
