-- The rule table: one equation a rule, in the order of the numbers.
--
-- To add a rule, under the number behind the last:
--   pm_rules   src/rules.rt: a variant of `Rule`, and its arm in `drop`. Here: its row, and where it has a bracket one of
--              `HasBracket`. src/table.rt: the static row, and its arm in `row_for`. Where formulas are computed besides: in
--              Equations a relation of the rule's name; in src/equations.rt its test; in src/conditions.rt its arm in
--              `has_equations`. For a bracket: its test, and its arm in `has_bracket`.
--   pm_dtext   Spelling: its name. Reading: its sign, behind the last. src/names.rt: both by its number; `qed` moves on, also in
--              proofs/Named, in pm_check's fault.rt and Lines, and in pm_top's Offences. Where it takes more than premises:
--              Spelling, Ranges and Reading, src/signs.rt, lines.rt and arguments.rt, proofs/RuleLaws.
--   pm_sound   Groups: that it is sound. proofs/Groups: that its row is true, or proofs/ByEquations. proofs/Sound: its case.
--   Above      proofs/Arguments of pm_write and proofs/Offences of pm_top: its case. rules.rt of pm_tests: a line by it, and
--              one that doesn't follow. docs/RULES.md: its row. examples/rules.derivation: a line.
-- Then `rt check`, `rt fmt` and `rt tidy` in each of these crates in this order, and `rt ci` at the top.
use Rattle.std.specs.Prelude.{◌≡◌, ℕ, List, [], ◌∷◌, length}
use Rattle.std.specs.List.{AllByRecursion}
use Rattle.pm_logic.specs.declared.formula.Formula.{Formula}
use Rattle.pm_logic.specs.declared.formula.Preds.{Preds}
use Rattle.pm_rules.specs.declared.rules.Rule.{Rule}
use Rattle.pm_rules.specs.declared.rules.Rule.TheVariants.{Refl, Trans, Inst, True, False, AndL, AndR, AndI, OrL, OrR, OrE, ImpI, ImpE, AllI, AllE, ExI, ExE, SepMono, SepComm, SepAssocR, SepAssocL, SepUnit, SepWeaken, WandI, WandE, LaterMono, LaterIntro, Loeb, LaterSep, SepLater, LaterAnd, LaterOr, LaterAll, LaterEx, PersMono, PersElim, PersIdem, PersDup, PersPure, PersAnd, PersOr, PersAll, PersEx, PersLater, LaterPers, UpdMono, UpdIntro, UpdTrans, UpdFrame, UpdPure, PureAnd, AndPure, PureOr, OrPure, Not, Em, Linear, Rewrite, PtsSplit, PtsJoin, PtsAgree, PtsOver, PtsWrite, PtsNew, Fold, Unfold, Timeless}
use Rattle.pm_rules.specs.declared.rules.Entail.{Entail}
use Rattle.pm_rules.specs.Equations.{IsInst, IsAllE, IsExI, IsLinear, IsRewrite, IsPtsSplit, IsPtsJoin, IsPtsAgree, IsPtsOver, IsPtsWrite, IsPtsNew, IsFold, IsUnfold, IsOverfull, IsLaterTimeless}
use Rattle.pm_rules.specs.Linear.{HasFactors}
use Rattle.pm_rules.specs.Shapes.{Sequent}
use Rattle.pm_rules.specs.Notation.{◌⊢◌, ◌✶◌, ◌─✶◌, ◌⩓◌, ◌⩔◌, ◌⇒◌, All, Ex, ▷, □, ⤇, ⌜◌⌝, truth, falsity, ◌⊓◌, ◌⊔◌, ∼, P, Q, R, B, P1, Q1, P↑, Q↑, φ, ψ}

-- ---- what a row is

-- what a row whose formulas are computed says of the table of predicates, the premises and the conclusion
abbrev pub Relation : Type 1
Relation = Preds → List Entail → Entail → Type 0

-- a row with its number: premises, with so many variables more than the conclusion, and a conclusion, by their shapes; or so
-- many premises, and a relation
pub data Row : Type 1 where
  Shapes : ℕ → ℕ → List Sequent → Sequent → Row
  Computed : ℕ → ℕ → Relation → Row

abbrev pub plain : ℕ → Sequent → Row
plain n c = Shapes n 0 [] c

abbrev pub by : ℕ → Sequent → Sequent → Row
by n a c = Shapes n 0 (a ∷ []) c

abbrev pub both : ℕ → Sequent → Sequent → Sequent → Row
both n a b c = Shapes n 0 (a ∷ b ∷ []) c

-- the premise has one variable more
abbrev pub under : ℕ → Sequent → Sequent → Row
under n a c = Shapes n 1 (a ∷ []) c

-- of the premise's sides and the conclusion's, where there is one premise
abbrev pub AtOne : (Entail → Type 0) → List Entail → Type 0
AtOne claim [] = ⊥
AtOne claim (p ∷ []) = claim p
AtOne claim (p ∷ q ∷ ps) = ⊥

abbrev pub of_premise : ℕ → (Formula → Formula → Formula → Formula → Type 0) → Row
of_premise n holds = Computed n 1 (λ preds ps e. AtOne (λ p. holds p.left p.right e.left e.right) ps)

-- of the conclusion's sides
abbrev pub of_sides : ℕ → (Formula → Formula → Type 0) → Row
of_sides n holds = Computed n 0 (λ preds ps e. holds e.left e.right)

-- of the predicates and the conclusion's sides
abbrev pub of_calls : ℕ → (Preds → Formula → Formula → Type 0) → Row
of_calls n holds = Computed n 0 (λ preds ps e. holds preds e.left e.right)

-- ---- the table

abbrev pub row : Rule → Row
row Refl = plain 1 (P ⊢ P)
row Trans = both 2 (P ⊢ R) (R ⊢ Q) (P ⊢ Q)
row (Inst sigma) = of_premise 3 (IsInst sigma)  -- P ⊢ Q / P[σ] ⊢ Q[σ]
row True = plain 4 (P ⊢ ⌜ truth ⌝)
row False = plain 5 (⌜ falsity ⌝ ⊢ P)
row AndL = plain 6 (P ⩓ Q ⊢ P)
row AndR = plain 7 (P ⩓ Q ⊢ Q)
row AndI = both 8 (P ⊢ Q) (P ⊢ R) (P ⊢ Q ⩓ R)
row OrL = plain 9 (P ⊢ P ⩔ Q)
row OrR = plain 10 (Q ⊢ P ⩔ Q)
row OrE = both 11 (P ⊢ R) (Q ⊢ R) (P ⩔ Q ⊢ R)
row ImpI = by 12 (P ⩓ Q ⊢ R) (P ⊢ Q ⇒ R)
row ImpE = by 13 (P ⊢ Q ⇒ R) (P ⩓ Q ⊢ R)
row AllI = under 14 (P↑ ⊢ B) (P ⊢ All B)
row (AllE t) = of_sides 15 (IsAllE t)  -- ∀ B ⊢ B[t]
row (ExI t) = of_sides 16 (IsExI t)  -- B[t] ⊢ ∃ B
row ExE = under 17 (B ⊢ Q↑) (Ex B ⊢ Q)
row SepMono = both 18 (P ⊢ P1) (Q ⊢ Q1) (P ✶ Q ⊢ P1 ✶ Q1)
row SepComm = plain 19 (P ✶ Q ⊢ Q ✶ P)
row SepAssocR = plain 20 ((P ✶ Q) ✶ R ⊢ P ✶ (Q ✶ R))
row SepAssocL = plain 21 (P ✶ (Q ✶ R) ⊢ (P ✶ Q) ✶ R)
row SepUnit = plain 22 (P ⊢ ⌜ truth ⌝ ✶ P)
row SepWeaken = plain 23 (P ✶ Q ⊢ P)
row WandI = by 24 (P ✶ Q ⊢ R) (P ⊢ Q ─✶ R)
row WandE = by 25 (P ⊢ Q ─✶ R) (P ✶ Q ⊢ R)
row LaterMono = by 26 (P ⊢ Q) (▷ P ⊢ ▷ Q)
row LaterIntro = plain 27 (P ⊢ ▷ P)
row Loeb = plain 28 (▷ P ⇒ P ⊢ P)
row LaterSep = plain 29 (▷ (P ✶ Q) ⊢ ▷ P ✶ ▷ Q)
row SepLater = plain 30 (▷ P ✶ ▷ Q ⊢ ▷ (P ✶ Q))
row LaterAnd = plain 31 (▷ P ⩓ ▷ Q ⊢ ▷ (P ⩓ Q))
row LaterOr = plain 32 (▷ (P ⩔ Q) ⊢ ▷ P ⩔ ▷ Q)
row LaterAll = plain 33 (All (▷ B) ⊢ ▷ (All B))
row LaterEx = plain 34 (▷ (Ex B) ⊢ Ex (▷ B))
row PersMono = by 35 (P ⊢ Q) (□ P ⊢ □ Q)
row PersElim = plain 36 (□ P ⊢ P)
row PersIdem = plain 37 (□ P ⊢ □ (□ P))
row PersDup = plain 38 (□ P ⩓ Q ⊢ □ P ✶ Q)
row PersPure = plain 39 (⌜ φ ⌝ ⊢ □ ⌜ φ ⌝)
row PersAnd = plain 40 (□ P ⩓ □ Q ⊢ □ (P ⩓ Q))
row PersOr = plain 41 (□ (P ⩔ Q) ⊢ □ P ⩔ □ Q)
row PersAll = plain 42 (All (□ B) ⊢ □ (All B))
row PersEx = plain 43 (□ (Ex B) ⊢ Ex (□ B))
row PersLater = plain 44 (□ (▷ P) ⊢ ▷ (□ P))
row LaterPers = plain 45 (▷ (□ P) ⊢ □ (▷ P))
row UpdMono = by 46 (P ⊢ Q) (⤇ P ⊢ ⤇ Q)
row UpdIntro = plain 47 (P ⊢ ⤇ P)
row UpdTrans = plain 48 (⤇ (⤇ P) ⊢ ⤇ P)
row UpdFrame = plain 49 (Q ✶ ⤇ P ⊢ ⤇ (Q ✶ P))
row UpdPure = plain 50 (⤇ ⌜ φ ⌝ ⊢ ⌜ φ ⌝)
row PureAnd = plain 51 (⌜ φ ⊓ ψ ⌝ ⊢ ⌜ φ ⌝ ⩓ ⌜ ψ ⌝)
row AndPure = plain 52 (⌜ φ ⌝ ⩓ ⌜ ψ ⌝ ⊢ ⌜ φ ⊓ ψ ⌝)
row PureOr = plain 53 (⌜ φ ⊔ ψ ⌝ ⊢ ⌜ φ ⌝ ⩔ ⌜ ψ ⌝)
row OrPure = plain 54 (⌜ φ ⌝ ⩔ ⌜ ψ ⌝ ⊢ ⌜ φ ⊔ ψ ⌝)
row Not = plain 55 (⌜ φ ⌝ ⩓ ⌜ ∼ φ ⌝ ⊢ ⌜ falsity ⌝)
row Em = plain 56 (P ⊢ ⌜ φ ⌝ ⩔ ⌜ ∼ φ ⌝)
row (Linear c d) = of_sides 57 IsLinear  -- ⌜f1 ∧ (f2 ∧ … ∧ True)⌝ ⊢ ⌜g⌝ [the factors show it]
row (Rewrite b) = of_sides 58 (IsRewrite b)  -- ⌜s = t⌝ ∧ B[s] ⊢ B[t]
row PtsSplit = of_sides 59 IsPtsSplit  -- l↦{a+b}v ⊢ l↦{a}v ∗ l↦{b}v
row PtsJoin = of_sides 60 IsPtsJoin  -- l↦{a}v ∗ l↦{b}v ⊢ l↦{a+b}v
row PtsAgree = of_sides 61 IsPtsAgree  -- l↦{a}v ∗ l↦{b}w ⊢ ⌜v = w⌝
row PtsOver = of_sides 62 IsPtsOver  -- l↦{a}v ∗ l↦{b}w ⊢ ⌜False⌝ [a + b > UNIT]
row PtsWrite = of_sides 63 IsPtsWrite  -- l↦v ⊢ |==> l↦w
row PtsNew = of_sides 64 (λ left right. IsPtsNew right)  -- P ⊢ |==> ∃ (index 0 ↦ v↑)
row Fold = of_calls 65 IsFold  -- body p[args] ⊢ p(args)
row Unfold = of_calls 66 IsUnfold  -- p(args) ⊢ body p[args]
row Timeless = plain 67 (▷ P ⊢ ▷ ⌜ falsity ⌝ ⩔ P)  -- [P is timeless]

-- ---- what rows ask besides

-- there is a term for each variable of the premise
unfoldable pub HasArguments : Rule → List Entail → Type 0
HasArguments (Inst sigma) ps = AllByRecursion (λ p. p.vars ≡ length sigma) ps
HasArguments _ ps = Unit {0}

-- what stands in the row's brackets
unfoldable pub HasBracket : Rule → Entail → Type 0
HasBracket (Linear c d) e = HasFactors c d e.vars e.left e.right
HasBracket PtsOver e = IsOverfull e.left
HasBracket Timeless e = IsLaterTimeless e.left
HasBracket _ e = Unit {0}

-- ---- a row without its relation

pub data Frame : Type 0 where
  Shaped : ℕ → ℕ → List Sequent → Sequent → Frame
  Counted : ℕ → ℕ → Frame

abbrev pub frame : Row → Frame
frame (Shapes n more given c) = Shaped n more given c
frame (Computed n count holds) = Counted n count

abbrev pub frame_for : Rule → Frame
frame_for rule = frame (row rule)
