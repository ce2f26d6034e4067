-- A line that doesn't follow has one first condition that is unmet.
use Rattle.std.proofs.Common.{◌≡◌, ◌⊎◌, ℕ, zero, suc, List, [], ◌∷◌, refl, sym, ◌∙◌, ap, ap₂, subst, Option, Result, Ok, Err, inl, inr}
use Rattle.std.specs.Prelude.{Bool, true, false}
use Rattle.pm_logic.specs.declared.formula.Formula.TheVariants.{Pure as Fact}
use Rattle.pm_logic.specs.declared.formula.Pure.TheVariants.{True}
use Rattle.pm_logic.specs.declared.formula.Preds.{Preds}
use Rattle.pm_rules.specs.declared.rules.Rule.{Rule}
use Rattle.pm_rules.specs.declared.rules.Entail.{Entail}
use Rattle.pm_rules.specs.declared.rules.Condition.{Condition}
use Rattle.pm_rules.specs.declared.rules.Condition.TheVariants as condition
use Rattle.pm_rules.specs.declared.rules.Unmet.{Unmet}
use Rattle.pm_rules.specs.Rows.{HasArguments, HasBracket}
use Rattle.pm_rules.specs.Rules.{premises, RuleOk, FirstUnmet, condition_number, HasPremises, HasVariables, HasShape}
use Rattle.pm_dtext.specs.declared.line.Line.{Line}
use Rattle.pm_dtext.specs.declared.fault.Fault.{Fault}
use Rattle.pm_dtext.proofs.Steps.{same_some}
use Rattle.pm_check.specs.declared.fault.CheckFault.{CheckFault}
use Rattle.pm_check.specs.declared.fault.CheckFault.TheVariants.{Refused}
use Rattle.pm_check.specs.declared.fault.QedCondition.{QedCondition}
use Rattle.pm_check.specs.declared.fault.QedCondition.TheVariants as qed_condition
use Rattle.pm_check.specs.declared.fault.Failed.TheVariants as failed
use Rattle.pm_check.specs.Lines.{steps, names, cited, is_used, LineFollows, StepFails, QedFails, FirstUnmetByQed, qed_condition_number}
use Rattle.pm_check.specs.Derivation.{next_number}
use Rattle.pm_check.specs.Kept.{Refuses, step as refused_step, qed as refused_qed}

-- ---- what can't be both

abbrev pub ReadLine : Type 0
ReadLine = Result (Line × List ℕ) Fault

pub ok_is : (p q : Line × List ℕ) → (let r : ReadLine = Ok p in r) ≡ Ok q → p ≡ q
ok_is p q e = cc

pub err_is : (f g : Fault) → (let r : ReadLine = Err f in r) ≡ Err g → f ≡ g
err_is f g e = cc

pub ok_or_err : (p : Line × List ℕ) (f : Fault) → (let r : ReadLine = Ok p in r) ≡ Err f → ⊥
ok_or_err p f e = cc

-- ---- one condition is the first that is unmet

-- of claims in order, numbered from k, the first that fails
abbrev FirstOf : ℕ → List (Type 0) → ℕ → Type 0
FirstOf k [] n = ⊥
FirstOf k (P ∷ Ps) n = ((n ≡ k) × ¬ P) ⊎ (P × FirstOf (suc k) Ps n)

first_once : (k : ℕ) (Ps : List (Type 0)) (m n : ℕ) → FirstOf k Ps m → FirstOf k Ps n → m ≡ n
first_once k [] m n f g = absurd f
first_once k (P ∷ Ps) m n f g = elim f [
  | inl a ↦ elim g [ inl b ↦ a.0 ∙ sym b.0 | inr b ↦ absurd (a.1 b.0) ]
  | inr a ↦ elim g [ inl b ↦ absurd (b.1 a.0) | inr b ↦ first_once (suc k) Ps m n a.1 b.1 ]
]

-- the conditions of a rule
abbrev rule_conditions : Preds → Rule → List Entail → Entail → List (Type 0)
rule_conditions preds rule ps e = HasPremises rule ps ∷ HasVariables rule ps e ∷ HasArguments rule ps ∷ HasShape preds rule ps e ∷ HasBracket rule e ∷ []

rule_first : (preds : Preds) (rule : Rule) (ps : List Entail) (e : Entail) (c : Condition) → FirstUnmet preds rule ps e c → FirstOf 1 (rule_conditions preds rule ps e) (condition_number c)
rule_first preds rule ps e condition.Premises f = inl (refl, f)
rule_first preds rule ps e condition.Variables f = inr (f.0, inl (refl, f.1))
rule_first preds rule ps e condition.Arguments f = inr (f.0, inr (f.1, inl (refl, f.2)))
rule_first preds rule ps e condition.Shape f = inr (f.0, inr (f.1, inr (f.2, inl (refl, f.3))))
rule_first preds rule ps e condition.Bracket f = inr (f.0, inr (f.1, inr (f.2, inr (f.3, inl (refl, f.4)))))

unmet_or_ok : (preds : Preds) (rule : Rule) (ps : List Entail) (e : Entail) (c : Condition) → FirstUnmet preds rule ps e c → RuleOk preds rule ps e → ⊥
unmet_or_ok preds rule ps e condition.Premises f ok = f ok.premises
unmet_or_ok preds rule ps e condition.Variables f ok = f.1 ok.variables
unmet_or_ok preds rule ps e condition.Arguments f ok = f.2 ok.arguments
unmet_or_ok preds rule ps e condition.Shape f ok = f.3 ok.shape
unmet_or_ok preds rule ps e condition.Bracket f ok = f.4 ok.bracket

-- conditions differ in their numbers
abbrev condition_of : ℕ → Condition
condition_of (suc zero) = condition.Premises
condition_of (suc (suc zero)) = condition.Variables
condition_of (suc (suc (suc zero))) = condition.Arguments
condition_of (suc (suc (suc (suc zero)))) = condition.Shape
condition_of _ = condition.Bracket

numbered : (c : Condition) → condition_of (condition_number c) ≡ c
numbered condition.Premises = refl
numbered condition.Variables = refl
numbered condition.Arguments = refl
numbered condition.Shape = refl
numbered condition.Bracket = refl

not_both : (b : Bool) → b ≡ true → b ≡ false → ⊥
not_both b t f = cc

-- the conditions of a `qed`
abbrev qed_conditions : Entail → List (List ℕ) → List ℕ → List (Type 0)
qed_conditions e used name = (e.vars ≡ 0) ∷ (e.left ≡ Fact True) ∷ (is_used used name ≡ false) ∷ []

qed_first : (e : Entail) (used : List (List ℕ)) (name : List ℕ) (c : QedCondition) → FirstUnmetByQed e used name c → FirstOf 1 (qed_conditions e used name) (qed_condition_number c)
qed_first e used name qed_condition.Variables f = inl (refl, f)
qed_first e used name qed_condition.LeftSide f = inr (f.0, inl (refl, f.1))
qed_first e used name qed_condition.Name f = inr (f.0, inr (f.1, inl (refl, not_both (is_used used name) f.2)))

qed_unmet_or_ok : (e : Entail) (used : List (List ℕ)) (name : List ℕ) (c : QedCondition) → FirstUnmetByQed e used name c → e.vars ≡ 0 → e.left ≡ Fact True → is_used used name ≡ false → ⊥
qed_unmet_or_ok e used name qed_condition.Variables f closed left fresh = f closed
qed_unmet_or_ok e used name qed_condition.LeftSide f closed left fresh = f.1 left
qed_unmet_or_ok e used name qed_condition.Name f closed left fresh = not_both (is_used used name) f.2 fresh

abbrev qed_condition_of : ℕ → QedCondition
qed_condition_of (suc zero) = qed_condition.Variables
qed_condition_of (suc (suc zero)) = qed_condition.LeftSide
qed_condition_of _ = qed_condition.Name

qed_numbered : (c : QedCondition) → qed_condition_of (qed_condition_number c) ≡ c
qed_numbered qed_condition.Variables = refl
qed_numbered qed_condition.LeftSide = refl
qed_numbered qed_condition.Name = refl

unmet_is : (u w : Unmet) → u.rule ≡ w.rule → u.condition ≡ w.condition → u ≡ w
unmet_is u w a b = ap₂ (λ r c. let x : Unmet = record { rule = r; condition = c } in x) a b

step_once : (preds : Preds) (es : List Entail) (rule : Rule) (first second : Option ℕ) (e : Entail) (u w : Unmet) → StepFails preds es rule first second e u → StepFails preds es rule first second e w → u ≡ w
step_once preds es rule first second e u w f g =
    let ps = premises (cited es first) (cited es second) in
    let numbers = first_once 1 (rule_conditions preds rule ps e) (condition_number u.condition) (condition_number w.condition) (rule_first preds rule ps e u.condition f.fails) (rule_first preds rule ps e w.condition g.fails) in
    unmet_is u w (f.rule_is ∙ sym g.rule_is) (sym (numbered u.condition) ∙ ap condition_of numbers ∙ numbered w.condition)

qed_once : (es : List Entail) (used : List (List ℕ)) (name : List ℕ) (n : ℕ) (c d : QedCondition) → QedFails es used name n c → QedFails es used name n d → c ≡ d
qed_once es used name n c d f g =
    let same : g.line ≡ f.line = same_some g.line f.line (sym g.there ∙ f.there) in
    let g_fails : FirstUnmetByQed f.line used name d = subst (λ (e : Entail). FirstUnmetByQed e used name d) same g.fails in
    let numbers = first_once 1 (qed_conditions f.line used name) (qed_condition_number c) (qed_condition_number d) (qed_first f.line used name c f.fails) (qed_first f.line used name d g_fails) in
    sym (qed_numbered c) ∙ ap qed_condition_of numbers ∙ qed_numbered d

pub refuses_once : (preds : Preds) (before : List Line) (l : Line) (f g : CheckFault) → Refuses preds before l f → Refuses preds before l g → f ≡ g
refuses_once preds before _ _ _ (refused_step rule first second e u a) (refused_step rule' first' second' e' w b) = ap (λ x. Refused (next_number before) (failed.Step x)) (step_once preds (steps before) rule first second e u w a b)
refuses_once preds before _ _ _ (refused_qed name n c a) (refused_qed name' n' d b) = ap (λ x. Refused n (failed.Qed x)) (qed_once (steps before) (names before) name n c d a b)

pub refuses_not : (preds : Preds) (before : List Line) (l : Line) (f : CheckFault) → Refuses preds before l f → LineFollows preds (steps before) (names before) l → ⊥
refuses_not preds before _ _ (refused_step rule first second e u a) ok = unmet_or_ok preds rule (premises (cited (steps before) first) (cited (steps before) second)) e u.condition a.fails ok
refuses_not preds before _ _ (refused_qed name n c a) ok =
    let same : ok.line ≡ a.line = same_some ok.line a.line (sym ok.there ∙ a.there) in
    qed_unmet_or_ok a.line (names before) name c a.fails (ap (λ (e : Entail). e.vars) (sym same) ∙ ok.closed) (ap (λ (e : Entail). e.left) (sym same) ∙ ok.left) ok.new
