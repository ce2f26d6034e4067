-- What is kept of lines, and one line more.
use Rattle.std.proofs.Common.{◌≡◌, ℕ, zero, suc, ◌+◌, ◌-◌, ◌≤◌, Bool, true, false, ◌||◌, List, [], ◌∷◌, ◌++◌, length, refl, sym, ◌∙◌, ap, ap₂, subst, arith, Option, Some, None, Result, Ok, Err, not, append-nil, inl, inr}
use Rattle.std.specs.Prelude.{slice_get, Vec}
use Rattle.std.specs.List.{AllByRecursion}
use Rattle.std.specs.Option.{option_to_list, option_map}
use Rattle.std.specs.Str.{bytes_eq}
use Rattle.std.proofs.lemmas.List.{append_assoc}
use Rattle.std.specs.declared.alloc.Global.{Global}
use Rattle.pm_logic.specs.declared.formula.Formula.TheVariants.{Pure as Fact}
use Rattle.pm_logic.specs.declared.formula.Pure.TheVariants.{True}
use Rattle.pm_logic.specs.declared.formula.Preds.{Preds}
use Rattle.pm_rules.specs.declared.rules.Rule.{Rule}
use Rattle.pm_rules.specs.declared.rules.Rule.TheVariants.{Rewrite}
use Rattle.pm_rules.specs.declared.rules.Entail.{Entail}
use Rattle.pm_rules.specs.declared.rules.Unmet.{Unmet}
use Rattle.pm_rules.specs.Rules.{premises, AreFit, RuleOk, Decides, HasFitTemplate}
use Rattle.pm_dtext.specs.declared.line.Line.{Line}
use Rattle.pm_dtext.specs.declared.line.Line.TheVariants.{Step, Qed}
use Rattle.pm_dtext.specs.Ranges.{LineFits, ArgsFit, FormulaFits}
use Rattle.pm_dtext.specs.Texts.{arities_of}
use Rattle.pm_check.specs.declared.checked.Statement.{Statement}
use Rattle.pm_check.specs.declared.kept.Kept.{Kept}
use Rattle.pm_check.specs.declared.fault.CheckFault.{CheckFault}
use Rattle.pm_check.specs.declared.fault.CheckFault.TheVariants.{Refused, Memory}
use Rattle.pm_check.specs.declared.fault.QedCondition.{QedCondition}
use Rattle.pm_check.specs.declared.fault.QedCondition.TheVariants.{Variables, LeftSide, Name}
use Rattle.pm_check.specs.declared.fault.Failed.TheVariants as failed
use Rattle.pm_check.specs.Lines.{steps, names, proof_line, cited, statement, statements_behind, is_used, StepFollows, QedFollows, StepFails, FirstUnmetByQed}
use Rattle.pm_check.specs.Derivation.{next_number, IsNext}
use Rattle.pm_name_sets.specs.Sets.{has, Adds}
use Rattle.pm_check.specs.Kept.{IsReady, Keeps, Refuses, step, qed, TakesLine}
use Rattle.pm_check.proofs.Growing.{each_none, each_more}
use Rattle.pm_check.proofs.Ready.{is_fit}

-- ---- the longer list

pub steps_more : (ls : List Line) (l : Line) → steps (ls ++ l ∷ []) ≡ steps ls ++ steps (l ∷ [])
steps_more [] l = refl
steps_more (Step r f s e ∷ ls) l = ap (λ es. e ∷ es) (steps_more ls l)
steps_more (Qed n c ∷ ls) l = steps_more ls l

pub names_more : (ls : List Line) (l : Line) → names (ls ++ l ∷ []) ≡ names ls ++ names (l ∷ [])
names_more [] l = refl
names_more (Step r f s e ∷ ls) l = names_more ls l
names_more (Qed n c ∷ ls) l = ap (λ ns. n ∷ ns) (names_more ls l)

pub statements_more : (es : List Entail) (ls : List Line) (l : Line) → statements_behind es (ls ++ l ∷ []) ≡ statements_behind es ls ++ statements_behind (es ++ steps ls) (l ∷ [])
statements_more es [] l = ap (λ xs. statements_behind xs (l ∷ [])) (sym (simp append-nil))
statements_more es (Step r f s e ∷ ls) l = statements_more (es ++ e ∷ []) ls l ∙ ap (λ xs. statements_behind (es ++ e ∷ []) ls ++ statements_behind xs (l ∷ [])) (append_assoc es (e ∷ []) (steps ls))
statements_more es (Qed n c ∷ ls) l =
    let own = option_to_list (option_map (statement n) (proof_line es c)) in
    ap (λ xs. own ++ xs) (statements_more es ls l) ∙ sym (append_assoc own (statements_behind es ls) (statements_behind (es ++ steps ls) (l ∷ [])))

or_assoc : (a b c : Bool) → (a || (b || c)) ≡ ((a || b) || c)
or_assoc true b c = refl
or_assoc false b c = refl

or_false : (b : Bool) → (b || false) ≡ b
or_false true = refl
or_false false = refl

used_more : (used : List (List ℕ)) (name other : List ℕ) → is_used (used ++ name ∷ []) other ≡ (is_used used other || bytes_eq other name)
used_more [] name other = or_false (bytes_eq other name)
used_more (x ∷ used) name other = ap (λ b. bytes_eq other x || b) (used_more used name other) ∙ or_assoc (bytes_eq other x) (is_used used other) (bytes_eq other name)

-- ---- nothing is kept yet

pub keeps_none : (preds : Preds) (k : Kept) → k.preds ≡ preds → k.steps.items ≡ [] → k.names ≡ [] → k.statements ≡ [] → Keeps preds [] k
keeps_none preds k p s n t = record {
  preds_are = p;
  each = each_none (IsNext preds);
  steps_are = s;
  names_are = λ name. ap (λ (set : List (List ℕ)). has set name) n;
  statements_are = t;
}

-- ---- a proof line

-- what the rules ask
args_fit : (preds : Preds) (k : ℕ) (rule : Rule) → k ≤ 1000 → ArgsFit (arities_of preds.list) k rule → HasFitTemplate preds rule k
unfolding HasFitTemplate ArgsFit
args_fit preds k (Rewrite b) small fit = let more : suc k ≡ k + 1 = omega arith in is_fit preds (k + 1) b (omega arith) (subst (λ (n : ℕ). FormulaFits (arities_of preds.list) n b) more fit)
args_fit preds k _ small fit = tt

pub template_fit : (preds : Preds) (n : ℕ) (rule : Rule) (first second : Option ℕ) (e : Entail) → LineFits (arities_of preds.list) n (Step rule first second e) → HasFitTemplate preds rule e.vars
template_fit preds n rule first second e fits = let small = fits.vars in args_fit preds e.vars rule (omega arith) fits.args

pub line_fit : (preds : Preds) (n : ℕ) (rule : Rule) (first second : Option ℕ) (e : Entail) → LineFits (arities_of preds.list) n (Step rule first second e) → AreFit preds e
line_fit preds n rule first second e fits = let small = fits.vars in record { left = is_fit preds e.vars e.left (omega arith) fits.left; right = is_fit preds e.vars e.right (omega arith) fits.right }

fit_at : (preds : Preds) (es : List Entail) (k : ℕ) → AllByRecursion (AreFit preds) es → AllByRecursion (AreFit preds) (option_to_list (slice_get es k))
fit_at preds [] k fit = tt
fit_at preds (x ∷ es) zero fit = (fit.0, tt)
fit_at preds (x ∷ es) (suc k) fit = fit_at preds es k fit.1

cited_fit : (preds : Preds) (es : List Entail) (o : Option ℕ) → AllByRecursion (AreFit preds) es → AllByRecursion (AreFit preds) (option_to_list (cited es o))
cited_fit preds es None fit = tt
cited_fit preds es (Some zero) fit = tt
cited_fit preds es (Some (suc k)) fit = fit_at preds es k fit

all_joined : (preds : Preds) (xs ys : List Entail) → AllByRecursion (AreFit preds) xs → AllByRecursion (AreFit preds) ys → AllByRecursion (AreFit preds) (xs ++ ys)
all_joined preds [] ys h k = k
all_joined preds (x ∷ xs) ys h k = (h.0, all_joined preds xs ys h.1 k)

pub premises_fit : (preds : Preds) (es : List Entail) (first second : Option ℕ) (p q : Option Entail) → IsReady preds es → p ≡ cited es first → q ≡ cited es second → AllByRecursion (AreFit preds) (premises p q)
premises_fit preds es first second p q ready a b =
    let joined = all_joined preds (option_to_list (cited es first)) (option_to_list (cited es second)) (cited_fit preds es first ready.steps) (cited_fit preds es second ready.steps) in
    subst (λ (o : Option Entail). AllByRecursion (AreFit preds) (premises o q)) (sym a) (subst (λ (o : Option Entail). AllByRecursion (AreFit preds) (premises (cited es first) o)) (sym b) joined)

pub ready_more : (preds : Preds) (es : List Entail) (e : Entail) → IsReady preds es → AreFit preds e → IsReady preds (es ++ e ∷ [])
ready_more preds es e ready fit = record { bodies = ready.bodies; steps = all_joined preds es (e ∷ []) ready.steps (fit, tt) }

abbrev Takes : Kept → Line → Kept → Result (Unit {0}) CheckFault → Type 0
Takes old l new r = TakesLine old l new r

pub step_kept : (old new : Kept) (rule : Rule) (first second : Option ℕ) (e : Entail) (p q : Option Entail) (u : Unit {0}) → p ≡ cited old.steps.items first → q ≡ cited old.steps.items second → RuleOk old.preds rule (premises p q) e → new.preds ≡ old.preds → new.steps.items ≡ old.steps.items ++ e ∷ [] → new.names ≡ old.names → new.statements ≡ old.statements → Takes old (Step rule first second e) new (Ok u)
step_kept old new rule first second e p q u p_is q_is ok ps s n t = record {
  behind = λ preds ls k fits.
      let l : Line = Step rule first second e in
      let ok' : StepFollows old.preds old.steps.items rule first second e = subst (λ (o : Option Entail). RuleOk old.preds rule (premises (cited old.steps.items first) o) e) q_is (subst (λ (o : Option Entail). RuleOk old.preds rule (premises o q) e) p_is ok) in
      let follows : StepFollows preds (steps ls) rule first second e = subst (λ (es : List Entail). StepFollows preds es rule first second e) k.steps_are (subst (λ (x : Preds). StepFollows x old.steps.items rule first second e) k.preds_are ok') in
      record {
        preds_are = ps ∙ k.preds_are;
        each = each_more (IsNext preds) ls l k.each (record { fits = fits; follows = follows });
        steps_are = s ∙ ap (λ es. es ++ e ∷ []) k.steps_are ∙ sym (steps_more ls l);
        names_are = λ name. ap (λ (u : List (List ℕ)). has u name) n ∙ k.names_are name ∙ ap (λ ns. is_used ns name) (sym (names_more ls l ∙ simp append-nil));
        statements_are = t ∙ k.statements_are ∙ sym (statements_more [] ls l ∙ simp append-nil);
      };
}

abbrev Unmets : Preds → Rule → Option Entail → Option Entail → Entail → Unmet → Type 0
Unmets preds rule p q e u = let r : Result (Unit {0}) Unmet = Err u in Decides preds rule (premises p q) e r

pub step_refused : (old new : Kept) (rule : Rule) (first second : Option ℕ) (e : Entail) (p q : Option Entail) (line : ℕ) (u : Unmet) → p ≡ cited old.steps.items first → q ≡ cited old.steps.items second → Unmets old.preds rule p q e u → line ≡ length old.steps.items → Takes old (Step rule first second e) new (Err (Refused (line + 1) (failed.Step u)))
step_refused old new rule first second e p q line u p_is q_is bad is = record {
  behind = λ preds ls k fits.
      let bad' : Unmets old.preds rule (cited old.steps.items first) (cited old.steps.items second) e u = subst (λ (o : Option Entail). Unmets old.preds rule (cited old.steps.items first) o e u) q_is (subst (λ (o : Option Entail). Unmets old.preds rule o q e u) p_is bad) in
      let fails : StepFails preds (steps ls) rule first second e u = subst (λ (es : List Entail). StepFails preds es rule first second e u) k.steps_are (subst (λ (x : Preds). StepFails x old.steps.items rule first second e u) k.preds_are (record { rule_is = bad'.0; fails = bad'.1 })) in
      let count : line ≡ length (steps ls) = is ∙ ap length k.steps_are in
      let same : line + 1 ≡ next_number ls = omega arith in
      inr (subst (λ (n : ℕ). Refuses preds ls (Step rule first second e) (Refused n (failed.Step u))) (sym same) (step rule first second e u fails));
}

pub no_memory : (old new : Kept) (l : Line) (f : CheckFault) → f ≡ Memory → Takes old l new (Err f)
no_memory old new l f e = record { behind = λ preds ls k fits. inl e }

-- ---- a statement

qed_refused : (old new : Kept) (name : List ℕ) (n : ℕ) (es : List Entail) (line : Entail) (condition : QedCondition) (g : CheckFault) → es ≡ old.steps.items → proof_line es n ≡ Some line → g ≡ Refused n (failed.Qed condition) → ((used : List (List ℕ)) → ((other : List ℕ) → has old.names other ≡ is_used used other) → FirstUnmetByQed line used name condition) → Takes old (Qed name n) new (Err g)
qed_refused old new name n es line condition g es_is there g_is fails = record {
  behind = λ preds ls k fits.
      let there' : proof_line (steps ls) n ≡ Some line = ap (λ xs. proof_line xs n) (sym (es_is ∙ k.steps_are)) ∙ there in
      let bad = qed name n condition (record { line = line; there = there'; fails = fails (names ls) k.names_are }) in
      inr (subst (λ (f : CheckFault). Refuses preds ls (Qed name n) f) (sym g_is) bad);
}

pub has_variables : (old new : Kept) (name : List ℕ) (n : ℕ) (es : List Entail) (line : Entail) (g : CheckFault) → es ≡ old.steps.items → proof_line es n ≡ Some line → g ≡ Refused n (failed.Qed Variables) → ¬ (line.vars ≡ 0) → Takes old (Qed name n) new (Err g)
has_variables old new name n es line g es_is there g_is bad = qed_refused old new name n es line Variables g es_is there g_is (λ used are. bad)

pub lacks_truth : (old new : Kept) (name : List ℕ) (n : ℕ) (es : List Entail) (line : Entail) (g : CheckFault) → es ≡ old.steps.items → proof_line es n ≡ Some line → g ≡ Refused n (failed.Qed LeftSide) → line.vars ≡ 0 → ¬ (line.left ≡ Fact True) → Takes old (Qed name n) new (Err g)
lacks_truth old new name n es line g es_is there g_is closed bad = qed_refused old new name n es line LeftSide g es_is there g_is (λ used are. (closed, bad))

pub name_taken : (old new : Kept) (name : List ℕ) (n : ℕ) (es : List Entail) (line : Entail) (g : CheckFault) → es ≡ old.steps.items → proof_line es n ≡ Some line → g ≡ Refused n (failed.Qed Name) → line.vars ≡ 0 → line.left ≡ Fact True → false ≡ not (has old.names name) → Takes old (Qed name n) new (Err g)
name_taken old new name n es line g es_is there g_is closed left taken = qed_refused old new name n es line Name g es_is there g_is (λ used are. (closed, left, sym (are name) ∙ was (has old.names name) taken))
  where
    was : (b : Bool) → false ≡ not b → b ≡ true
    was true e = refl
    was false e = absurd cc

pub qed_kept : (old new : Kept) (name : List ℕ) (n : ℕ) (es : List Entail) (line : Entail) (made : Statement) (u : Unit {0}) → es ≡ old.steps.items → proof_line es n ≡ Some line → line.vars ≡ 0 → line.left ≡ Fact True → true ≡ not (has old.names name) → Adds old.names new.names name → new.preds ≡ old.preds → new.steps ≡ old.steps → new.statements ≡ old.statements ++ made ∷ [] → made ≡ statement name line → Takes old (Qed name n) new (Ok u)
qed_kept old new name n es line made u es_is there closed left fresh adds p s t made_is = record {
  behind = λ preds ls k fits.
      let l : Line = Qed name n in
      let there' : proof_line (steps ls) n ≡ Some line = ap (λ xs. proof_line xs n) (sym (es_is ∙ k.steps_are)) ∙ there in
      let follows : QedFollows (steps ls) (names ls) name n = record { line = line; there = there'; closed = closed; left = left; new = sym (k.names_are name) ∙ free (has old.names name) fresh } in
      let stated : statements_behind (steps ls) (l ∷ []) ≡ statement name line ∷ [] = ap (λ o. option_to_list (option_map (statement name) o) ++ []) there' in
      record {
        preds_are = p ∙ k.preds_are;
        each = each_more (IsNext preds) ls l k.each (record { fits = fits; follows = follows });
        steps_are = ap (λ (v : Vec Entail Global). v.items) s ∙ k.steps_are ∙ sym (steps_more ls l ∙ simp append-nil);
        names_are = λ other. adds.has other ∙ ap (λ b. b || bytes_eq other name) (k.names_are other) ∙ sym (used_more (names ls) name other) ∙ ap (λ ns. is_used ns other) (sym (names_more ls l));
        statements_are = t ∙ ap₂ (λ xs x. xs ++ x ∷ []) k.statements_are made_is ∙ ap (λ xs. statements_behind [] ls ++ xs) (sym stated) ∙ sym (statements_more [] ls l);
      };
}
  where
    free : (b : Bool) → true ≡ not b → b ≡ false
    free true e = absurd cc
    free false e = refl

pub line_there : (es : List Entail) (n : ℕ) (line : Entail) → 1 ≤ n → slice_get es (n - 1) ≡ Some line → proof_line es n ≡ Some line
line_there es zero line some e = absurd (omega arith)
line_there es (suc k) line some e = let same : suc k - 1 ≡ k = omega arith in ap (slice_get es) (sym same) ∙ e
