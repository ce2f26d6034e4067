-- The texts of lines, from the texts of their parts.
use Rattle.std.proofs.Common.{◌≡◌, ◌<◌, ◌≤◌, ◌-◌, ℕ, List, [], ◌∷◌, ◌++◌, length, get_or, take, drop, refl, sym, ◌∙◌, ap, arith, append_assoc, append-nil, Option, Some, None, Result, Ok, Err}
use Rattle.std.specs.Prelude.{codes, OnOk, ℤ}
use Rattle.std.specs.Fmt.{decimal, signed_decimal}
use Rattle.pm_logic.specs.declared.list.Memory.{Memory}
use Rattle.pm_logic.specs.declared.formula.Formula.{Formula}
use Rattle.pm_logic.specs.declared.formula.Term.{Term}
use Rattle.pm_rules.specs.declared.rules.Rule.{Rule}
use Rattle.pm_rules.specs.declared.rules.Rule.TheVariants as rule
use Rattle.pm_rules.specs.declared.rules.Entail.{Entail}
use Rattle.pm_dtext.specs.declared.line.Line.TheVariants.{Step}
use Rattle.pm_dtext.specs.Spelling.{formula_text, term_text, literal_text, items_text, list_text, rule_name, args_text, cite_text, entail_text, line_text}
use Rattle.pm_write.proofs.Spelled.{formula_before, take_all}
use Rattle.pm_write.proofs.Arguments.{args_before, list_before, literal_before}

-- ---- pieces one after the other

pub five : (t₀ t₁ t₂ t₃ t₄ t₅ a b c d e total : List ℕ) (r : Result (Unit {0}) Memory) → t₁ ≡ t₀ ++ a → t₂ ≡ t₁ ++ b → t₃ ≡ t₂ ++ c → t₄ ≡ t₃ ++ d → OnOk r (t₅ ≡ t₄ ++ e) → total ≡ a ++ (b ++ (c ++ (d ++ e))) → OnOk r (t₅ ≡ t₀ ++ total)
five t₀ t₁ t₂ t₃ t₄ t₅ a b c d e total (Ok u) h₁ h₂ h₃ h₄ h₅ whole = h₅ ∙ rw (h₄, h₃, h₂, h₁, whole) (simp append_assoc)
five t₀ t₁ t₂ t₃ t₄ t₅ a b c d e total (Err x) h₁ h₂ h₃ h₄ h₅ whole = tt

-- a piece that is spelled in another way
pub one : (t₀ t₁ a total : List ℕ) (r : Result (Unit {0}) Memory) → OnOk r (t₁ ≡ t₀ ++ a) → total ≡ a → OnOk r (t₁ ≡ t₀ ++ total)
one t₀ t₁ a total (Ok u) h whole = h ∙ ap (λ t. t₀ ++ t) (sym whole)
one t₀ t₁ a total (Err x) h whole = tt

-- ---- arguments

pub no_factors : (zs : List ℤ) (out : List ℕ) → length zs < 1 → out ≡ out ++ items_text literal_text zs []
unfolding items_text
no_factors [] out few = sym (append-nil out)
no_factors (z ∷ zs) out few = absurd (omega arith)

pub more_factors : (zs : List ℤ) (d : ℤ) (word : List ℕ) → 1 ≤ length zs → word ≡ codes " " ++ signed_decimal (get_or zs 0 d) → items_text literal_text zs [] ≡ word ++ items_text literal_text (take (length zs - 1) (drop 1 zs)) []
unfolding items_text
more_factors [] d word some e = absurd (omega arith)
more_factors (x ∷ zs) d word some e =
    ap (λ t. t ++ items_text literal_text zs []) (sym e)
    ∙ ap (λ ys. word ++ items_text literal_text ys []) (sym (take_all zs (length (x ∷ zs) - 1) (omega arith)))

pub counted : {A : Type 0} (text : A → List ℕ → List ℕ) (xs : List A) (n : ℕ) (word : List ℕ) → word ≡ codes " " ++ decimal n → n ≡ length xs → 32 ∷ list_text text xs [] ≡ word ++ items_text text xs []
counted text xs n word e count = ap (λ m. 32 ∷ (decimal m ++ items_text text xs [])) (sym count) ∙ ap (λ w. w ++ items_text text xs []) (sym e)

pub inst_text : (r : Rule) (sigma sigma' : List Term) → r ≡ rule.Inst sigma → sigma' ≡ sigma → args_text r [] ≡ 32 ∷ list_text term_text sigma' []
unfolding args_text
inst_text r sigma sigma' e same = rw (e, same) refl

pub all_text : (r : Rule) (t : Term) → r ≡ rule.AllE t → args_text r [] ≡ codes " " ++ term_text t []
unfolding args_text
all_text r t e = rw e refl

pub exists_text : (r : Rule) (t : Term) → r ≡ rule.ExI t → args_text r [] ≡ codes " " ++ term_text t []
unfolding args_text
exists_text r t e = rw e refl

pub rewrite_text : (r : Rule) (b : Formula) → r ≡ rule.Rewrite b → args_text r [] ≡ codes " " ++ formula_text b []
unfolding args_text
rewrite_text r b e = rw e refl

pub linear_text : (r : Rule) (c d c' d' : List ℤ) → r ≡ rule.Linear c d → c' ≡ c → d' ≡ d → args_text r [] ≡ (32 ∷ list_text literal_text c' []) ++ (32 ∷ list_text literal_text d' [])
unfolding args_text
linear_text r c d c' d' e same same' = rw (e, same, same') (ap (λ t. 32 ∷ t) (list_before literal_text literal_before c [] (32 ∷ list_text literal_text d [])))

-- ---- citations

pub cited_text : (o : Option ℕ) (n : ℕ) (t : List ℕ) → o ≡ Some n → t ≡ codes " " ++ decimal n → cite_text o [] ≡ t
cited_text o n t is e = ap (λ x. cite_text x []) is ∙ sym (e ∙ ap (λ x. 32 ∷ x) (sym (append-nil (decimal n))))

pub cite_onto : (o : Option ℕ) (t rest : List ℕ) → cite_text o (t ++ rest) ≡ cite_text o t ++ rest
cite_onto None t rest = refl
cite_onto (Some n) t rest = ap (λ r. 32 ∷ r) (sym (append_assoc (decimal n) t rest))

-- ---- proof lines

two_sides : (p q : Formula) → formula_text p (32 ∷ formula_text q (10 ∷ [])) ≡ formula_text p [] ++ (32 ∷ (formula_text q [] ++ 10 ∷ []))
two_sides p q = formula_before p (32 ∷ formula_text q (10 ∷ [])) ∙ ap (λ t. formula_text p [] ++ (32 ∷ t)) (formula_before q (10 ∷ []))

pub step_text : (n : ℕ) (r : Rule) (first second : Option ℕ) (e : Entail) → line_text n (Step r first second e) []
    ≡ (decimal n ++ (32 ∷ (rule_name r ++ (32 ∷ decimal e.vars))))
    ++ (cite_text first [] ++ (cite_text second [] ++ (args_text r [] ++ (32 ∷ (formula_text e.left [] ++ (32 ∷ (formula_text e.right [] ++ 10 ∷ [])))))))
step_text n r first second e =
    let sides : List ℕ = 32 ∷ (formula_text e.left [] ++ (32 ∷ (formula_text e.right [] ++ 10 ∷ []))) in
    let all : cite_text first (cite_text second (args_text r (entail_text e (10 ∷ [])))) ≡ cite_text first [] ++ (cite_text second [] ++ (args_text r [] ++ sides))
    = ap (λ t. cite_text first (cite_text second (args_text r (32 ∷ t)))) (two_sides e.left e.right)
    ∙ ap (λ t. cite_text first (cite_text second t)) (args_before r [] sides)
    ∙ ap (cite_text first) (cite_onto second [] (args_text r [] ++ sides))
    ∙ cite_onto first [] (cite_text second [] ++ (args_text r [] ++ sides)) in
    ap (λ t. decimal n ++ (32 ∷ (rule_name r ++ (32 ∷ (decimal e.vars ++ t))))) all
    ∙ regroup (decimal n) (rule_name r) (decimal e.vars) (cite_text first [] ++ (cite_text second [] ++ (args_text r [] ++ sides)))
  where
    regroup : (a b c d : List ℕ) → a ++ (32 ∷ (b ++ (32 ∷ (c ++ d)))) ≡ (a ++ (32 ∷ (b ++ (32 ∷ c)))) ++ d
    regroup a b c d = simp append_assoc
