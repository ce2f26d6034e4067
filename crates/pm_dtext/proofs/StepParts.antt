-- A proof line is read as its parts are.
use Rattle.std.proofs.Common.{◌≡◌, ℕ, List, refl, ◌∙◌, Result, Ok, Err}
use Rattle.std.specs.Prelude.{nat_le}
use Rattle.std.specs.Fmt.{decimal}
use Rattle.pm_logic.specs.declared.limits.TheConstants.{MAX_LINE_VARIABLES}
use Rattle.pm_dtext.specs.declared.fault.Fault.{Fault}
use Rattle.pm_dtext.specs.declared.signs.RuleSign.{RuleSign}
use Rattle.pm_dtext.specs.declared.line.Line.TheVariants.{Step}
use Rattle.pm_dtext.specs.Reading.{◌>>=◌, expect_at, part_at, says_at, rule_sign_of, up_to, cite_at, count_of, args_at, entail_at, ends_at, step_at}
use Rattle.pm_dtext.specs.Parts.{front_at, cites_at, derived_at, step_in_parts}

along : {A B C : Type 0} (r : Result A Fault) (f : A → Result B Fault) (g : B → Result C Fault) → ((r >>= f) >>= g) ≡ (r >>= λ x. f x >>= g)
along (Ok x) f g = refl
along (Err e) f g = refl

same_rest : {A B : Type 0} (r : Result A Fault) (f g : A → Result B Fault) → ((x : A) → f x ≡ g x) → (r >>= f) ≡ (r >>= g)
same_rest (Ok x) f g h = h x
same_rest (Err e) f g h = refl

-- reading goes on behind what two steps read
two_steps : {A B C D : Type 0} (r : Result A Fault) (s : A → Result B Fault) (make : A → B → C) (go : C → Result D Fault) → ((r >>= λ a. s a >>= λ b. Ok (make a b)) >>= go) ≡ (r >>= λ a. s a >>= λ b. go (make a b))
two_steps r s make go = along r (λ a. s a >>= λ b. Ok (make a b)) go ∙ same_rest r (λ a. (s a >>= λ b. Ok (make a b)) >>= go) (λ a. s a >>= λ b. go (make a b)) (λ a. along (s a) (λ b. Ok (make a b)) go)

-- what is read behind the front of a proof line
behind_front : (arities : List ℕ) (n k : ℕ) (sign : RuleSign) (rest : List ℕ) → (cites_at n (count_of sign) rest >>= λ c. derived_at arities k sign c.2 >>= λ d. ends_at (Step d.0 c.0 c.1 d.1, d.2)) ≡ (cite_at n (nat_le 1 (count_of sign)) rest >>= λ first. cite_at n (nat_le 2 (count_of sign)) first.1 >>= λ second. args_at arities k sign second.1 >>= λ rule. entail_at arities k rule.1 >>= λ e. ends_at (Step rule.0 first.0 second.0 e.0, e.1))
unfolding cites_at derived_at
behind_front arities n k sign rest =
    two_steps (cite_at n (nat_le 1 (count_of sign)) rest) (λ first. cite_at n (nat_le 2 (count_of sign)) first.1) (λ first second. (first.0, second.0, second.1)) (λ c. derived_at arities k sign c.2 >>= λ d. ends_at (Step d.0 c.0 c.1 d.1, d.2))
    ∙ same_rest (cite_at n (nat_le 1 (count_of sign)) rest) _ _ (λ first.
    same_rest (cite_at n (nat_le 2 (count_of sign)) first.1) _ _ (λ second.
    two_steps (args_at arities k sign second.1) (λ rule. entail_at arities k rule.1) (λ rule e. (rule.0, e.0, e.1)) (λ d. ends_at (Step d.0 first.0 second.0 d.1, d.2))))

pub step_whole : (arities : List ℕ) (n : ℕ) (bytes : List ℕ) → step_in_parts arities n bytes ≡ step_at arities n bytes
unfolding step_at step_in_parts front_at
step_whole arities n bytes =
    along (expect_at (decimal n) bytes) _ _
    ∙ same_rest (expect_at (decimal n) bytes) _ _ (λ a.
    two_steps (part_at (says_at rule_sign_of) a) (λ sign. part_at (says_at (up_to MAX_LINE_VARIABLES)) sign.1) (λ sign k. (sign.0, k.0, k.1)) (λ f. cites_at n (count_of f.0) f.2 >>= λ c. derived_at arities f.1 f.0 c.2 >>= λ d. ends_at (Step d.0 c.0 c.1 d.1, d.2))
    ∙ same_rest (part_at (says_at rule_sign_of) a) _ _ (λ sign.
    same_rest (part_at (says_at (up_to MAX_LINE_VARIABLES)) sign.1) _ _ (λ k. behind_front arities n k.0 sign.0 k.1)))
