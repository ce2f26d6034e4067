-- Lines one after the other, and the lines of what stands at a place.
use Rattle.std.proofs.Common.{◌≡◌, ℕ, zero, suc, ◌+◌, List, [], ◌∷◌, ◌++◌, take, refl, sym, ◌∙◌, ap, append_assoc, add-one, Option, Some, None}
use Rattle.std.specs.Prelude.{slice_get, codes}
use Rattle.std.specs.Option.{option_map}
use Rattle.std.proofs.lemmas.List.{append-nil}
use Rattle.pm_logic.specs.declared.formula.Pred.{Pred}
use Rattle.pm_logic.specs.declared.formula.Pure.{Pure}
use Rattle.pm_logic.specs.declared.formula.Formula.{Formula}
use Rattle.pm_tokens.specs.declared.symbol.Symbol.TheVariants as s
use Rattle.pm_tokens.specs.Symbols.{symbols, keywords}
use Rattle.pm_print.specs.Printing.{Names, sign, spelled, spelling, same_symbol}
use Rattle.pm_goal.specs.declared.goal.Fact.{Fact}
use Rattle.pm_goal.specs.declared.goal.Hyp.{Hyp}
use Rattle.pm_display.specs.Goals.{box_line, star_line, lines_of, line_at, fact_line, fact_line_of, hyp_line, hyp_line_of}

-- ---- lines one after the other

pub next_line : {A : Type 0} (line : A → List ℕ) (xs : List A) (i : ℕ) → lines_of line (take (i + 1) xs) ≡ lines_of line (take i xs) ++ line_at line (slice_get xs i)
next_line line [] zero = refl
next_line line [] (suc i) = rw add-one refl
next_line line (x ∷ xs) zero = append-nil (line x)
next_line line (x ∷ xs) (suc i) = rw add-one (ap (λ (ls : List ℕ). line x ++ ls) (rw add-one at (next_line line xs i)) ∙ sym (append_assoc (line x) (lines_of line (take i xs)) (line_at line (slice_get xs i))))

-- one line more behind those of the first
pub line_added : {A : Type 0} (line : A → List ℕ) (xs : List A) (i : ℕ) (t₀ t₁ t₂ : List ℕ) → t₁ ≡ t₀ ++ lines_of line (take i xs) → t₂ ≡ t₁ ++ line_at line (slice_get xs i) → t₂ ≡ t₀ ++ lines_of line (take (i + 1) xs)
line_added line xs i t₀ t₁ t₂ h₁ h₂ = h₂ ∙ rw (h₁, next_line line xs i) (append_assoc t₀ (lines_of line (take i xs)) (line_at line (slice_get xs i)))

-- ---- what stands at a place

pub fact_at : (names : Names) (o : Option Fact) (x : List ℕ) (p : Pure) → Some x ≡ option_map (λ f. f.name) o → Some p ≡ option_map (λ f. f.pure) o → line_at (fact_line_of names) o ≡ fact_line names x p
fact_at names None x p h k = absurd cc
fact_at names (Some f) x p h k = let same : f.name ≡ x = cc in let alike : f.pure ≡ p = cc in rw (same, alike) refl

pub no_fact_name : (names : Names) (o : Option Fact) → None ≡ option_map (λ f. f.name) o → line_at (fact_line_of names) o ≡ []
no_fact_name names None h = refl
no_fact_name names (Some f) h = absurd cc

pub no_fact : (names : Names) (o : Option Fact) → None ≡ option_map (λ f. f.pure) o → line_at (fact_line_of names) o ≡ []
no_fact names None h = refl
no_fact names (Some f) h = absurd cc

pub hyp_at : (preds : List Pred) (names : Names) (o : Option Hyp) (x : List ℕ) (f : Formula) → Some x ≡ option_map (λ h. h.name) o → Some f ≡ option_map (λ h. h.formula) o → line_at (hyp_line_of preds names) o ≡ hyp_line preds names x f
hyp_at preds names None x f h k = absurd cc
hyp_at preds names (Some g) x f h k = let same : g.name ≡ x = cc in let alike : g.formula ≡ f = cc in rw (same, alike) refl

pub no_hyp_name : (preds : List Pred) (names : Names) (o : Option Hyp) → None ≡ option_map (λ h. h.name) o → line_at (hyp_line_of preds names) o ≡ []
no_hyp_name preds names None h = refl
no_hyp_name preds names (Some f) h = absurd cc

pub no_hyp : (preds : List Pred) (names : Names) (o : Option Hyp) → None ≡ option_map (λ h. h.formula) o → line_at (hyp_line_of preds names) o ≡ []
no_hyp preds names None h = refl
no_hyp preds names (Some f) h = absurd cc

-- ---- the lines of hyphens

pub box_is : box_line ≡ codes "--------------------" ++ (226 ∷ 150 ∷ 161 ∷ 10 ∷ [])
unfolding box_line spelled spelling same_symbol symbols keywords lib.Utf8.encode
box_is = refl

pub star_is : star_line ≡ codes "--------------------" ++ (226 ∷ 136 ∷ 151 ∷ 10 ∷ [])
unfolding star_line spelled spelling same_symbol symbols keywords lib.Utf8.encode
star_is = refl

pub ruleset fact_rules = (fact_at, no_fact_name, no_fact, append-nil)

pub ruleset hyp_rules = (hyp_at, no_hyp_name, no_hyp, append-nil)

pub ruleset sign_rules = (box_is, star_is, append-nil)
