-- The line of a part of a proof.
use Rattle.std.proofs.Common.{◌<◌, length, get_or, arith, Result, Ok, Err, ◌≡◌, ℕ, zero, suc, List, [], ◌∷◌, refl, sym, ◌∙◌, ap, subst, Option, Some, None}
use Rattle.std.specs.Prelude.{slice_get, slice_set, map, MatchOption}
use Rattle.pm_logic.specs.declared.list.Memory.{Memory}
use Rattle.pm_logic.specs.declared.formula.Preds.{Preds}
use Rattle.pm_rules.specs.declared.rules.Rule.{Rule}
use Rattle.pm_rules.specs.declared.rules.Entail.{Entail}
use Rattle.pm_rules.specs.Rules.{RuleOk}
use Rattle.pm_proof.specs.Trees.{Tree, Hole, Axiom, First, Second, Both, conclusion, rule_of, first_of, second_of}
use Rattle.pm_proof.specs.Parts.{premises_of}
use Rattle.pm_proof.specs.Valid.{RuleFits}
use Rattle.pm_dtext.specs.declared.line.Line.{Line}
use Rattle.pm_dtext.specs.declared.line.Line.TheVariants.{Step}
use Rattle.pm_check.specs.Lines.{steps, proof_line}
use Rattle.pm_write.specs.declared.written.Written.{Written}
use Rattle.pm_write.specs.declared.written.Earlier.{Earlier}
use Rattle.pm_write.specs.Writing.{Holds, Adds, Reaches, Recalls, Cites, AreThere, AreRecalled, IsConcluded, IsRecalled, IsSound, RuleIsI64, EntailIsI64}
use Rattle.pm_write.proofs.Growing.{grows_none, grows_step}
use Rattle.pm_write.proofs.Recalling.{recalled_at, recalled_kept, recalled_set}
use Rattle.pm_write.proofs.Fitting.{next_step}

-- ---- holes

there_at : (lines : List Line) (earlier : List Earlier) (i : ℕ) (k : Earlier) → AreThere lines earlier → slice_get earlier i ≡ Some k → proof_line (steps lines) k.number ≡ Some k.entail.now
there_at lines [] i k there at = absurd cc
there_at lines (x ∷ earlier) zero k there at = let same : x ≡ k = cc in subst (λ (y : Earlier). proof_line (steps lines) y.number ≡ Some y.entail.now) same there.0
there_at lines (x ∷ earlier) (suc i) k there at = there_at lines earlier i k there.1 at

pub reaches_hole : (preds : Preds) (w : Written) (lines : List Line) (earlier : List Earlier) (places : List (Option Earlier)) (n : ℕ) (e f : Entail) → e ≡ f → IsConcluded earlier e n → Holds preds w lines → AreThere lines earlier → AreRecalled lines places → Recalls preds lines w n f places
reaches_hole preds w lines earlier places n e f same known h there recalled = record {
  grows = grows_none preds w lines h;
  there = ap (λ m. proof_line (steps lines) m) (sym known.number_is) ∙ there_at lines earlier known.place known.item there known.there ∙ ap (λ x. Some x) (known.entail_is ∙ same);
  recalled = recalled;
}

-- ---- lines that are recalled

pub reaches_recalled : (preds : Preds) (w : Written) (lines : List Line) (places : List (Option Earlier)) (n : ℕ) (e f : Entail) → e ≡ f → IsRecalled places e n → Holds preds w lines → AreRecalled lines places → Recalls preds lines w n f places
reaches_recalled preds w lines places n e f same known h recalled = record {
  grows = grows_none preds w lines h;
  there = ap (λ m. proof_line (steps lines) m) (sym known.number_is) ∙ recalled_at lines places known.place known.item recalled known.there ∙ ap (λ x. Some x) (known.entail_is ∙ same);
  recalled = recalled;
}

-- ---- rules

pub reaches_rule : (preds : Preds) (old new : Written) (lines : List Line) (part : Tree) (r : Rule) (first second : Option ℕ) (n : ℕ) (e : Entail) → rule_of part ≡ Some r → e ≡ conclusion part → Adds old new n (Step r first second e) → RuleIsI64 r → EntailIsI64 e → Holds preds old lines → IsSound preds part → Cites lines (premises_of part) first second → Reaches preds lines new n (conclusion part)
reaches_rule preds old new lines part r first second n e is same adds ri ei h sound cites =
    let s : RuleOk preds r (map conclusion (premises_of part)) (conclusion part) × RuleFits preds r (conclusion part)
    = subst (λ o. MatchOption o (Unit {0}) (λ q. RuleOk preds q (map conclusion (premises_of part)) (conclusion part) × RuleFits preds q (conclusion part))) is sound in
    subst (λ x. Reaches preds lines new n x) same
    (grows_step preds old new n lines r first second e adds h
    (next_step preds lines (premises_of part) r first second e h.few cites (subst (λ x. RuleOk preds r (map conclusion (premises_of part)) x) (sym same) s.0) (subst (λ x. RuleFits preds r x) (sym same) s.1) ri ei.left ei.right))

-- a line more, which may be recalled from here on
pub recalls_rule : (old new : Written) (part : Tree) (r : Rule) (first second : Option ℕ) (places : List (Option Earlier)) (at n : ℕ) (k : Earlier) (e : Entail) → Some r ≡ rule_of part → e ≡ conclusion part → Adds old new n (Step r first second e) → RuleIsI64 r → EntailIsI64 e → k.entail.now ≡ e → k.number ≡ n
    → (preds : Preds) (lines : List Line) → Holds preds old lines → AreRecalled lines places → IsSound preds part → Cites lines (premises_of part) first second → Recalls preds lines new n (conclusion part) (slice_set places at (Some k))
recalls_rule old new part r first second places at n k e is same adds ri ei entail number preds lines h recalled sound cites =
    let reached : Reaches preds lines new n (conclusion part) = reaches_rule preds old new lines part r first second n e (sym is) same adds ri ei h sound cites in
    let said : proof_line (steps reached.grows.lines) k.number ≡ Some k.entail.now = ap (λ m. proof_line (steps reached.grows.lines) m) number ∙ reached.there ∙ ap (λ x. Some x) (sym (entail ∙ same)) in
    record {
      grows = reached.grows;
      there = reached.there;
      recalled = recalled_set reached.grows.lines places at k (recalled_kept preds lines new reached.grows places recalled) said;
    }

-- ---- earlier proofs

pub item_at : (xs : List Earlier) (i : ℕ) (x : Earlier) → i < length xs → x ≡ get_or xs i x → slice_get xs i ≡ Some x
item_at [] i x less at = absurd (omega arith)
item_at (y ∷ xs) zero x less at = ap (λ (z : Earlier). Some z) (sym at)
item_at (y ∷ xs) (suc i) x less at = item_at xs i x (omega (arith, less)) at

-- ---- premises

pub no_premises : (t : Tree) → first_of t ≡ None → second_of t ≡ None → premises_of t ≡ []
no_premises (Hole e) f s = refl
no_premises (Axiom r e) f s = refl
no_premises (First r e a) f s = absurd cc
no_premises (Second r e b) f s = absurd cc
no_premises (Both r e a b) f s = absurd cc

pub first_premise : (t a : Tree) → first_of t ≡ Some a → second_of t ≡ None → premises_of t ≡ a ∷ []
first_premise (Hole e) a f s = absurd cc
first_premise (Axiom r e) a f s = absurd cc
first_premise (First r e x) a f s = let same : x ≡ a = cc in ap (λ y. y ∷ []) same
first_premise (Second r e b) a f s = absurd cc
first_premise (Both r e x b) a f s = absurd cc

pub second_premise : (t b : Tree) → first_of t ≡ None → second_of t ≡ Some b → premises_of t ≡ b ∷ []
second_premise (Hole e) b f s = absurd cc
second_premise (Axiom r e) b f s = absurd cc
second_premise (First r e x) b f s = absurd cc
second_premise (Second r e x) b f s = let same : x ≡ b = cc in ap (λ y. y ∷ []) same
second_premise (Both r e x y) b f s = absurd cc

pub both_premises : (t a b : Tree) → first_of t ≡ Some a → second_of t ≡ Some b → premises_of t ≡ a ∷ b ∷ []
both_premises (Hole e) a b f s = absurd cc
both_premises (Axiom r e) a b f s = absurd cc
both_premises (First r e x) a b f s = absurd cc
both_premises (Second r e x) a b f s = absurd cc
both_premises (Both r e x y) a b f s = let same : x ≡ a = cc in let same' : y ≡ b = cc in ap (λ z. z ∷ y ∷ []) same ∙ ap (λ z. a ∷ z ∷ []) same'
