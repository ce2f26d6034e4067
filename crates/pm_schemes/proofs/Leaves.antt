-- What is known of a proof of one rule.
use Rattle.std.proofs.Common.{ℕ, suc, ◌≡◌, max, List, [], ◌∷◌, refl, arith}
use Rattle.pm_logic.specs.declared.formula.Preds.{Preds}
use Rattle.pm_rules.specs.declared.rules.Entail.{Entail}
use Rattle.pm_rules.specs.declared.rules.Rule.{Rule}
use Rattle.pm_rules.specs.Rules.{RuleOk}
use Rattle.pm_proof.specs.Trees.{Tree, Hole, Axiom, First, side_depth}
use Rattle.pm_proof.specs.Valid.{EntailScoped, ArgumentsFit}
use Rattle.pm_proof.specs.Known.{Tables, Every, IsAmong, Proves}

-- where the conclusion is scoped the rule's arguments fit
abbrev pub HasRoom : Rule → Entail → Type 0
HasRoom r e = (preds : Preds) → EntailScoped preds e → ArgumentsFit preds e.vars r

-- a rule without premises
pub leaf : (on : Tables) (r : Rule) (e : Entail) (t : Tree) → t ≡ Axiom r e → ((preds : Preds) → IsAmong on preds → RuleOk preds r [] e) → HasRoom r e → Proves on e [] 1 (side_depth e) e.vars t
leaf on r e t is ok room = rw is (record { concludes = refl; holes = refl; valid = ok; scoped = λ preds s gaps. (s, room preds s); size = omega arith; shallow = omega arith; narrow = omega arith })

-- a rule over a hole
pub over : (r : Rule) (e h : Entail) (t : Tree) → t ≡ First r e (Hole h) → ((preds : Preds) → RuleOk preds r (h ∷ []) e) → HasRoom r e → Proves Every e (h ∷ []) 1 (max (side_depth e) (side_depth h)) (max e.vars h.vars) t
over r e h t is ok room = rw is (record { concludes = refl; holes = refl; valid = λ preds among. (ok preds, tt); scoped = λ preds s gaps. ((s, room preds s), gaps.0); size = omega arith; shallow = omega arith; narrow = omega arith })

pub wider : (e : Entail) (hs : List Entail) (n d k : ℕ) (t : Tree) → k ≡ suc e.vars → Proves Every e hs n d (max e.vars k) t → Proves Every e hs n d k t
wider e hs n d k t is p = record { concludes = p.concludes; holes = p.holes; valid = p.valid; scoped = p.scoped; size = p.size; shallow = p.shallow; narrow = omega (arith, p.narrow) }
