-- An application takes the fewest premises.
use Rattle.std.proofs.Common.{◌≡◌, ℕ, zero, suc, ◌<◌, ◌≤◌, Bool, true, false, if◌then◌else◌, List, [], ◌∷◌, length, Option, Some, None, IfSome, IfNone, MatchOption, refl, ap, sym, ◌∙◌, subst, arith}
use Rattle.std.specs.Prelude.{option_and_then, option_map, cond}
use Rattle.pm_logic.specs.declared.formula.Formula.{Formula}
use Rattle.pm_logic.specs.declared.formula.Formula.TheVariants.{Pure as Fact, Pts, Call}
use Rattle.pm_logic.proofs.Views.{view_later}
use Rattle.pm_logic.specs.Trees.{Sep, Wand, And, Or, Imp, All, Ex, Later, Pers, Upd}
use Rattle.pm_logic.specs.Size.{nodes_of}
use Rattle.pm_classes.specs.Persistence.{is_persistent}
use Rattle.pm_classes.specs.Classes.{Parts, parts, under, into_wand}
use Rattle.pm_logic.specs.declared.formula.Formula.TheViews as view
use Rattle.pm_table.specs.Equality.{formula_eq}
use Rattle.pm_table.specs.Terms.{premises_before, premises}
use Rattle.pm_table.specs.ApplicationLaws.{after_premises, IsReached, AreLeast, ApplyTakesLeast}
use Rattle.pm_table.proofs.Equals.{formula, formula_same}

-- ---- what is behind a wand is smaller

abbrev IsSmaller : Formula → Option Parts → Type 0
IsSmaller f o = IfSome o (λ p. nodes_of p.second < nodes_of f)

smaller_test : (f : Formula) (c : Bool) (p : Parts) → nodes_of p.second < nodes_of f → IsSmaller f (cond c (Some p) None)
smaller_test f true p h = h
smaller_test f false p h = tt

smaller_later : (a : Formula) (o : Option Parts) → IsSmaller a o → IsSmaller (Later a) (option_map (under view.Later) o)
unfolding nodes_of
smaller_later a (Some p) h = let same : nodes_of (view.Later p.second) ≡ suc (nodes_of p.second) = ap nodes_of (view_later p.second) in omega (arith, h, same)
smaller_later a None h = tt

smaller_pers : (a : Formula) (o : Option Parts) → IsSmaller a o → IsSmaller (Pers a) o
unfolding nodes_of
smaller_pers a (Some p) h = omega (arith, h)
smaller_pers a None h = tt

smaller : (f : Formula) → IsSmaller f (into_wand f)
unfolding into_wand nodes_of
smaller (Wand a b) = omega arith
smaller (Imp a b) = smaller_test (Imp a b) (is_persistent a) (parts a b) (omega arith)
smaller (Later a) = smaller_later a (into_wand a) (smaller a)
smaller (Pers a) = smaller_pers a (into_wand a) (smaller a)
smaller _ = tt

some_nodes : (f : Formula) → 1 ≤ nodes_of f
unfolding nodes_of
some_nodes (Fact a) = omega arith
some_nodes (Sep a b) = omega arith
some_nodes (Wand a b) = omega arith
some_nodes (And a b) = omega arith
some_nodes (Or a b) = omega arith
some_nodes (Imp a b) = omega arith
some_nodes (All a) = omega arith
some_nodes (Ex a) = omega arith
some_nodes (Later a) = omega arith
some_nodes (Pers a) = omega arith
some_nodes (Upd a) = omega arith
some_nodes (Pts l u v) = omega arith
some_nodes (Call q args) = omega arith

-- ---- the premises on the way

abbrev Never : Formula → Formula → Type 0
Never c r = (m : ℕ) → IsReached c r m → ⊥

abbrev IsAnswer : Formula → Formula → Option (List Formula) → Type 0
IsAnswer c r o = MatchOption o (Never c r) (AreLeast c r)

-- one premise further
further : (c r : Formula) (p : Parts) (m : ℕ) → into_wand r ≡ Some p → IsReached c r (suc m) → IsReached c p.second m
unfolding after_premises
further c r p m e h = sym (ap (option_and_then (λ (q : Parts). after_premises m q.second)) e) ∙ h

back : (c r : Formula) (p : Parts) (m : ℕ) → into_wand r ≡ Some p → IsReached c p.second m → IsReached c r (suc m)
unfolding after_premises
back c r p m e h = ap (option_and_then (λ (q : Parts). after_premises m q.second)) e ∙ h

at_once : (c r : Formula) → IsReached c r 0 → r ≡ c
unfolding after_premises
at_once c r h = let k : Some r ≡ Some c = h in cc

at_end : (c r : Formula) (m : ℕ) → into_wand r ≡ None → IsReached c r (suc m) → ⊥
unfolding after_premises
at_end c r m e h = let k : Some c ≡ None = sym h ∙ ap (option_and_then (λ (q : Parts). after_premises m q.second)) e in cc

never_behind : (c r : Formula) (p : Parts) → into_wand r ≡ Some p → (r ≡ c → ⊥) → Never c p.second → Never c r
never_behind c r p e differs never zero h = differs (at_once c r h)
never_behind c r p e differs never (suc m) h = never m (further c r p m e h)

least_behind : (c r : Formula) (p : Parts) (ps : List Formula) → into_wand r ≡ Some p → (r ≡ c → ⊥) → AreLeast c p.second ps → (m : ℕ) → m < suc (length ps) → IsReached c r m → ⊥
least_behind c r p ps e differs h zero lt g = differs (at_once c r g)
least_behind c r p ps e differs h (suc m) lt g = h.least m (omega arith) (further c r p m e g)

behind : (c r : Formula) (p : Parts) (o : Option (List Formula)) → into_wand r ≡ Some p → (r ≡ c → ⊥) → IsAnswer c p.second o → IsAnswer c r (option_map (λ ps. p.first ∷ ps) o)
behind c r p None e differs h = never_behind c r p e differs h
behind c r p (Some ps) e differs h = record { reached = back c r p (length ps) e h.reached; least = least_behind c r p ps e differs h }

never_at_end : (c r : Formula) → into_wand r ≡ None → (r ≡ c → ⊥) → Never c r
never_at_end c r e differs zero h = differs (at_once c r h)
never_at_end c r e differs (suc m) h = at_end c r m e h

by_wand : (c r : Formula) (w : Option Parts) (next : Parts → Option (List Formula)) → into_wand r ≡ w → (r ≡ c → ⊥) → ((p : Parts) → into_wand r ≡ Some p → IsAnswer c p.second (next p)) → IsAnswer c r (option_and_then (λ (p : Parts). option_map (λ ps. p.first ∷ ps) (next p)) w)
by_wand c r None next e differs each = never_at_end c r e differs
by_wand c r (Some p) next e differs each = behind c r p (next p) e differs (each p e)

here : (c r : Formula) → r ≡ c → AreLeast c r []
unfolding after_premises
here c r e = record { reached = ap Some e; least = λ m lt h. absurd (omega arith) }

by_equality : (c r : Formula) (b : Bool) (o : Option (List Formula)) → formula_eq r c ≡ b → ((r ≡ c → ⊥) → IsAnswer c r o) → IsAnswer c r (if b then Some [] else o)
by_equality c r true o e other = here c r (formula r c e)
by_equality c r false o e other = other (λ same. let k = ap (λ x. formula_eq x c) same in let t = formula_same c in cc (e, k, t))

second_smaller : (r : Formula) (p : Parts) (o : Option Parts) → into_wand r ≡ o → o ≡ Some p → IsSmaller r o → nodes_of p.second < nodes_of r
second_smaller r p (Some q) e f h = let k : q ≡ p = cc f in subst (λ x. nodes_of x.second < nodes_of r) k h
second_smaller r p None e f h = absurd (cc f)

answers : (n : ℕ) (c r : Formula) → nodes_of r ≤ n → IsAnswer c r (premises_before n c r)
unfolding premises_before
answers zero c r le = absurd (let some = some_nodes r in omega arith)
answers (suc n) c r le =
    by_equality c r (formula_eq r c) (option_and_then (λ (p : Parts). option_map (λ ps. p.first ∷ ps) (premises_before n c p.second)) (into_wand r)) refl (λ differs.
    by_wand c r (into_wand r) (λ p. premises_before n c p.second) refl differs (λ p e.
    answers n c p.second (let lt = second_smaller r p (into_wand r) refl e (smaller r) in omega arith)))

some_of : (c r : Formula) (o : Option (List Formula)) → IsAnswer c r o → IfSome o (AreLeast c r)
some_of c r (Some ps) h = h
some_of c r None h = tt

none_of : (c r : Formula) (o : Option (List Formula)) → IsAnswer c r o → IfNone o ((n : ℕ) → IsReached c r n → ⊥)
none_of c r (Some ps) h = tt
none_of c r None h = h

pub apply_takes_least : ApplyTakesLeast
apply_takes_least = record {
  some = λ c r. some_of c r (premises c r) (answers (nodes_of r) c r (omega arith));
  none = λ c r. none_of c r (premises c r) (answers (nodes_of r) c r (omega arith));
}
