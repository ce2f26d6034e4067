-- The first name that is free.
use Rattle.std.proofs.Common.{◌≡◌, ℕ, zero, suc, ◌<◌, Bool, true, false, cond, sym, ◌∙◌, ap, subst, arith, is_some}
use Rattle.pm_goal.specs.declared.goal.Goal.{Goal}
use Rattle.pm_goal.specs.Find.{find_of}
use Rattle.pm_goal.specs.Fresh.{numbered}
use Rattle.pm_table.specs.Works.{first_free}

pub free_here : (goal : Goal) (k n : ℕ) → 0 < k → is_some (find_of goal (numbered n)) ≡ false → first_free k n goal ≡ numbered n
free_here goal zero n some free = absurd (omega (arith, some))
free_here goal (suc k) n some free = ap (λ b. cond b (first_free k (suc n) goal) (numbered n)) free

pub free_later : (goal : Goal) (k j n m : ℕ) → k ≡ suc j → m ≡ suc n → is_some (find_of goal (numbered n)) ≡ true → first_free k n goal ≡ first_free j m goal
free_later goal k j n m e f taken = subst (λ i. first_free i n goal ≡ first_free j m goal) (sym e) (subst (λ i. first_free (suc j) n goal ≡ first_free j i goal) (sym f) (ap (λ b. cond b (first_free j (suc n) goal) (numbered n)) taken))

pub free_last : (goal : Goal) (k n : ℕ) → k ≡ 0 → first_free k n goal ≡ numbered n
free_last goal k n e = ap (λ i. first_free i n goal) e

pub unused : (b r : Bool) → r ≡ b → r ≡ false → b ≡ false
unused b r e f = sym e ∙ f

pub used : (b r : Bool) → r ≡ b → r ≡ true → b ≡ true
used b r e f = sym e ∙ f
