-- Calls of predicates without their names.
use Rattle.std.proofs.Common.{◌≡◌, ℕ, zero, suc, List, Option, Some, None, refl}
use Rattle.pm_tokens.specs.Tokens.{Place}
use Rattle.pm_terms.specs.declared.context.Callee.{Callee}
use Rattle.pm_terms.specs.Scope.{Names, Callable, Callables, callable_of, callee}
use Rattle.pm_terms.specs.Steps.{◌>>=◌, bound_at}
use Rattle.pm_text.specs.FormulaReading.{Formulas, call_at, callable_at, call_in, deep_call, call_end}
use Rattle.pm_text.specs.Parts.{called}

-- the name isn't looked at
without_name : (stop : ℕ) (preds : Callables) (names : Names) (room : ℕ) (p : Callable) (ts : List Place)
    → call_in stop preds names room p ts ≡ call_in stop preds names room (called (record { index = p.index; arity = p.arity })) ts
unfolding call_in deep_call call_end
without_name stop preds names zero p ts = refl
without_name stop preds names (suc room) p ts = refl

by_callee : (stop : ℕ) (preds : Callables) (names : Names) (room at : ℕ) (ts : List Place) (found : Option Callable) (c : Callee) → Some c ≡ callee found
    → (bound_at at found >>= λ p. call_in stop preds names room p ts) ≡ call_in stop preds names room (called c) ts
by_callee stop preds names room at ts None c h = cc
by_callee stop preds names room at ts (Some p) c h =
    let same : record { index = p.index; arity = p.arity } ≡ c = cc in
    rw (← same) (without_name stop preds names room p ts)

pub call_found : (stop : ℕ) (preds : Callables) (self : Formulas) (room : ℕ) (names : Names) (p : List ℕ) (at : ℕ) (ts : List Place) (c : Callee)
    → Some c ≡ callee (callable_of preds p) → call_at stop preds self room names p at ts ≡ call_in stop preds names room (called c) ts
unfolding call_at callable_at
call_found stop preds self room names p at ts c h = by_callee stop preds names room at ts (callable_of preds p) c h
