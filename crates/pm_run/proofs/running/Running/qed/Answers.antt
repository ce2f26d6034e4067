use Rattle.std.proofs.Common.{◌≡◌, length, None, Some, refl, sym, ap, ◌∙◌, rules}
use Rattle.pm_run.specs.Keeping.{IsProved}
use Rattle.pm_run.proofs.Doings.{complete, qed_done, qed_refused, is_none, is_some_number}
use Rattle.pm_run.proofs.running.Running.qed.Goals as goal

pub prove-requires : goal.prove-requires
prove-requires c =
    let e : c.args.self.now.proof ≡ Some c.in-Some.proof = search rules in
    complete c.args.self.now c.requires.state c.in-Some.proof c.requires.kept e (is_none (length c.in-Some.proof.goals) (sym c.is_empty.ensures ∙ c.if-is_empty.true))

pub returns-then-is_empty : goal.returns-then-is_empty
returns-then-is_empty c = λ s k.
    let e : c.args.self.now.proof ≡ Some c.in-Some.proof = search rules in
    let proved : IsProved (record c.args.self.now { proof = None }) c.in-Some.proof c.prove.new.self = search rules in
    qed_done c.args.self.now s c.in-Some.proof c.prove.new.self k e (is_none (length c.in-Some.proof.goals) (sym c.is_empty.ensures ∙ c.if-is_empty.true)) proved

pub returns : goal.returns
returns c = λ s k.
    let e : c.args.self.now.proof ≡ Some c.in-Some.proof = search rules in
    qed_refused c.args.self.now s c.in-Some.proof _ _ k e (is_some_number (length c.in-Some.proof.goals) (sym c.is_empty.ensures ∙ c.if-is_empty.false)) refl (ap (λ q. record c.args.self.now { proof = q }) (sym e))
