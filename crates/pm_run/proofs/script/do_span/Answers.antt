use Rattle.std.proofs.Common.{subst, sym, ap, ◌∙◌, ◌≤◌, List, length}
use Rattle.std.specs.Prelude.{ℕ}
use Rattle.pm_logic.specs.declared.limits.TheConstants.{MAX_NAMES}
use Rattle.pm_script.specs.SentenceReading.{read_sentence}
use Rattle.pm_run.proofs.Looped.{unread_span, few_names}
use Rattle.pm_run.proofs.script.do_span.Goals as goal

pub read_span-requires-clause-few_names : goal.read_span-requires-clause-few_names
read_span-requires-clause-few_names c = subst (λ (ns : List (List ℕ)). length ns ≤ MAX_NAMES) (sym c.in_ok-names.ensures) (few_names c.args.running.now c.requires.kept)

pub do_read-requires-clause-read : goal.do_read-requires-clause-read
do_read-requires-clause-read c = ap (λ (ns : List (List ℕ)). read_sentence c.args.span.now.offset c.args.running.now.preds.list ns c.args.span.now.text) (sym c.in_ok-names.ensures) ∙ c.in_ok-read.ensures ∙ c.in-Ok.is

pub returns : goal.returns
returns c = unread_span c.args.running.now c.args.number c.args.span.now c.in-Err.fault (ap (λ (ns : List (List ℕ)). read_sentence c.args.span.now.offset c.args.running.now.preds.list ns c.args.span.now.text) (sym c.in_ok-names.ensures) ∙ (c.in_ok-read.ensures ∙ c.in-Err.is))
