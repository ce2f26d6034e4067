use Rattle.std.proofs.Common.{◌+◌, [], ◌∷◌, arith}
use Rattle.pm_logic.specs.declared.formula.Formula.TheViews as view
use Rattle.pm_proof.specs.Trees.{entail}
use Rattle.pm_schemes.specs.Sketches.{deepest}
use Rattle.pm_table.specs.Framing.{truth}
use Rattle.pm_frame.proofs.Quantifying.{ex_gone_done}
use Rattle.pm_frame.proofs.quantified.ex_gone.Goals as goal

pub returns : goal.returns
returns c = ex_gone_done c.args.vars 6 (deepest (c.args.r.now ∷ c.args.b.now ∷ []) [] + 4) (entail c.args.vars (view.Sep c.args.r.now truth) (view.Ex c.args.b.now)) c.in_ok-there.there c.args.inner c.in_ok-proof.proof c.in_ok-there.ensures c.in_ok-proof.ensures (omega arith)
