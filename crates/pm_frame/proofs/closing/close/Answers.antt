use Rattle.std.proofs.Common.{◌+◌, [], map}
use Rattle.pm_proof.specs.Trees.{conclusion}
use Rattle.pm_schemes.specs.Sketches.{claim, gaps, steps, height, deepest, entail_of}
use Rattle.pm_schemes.specs.Read.{sketch_of, letters_of, formulas_of, pures_of}
use Rattle.pm_classes.proofs.Closed.{hole_is, closed}
use Rattle.pm_frame.proofs.closing.close.Goals as goal

pub fill-requires : goal.fill-requires
fill-requires c =
    let s = letters_of c.args.letters in
    let x = sketch_of c.args.scheme.now in
    hole_is (entail_of c.args.vars s (claim x)) (conclusion c.args.inner) [] (map (entail_of c.args.vars s) (gaps x)) (steps x) (deepest (formulas_of c.args.letters) (pures_of c.args.letters) + height x) c.args.vars c.in_ok-step.step c.in_ok-step.ensures c.requires.gap

pub returns : goal.returns
returns c =
    let s = letters_of c.args.letters in
    let x = sketch_of c.args.scheme.now in
    closed c.args.vars (steps x) (deepest (formulas_of c.args.letters) (pures_of c.args.letters) + height x) s x c.in_ok-step.step c.args.inner c.fill.result c.requires.stated c.requires.gap c.in_ok-step.ensures c.fill.ensures.proves
