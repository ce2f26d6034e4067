use Rattle.std.proofs.Common.{◌+◌, map, refl}
use Rattle.pm_proof.specs.Trees.{conclusion}
use Rattle.pm_schemes.specs.Sketches.{claim, gaps, steps, height, deepest, entail_of}
use Rattle.pm_schemes.specs.Read.{sketch_of, letters_of, formulas_of, pures_of}
use Rattle.pm_classes.proofs.Closed.{second_hole, first_left, closed_both}
use Rattle.pm_frame.proofs.closing.close_both.Goals as goal

pub fill-step-requires : goal.fill-step-requires
fill-step-requires c =
    let s = letters_of c.args.letters in
    let x = sketch_of c.args.scheme.now in
    second_hole (entail_of c.args.vars s (claim x)) (conclusion c.args.first) (conclusion c.args.second) (map (entail_of c.args.vars s) (gaps x)) (steps x) (deepest (formulas_of c.args.letters) (pures_of c.args.letters) + height x) c.args.vars c.in_ok-step.step c.in_ok-step.ensures c.requires.gaps

pub fill-requires : goal.fill-requires
fill-requires c =
    let s = letters_of c.args.letters in
    let x = sketch_of c.args.scheme.now in
    first_left (entail_of c.args.vars s (claim x)) (conclusion c.args.first) (conclusion c.args.second) (map (entail_of c.args.vars s) (gaps x)) (steps x) (deepest (formulas_of c.args.letters) (pures_of c.args.letters) + height x) c.args.vars c.in_ok-step.step c.args.second c.fill-step.result c.in_ok-step.ensures c.requires.gaps refl c.fill-step.ensures.tree

pub returns : goal.returns
returns c =
    let s = letters_of c.args.letters in
    let x = sketch_of c.args.scheme.now in
    closed_both c.args.vars (steps x) (deepest (formulas_of c.args.letters) (pures_of c.args.letters) + height x) s x c.in_ok-step.step c.args.first c.args.second c.fill-step.result c.fill.result c.requires.stated c.requires.gaps c.in_ok-step.ensures c.fill-step.ensures.proves c.fill.ensures.proves
