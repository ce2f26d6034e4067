use Rattle.std.proofs.Common.{rules, sym, subst}
use Rattle.pm_logic.specs.declared.formula.Pure.{Pure, the_lemmas}
use Rattle.pm_logic.specs.Walks.{PureFits}
use Rattle.pm_logic.proofs.Changes.{fits_comparison, fits_joined}
use Rattle.pm_logic.proofs.Connectives.{is_comparison, is_joined}
use Rattle.pm_logic.proofs.change.+change_pure.Goals as goal

pub change_pure-requires-in-And : goal.change_pure-requires-in-And
change_pure-requires-in-And t c =
    let P : Pure → Type 0 = λ x. PureFits c.args.change c.args.d x in
    let fits = fits_joined c.args.change c.args.d c.args.p.now c.in-And.a c.in-And.b c.in-And.is c.requires.fits in
    (search (rules, the_lemmas), (c.requires.terms, subst P (sym c.get-in-And.ensures) fits.0))

pub change_pure-requires-in-And-2 : goal.change_pure-requires-in-And-2
change_pure-requires-in-And-2 t c =
    let P : Pure → Type 0 = λ x. PureFits c.args.change c.args.d x in
    let fits = fits_joined c.args.change c.args.d c.args.p.now c.in-And.a c.in-And.b c.in-And.is c.requires.fits in
    (search (rules, the_lemmas), (c.requires.terms, subst P (sym c.get-in-And-2.ensures) fits.1))

pub joined-requires : goal.joined-requires
joined-requires t c = is_joined c.args.p.now c.in-And.a c.in-And.b c.in-And.is

pub change_term-requires-clause-fits : goal.change_term-requires-clause-fits
change_term-requires-clause-fits t c = (fits_comparison c.args.change c.args.d c.args.p.now c.in-Eq.s c.in-Eq.t c.in-Eq.is c.requires.fits).0

pub change_term-requires-in-Eq-clause-fits : goal.change_term-requires-in-Eq-clause-fits
change_term-requires-in-Eq-clause-fits t c = (fits_comparison c.args.change c.args.d c.args.p.now c.in-Eq.s c.in-Eq.t c.in-Eq.is c.requires.fits).1

pub compared-requires : goal.compared-requires
compared-requires t c = is_comparison c.args.p.now c.in-Eq.s c.in-Eq.t c.in-Eq.is
