use Rattle.std.proofs.Common.{◌≡◌, ◌∙◌, sym, ap, Some, None}
use Rattle.std.specs.Option.{option_copied}
use Rattle.pm_apply.proofs.Citations.{found_citable, lemma_cited, lemma_refused}
use Rattle.pm_apply.proofs.citing.lemma.Goals as goal

pub cite-requires-clause-closed : goal.cite-requires-clause-closed
cite-requires-clause-closed c = (found_citable c.args.lemmas.now c.as_slice.result.now c.args.name.now c.in-Some.found.now c.requires.citable c.as_slice.ensures (sym (ap option_copied c.in-Some.is) ∙ c.lemma_of.ensures)).closed

pub cite-requires-clause-shallow : goal.cite-requires-clause-shallow
cite-requires-clause-shallow c = (found_citable c.args.lemmas.now c.as_slice.result.now c.args.name.now c.in-Some.found.now c.requires.citable c.as_slice.ensures (sym (ap option_copied c.in-Some.is) ∙ c.lemma_of.ensures)).shallow

pub returns-in-Some : goal.returns-in-Some
returns-in-Some c = lemma_cited c.args.work.now c.args.lemmas.now c.as_slice.result.now c.args.name.now c.in-Some.found.now c.cite.result c.as_slice.ensures (sym (ap option_copied c.in-Some.is) ∙ c.lemma_of.ensures) c.cite.ensures

pub returns-in-None : goal.returns-in-None
returns-in-None c = lemma_refused c.args.work.now c.args.lemmas.now c.as_slice.result.now c.args.name.now c.refuse.result c.as_slice.ensures (sym (ap option_copied c.in-None.is) ∙ c.lemma_of.ensures) c.refuse.ensures
