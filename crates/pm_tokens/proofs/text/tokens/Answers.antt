use Rattle.std.proofs.Common.{ap, subst, sym, ◌∙◌, arith}
use Rattle.pm_tokens.specs.declared.mode.Mode.TheVariants.{Start}
use Rattle.pm_tokens.specs.Tokens.{places}
use Rattle.pm_tokens.specs.Names.{are_named}
use Rattle.pm_tokens.specs.Pieces.{piece_of}
use Rattle.pm_tokens.proofs.Lexing.{lex_more, lex_stops}
use Rattle.pm_tokens.specs.Texts.{Lexed, Rise}
use Rattle.pm_tokens.proofs.Fits.{lex_rises}
use Rattle.pm_tokens.proofs.Named.{lex_named}
use Rattle.pm_tokens.proofs.text.tokens.Goals as goal

pub pieces-preserved : goal.pieces-preserved
pieces-preserved c = record {
  same = lex_more c.pieces.mode c.in_ok-mode.mode c.pieces.at c.in-Some.len c.pieces.rest.now c.split_at.result.1.now (piece_of c.in-Some.piece) (places c.pieces.list.items) (places c.add.new.list.items) _ c.in-Some.ensures.value c.in-Some.ensures.within.0 c.in-Some.ensures.within.1 c.in_ok-mode.ensures.list c.in_ok-mode.ensures.mode c.split_at.ensures.back c.pieces.invariant.same;
  place = omega (arith, c.split_at.ensures.back_len, c.in-Some.ensures.within.1, c.pieces.invariant.place);
}

pub returns-clause-value : goal.returns-clause-value
returns-clause-value c = lex_stops c.pieces.mode c.pieces.at c.pieces.rest.now (places c.pieces.list.items) _ c.in_default.ensures.value c.pieces.invariant.same

pub returns-clause-names : goal.returns-clause-names
returns-clause-names c =
    let same = lex_stops c.pieces.mode c.pieces.at c.pieces.rest.now (places c.pieces.list.items) _ c.in_default.ensures.value c.pieces.invariant.same in
    ap (λ found. are_named found.0) same ∙ lex_named Start 0 0 c.args.text.now

pub returns-clause-offsets : goal.returns-clause-offsets
returns-clause-offsets c =
    let same = lex_stops c.pieces.mode c.pieces.at c.pieces.rest.now (places c.pieces.list.items) _ c.in_default.ensures.value c.pieces.invariant.same in
    subst (λ (found : Lexed). Rise 0 found.0 found.1) (sym same) (lex_rises Start 0 0 c.args.text.now)
