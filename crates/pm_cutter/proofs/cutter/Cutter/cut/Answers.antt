use Rattle.std.proofs.Common.{◌<◌, List, ℕ, ◌++◌, length, drop, sym, subst, ◌∙◌, arith}
use Rattle.std.specs.Prelude.{Result, Ok, Err, OnOk}
use Rattle.std.proofs.lemmas.Bool.Decides.{nat_tests}
use Rattle.pm_cutter.specs.Machine.{GoesOn, waiting_bytes}
use Rattle.pm_cutter.specs.Spans.{parts_of}
use Rattle.pm_cutter.specs.Fed.{kept_of}
use Rattle.pm_cutter.proofs.Going.{goes_through, first_byte}
use Rattle.pm_cutter.proofs.cutter.Cutter.cut.Goals as goal

on_ok : {A E : Type 0} (r : Result A E) (P Q : Type 0) → (P → Q) → OnOk r P → OnOk r Q
on_ok (Ok x) P Q f p = f p
on_ok (Err e) P Q f p = tt

pub returns-clause-goes_on : goal.returns-clause-goes_on
returns-clause-goes_on c =
    let some : 0 < length c.args.piece.now = grind (arith, nat_tests, sym c.is_empty.ensures ∙ c.if-is_empty.false) in
    let waited = subst (λ (bs : List ℕ). GoesOn (parts_of c.args.spans.now) (kept_of c.args.self.now) (waiting_bytes c.args.self.now.waiting ++ bs) (parts_of c.take_waiting.new.spans) (kept_of c.take_waiting.new.self) bs)
    (sym (first_byte c.args.piece.now some)) (c.in_ok-take_waiting.ensures.goes_on (drop 1 c.args.piece.now)) in
    on_ok c.take_all.result _ _
    (λ g. goes_through (parts_of c.args.spans.now) (kept_of c.args.self.now) (waiting_bytes c.args.self.now.waiting ++ c.args.piece.now) (parts_of c.take_waiting.new.spans) (kept_of c.take_waiting.new.self) c.args.piece.now (parts_of c.take_all.new.spans) (kept_of c.take_all.new.self) (waiting_bytes c.take_all.new.self.waiting) waited g)
    c.take_all.ensures.goes_on
