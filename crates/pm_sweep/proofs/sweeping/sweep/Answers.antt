use Rattle.std.proofs.Common.{◌≡◌, ◌+◌, refl, sym, subst, rules, Some, Ok, Err}
use Rattle.std.specs.Prelude.{slice_get}
use Rattle.pm_proof.specs.Known.{FillProves}
use Rattle.pm_proof.specs.Trees.{conclusion, holes_of}
use Rattle.pm_table.specs.Running.{on_all}
use Rattle.pm_sweep.specs.Acts.{at_place}
use Rattle.pm_sweep.specs.Standing.{IsStanding, Follows}
use Rattle.pm_sweep.proofs.Swept.{next_fills, goes_on, refuses_at, ends}
use Rattle.pm_sweep.proofs.sweeping.sweep.Goals as goal

pub returns-in_err-goals : goal.returns-in_err-goals
returns-in_err-goals c =
    let act = at_place c.args.turn c.args.act in
    let e = c.in_err-goals.field-0.0 in
    let same : c.from_residual.result ≡ Err e = search rules in
    let here = refuses_at act (record { goals = c.as_slice-place-items.result.now; proof = c.args.standing.proof }) c.loop-place.place-index c.place-item.result c.loop-place.new c.loop-place.proof e c.loop-place-test.true c.place-item.is c.loop-place.invariant c.in_err-goals.ensures in
    rw same (subst (λ ps. Follows (record { goals = ps; proof = c.args.standing.proof }) (on_all act ps) (Err e)) c.as_slice-place-items.ensures here)

pub fill-proof-requires : goal.fill-proof-requires
fill-proof-requires c =
    let act = at_place c.args.turn c.args.act in
    let places = c.as_slice-place-items.result.now in
    let standing = subst (λ ps. IsStanding (record { goals = ps; proof = c.args.standing.proof })) (sym c.as_slice-place-items.ensures) c.requires.standing in
    let fills = next_fills act (record { goals = places; proof = c.args.standing.proof }) c.loop-place.place-index c.place-item.result (act c.place-item.result) c.in_ok-goals.field-0 c.loop-place.new c.loop-place.proof standing c.loop-place-test.true c.place-item.is c.loop-place.invariant c.in_ok-goals.ensures in
    subst (λ n. slice_get (holes_of c.loop-place.proof) n ≡ Some (conclusion c.in_ok-goals.field-0.proof)) (sym c.len.ensures) fills

pub loop-place-preserved : goal.loop-place-preserved
loop-place-preserved c =
    let act = at_place c.args.turn c.args.act in
    let places = c.as_slice-place-items.result.now in
    let inner = c.in_ok-goals.field-0 in
    let standing = subst (λ ps. IsStanding (record { goals = ps; proof = c.args.standing.proof })) (sym c.as_slice-place-items.ensures) c.requires.standing in
    let fills = subst (λ n. FillProves c.loop-place.proof n inner.proof c.fill-proof.result) c.len.ensures c.fill-proof.ensures.proves in
    goes_on act (record { goals = places; proof = c.args.standing.proof }) c.loop-place.place-index (c.loop-place.place-index + 1) c.place-item.result inner c.loop-place.new c.append.new.out c.loop-place.proof c.fill-proof.result refl standing c.loop-place-test.true c.place-item.is c.loop-place.invariant c.in_ok-goals.ensures fills c.in_ok-append.ensures

pub returns : goal.returns
returns c =
    let act = at_place c.args.turn c.args.act in
    let there = ends act (record { goals = c.as_slice-place-items.result.now; proof = c.args.standing.proof }) c.loop-place.place-index c.loop-place.new c.loop-place.proof c.loop-place-test.false c.loop-place.invariant in
    subst (λ ps. Follows (record { goals = ps; proof = c.args.standing.proof }) (on_all act ps) (Ok (record { goals = c.loop-place.new; proof = c.loop-place.proof }))) c.as_slice-place-items.ensures there
