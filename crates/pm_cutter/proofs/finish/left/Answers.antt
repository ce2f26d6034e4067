use Rattle.std.proofs.Common.{◌≡◌, ◌∙◌, sym, Bool, true, false, arith}
use Rattle.pm_cutter.specs.Cutting.{Mode, gap}
use Rattle.pm_cutter.specs.Machine.{mode_of}
use Rattle.pm_cutter.proofs.Ending.{starts, left_clean, left_none, left_bad}
use Rattle.pm_cutter.proofs.finish.left.Goals as goal

not_gap : (m : Mode) (t : Bool) → (m ≡ gap → t ≡ true) → t ≡ false → m ≡ gap → ⊥
not_gap m t is e g = let both : true ≡ false = sym (is g) ∙ e in cc

pub returns-then-is_gap : goal.returns-then-is_gap
returns-then-is_gap c = left_clean (mode_of c.args.mode) c.args.held.now c.args.count (c.is_gap.ensures.0 c.if-is_gap.true)

pub bad_byte-requires : goal.bad_byte-requires
bad_byte-requires c = let fits = c.requires c.in-Sentence.start (starts c.args.mode c.in-Sentence.start c.in-Sentence.quoted c.in-Sentence.is) in omega (arith, fits, c.ranges.count)

pub returns-in-Gap : goal.returns-in-Gap
returns-in-Gap c = left_none c.args.mode c.args.held.now c.args.count (not_gap _ _ c.is_gap.ensures.1 c.if-is_gap.false) c.in-Gap.is

pub returns-in-Some : goal.returns-in-Some
returns-in-Some c = left_bad c.args.mode c.args.held.now c.args.count c.in-Sentence.start c.in-Sentence.quoted _ (not_gap _ _ c.is_gap.ensures.1 c.if-is_gap.false) c.in-Sentence.is c.in-Some.ensures

pub returns-in-None : goal.returns-in-None
returns-in-None c = left_bad c.args.mode c.args.held.now c.args.count c.in-Sentence.start c.in-Sentence.quoted _ (not_gap _ _ c.is_gap.ensures.1 c.if-is_gap.false) c.in-Sentence.is c.in-None.ensures
