use Rattle.pm_rules.proofs.Certified.{linear_from, linear_first, linear_second}
use Rattle.pm_rules.proofs.certificates.has_factors.Goals as goal

pub returns-then-shows : goal.returns-then-shows
returns-then-shows c = (
  λ h. linear_from c.args.first.now c.args.second.now c.args.vars c.in-Pure-Pure.facts c.in-Pure-Pure.g c.args.left.now c.args.right.now c.in-Pure-Pure.is-0 c.in-Pure-Pure.is-1 c.if-vars-gt-VARIABLES.false (c.shows.ensures.0 c.if-shows.true) (c.has_second.ensures.0 h),
  λ h. c.has_second.ensures.1 (linear_second c.args.first.now c.args.second.now c.args.vars c.in-Pure-Pure.facts c.in-Pure-Pure.g c.args.left.now c.args.right.now c.in-Pure-Pure.is-0 c.in-Pure-Pure.is-1 h),
)

pub returns-else-shows : goal.returns-else-shows
returns-else-shows c = (
  λ h. absurd (cc (c.if-shows.false, h)),
  λ h. c.shows.ensures.1 (linear_first c.args.first.now c.args.second.now c.args.vars c.in-Pure-Pure.facts c.in-Pure-Pure.g c.args.left.now c.args.right.now c.in-Pure-Pure.is-0 c.in-Pure-Pure.is-1 h),
)
