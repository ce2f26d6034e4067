-- What is last in hand, what stands in its place, and what it is taken apart into.
use Rattle.std.specs.Prelude.{ℕ, List, ◌++◌, Option}
use Rattle.pm_logic.specs.declared.formula.Formula.{Formula}
use Rattle.pm_logic.specs.declared.formula.Formula.TheViews as view
use Rattle.pm_goal.specs.declared.work.Kind.{Kind}
use Rattle.pm_goal.specs.declared.work.Held.{Held}
use Rattle.pm_goal.specs.declared.work.Work.{Work}
use Rattle.pm_goal.specs.Left.{of_kind}
use Rattle.pm_rules.specs.declared.rules.Entail.{Entail}
use Rattle.pm_proof.specs.Trees.{entail}
use Rattle.pm_classes.specs.declared.entry.Pair.{Pair}
use Rattle.pm_classes.specs.declared.entry.One.{One}
use Rattle.pm_classes.specs.Classes.{Parts, into_or, into_exist}
use Rattle.pm_classes.specs.Entries.{HasProof, PairAnswers, OneAnswers}
use Rattle.pm_table.specs.Works.{Hand, work_of}
use Rattle.pm_table.specs.Destructs.{into_parts}
use Rattle.pm_action.specs.Acting.{all_but_last}

abbrev pub hand_at : Work → Held → Hand
hand_at w l = record { others = all_but_last w.held; last = l }

-- the work with others in place of what is last in hand
abbrev pub kept : Work → List Held → Work
kept w new = work_of w.goal (all_but_last w.held ++ new)

-- the work without it
abbrev pub rest : Work → Work
rest w = work_of w.goal (all_but_last w.held)

-- ---- what a formula of the kind says of its parts, of the same kind

abbrev pub parts_say : Kind → ℕ → Formula → Parts → Entail
parts_say z k f p = entail k (of_kind z f) (view.Sep (of_kind z p.first) (of_kind z p.second))

abbrev pub cases_say : Kind → ℕ → Formula → Parts → Entail
cases_say z k f p = entail k (of_kind z f) (view.Or (of_kind z p.first) (of_kind z p.second))

abbrev pub body_says : Kind → ℕ → Formula → Formula → Entail
body_says z k f b = entail k (of_kind z f) (view.Ex (of_kind z b))

-- the entries, with proofs
abbrev pub PartsAnswer : Kind → ℕ → Formula → Option Pair → Type 0
PartsAnswer z k f r = PairAnswers (parts_say z k f) k (of_kind z f) (into_parts z f) r

abbrev pub CasesAnswer : Kind → ℕ → Formula → Option Pair → Type 0
CasesAnswer z k f r = PairAnswers (cases_say z k f) k (of_kind z f) (into_or f) r

abbrev pub BodyAnswer : Kind → ℕ → Formula → Option One → Type 0
BodyAnswer z k f r = OneAnswers (body_says z k f) k (of_kind z f) (into_exist f) r

-- a proof of what the entry says
abbrev pub HasParts : Kind → ℕ → Formula → Pair → Type 0
HasParts z k f r = HasProof k (of_kind z f) (entail k (of_kind z f) (view.Sep (of_kind z r.first) (of_kind z r.second))) r.proof

abbrev pub HasCases : Kind → ℕ → Formula → Pair → Type 0
HasCases z k f r = HasProof k (of_kind z f) (entail k (of_kind z f) (view.Or (of_kind z r.first) (of_kind z r.second))) r.proof

abbrev pub HasBody : Kind → ℕ → Formula → One → Type 0
HasBody z k f r = HasProof k (of_kind z f) (entail k (of_kind z f) (view.Ex (of_kind z r.formula))) r.proof
