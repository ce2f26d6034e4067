-- What elementary actions as values do.
use Rattle.std.specs.Prelude.{ℕ, Bool, true, false, [], ◌∷◌}
use Rattle.std.specs.Option.{option_copied}
use Rattle.pm_logic.specs.Size.{term_nodes}
use Rattle.pm_table.specs.declared.place.Place.{Place}
use Rattle.pm_table.specs.Outcomes.{Action}
use Rattle.pm_table.specs.Works.{at_rest}
use Rattle.pm_table.specs.Running.{Run, once, in_place, in_turn}
use Rattle.pm_table.specs.Introductions.{intro_hyp, intro_all_fresh}
use Rattle.pm_table.specs.Destructs as table
use Rattle.pm_table.specs.Terms as terms
use Rattle.pm_table.specs.Basic as basic
use Rattle.pm_table.specs.Basic.{on_goal}
use Rattle.pm_table.specs.Patterns.{opening, intro_one}
use Rattle.pm_sweep.specs.declared.act.Entering.{Entering}
use Rattle.pm_sweep.specs.declared.act.Entering.TheVariants as enter
use Rattle.pm_sweep.specs.declared.act.Handling.{Handling}
use Rattle.pm_sweep.specs.declared.act.Handling.TheVariants as handle
use Rattle.pm_sweep.specs.declared.act.Changing.{Changing}
use Rattle.pm_sweep.specs.declared.act.Changing.TheVariants as change
use Rattle.pm_sweep.specs.declared.act.Giving.{Giving}
use Rattle.pm_sweep.specs.declared.act.Giving.TheVariants as give
use Rattle.pm_sweep.specs.declared.act.Framing.{Framing}
use Rattle.pm_sweep.specs.declared.act.Framing.TheVariants as framed
use Rattle.pm_sweep.specs.declared.act.Act.{Act}
use Rattle.pm_sweep.specs.declared.act.Act.TheVariants as act
use Rattle.pm_sweep.specs.declared.act.Turn.{Turn}
use Rattle.pm_sweep.specs.declared.act.Turn.TheVariants as turn

abbrev pub entering : Entering → Action
entering (enter.ForPattern p) = intro_one p.now
entering enter.LeftSide = intro_hyp
entering enter.FreshVariable = intro_all_fresh
entering (enter.Take h) = terms.take h.now
entering (enter.Lend h) = terms.lend h.now

abbrev pub handling : Handling → Action
handling (handle.Name h) = table.name_held h.now
handling handle.NameFresh = table.name_fresh
handling handle.Drop = table.drop_held
handling (handle.Pair p q) = table.pair p.now q.now
handling handle.Either = table.either
handling handle.Absurd = table.absurd_held
handling (handle.ToPure h) = table.to_pure h.now
handling handle.ToPureFresh = table.to_pure_fresh
handling handle.ToInt = opening (true ∷ []) table.to_int
handling handle.ToSpat = opening (true ∷ []) table.to_spat
handling handle.Frame = terms.frame_held

-- whether a part of the pattern is to come for what it leaves in hand, whether or not something was
abbrev pub opens : Handling → Bool
opens handle.ToInt = true
opens handle.ToSpat = true
opens _ = false

abbrev pub changing : Changing → Action
changing change.Split = on_goal basic.split
changing (change.SplitLeft list) = on_goal (basic.split_at true (option_copied list))
changing (change.SplitRight list) = on_goal (basic.split_at false (option_copied list))
changing change.Left = on_goal (basic.side true)
changing change.Right = on_goal (basic.side false)
changing (change.Exists t) = on_goal (basic.exists t.now)
changing change.ExFalso = on_goal basic.exfalso
changing (change.Exact h) = on_goal (basic.exact h.now)
changing change.Assumption = on_goal basic.assumption
changing change.Done = on_goal basic.done
changing change.TryDone = on_goal basic.try_done
changing (change.Clear h) = on_goal (basic.clear h.now)
changing (change.Rename h k) = on_goal (basic.rename h.now k.now)
changing (change.Revert h) = on_goal (basic.revert h.now)
changing (change.RevertVar x) = on_goal (basic.revert_var x.now)

abbrev pub giving : Giving → Action
giving (give.Term t) = terms.with_term t.now

abbrev pub framing : Framing → Action
framing (framed.Named h) = terms.frame_named h.now
framing (framed.Member h) = terms.frame_member h.now

abbrev pub action_of : Act → Action
action_of (act.Enter a) = at_rest (entering a)
action_of (act.Handle a) = handling a
action_of (act.Give a) = giving a
action_of (act.Change a) = changing a
action_of (act.Frame a) = framing a

-- the nodes of what is handed to it
abbrev pub handed_to_give : Giving → ℕ
handed_to_give (give.Term t) = term_nodes t.now

abbrev pub handed_to_change : Changing → ℕ
handed_to_change (change.Exists t) = term_nodes t.now
handed_to_change _ = 0

abbrev pub handed_to : Act → ℕ
handed_to (act.Enter a) = 0
handed_to (act.Handle a) = 0
handed_to (act.Give a) = handed_to_give a
handed_to (act.Change a) = handed_to_change a
handed_to (act.Frame a) = 0

-- one action, in each of the places that it is for
abbrev pub at_place : Turn → Act → Place → Run
at_place turn.Every a p = in_place (once (handed_to a) (action_of a)) p
at_place (turn.Next parts) a p = in_turn parts (once (handed_to a) (action_of a)) p
