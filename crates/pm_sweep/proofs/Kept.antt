-- What each action keeps: the limits are tested after it, names that differ still differ, and what is scoped stays so.
use Rattle.std.proofs.Common.{◌≡◌, ℕ, suc, ◌≤◌, Bool, true, false, cond, not, List, [], ◌∷◌, sym, subst, refl, arith, Option, Some, None, bytes_eq, le_refl}
use Rattle.std.specs.Option.{option_copied}
use Rattle.pm_logic.specs.declared.formula.Preds.{Preds}
use Rattle.pm_logic.specs.Substitution.{in_pure, in_formula}
use Rattle.pm_goal.specs.declared.goal.Goal.{Goal}
use Rattle.pm_goal.specs.declared.work.Held.{Held}
use Rattle.pm_goal.specs.declared.work.Lemmas.{Lemmas}
use Rattle.pm_goal.specs.declared.work.Work.{Work}
use Rattle.pm_goal.specs.declared.refusal.Row.{Row}
use Rattle.pm_table.specs.declared.place.Place.{Place}
use Rattle.pm_table.specs.Outcomes.{Outcome, gives, refused, Action, one}
use Rattle.pm_table.specs.Limits.{limit_row, work_at, kept_or, within_limits, all_within, limited}
use Rattle.pm_table.specs.Works.{Named, index_named, where_none}
use Rattle.pm_table.specs.Destructs as table
use Rattle.pm_table.specs.Basic as basic
use Rattle.pm_table.specs.Basic.{mentions, names_but, without_var}
use Rattle.pm_table.specs.Occurrences.{without}
use Rattle.pm_table.specs.Patterns.{opening}
use Rattle.pm_table.specs.Introductions.{intro_all_fresh}
use Rattle.pm_table.specs.Works.{fresh_name}
use Rattle.pm_table.specs.Scopes.{IsWorkScoped}
use Rattle.pm_table.specs.Stepping.{NamesDiffer, times}
use Rattle.pm_table.proofs.Keeping.{Everywhere, InOutcome, Good, rest_good}
use Rattle.pm_table.proofs.Outcomes.{joined_in, limited_in, good, opening_in, require_some_in, require_plain_in}
use Rattle.pm_table.proofs.Counting.{fact_names, hyp_names, Fewer, fewer_from, each_hyp_names, each_fact_names, fewer_names, differ_still}
use Rattle.pm_table.proofs.Apart.{actions}
use Rattle.pm_table.proofs.ScopedActions as scoped
use Rattle.pm_sweep.specs.declared.act.Entering.{Entering}
use Rattle.pm_sweep.specs.declared.act.Entering.TheVariants as enter
use Rattle.pm_sweep.specs.declared.act.Handling.{Handling}
use Rattle.pm_sweep.specs.declared.act.Handling.TheVariants as handle
use Rattle.pm_sweep.specs.declared.act.Changing.{Changing}
use Rattle.pm_sweep.specs.declared.act.Changing.TheVariants as change
use Rattle.pm_sweep.specs.declared.act.Giving.{Giving}
use Rattle.pm_sweep.specs.declared.act.Giving.TheVariants as give
use Rattle.pm_sweep.specs.declared.act.Framing.{Framing}
use Rattle.pm_sweep.specs.declared.act.Framing.TheVariants as framed
use Rattle.pm_sweep.specs.declared.act.Act.{Act}
use Rattle.pm_sweep.specs.declared.act.Act.TheVariants as act
use Rattle.pm_sweep.specs.Acts.{entering, handling, giving, changing, framing, action_of}
use Rattle.pm_sweep.specs.Standing.{IsFit, IsHandedTo, IsHandedToGive, IsHandedToChange}

-- ---- limits

abbrev IsWithin : Work → Type 0
IsWithin w = limit_row w ≡ None

kept_within : (p : Place) (o : Option Row) → limit_row (work_at p) ≡ o → InOutcome IsWithin (kept_or p o)
kept_within p None e = (e, tt)
kept_within p (Some row) e = tt

all_are_within : (ps : List Place) → InOutcome IsWithin (all_within ps)
all_are_within [] = tt
all_are_within (p ∷ ps) = joined_in IsWithin (within_limits p) (all_within ps) (kept_within p (limit_row (work_at p)) refl) (all_are_within ps)

limited_within : (o : Outcome) → InOutcome IsWithin (limited o)
limited_within (gives ps) = all_are_within ps
limited_within (refused r) = tt

-- ---- names

abbrev Apart : Work → Type 0
Apart w = NamesDiffer w.goal

times_of_choice : (y : Named) (t : Bool) (xs : List Named) (z : Named) (zs : List Named) → times y (cond t xs (z ∷ zs)) ≡ cond t (times y xs) (cond (bytes_eq y z) (suc (times y zs)) (times y zs))
times_of_choice y true xs z zs = refl
times_of_choice y false xs z zs = refl

one_fewer : (t b : Bool) (n m : ℕ) → m ≤ n → cond t n (cond b (suc m) m) ≤ cond b (suc n) n
one_fewer true true n m le = omega arith
one_fewer true false n m le = le_refl n
one_fewer false true n m le = omega (arith, le)
one_fewer false false n m le = le

but_fewer : (x : Named) (xs : List Named) → Fewer (names_but x xs) xs
but_fewer x [] y = le_refl 0
but_fewer x (z ∷ xs) y =
    subst (λ n. n ≤ cond (bytes_eq y z) (suc (times y xs)) (times y xs)) (sym (times_of_choice y (bytes_eq x z) xs z (names_but x xs)))
    (one_fewer (bytes_eq x z) (bytes_eq y z) (times y xs) (times y (names_but x xs)) (but_fewer x xs y))

without_var_apart : (x : Named) (i : ℕ) (g : Goal) → NamesDiffer g → NamesDiffer (without_var x i g)
without_var_apart x i g h =
    let a : Goal = without_var x i g in
    differ_still a g (fewer_names a g (but_fewer x g.vars) (fewer_from (fact_names a.pures) (fact_names g.pures) (each_fact_names (in_pure (without i)) g.pures)) (fewer_from (hyp_names a.ints) (hyp_names g.ints) (each_hyp_names (in_formula (without i)) g.ints)) (fewer_from (hyp_names a.spats) (hyp_names g.spats) (each_hyp_names (in_formula (without i)) g.spats))) h

revert_var_apart : (x : Named) (w : Work) → Apart w → InOutcome Apart (basic.revert_var x w.goal)
revert_var_apart x w h = require_some_in Apart (index_named x w.goal.vars) _ _ _ (λ i e. require_plain_in Apart (not (mentions i w.goal)) _ _ (λ f. (without_var_apart x i w.goal h, tt)))

-- ---- each action

no_lemmas : Lemmas
no_lemmas = record { list = [] }

module _ (preds : Preds) where
  entering_apart : (a : Entering) → Good Apart (entering a)
  entering_apart (enter.ForPattern p) = (actions preds no_lemmas).intro_one p.now
  entering_apart enter.LeftSide = (actions preds no_lemmas).intro_hyp
  entering_apart enter.FreshVariable = (actions preds no_lemmas).intro_all_fresh
  entering_apart (enter.Take h) = (actions preds no_lemmas).take h.now
  entering_apart (enter.Lend h) = (actions preds no_lemmas).lend h.now

  handling_apart : (a : Handling) → Good Apart (handling a)
  handling_apart (handle.Name h) = (actions preds no_lemmas).name_held h.now
  handling_apart handle.NameFresh = (actions preds no_lemmas).name_fresh
  handling_apart handle.Drop = (actions preds no_lemmas).drop_held
  handling_apart (handle.Pair p q) = (actions preds no_lemmas).pair p.now q.now
  handling_apart handle.Either = (actions preds no_lemmas).either
  handling_apart handle.Absurd = (actions preds no_lemmas).absurd_held
  handling_apart (handle.ToPure h) = (actions preds no_lemmas).to_pure h.now
  handling_apart handle.ToPureFresh = (actions preds no_lemmas).to_pure_fresh
  handling_apart handle.ToInt = (actions preds no_lemmas).to_int
  handling_apart handle.ToSpat = (actions preds no_lemmas).to_spat
  handling_apart handle.Frame = (actions preds no_lemmas).frame_held

  changing_apart : (a : Changing) → Good Apart (changing a)
  changing_apart change.Split = (actions preds no_lemmas).split
  changing_apart (change.SplitLeft list) = (actions preds no_lemmas).split_at true (option_copied list)
  changing_apart (change.SplitRight list) = (actions preds no_lemmas).split_at false (option_copied list)
  changing_apart change.Left = (actions preds no_lemmas).side true
  changing_apart change.Right = (actions preds no_lemmas).side false
  changing_apart (change.Exists t) = (actions preds no_lemmas).exists t.now tt
  changing_apart change.ExFalso = (actions preds no_lemmas).exfalso
  changing_apart (change.Exact h) = (actions preds no_lemmas).exact h.now
  changing_apart change.Assumption = (actions preds no_lemmas).assumption
  changing_apart change.Done = (actions preds no_lemmas).done
  changing_apart change.TryDone = (actions preds no_lemmas).try_done
  changing_apart (change.Clear h) = (actions preds no_lemmas).clear h.now
  changing_apart (change.Rename h k) = (actions preds no_lemmas).rename h.now k.now
  changing_apart (change.Revert h) = (actions preds no_lemmas).revert h.now
  changing_apart (change.RevertVar x) =
      rest_good Apart (λ v. basic.revert_var x.now v.goal) (good Apart (λ v. basic.revert_var x.now v.goal) (revert_var_apart x.now)) (actions preds no_lemmas).stay

  giving_apart : (a : Giving) → Good Apart (giving a)
  giving_apart (give.Term t) = (actions preds no_lemmas).with_term t.now tt

  framing_apart : (a : Framing) → Good Apart (framing a)
  framing_apart (framed.Named h) = (actions preds no_lemmas).frame_named h.now
  framing_apart (framed.Member h) = (actions preds no_lemmas).frame_member h.now

  act_apart : (a : Act) → Good Apart (action_of a)
  act_apart (act.Enter a) = rest_good Apart (entering a) (entering_apart a) (actions preds no_lemmas).stay
  act_apart (act.Handle a) = handling_apart a
  act_apart (act.Give a) = giving_apart a
  act_apart (act.Change a) = changing_apart a
  act_apart (act.Frame a) = framing_apart a

  -- ---- scope

  abbrev InScope : Work → Type 0
  InScope w = IsWorkScoped preds w

  entering_scoped : (a : Entering) (w : Work) → InScope w → InOutcome InScope (limited (entering a w))
  entering_scoped (enter.ForPattern p) w h = (scoped.intro_one preds p.now w h).1
  entering_scoped enter.LeftSide w h = (scoped.intro_hyp preds w h).1
  entering_scoped enter.FreshVariable w h = (scoped.intro_all preds (fresh_name w.goal) w h).1
  entering_scoped (enter.Take x) w h = (scoped.take preds x.now w h).1
  entering_scoped (enter.Lend x) w h = (scoped.lend preds x.now w h).1

  opening_scoped : (action : Action) (w : Work) → InOutcome InScope (action w) → InOutcome InScope (limited (opening (true ∷ []) action w))
  opening_scoped action w h = limited_in InScope (opening (true ∷ []) action w) (opening_in InScope (true ∷ []) (action w) h)

  handling_scoped : (a : Handling) (w : Work) → InScope w → InOutcome InScope (limited (handling a w))
  handling_scoped (handle.Name x) w h = (scoped.name_held preds x.now w h).1
  handling_scoped handle.NameFresh w h = (scoped.name_held preds (fresh_name w.goal) w h).1
  handling_scoped handle.Drop w h = (scoped.drop_held preds w h).1
  handling_scoped (handle.Pair p q) w h = (scoped.pair preds p.now q.now w h).1
  handling_scoped handle.Either w h = (scoped.either preds w h).1
  handling_scoped handle.Absurd w h = (scoped.absurd_held preds w h).1
  handling_scoped (handle.ToPure x) w h = (scoped.to_pure preds x.now w h).1
  handling_scoped handle.ToPureFresh w h = (scoped.to_pure preds (fresh_name w.goal) w h).1
  handling_scoped handle.ToInt w h = opening_scoped table.to_int w (scoped.to_int preds w h).0
  handling_scoped handle.ToSpat w h = opening_scoped table.to_spat w (scoped.to_spat preds w h).0
  handling_scoped handle.Frame w h = (scoped.frame_held preds w h).1

  changing_scoped : (a : Changing) (w : Work) → IsHandedToChange a w → InScope w → InOutcome InScope (limited (changing a w))
  changing_scoped change.Split w i h = (scoped.split preds w h).1
  changing_scoped (change.SplitLeft list) w i h = (scoped.split_at preds true (option_copied list) w h).1
  changing_scoped (change.SplitRight list) w i h = (scoped.split_at preds false (option_copied list) w h).1
  changing_scoped change.Left w i h = (scoped.side preds true w h).1
  changing_scoped change.Right w i h = (scoped.side preds false w h).1
  changing_scoped (change.Exists t) w i h = (scoped.exists preds t.now w i.scoped h).1
  changing_scoped change.ExFalso w i h = (scoped.exfalso preds w h).1
  changing_scoped (change.Exact x) w i h = (scoped.exact preds x.now w h).1
  changing_scoped change.Assumption w i h = (scoped.assumption preds w h).1
  changing_scoped change.Done w i h = (scoped.done preds w h).1
  changing_scoped change.TryDone w i h = (scoped.try_done preds w h).1
  changing_scoped (change.Clear x) w i h = (scoped.clear preds x.now w h).1
  changing_scoped (change.Rename x y) w i h = (scoped.rename preds x.now y.now w h).1
  changing_scoped (change.Revert x) w i h = (scoped.revert preds x.now w h).1
  changing_scoped (change.RevertVar x) w i h = (scoped.revert_var preds x.now w h).1

  giving_scoped : (a : Giving) (w : Work) → IsHandedToGive a w → InScope w → InOutcome InScope (limited (giving a w))
  giving_scoped (give.Term t) w i h = (scoped.with_term preds t.now w i.scoped h).1

  framing_scoped : (a : Framing) (w : Work) → InScope w → InOutcome InScope (limited (framing a w))
  framing_scoped (framed.Named x) w h = (scoped.frame_named preds x.now w h).1
  framing_scoped (framed.Member x) w h = (scoped.frame_member preds x.now w h).1

  -- where something is in hand, the work stays
  rest_scoped : (hs : List Held) (o q : Outcome) → InOutcome InScope (limited o) → InOutcome InScope (limited q) → InOutcome InScope (limited (where_none hs o q))
  rest_scoped [] o q h g = h
  rest_scoped (x ∷ hs) o q h g = g

  pub act_scoped : (a : Act) (w : Work) → IsHandedTo a w → InScope w → InOutcome InScope (limited (action_of a w))
  act_scoped (act.Enter a) w i h = rest_scoped w.held (entering a w) (one w) (entering_scoped a w h) (limited_in InScope (one w) (h, tt))
  act_scoped (act.Handle a) w i h = handling_scoped a w h
  act_scoped (act.Give a) w i h = giving_scoped a w i h
  act_scoped (act.Change a) w i h = changing_scoped a w i h
  act_scoped (act.Frame a) w i h = framing_scoped a w h

-- ---- both

each_fit : (ps : List Place) → Everywhere IsWithin ps → Everywhere Apart ps → Everywhere IsFit ps
each_fit [] h g = tt
each_fit (p ∷ ps) h g = (record { within = h.0; apart = g.0 }, each_fit ps h.1 g.1)

all_fit : (o : Outcome) → InOutcome IsWithin o → InOutcome Apart o → InOutcome IsFit o
all_fit (gives ps) h g = each_fit ps h g
all_fit (refused r) h g = tt

pub act_fit : (preds : Preds) (a : Act) (w : Work) → IsFit w → InOutcome IsFit (limited (action_of a w))
act_fit preds a w h = all_fit (limited (action_of a w)) (limited_within (action_of a w)) (act_apart preds a w h.apart)
