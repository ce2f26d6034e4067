-- Parts of goals and works: what a name names, and works with a hypothesis, fact or variable more or less.
use Rattle.std.specs.Prelude.{ℕ, zero, suc, ◌+◌, Bool, false, ◌&&◌, ◌||◌, ◌==◌, not, nat_lt, is_some, List, [], ◌∷◌, ◌++◌, map, filter, length, Option, Some, None, if◌then◌else◌}
use Rattle.std.specs.List.{list_all, list_any}
use Rattle.std.specs.Str.{bytes_eq}
use Rattle.pm_logic.specs.declared.formula.Pure.{Pure}
use Rattle.pm_logic.specs.declared.formula.Formula.{Formula}
use Rattle.pm_logic.specs.Substitution.{shift_of}
use Rattle.pm_goal.specs.declared.goal.Hyp.{Hyp}
use Rattle.pm_goal.specs.declared.goal.Fact.{Fact}
use Rattle.pm_goal.specs.declared.goal.Goal.{Goal}
use Rattle.pm_goal.specs.declared.work.Kind.{Kind}
use Rattle.pm_goal.specs.declared.work.Kind.TheVariants.{Int, Spat}
use Rattle.pm_goal.specs.declared.work.Held.{Held}
use Rattle.pm_goal.specs.declared.work.Work.{Work}
use Rattle.pm_goal.specs.Find.{find_of}
use Rattle.pm_goal.specs.Fresh.{numbered}
use Rattle.pm_tokens.specs.Characters.{is_digit}
use Rattle.pm_table.specs.Outcomes.{Outcome, Action, one}
use Rattle.pm_table.specs.Occurrences.{shifted_pure}

abbrev pub Named : Type 0
Named = List ℕ

-- ---- what a name names

-- the formula of the hypothesis of this name
abbrev pub hyp_named : Named → List Hyp → Option Formula
hyp_named name [] = None
hyp_named name (h ∷ hs) = if bytes_eq name h.name then Some h.formula else hyp_named name hs

abbrev pub fact_named : Named → List Fact → Option Pure
fact_named name [] = None
fact_named name (f ∷ fs) = if bytes_eq name f.name then Some f.pure else fact_named name fs

-- the index of the variable; the newest, which is the last in the list, is 0
abbrev pub index_named : Named → List Named → Option ℕ
index_named name [] = None
index_named name (x ∷ xs) = if bytes_eq name x then Some (length xs) else index_named name xs

abbrev pub has_int : Goal → Named → Bool
has_int goal name = is_some (hyp_named name goal.ints)

abbrev pub has_spat : Goal → Named → Bool
has_spat goal name = is_some (hyp_named name goal.spats)

abbrev pub has_fact : Goal → Named → Bool
has_fact goal name = is_some (fact_named name goal.pures)

abbrev pub has_hyp : Goal → Named → Bool
has_hyp goal name = has_int goal name || has_spat goal name

abbrev pub has_hyp_or_fact : Goal → Named → Bool
has_hyp_or_fact goal name = has_hyp goal name || has_fact goal name

-- ---- names in use

-- `_` and digits, which are kept for names that are printed for binders
abbrev pub is_numbered : Named → Bool
is_numbered [] = false
is_numbered (b ∷ bs) = b == 95 && nat_lt 0 (length bs) && list_all is_digit bs

-- whether nothing new in the goal can have the name
abbrev pub is_taken : Goal → Named → Bool
is_taken goal name = is_some (find_of goal name) || is_numbered name

abbrev pub fits : Goal → Named → Bool
fits goal name = not (is_taken goal name)

abbrev pub names : Goal → ℕ
names goal = length goal.vars + (length goal.pures + (length goal.ints + length goal.spats))

-- the first of these many numbers, from n on, whose name isn't in use
abbrev pub first_free : ℕ → ℕ → Goal → Named
first_free zero n goal = numbered n
first_free (suc more) n goal = if is_some (find_of goal (numbered n)) then first_free more (suc n) goal else numbered n

-- `_H` and the least number from 1 that gives a name which isn't in use: that many names can't all be taken
abbrev pub fresh_name : Goal → Named
fresh_name goal = first_free (names goal) 1 goal

-- ---- contexts

abbrev pub hyp : Named → Formula → Hyp
hyp name f = record { name = name; formula = f }

abbrev pub fact : Named → Pure → Fact
fact name p = record { name = name; pure = p }

-- new ones go last
abbrev pub with_fact : Named → Pure → Goal → Goal
with_fact name p goal = record goal { pures = goal.pures ++ (fact name p ∷ []) }

abbrev pub with_int : Named → Formula → Goal → Goal
with_int name f goal = record goal { ints = goal.ints ++ (hyp name f ∷ []) }

abbrev pub with_spat : Named → Formula → Goal → Goal
with_spat name f goal = record goal { spats = goal.spats ++ (hyp name f ∷ []) }

abbrev pub with_hyp : Kind → Named → Formula → Goal → Goal
with_hyp Int name f goal = with_int name f goal
with_hyp Spat name f goal = with_spat name f goal

abbrev pub with_concl : Formula → Goal → Goal
with_concl c goal = record goal { concl = c }

-- the others
abbrev pub hyps_but : Named → List Hyp → List Hyp
hyps_but name hs = filter (λ h. not (bytes_eq name h.name)) hs

abbrev pub facts_but : Named → List Fact → List Fact
facts_but name fs = filter (λ f. not (bytes_eq name f.name)) fs

abbrev pub without_fact : Named → Goal → Goal
without_fact name goal = record goal { pures = facts_but name goal.pures }

abbrev pub without_int : Named → Goal → Goal
without_int name goal = record goal { ints = hyps_but name goal.ints }

abbrev pub without_spat : Named → Goal → Goal
without_spat name goal = record goal { spats = hyps_but name goal.spats }

-- without the hypothesis or fact of this name
abbrev pub without_named : Named → Goal → Goal
without_named name goal = record goal { pures = facts_but name goal.pures; ints = hyps_but name goal.ints; spats = hyps_but name goal.spats }

-- ---- lists of names

abbrev pub is_listed : List Named → Named → Bool
is_listed list name = list_any (bytes_eq name) list

-- those of the context that the list names, and the others, each in the context's order
abbrev pub hyps_in : List Named → List Hyp → List Hyp
hyps_in list hs = filter (λ h. is_listed list h.name) hs

abbrev pub hyps_out : List Named → List Hyp → List Hyp
hyps_out list hs = filter (λ h. not (is_listed list h.name)) hs

-- ---- variables

-- what becomes of each formula of a goal
abbrev pub each_fact : (Pure → Pure) → List Fact → List Fact
each_fact change fs = map (λ f. fact f.name (change f.pure)) fs

abbrev pub each_hyp : (Formula → Formula) → List Hyp → List Hyp
each_hyp change hs = map (λ h. hyp h.name (change h.formula)) hs

abbrev pub each_held : (Formula → Formula) → List Held → List Held
each_held change hs = map (λ h. record { kind = h.kind; formula = change h.formula }) hs

-- the newest variable, in whose presence every other index is one higher; the conclusion is another
abbrev pub with_var : Named → Formula → Goal → Goal
with_var x c goal = record { vars = goal.vars ++ (x ∷ []); pures = each_fact shifted_pure goal.pures; ints = each_hyp shift_of goal.ints; spats = each_hyp shift_of goal.spats; concl = c }

-- ---- what is in hand

abbrev pub holding : Kind → Formula → Held
holding k f = record { kind = k; formula = f }

abbrev pub work_of : Goal → List Held → Work
work_of goal held = record { goal = goal; held = held }

abbrev pub hold : Kind → Formula → Work → Work
hold k f work = work_of work.goal (work.held ++ (holding k f ∷ []))

-- the last in hand, on which actions act, and the others
pub record Hand : Type 0 where
  pub others : List Held
  pub last : Held

abbrev pub behind : Held → Hand → Hand
behind h hand = record { others = h ∷ hand.others; last = hand.last }

abbrev pub hand_or : Held → Option Hand → Option Hand
hand_or h None = Some (record { others = []; last = h })
hand_or h (Some hand) = Some (behind h hand)

abbrev pub hand_of : List Held → Option Hand
hand_of [] = None
hand_of (h ∷ hs) = hand_or h (hand_of hs)

abbrev pub acting_on : Work → (Hand → Outcome) → Option Hand → Outcome
acting_on work act None = one work
acting_on work act (Some hand) = act hand

-- the act on what is last in hand; where nothing is, nothing changes
abbrev pub with_last : Work → (Hand → Outcome) → Outcome
with_last work act = acting_on work act (hand_of work.held)

-- an action for works with nothing in hand; where something is, nothing changes
abbrev pub where_none : List Held → Outcome → Outcome → Outcome
where_none [] acted stays = acted
where_none (h ∷ hs) acted stays = stays

abbrev pub at_rest : Action → Action
at_rest action work = where_none work.held (action work) (one work)
