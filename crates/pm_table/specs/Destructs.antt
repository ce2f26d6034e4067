-- What patterns do with what is last in hand. In each row the conditions stand in the order in which they are tested.
use Rattle.std.specs.Prelude.{Bool, true, false, ◌++◌, List, [], ◌∷◌, Option, Some, None}
use Rattle.pm_logic.specs.declared.formula.Pure.TheVariants.{False}
use Rattle.pm_logic.specs.declared.formula.Formula.{Formula}
use Rattle.pm_logic.specs.declared.formula.Formula.TheVariants.{Pure as Assert}
use Rattle.pm_logic.specs.Trees.{And}
use Rattle.pm_goal.specs.declared.goal.Goal.{Goal}
use Rattle.pm_goal.specs.declared.work.Kind.{Kind}
use Rattle.pm_goal.specs.declared.work.Kind.TheVariants.{Int, Spat}
use Rattle.pm_goal.specs.declared.work.Held.{Held}
use Rattle.pm_goal.specs.declared.work.Work.{Work}
use Rattle.pm_goal.specs.declared.refusal.Row.TheVariants.{NameInUse, NotPair, NotAlternatives, NotFalsehood, NotPure, NotPersistent}
use Rattle.pm_logic.specs.Substitution.{shift_of}
use Rattle.pm_patterns.specs.declared.pattern.Pat.{Pat}
use Rattle.pm_patterns.specs.declared.pattern.Pat.TheVariants.{Drop, PureName, PureFresh}
use Rattle.pm_classes.specs.Classes.{Parts, into_sep, into_and, into_or, into_exist, into_pure, into_persistent}
use Rattle.pm_table.specs.Outcomes.{Outcome, gives, refuse_plain, require, require_plain, require_entry, closed, one}
use Rattle.pm_table.specs.declared.place.Place.TheVariants.{Current as current}
use Rattle.pm_table.specs.Works.{Named, fits, fresh_name, with_fact, with_hyp, with_var, holding, each_held, work_of, Hand, with_last}

-- the work with what was behind the last in hand, and these formulas of the kind after it
abbrev pub with_hand : Work → Hand → List Held → Work
with_hand work hand new = work_of work.goal (hand.others ++ new)

-- the work, on which these of the patterns to come act
abbrev pub opened : List Bool → Work → Outcome
opened turns work = gives (current turns work ∷ [])

-- ---- names

-- named, in the context of its kind
abbrev pub name_held : Named → Work → Outcome
name_held h work = with_last work (λ hand.
    require (fits work.goal h) NameInUse h
    (one (work_of (with_hyp hand.last.kind h hand.last.formula work.goal) hand.others)))

abbrev pub name_fresh : Work → Outcome
name_fresh work = name_held (fresh_name work.goal) work

abbrev pub drop_held : Work → Outcome
drop_held work = with_last work (λ hand. one (with_hand work hand []))

-- ---- `[p q]`

-- both parts are held, the first one last, so that it is acted on first
abbrev pub both_parts : Work → Hand → Parts → Outcome
both_parts work hand p = opened (true ∷ true ∷ []) (with_hand work hand (holding hand.last.kind p.second ∷ holding hand.last.kind p.first ∷ []))

-- the goal gains the variable, and the body is held, on which the second pattern acts
abbrev pub body_held : Work → Hand → Named → Formula → Outcome
body_held work hand x b =
    require (fits work.goal x) NameInUse x
    (opened (false ∷ true ∷ []) (work_of (with_var x (shift_of work.goal.concl) work.goal) (each_held shift_of hand.others ++ (holding hand.last.kind b ∷ []))))

-- one part is held, on which its pattern acts
abbrev pub first_part : Work → Hand → Formula → Outcome
first_part work hand a = opened (true ∷ false ∷ []) (with_hand work hand (holding Spat a ∷ []))

abbrev pub second_part : Work → Hand → Formula → Outcome
second_part work hand b = opened (false ∷ true ∷ []) (with_hand work hand (holding Spat b ∷ []))

-- what is taken apart by its kind: a spatial one as a star, an intuitionistic one as a conjunction
abbrev pub into_parts : Kind → Formula → Option Parts
into_parts Spat f = into_sep f
into_parts Int f = into_and f

-- the name that a pattern gives to a variable
abbrev pub var_name : Goal → Pat → Option Named
var_name goal (PureName x) = Some x
var_name goal PureFresh = Some (fresh_name goal)
var_name goal _ = None

abbrev pub is_drop : Pat → Bool
is_drop Drop = true
is_drop _ = false

-- of a conjunction one part, where the pattern of the other drops it
abbrev pub one_part : Work → Hand → (p q : Bool) → Formula → Outcome
one_part work hand true q (And a b) = second_part work hand b
one_part work hand false true (And a b) = first_part work hand a
one_part work hand p q _ = refuse_plain NotPair

abbrev pub fourth_way : Work → Hand → Kind → (p q : Bool) → Outcome
fourth_way work hand Spat p q = one_part work hand p q hand.last.formula
fourth_way work hand Int p q = refuse_plain NotPair

abbrev pub third_way : Work → Hand → Option Named → Option Formula → Outcome → Outcome
third_way work hand (Some x) (Some b) others = body_held work hand x b
third_way work hand (Some x) None others = others
third_way work hand None b others = others

abbrev pub parts_or : Work → Hand → Option Parts → Outcome → Outcome
parts_or work hand (Some p) others = both_parts work hand p
parts_or work hand None others = others

-- the first of the ways that applies: the parts by the kind, a variable and the body, one part of a conjunction
abbrev pub pair : (p q : Pat) → Work → Outcome
pair p q work = with_last work (λ hand.
    parts_or work hand (into_parts hand.last.kind hand.last.formula)
    (third_way work hand (var_name work.goal p) (into_exist hand.last.formula)
    (fourth_way work hand hand.last.kind (is_drop p) (is_drop q))))

-- ---- the other patterns

-- `[p|q]`: two works, the first pattern for the first and the second for the second
abbrev pub either : Work → Outcome
either work = with_last work (λ hand.
    require_entry (into_or hand.last.formula) NotAlternatives (λ p.
    gives (current (true ∷ false ∷ []) (with_hand work hand (holding hand.last.kind p.first ∷ []))
    ∷ current (false ∷ true ∷ []) (with_hand work hand (holding hand.last.kind p.second ∷ []))
    ∷ [])))

abbrev pub is_falsehood : Formula → Bool
is_falsehood (Assert False) = true
is_falsehood _ = false

-- `[]`
abbrev pub absurd_held : Work → Outcome
absurd_held work = with_last work (λ hand. require_plain (is_falsehood hand.last.formula) NotFalsehood closed)

-- `%H`: a fact
abbrev pub to_pure : Named → Work → Outcome
to_pure h work = with_last work (λ hand.
    require_entry (into_pure hand.last.formula) NotPure (λ p.
    require (fits work.goal h) NameInUse h
    (one (work_of (with_fact h p work.goal) hand.others))))

abbrev pub to_pure_fresh : Work → Outcome
to_pure_fresh work = to_pure (fresh_name work.goal) work

-- what stands under the box: all of an intuitionistic one
abbrev pub boxed_part : Kind → Formula → Option Formula
boxed_part Int f = Some f
boxed_part Spat f = into_persistent f

-- `#p`
abbrev pub to_int : Work → Outcome
to_int work = with_last work (λ hand.
    require_entry (boxed_part hand.last.kind hand.last.formula) NotPersistent (λ g.
    one (with_hand work hand (holding Int g ∷ []))))

-- `-#p`
abbrev pub to_spat : Work → Outcome
to_spat work = with_last work (λ hand. one (with_hand work hand (holding Spat hand.last.formula ∷ [])))
