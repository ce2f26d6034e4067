-- Parts of formulas: what an action that only moves, names, drops and takes apart may leave of the formulas that are there.
use Rattle.std.specs.Prelude.{ℕ, ◌/◌, Bool, List, [], ◌∷◌, ◌⊎◌, Option}
use Rattle.std.specs.List.{AllByRecursion}
use Rattle.pm_logic.specs.declared.formula.Term.{Term}
use Rattle.pm_logic.specs.declared.formula.Pure as P
use Rattle.pm_logic.specs.declared.formula.Formula.{Formula}
use Rattle.pm_logic.specs.declared.formula.Formula.TheVariants.{Pure as Assert, Pts}
use Rattle.pm_logic.specs.Trees.{both, either, Sep, Wand, And, Or, Imp, All, Ex, Later, Pers, Upd}
use Rattle.pm_logic.specs.Substitution.{shift_of}
use Rattle.pm_goal.specs.declared.work.Work.{Work}
use Rattle.pm_patterns.specs.declared.pattern.Pat.{Pat}
use Rattle.pm_table.specs.Outcomes.{Outcome, gives, refused, Action}
use Rattle.pm_table.specs.Limits.{work_formulas, work_at}
use Rattle.pm_table.specs.Works.{Named}
use Rattle.pm_table.specs.Introductions as introductions
use Rattle.pm_table.specs.Destructs as destructs
use Rattle.pm_table.specs.Basic as basic
use Rattle.pm_table.specs.Basic.{on_goal}
use Rattle.pm_table.specs.Modalities as modalities
use Rattle.pm_table.specs.Terms as terms

-- the first is a part of the second
pub data IsPart : Formula → Formula → Type 0 where
  itself : (f : Formula) → IsPart f f
  -- the sides of connectives
  sep_left : (a b : Formula) → IsPart a (Sep a b)
  sep_right : (a b : Formula) → IsPart b (Sep a b)
  and_left : (a b : Formula) → IsPart a (And a b)
  and_right : (a b : Formula) → IsPart b (And a b)
  or_left : (a b : Formula) → IsPart a (Or a b)
  or_right : (a b : Formula) → IsPart b (Or a b)
  wand_left : (a b : Formula) → IsPart a (Wand a b)
  wand_right : (a b : Formula) → IsPart b (Wand a b)
  imp_left : (a b : Formula) → IsPart a (Imp a b)
  imp_right : (a b : Formula) → IsPart b (Imp a b)
  -- the sides of pure connectives
  both_left : (p q : P.Pure) → IsPart (Assert p) (Assert (both p q))
  both_right : (p q : P.Pure) → IsPart (Assert q) (Assert (both p q))
  either_left : (p q : P.Pure) → IsPart (Assert p) (Assert (either p q))
  either_right : (p q : P.Pure) → IsPart (Assert q) (Assert (either p q))
  -- what quantifiers bind a variable in, and what stands under □ and |==>
  all_body : (b : Formula) → IsPart b (All b)
  ex_body : (b : Formula) → IsPart b (Ex b)
  unboxed : (a : Formula) → IsPart a (Pers a)
  updated : (a : Formula) → IsPart a (Upd a)
  -- of what stands under ▷ or □, a part with that sign before it
  under_later : {g f : Formula} → IsPart g f → IsPart (Later g) (Later f)
  under_box : {g f : Formula} → IsPart g f → IsPart (Pers g) (Pers f)
  -- half of the units
  half : (l : Term) (u : ℕ) (v : Term) → IsPart (Pts l (u / 2) v) (Pts l u v)
  -- the formula as it reads where there is one variable more
  shifted : (f : Formula) → IsPart (shift_of f) f
  -- a part of a part
  part_of_part : {h g f : Formula} → IsPart h g → IsPart g f → IsPart h f

abbrev pub IsPartOfOne : List Formula → Formula → Type 0
IsPartOfOne [] g = ⊥
IsPartOfOne (f ∷ fs) g = IsPart g f ⊎ IsPartOfOne fs g

-- of each work that an action gives
abbrev pub EachWork : (Work → Type 0) → Outcome → Type 0
EachWork P (gives ps) = AllByRecursion (λ p. P (work_at p)) ps
EachWork P (refused r) = Unit {0}

-- each formula of each work that the action gives is a part of a formula of the old one
abbrev pub GivesParts : Action → Type 0
GivesParts action = (w : Work) → EachWork (λ v. AllByRecursion (IsPartOfOne (work_formulas w)) (work_formulas v)) (action w)

-- The actions that move, name, drop, choose and take apart bring in nothing else.
pub record OnlyPartsAreGiven : Type 0 where
  pub intro_hyp : GivesParts introductions.intro_hyp
  pub intro_all : (x : Named) → GivesParts (introductions.intro_all x)
  pub name_held : (x : Named) → GivesParts (destructs.name_held x)
  pub drop_held : GivesParts destructs.drop_held
  pub pair : (p q : Pat) → GivesParts (destructs.pair p q)
  pub either : GivesParts destructs.either
  pub absurd_held : GivesParts destructs.absurd_held
  pub to_int : GivesParts destructs.to_int
  pub to_spat : GivesParts destructs.to_spat
  pub elim_update : GivesParts modalities.elim_update
  pub take : (x : Named) → GivesParts (terms.take x)
  pub lend : (x : Named) → GivesParts (terms.lend x)
  pub split : GivesParts (on_goal basic.split)
  pub split_at : (left : Bool) (list : Option (List Named)) → GivesParts (on_goal (basic.split_at left list))
  pub side : (left : Bool) → GivesParts (on_goal (basic.side left))
  pub exact : (x : Named) → GivesParts (on_goal (basic.exact x))
  pub assumption : GivesParts (on_goal basic.assumption)
  pub done : GivesParts (on_goal basic.done)
  pub try_done : GivesParts (on_goal basic.try_done)
  pub clear : (x : Named) → GivesParts (on_goal (basic.clear x))
  pub rename : (x y : Named) → GivesParts (on_goal (basic.rename x y))
