-- Tests of hypotheses and facts, as searches for one formula.
use Rattle.std.proofs.Common.{◌≡◌, ℕ, ◌||◌, Bool, true, false, List, refl, ap, sym, subst, ◌∙◌, Option, Some}
use Rattle.std.specs.List.{list_any}
use Rattle.pm_logic.specs.declared.formula.Pure.{Pure}
use Rattle.pm_logic.specs.declared.formula.Formula.{Formula}
use Rattle.pm_logic.specs.declared.formula.Formula.TheVariants.{Pure as Assert}
use Rattle.pm_logic.specs.declared.formula.Formula.TheViews as view
use Rattle.pm_logic.specs.Trees.{Pers}
use Rattle.pm_logic.proofs.Views.{view_pers}
use Rattle.pm_goal.specs.declared.goal.Hyp.{Hyp}
use Rattle.pm_goal.specs.declared.goal.Fact.{Fact}
use Rattle.pm_goal.specs.declared.goal.Goal.{Goal}
use Rattle.pm_table.specs.Equality.{pure_eq, formula_eq}
use Rattle.pm_table.specs.Basic.{by_int, by_fact, is_hypothesis, is_fact}
use Rattle.pm_table.proofs.Equals.{formula}
use Rattle.pm_closing.specs.Ways.{Tells, IsPart, IsFound}
use Rattle.pm_closing.specs.declared.way.Found.{Found}
use Rattle.pm_closing.proofs.Tests.{any_same, any_none, any_either, by_rest, retest}

settled : (b : Bool) → (b ≡ true → ⊥) → b ≡ false
settled true never = absurd (never refl)
settled false never = refl

-- ---- boxes

box_same : (a f : Formula) → formula_eq (view.Pers a) (Pers f) ≡ formula_eq a f
unfolding formula_eq
box_same a f = rw (view_pers a) refl

pub is_box : (c a f : Formula) → c ≡ view.Pers a → formula_eq c (Pers f) ≡ formula_eq a f
is_box c a f is = ap (λ x. formula_eq x (Pers f)) is ∙ box_same a f

pub no_box : (c f : Formula) → ((a : Formula) → c ≡ view.Pers a → ⊥) → formula_eq c (Pers f) ≡ false
no_box c f never = settled (formula_eq c (Pers f)) (λ e. never f (formula c (Pers f) e ∙ sym (view_pers f)))

pub boxes : (c a : Formula) (hs : List Hyp) → c ≡ view.Pers a → list_any (λ (h : Hyp). formula_eq a h.formula) hs ≡ list_any (λ (h : Hyp). formula_eq c (Pers h.formula)) hs
boxes c a hs is = sym (any_same (λ (h : Hyp). formula_eq c (Pers h.formula)) (λ (h : Hyp). formula_eq a h.formula) (λ h. is_box c a h.formula is) hs)

pub no_boxes : (c : Formula) (hs : List Hyp) → ((a : Formula) → c ≡ view.Pers a → ⊥) → list_any (λ (h : Hyp). formula_eq c (Pers h.formula)) hs ≡ false
no_boxes c hs never = any_none (λ (h : Hyp). formula_eq c (Pers h.formula)) (λ h. no_box c h.formula never) hs

pub either_box : (c : Formula) (hs : List Hyp) → list_any (λ (h : Hyp). formula_eq c h.formula) hs || list_any (λ (h : Hyp). formula_eq c (Pers h.formula)) hs ≡ list_any (λ (h : Hyp). by_int c h.formula) hs
either_box c hs = sym (any_either (λ (h : Hyp). formula_eq c h.formula) (λ (h : Hyp). formula_eq c (Pers h.formula)) hs)

-- ---- facts

pub says : (c : Formula) (p q : Pure) → c ≡ Assert p → by_fact c q ≡ pure_eq p q
unfolding formula_eq
says c p q is = ap (λ x. by_fact x q) is

pub says_none : (c : Formula) (q : Pure) → ((p : Pure) → c ≡ Assert p → ⊥) → by_fact c q ≡ false
says_none c q never = settled (by_fact c q) (λ e. never q (formula c (Assert q) e))

pub said : (c : Formula) (p : Pure) (fs : List Fact) → c ≡ Assert p → list_any (λ (f : Fact). pure_eq p f.pure) fs ≡ list_any (λ (f : Fact). by_fact c f.pure) fs
said c p fs is = sym (any_same (λ (f : Fact). by_fact c f.pure) (λ (f : Fact). pure_eq p f.pure) (λ f. says c p f.pure is) fs)

pub none_said : (c : Formula) (fs : List Fact) → ((p : Pure) → c ≡ Assert p → ⊥) → list_any (λ (f : Fact). by_fact c f.pure) fs ≡ false
none_said c fs never = any_none (λ (f : Fact). by_fact c f.pure) (λ f. says_none c f.pure never) fs

-- ---- what the searches tell of the goal

pub boxed_found : (goal : Goal) (a b : Formula) (place : ℕ) → goal.concl ≡ view.Pers b → a ≡ b → Tells (list_any (λ (h : Hyp). formula_eq a h.formula) goal.ints) (IsPart goal (view.Pers a)) (Some place) → Tells (list_any (λ (h : Hyp). formula_eq goal.concl (Pers h.formula)) goal.ints) (IsPart goal goal.concl) (Some place)
boxed_found goal a b place is e t =
    let box : goal.concl ≡ view.Pers a = is ∙ ap view.Pers (sym e) in
    (sym (boxes goal.concl a goal.ints box) ∙ t.0, subst (λ (f : Formula). IsPart goal f place) (sym box) t.1)

pub boxed_none : (goal : Goal) (a b : Formula) → goal.concl ≡ view.Pers b → a ≡ b → list_any (λ (h : Hyp). formula_eq a h.formula) goal.ints ≡ false → list_any (λ (h : Hyp). formula_eq goal.concl (Pers h.formula)) goal.ints ≡ false
boxed_none goal a b is e t =
    let box : goal.concl ≡ view.Pers a = is ∙ ap view.Pers (sym e) in
    sym (boxes goal.concl a goal.ints box) ∙ t

pub int_found : (goal : Goal) (place : ℕ) → Tells (list_any (λ (h : Hyp). formula_eq goal.concl h.formula) goal.ints) (IsPart goal (view.Pers goal.concl)) (Some place) → Tells (list_any (λ (h : Hyp). by_int goal.concl h.formula) goal.ints) (IsPart goal (view.Pers goal.concl)) (Some place)
int_found goal place t = (sym (either_box goal.concl goal.ints) ∙ ap (λ b. b || list_any (λ (h : Hyp). formula_eq goal.concl (Pers h.formula)) goal.ints) t.0, t.1)

pub int_rest : (goal : Goal) (r : Option Found) → list_any (λ (h : Hyp). formula_eq goal.concl h.formula) goal.ints ≡ false → Tells (list_any (λ (h : Hyp). formula_eq goal.concl (Pers h.formula)) goal.ints) (IsFound goal) r → Tells (list_any (λ (h : Hyp). by_int goal.concl h.formula) goal.ints) (IsFound goal) r
int_rest goal r e t =
    retest (list_any (λ (h : Hyp). formula_eq goal.concl h.formula) goal.ints || list_any (λ (h : Hyp). formula_eq goal.concl (Pers h.formula)) goal.ints) (list_any (λ (h : Hyp). by_int goal.concl h.formula) goal.ints) (IsFound goal) r (either_box goal.concl goal.ints)
    (by_rest (list_any (λ (h : Hyp). formula_eq goal.concl h.formula) goal.ints) (list_any (λ (h : Hyp). formula_eq goal.concl (Pers h.formula)) goal.ints) (IsFound goal) r e t)

pub spat_found : (goal : Goal) (place : ℕ) → Tells (list_any (λ (h : Hyp). formula_eq goal.concl h.formula) goal.spats) (IsPart goal goal.concl) (Some place) → Tells (is_hypothesis goal) (IsPart goal goal.concl) (Some place)
spat_found goal place t = (ap (λ b. b || list_any (λ (h : Hyp). by_int goal.concl h.formula) goal.ints) t.0, t.1)

pub spat_rest : (goal : Goal) (r : Option Found) → list_any (λ (h : Hyp). formula_eq goal.concl h.formula) goal.spats ≡ false → Tells (list_any (λ (h : Hyp). by_int goal.concl h.formula) goal.ints) (IsFound goal) r → Tells (is_hypothesis goal) (IsFound goal) r
spat_rest goal r e t = by_rest (list_any (λ (h : Hyp). formula_eq goal.concl h.formula) goal.spats) (list_any (λ (h : Hyp). by_int goal.concl h.formula) goal.ints) (IsFound goal) r e t

pub said_found : (goal : Goal) (p : Pure) (place : ℕ) → goal.concl ≡ Assert p → Tells (list_any (λ (f : Fact). pure_eq p f.pure) goal.pures) (IsPart goal (Assert p)) (Some place) → Tells (is_fact goal) (IsPart goal goal.concl) (Some place)
said_found goal p place is t = (sym (said goal.concl p goal.pures is) ∙ t.0, subst (λ (f : Formula). IsPart goal f place) (sym is) t.1)

pub said_nowhere : (goal : Goal) (p : Pure) → goal.concl ≡ Assert p → list_any (λ (f : Fact). pure_eq p f.pure) goal.pures ≡ false → is_fact goal ≡ false
said_nowhere goal p is t = sym (said goal.concl p goal.pures is) ∙ t

pub hypothesis_found : (goal : Goal) (x : Found) → Tells (is_hypothesis goal) (IsFound goal) (Some x) → Tells (is_hypothesis goal || is_fact goal) (IsFound goal) (Some x)
hypothesis_found goal x t = (ap (λ b. b || is_fact goal) t.0, t.1)

pub hypothesis_rest : (goal : Goal) (r : Option Found) → is_hypothesis goal ≡ false → Tells (is_fact goal) (IsFound goal) r → Tells (is_hypothesis goal || is_fact goal) (IsFound goal) r
hypothesis_rest goal r e t = by_rest (is_hypothesis goal) (is_fact goal) (IsFound goal) r e t
