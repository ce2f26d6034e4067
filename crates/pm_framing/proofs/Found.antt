-- What a name stands for, and its part of the star.
use Rattle.std.proofs.Common.{◌≡◌, inl, inr, ℕ, zero, suc, ◌+◌, ◌*◌, ◌<◌, ◌≤◌, Bool, true, false, cond, List, [], ◌∷◌, ◌++◌, length, length-append, map, refl, sym, ◌∙◌, ap, ap₂, subst, arith, Option, Some, None, bytes_eq}
use Rattle.std.specs.Prelude.{option_map}
use Rattle.std.specs.List.{AllByRecursion}
use Rattle.pm_logic.specs.declared.formula.Pure.{Pure}
use Rattle.pm_logic.specs.declared.formula.Formula.{Formula}
use Rattle.pm_logic.specs.declared.formula.Formula.TheVariants.{Pure as Assert}
use Rattle.pm_logic.specs.declared.formula.Formula.TheViews as view
use Rattle.pm_logic.specs.declared.formula.Preds.{Preds}
use Rattle.pm_logic.specs.Scope.{Scoped, ScopedIn}
use Rattle.pm_logic.specs.Size.{depth_of}
use Rattle.pm_goal.specs.declared.goal.Hyp.{Hyp}
use Rattle.pm_goal.specs.declared.goal.Fact.{Fact}
use Rattle.pm_goal.specs.declared.goal.Goal.{Goal}
use Rattle.pm_goal.specs.declared.work.Kind.{Kind}
use Rattle.pm_goal.specs.declared.work.Kind.TheVariants as kind
use Rattle.pm_goal.specs.declared.work.Held.{Held}
use Rattle.pm_goal.specs.declared.work.Work.{Work}
use Rattle.pm_goal.specs.Find.{first_of_two}
use Rattle.pm_goal.specs.Left.{star_onto, of_kind, facts, hyps, left_of_work}
use Rattle.pm_proof.specs.Trees.{Tree, entail}
use Rattle.pm_proof.specs.Known.{Every}
use Rattle.pm_proof.proofs.Fills.{weaker}
use Rattle.pm_star.specs.Stars.{star, parts, shared, work_parts, part_at, without, in_front, duplicated, room as star_room, MayRepeat, Moves}
use Rattle.pm_star.proofs.Contexts.{work_star}
use Rattle.pm_star.proofs.Places.{loses_in_goal, in_goal_at}
use Rattle.pm_star.proofs.Scoping.{depth_sep, duplicated_scoped, part_deep}
use Rattle.pm_table.specs.Limits.{formulas, work_formulas, greatest_depth}
use Rattle.pm_table.specs.Works.{Named, hyp_named, fact_named, holding, without_spat, without_named, work_of}
use Rattle.pm_table.specs.Terms.{held_as}
use Rattle.pm_action.specs.Meanings.{height}
use Rattle.pm_action.specs.Acting.{IsHanded}
use Rattle.pm_action.proofs.Heights.{star_height}
use Rattle.pm_hand.specs.Looking.{IsNamed, HypNamed, IsHypAt, IsFactAt}
use Rattle.pm_hand.proofs.Lookups.{no_spat, only_spat}
use Rattle.pm_hand.proofs.Handing.{inside}
use Rattle.pm_frame.specs.Frames.{AreHanded}
use Rattle.pm_framing.specs.declared.sources.Source.{Source}
use Rattle.pm_framing.specs.Parting.{IsApart}
use Rattle.pm_framing.specs.Sources.{formula_of, IsUsed, IsSource, Finds, spent}
use Rattle.pm_framing.proofs.Handed.{all_parts, of_goal, handed}
use Rattle.pm_framing.proofs.Lasting.{front_apart}

-- ---- what the name stands for

held_as_named : (goal : Goal) (name : Named) (s i : Option Formula) (p : Option Pure) → IsNamed goal name s i p
    → held_as name goal ≡ first_of_two (option_map (holding kind.Spat) s) (first_of_two (option_map (holding kind.Int) i) (option_map (λ q. holding kind.Int (Assert q)) p))
held_as_named goal name s i p n =
    ap (λ x. first_of_two (option_map (holding kind.Spat) x) (first_of_two (option_map (holding kind.Int) (hyp_named name goal.ints)) (option_map (λ q. holding kind.Int (Assert q)) (fact_named name goal.pures)))) n.spats
    ∙ ap₂ (λ x y. first_of_two (option_map (holding kind.Spat) s) (first_of_two (option_map (holding kind.Int) x) (option_map (λ q. holding kind.Int (Assert q)) y))) n.ints n.pures

pub spat_source : (goal : Goal) (name : Named) (place : ℕ) (f : Formula) → IsHypAt goal name place kind.Spat f → IsSource goal name (record { place = place; kind = kind.Spat; formula = f; stays = false })
spat_source goal name place f h = record {
  names = ap (option_map (λ (x : Held). x.formula)) (held_as_named goal name (Some f) None None h.named);
  within = h.at.within;
  is = h.at.is;
  used = (h.at.rest, only_spat goal name h.named.ints h.named.pures);
}

pub int_source : (goal : Goal) (name : Named) (place : ℕ) (f : Formula) → IsHypAt goal name place kind.Int f → IsSource goal name (record { place = place; kind = kind.Int; formula = f; stays = true })
int_source goal name place f h = record {
  names = ap (option_map (λ (x : Held). x.formula)) (held_as_named goal name None (Some f) None h.named);
  within = h.at.within;
  is = h.at.is;
  used = (h.before, no_spat goal name h.named.spats);
}

pub fact_source : (goal : Goal) (name : Named) (place : ℕ) (p : Pure) → IsFactAt goal name place p → IsSource goal name (record { place = place; kind = kind.Spat; formula = Assert p; stays = true })
fact_source goal name place p h = record {
  names = ap (option_map (λ (x : Held). x.formula)) (held_as_named goal name None None (Some p) h.named);
  within = h.at.within;
  is = h.at.is;
  used = (h.before, no_spat goal name h.named.spats);
}

pub none_found : (goal : Goal) (name : Named) → IsNamed goal name None None None → held_as name goal ≡ None
none_found goal name n = held_as_named goal name None None None n

-- ---- it is one of the work's formulas

module _ (P : Formula → Type 0) (name : Named) where
  hyp_all : (hs : List Hyp) (f : Formula) → AllByRecursion P (hyps hs) → hyp_named name hs ≡ Some f → P f
  hyp_all [] f a e = absurd cc
  hyp_all (h ∷ hs) f a e = by (bytes_eq name h.name) (hyp_all hs f a.1) e
    where
      by : (b : Bool) → (hyp_named name hs ≡ Some f → P f) → cond b (Some h.formula) (hyp_named name hs) ≡ Some f → P f
      by true rest e = let same : h.formula ≡ f = cc in subst P same a.0
      by false rest e = rest e

  fact_all : (fs : List Fact) (p : Pure) → AllByRecursion P (facts fs) → fact_named name fs ≡ Some p → P (Assert p)
  fact_all [] p a e = absurd cc
  fact_all (f ∷ fs) p a e = by (bytes_eq name f.name) (fact_all fs p a.1) e
    where
      by : (b : Bool) → (fact_named name fs ≡ Some p → P (Assert p)) → cond b (Some f.pure) (fact_named name fs) ≡ Some p → P (Assert p)
      by true rest e = let same : f.pure ≡ p = cc in subst (λ q. P (Assert q)) same a.0
      by false rest e = rest e

  pub named_all : (goal : Goal) (f : Formula) → AllByRecursion P (formulas goal) → formula_of name goal ≡ Some f → P f
  named_all goal f a e =
      let b = all_parts P (facts goal.pures) (hyps goal.ints ++ (hyps goal.spats ++ (goal.concl ∷ []))) a in
      let c = all_parts P (hyps goal.ints) (hyps goal.spats ++ (goal.concl ∷ [])) b.1 in
      let d = all_parts P (hyps goal.spats) (goal.concl ∷ []) c.1 in
      by b.0 c.0 d.0 (hyp_named name goal.spats) (hyp_named name goal.ints) (fact_named name goal.pures) refl refl refl e
    where
      by : AllByRecursion P (facts goal.pures) → AllByRecursion P (hyps goal.ints) → AllByRecursion P (hyps goal.spats) → (s i : Option Formula) (p : Option Pure) → hyp_named name goal.spats ≡ s → hyp_named name goal.ints ≡ i → fact_named name goal.pures ≡ p
          → option_map (λ (h : Held). h.formula) (first_of_two (option_map (holding kind.Spat) s) (first_of_two (option_map (holding kind.Int) i) (option_map (λ q. holding kind.Int (Assert q)) p))) ≡ Some f → P f
      by ps is ss (Some x) i p es ei ep e = let same : x ≡ f = cc in subst P same (hyp_all goal.spats x ss es)
      by ps is ss None (Some x) p es ei ep e = let same : x ≡ f = cc in subst P same (hyp_all goal.ints x is ei)
      by ps is ss None None (Some q) es ei ep e = let same : Assert q ≡ f = cc in subst P same (fact_all goal.pures q ps ep)
      by ps is ss None None None es ei ep e = absurd cc

all_low : (d : ℕ) (fs : List Formula) → greatest_depth fs ≤ d → AllByRecursion (λ f. depth_of f ≤ d) fs
all_low d [] le = tt
all_low d (f ∷ fs) le = (omega (arith, le), all_low d fs (omega (arith, le)))

pub source_handed : (k : ℕ) (w : Work) (name : Named) (s : Source) → k ≡ length w.goal.vars → IsHanded w → IsSource w.goal name s → AreHanded k s.formula w.goal.concl
source_handed k w name s vars h is =
    let d = greatest_depth (work_formulas w) in
    handed k w s.formula vars h
    (named_all (ScopedIn (length w.goal.vars)) name w.goal s.formula (of_goal (ScopedIn (length w.goal.vars)) w h.scoped) is.names)
    (named_all (λ f. depth_of f ≤ d) name w.goal s.formula (of_goal (λ f. depth_of f ≤ d) w (all_low d (work_formulas w) (omega arith))) is.names)

-- ---- beside the others

star_double : (fs : List Formula) (i : ℕ) → star (duplicated fs i) ≡ view.Sep (part_at fs i) (star fs)
unfolding star_onto
star_double fs i = refl

-- a part once more, beside the whole star
double_apart : (w : Work) (place : ℕ) (part : Formula) (t : Tree) → place < length (work_parts w) → part_at (work_parts w) place ≡ part
    → Moves (length w.goal.vars) (length (work_parts w)) (left_of_work w) (star (duplicated (work_parts w) place)) t → IsApart w part (left_of_work w) t
double_apart w place part t within is m0 =
    let k = length w.goal.vars in
    let fs = work_parts w in
    let x = left_of_work w in
    let whole : star fs ≡ x = work_star w in
    let double : star (duplicated fs place) ≡ view.Sep part x = star_double fs place ∙ ap₂ (λ a b. view.Sep a b) is whole in
    let m : Moves k (length fs) x (view.Sep part x) t = subst (λ r. Moves k (length fs) x r t) double m0 in
    let deep : suc (depth_of part) ≤ depth_of x = subst (λ g. suc (depth_of part) ≤ depth_of g) whole (subst (λ g. suc (depth_of g) ≤ depth_of (star fs)) is (part_deep fs place within)) in
    record {
      proves = weaker Every (entail k x (view.Sep part x)) [] (100 * (length fs + 1)) (star_room x (view.Sep part x)) k (100 * length fs + 100) (height w + 10) k t (omega arith) (omega (arith, star_height w, deep, depth_sep part x)) (omega arith) m;
      scoped = λ preds s. subst (Scoped preds k) double (duplicated_scoped preds k fs place (subst (Scoped preds k) (sym whole) s));
      part_depth = omega (arith, star_height w, deep);
      left_depth = omega (arith, star_height w);
    }

pub used_as : (goal : Goal) (name : Named) (s : Source) (b : Bool) → s.stays ≡ b → IsSource goal name s → IsUsed goal name s.place b
used_as goal name s b e is = subst (IsUsed goal name s.place) e is.used

pub may_repeat : (w : Work) (name : Named) (s : Source) → s.stays ≡ true → IsSource w.goal name s → MayRepeat w s.place
may_repeat w name s e is = inl (used_as w.goal name s true e is).0

pub source_within : (w : Work) (name : Named) (s : Source) → IsSource w.goal name s → s.place < length (work_parts w)
source_within w name s is = inside w s.place is.within

source_part : (w : Work) (name : Named) (s : Source) → IsSource w.goal name s → part_at (work_parts w) s.place ≡ of_kind s.kind s.formula
source_part w name s is = in_goal_at w s.place is.within ∙ is.is

pub stays_apart : (w : Work) (name : Named) (s : Source) (t : Tree) → s.stays ≡ true → IsSource w.goal name s
    → Moves (length w.goal.vars) (length (work_parts w)) (left_of_work w) (star (duplicated (work_parts w) s.place)) t → IsApart w (of_kind s.kind s.formula) (left_of_work (spent w name)) t
stays_apart w name s t e is m =
    subst (λ g. IsApart w (of_kind s.kind s.formula) (left_of_work (work_of g w.held)) t) (sym (used_as w.goal name s true e is).1)
    (double_apart w s.place (of_kind s.kind s.formula) t (source_within w name s is) (source_part w name s is) m)

pub goes_apart : (w : Work) (name : Named) (s : Source) (t : Tree) → s.stays ≡ false → IsSource w.goal name s
    → Moves (length w.goal.vars) (length (work_parts w)) (left_of_work w) (star (in_front (work_parts w) s.place)) t → IsApart w (of_kind s.kind s.formula) (left_of_work (spent w name)) t
goes_apart w name s t e is m =
    let used = used_as w.goal name s false e is in
    subst (λ g. IsApart w (of_kind s.kind s.formula) (left_of_work (work_of g w.held)) t) (sym used.1)
    (front_apart w (work_of (without_named name w.goal) w.held) s.place (of_kind s.kind s.formula) t (source_within w name s is) (source_part w name s is)
    (loses_in_goal w (work_of (without_named name w.goal) w.held) s.place is.within used.0 refl) m)

-- ---- the rest

pub rest_stays : (w rest : Work) (name : Named) (s : Source) → s.stays ≡ true → IsSource w.goal name s → rest ≡ w → rest ≡ spent w name
rest_stays w rest name s e is same = same ∙ ap (λ g. work_of g w.held) (sym (used_as w.goal name s true e is).1)

pub rest_goes : (w copied : Work) (goal : Goal) (name : Named) (s : Source) → s.stays ≡ false → IsSource w.goal name s → copied ≡ w → goal ≡ without_named name w.goal → work_of goal copied.held ≡ spent w name
rest_goes w copied goal name s e is same left = ap₂ (λ g (x : Work). work_of g x.held) (left ∙ sym (used_as w.goal name s false e is).1) same
