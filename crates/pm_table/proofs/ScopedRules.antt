-- Modalities, points-to, predicates' bodies, induction, equations and cases: what they make of scoped works is scoped.
use Rattle.std.proofs.Common.{◌≡◌, ℕ, zero, suc, ◌+◌, ◌≤◌, Bool, true, false, cond, not, ◌==◌, nat_lt, length, List, [], ◌∷◌, find, flat_map, refl, sym, ap, ap₂, subst, arith, Option, Some, None, is_some, option_and_then, bytes_eq, slice_get}
use Rattle.std.specs.Prelude.{MatchOption}
use Rattle.std.specs.Bool.{then_some}
use Rattle.std.specs.List.{list_all}
use Rattle.std.proofs.lemmas.Bool.Decides.{nat_tests}
use Rattle.pm_logic.specs.declared.formula.Term.{Term}
use Rattle.pm_logic.specs.declared.formula.Term.TheVariants.{Lit, Var}
use Rattle.pm_logic.specs.declared.formula.Pure as P
use Rattle.pm_logic.specs.declared.formula.Pure.TheVariants.{False, Eq}
use Rattle.pm_logic.specs.declared.formula.Formula.{Formula}
use Rattle.pm_logic.specs.declared.formula.Formula.TheVariants.{Pure as Assert, Pts, Call}
use Rattle.pm_logic.specs.declared.formula.Formula.TheViews as view
use Rattle.pm_logic.specs.declared.formula.Pred.{Pred}
use Rattle.pm_logic.specs.declared.formula.Preds.{Preds}
use Rattle.pm_logic.specs.declared.formula.TheConstants.{UNIT}
use Rattle.pm_logic.specs.Trees.{add, sub, neg, scale, nope, Sep, And, Or, Later, Pers, Upd}
use Rattle.pm_logic.specs.Changes.{changed_pure, changed}
use Rattle.pm_logic.specs.Abstraction.{term_eq, abstracted, abstract_of}
use Rattle.pm_logic.specs.Substitution.{first, entries, raised, raised_by, shift_of}
use Rattle.pm_logic.specs.Scope.{TermScoped, PureScoped, ScopedIn, CallFits, CallsFit, Scoped, body_of}
use Rattle.pm_logic.proofs.Grows.{term_grows, pure_grows}
use Rattle.pm_logic.proofs.Kept.{entries_reach, first_reaches, abstract_of_scoped, changed_fits}
use Rattle.pm_logic.proofs.Scopes.{sep_scoped_in, sep_fit}
use Rattle.pm_goal.specs.declared.goal.Hyp.{Hyp}
use Rattle.pm_goal.specs.declared.goal.Fact.{Fact}
use Rattle.pm_goal.specs.declared.goal.Goal.{Goal}
use Rattle.pm_goal.specs.declared.work.Kind.TheVariants.{Spat}
use Rattle.pm_goal.specs.declared.work.Work.{Work}
use Rattle.pm_patterns.specs.declared.pattern.Cert.{Cert}
use Rattle.pm_classes.specs.Classes.{into_pure, from_pure, combine, together}
use Rattle.pm_classes.proofs.Scoped as class
use Rattle.pm_table.specs.declared.passage.Passage.{Passage}
use Rattle.pm_table.specs.declared.passage.Passage.TheVariants as passage
use Rattle.pm_table.specs.Limits.{resting}
use Rattle.pm_table.specs.Works
use Rattle.pm_table.specs.Works.{Named, hyp_named, fact_named, has_hyp, has_fact, fits, is_listed, hyps_out, with_int, with_fact, with_var, each_hyp, each_fact, each_held, holding, work_of}
use Rattle.pm_table.specs.Destructs.{is_falsehood}
use Rattle.pm_table.specs.Basic.{with_spats}
use Rattle.pm_table.specs.Equality.{formula_eq}
use Rattle.pm_table.specs.Modalities.{under_box, under_update, without_later, Modality, later, passed, acted, mod_intro, modality_of, head_intro, next, elim_update}
use Rattle.pm_table.specs.Heap.{put_in, put, combine_held, full_location, write, allocate}
use Rattle.pm_table.specs.Loeb.{wands, loeb, body_of_call, formula_named, unfold_call, fold_call}
use Rattle.pm_table.specs.Rewriting.{Equation, equation, equation_of, opening_pure, rewritten, rewritten_pure, occurs, occurs_in_pure, rewritten_goal, subst_held, put_fact_in, put_fact, rewrite_at, rewrite, pure_intro, cases}
use Rattle.pm_table.specs.Linears.{is_atom, linear_conclusion, are_small, in_box, atoms, readings, given_twice, fact_passes, certify, linear, linear_with}
use Rattle.pm_table.specs.Linears.{names_of as names_of_cert}
use Rattle.pm_table.specs.Scopes.{GoalScopedIn, AreBodiesScoped}
use Rattle.pm_table.proofs.Keeping.{InOutcome}
use Rattle.pm_table.proofs.Outcomes.{chosen_in, require_in, require_plain_in, require_some_in, require_entry_in, all_spatial_in, refuse_where_in}
use Rattle.pm_table.proofs.Scopes.{newest, raised_scoped, of_sep, of_and, of_or, of_later, of_pers, of_upd, of_fact, of_location, of_units, of_equation, sep, wand, and_, or_, pers, fact, falsehood, points_to, not_pure, moved, pure_moved, shifted, opened, grown}
use Rattle.pm_table.proofs.Scopes as scope
use Rattle.pm_table.proofs.Scoping.{HypsIn, FactsIn, OneIn, PureIn, Inside, all_filter, one_of_two, either_formula, hyp_named_in, fact_named_in, with_fact_in, with_int_in, hyps_changed, facts_changed, held_changed, wider, held_then, with_hand_in, entry_in, named_in}
use Rattle.pm_table.proofs.ScopedFrames.{under_later_in}
use Rattle.pm_table.proofs.ScopedGoals.{rest_in, concluded}

-- ---- modalities

under_box_in : (preds : Preds) (k : ℕ) (f : Formula) → Scoped preds k f → OneIn preds k (under_box f)
unfolding under_box
under_box_in preds k (Pers a) s = of_pers preds k a s
under_box_in preds k _ s = tt

under_update_in : (preds : Preds) (k : ℕ) (f : Formula) → Scoped preds k f → OneIn preds k (under_update f)
unfolding under_update
under_update_in preds k (Upd a) s = of_upd preds k a s
under_update_in preds k _ s = tt

without_later_in : (preds : Preds) (k : ℕ) (f : Formula) → Scoped preds k f → Scoped preds k (without_later f)
unfolding without_later
without_later_in preds k (Later a) s = of_later preds k a s
without_later_in preds k (Sep a b) s = let h = of_sep preds k a b s in sep preds k (without_later a) (without_later b) (without_later_in preds k a h.0) (without_later_in preds k b h.1)
without_later_in preds k (And a b) s = let h = of_and preds k a b s in and_ preds k (without_later a) (without_later b) (without_later_in preds k a h.0) (without_later_in preds k b h.1)
without_later_in preds k (Or a b) s = let h = of_or preds k a b s in or_ preds k (without_later a) (without_later b) (without_later_in preds k a h.0) (without_later_in preds k b h.1)
without_later_in preds k (Pers a) s = pers preds k (without_later a) (without_later_in preds k a (of_pers preds k a s))
without_later_in preds k _ s = s

-- what a modality makes of scoped formulas is scoped
record IsKind (preds : Preds) (k : ℕ) (m : Modality) : Type 0 where
  strip : (f : Formula) → Scoped preds k f → OneIn preds k (m.strip f)
  act : (f : Formula) → Scoped preds k f → Scoped preds k (m.act f)

later_kind : (preds : Preds) (k : ℕ) → IsKind preds k later
later_kind preds k = record { strip = under_later_in preds k; act = without_later_in preds k }

abbrev KindIn : Preds → ℕ → Option Modality → Type 0
KindIn preds k None = Unit {0}
KindIn preds k (Some m) = IsKind preds k m

modality_in : (preds : Preds) (k : ℕ) (f : Formula) → KindIn preds k (modality_of f)
unfolding modality_of
modality_in preds k (Later a) = later_kind preds k
modality_in preds k (Pers a) = record { strip = under_box_in preds k; act = λ f s. s }
modality_in preds k (Upd a) = record { strip = under_update_in preds k; act = λ f s. s }
modality_in preds k _ = tt

abbrev ContextIn : Preds → ℕ → Option (List Hyp) → Type 0
ContextIn preds k None = Unit {0}
ContextIn preds k (Some hs) = HypsIn preds k hs

context_if : (preds : Preds) (k : ℕ) (b : Bool) (hs : List Hyp) → HypsIn preds k hs → ContextIn preds k (then_some b hs)
context_if preds k true hs h = h
context_if preds k false hs h = tt

passed_in : (preds : Preds) (k : ℕ) (m : Modality) (p : Passage) (hs : List Hyp) → IsKind preds k m → HypsIn preds k hs → ContextIn preds k (passed m p hs)
unfolding passed
passed_in preds k m passage.Empty [] is h = tt
passed_in preds k m passage.Empty (f ∷ hs) is h = tt
passed_in preds k m passage.All hs is h = context_if preds k (list_all (λ i. m.admits i.formula) hs) hs h
passed_in preds k m passage.Transform hs is h = hyps_changed preds k k m.act is.act hs h
passed_in preds k m passage.Clear hs is h = tt
passed_in preds k m passage.Identity hs is h = h

-- ---- points-to

put_hyp_in : (preds : Preds) (k : ℕ) (b : Bool) (g h : Hyp) → Scoped preds k g.formula → Scoped preds k h.formula → Scoped preds k (cond b g h).formula
put_hyp_in preds k true g h s t = s
put_hyp_in preds k false g h s t = t

put_hyps_in : (preds : Preds) (k : ℕ) (x : Named) (f : Formula) (hs : List Hyp) → HypsIn preds k hs → Scoped preds k f → HypsIn preds k (put_in x f hs)
put_hyps_in preds k x f [] h s = tt
put_hyps_in preds k x f (g ∷ hs) h s = (put_hyp_in preds k (bytes_eq x g.name) (Works.hyp x f) g s h.0, put_hyps_in preds k x f hs h.1 s)

put_goal_in : (preds : Preds) (k : ℕ) (x : Named) (f : Formula) (g : Goal) → GoalScopedIn preds k g → Scoped preds k f → GoalScopedIn preds k (put x f g)
put_goal_in preds k x f g h s = record { pures = h.pures; ints = put_hyps_in preds k x f g.ints h.ints s; spats = put_hyps_in preds k x f g.spats h.spats s; concl = h.concl }

view_sep : (preds : Preds) (k : ℕ) (a b : Formula) → Scoped preds k a → Scoped preds k b → Scoped preds k (view.Sep a b)
view_sep preds k a b s t = record { indices = sep_scoped_in k a b s.indices t.indices; calls = sep_fit preds.list a b s.calls t.calls }

not_above : (n limit : ℕ) → nat_lt limit n ≡ false → n ≤ limit
not_above n limit e = grind (arith, nat_tests, e)

together_in : (preds : Preds) (k : ℕ) (l : Term) (a : ℕ) (v : Term) (b : ℕ) (w : Term) → Scoped preds k (Pts l a v) → Scoped preds k (Pts l b w) → Scoped preds k (together l a v b w)
together_in preds k l a v b w s t = within (nat_lt UNIT (a + b)) refl
  where
    whole : a + b ≤ UNIT → Scoped preds k (Pts l (a + b) v)
    whole le = let terms = of_location preds k l a v s in let units = of_units preds k l a v s in let some = units.0 in points_to preds k l (a + b) v terms.0 terms.1 (omega (arith, some)) le

    within : (c : Bool) → nat_lt UNIT (a + b) ≡ c → Scoped preds k (cond c (Assert False) (cond (term_eq v w) (Pts l (a + b) v) (view.Sep (Assert (Eq v w)) (Pts l (a + b) v))))
    within true e = falsehood preds k
    within false e =
        let le : a + b ≤ UNIT = not_above (a + b) UNIT e in
        let values : PureScoped k (Eq v w) = scope.equation preds k v w (of_location preds k l a v s).1 (of_location preds k l b w t).1 in
        either_formula preds k (term_eq v w) (Pts l (a + b) v) (view.Sep (Assert (Eq v w)) (Pts l (a + b) v)) (whole le) (view_sep preds k (Assert (Eq v w)) (Pts l (a + b) v) (fact preds k (Eq v w) values) (whole le))

-- at the location of the first
at_location : (preds : Preds) (k : ℕ) (l m : Term) (b : ℕ) (w : Term) → Scoped preds k (Pts m b w) → TermScoped k l → Scoped preds k (Pts l b w)
at_location preds k l m b w s t = let terms = of_location preds k m b w s in let units = of_units preds k m b w s in points_to preds k l b w t terms.1 units.0 units.1

combine_in : (preds : Preds) (k : ℕ) (f g : Formula) → Scoped preds k f → Scoped preds k g → Scoped preds k (combine f g)
unfolding combine
combine_in preds k (Pts l a v) (Pts m b w) s t = either_formula preds k (term_eq l m) (together l a v b w) (view.Sep (Pts l a v) (Pts m b w)) (together_in preds k l a v b w s (at_location preds k l m b w t (of_location preds k l a v s).0)) (view_sep preds k (Pts l a v) (Pts m b w) s t)
combine_in preds k f g s t = view_sep preds k f g s t

abbrev TermIn : ℕ → Option Term → Type 0
TermIn k None = Unit {0}
TermIn k (Some t) = TermScoped k t

term_if : (k : ℕ) (b : Bool) (t : Term) → TermScoped k t → TermIn k (then_some b t)
term_if k true t h = h
term_if k false t h = tt

location_in : (preds : Preds) (k : ℕ) (f : Formula) → Scoped preds k f → TermIn k (full_location f)
unfolding full_location
location_in preds k (Pts l u v) s = term_if k (u == UNIT) l (of_location preds k l u v s).0
location_in preds k _ s = tt

full : (preds : Preds) (k : ℕ) (l v : Term) → TermScoped k l → TermScoped k v → Scoped preds k (Pts l UNIT v)
full preds k l v s t = points_to preds k l UNIT v s t (omega arith) (omega arith)

-- ---- predicates' bodies

body_scoped : (preds : Preds) (list : List Pred) (p m : ℕ) → CallFits list p m → MatchOption (slice_get list p) (Unit {0}) (λ q. Scoped preds q.arity q.body) → Scoped preds m (body_of list p)
body_scoped preds [] p m e s = absurd e
body_scoped preds (q ∷ list) zero m e s = subst (λ (k : ℕ). Scoped preds k q.body) (sym e) s
body_scoped preds (q ∷ list) (suc p) m e s = body_scoped preds list p m e s

called_in : (preds : Preds) (k : ℕ) (f : Formula) → AreBodiesScoped preds → Scoped preds k f → OneIn preds k (body_of_call preds f)
unfolding body_of_call ScopedIn CallsFit
called_in preds k (Call p args) bodies s = moved preds (length args) k (entries args) (entries_reach k args s.indices) (body_of preds.list p) (body_scoped preds preds.list p (length args) s.calls (bodies p))
called_in preds k _ bodies s = tt

formula_named_in : (preds : Preds) (k : ℕ) (x : Named) (g : Goal) → GoalScopedIn preds k g → OneIn preds k (formula_named x g)
formula_named_in preds k x g h = one_of_two preds k (hyp_named x g.ints) (hyp_named x g.spats) (hyp_named_in preds k x g.ints h.ints) (hyp_named_in preds k x g.spats h.spats)

wands_in : (preds : Preds) (k : ℕ) (hs : List Hyp) (c : Formula) → HypsIn preds k hs → Scoped preds k c → Scoped preds k (wands hs c)
wands_in preds k [] c h s = s
wands_in preds k (g ∷ hs) c h s = wand preds k g.formula (wands hs c) h.0 (wands_in preds k hs c h.1 s)

-- ---- equations

raised_by_none : (t : Term) → raised_by 0 t ≡ t
unfolding raised_by
raised_by_none (Lit z) = refl
raised_by_none (Var i) = ap Var (omega arith)
raised_by_none (add s t) = ap₂ add (raised_by_none s) (raised_by_none t)
raised_by_none (sub s t) = ap₂ sub (raised_by_none s) (raised_by_none t)
raised_by_none (neg t) = ap neg (raised_by_none t)
raised_by_none (scale z t) = ap (scale z) (raised_by_none t)

opening_in : (k : ℕ) (e : Equation) (p : P.Pure) → PureScoped k p → PureScoped (suc k) (opening_pure e p)
unfolding changed ScopedIn
opening_in k e p s =
    let t : PureScoped (suc k) (changed_pure (abstracted 0 (raised_by 0 e.old)) p) = abstract_of_scoped k (Assert p) e.old s in
    subst (λ (x : Term). PureScoped (suc k) (changed_pure (abstracted 0 x) p)) (raised_by_none e.old) t

rewritten_pure_in : (k : ℕ) (e : Equation) → TermScoped k e.new → (p : P.Pure) → PureScoped k p → PureScoped k (rewritten_pure e p)
rewritten_pure_in k e new p s = pure_moved (suc k) k (first e.new) (first_reaches k e.new new) (opening_pure e p) (opening_in k e p s)

rewritten_in : (preds : Preds) (k : ℕ) (e : Equation) → TermScoped k e.new → (f : Formula) → Scoped preds k f → Scoped preds k (rewritten e f)
rewritten_in preds k e new f s =
    let t : Scoped preds (suc k) (abstract_of f e.old) = record { indices = abstract_of_scoped k f e.old s.indices; calls = changed_fits preds.list (λ d. abstracted d (raised_by d e.old)) 0 f s.calls } in
    opened preds k (abstract_of f e.old) e.new t new

abbrev EquationIn : ℕ → Option Equation → Type 0
EquationIn k None = Unit {0}
EquationIn k (Some e) = TermScoped k e.new

one_way : (k : ℕ) (back : Bool) (s t : Term) → TermScoped k s → TermScoped k t → TermScoped k (cond back (equation t s) (equation s t)).new
one_way k true s t h g = h
one_way k false s t h g = g

equation_in : (preds : Preds) (k : ℕ) (back : Bool) (p : P.Pure) → PureScoped k p → EquationIn k (equation_of back p)
unfolding equation_of
equation_in preds k back (Eq s t) h = let both = of_equation preds k s t h in one_way k back s t both.0 both.1
equation_in preds k back _ h = tt

held_equation_in : (preds : Preds) (k : ℕ) (back : Bool) (o : Option P.Pure) → PureIn preds k o → EquationIn k (option_and_then (equation_of back) o)
held_equation_in preds k back None h = tt
held_equation_in preds k back (Some p) h = equation_in preds k back p h

pure_where : (preds : Preds) (k : ℕ) (o : Option P.Pure) → ((p : P.Pure) → o ≡ Some p → Scoped preds k (Assert p)) → PureIn preds k o
pure_where preds k None g = tt
pure_where preds k (Some p) g = of_fact preds k p (g p refl)

rewritten_goal_in : (preds : Preds) (k : ℕ) (e : Equation) (g : Goal) → TermScoped k e.new → GoalScopedIn preds k g → GoalScopedIn preds k (rewritten_goal e g)
rewritten_goal_in preds k e g new h = record {
  pures = facts_changed k k (rewritten_pure e) (rewritten_pure_in k e new) g.pures h.pures;
  ints = hyps_changed preds k k (rewritten e) (rewritten_in preds k e new) g.ints h.ints;
  spats = hyps_changed preds k k (rewritten e) (rewritten_in preds k e new) g.spats h.spats;
  concl = rewritten_in preds k e new g.concl h.concl;
}

put_one_in : (k : ℕ) (b : Bool) (g h : Fact) → PureScoped k g.pure → PureScoped k h.pure → PureScoped k (cond b g h).pure
put_one_in k true g h s t = s
put_one_in k false g h s t = t

put_facts_in : (preds : Preds) (k : ℕ) (x : Named) (p : P.Pure) (fs : List Fact) → FactsIn preds k fs → PureScoped k p → FactsIn preds k (put_fact_in x p fs)
put_facts_in preds k x p [] h s = tt
put_facts_in preds k x p (f ∷ fs) h s = (put_one_in k (bytes_eq x f.name) (Works.fact x p) f s h.0, put_facts_in preds k x p fs h.1 s)

module _ (preds : Preds) (n : ℕ) where
  abbrev In : Work → Type 0
  In w = Inside preds n w

  mod_intro_in : (m : Modality) (w : Work) → IsKind preds (length w.goal.vars) m → In w → InOutcome In (mod_intro m w.goal)
  mod_intro_in m w is h = let k : ℕ = length w.goal.vars in
      entry_in preds n k (m.strip w.goal.concl) _ _ (is.strip w.goal.concl h.scoped.goal.concl) (λ c s. require_entry_in In (passed m m.intuitionistic w.goal.ints) _ _ (λ ints e. require_entry_in In (passed m m.spatial w.goal.spats) _ _ (λ spats f.
      let i : HypsIn preds k ints = subst (ContextIn preds k) e (passed_in preds k m m.intuitionistic w.goal.ints is h.scoped.goal.ints) in
      let j : HypsIn preds k spats = subst (ContextIn preds k) f (passed_in preds k m m.spatial w.goal.spats is h.scoped.goal.spats) in
      (rest_in preds n (acted w.goal ints spats c) h.least (record { pures = h.scoped.goal.pures; ints = i; spats = j; concl = s }), tt))))

  pub head_intro_in : (w : Work) → In w → InOutcome In (head_intro w.goal)
  head_intro_in w h = require_entry_in In (modality_of w.goal.concl) _ _ (λ m e. mod_intro_in m w (subst (KindIn preds (length w.goal.vars)) e (modality_in preds (length w.goal.vars) w.goal.concl)) h)

  pub next_in : (w : Work) → In w → InOutcome In (next w.goal)
  next_in w h = mod_intro_in later w (later_kind preds (length w.goal.vars)) h

  pub elim_update_in : (w : Work) → In w → InOutcome In (elim_update w)
  elim_update_in w h = with_hand_in preds n w _ h (λ hand g. let k : ℕ = length w.goal.vars in
      entry_in preds n k (under_update hand.last.formula) _ _ (under_update_in preds k hand.last.formula g.last) (λ b s. require_plain_in In (is_some (under_update w.goal.concl)) _ _ (λ e.
      (held_then preds n Spat b (work_of w.goal hand.others) (record { scoped = record { goal = h.scoped.goal; held = g.others }; least = h.least }) s, tt))))

  -- ---- points-to

  pub combine_held_in : (x y : Named) (w : Work) → In w → InOutcome In (combine_held x y w.goal)
  combine_held_in x y w h = let k : ℕ = length w.goal.vars in
      let list : List Named = x ∷ y ∷ [] in
      let g : Goal = with_spats (hyps_out list w.goal.spats) w.goal in
      let s : GoalScopedIn preds k g = record { pures = h.scoped.goal.pures; ints = h.scoped.goal.ints; spats = all_filter (λ i. Scoped preds k i.formula) (λ i. not (is_listed list i.name)) w.goal.spats h.scoped.goal.spats; concl = h.scoped.goal.concl } in
      all_spatial_in In w.goal list _ (named_in preds n k (hyp_named x w.goal.spats) _ _ _ (hyp_named_in preds k x w.goal.spats h.scoped.goal.spats) (λ a t. named_in preds n k (hyp_named y w.goal.spats) _ _ _ (hyp_named_in preds k y w.goal.spats h.scoped.goal.spats) (λ b u.
      chosen_in In (is_falsehood (combine a b)) _ _ (λ e. tt) (λ e. (held_then preds n Spat (combine a b) (resting g) (rest_in preds n g h.least s) (combine_in preds k a b t u), tt)))))

  pub write_in : (x : Named) (t : Term) (w : Work) → TermScoped n t → In w → InOutcome In (write x t w.goal)
  write_in x t w given h = let k : ℕ = length w.goal.vars in
      require_in In (has_hyp w.goal x) _ _ _ (λ e. named_in preds n k (hyp_named x w.goal.spats) _ _ _ (hyp_named_in preds k x w.goal.spats h.scoped.goal.spats) (λ f s. require_entry_in In (full_location f) _ _ (λ l i. require_plain_in In (is_some (under_update w.goal.concl)) _ _ (λ j.
      let there : TermScoped k l = subst (TermIn k) i (location_in preds k f s) in
      (rest_in preds n (put x (Pts l UNIT t) w.goal) h.least (put_goal_in preds k x (Pts l UNIT t) w.goal h.scoped.goal (full preds k l t there (term_grows n k t h.least given))), tt)))))

  pub allocate_in : (t : Term) (l : Named) (w : Work) → TermScoped n t → In w → InOutcome In (allocate t l w.goal)
  allocate_in t l w given h = let k : ℕ = length w.goal.vars in
      require_plain_in In (is_some (under_update w.goal.concl)) _ _ (λ e. require_in In (fits w.goal l) _ _ _ (λ free. (
        wider preds n l (shift_of w.goal.concl) (holding Spat (Pts (Var 0) UNIT (raised t)) ∷ []) w.goal h.least h.scoped.goal (shifted preds k w.goal.concl h.scoped.goal.concl)
            (full preds (suc k) (Var 0) (raised t) (newest k) (raised_scoped k t (term_grows n k t h.least given)), tt),
        tt,
      )))

  -- ---- induction and predicates' bodies

  pub loeb_in : (x : Named) (w : Work) → In w → InOutcome In (loeb x w.goal)
  loeb_in x w h = let k : ℕ = length w.goal.vars in
      let all : Formula = Later (wands w.goal.spats w.goal.concl) in
      require_in In (fits w.goal x) _ _ _ (λ free.
      (rest_in preds n (with_int x all w.goal) h.least (with_int_in preds k x all w.goal h.scoped.goal (scope.later preds k (wands w.goal.spats w.goal.concl) (wands_in preds k w.goal.spats w.goal.concl h.scoped.goal.spats h.scoped.goal.concl))), tt))

  pub unfold_call_in : (x : Option Named) (w : Work) → AreBodiesScoped preds → In w → InOutcome In (unfold_call preds x w.goal)
  unfold_call_in None w bodies h = let k : ℕ = length w.goal.vars in
      entry_in preds n k (body_of_call preds w.goal.concl) _ _ (called_in preds k w.goal.concl bodies h.scoped.goal.concl) (λ b s. (concluded preds n b w h s, tt))
  unfold_call_in (Some x) w bodies h = let k : ℕ = length w.goal.vars in
      named_in preds n k (formula_named x w.goal) _ _ _ (formula_named_in preds k x w.goal h.scoped.goal) (λ f s. entry_in preds n k (body_of_call preds f) _ _ (called_in preds k f bodies s) (λ b t.
      (rest_in preds n (put x b w.goal) h.least (put_goal_in preds k x b w.goal h.scoped.goal t), tt)))

  pub fold_call_in : (f : Formula) (x : Named) (w : Work) → Scoped preds n f → In w → InOutcome In (fold_call preds f x w.goal)
  fold_call_in f x w given h = let k : ℕ = length w.goal.vars in
      require_entry_in In (body_of_call preds f) _ _ (λ b e. require_some_in In (formula_named x w.goal) _ _ _ (λ g i. require_plain_in In (formula_eq g b) _ _ (λ j.
      (rest_in preds n (put x f w.goal) h.least (put_goal_in preds k x f w.goal h.scoped.goal (grown preds n k f h.least given)), tt))))

  -- ---- equations, pure conclusions and cases

  pub subst_held_in : (back : Bool) (w : Work) → In w → InOutcome In (subst_held back w)
  subst_held_in back w h = with_hand_in preds n w _ h (λ hand g. require_entry_in In (option_and_then (equation_of back) (into_pure hand.last.formula)) _ _ (λ e i.
      let k : ℕ = length w.goal.vars in
      let new : TermScoped k e.new = subst (EquationIn k) i (held_equation_in preds k back (into_pure hand.last.formula) (pure_where preds k (into_pure hand.last.formula) (λ p j. class.scoped.pure_of preds k hand.last.formula p j g.last))) in
      (record { scoped = record { goal = rewritten_goal_in preds k e w.goal new h.scoped.goal; held = held_changed preds k k (rewritten e) (rewritten_in preds k e new) hand.others g.others }; least = h.least }, tt)))

  rewrite_at_in : (e : Equation) (target : Option Named) (w : Work) → TermScoped (length w.goal.vars) e.new → In w → InOutcome In (rewrite_at e target w.goal)
  rewrite_at_in e None w new h = require_plain_in In (occurs e w.goal.concl) _ _ (λ i. (concluded preds n (rewritten e w.goal.concl) w h (rewritten_in preds (length w.goal.vars) e new w.goal.concl h.scoped.goal.concl), tt))
  rewrite_at_in e (Some x) w new h = let k : ℕ = length w.goal.vars in chosen_in In (has_fact w.goal x) _ _
      (λ i. require_some_in In (fact_named x w.goal.pures) _ _ _ (λ p j. require_plain_in In (occurs_in_pure e p) _ _ (λ m.
      let s : PureScoped k p = subst (PureIn preds k) j (fact_named_in preds k x w.goal.pures h.scoped.goal.pures) in
      (rest_in preds n (put_fact x (rewritten_pure e p) w.goal) h.least (record { pures = put_facts_in preds k x (rewritten_pure e p) w.goal.pures h.scoped.goal.pures (rewritten_pure_in k e new p s); ints = h.scoped.goal.ints; spats = h.scoped.goal.spats; concl = h.scoped.goal.concl }), tt))))
      (λ i. named_in preds n k (formula_named x w.goal) _ _ _ (formula_named_in preds k x w.goal h.scoped.goal) (λ f s. require_plain_in In (occurs e f) _ _ (λ m.
      (rest_in preds n (put x (rewritten e f) w.goal) h.least (put_goal_in preds k x (rewritten e f) w.goal h.scoped.goal (rewritten_in preds k e new f s)), tt))))

  pub rewrite_in : (back : Bool) (x : Named) (target : Option Named) (w : Work) → In w → InOutcome In (rewrite back x target w.goal)
  rewrite_in back x target w h = require_some_in In (fact_named x w.goal.pures) _ _ _ (λ p e. require_entry_in In (equation_of back p) _ _ (λ q i.
      let k : ℕ = length w.goal.vars in
      let s : PureScoped k p = subst (PureIn preds k) e (fact_named_in preds k x w.goal.pures h.scoped.goal.pures) in
      rewrite_at_in q target w (subst (EquationIn k) i (equation_in preds k back p s)) h))

  pub pure_intro_in : (w : Work) → In w → InOutcome In (pure_intro w.goal)
  pure_intro_in w h = require_entry_in In (from_pure w.goal.concl) _ _ (λ p e.
      (rest_in preds n (record w.goal { ints = []; spats = []; concl = Assert p }) h.least (record { pures = h.scoped.goal.pures; ints = tt; spats = tt; concl = class.scoped.of_pure preds (length w.goal.vars) w.goal.concl p e h.scoped.goal.concl }), tt))

  pub cases_in : (p : P.Pure) (x : Named) (w : Work) → PureScoped n p → In w → InOutcome In (cases p x w.goal)
  cases_in p x w given h = let k : ℕ = length w.goal.vars in
      let s : PureScoped k p = pure_grows n k p h.least given in
      require_in In (fits w.goal x) _ _ _ (λ free. (
        rest_in preds n (with_fact x p w.goal) h.least (with_fact_in preds k x p w.goal h.scoped.goal s),
        (rest_in preds n (with_fact x (nope p) w.goal) h.least (with_fact_in preds k x (nope p) w.goal h.scoped.goal (not_pure preds k p s)), tt),
      ))

  -- ---- linear arithmetic, which closes the goal

  pub linear_in : (w : Work) → In w → InOutcome In (linear w.goal)
  linear_in w h = require_entry_in In (linear_conclusion w.goal.concl) _ _ (λ g e. require_plain_in In (are_small g) _ _ (λ i. require_plain_in In (in_box (atoms w.goal.pures) g) _ _ (λ j. tt)))

  pub linear_with_in : (certs : List Cert) (w : Work) → In w → InOutcome In (linear_with certs w.goal)
  linear_with_in certs w h = require_entry_in In (linear_conclusion w.goal.concl) _ _ (λ g e. require_plain_in In (are_small g) _ _ (λ i. require_plain_in In (length certs == length (readings g)) _ _ (λ j. refuse_where_in In (find (λ n. not (has_fact w.goal n)) (flat_map names_of_cert certs)) _ _ (refuse_where_in In (given_twice certs) _ _ (refuse_where_in In (find (λ n. not (fact_passes is_atom w.goal n)) (flat_map names_of_cert certs)) _ _ (require_plain_in In (list_all (fact_passes are_small w.goal) (flat_map names_of_cert certs)) _ _ (λ k. require_plain_in In (certify w.goal certs (readings g)) _ _ (λ l. tt))))))))
