-- A left side of the conclusion comes into hand.
use Rattle.std.proofs.Common.{◌≡◌, ℕ, suc, ◌+◌, ◌*◌, ◌≤◌, Bool, true, false, not, List, [], ◌∷◌, ◌++◌, length, length-append, refl, sym, ◌∙◌, ap, ap₂, subst, arith}
use Rattle.std.specs.Prelude.{◌&&◌}
use Rattle.std.proofs.lemmas.List.{append-nil}
use Rattle.pm_logic.specs.declared.formula.Formula.{Formula}
use Rattle.pm_logic.specs.declared.formula.Formula.TheViews as view
use Rattle.pm_logic.specs.Trees.{Wand, Imp}
use Rattle.pm_logic.specs.declared.formula.Preds.{Preds}
use Rattle.pm_logic.specs.Classes.{IsPersistent}
use Rattle.pm_logic.specs.Size.{nodes_of, depth_of}
use Rattle.pm_logic.proofs.Views.{view_wand, view_imp}
use Rattle.pm_logic.proofs.Scopes.{scoped_in_imp}
use Rattle.pm_goal.specs.declared.goal.Hyp.{Hyp}
use Rattle.pm_goal.specs.declared.work.Kind.TheVariants.{Spat}
use Rattle.pm_goal.specs.declared.work.Work.{Work}
use Rattle.pm_goal.specs.declared.refusal.Row.TheVariants.{NoHypothesisToIntroduce, ImplicationOverSpatial}
use Rattle.pm_goal.specs.Left.{hyps, held_parts, left_of, left_of_work}
use Rattle.pm_rules.specs.declared.rules.Entail.{Entail}
use Rattle.pm_rules.specs.declared.pattern.Binary.TheVariants as binary
use Rattle.pm_proof.specs.Trees.{Tree, entail, conclusion}
use Rattle.pm_proof.specs.Valid.{EntailScoped}
use Rattle.pm_proof.specs.Known.{Proves, Every, ScopedWhere}
use Rattle.pm_proof.proofs.Fills.{weaker}
use Rattle.pm_schemes.specs.Sketches.{deepest}
use Rattle.pm_schemes.proofs.Scopes.{scoped_two}
use Rattle.pm_star.specs.Stars.{star, shared, parts, work_parts, room as star_room, Moves}
use Rattle.pm_star.specs.Chains.{ChainProves, across}
use Rattle.pm_star.specs.Levels.{left_side, right_side}
use Rattle.pm_star.proofs.Contexts.{goal_star, work_star}
use Rattle.pm_star.proofs.Places.{gains_held}
use Rattle.pm_star.proofs.Scoping.{sep_scoped, depth_box}
use Rattle.pm_classes.specs.Persistence.{is_persistent}
use Rattle.pm_classes.specs.Entries.{HasProof, IsHanded as IsFormulaHanded}
use Rattle.pm_classes.proofs.Table.{persistent_is, persistent_not}
use Rattle.pm_classes.proofs.Sizes.{depth_wand, depth_imp, nodes_imp}
use Rattle.pm_table.specs.declared.place.Place.TheVariants.{Current as current}
use Rattle.pm_table.specs.Outcomes.{Outcome, one, refuse_plain, require_plain, require_entry}
use Rattle.pm_table.specs.Limits.{all_nodes, work_formulas}
use Rattle.pm_table.specs.Works.{hold, work_of, with_concl, holding}
use Rattle.pm_table.specs.Introductions as table
use Rattle.pm_table.specs.Introductions.{is_empty, sides_of}
use Rattle.pm_action.specs.Meanings.{meaning, height, room, width}
use Rattle.pm_action.specs.Acting.{IsActed, IsHanded}
use Rattle.pm_action.proofs.Heights.{star_height, concl_height, concl_depth, parts_nodes}
use Rattle.pm_action.proofs.Moves.{few}
use Rattle.pm_intro.specs.Closing.{Closes}
use Rattle.pm_intro.specs.Ending.{HasMore, Reaches}
use Rattle.pm_intro.specs.Arrows.{introduced, Splits}
use Rattle.pm_intro.proofs.Handed.{concl_nodes, concl_handed}

-- ---- the row

acts_on : Work → Formula → Outcome
acts_on w c = require_entry (sides_of c) NoHypothesisToIntroduce (λ s.
    require_plain (not (table.is_blocked s w.goal)) ImplicationOverSpatial
    (one (hold Spat s.left (work_of (with_concl s.right w.goal) w.held))))

pub wand_row : (w : Work) (a b : Formula) → w.goal.concl ≡ view.Wand a b → table.intro_hyp w ≡ one (introduced w a b)
unfolding acts_on
wand_row w a b e = ap (acts_on w) (e ∙ view_wand a b)

imp_of : Work → Formula → Formula → Bool → Outcome
imp_of w a b blocked = require_plain (not blocked) ImplicationOverSpatial (one (introduced w a b))

imp_row : (w : Work) (a b : Formula) → w.goal.concl ≡ view.Imp a b → table.intro_hyp w ≡ imp_of w a b (not (is_persistent a) && not (is_empty w.goal.spats))
unfolding acts_on imp_of
imp_row w a b e = ap (acts_on w) (e ∙ view_imp a b)

pub imp_row_persistent : (w : Work) (a b : Formula) → w.goal.concl ≡ view.Imp a b → IsPersistent a → table.intro_hyp w ≡ one (introduced w a b)
unfolding imp_of
imp_row_persistent w a b e p = imp_row w a b e ∙ ap (λ x. imp_of w a b (not x && not (is_empty w.goal.spats))) (persistent_is a p)

pub none : (hs : List Hyp) → length hs ≡ 0 → hs ≡ []
none [] e = refl
none (h ∷ hs) e = absurd (omega (arith, e))

and_false : (x : Bool) → (x && false) ≡ false
and_false true = refl
and_false false = refl

pub imp_row_alone : (w : Work) (a b : Formula) → w.goal.concl ≡ view.Imp a b → w.goal.spats ≡ [] → table.intro_hyp w ≡ one (introduced w a b)
unfolding imp_of
imp_row_alone w a b e alone = imp_row w a b e ∙ ap (λ hs. imp_of w a b (not (is_persistent a) && not (is_empty hs))) alone ∙ ap (imp_of w a b) (and_false (not (is_persistent a)))

some : (hs : List Hyp) → (length hs ≡ 0 → ⊥) → is_empty hs ≡ false
some [] n = absurd (n refl)
some (h ∷ hs) n = refl

pub imp_row_blocked : (w : Work) (a b : Formula) → w.goal.concl ≡ view.Imp a b → (IsPersistent a → ⊥) → (length w.goal.spats ≡ 0 → ⊥) → table.intro_hyp w ≡ refuse_plain ImplicationOverSpatial
unfolding imp_of
imp_row_blocked w a b e p n = imp_row w a b e ∙ ap (λ x. imp_of w a b (not x && not (is_empty w.goal.spats))) (persistent_not a p) ∙ ap (λ x. imp_of w a b (true && not x)) (some w.goal.spats n)

pub other_row : (w : Work) → ((a b : Formula) → w.goal.concl ≡ view.Wand a b → ⊥) → ((a b : Formula) → w.goal.concl ≡ view.Imp a b → ⊥) → table.intro_hyp w ≡ refuse_plain NoHypothesisToIntroduce
unfolding acts_on
other_row w nw ni = by w.goal.concl nw ni
  where
    by : (c : Formula) → ((a b : Formula) → c ≡ view.Wand a b → ⊥) → ((a b : Formula) → c ≡ view.Imp a b → ⊥) → acts_on w c ≡ refuse_plain NoHypothesisToIntroduce
    by (Wand a b) nw ni = absurd (nw a b (sym (view_wand a b)))
    by (Imp a b) nw ni = absurd (ni a b (sym (view_imp a b)))
    by c nw ni = refl

-- ---- the new work

pub introduces : (w : Work) (a b : Formula) → HasMore w a (introduced w a b)
introduces w a b = gains_held w (introduced w a b) (holding Spat a) refl refl

-- ---- proofs

module _ (w : Work) (a b : Formula) where
  abbrev pub new : Work
  new = introduced w a b

  -- the part beside the star entails the right side
  pub gap : (star : Formula) (reached : Tree) → star ≡ left_of_work w → Reaches w a new reached → conclusion reached ≡ entail (length w.goal.vars) (view.Sep a star) b
  gap star reached is p = p.concludes ∙ ap (λ l. entail (length w.goal.vars) (view.Sep a l) b) (sym is)

  abbrev pub bound : ℕ
  bound = room w (current [] new ∷ [])

  reached_fits : (reached : Tree) → Reaches w a new reached → Proves Every (conclusion reached) (meaning new ∷ []) (100 * (length (work_parts w) + 1) + 1) bound (width w) reached
  reached_fits reached p =
      let e = entail (length w.goal.vars) (view.Sep a (left_of_work w)) b in
      let n = 100 * (length (work_parts w) + 1) + 1 in
      subst (λ x. Proves Every x (meaning new ∷ []) n bound (width w) reached) (sym p.concludes)
      (weaker Every e (meaning new ∷ []) n (height new + 16) (length w.goal.vars) n bound (width w) reached (omega arith) (omega arith) (omega arith) p)

  pub wand_acts : (star : Formula) (reached t : Tree) → w.goal.concl ≡ view.Wand a b → star ≡ left_of_work w → Reaches w a new reached
      → Closes reached (entail (length w.goal.vars) star (view.Wand a b)) 3 (deepest (a ∷ b ∷ star ∷ []) [] + 1) (length w.goal.vars) t
      → IsActed (all_nodes (work_formulas w)) w (current [] new ∷ []) t
  wand_acts star reached t concl is p closes =
      let s = all_nodes (work_formulas w) in
      let n = 100 * (length (work_parts w) + 1) + 1 in
      let e = entail (length w.goal.vars) star (view.Wand a b) in
      let left : depth_of star ≤ height w + 1 = rw is (star_height w) in
      let whole : depth_of (view.Wand a b) ≤ height w = subst (λ (y : Formula). depth_of y ≤ height w) concl (concl_height w) in
      let q : Proves Every e (meaning new ∷ []) (3 + n) bound (width w) t = closes (meaning new ∷ []) n bound (width w) (omega (arith, left, whole, depth_wand a b)) (omega arith) (reached_fits reached p) in
      let same : e ≡ meaning w = ap₂ (entail (length w.goal.vars)) is (sym concl) in
      weaker Every (meaning w) (meaning new ∷ []) (3 + n) bound (width w) _ bound (width w) t (few s (3 + n) (omega (arith, parts_nodes w))) (omega arith) (omega arith)
      (subst (λ x. Proves Every x (meaning new ∷ []) (3 + n) bound (width w) t) same q)

  -- ---- an implication

  imp_deep : w.goal.concl ≡ view.Imp a b → suc (depth_of a) ≤ height w
  imp_deep concl = omega (arith, concl_height w, ap depth_of concl, depth_imp a b)

  imp_wide : w.goal.concl ≡ view.Imp a b → length w.goal.vars + depth_of a ≤ width w
  imp_wide concl = omega (arith, concl_depth w, ap depth_of concl, depth_imp a b)

  pub left_handed : w.goal.concl ≡ view.Imp a b → IsHanded w → IsFormulaHanded (length w.goal.vars) a
  left_handed concl h =
      let c = subst (IsFormulaHanded (length w.goal.vars)) concl (concl_handed w h) in
      record { scoped = (scoped_in_imp (length w.goal.vars) a b c.scoped).0; within = omega (arith, c.within, depth_imp a b) }

  pub split_left : (star : Formula) (own t : Tree) → w.goal.concl ≡ view.Imp a b → star ≡ left_of_work w → HasProof (length w.goal.vars) a (entail (length w.goal.vars) a (view.Pers a)) own
      → Closes own (entail (length w.goal.vars) (view.And star a) (view.Sep a star)) 10 (deepest (a ∷ star ∷ []) [] + 2) (length w.goal.vars) t
      → Splits w a t
  split_left star own t concl is p closes =
      let e0 = entail (length w.goal.vars) a (view.Pers a) in
      let n = 200 * nodes_of a in
      let d = height w + 12 in
      let left : depth_of star ≤ height w + 1 = rw is (star_height w) in
      let p1 : Proves Every (conclusion own) [] n d (width w) own = subst (λ x. Proves Every x [] n d (width w) own) (sym p.concludes) (weaker Every e0 [] n (depth_of a + 8) (length w.goal.vars + depth_of a) n d (width w) own (omega arith) (omega (arith, imp_deep concl)) (imp_wide concl) p) in
      let q = closes [] n d (width w) (omega (arith, left, imp_deep concl)) (omega arith) p1 in
      let m = 100 * (length (work_parts w) + 1) + 200 * nodes_of a + 12 in
      subst (λ (l : Formula). Proves Every (entail (length w.goal.vars) (view.And l a) (view.Sep a l)) [] m d (width w) t) is
      (weaker Every (entail (length w.goal.vars) (view.And star a) (view.Sep a star)) [] (10 + n) d (width w) m d (width w) t (omega arith) (omega arith) (omega arith) q)

  -- where nothing but what may be used again is there, the star is that of the shared parts
  goal_alone : w.goal.spats ≡ [] → parts w.goal ≡ shared w.goal
  goal_alone spats = ap (λ hs. shared w.goal ++ hyps hs) spats ∙ append-nil (shared w.goal)

  parts_alone : w.held ≡ [] → w.goal.spats ≡ [] → work_parts w ≡ shared w.goal
  parts_alone held spats = ap (λ hs. parts w.goal ++ held_parts hs) held ∙ append-nil (parts w.goal) ∙ goal_alone spats

  alone_star : w.held ≡ [] → w.goal.spats ≡ [] → star (shared w.goal) ≡ left_of_work w
  alone_star held spats = ap star (sym (parts_alone held spats)) ∙ work_star w

  alone_left : w.held ≡ [] → w.goal.spats ≡ [] → left_of w.goal ≡ left_of_work w
  alone_left held spats = sym (goal_star w.goal) ∙ ap star (goal_alone spats) ∙ alone_star held spats

  pub own_star : (st : Formula) (own : Tree) → w.held ≡ [] → w.goal.spats ≡ [] → st ≡ left_of_work w
      → Moves (length w.goal.vars) (length (parts w.goal)) (left_of w.goal) (view.Pers (star (shared w.goal))) own
      → conclusion own ≡ entail (length w.goal.vars) st (view.Pers st)
  own_star st own held spats is m = m.concludes ∙ ap₂ (λ x y. entail (length w.goal.vars) x (view.Pers y)) (alone_left held spats ∙ sym is) (alone_star held spats ∙ sym is)

  pub split_star : (st : Formula) (own t : Tree) → w.goal.concl ≡ view.Imp a b → w.held ≡ [] → w.goal.spats ≡ [] → st ≡ left_of_work w
      → Moves (length w.goal.vars) (length (parts w.goal)) (left_of w.goal) (view.Pers (star (shared w.goal))) own
      → Closes own (entail (length w.goal.vars) (view.And st a) (view.Sep a st)) 12 (deepest (a ∷ st ∷ []) [] + 2) (length w.goal.vars) t
      → Splits w a t
  split_star st own t concl held spats is p closes =
      let e0 = entail (length w.goal.vars) (left_of w.goal) (view.Pers (star (shared w.goal))) in
      let n = 100 * (length (parts w.goal) + 1) in
      let d = height w + 12 in
      let left : depth_of st ≤ height w + 1 = rw is (star_height w) in
      let l1 : depth_of (left_of w.goal) ≤ height w + 1 = rw (alone_left held spats) (star_height w) in
      let l2 : depth_of (star (shared w.goal)) ≤ height w + 1 = rw (alone_star held spats) (star_height w) in
      let p1 : Proves Every (conclusion own) [] n d (width w) own = subst (λ x. Proves Every x [] n d (width w) own) (sym p.concludes) (weaker Every e0 [] n (star_room (left_of w.goal) (view.Pers (star (shared w.goal)))) (length w.goal.vars) n d (width w) own (omega arith) (omega (arith, l1, l2, depth_box (star (shared w.goal)))) (omega arith) p) in
      let q = closes [] n d (width w) (omega (arith, left, imp_deep concl)) (omega arith) p1 in
      let m = 100 * (length (work_parts w) + 1) + 200 * nodes_of a + 12 in
      subst (λ (l : Formula). Proves Every (entail (length w.goal.vars) (view.And l a) (view.Sep a l)) [] m d (width w) t) is
      (weaker Every (entail (length w.goal.vars) (view.And st a) (view.Sep a st)) [] (12 + n) d (width w) m d (width w) t (omega (arith, length-append (parts w.goal) (held_parts w.held))) (omega arith) (omega arith) q)

  -- the two meet
  pub splits_meet : (split reached : Tree) → Splits w a split → Reaches w a new reached → left_side reached ≡ right_side split
  splits_meet split reached p q = ap (λ (e : Entail). e.left) q.concludes ∙ sym (ap (λ (e : Entail). e.right) p.concludes)

  over_both : (split reached : Tree) → Splits w a split → Reaches w a new reached → across split reached ≡ entail (length w.goal.vars) (view.And (left_of_work w) a) b
  over_both split reached p q = ap₂ (λ (x y : Entail). entail x.vars x.left y.right) p.concludes q.concludes

  pub both_gap : (st : Formula) (split reached both : Tree) → st ≡ left_of_work w → Splits w a split → Reaches w a new reached → conclusion both ≡ across split reached → conclusion both ≡ entail (length w.goal.vars) (view.And st a) b
  both_gap st split reached both is p q e = e ∙ over_both split reached p q ∙ ap (λ l. entail (length w.goal.vars) (view.And l a) b) (sym is)

  pub imp_acts : (st : Formula) (split reached both t : Tree) → w.goal.concl ≡ view.Imp a b → st ≡ left_of_work w → Splits w a split → Reaches w a new reached
      → ChainProves split reached both
      → Closes both (entail (length w.goal.vars) st (view.Imp a b)) 1 (deepest (a ∷ b ∷ st ∷ []) [] + 1) (length w.goal.vars) t
      → IsActed (all_nodes (work_formulas w)) w (current [] new ∷ []) t
  imp_acts st split reached both t concl is p q chain closes =
      let s = all_nodes (work_formulas w) in
      let n = 100 * (length (work_parts w) + 1) + 200 * nodes_of a + 12 in
      let m = 100 * (length (work_parts w) + 1) + 1 in
      let e = entail (length w.goal.vars) st (view.Imp a b) in
      let L = left_of_work w in
      let e1 = entail (length w.goal.vars) (view.And L a) (view.Sep a L) in
      let left : depth_of st ≤ height w + 1 = rw is (star_height w) in
      let whole : depth_of (view.Imp a b) ≤ height w = subst (λ (y : Formula). depth_of y ≤ height w) concl (concl_height w) in
      let small : nodes_of a ≤ s = omega (arith, concl_nodes w, ap nodes_of concl, nodes_imp a b) in
      let p1 : Proves Every (conclusion split) [] n bound (width w) split = subst (λ x. Proves Every x [] n bound (width w) split) (sym p.concludes) (weaker Every e1 [] n (height w + 12) (width w) n bound (width w) split (omega arith) (omega arith) (omega arith) p) in
      let over = over_both split reached p q in
      let scope : ScopedWhere (across split reached) (meaning new ∷ []) (conclusion split) = λ preds h hs. subst (EntailScoped preds) (sym p.concludes) (parts_scoped preds (subst (EntailScoped preds) over h)) in
      let r : Proves Every (across split reached) (meaning new ∷ []) (n + m + 1) bound (width w) both = chain Every [] (meaning new ∷ []) n m bound (width w) p1 (reached_fits reached q) scope in
      let r1 : Proves Every (conclusion both) (meaning new ∷ []) (n + m + 1) bound (width w) both = subst (λ x. Proves Every x (meaning new ∷ []) (n + m + 1) bound (width w) both) (sym r.concludes) r in
      let u : Proves Every e (meaning new ∷ []) (1 + (n + m + 1)) bound (width w) t = closes (meaning new ∷ []) (n + m + 1) bound (width w) (omega (arith, left, whole, depth_imp a b)) (omega arith) r1 in
      let same : e ≡ meaning w = ap₂ (entail (length w.goal.vars)) is (sym concl) in
      weaker Every (meaning w) (meaning new ∷ []) (1 + (n + m + 1)) bound (width w) _ bound (width w) t (few s (1 + (n + m + 1)) (omega (arith, parts_nodes w, small))) (omega arith) (omega arith)
      (subst (λ x. Proves Every x (meaning new ∷ []) (1 + (n + m + 1)) bound (width w) t) same u)
    where
      parts_scoped : (preds : Preds) → EntailScoped preds (entail (length w.goal.vars) (view.And (left_of_work w) a) b) → EntailScoped preds (entail (length w.goal.vars) (view.And (left_of_work w) a) (view.Sep a (left_of_work w)))
      parts_scoped preds h = let both = scoped_two preds (length w.goal.vars) binary.And (left_of_work w) a h.0 in (h.0, sep_scoped preds (length w.goal.vars) a (left_of_work w) both.1 both.0)
