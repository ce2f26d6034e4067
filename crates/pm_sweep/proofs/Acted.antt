-- From what an action answers to what stands where it has run.
use Rattle.std.proofs.Common.{◌≡◌, ℕ, ◌+◌, Bool, List, [], ◌∷◌, map, refl, sym, ◌∙◌, ap, subst, arith}
use Rattle.std.specs.Prelude.{Ok}
use Rattle.pm_logic.specs.declared.formula.Preds.{Preds}
use Rattle.pm_goal.specs.declared.work.Work.{Work}
use Rattle.pm_proof.specs.Trees.{Hole}
use Rattle.pm_proof.specs.Known.{Proves, Every}
use Rattle.pm_proof.specs.declared.proof.Parts.{Parts}
use Rattle.pm_proof.proofs.Fills.{weaker}
use Rattle.pm_table.specs.declared.place.Place.{Place}
use Rattle.pm_table.specs.Outcomes.{Outcome, gives, refused}
use Rattle.pm_table.specs.Limits.{limited, work_at, work_formulas, all_nodes}
use Rattle.pm_table.specs.Running.{Run, ran, run_of, rules_within, turns_behind, keeping_turns, once}
use Rattle.pm_table.specs.Scopes.{IsWorkScoped}
use Rattle.pm_table.proofs.Keeping.{Everywhere, InOutcome, everywhere_turns}
use Rattle.pm_action.specs.Meanings.{meaning, meanings, room, width}
use Rattle.pm_action.specs.Acting.{Answers}
use Rattle.pm_action.proofs.Heights.{sides_height}
use Rattle.pm_sweep.specs.declared.act.Act.{Act}
use Rattle.pm_sweep.specs.Acts.{action_of, handed_to}
use Rattle.pm_sweep.specs.Standing.{IsFit, IsSoundWork, IsHandedTo, Stands, ReplacesWork, DEEPEST, WIDEST}
use Rattle.pm_sweep.proofs.Behind.{same_meanings}
use Rattle.pm_sweep.proofs.Bounds.{low, enough_room, narrow_enough}
use Rattle.pm_sweep.proofs.Kept.{act_fit, act_scoped}

-- ---- nothing has run

hole_proves : (w : Work) → IsFit w → Proves Every (meaning w) (meaning w ∷ []) 0 DEEPEST WIDEST (Hole (meaning w))
hole_proves w h = record {
  concludes = refl;
  holes = refl;
  valid = λ preds among. tt;
  scoped = λ preds e hs. e;
  size = omega arith;
  shallow = omega (arith, sides_height w, low w h);
  narrow = omega (arith, narrow_enough w h);
}

-- a place with the work, and a hole for what it means
pub stands_still : (w : Work) (p : Place) (s : Parts Place) → IsFit w → work_at p ≡ w → s.goals ≡ p ∷ [] → s.proof ≡ Hole (meaning w) → (over : Preds) → IsWorkScoped over w → Stands w 0 s
stands_still w p s h at goals is over based =
    let here : s.goals ≡ p ∷ [] = goals in
    record {
      proves = subst (λ t. Proves Every (meaning w) (meanings s.goals) 0 DEEPEST WIDEST t) (sym is) (subst (λ es. Proves Every (meaning w) es 0 DEEPEST WIDEST (Hole (meaning w))) (sym (ap meanings goals ∙ ap (λ v. meaning v ∷ []) at)) (hole_proves w h));
      fit = subst (λ ps. Everywhere IsFit ps) (sym goals) (subst IsFit (sym at) h, tt);
      scoped = λ preds i. subst (λ ps. Everywhere (IsWorkScoped preds) ps) (sym goals) (subst (IsWorkScoped preds) (sym at) i, tt);
      over = over;
      based = based;
    }

pub sound_stays : (w : Work) (p : Place) (s : Parts Place) → IsSoundWork w → work_at p ≡ w → s.goals ≡ p ∷ [] → s.proof ≡ Hole (meaning w) → ReplacesWork w (ran 0 (p ∷ [])) (Ok s)
sound_stays w p s sound at goals is = (goals, λ over based. stands_still w p s sound.fit at goals is over based)

-- ---- an action has run

module _ (s : ℕ) (w : Work) (turns : List Bool) (sound : IsSoundWork w) where
  replaced : (o : Outcome) (old new : Parts Place) → InOutcome IsFit o → ((preds : Preds) → IsWorkScoped preds w → InOutcome (IsWorkScoped preds) o) → Answers s w o (Ok old) → new.goals ≡ map (turns_behind turns) old.goals → new.proof ≡ old.proof → ReplacesWork w (keeping_turns turns (run_of (rules_within s) o)) (Ok new)
  replaced (refused r) old new fit scoped answer goals is = answer
  replaced (gives ps) old new fit scoped answer goals is =
      let behind = map (turns_behind turns) ps in
      let all : new.goals ≡ behind = goals ∙ ap (λ qs. map (turns_behind turns) qs) answer.0 in
      let acted : Proves Every (meaning w) (meanings ps) (rules_within s) DEEPEST WIDEST old.proof = weaker Every (meaning w) (meanings ps) (rules_within s) (room w ps) (width w) (rules_within s) DEEPEST WIDEST old.proof (omega arith) (enough_room w ps sound.fit fit) (narrow_enough w sound.fit) answer.1 in (
        all,
        λ over based. record {
          proves = subst (λ t. Proves Every (meaning w) (meanings new.goals) (rules_within s) DEEPEST WIDEST t) (sym is) (subst (λ es. Proves Every (meaning w) es (rules_within s) DEEPEST WIDEST old.proof) (sym (ap meanings all ∙ same_meanings turns ps)) acted);
          fit = subst (λ qs. Everywhere IsFit qs) (sym all) (everywhere_turns IsFit turns ps fit);
          scoped = λ preds i. subst (λ qs. Everywhere (IsWorkScoped preds) qs) (sym all) (everywhere_turns (IsWorkScoped preds) turns ps (scoped preds i));
          over = over;
          based = based;
        },
      )

-- an action of an act on a work, behind whose places these turns come
module _ (a : Act) (w : Work) (turns : List Bool) where
  abbrev size : ℕ
  size = all_nodes (work_formulas w) + handed_to a

  abbrev run : Run
  run = keeping_turns turns (once (handed_to a) (action_of a) w)

  pub acted : (old new : Parts Place) → IsSoundWork w → IsHandedTo a w → Answers size w (limited (action_of a w)) (Ok old) → new.goals ≡ map (turns_behind turns) old.goals → new.proof ≡ old.proof → ReplacesWork w run (Ok new)
  acted old new sound handed answer goals is =
      replaced size w turns sound (limited (action_of a w)) old new (act_fit sound.over a w sound.fit) (λ preds i. act_scoped preds a w handed i) answer goals is
