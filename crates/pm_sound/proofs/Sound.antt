-- All rules are sound, and falsehood isn't true.
use Rattle.std.proofs.Common.{[], refl}
use Rattle.pm_rules.specs.declared.rules.Rule.TheVariants as rule
use Rattle.pm_model.specs.Resource.{nothing}
use Rattle.pm_sound.specs.Laws.{AllAreSound, TablesAreConsistent}
use Rattle.pm_sound.proofs.Groups.{connectives, star, later, persistence, updates, facts, points_to, recursion}

pub all_sound : AllAreSound
all_sound rule.Refl = connectives.refl
all_sound rule.Trans = connectives.trans
all_sound (rule.Inst sigma) = connectives.inst sigma
all_sound rule.True = connectives.true_
all_sound rule.False = connectives.false_
all_sound rule.AndL = connectives.and_l
all_sound rule.AndR = connectives.and_r
all_sound rule.AndI = connectives.and_i
all_sound rule.OrL = connectives.or_l
all_sound rule.OrR = connectives.or_r
all_sound rule.OrE = connectives.or_e
all_sound rule.ImpI = connectives.imp_i
all_sound rule.ImpE = connectives.imp_e
all_sound rule.AllI = connectives.all_i
all_sound (rule.AllE t) = connectives.all_e t
all_sound (rule.ExI t) = connectives.ex_i t
all_sound rule.ExE = connectives.ex_e
all_sound rule.SepMono = star.sep_mono
all_sound rule.SepComm = star.sep_comm
all_sound rule.SepAssocR = star.sep_assoc_r
all_sound rule.SepAssocL = star.sep_assoc_l
all_sound rule.SepUnit = star.sep_unit
all_sound rule.SepWeaken = star.sep_weaken
all_sound rule.WandI = star.wand_i
all_sound rule.WandE = star.wand_e
all_sound rule.LaterMono = later.later_mono
all_sound rule.LaterIntro = later.later_intro
all_sound rule.Loeb = later.loeb
all_sound rule.LaterSep = later.later_sep
all_sound rule.SepLater = later.sep_later
all_sound rule.LaterAnd = later.later_and
all_sound rule.LaterOr = later.later_or
all_sound rule.LaterAll = later.later_all
all_sound rule.LaterEx = later.later_ex
all_sound rule.PersMono = persistence.pers_mono
all_sound rule.PersElim = persistence.pers_elim
all_sound rule.PersIdem = persistence.pers_idem
all_sound rule.PersDup = persistence.pers_dup
all_sound rule.PersPure = persistence.pers_pure
all_sound rule.PersAnd = persistence.pers_and
all_sound rule.PersOr = persistence.pers_or
all_sound rule.PersAll = persistence.pers_all
all_sound rule.PersEx = persistence.pers_ex
all_sound rule.PersLater = persistence.pers_later
all_sound rule.LaterPers = persistence.later_pers
all_sound rule.UpdMono = updates.upd_mono
all_sound rule.UpdIntro = updates.upd_intro
all_sound rule.UpdTrans = updates.upd_trans
all_sound rule.UpdFrame = updates.upd_frame
all_sound rule.UpdPure = updates.upd_pure
all_sound rule.PureAnd = facts.pure_and
all_sound rule.AndPure = facts.and_pure
all_sound rule.PureOr = facts.pure_or
all_sound rule.OrPure = facts.or_pure
all_sound rule.Not = facts.not_
all_sound rule.Em = facts.em
all_sound (rule.Linear c d) = facts.linear c d
all_sound (rule.Rewrite b) = facts.rewrite b
all_sound rule.PtsSplit = points_to.pts_split
all_sound rule.PtsJoin = points_to.pts_join
all_sound rule.PtsAgree = points_to.pts_agree
all_sound rule.PtsOver = points_to.pts_over
all_sound rule.PtsWrite = points_to.pts_write
all_sound rule.PtsNew = points_to.pts_new
all_sound rule.Fold = recursion.fold_
all_sound rule.Unfold = recursion.unfold_
all_sound rule.Timeless = recursion.timeless

-- falsehood is forced at no step, and one step later at step 0 alone
pub consistent : TablesAreConsistent
consistent preds = record {
  now = λ f. f.holds [] refl 0 nothing tt;
  later = λ f. f.holds [] refl 1 nothing tt;
}
