-- Each group of rules: the rows of shapes are true, the rules of the other rows are sound by their equations.
use Rattle.pm_logic.specs.declared.formula.Formula.TheBlock as block
use Rattle.pm_logic.specs.declared.formula.Pure.TheBlock as pure_block
use denote.Hole.Carrier as carrier
use Rattle.pm_rules.specs.declared.rules.Rule.TheVariants as rule
use Rattle.pm_sound.specs.Groups.{ConnectivesAreSound, StarIsSound, LaterIsSound, PersistenceIsSound, UpdatesAreSound, PureIsSound, PointsToIsSound, RecursionIsSound}
use Rattle.pm_sound.proofs.Connectives.{refl_true, trans_true, true_true, false_true, and_l_true, and_r_true, and_i_true, or_l_true, or_r_true, or_e_true, imp_i_true, imp_e_true, all_i_true, ex_e_true}
use Rattle.pm_sound.proofs.Star.{sep_mono_true, sep_comm_true, sep_assoc_r_true, sep_assoc_l_true, sep_unit_true, sep_weaken_true, wand_i_true, wand_e_true}
use Rattle.pm_sound.proofs.Laters.{later_mono_true, later_intro_true, loeb_true, later_sep_true, sep_later_true, later_and_true, later_or_true, later_all_true, later_ex_true}
use Rattle.pm_sound.proofs.Persistence.{pers_mono_true, pers_elim_true, pers_idem_true, pers_dup_true, pers_pure_true, pers_and_true, pers_or_true, pers_all_true, pers_ex_true, pers_later_true, later_pers_true}
use Rattle.pm_sound.proofs.Updates.{upd_mono_true, upd_intro_true, upd_trans_true, upd_frame_true, upd_pure_true}
use Rattle.pm_sound.proofs.Facts.{pure_and_true, and_pure_true, pure_or_true, or_pure_true, not_true, em_true}
use Rattle.pm_sound.proofs.ByEquations as equations
use Rattle.pm_sound.proofs.Rows.{by_row}

pub connectives : ConnectivesAreSound
unfolding block.shape-the_row-Formula-0 block.hidden-the_row-Formula-0 carrier.hidden
connectives = record {
  refl = by_row rule.Refl (λ preds s k t. refl_true preds k (s.formula 0));
  trans = by_row rule.Trans (λ preds s k t. trans_true preds k (s.formula 0) (s.formula 2) (s.formula 1) t.0 t.1.0);
  inst = equations.inst;
  true_ = by_row rule.True (λ preds s k t. true_true preds k (s.formula 0));
  false_ = by_row rule.False (λ preds s k t. false_true preds k (s.formula 0));
  and_l = by_row rule.AndL (λ preds s k t. and_l_true preds k (s.formula 0) (s.formula 1));
  and_r = by_row rule.AndR (λ preds s k t. and_r_true preds k (s.formula 0) (s.formula 1));
  and_i = by_row rule.AndI (λ preds s k t. and_i_true preds k (s.formula 0) (s.formula 1) (s.formula 2) t.0 t.1.0);
  or_l = by_row rule.OrL (λ preds s k t. or_l_true preds k (s.formula 0) (s.formula 1));
  or_r = by_row rule.OrR (λ preds s k t. or_r_true preds k (s.formula 0) (s.formula 1));
  or_e = by_row rule.OrE (λ preds s k t. or_e_true preds k (s.formula 0) (s.formula 1) (s.formula 2) t.0 t.1.0);
  imp_i = by_row rule.ImpI (λ preds s k t. imp_i_true preds k (s.formula 0) (s.formula 1) (s.formula 2) t.0);
  imp_e = by_row rule.ImpE (λ preds s k t. imp_e_true preds k (s.formula 0) (s.formula 1) (s.formula 2) t.0);
  all_i = by_row rule.AllI (λ preds s k t. all_i_true preds k (s.formula 0) (s.formula 2) t.0);
  all_e = equations.all_e;
  ex_i = equations.ex_i;
  ex_e = by_row rule.ExE (λ preds s k t. ex_e_true preds k (s.formula 2) (s.formula 1) t.0);
}

pub star : StarIsSound
unfolding block.shape-the_row-Formula-0 block.hidden-the_row-Formula-0 carrier.hidden
star = record {
  sep_mono = by_row rule.SepMono (λ preds s k t. sep_mono_true preds k (s.formula 0) (s.formula 1) (s.formula 2) (s.formula 3) t.0 t.1.0);
  sep_comm = by_row rule.SepComm (λ preds s k t. sep_comm_true preds k (s.formula 0) (s.formula 1));
  sep_assoc_r = by_row rule.SepAssocR (λ preds s k t. sep_assoc_r_true preds k (s.formula 0) (s.formula 1) (s.formula 2));
  sep_assoc_l = by_row rule.SepAssocL (λ preds s k t. sep_assoc_l_true preds k (s.formula 0) (s.formula 1) (s.formula 2));
  sep_unit = by_row rule.SepUnit (λ preds s k t. sep_unit_true preds k (s.formula 0));
  sep_weaken = by_row rule.SepWeaken (λ preds s k t. sep_weaken_true preds k (s.formula 0) (s.formula 1));
  wand_i = by_row rule.WandI (λ preds s k t. wand_i_true preds k (s.formula 0) (s.formula 1) (s.formula 2) t.0);
  wand_e = by_row rule.WandE (λ preds s k t. wand_e_true preds k (s.formula 0) (s.formula 1) (s.formula 2) t.0);
}

pub later : LaterIsSound
unfolding block.shape-the_row-Formula-0 block.hidden-the_row-Formula-0 carrier.hidden
later = record {
  later_mono = by_row rule.LaterMono (λ preds s k t. later_mono_true preds k (s.formula 0) (s.formula 1) t.0);
  later_intro = by_row rule.LaterIntro (λ preds s k t. later_intro_true preds k (s.formula 0));
  loeb = by_row rule.Loeb (λ preds s k t. loeb_true preds k (s.formula 0));
  later_sep = by_row rule.LaterSep (λ preds s k t. later_sep_true preds k (s.formula 0) (s.formula 1));
  sep_later = by_row rule.SepLater (λ preds s k t. sep_later_true preds k (s.formula 0) (s.formula 1));
  later_and = by_row rule.LaterAnd (λ preds s k t. later_and_true preds k (s.formula 0) (s.formula 1));
  later_or = by_row rule.LaterOr (λ preds s k t. later_or_true preds k (s.formula 0) (s.formula 1));
  later_all = by_row rule.LaterAll (λ preds s k t. later_all_true preds k (s.formula 2));
  later_ex = by_row rule.LaterEx (λ preds s k t. later_ex_true preds k (s.formula 2));
}

pub persistence : PersistenceIsSound
unfolding block.shape-the_row-Formula-0 block.hidden-the_row-Formula-0 carrier.hidden
persistence = record {
  pers_mono = by_row rule.PersMono (λ preds s k t. pers_mono_true preds k (s.formula 0) (s.formula 1) t.0);
  pers_elim = by_row rule.PersElim (λ preds s k t. pers_elim_true preds k (s.formula 0));
  pers_idem = by_row rule.PersIdem (λ preds s k t. pers_idem_true preds k (s.formula 0));
  pers_dup = by_row rule.PersDup (λ preds s k t. pers_dup_true preds k (s.formula 0) (s.formula 1));
  pers_pure = by_row rule.PersPure (λ preds s k t. pers_pure_true preds k (s.pure 0));
  pers_and = by_row rule.PersAnd (λ preds s k t. pers_and_true preds k (s.formula 0) (s.formula 1));
  pers_or = by_row rule.PersOr (λ preds s k t. pers_or_true preds k (s.formula 0) (s.formula 1));
  pers_all = by_row rule.PersAll (λ preds s k t. pers_all_true preds k (s.formula 2));
  pers_ex = by_row rule.PersEx (λ preds s k t. pers_ex_true preds k (s.formula 2));
  pers_later = by_row rule.PersLater (λ preds s k t. pers_later_true preds k (s.formula 0));
  later_pers = by_row rule.LaterPers (λ preds s k t. later_pers_true preds k (s.formula 0));
}

pub updates : UpdatesAreSound
unfolding block.shape-the_row-Formula-0 block.hidden-the_row-Formula-0 carrier.hidden
updates = record {
  upd_mono = by_row rule.UpdMono (λ preds s k t. upd_mono_true preds k (s.formula 0) (s.formula 1) t.0);
  upd_intro = by_row rule.UpdIntro (λ preds s k t. upd_intro_true preds k (s.formula 0));
  upd_trans = by_row rule.UpdTrans (λ preds s k t. upd_trans_true preds k (s.formula 0));
  upd_frame = by_row rule.UpdFrame (λ preds s k t. upd_frame_true preds k (s.formula 0) (s.formula 1));
  upd_pure = by_row rule.UpdPure (λ preds s k t. upd_pure_true preds k (s.pure 0));
}

pub facts : PureIsSound
unfolding block.shape-the_row-Formula-0 block.hidden-the_row-Formula-0 pure_block.shape-the_row-Pure-0 pure_block.hidden-the_row-Pure-0 carrier.hidden
facts = record {
  pure_and = by_row rule.PureAnd (λ preds s k t. pure_and_true preds k (s.pure 0) (s.pure 1));
  and_pure = by_row rule.AndPure (λ preds s k t. and_pure_true preds k (s.pure 0) (s.pure 1));
  pure_or = by_row rule.PureOr (λ preds s k t. pure_or_true preds k (s.pure 0) (s.pure 1));
  or_pure = by_row rule.OrPure (λ preds s k t. or_pure_true preds k (s.pure 0) (s.pure 1));
  not_ = by_row rule.Not (λ preds s k t. not_true preds k (s.pure 0));
  em = by_row rule.Em (λ preds s k t. em_true preds k (s.formula 0) (s.pure 0));
  linear = equations.linear;
  rewrite = equations.rewrite;
}

pub points_to : PointsToIsSound
points_to = record {
  pts_split = equations.pts_split;
  pts_join = equations.pts_join;
  pts_agree = equations.pts_agree;
  pts_over = equations.pts_over;
  pts_write = equations.pts_write;
  pts_new = equations.pts_new;
}

pub recursion : RecursionIsSound
recursion = record {
  fold_ = equations.fold_call;
  unfold_ = equations.unfold_call;
  timeless = equations.timeless;
}
