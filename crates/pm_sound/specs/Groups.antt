-- The rules by groups: each rule of a group is sound.
use Rattle.std.specs.Prelude.{ℤ, List}
use Rattle.pm_logic.specs.declared.formula.Term.{Term}
use Rattle.pm_logic.specs.declared.formula.Formula.{Formula}
use Rattle.pm_rules.specs.declared.rules.Rule.TheVariants.{Refl, Trans, Inst, True, False, AndL, AndR, AndI, OrL, OrR, OrE, ImpI, ImpE, AllI, AllE, ExI, ExE, SepMono, SepComm, SepAssocR, SepAssocL, SepUnit, SepWeaken, WandI, WandE, LaterMono, LaterIntro, Loeb, LaterSep, SepLater, LaterAnd, LaterOr, LaterAll, LaterEx, PersMono, PersElim, PersIdem, PersDup, PersPure, PersAnd, PersOr, PersAll, PersEx, PersLater, LaterPers, UpdMono, UpdIntro, UpdTrans, UpdFrame, UpdPure, PureAnd, AndPure, PureOr, OrPure, Not, Em, Linear, Rewrite, PtsSplit, PtsJoin, PtsAgree, PtsOver, PtsWrite, PtsNew, Fold, Unfold, Timeless}
use Rattle.pm_sound.specs.Truth.{IsSound}

pub record ConnectivesAreSound : Type 0 where
  pub refl : IsSound Refl
  pub trans : IsSound Trans
  pub inst : (sigma : List Term) → IsSound (Inst sigma)
  pub true_ : IsSound True
  pub false_ : IsSound False
  pub and_l : IsSound AndL
  pub and_r : IsSound AndR
  pub and_i : IsSound AndI
  pub or_l : IsSound OrL
  pub or_r : IsSound OrR
  pub or_e : IsSound OrE
  pub imp_i : IsSound ImpI
  pub imp_e : IsSound ImpE
  pub all_i : IsSound AllI
  pub all_e : (t : Term) → IsSound (AllE t)
  pub ex_i : (t : Term) → IsSound (ExI t)
  pub ex_e : IsSound ExE

pub record StarIsSound : Type 0 where
  pub sep_mono : IsSound SepMono
  pub sep_comm : IsSound SepComm
  pub sep_assoc_r : IsSound SepAssocR
  pub sep_assoc_l : IsSound SepAssocL
  pub sep_unit : IsSound SepUnit
  pub sep_weaken : IsSound SepWeaken
  pub wand_i : IsSound WandI
  pub wand_e : IsSound WandE

pub record LaterIsSound : Type 0 where
  pub later_mono : IsSound LaterMono
  pub later_intro : IsSound LaterIntro
  pub loeb : IsSound Loeb
  pub later_sep : IsSound LaterSep
  pub sep_later : IsSound SepLater
  pub later_and : IsSound LaterAnd
  pub later_or : IsSound LaterOr
  pub later_all : IsSound LaterAll
  pub later_ex : IsSound LaterEx

pub record PersistenceIsSound : Type 0 where
  pub pers_mono : IsSound PersMono
  pub pers_elim : IsSound PersElim
  pub pers_idem : IsSound PersIdem
  pub pers_dup : IsSound PersDup
  pub pers_pure : IsSound PersPure
  pub pers_and : IsSound PersAnd
  pub pers_or : IsSound PersOr
  pub pers_all : IsSound PersAll
  pub pers_ex : IsSound PersEx
  pub pers_later : IsSound PersLater
  pub later_pers : IsSound LaterPers

pub record UpdatesAreSound : Type 0 where
  pub upd_mono : IsSound UpdMono
  pub upd_intro : IsSound UpdIntro
  pub upd_trans : IsSound UpdTrans
  pub upd_frame : IsSound UpdFrame
  pub upd_pure : IsSound UpdPure

pub record PureIsSound : Type 0 where
  pub pure_and : IsSound PureAnd
  pub and_pure : IsSound AndPure
  pub pure_or : IsSound PureOr
  pub or_pure : IsSound OrPure
  pub not_ : IsSound Not
  pub em : IsSound Em
  pub linear : (c d : List ℤ) → IsSound (Linear c d)
  pub rewrite : (b : Formula) → IsSound (Rewrite b)

pub record PointsToIsSound : Type 0 where
  pub pts_split : IsSound PtsSplit
  pub pts_join : IsSound PtsJoin
  pub pts_agree : IsSound PtsAgree
  pub pts_over : IsSound PtsOver
  pub pts_write : IsSound PtsWrite
  pub pts_new : IsSound PtsNew

pub record RecursionIsSound : Type 0 where
  pub fold_ : IsSound Fold
  pub unfold_ : IsSound Unfold
  pub timeless : IsSound Timeless
