use Rattle.std.proofs.Common.{rules}
use lib.Utf8.{encode}
use Rattle.pm_tokens.specs.Symbols.{symbols, keywords}
use Rattle.pm_print.specs.Printing.{text_of, spelled, spelling, same_symbol}
use Rattle.pm_print.specs.Parts.{sign_pieces}
use Rattle.pm_print.proofs.sign.sign_text.Goals as goal

pub returns-in-AtMost : goal.returns-in-AtMost
unfolding sign_pieces text_of spelled spelling same_symbol symbols keywords encode
returns-in-AtMost c = search rules

pub returns-in-Star : goal.returns-in-Star
unfolding sign_pieces text_of spelled spelling same_symbol symbols keywords encode
returns-in-Star c = search rules

pub returns-in-Wand : goal.returns-in-Wand
unfolding sign_pieces text_of spelled spelling same_symbol symbols keywords encode
returns-in-Wand c = search rules

pub returns-in-And : goal.returns-in-And
unfolding sign_pieces text_of spelled spelling same_symbol symbols keywords encode
returns-in-And c = search rules

pub returns-in-Or : goal.returns-in-Or
unfolding sign_pieces text_of spelled spelling same_symbol symbols keywords encode
returns-in-Or c = search rules

pub returns-in-Arrow : goal.returns-in-Arrow
unfolding sign_pieces text_of spelled spelling same_symbol symbols keywords encode
returns-in-Arrow c = search rules

pub returns-in-PointsTo : goal.returns-in-PointsTo
unfolding sign_pieces text_of spelled spelling same_symbol symbols keywords encode
returns-in-PointsTo c = search rules

pub returns-in-Not : goal.returns-in-Not
unfolding sign_pieces text_of spelled spelling same_symbol symbols keywords encode
returns-in-Not c = search rules

pub returns-in-Later : goal.returns-in-Later
unfolding sign_pieces text_of spelled spelling same_symbol symbols keywords encode
returns-in-Later c = search rules

pub returns-in-Persistently : goal.returns-in-Persistently
unfolding sign_pieces text_of spelled spelling same_symbol symbols keywords encode
returns-in-Persistently c = search rules

pub returns-in-Forall : goal.returns-in-Forall
unfolding sign_pieces text_of spelled spelling same_symbol symbols keywords encode
returns-in-Forall c = search rules

pub returns-in-Exists : goal.returns-in-Exists
unfolding sign_pieces text_of spelled spelling same_symbol symbols keywords encode
returns-in-Exists c = search rules

pub returns-in-OpenPure : goal.returns-in-OpenPure
unfolding sign_pieces text_of spelled spelling same_symbol symbols keywords encode
returns-in-OpenPure c = search rules

pub returns-in-ClosePure : goal.returns-in-ClosePure
unfolding sign_pieces text_of spelled spelling same_symbol symbols keywords encode
returns-in-ClosePure c = search rules

pub returns-in-OpenUnits : goal.returns-in-OpenUnits
unfolding sign_pieces text_of spelled spelling same_symbol symbols keywords encode
returns-in-OpenUnits c = search rules
