use Rattle.std.proofs.Common.{refl}
use Rattle.std.proofs.lemmas.Str.{is_utf8-from_IsUtf8}
use Rattle.kd_check.proofs.Cuts.{not_utf8}
use Rattle.kd_check.proofs.unread.why_unread.Goals as goal

pub returns-in-Ok : goal.returns-in-Ok
returns-in-Ok c = rw (is_utf8-from_IsUtf8 c.args.text.now c.in-Ok.ensures.cases.1, c.if-cut.true) refl

pub returns-in-Ok-2 : goal.returns-in-Ok-2
returns-in-Ok-2 c = rw (is_utf8-from_IsUtf8 c.args.text.now c.in-Ok-2.ensures.cases.1, c.if-cut.false) refl

pub returns-in-Err : goal.returns-in-Err
returns-in-Err c = rw (not_utf8 c.args.text.now c.in-Err.ensures.cases.0) refl
