use Rattle.std.proofs.Common.{refl, subst, arith, rules}
use Rattle.sqlite_wal.specs.Opening.{RefusesLog}
use Rattle.sqlite_wal.specs.Outcome.{HasCause}
use Rattle.kd_database.proofs.Counting.{end_within, not_counted}
use Rattle.kd_database.proofs.tail.left_out_of.Goals as goal

pub returns-in-Err-clause-refused : goal.returns-in-Err-clause-refused
returns-in-Err-clause-refused c =
    let size = c.args.size in
    let cause = c.cause_of.ensures in
    let has = subst (λ log. HasCause c.new.result.refused c.probe_frames.new.log.refused (RefusesLog size.bytes log) c.in-Err.error) c.new.ensures.bytes (c.in-Err.ensures.cause.0 refl) in
    let why = not_counted size.bytes c.args.log.now c.in-Err.error c.cause_of.result c.new.result c.probe_frames.new.log cause.memory cause.damaged cause.long c.new.ensures.fresh c.in-Err.ensures.same has in
    (size.bytes, (size.smallest, size.largest, size.power, size.aligned), c.requires.named, why)

pub frames_end-end-requires-clause-within : goal.frames_end-end-requires-clause-within
frames_end-end-requires-clause-within c =
    let within = end_within c.args.size.bytes c.bytes.result c.len-frames.result c.args.log.now c.new.result.bytes.now c.in-Ok.pages.items c.bytes.ensures.value c.new.ensures.bytes (omega (arith, c.len-frames.ensures, c.in-Ok.pages.ok.0)) c.requires.named (c.in-Ok.ensures.ok refl) in
    search (rules, within)
