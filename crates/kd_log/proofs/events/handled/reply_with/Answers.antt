use Rattle.std.proofs.Common.{sym, ◌∙◌}
use Rattle.std.proofs.lemmas.Option.{same_Some}
use Rattle.kd_log.proofs.Written.{parts_are}
use Rattle.kd_log.proofs.events.handled.reply_with.Goals as goal

pub returns-in_default-clause-only : goal.returns-in_default-clause-only
returns-in_default-clause-only c = λ destination bytes small are mode_is rest_is.
    let p = parts_are c.cut.ensures c.cut-2.ensures destination bytes small.1 small.2 rest_is in
    let some = c.destination_of_words.ensures destination small.1 small.2 mode_is p.0 p.1 in
    cc

pub returns-in_default-2-clause-only : goal.returns-in_default-2-clause-only
returns-in_default-2-clause-only c = λ destination bytes small are mode_is rest_is.
    let p = parts_are c.cut.ensures c.cut-2.ensures destination bytes small.1 small.2 rest_is in
    let some = c.in_ok-bytes.ensures.only bytes are p.2 in
    cc

pub returns-clause-only : goal.returns-clause-only
returns-clause-only c = λ destination bytes small are mode_is rest_is.
    let p = parts_are c.cut.ensures c.cut-2.ensures destination bytes small.1 small.2 rest_is in
    let same = same_Some _ _ (c.in-Some.ensures destination small.1 small.2 mode_is p.0 p.1) in
    let all = same_Some _ _ (sym c.in-Some-2.is ∙ c.in_ok-bytes.ensures.only bytes are p.2) in
    cc
