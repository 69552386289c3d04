use Rattle.std.proofs.Common.{◌∙◌, ◌<◌, length, sym, arith}
use Rattle.std.proofs.lemmas.List.{length-set, get_or-set_other}
use Rattle.std.proofs.lemmas.Option.{slice_get_within}
use Rattle.kd_token.specs.declared.table.Entry.TheVariants.{Unreached}
use Rattle.kd_token.proofs.Tidy.{literal_short, reach_within}
use Rattle.kd_token.proofs.Firsts.{clash_right, place_there, token_right}
use Rattle.kd_token.proofs.Visits.{clashed, entry_is, visited_by, visited_none}
use Rattle.kd_token.proofs.verifier.visit.Goals as goal

pub settle-requires-clause-literal : goal.settle-requires-clause-literal
settle-requires-clause-literal c = literal_short c.args.program.now c.args.at c.args.token.now c.requires.limits c.requires.there

pub settle-requires-clause-within : goal.settle-requires-clause-within
settle-requires-clause-within c =
    let reach = reach_within c.args.program.now c.args.at c.args.token.now c.requires.limits c.requires.there in
    rw (length-set c.args.table.now c.args.at c.replace.new.dest) (omega (arith, reach, c.requires.before.size))

pub returns-in-Unreached-clause-passed : goal.returns-in-Unreached-clause-passed
returns-in-Unreached-clause-passed c =
    let less : c.args.at < length c.args.program.now.tokens = slice_get_within c.args.program.now.tokens c.args.at c.args.token.now c.requires.there in
    let here = entry_is c.args.table.now c.args.at c.index-table-at.result (omega (arith, less, c.requires.before.size)) c.index-table-at.is in
    visited_none c.args.program.now c.args.at c.args.table.now _ c.requires.before (here ∙ c.index-table-at.is ∙ sym c.replace.ensures.value ∙ c.in-Unreached.is)
    (length-set c.args.table.now c.args.at c.replace.new.dest) (λ j le. get_or-set_other c.args.table.now c.args.at j c.replace.new.dest Unreached (λ e. omega (arith, e, le)))

pub returns-in-Clash-clause-passed : goal.returns-in-Clash-clause-passed
returns-in-Clash-clause-passed c =
    let less : c.args.at < length c.args.program.now.tokens = slice_get_within c.args.program.now.tokens c.args.at c.args.token.now c.requires.there in
    let here = entry_is c.args.table.now c.args.at c.index-table-at.result (omega (arith, less, c.requires.before.size)) c.index-table-at.is in
    clashed c.args.program.now c.args.at c.args.table.now c.requires.before (here ∙ c.index-table-at.is ∙ sym c.replace.ensures.value ∙ c.in-Clash.is) (omega (arith, less))

pub returns-in-Joined-clause-passed : goal.returns-in-Joined-clause-passed
returns-in-Joined-clause-passed c =
    let less : c.args.at < length c.args.program.now.tokens = slice_get_within c.args.program.now.tokens c.args.at c.args.token.now c.requires.there in
    let here = entry_is c.args.table.now c.args.at c.index-table-at.result (omega (arith, less, c.requires.before.size)) c.index-table-at.is in
    visited_by c.args.program.now c.args.at c.in-Joined.shape c.in-Joined.count c.args.token.now c.args.table.now _ c.settle.new.table c.settle.result c.requires.limits c.requires.before (here ∙ c.index-table-at.is ∙ sym c.replace.ensures.value ∙ c.in-Joined.is) c.requires.there (omega (arith, less))
    (c.settle.ensures.length ∙ length-set c.args.table.now c.args.at c.replace.new.dest) (λ j le. get_or-set_other c.args.table.now c.args.at j c.replace.new.dest Unreached (λ e. omega (arith, e, le))) c.settle.ensures.settled

pub returns-in-Clash-clause-right : goal.returns-in-Clash-clause-right
returns-in-Clash-clause-right c =
    let less : c.args.at < length c.args.program.now.tokens = slice_get_within c.args.program.now.tokens c.args.at c.args.token.now c.requires.there in
    let here = entry_is c.args.table.now c.args.at c.index-table-at.result (omega (arith, less, c.requires.before.size)) c.index-table-at.is in
    clash_right c.args.program.now c.args.at c.args.table.now c.requires.before
    (here ∙ c.index-table-at.is ∙ sym c.replace.ensures.value ∙ c.in-Clash.is)

pub returns-in-Joined-clause-right : goal.returns-in-Joined-clause-right
returns-in-Joined-clause-right c =
    let less : c.args.at < length c.args.program.now.tokens = slice_get_within c.args.program.now.tokens c.args.at c.args.token.now c.requires.there in
    let here = entry_is c.args.table.now c.args.at c.index-table-at.result (omega (arith, less, c.requires.before.size)) c.index-table-at.is in
    token_right c.args.program.now c.args.at c.in-Joined.shape c.in-Joined.count c.args.token.now c.args.table.now c.settle.result c.requires.before
    (here ∙ c.index-table-at.is ∙ sym c.replace.ensures.value ∙ c.in-Joined.is) c.requires.there
    (place_there _ _ _ c.settle.result c.settle.ensures.settled) c.settle.ensures.fault
