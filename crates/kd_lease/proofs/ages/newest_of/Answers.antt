use Rattle.std.proofs.Common.{◌<◌, ◌∙◌, Bor, Option, subst, sym}
use Rattle.std.specs.Option.{option_copied}
use Rattle.kd_lease.specs.Rules.{asking}
use Rattle.kd_lease.proofs.Aged.{newness, next_is_older, reached_ended, reached_first, reached_it, reached_next, reached_no_row, reached_none, reached_row}
use Rattle.kd_lease.proofs.ages.newest_of.Goals as goal
use Rattle.kd_rows.specs.declared.row.Row.{Row}

pub loop-found-init : goal.loop-found-init
loop-found-init c = reached_first (asking c.args.question.now) c.args.sought.now c.args.state c.args.first c.args.last _ c.newest_of-found.ensures

pub returns-then-is_sought : goal.returns-then-is_sought
returns-then-is_sought c =
    reached_it (asking c.args.question.now) c.args.sought.now c.args.state c.args.first c.args.last c.in-Some.row.now
    (reached_row (asking c.args.question.now) c.args.sought.now c.args.state c.args.first c.args.last c.loop-found.found c.in-Some.row c.in-Some.is c.loop-found.invariant) (sym c.is_sought.ensures ∙ c.if-is_sought.true)

pub returns-then-is_over : goal.returns-then-is_over
returns-then-is_over c =
    reached_ended (asking c.args.question.now) c.args.sought.now c.args.state c.args.first c.args.last c.in-Some.row.now
    (reached_row (asking c.args.question.now) c.args.sought.now c.args.state c.args.first c.args.last c.loop-found.found c.in-Some.row c.in-Some.is c.loop-found.invariant) (sym c.is_sought.ensures ∙ c.if-is_sought.false)
    (c.is_over.ensures.live c.if-is_over.true) (c.is_over.ensures.ended c.if-is_over.true)

pub loop-found-smaller : goal.loop-found-smaller
loop-found-smaller c =
    subst (λ (o : Option (Bor Row)). newness (option_copied c.newest_of-found-in-Some.result) < newness (option_copied o)) (sym c.in-Some.is)
    (next_is_older (asking c.args.question.now) c.args.sought.now c.args.state c.args.first c.args.last c.in-Some.row.now _ c.ranges.last.fits
    (reached_row (asking c.args.question.now) c.args.sought.now c.args.state c.args.first c.args.last c.loop-found.found c.in-Some.row c.in-Some.is c.loop-found.invariant) c.newest_of-found-in-Some.ensures)

pub loop-found-preserved : goal.loop-found-preserved
loop-found-preserved c =
    reached_next (asking c.args.question.now) c.args.sought.now c.args.state c.args.first c.args.last c.in-Some.row.now _
    (reached_row (asking c.args.question.now) c.args.sought.now c.args.state c.args.first c.args.last c.loop-found.found c.in-Some.row c.in-Some.is c.loop-found.invariant) (sym c.is_sought.ensures ∙ c.if-is_sought.false) c.newest_of-found-in-Some.ensures

pub returns : goal.returns
returns c =
    reached_none (asking c.args.question.now) c.args.sought.now c.args.state c.args.first c.args.last
    (reached_no_row (asking c.args.question.now) c.args.sought.now c.args.state c.args.first c.args.last c.loop-found.found c.in_default.is c.loop-found.invariant)
