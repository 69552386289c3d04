use Rattle.std.proofs.Common.{◌≡◌, ◌∙◌, sym, get_or}
use Rattle.std.proofs.lemmas.Option.{get_or_from_slice_get}
use Rattle.kd_rows.specs.Table.{addresses_of}
use Rattle.kd_lease.specs.Choice.{has_rank}
use Rattle.kd_lease.specs.Choice.Rank.{own, past}
use Rattle.kd_lease.specs.Rules.{asking}
use Rattle.kd_lease.specs.Seeking.{sought_at}
use Rattle.kd_lease.specs.declared.search.Sought.TheVariants as seeks
use Rattle.kd_lease.proofs.Newest.{all_own, all_past, better_is, better_of, better_same, get_past, known_more, own_sought, past_sought}
use Rattle.kd_lease.proofs.search.newest_known.Goals as goal

pub loop-i-preserved : goal.loop-i-preserved
loop-i-preserved c =
    let q = asking c.args.choosing.now.question.now in
    let s = c.args.choosing.now.subnet.now in
    let a = c.in-Some.address in
    let here : get_or (addresses_of q.client q.rows) c.loop-i.i 0 ≡ a = get_or_from_slice_get (addresses_of q.client q.rows) c.loop-i.i a 0 (sym c.in-Some.ensures) in
    let held : c.better-known.result ≡ better_of q.rows (has_rank q s own) c.loop-i.known.own a = c.better-known.ensures ∙ (better_is q (seeks.Own c.args.choosing) c.loop-i.known.own a ∙ better_same q.rows (sought_at q (seeks.Own c.args.choosing)) (has_rank q s own) c.loop-i.known.own a (own_sought c.args.choosing a)) in
    let had : c.better-known-in-Some.result ≡ better_of q.rows (has_rank q s past) c.loop-i.known.past a = c.better-known-in-Some.ensures ∙ (better_is q (seeks.Past c.args.choosing) c.loop-i.known.past a ∙ better_same q.rows (sought_at q (seeks.Past c.args.choosing)) (has_rank q s past) c.loop-i.known.past a (past_sought c.args.choosing a)) in
    rw (held, had) (known_more q s c.loop-i.i c.loop-i.known.own c.loop-i.known.past a c.loop-i.invariant here)

pub returns-in-None-clause-own : goal.returns-in-None-clause-own
returns-in-None-clause-own c =
    let q = asking c.args.choosing.now.question.now in
    all_own q c.args.choosing.now.subnet.now c.loop-i.i c.loop-i.known.own c.loop-i.known.past c.loop-i.invariant (get_past (addresses_of q.client q.rows) c.loop-i.i (sym c.in-None.ensures))

pub returns-in-None-clause-past : goal.returns-in-None-clause-past
returns-in-None-clause-past c = λ none.
    let q = asking c.args.choosing.now.question.now in
    all_past q c.args.choosing.now.subnet.now c.loop-i.i c.loop-i.known.own c.loop-i.known.past c.loop-i.invariant (get_past (addresses_of q.client q.rows) c.loop-i.i (sym c.in-None.ensures))
