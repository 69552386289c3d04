use Rattle.std.proofs.Common.{subst, sym}
use Rattle.kd_lease.specs.Aging.{sought_for}
use Rattle.kd_lease.specs.Rules.{IsNewest, asking}
use Rattle.kd_lease.specs.Seeking.{sought_at}
use Rattle.kd_lease.specs.declared.search.Sought.{Sought}
use Rattle.kd_lease.proofs.Aged.{newest_of_all_rows, newest_own, newest_past}
use Rattle.kd_lease.proofs.ages.newest.Goals as goal

pub returns-in-Own : goal.returns-in-Own
returns-in-Own c =
    let q = asking c.args.question.now in
    let found = c.newest_in.result in
    subst (λ (sought : Sought). IsNewest q.rows (sought_at q sought) found) (sym c.in-Own.is)
    (newest_own q c.in-Own.choosing found (subst (λ (sought : Sought). IsNewest q.rows (sought_for q sought c.in-Own.choosing.now) found) c.in-Own.is c.newest_in.ensures))

pub returns-in-Past : goal.returns-in-Past
returns-in-Past c =
    let q = asking c.args.question.now in
    let found = c.newest_in-in-Past.result in
    subst (λ (sought : Sought). IsNewest q.rows (sought_at q sought) found) (sym c.in-Past.is)
    (newest_past q c.in-Past.choosing found (subst (λ (sought : Sought). IsNewest q.rows (sought_for q sought c.in-Past.choosing.now) found) c.in-Past.is c.newest_in-in-Past.ensures))

pub returns-in-Offer : goal.returns-in-Offer
returns-in-Offer c = newest_of_all_rows (asking c.args.question.now) c.args.sought.now _ c.len-count.ensures.bounded c.newest_within.ensures
