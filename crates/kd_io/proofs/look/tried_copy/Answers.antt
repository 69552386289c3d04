use Rattle.std.proofs.Common.{rules, ◌≡◌, ◌≢◌, subst}
use Rattle.kd_io.specs.Looking.{AreReadAs, one_try}
use Rattle.kd_io.proofs.Looks.{whole_try}
use Rattle.kd_io.proofs.look.tried_copy.Goals as goal

pub returns-then-eq : goal.returns-then-eq
returns-then-eq g c =
    let before = c.in_ok-before.before in
    let db = c.in_ok-db.db in
    let log = c.in_ok-log.log in
    let after = c.in_ok-after.after in
    let read = whole_try before db log after _ _ _ _ _ c.in_ok-before.ensures c.in_ok-db.ensures c.in_ok-log.ensures c.in_ok-after.ensures in
    let same : after ≡ before = search rules in
    (before, subst (λ it. AreReadAs (one_try before db log it) (g.W.Watched.trace c.args.files.now) (g.W.Watched.trace c.header-2.new.self)) same read)

pub returns : goal.returns
returns g c =
    let before = c.in_ok-before.before in
    let db = c.in_ok-db.db in
    let log = c.in_ok-log.log in
    let after = c.in_ok-after.after in
    let read = whole_try before db log after _ _ _ _ _ c.in_ok-before.ensures c.in_ok-db.ensures c.in_ok-log.ensures c.in_ok-after.ensures in
    let other : before ≢ after = search rules in
    (before, db, log, after, other, read)
