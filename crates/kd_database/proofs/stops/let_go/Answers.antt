use Rattle.std.proofs.Common.{subst}
use Rattle.sqlite_store.specs.FileStore as files
use Rattle.kd_database.proofs.stops.let_go.Goals as goal

pub returns : goal.returns
returns g c clean = record {
  numbered = c.into_store.ensures.numbered clean;
  outcomes = λ db may. subst (λ conn. files.recovers conn.store db) c.close.ensures (c.into_store.ensures.quiet.outcomes db may);
}
