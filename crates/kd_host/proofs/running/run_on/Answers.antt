use Rattle.sqlite_wal.specs.Files.{image_at}
use Rattle.kd_host.proofs.Started.{on_files}
use Rattle.kd_host.proofs.running.run_on.Goals as goal

pub returns-clause-on_files : goal.returns-clause-on_files
returns-clause-on_files g c = on_files _ _ _ _ _ _ (image_at g.F.Start) (λ machine. machine.left) (record {
  configures = λ before files config after says. says.0;
  refuses_files = λ before files fault after says. says.1;
  opens = λ before path store after says. says.0;
  refuses = λ before path fault after says. says.1;
  closes = λ before path back after says. says;
}) _ _ _ _ c.run.ensures
