use Rattle.std.proofs.Common.{[], Ok, Err, refl, subst}
use Rattle.kd_keeps.specs.Moves.{MovesTable}
use Rattle.kd_program.proofs.Risen.{rising_are_set}
use Rattle.kd_program.proofs.importing.restore.Goals as goal

pub returns-in-Ok : goal.returns-in-Ok
returns-in-Ok g c =
    let back = c.put_all.new.self in
    record {
      result = Ok c.in-Ok.field-0;
      clean = c.in-Ok.ensures.clean;
      moves = λ clean stands. subst (λ table. MovesTable (g.S.Keeps.stands back) (g.S.Keeps.leaves back) (g.S.Keeps.is_open back) [] table (Ok c.in-Ok.field-0)) (rising_are_set c.args.table.now c.requires.rise)
          (c.in-Ok.ensures.put clean [] stands);
      ends = (refl, refl);
    }

pub returns-in-Err : goal.returns-in-Err
returns-in-Err g c =
    let back = c.put_all.new.self in
    record {
      result = Err c.in-Err.fault;
      clean = c.in-Err.ensures.clean;
      moves = λ clean stands. subst (λ table. MovesTable {A = Unit {0}} (g.S.Keeps.stands back) (g.S.Keeps.leaves back) (g.S.Keeps.is_open back) [] table (Err c.in-Err.fault)) (rising_are_set c.args.table.now c.requires.rise)
          (c.in-Err.ensures.put clean [] stands);
      ends = c.refuse_store.ensures;
    }
