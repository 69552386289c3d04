use Rattle.std.proofs.Common.{refl, sym, subst}
use Rattle.sqlite.specs.Held.{state}
use Rattle.kd_keeps.specs.declared.fault.Cause.{Cause}
use Rattle.kd_keeps.specs.declared.fault.StoreFault.TheVariants.{Sql}
use Rattle.kd_store.specs.Opening.{GivesBack}
use Rattle.kd_store.proofs.Opening.{makes_none, opens_at, reads_none, rows_are}
use Rattle.kd_store.proofs.store.Store.open_with_rows.Goals as goal

pub returns-in-Err-clause-refused : goal.returns-in-Err-clause-refused
returns-in-Err-clause-refused g c =
    subst (λ (cause : Cause). GivesBack g.S.Store (Sql cause) c.args.conn c.make.new.conn) (sym c.cause_of_error.ensures)
    (makes_none g.S.Store c.args.conn c.make.new.conn c.requires.ready c.in-Err.ensures.live c.in-Err.ensures.settled c.make.ensures.survives c.in-Err.error c.in-Err.ensures.runs)

pub returns-in-Ok-clause-opened : goal.returns-in-Ok-clause-opened
returns-in-Ok-clause-opened g c = (
  refl,
  opens_at g.S.Store c.args.conn c.make.new.conn c.requires.ready c.in_default.ensures.live c.in_default.ensures.settled c.make.ensures.survives c.in_default.field-0 c.in_default.ensures.runs
      c.read.new.conn c.read.ensures.survives c.in-Ok.rows.items c.in-Ok.ensures.read c.in-Ok.ensures.rise,
)

pub returns-in-Ok-clause-rows : goal.returns-in-Ok-clause-rows
returns-in-Ok-clause-rows g c = record {
  rise = c.in-Ok.ensures.rise;
  ranges = c.in-Ok.ensures.ranges;
  table = λ clean table h.
      rows_are (state g.S.Store c.make.new.conn) (state g.S.Store c.read.new.conn) c.in-Ok.rows.items table (g.met.S.Store.settled c.read.new.conn.store) (c.in-Ok.ensures.read clean) c.in-Ok.ensures.rise h;
}

pub returns-in-Err-read-clause-refused : goal.returns-in-Err-read-clause-refused
returns-in-Err-read-clause-refused g c =
    reads_none g.S.Store c.args.conn c.make.new.conn c.requires.ready c.in_default.ensures.live c.in_default.ensures.settled c.make.ensures.survives c.in_default.field-0 c.in_default.ensures.runs
    c.read.new.conn c.read.ensures.survives c.in-Err-read.fault c.in-Err-read.ensures.read (g.met.S.Store.settled c.make.new.conn.store)
