use Rattle.std.proofs.Common.{inr}
use Rattle.std.proofs.lemmas.Option.{IfSome_then}
use Rattle.std.proofs.lemmas.Result.{IfErr-weaker, IfOk-weaker}
use Rattle.sqlite.specs.Files.{image_of}
use Rattle.kd_database.proofs.Opening.{found_in, opened_on}
use Rattle.kd_database.proofs.image.rows_on.Goals as goal

pub returns-in-Ok-clause-over : goal.returns-in-Ok-clause-over
returns-in-Ok-clause-over g c =
    let on = opened_on (image_of g.D.Disk c.args.files) c.in-Ok.conn c.in-Ok.ensures.opened (found_in c.args.files c.in-Ok.conn c.in-Ok.ensures.found) c.in-Ok.ensures.plain in
    IfOk-weaker c.rows_over.result _ _ (λ found given. IfSome_then found given (λ rows read. record {
      store = read.0;
      opened = record { opened = c.in-Ok.conn; on = on; opens = read.1 };
      read = read.2;
    })) c.rows_over.ensures.read

pub returns-in-Ok-clause-listed : goal.returns-in-Ok-clause-listed
returns-in-Ok-clause-listed g c =
    let on = opened_on (image_of g.D.Disk c.args.files) c.in-Ok.conn c.in-Ok.ensures.opened (found_in c.args.files c.in-Ok.conn c.in-Ok.ensures.found) c.in-Ok.ensures.plain in
    IfOk-weaker c.rows_over.result _ _ (λ found listed. record { opened = c.in-Ok.conn; on = on; listed = listed }) c.rows_over.ensures.listed

pub returns-in-Ok-clause-refused : goal.returns-in-Ok-clause-refused
returns-in-Ok-clause-refused g c =
    let on = opened_on (image_of g.D.Disk c.args.files) c.in-Ok.conn c.in-Ok.ensures.opened (found_in c.args.files c.in-Ok.conn c.in-Ok.ensures.found) c.in-Ok.ensures.plain in
    IfErr-weaker c.rows_over.result _ _ (λ fault back. inr (c.in-Ok.conn, back.0, on, back.1)) (c.rows_over.ensures.refused c.in-Ok.ensures.fresh.autocommit)
