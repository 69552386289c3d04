use Rattle.std.proofs.Common.{◌∙◌, sym}
use Rattle.kd_options.proofs.Keeping.{reply_is}
use Rattle.kd_options.proofs.reply.Reply.write.Goals as goal

pub returns-clause-found : goal.returns-clause-found
returns-clause-found c =
    reply_is c.args.self.now.header c.args.room c.args.self.now.items _ _ _ c.in_ok-out.out.items _ _ _ _ _ (c.as_mut_slice.ensures.value ∙ c.in_ok-out.ensures) c.from-2.ensures c.as_slice-items.ensures
    c.write_into-end.ensures.written c.write_into-end.ensures.next c.write_into-end.ensures.within c.write_into-end.auto.out (sym c.as_mut_slice.ensures.len) c.max.ensures c.truncate.ensures.items c.requires
