use Rattle.std.proofs.Common.{Ok, Err, ◌∙◌, refl, inl, inr, subst}
use Rattle.kd_program.specs.Streams.{Puts, written_to}
use Rattle.kd_program.proofs.Told.{told_as, told_own}
use Rattle.kd_program.proofs.serving.serve_link.Goals as goal

pub returns-in-Ok-serve : goal.returns-in-Ok-serve
returns-in-Ok-serve g c = inl (record {
  link = c.in-Ok.link;
  bound = c.socket.new.self;
  given = c.in-Ok.ensures.given;
  works = c.in-Ok.ensures.works;
  journal = c.in-Ok-journal_of.record.sink;
  records = c.in-Ok-journal_of.ensures.given;
  record_works = c.in-Ok-journal_of.ensures.works;
  removed = c.in-Ok-journal_of.record.removed;
  between = written_to g.E.Sink c.tell.new.faults;
  line = subst
      (λ text. Puts text (written_to g.E.Sink c.args.ends.now.faults) (written_to g.E.Sink c.tell.new.faults))
      (c.as_bytes.ensures.value ∙ c.in-Ok-first_lines.ensures) c.tell.ensures;
  rest = c.serve.new.link;
  recorded = c.serve.new.journal;
  receives = record {
    result = Ok tt;
    served = c.in-Ok-serve.ensures.served;
    read = c.in-Ok-serve.ensures.read;
    recorded = c.in-Ok-serve.ensures.recorded;
    write = c.in-Ok-serve.ensures.write;
    ends = (refl, refl);
  };
})

pub returns : goal.returns
returns g c = inl (record {
  link = c.in-Ok.link;
  bound = c.socket.new.self;
  given = c.in-Ok.ensures.given;
  works = c.in-Ok.ensures.works;
  journal = c.in-Ok-journal_of.record.sink;
  records = c.in-Ok-journal_of.ensures.given;
  record_works = c.in-Ok-journal_of.ensures.works;
  removed = c.in-Ok-journal_of.record.removed;
  between = written_to g.E.Sink c.tell.new.faults;
  line = subst
      (λ text. Puts text (written_to g.E.Sink c.args.ends.now.faults) (written_to g.E.Sink c.tell.new.faults))
      (c.as_bytes.ensures.value ∙ c.in-Ok-first_lines.ensures) c.tell.ensures;
  rest = c.serve.new.link;
  recorded = c.serve.new.journal;
  receives = record {
    result = Err c.in-Err.fault;
    served = c.in-Err.ensures.served;
    read = c.in-Err.ensures.read;
    recorded = c.in-Err.ensures.recorded;
    write = c.in-Err.ensures.write;
    ends = told_as _ _ _ _ _ (written_to g.E.Sink c.tell.new.faults) _ c.number-in-Err.ensures c.serve_status.ensures c.refuse_as.ensures;
  };
})

pub returns-in_default : goal.returns-in_default
returns-in_default g c = inr (
  refl,
  inl (record {
    failed = c.in_default.field-0;
    given = c.in_default.ensures.given;
    told = (
      refl,
      told_own _ _ _ (written_to g.E.Sink c.args.ends.now.faults) _ c.number.ensures c.refuse.ensures,
    );
  }),
)

pub returns-in_default-journal_of : goal.returns-in_default-journal_of
returns-in_default-journal_of g c = inr (
  refl,
  inr (inl (record {
    link = c.in-Ok.link;
    bound = c.socket.new.self;
    given = c.in-Ok.ensures.given;
    failed = c.in_default-journal_of.field-0;
    records = c.in_default-journal_of.ensures.given;
    told = (
      refl,
      told_own _ _ _ (written_to g.E.Sink c.args.ends.now.faults) _ c.number-in_default-journal_of.ensures c.refuse-in_default-journal_of.ensures,
    );
  })),
)
