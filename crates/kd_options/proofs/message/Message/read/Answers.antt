use Rattle.std.proofs.Common.{refl, sym, ap, ◌∙◌, arith}
use Rattle.std.proofs.lemmas.Result.{err_from_is_err_and}
use Rattle.kd_wire.specs.Header.{header_read}
use Rattle.kd_options.specs.Faults.{read_fault_of}
use Rattle.kd_options.specs.Options.{option_fault}
use Rattle.kd_options.proofs.Rules.{readable, first_of_options, not_readable, same_header}
use Rattle.kd_options.proofs.Sizes.{bytes_all}
use Rattle.kd_options.proofs.message.Message.read.Goals as goal

pub returns-in_err-fields-clause-only : goal.returns-in_err-fields-clause-only
returns-in_err-fields-clause-only c = λ m h.
    let p = err_from_is_err_and c.from_residual-in_err-fields.result c.from_residual-in_err-fields.ensures.1 in
    rw (p.1, p.2) (ap read_fault_of (c.in_err-fields.ensures.only m.options h.options))

pub returns-in-Some-clause-fault : goal.returns-in-Some-clause-fault
returns-in-Some-clause-fault c =
    first_of_options _ _ _ _ (sym c.in_ok-head.ensures.read) c.in_ok-fields.ensures.found c.in-Some.ensures

pub returns-in-Some-clause-only : goal.returns-in-Some-clause-only
returns-in-Some-clause-only c = λ m h.
    let same = c.in_ok-fields.ensures.only m.options h.options in
    absurd (not_readable m.options c.in-Some.fault (c.in-Some.ensures ∙ ap option_fault same) h.readable)

pub invariant_of-result : goal.invariant_of-result
invariant_of-result c = record {
  datagram = c.args.bytes.now;
  bytes_are = bytes_all c.args.bytes.now (λ i. let byte = c.type_inv.bytes i in omega (arith, byte));
  reads = record {
    header = sym c.in_ok-head.ensures.read;
    len = refl;
    options = c.in_ok-fields.ensures.found;
    readable = readable _ (sym c.in-None.ensures);
  };
}

pub returns-clause-found : goal.returns-clause-found
returns-clause-found c = record {
  header = sym c.in_ok-head.ensures.read;
  len = refl;
  options = c.in_ok-fields.ensures.found;
  readable = readable _ (sym c.in-None.ensures);
}

pub returns-clause-only : goal.returns-clause-only
returns-clause-only c = λ m h.
    let header = same_header _ _ (header_read c.args.bytes.now) (sym c.in_ok-head.ensures.read) h.header in
    let options = c.in_ok-fields.ensures.only m.options h.options in
    λ i. record { header = header i; len = sym h.len i; options = options i }
