use Rattle.std.proofs.Common.{arith, refl, sym, ap, ◌∙◌}
use Rattle.std.proofs.lemmas.Option.{same_Some}
use Rattle.kd_loops.specs.Lines.{lines_of}
use Rattle.kd_log.proofs.Reading.{bad_repeated, no_table_none, no_table_repeated, one_table, read_more, read_none, table_is, table_of, table_ranges, table_rises}
use Rattle.kd_log.proofs.leases.table.leases_in.Goals as goal

pub loop-line-init : goal.loop-line-init
loop-line-init c = record { short = omega arith; read = read_none _ _ c.new-table.ensures.empty }

pub returns-in_default-2-clause-only : goal.returns-in_default-2-clause-only
returns-in_default-2-clause-only c = λ rows table.
    let p = rw c.in-Some.ensures.0 at c.loop-line.invariant.read in
    let none = rw c.in_default-2.is at c.in_ok-lease.ensures.found in
    absurd (no_table_none p none c.args.text.now rows refl table)

pub returns-then-branch-clause-fault : goal.returns-then-branch-clause-fault
returns-then-branch-clause-fault c =
    let p = rw c.in-Some.ensures.0 at c.loop-line.invariant.read in
    let is = rw c.in-Some-2.is at c.in_ok-lease.ensures.found in
    let put = c.in_ok-put_row.ensures (table_of p.leases) p.kept in
    bad_repeated p c.in-Some-2.lease is (λ other h. sym (same_Some _ _ (sym c.in-Some-2.is ∙ c.in_ok-lease.ensures.only other h))) c.args.text.now _ refl (sym put.1 ∙ c.if-branch.true) refl

pub returns-then-branch-clause-only : goal.returns-then-branch-clause-only
returns-then-branch-clause-only c = λ rows table.
    let p = rw c.in-Some.ensures.0 at c.loop-line.invariant.read in
    let is = rw c.in-Some-2.is at c.in_ok-lease.ensures.found in
    let put = c.in_ok-put_row.ensures (table_of p.leases) p.kept in
    absurd (no_table_repeated p c.in-Some-2.lease is (λ other h. sym (same_Some _ _ (sym c.in-Some-2.is ∙ c.in_ok-lease.ensures.only other h))) c.args.text.now rows refl (sym put.1 ∙ c.if-branch.true) table)

pub loop-line-preserved : goal.loop-line-preserved
loop-line-preserved c =
    let p = rw c.in-Some.ensures.0 at c.loop-line.invariant.read in
    let is = rw c.in-Some-2.is at c.in_ok-lease.ensures.found in
    let put = c.in_ok-put_row.ensures (table_of p.leases) p.kept in
    record {
      short = omega (arith, c.in-Some.ensures.1, c.loop-line.invariant.short);
      read = read_more p c.in-Some-2.lease is (λ other h. sym (same_Some _ _ (sym c.in-Some-2.is ∙ c.in_ok-lease.ensures.only other h))) _ _ (sym put.1 ∙ c.if-branch.false) put.0 refl;
    }

pub returns-clause-found : goal.returns-clause-found
returns-clause-found c =
    let p = rw (ap lines_of c.in_default.ensures) at c.loop-line.invariant.read in
    table_is p c.args.text.now _ refl c.in_ok-rows_of.ensures

pub returns-clause-rise : goal.returns-clause-rise
returns-clause-rise c =
    let p = rw (ap lines_of c.in_default.ensures) at c.loop-line.invariant.read in
    table_rises c.args.text.now _ (table_is p c.args.text.now _ refl c.in_ok-rows_of.ensures)

pub returns-clause-ranges : goal.returns-clause-ranges
returns-clause-ranges c =
    let p = rw (ap lines_of c.in_default.ensures) at c.loop-line.invariant.read in
    table_ranges c.args.text.now _ (table_is p c.args.text.now _ refl c.in_ok-rows_of.ensures)

pub returns-clause-only : goal.returns-clause-only
returns-clause-only c = λ rows table.
    let p = rw (ap lines_of c.in_default.ensures) at c.loop-line.invariant.read in
    one_table p c.args.text.now _ rows refl c.in_ok-rows_of.ensures table
