use Rattle.std.proofs.Common.{◌≡◌, ℕ, ◌+◌, ◌*◌, ap, arith, sym, ◌∙◌}
use Rattle.kd_rows.specs.Heads.{IsByteList, front_number}
use Rattle.kd_rows.proofs.Fronts.{front_fits, front_more}
use Rattle.kd_rows.proofs.heads.head_of.Goals as goal

pub overflow_mul-head : goal.overflow_mul-head
overflow_mul-head c =
    let are : IsByteList c.args.client.now = (λ i. let byte = c.type_inv.client i in omega (arith, byte)) in
    let fits = front_fits c.loop-i.i c.args.client.now are (omega arith) in
    omega (arith, fits, c.loop-i.invariant)

pub overflow_add-head : goal.overflow_add-head
overflow_add-head c =
    let are : IsByteList c.args.client.now = (λ i. let byte = c.type_inv.client i in omega (arith, byte)) in
    let fits = front_fits c.loop-i.i c.args.client.now are (omega arith) in
    omega (arith, fits, c.loop-i.invariant, c.byte_at.ensures.bound)

pub loop-i-preserved : goal.loop-i-preserved
loop-i-preserved c =
    ap (λ (h : ℕ). h * 256 + c.byte_at.result) c.loop-i.invariant ∙ ap (λ (b : ℕ). front_number c.loop-i.i c.args.client.now * 256 + b) c.byte_at.ensures.value ∙ sym (front_more c.loop-i.i c.args.client.now)

pub returns : goal.returns
returns c = let all : c.loop-i.i ≡ 8 = omega arith in record {
  bytes = λ i. let byte = c.type_inv.client i in omega (arith, byte);
  value = c.loop-i.invariant ∙ ap (λ (i : ℕ). front_number i c.args.client.now) all;
}
