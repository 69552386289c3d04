use Rattle.std.proofs.Common.{◌≡◌, ℕ, length, ap, ◌∙◌, arith}
use Rattle.std.specs.Prelude.{◌==◌, vec_len}
use Rattle.kd_keys.proofs.Tests.{empty_list}
use Rattle.kd_keys.proofs.keys.is_usual.Goals as goal

pub returns-in-Some-as_array : goal.returns-in-Some-as_array
returns-in-Some-as_array c =
    let list = c.in-Some-as_array.list.now in
    let same : vec_len list ≡ length list.items = omega (arith, list.ok.0) in
    rw c.in-EmptyList.is
    (empty_list list.items _ c.is_empty.result (c.is_empty.ensures ∙ ap (λ (n : ℕ). n == 0) same)
    c.in-Some-as_array.ensures)
