use Rattle.std.proofs.Common.{◌≡◌, ◌+◌, length}
use Rattle.kd_wire.specs.Put.{with_bytes_at}
use Rattle.kd_options.specs.Reply.{first_text}
use Rattle.kd_options.proofs.reply.put_value.Given as goal

abbrev pub invariant-loop-k : goal.invariant-loop-k
invariant-loop-k l =
    (l.out ≡ with_bytes_at l.at (first_text l.code l.value l.k) l.fn.out)
    × (l.next ≡ l.at + length (first_text l.code l.value l.k))
