use Rattle.std.proofs.Common.{◌≡◌, ◌+◌, length}
use Rattle.std.specs.Prelude.{slice_get}
use Rattle.kd_options.specs.Relay.{firsts}
use Rattle.kd_options.specs.RelayWalk.{sub_options_of}
use Rattle.kd_options.proofs.SeenCodes.{unseen, marks}
use Rattle.kd_options.proofs.relay.sub_option_at.Given as goal

abbrev pub invariant-loop-code : goal.invariant-loop-code
invariant-loop-code l =
    (slice_get (firsts (sub_options_of l.value)) l.index ≡ slice_get (unseen l.seen (firsts l.code-iterator)) l.before)
    × (length l.seen ≡ 256) × (marks l.seen + l.before ≡ l.index)
