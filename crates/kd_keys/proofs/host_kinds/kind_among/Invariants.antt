use Rattle.std.proofs.Common.{◌≡◌, drop}
use Rattle.std.specs.List.{find}
use Rattle.serde_json.specs.View.{view}
use Rattle.kd_keys.specs.HostKinds.{kind_key}
use Rattle.kd_keys.specs.Keys.{is_plain, word}
use Rattle.kd_keys.proofs.host_kinds.kind_among.Given as goal

abbrev pub invariant-loop-kind : goal.invariant-loop-kind
invariant-loop-kind l =
    find (λ kind. is_plain (word (kind_key kind)) (view l.name)) l.kinds
    ≡ find (λ kind. is_plain (word (kind_key kind)) (view l.name)) (drop l.kind-index l.kinds)
