use Rattle.std.proofs.Common.{◌≡◌, not, drop}
use Rattle.std.specs.List.{find}
use Rattle.serde_json.specs.View.{view}
use Rattle.kd_fields.specs.Keys.{is_there}
use Rattle.kd_fields.proofs.values.missing_key.Given as goal

abbrev pub invariant-loop-key : goal.invariant-loop-key
invariant-loop-key l = find (λ k. not (is_there (view l.value) k)) l.required ≡ find (λ k. not (is_there (view l.value) k)) (drop l.key-index l.required)
