use Rattle.std.proofs.Common.{ℕ, ◌≢◌, ◌<◌, ◌≤◌, Some}
use Rattle.kd_names.specs.Table.{definition_of}
use Rattle.kd_names.specs.declared.kind.Kind.{Kind}
use Rattle.kd_names.proofs.lookup.option_named.Given as goal

abbrev pub invariant-loop-code : goal.invariant-loop-code
invariant-loop-code l = (code : ℕ) (kind : Kind) → 1 ≤ code → code < l.code → definition_of code ≢ Some (l.name, kind)
