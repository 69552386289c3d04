use Rattle.std.proofs.Common.{◌≡◌, drop, map, nat_eq}
use Rattle.std.specs.List.{ends_with, list_any}
use Rattle.kd_keys.proofs.hooks.ends_as_one.Given as goal

abbrev pub invariant-loop-end : goal.invariant-loop-end
invariant-loop-end l =
    list_any (λ name. ends_with nat_eq l.path name) (map (λ end. end.now) l.ends)
    ≡ list_any (λ name. ends_with nat_eq l.path name) (map (λ end. end.now) (drop l.end-index l.ends))
