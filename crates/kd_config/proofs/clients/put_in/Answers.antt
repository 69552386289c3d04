use Rattle.std.proofs.Common.{◌∙◌, ap, Some, if◌then◌else◌}
use Rattle.std.specs.Map.{lookup}
use Rattle.std.specs.Str.{bytes_eq}
use Rattle.kd_config.proofs.Chains.{stored}
use Rattle.kd_config.proofs.clients.put_in.Goals as goal

pub returns-clause-new : goal.returns-clause-new
returns-clause-new c = λ other.
    let es = c.args.places.now.entries in
    let key = c.in_ok-from_slice.field-0 in
    ap (lookup (λ k. bytes_eq other k.items)) c.in_ok-insert.ensures.entries
    ∙ stored (λ k. k.items) es key c.args.place other
    ∙ ap (λ bytes. if bytes_eq other bytes then Some c.args.place else lookup (λ k. bytes_eq other k.items) es) c.in_ok-from_slice.ensures.items
