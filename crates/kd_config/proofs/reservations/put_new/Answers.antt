use Rattle.std.proofs.Common.{◌≡◌, ◌∙◌, ap, sym, nat_eq, Some, None, if◌then◌else◌, option_copied}
use Rattle.std.specs.Map.{lookup}
use Rattle.std.specs.Option.{option_or}
use Rattle.kd_config.proofs.ClientPlaces.{flip, inserted}
use Rattle.kd_config.proofs.reservations.put_new.Goals as goal

pub returns-in_ok-_old-in-None : goal.returns-in_ok-_old-in-None
returns-in_ok-_old-in-None c = λ other.
    let es = c.args.addresses.now.entries in
    let absent : lookup (nat_eq c.args.address) es ≡ None = sym c.get.ensures.value ∙ ap option_copied c.in-None.is in
    ap (lookup (nat_eq other)) c.in_ok-_old-in-None.ensures.entries
    ∙ inserted nat_eq (λ k. k) es c.args.address c.args.place other absent
    ∙ ap (λ t. option_or (lookup (nat_eq other) es) (if t then Some c.args.place else None)) (flip other c.args.address)
