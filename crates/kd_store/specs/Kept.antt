-- What a store is in a contract: its connection, and the fault with which it has failed.
use Rattle.std.specs.Prelude.{Option, refl}
use Rattle.std.specs.Coded.{Coded, code_by, coded×, coded_option}
use Rattle.sqlite.specs.Held.{Held, held_code}
use Rattle.kd_keeps.specs.declared.fault.StoreFault.{StoreFault}
use Rattle.kd_keeps.specs.contracts.fault.StoreFault as fault

-- the connection, and the fault of the call that has failed, if one has
pub record Kept (S : Type 0) : Type 0 where
  pub conn : Held S
  pub fault : Option StoreFault

-- the same as a pair, as the toolchain stores it
abbrev pub kept_code : {S : Type 0} → Coded S → Coded (Kept S)
kept_code {S} store =
    code_by (Held S × Option StoreFault) (coded× (held_code store) (coded_option fault.the_row.coded))
    (λ k. (k.conn, k.fault)) (λ p. record { conn = p.0; fault = p.1 }) (λ _. refl)
