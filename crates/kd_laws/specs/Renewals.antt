-- What a client is promised that renews its lease without a relay (RFC 2131 section 4.3.2,
-- RENEWING): it keeps the lease, whatever its classes and its circuit are, unless it is to move to
-- another address that is reserved for it.
use Rattle.std.specs.Prelude.{◌≡◌, ℕ, Bool, true, false, ◌&&◌, List, Option, Some, is_some}
use Rattle.std.specs.List.{list_any}
use Rattle.kd_config.specs.Address.{has_address}
use Rattle.kd_config.specs.declared.subnet.Subnet.{Subnet}
use Rattle.kd_lease.specs.Choice.{Asking, contained, reserved_anywhere}
use Rattle.kd_lease.specs.Kept.{circuit_reservation, renews_lease, subnet_keeping, unseen_reservation}
use Rattle.kd_lease.specs.Plan.{Outcome}
use Rattle.kd_lease.specs.Rules.{Does, IsReplyOf, has_to_move, leased_row}
use Rattle.kd_lease.specs.declared.plan.PlanKind.TheVariants as kinds
use Rattle.kd_rows.specs.declared.row.Row.{Row}

-- one of these subnets has an address in its prefix and in a pool
abbrev pub is_pooled_among : List Subnet → ℕ → Bool
is_pooled_among subnets a = list_any (λ s. has_address s.prefix a && contained s a) subnets

-- in a configuration whose clients keep their leases: if a client renews its lease without a relay,
-- the address is in a pool and not reserved, and the client is not to move, then its lease begins anew,
-- and the reply is an ACK of the address
abbrev pub RenewalsAreKept : Type 0
RenewalsAreKept =
    (q : Asking) (set : Option Row) (outcome : Outcome)
    → q.config.extensions.keeps_leases ≡ true
    → renews_lease q.rows q.message q.now q.client ≡ true
    → is_pooled_among q.config.subnets q.message.header.ciaddr ≡ true
    → reserved_anywhere q.config q.message.header.ciaddr ≡ false
    → has_to_move q (Some q.message.header.ciaddr) ≡ false → Does q set outcome
    → (set ≡ Some (leased_row q q.message.header.ciaddr))
    × IsReplyOf kinds.Ack q.message.header.ciaddr outcome

-- the same, if the subnet that has the address to keep reserves it for a circuit, which no relay names
-- in such a renewal
abbrev pub CircuitsKeepLeases : Type 0
CircuitsKeepLeases =
    (q : Asking) (s : Subnet) (set : Option Row) (outcome : Outcome)
    → q.config.extensions.keeps_leases ≡ true
    → renews_lease q.rows q.message q.now q.client ≡ true
    → subnet_keeping q.config.subnets q.message.header.ciaddr ≡ Some s
    → is_some (circuit_reservation s q.message.header.ciaddr) ≡ true → Does q set outcome
    → (set ≡ Some (leased_row q q.message.header.ciaddr))
    × IsReplyOf kinds.Ack q.message.header.ciaddr outcome

-- the same, if that subnet reserves the address for a circuit, or for the client in some classes, which
-- it may have by what only a relay says
abbrev pub ReservationsKeepLeases : Type 0
ReservationsKeepLeases =
    (q : Asking) (s : Subnet) (set : Option Row) (outcome : Outcome)
    → q.config.extensions.keeps_leases ≡ true
    → renews_lease q.rows q.message q.now q.client ≡ true
    → subnet_keeping q.config.subnets q.message.header.ciaddr ≡ Some s
    → is_some (unseen_reservation q.message s q.message.header.ciaddr) ≡ true
    → Does q set outcome
    → (set ≡ Some (leased_row q q.message.header.ciaddr))
    × IsReplyOf kinds.Ack q.message.header.ciaddr outcome
