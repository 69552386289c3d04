-- How long leases last (RFC 2131 section 3.3; Kea Administrator Reference Manual, section Lease
-- Lifetimes): a client may ask for a time (option 51, RFC 2132 section 9.2), within bounds.
use Rattle.std.specs.Prelude.{ℕ, ◌==◌, if◌then◌else◌, max, min}
use Rattle.kd_classes.specs.declared.lifetime.Lifetime.{Lifetime}

-- the seconds that a client gets that asks for this many; 0 asks for none
abbrev pub lifetime_granted : Lifetime → ℕ → ℕ
lifetime_granted lifetime asked =
    if asked == 0 then lifetime.usual else min lifetime.most (max lifetime.least asked)
