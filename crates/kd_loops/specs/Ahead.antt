-- A clock that is ahead of the latest change and of the time that passed, or that is behind.
use Rattle.std.specs.Prelude.{ℕ, ◌+◌, ◌-◌, ◌&&◌, Bool, false, List, [], ◌∷◌, Option, None, Some, nat_lt}
use Rattle.kd_loops.specs.declared.clocks.Clocks.{Clocks}
use Rattle.kd_loops.specs.declared.happening.Happening.{Happening}
use Rattle.kd_loops.specs.declared.happening.Happening.TheVariants as happens

-- both clocks are read
abbrev pub clocks_asked : Clocks → List Happening
clocks_asked clocks = happens.Said clocks.moment ∷ happens.Passed clocks.steady ∷ []

-- a time is ahead, for a limit in seconds: it is more than the limit after the latest change, and
-- also more than the limit after the earlier reading of the clock plus the time that passed since;
-- without a limit none is
abbrev pub is_ahead : Option ℕ → ℕ → Clocks → ℕ → ℕ → Bool
is_ahead None latest before steady moment = false
is_ahead (Some limit) latest before steady moment =
    nat_lt (latest + limit) moment
    && nat_lt (before.moment + (steady - before.steady) + limit) moment

-- a time is behind: the latest change is more than the limit after it; without a limit none is
abbrev pub is_behind : Option ℕ → ℕ → ℕ → Bool
is_behind None latest moment = false
is_behind (Some limit) latest moment = nat_lt (moment + limit) latest
