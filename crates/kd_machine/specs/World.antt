-- What a program runs over: a message, its own names, and the names held.
use Rattle.std.specs.Prelude.{ℕ, nat_eq, List, Option}
use Rattle.std.specs.Map.{lookup}
use Rattle.kd_options.specs.Joined.{value_of}
use Rattle.kd_options.specs.Message.{Seen}
use Rattle.kd_options.specs.RelayWalk.{relay_list}
use Rattle.kd_token.specs.File.{Code}

-- what the rules can see
pub record World : Type 0 where
  pub message : Seen
  pub names : List (List ℕ)
  pub held : List (List ℕ)

-- the world of a program run over a message with these names held
abbrev pub world : Code → Seen → List (List ℕ) → World
world p message held = record { message = message; names = p.names; held = held }

-- an option of the message, if it is present
abbrev pub option_in : World → ℕ → Option (List ℕ)
option_in w code = value_of code w.message.options

-- a sub-option of the message's relay agent information, if it is present (kd_options
-- `laws::relay_list_is_standard`)
abbrev pub relay_in : World → ℕ → Option (List ℕ)
relay_in w code = lookup (nat_eq code) (relay_list w.message.options)
