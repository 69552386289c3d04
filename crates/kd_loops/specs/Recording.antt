-- The record of what came: one line for each event, as a replay reads it.
use Rattle.std.specs.Prelude.{List, ℕ, ◌++◌, codes, decimal}
use Rattle.hex.specs.Hex.{encode_lower}
use Rattle.kd_event.specs.declared.event.Event.{Event}

-- the line of an event in a record: its time, a space, its bytes in lower-case hexadecimal, and a
-- line feed
unfoldable pub record_line : Event → List ℕ
record_line event = decimal event.moment ++ codes " " ++ encode_lower event.bytes ++ codes "\n"
