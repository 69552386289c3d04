-- The laws of a record: it is an input of a replay.
use Rattle.std.specs.Prelude.{List}
use Rattle.std.specs.List.{All, flat_map}
use Rattle.kd_event.specs.declared.event.Event.{Event}
use Rattle.kd_loops.specs.Arriving.{IsRecordable}
use Rattle.kd_loops.specs.Lines.{lines_of}
use Rattle.kd_loops.specs.Recording.{record_line}
use Rattle.kd_loops.specs.Replay.{AreEvents}
use Rattle.kd_loops.specs.Serving.{Batch, events_in, record_of}

-- if a record can represent some events, a replay reads their lines as exactly these events
abbrev pub RecordsReplay : Type 0
RecordsReplay =
    (events : List Event) → All IsRecordable events
    → AreEvents (lines_of (flat_map record_line events)) events

-- a replay reads the record of batches as exactly the events of these batches
abbrev pub BatchesReplay : Type 0
BatchesReplay =
    (list : List Batch) → AreEvents (lines_of (flat_map record_of list)) (flat_map events_in list)
