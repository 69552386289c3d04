-- What a command writes on its two streams, and the exit status with which it ends.
use Rattle.std.specs.Prelude.{◌≡◌, ◌≢◌, ◌⊎◌, ℕ, Bool, true, List, [], ◌++◌, Option, codes}
use Rattle.std.specs.Fmt.{decimal}
use Rattle.std.specs.Io.KnownBytes.{Appends}
use Rattle.kd_answers.specs.Show.{line_feed}
use Rattle.kd_answers.specs.Status.{status_of}
use Rattle.kd_answers.specs.declared.printed.Printed.{Printed}
use Rattle.kd_loops.specs.Parts.{WritesPart}
use Rattle.kd_loops.specs.declared.ends.Sink.{Ghosts as Sinks}
use Rattle.kd_loops.specs.declared.ends.Source.{Ghosts as Sources}
use Rattle.kd_program.specs.declared.ends.StandardEnds.{StandardEnds}

-- a stream: its remaining bytes to read or the bytes written to it, if they are known, and whether
-- it has failed
pub record Stream : Type 0 where
  pub bytes : Option (List ℕ)
  pub failed : Bool

-- the streams of a command
pub record Streams : Type 0 where
  pub input : Stream
  pub output : Stream
  pub faults : Stream

-- a source as a stream
abbrev pub read_from : {R : Type 0} → Sources R → R → Stream
read_from g source = record { bytes = g.remaining source; failed = g.has_failed source }

-- a sink as a stream
abbrev pub written_to : {W : Type 0} → Sinks W → W → Stream
written_to g sink = record { bytes = g.contents sink; failed = g.has_failed sink }

-- the three ends of a command as streams
abbrev pub streams : {R O E : Type 0} → Sources R → Sinks O → Sinks E → StandardEnds R O E → Streams
streams r o e ends =
    record {
      input = read_from r ends.input;
      output = written_to o ends.output;
      faults = written_to
          e ends.faults;
    }

-- the state of a command: its host, and its streams
pub record At (H : Type 0) : Type 0 where
  pub host : H
  pub streams : Streams

-- the state of a command that holds a store, or a server over one
pub record With (S H : Type 0) : Type 0 where
  pub held : S
  pub at : At H

-- a host and the three ends of a command as its state
abbrev pub at_ends : {H R O E : Type 0} → Sources R → Sinks O → Sinks E → H → StandardEnds R O E → At H
at_ends r o e host ends = record { host = host; streams = streams r o e ends }

-- the line of a fault: its number, its name and the operands after that
abbrev pub fault_line : ℕ → List ℕ → List ℕ
fault_line number name = codes "fault " ++ decimal number ++ codes " " ++ name ++ line_feed

-- the line for out of memory
abbrev pub memory_line : List ℕ
memory_line = codes "fault 91 Memory\n"

-- the line for a standard output that fails
abbrev pub write_line : List ℕ
write_line = codes "fault 95 Write\n"

-- a text is put on a stream, or a prefix of it if the stream has failed
abbrev pub Puts : List ℕ → Stream → Stream → Type 0
Puts text old new =
    Appends old.bytes new.bytes text ⊎ ((new.failed ≡ true) × WritesPart old.bytes new.bytes text)

-- the line of a fault with this number is reported, or memory runs out for it; with this exit
-- status
abbrev pub TellsWith : ℕ → ℕ → ℕ → Stream → Stream → Type 0
TellsWith number wanted status old new =
    ((name : List ℕ) × (status ≡ wanted) × Puts (fault_line number name) old new)
    ⊎ ((status ≡ 1) × Puts memory_line old new)

-- out of memory is reported on standard error, and nothing is written to standard output
abbrev pub Starves : ℕ → Streams → Streams → Type 0
Starves status old new =
    (new.output ≡ old.output) × (status ≡ 1) × Puts memory_line old.faults new.faults

-- a fault with this number is reported on standard error, with its exit status, and nothing is
-- written to standard output
abbrev pub Tells : ℕ → ℕ → Streams → Streams → Type 0
Tells number status old new =
    (new.output ≡ old.output) × TellsWith number (status_of number) status old.faults new.faults

-- a text is shown on standard output, and nothing is reported
pub record Shows (text : List ℕ) (wanted status : ℕ)
    (output said faults told : Stream) : Type 0 where
  pub is : status ≡ wanted
  pub shown : Appends output.bytes said.bytes text
  pub quiet : told ≡ faults

-- a prefix of a text is shown on standard output, which has failed, and fault 95 is reported
pub record Breaks (text : List ℕ) (status : ℕ) (output said faults told : Stream) : Type 0 where
  pub is : status ≡ 1
  pub failed : said.failed ≡ true
  pub cut : WritesPart output.bytes said.bytes text
  pub line : Puts write_line faults told

-- a text is shown, or standard output fails
abbrev pub ShowsOrBreaks : List ℕ → ℕ → ℕ → Stream → Stream → Stream → Stream → Type 0
ShowsOrBreaks text wanted status output said faults told =
    Shows text wanted status output said faults told ⊎ Breaks text status output said faults told

-- what an order prints: its text, or only the line of its fault
pub record Prints (printed : Printed) (status : ℕ) (old new : Streams) : Type 0 where
  pub answered : printed.fault ≡ []
      → ShowsOrBreaks printed.out printed.status status old.output new.output old.faults new.faults
  pub refused : printed.fault ≢ [] → (new.output ≡ old.output) × (status ≡ printed.status)
      × Puts printed.fault old.faults new.faults
