-- A stream of lines through a filter: the text of each line, and how the stream ends.
use Rattle.std.specs.Prelude.{◌≡◌, ℕ, ◌+◌, ◌^◌, ◌<◌, ◌≤◌, List, ◌++◌, ◌⊎◌, Option, Some, Result, Ok, Err, length}
use Rattle.std.specs.List.{AllZip, flat_map}
use Rattle.kd_loops.specs.Lines.{line_limit, lines_of}
use Rattle.kd_loops.specs.Replay.{FirstLineIs}
use Rattle.kd_loops.specs.declared.fault.ReplayFault.{ReplayFault}
use Rattle.kd_loops.specs.declared.fault.ReplayFault.TheVariants as faults

-- the relation that says which text a line gives
module _ (gives : List ℕ → List ℕ → Type 0) where
  -- a line gives a text, and is not too long
  pub record GivesText (line text : List ℕ) : Type 0 where
    pub short : length line ≤ line_limit
    pub given : gives line text

  -- lines are filtered: their texts are written in order
  pub record AreFiltered (lines : List (List ℕ)) (old out : List ℕ) : Type 0 where
    pub texts : List (List ℕ)
    pub each : AllZip GivesText lines texts
    pub written : out ≡ old ++ flat_map (λ text. text) texts

  -- a line gives no text
  abbrev pub GivesNoText : List ℕ → Type 0
  GivesNoText line = (text : List ℕ) → ¬ GivesText line text

  -- a prefix of the text of a line is written
  pub record CutsText (line old out : List ℕ) : Type 0 where
    pub part : List ℕ
    pub more : List ℕ
    pub given : GivesText line (part ++ more)
    pub written : out ≡ old ++ part

  -- how a filter ends at the line with a number, the first of the remaining lines: at a line that
  -- gives no text, while its text is written, if the source has failed, or out of memory, which can
  -- happen at the start, at a line, or when the line numbers are used up
  abbrev pub EndsFiltering : Type 0 → ReplayFault → ℕ → List (List ℕ) → List ℕ → List ℕ → Type 0
  EndsFiltering source_failed (faults.BadLine k) number lines old out =
      (k ≡ number) × FirstLineIs GivesNoText lines × (out ≡ old)
  EndsFiltering source_failed faults.Write number lines old out =
      FirstLineIs (λ line. CutsText line old out) lines
  EndsFiltering source_failed faults.Read number lines old out = source_failed × (out ≡ old)
  EndsFiltering source_failed faults.Memory number lines old out =
      ((number ≡ 1) ⊎ ((0 < length lines) ⊎ (number ≡ 2 ^ 64))) × (out ≡ old)
  EndsFiltering source_failed (faults.Serve fault) number lines old out = ⊥

  -- a filter stops: the lines before are filtered, and it ends at the next line
  pub record StopsFiltering (source_failed : Type 0) (fault : ReplayFault) (lines : List (List ℕ))
      (old out : List ℕ) : Type 0 where
    pub before : List (List ℕ)
    pub after : List (List ℕ)
    pub between : List ℕ
    pub all : lines ≡ before ++ after
    pub filtered : AreFiltered before old between
    pub ends : EndsFiltering source_failed fault (length before + 1) after between out

  -- all lines are filtered, and the result is their number; or the filter stops with its fault
  abbrev pub FiltersTo : Type 0 → Result ℕ ReplayFault → List (List ℕ) → List ℕ → List ℕ → Type 0
  FiltersTo source_failed (Ok count) lines old out =
      (count ≡ length lines) × AreFiltered lines old out
  FiltersTo source_failed (Err fault) lines old out =
      StopsFiltering source_failed fault lines old out

  -- what filtering an input leaves in the sink, if the sink's contents are known
  pub record LeavesFiltered (source_failed : Type 0) (result : Result ℕ ReplayFault)
      (input old : List ℕ) (contents : Option (List ℕ)) : Type 0 where
    pub out : List ℕ
    pub told : contents ≡ Some out
    pub filters : FiltersTo source_failed result (lines_of input) old out
