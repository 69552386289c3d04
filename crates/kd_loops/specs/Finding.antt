-- Helpers of private contracts only: what is consumed of the bytes ahead, and which line is found
-- in an input.
use Rattle.std.specs.Prelude.{◌≡◌, ℕ, ◌+◌, ◌<◌, ◌≤◌, List, [], ◌∷◌, ◌++◌, Option, Some, length}
use Rattle.kd_text.specs.Words.{HasNo}
use Rattle.kd_loops.specs.Lines.{line_feeds, line_limit, lines_of}
use Rattle.kd_loops.specs.declared.ahead.Part.{Part}
use Rattle.kd_loops.specs.declared.ahead.Part.TheVariants as part
use Rattle.kd_loops.specs.declared.lines.Found.{Found}
use Rattle.kd_loops.specs.declared.lines.Found.TheVariants as found

-- the rest of a line is consumed, and its line feed
pub record TakesLast (ahead line left new : List ℕ) : Type 0 where
  pub rest : List ℕ
  pub whole : ahead ≡ rest ++ 10 ∷ left
  pub plain : HasNo 10 rest
  pub put : new ≡ line ++ rest

-- all bytes are consumed: some bytes of a line that goes on
pub record TakesAll (ahead line left new : List ℕ) : Type 0 where
  pub some : 0 < length ahead
  pub plain : HasNo 10 ahead
  pub none : left ≡ []
  pub put : new ≡ line ++ ahead

-- nothing is consumed, because the line is too long
pub record TakesTooLong (ahead line left : List ℕ) : Type 0 where
  pub same : left ≡ ahead
  pub front : List ℕ
  pub more : List ℕ
  pub whole : ahead ≡ front ++ more
  pub plain : HasNo 10 front
  pub long : line_limit < length line + length front

-- what is consumed of the bytes ahead into a line, by what is found there
abbrev pub TakesPart : Part → List ℕ → List ℕ → List ℕ → List ℕ → Type 0
TakesPart part.Last ahead line left new = TakesLast ahead line left new
TakesPart part.Open ahead line left new = TakesAll ahead line left new
TakesPart part.None ahead line left new = (ahead ≡ []) × (left ≡ []) × (new ≡ line)
TakesPart part.TooLong ahead line left new = TakesTooLong ahead line left

-- the first of the lines is too long
pub record FindsTooLong (lines : List (List ℕ)) : Type 0 where
  pub first : List ℕ
  pub later : List (List ℕ)
  pub all : lines ≡ first ∷ later
  pub long : line_limit < length first

-- the next of the lines, and the lines after it
abbrev pub FindsLine : Found → List (List ℕ) → List ℕ → List (List ℕ) → Type 0
FindsLine found.Line lines text more = (lines ≡ text ∷ more) × (length text ≤ line_limit)
FindsLine found.TooLong lines text more = FindsTooLong lines
FindsLine found.End lines text more = lines ≡ []

-- the next line of an input, and the remaining input; the consumed bytes have at most one line feed
pub record FindsIn (found : Found) (all : List ℕ) (left : Option (List ℕ))
    (text : List ℕ) : Type 0 where
  pub taken : List ℕ
  pub rest : List ℕ
  pub known : left ≡ Some rest
  pub whole : all ≡ taken ++ rest
  pub one : line_feeds taken ≤ 1
  pub finds : FindsLine found (lines_of all) text (lines_of rest)

-- the source has failed within a line: the part of the input that it gave has no line feed
pub record FailsIn (all : List ℕ) (left : Option (List ℕ)) : Type 0 where
  pub part : List ℕ
  pub rest : List ℕ
  pub known : left ≡ Some rest
  pub whole : all ≡ part ++ rest
  pub plain : HasNo 10 part
