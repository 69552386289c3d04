-- The lines of a replay: how an input is split into lines, and which event a line is.
use Rattle.std.specs.Prelude.{◌≡◌, ℕ, ◌+◌, ◌-◌, ◌*◌, ◌^◌, ◌<◌, ◌≤◌, ◌==◌, ◌&&◌, nat_lt, List, [], ◌∷◌, ◌++◌, Option, Some, None, Ok, length, if◌then◌else◌}
use Rattle.std.specs.Char.{is_ascii_digit}
use Rattle.hex.specs.Hex.{decode_of}
use Rattle.kd_event.specs.declared.event.Event.{Event}

-- the most bytes that a line has, without its line feed
abbrev pub line_limit : ℕ
line_limit = 131072

-- a text prepended to the first of the lines
abbrev pub with_front : List ℕ → List (List ℕ) → List (List ℕ)
with_front text [] = text ∷ []
with_front text (line ∷ lines) = (text ++ line) ∷ lines

-- the lines of an input, each without its line feed; the last line feed may be missing
abbrev pub lines_of : List ℕ → List (List ℕ)
lines_of [] = []
lines_of (b ∷ bytes) = if b == 10 then [] ∷ lines_of bytes else with_front (b ∷ []) (lines_of bytes)

-- the number of line feeds
abbrev pub line_feeds : List ℕ → ℕ
line_feeds [] = 0
line_feeds (b ∷ bytes) = if b == 10 then line_feeds bytes + 1 else line_feeds bytes

-- a number with more decimal digits appended, as long as it is below 2 ^ 64
abbrev pub number_after : ℕ → List ℕ → Option ℕ
number_after n [] = Some n
number_after n (d ∷ digits) =
    if is_ascii_digit d && nat_lt (n * 10 + (d - 48)) (2 ^ 64)
    then number_after (n * 10 + (d - 48)) digits else None

-- a time in decimal: 1 to 20 digits, and less than 2 ^ 64
pub record IsMoment (digits : List ℕ) (moment : ℕ) : Type 0 where
  pub some : 0 < length digits
  pub few : length digits ≤ 20
  pub number : number_after 0 digits ≡ Some moment

-- a line that begins like an event: a time, and one space
pub record HasMoment (line : List ℕ) : Type 0 where
  pub digits : List ℕ
  pub text : List ℕ
  pub moment : ℕ
  pub short : length line ≤ line_limit
  pub whole : line ≡ digits ++ 32 ∷ text
  pub spells : IsMoment digits moment

-- a line that is an event: its time, one space, and its bytes in hexadecimal of either case
pub record IsEventLine (line : List ℕ) (event : Event) : Type 0 where
  pub digits : List ℕ
  pub hex : List ℕ
  pub short : length line ≤ line_limit
  pub whole : line ≡ digits ++ 32 ∷ hex
  pub moment : IsMoment digits event.moment
  pub bytes : decode_of hex ≡ Ok event.bytes
