-- A step of a program and a run (our own format): one rule for each token, on stacks without a
-- limit on depth or length.
use Rattle.std.specs.Prelude.{◌≡◌, ℕ, zero, suc, ◌+◌, ◌≤◌, max, not, ◌&&◌, ◌||◌, if◌then◌else◌, is_some, List, [], ◌∷◌, ◌++◌, map, length, slice_get, Option, Some, None}
use Rattle.std.specs.Bool.{beq}
use Rattle.std.specs.Char.{to_ascii_lowercase, to_ascii_uppercase}
use Rattle.std.specs.Fmt.{decimal}
use Rattle.byteorder.specs.Endian.{big_bytes}
use Rattle.kd_options.specs.Message.{Seen}
use Rattle.kd_token.specs.Accepts.{way_of}
use Rattle.kd_token.specs.File.{Code}
use Rattle.kd_wire.specs.Steps.{◌>>=◌}
use Rattle.kd_token.specs.declared.token.Token.{Token}
use Rattle.kd_token.specs.declared.token.Token.TheVariants as tokens
use Rattle.kd_token.specs.declared.way.Way.{Way}
use Rattle.kd_token.specs.declared.way.Way.TheVariants as routes
use Rattle.kd_machine.specs.Val.{Val, Truth, Number, Text, longest}
use Rattle.kd_machine.specs.Values.{take_text, take_truth, take_number}
use Rattle.kd_machine.specs.Strings.{substring, hex_of}
use Rattle.kd_machine.specs.World.{World, world, option_in, relay_in}
use Rattle.kd_machine.specs.declared.run.Outcome.{Outcome}
use Rattle.kd_machine.specs.Parts.{same, is_held, or_empty, value_of_field}

-- what a token other than a branch makes of the stack; none if the stack lacks what the token
-- takes. A branch has no rule: it moves by its way (`moves_by`)
unfoldable pub rule : World → Token → List Val → Option (List Val)
rule w (tokens.PushBytes bytes) s = Some (Text bytes ∷ s)
rule w (tokens.PushInt number) s = Some (Number number ∷ s)
rule w (tokens.PushOption code) s = Some (Text (or_empty (option_in w code)) ∷ s)
rule w (tokens.PushRelay code) s = Some (Text (or_empty (relay_in w code)) ∷ s)
rule w (tokens.PushField field) s = Some (value_of_field w.message field ∷ s)
rule w (tokens.OptionExists code) s = Some (Truth (is_some (option_in w code)) ∷ s)
rule w (tokens.RelayExists code) s = Some (Truth (is_some (relay_in w code)) ∷ s)
rule w (tokens.Member index) s =
    slice_get w.names index >>= λ name. Some (Truth (is_held name w.held) ∷ s)
rule w tokens.Equal s =
    take_text s >>= λ b. take_text b.1 >>= λ a. Some (Truth (same a.0 b.0) ∷ a.1)
rule w tokens.Not s = take_truth s >>= λ b. Some (Truth (not b.0) ∷ b.1)
rule w tokens.And s = take_truth s >>= λ b. take_truth b.1 >>= λ a. Some (Truth (a.0 && b.0) ∷ a.1)
rule w tokens.Or s = take_truth s >>= λ b. take_truth b.1 >>= λ a. Some (Truth (a.0 || b.0) ∷ a.1)
rule w tokens.IfElse s =
    take_text s >>= λ b. take_text b.1 >>= λ a. take_truth a.1 >>= λ c. Some
    (Text (if c.0 then a.0 else b.0) ∷ c.1)
rule w (tokens.Substring start count) s =
    take_text s >>= λ a. Some (Text (substring start count a.0) ∷ a.1)
rule w tokens.Concat s = take_text s >>= λ b. take_text b.1 >>= λ a. Some (Text (a.0 ++ b.0) ∷ a.1)
rule w tokens.HexString s =
    take_text s >>= λ b. take_text b.1 >>= λ a. Some (Text (hex_of b.0 a.0) ∷ a.1)
rule w tokens.Lower s = take_text s >>= λ a. Some (Text (map to_ascii_lowercase a.0) ∷ a.1)
rule w tokens.Upper s = take_text s >>= λ a. Some (Text (map to_ascii_uppercase a.0) ∷ a.1)
rule w tokens.IntToText s = take_number s >>= λ a. Some (Text (decimal a.0) ∷ a.1)
rule w tokens.IntBytes s = take_number s >>= λ a. Some (Text (big_bytes 4 a.0) ∷ a.1)
rule w (tokens.Branch skip) s = None
rule w (tokens.PopBranchFalse skip) s = None
rule w (tokens.BranchFalseElsePop skip) s = None
rule w (tokens.BranchTrueElsePop skip) s = None

-- where a token leads from place i, and with which stack
abbrev pub moves_by : Way → World → Token → ℕ → List Val → Option (ℕ × List Val)
moves_by routes.On w token i s = rule w token s >>= λ t. Some (i + 1, t)
moves_by (routes.Skip skip) w token i s = Some (i + 1 + skip, s)
moves_by (routes.Fork skip) w token i s =
    take_truth s >>= λ b. Some (if b.0 then i + 1 else i + 1 + skip, b.1)
moves_by (routes.Keep stays skip) w token i s =
    take_truth s >>= λ b. Some
    (if beq stays b.0 then (i + 1 + skip, Truth b.0 ∷ b.1) else (i + 1, b.1))

-- where the token at place i leads, and with which stack
abbrev pub moves : World → Token → ℕ → List Val → Option (ℕ × List Val)
moves w token i s = moves_by (way_of token) w token i s

-- a place of a program, and the stack there
pub record Spot : Type 0 where
  pub at : ℕ
  pub stack : List Val

-- how far a run has come: where it is, the greatest depth of its stack so far, and the length of
-- its longest value so far
pub record Reached : Type 0 where
  pub spot : Spot
  pub peak_depth : ℕ
  pub peak_length : ℕ

-- a step from one spot to another
abbrev pub Step : Code → World → Spot → Spot → Type 0
Step p w from to =
    (token : Token) × (slice_get p.tokens from.at ≡ Some token)
    × (moves w token from.at from.stack ≡ Some (to.at, to.stack))

-- how far a run has come that begins at a spot
abbrev pub reached_first : Spot → Reached
reached_first from = record {
  spot = from;
  peak_depth = length from.stack;
  peak_length = longest from.stack;
}

-- how far a run has come after one more step, to a spot
abbrev pub reached_next : Reached → Spot → Reached
reached_next before to = record {
  spot = to;
  peak_depth = max before.peak_depth (length to.stack);
  peak_length = max before.peak_length (longest to.stack);
}

-- a run of n steps that begins at a spot, and how far it has come
abbrev pub Segment : Code → World → Spot → ℕ → Reached → Type 0
Segment p w from zero reached = reached ≡ reached_first from
Segment p w from (suc n) reached =
    (before : Reached) × Segment p w from n before × Step p w before.spot reached.spot
    × (reached ≡ reached_next before reached.spot)

-- the first place of a program, with an empty stack
abbrev pub first_spot : Spot
first_spot = record { at = 0; stack = [] }

-- the end of a program, with the one truth value and the peaks of an outcome
abbrev pub reached_end : Code → Outcome → Reached
reached_end p o = record {
  spot = record { at = length p.tokens; stack = Truth o.value ∷ [] };
  peak_depth = o.peak_depth;
  peak_length = o.peak_length;
}

-- a run of a program over a message with these names held, and its outcome: the steps go from the
-- program's first place with an empty stack to its end with the one truth value
abbrev pub Run : Code → Seen → List (List ℕ) → Outcome → Type 0
Run p message held o =
    Segment p (world p message held) first_spot o.steps (reached_end p o)

-- a token that allocates no memory
abbrev pub IsFree : Token → Type 0
IsFree tokens.Concat = ⊥
IsFree tokens.HexString = ⊥
IsFree tokens.Lower = ⊥
IsFree tokens.Upper = ⊥
IsFree tokens.IntToText = ⊥
IsFree token = Unit {0}

-- a run with this outcome, within the steps, the depth and the value length that a program declares
abbrev pub EndsAs : Code → Seen → List (List ℕ) → Outcome → Type 0
EndsAs p message held o =
    Run p message held o × (o.steps ≤ p.steps) × (o.peak_depth ≤ p.depth)
    × (o.peak_length ≤ p.bound)

-- some run within what a program declares
abbrev pub EndsWithin : Code → Seen → List (List ℕ) → Type 0
EndsWithin p message held = (o : Outcome) × EndsAs p message held o
