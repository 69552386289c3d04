-- A step leaves no value below the top that is longer than any before.
use Rattle.std.proofs.Common.{ℕ, ◌+◌, ◌≤◌, Bool, true, false, List, [], ◌∷◌, drop, Option, Some, None, arith}
use Rattle.std.specs.Bool.{beq}
use Rattle.std.specs.Prelude.{if◌then◌else◌, slice_get, MatchOption}
use Rattle.kd_token.specs.Accepts.{way_of}
use Rattle.kd_wire.specs.Steps.{◌>>=◌}
use Rattle.kd_token.specs.declared.token.Token.{Token}
use Rattle.kd_token.specs.declared.token.Token.TheVariants as tokens
use Rattle.kd_token.specs.declared.way.Way.{Way}
use Rattle.kd_token.specs.declared.way.Way.TheVariants as routes
use Rattle.kd_machine.specs.Val.{Val, Truth, Number, Text, longest}
use Rattle.kd_machine.specs.Values.{take_text, take_truth, take_number}
use Rattle.kd_machine.specs.World.{World}
use Rattle.kd_machine.specs.Parts.{is_held}
use Rattle.kd_machine.specs.Run.{rule, moves_by, moves}

-- what holds of a result, if there is one
abbrev Keeps : {A : Type 0} → (A → Type 0) → Option A → Type 0
Keeps P o = MatchOption o (Unit {0}) P

bind_keeps : {A B : Type 0} (P : A → Type 0) (Q : B → Type 0) (o : Option A) (f : A → Option B) → Keeps P o → ((x : A) → P x → Keeps Q (f x)) → Keeps Q (o >>= f)
bind_keeps P Q None f k h = tt
bind_keeps P Q (Some x) f k h = h x k

-- the stack below a value that is popped
abbrev Rest : {A : Type 0} → ℕ → A × List Val → Type 0
Rest most x = longest x.1 ≤ most

text_rest : (most : ℕ) (s : List Val) → longest s ≤ most → Keeps (Rest most) (take_text s)
text_rest most [] le = tt
text_rest most (Text bytes ∷ s) le = omega (arith, le)
text_rest most (Truth b ∷ s) le = tt
text_rest most (Number n ∷ s) le = tt

truth_rest : (most : ℕ) (s : List Val) → longest s ≤ most → Keeps (Rest most) (take_truth s)
truth_rest most [] le = tt
truth_rest most (Text bytes ∷ s) le = tt
truth_rest most (Truth b ∷ s) le = omega (arith, le)
truth_rest most (Number n ∷ s) le = tt

number_rest : (most : ℕ) (s : List Val) → longest s ≤ most → Keeps (Rest most) (take_number s)
number_rest most [] le = tt
number_rest most (Text bytes ∷ s) le = tt
number_rest most (Truth b ∷ s) le = tt
number_rest most (Number n ∷ s) le = omega (arith, le)

-- below the top nothing is longer
abbrev Below : ℕ → List Val → Type 0
Below most t = longest (drop 1 t) ≤ most

below_rest : (most : ℕ) (s : List Val) → longest s ≤ most → Below most s
below_rest most [] le = omega arith
below_rest most (v ∷ s) le = omega (arith, le)

rule_rest : (most : ℕ) (w : World) (token : Token) (s : List Val) → longest s ≤ most → Keeps (Below most) (rule w token s)
unfolding rule
rule_rest most w (tokens.PushBytes bytes) s le = le
rule_rest most w (tokens.PushInt number) s le = le
rule_rest most w (tokens.PushOption code) s le = le
rule_rest most w (tokens.PushRelay code) s le = le
rule_rest most w (tokens.PushField field) s le = le
rule_rest most w (tokens.OptionExists code) s le = le
rule_rest most w (tokens.RelayExists code) s le = le
rule_rest most w (tokens.Member index) s le = by (slice_get w.names index) where
  by : (o : Option (List ℕ)) → Keeps (Below most) (o >>= λ name. Some (Truth (is_held name w.held) ∷ s))
  by None = tt
  by (Some name) = le
rule_rest most w tokens.Equal s le =
    bind_keeps (Rest most) (Below most) _ _ (text_rest most s le) (λ x k. bind_keeps (Rest most) (Below most) _ _ (text_rest most x.1 k) (λ y m. m))
rule_rest most w tokens.Not s le = bind_keeps (Rest most) (Below most) _ _ (truth_rest most s le) (λ x k. k)
rule_rest most w tokens.And s le =
    bind_keeps (Rest most) (Below most) _ _ (truth_rest most s le) (λ x k. bind_keeps (Rest most) (Below most) _ _ (truth_rest most x.1 k) (λ y m. m))
rule_rest most w tokens.Or s le =
    bind_keeps (Rest most) (Below most) _ _ (truth_rest most s le) (λ x k. bind_keeps (Rest most) (Below most) _ _ (truth_rest most x.1 k) (λ y m. m))
rule_rest most w tokens.IfElse s le =
    bind_keeps (Rest most) (Below most) _ _ (text_rest most s le) (λ x k. bind_keeps (Rest most) (Below most) _ _ (text_rest most x.1 k) (λ y m.
    bind_keeps (Rest most) (Below most) _ _ (truth_rest most y.1 m) (λ z n. n)))
rule_rest most w (tokens.Substring start count) s le = bind_keeps (Rest most) (Below most) _ _ (text_rest most s le) (λ x k. k)
rule_rest most w tokens.Concat s le =
    bind_keeps (Rest most) (Below most) _ _ (text_rest most s le) (λ x k. bind_keeps (Rest most) (Below most) _ _ (text_rest most x.1 k) (λ y m. m))
rule_rest most w tokens.HexString s le =
    bind_keeps (Rest most) (Below most) _ _ (text_rest most s le) (λ x k. bind_keeps (Rest most) (Below most) _ _ (text_rest most x.1 k) (λ y m. m))
rule_rest most w tokens.Lower s le = bind_keeps (Rest most) (Below most) _ _ (text_rest most s le) (λ x k. k)
rule_rest most w tokens.Upper s le = bind_keeps (Rest most) (Below most) _ _ (text_rest most s le) (λ x k. k)
rule_rest most w tokens.IntToText s le = bind_keeps (Rest most) (Below most) _ _ (number_rest most s le) (λ x k. k)
rule_rest most w tokens.IntBytes s le = bind_keeps (Rest most) (Below most) _ _ (number_rest most s le) (λ x k. k)
rule_rest most w (tokens.Branch skip) s le = tt
rule_rest most w (tokens.PopBranchFalse skip) s le = tt
rule_rest most w (tokens.BranchFalseElsePop skip) s le = tt
rule_rest most w (tokens.BranchTrueElsePop skip) s le = tt

-- what a step leaves below the top
abbrev MovedBelow : ℕ → Option (ℕ × List Val) → Type 0
MovedBelow most o = Keeps (λ r. Below most r.1) o

rest_by : (way : Way) (most : ℕ) (w : World) (token : Token) (i : ℕ) (s : List Val) → longest s ≤ most → MovedBelow most (moves_by way w token i s)
rest_by routes.On most w token i s le = one (rule w token s) (rule_rest most w token s le) where
  one : (o : Option (List Val)) → Keeps (Below most) o → MovedBelow most (o >>= λ t. Some (i + 1, t))
  one None k = tt
  one (Some t) k = k
rest_by (routes.Skip skip) most w token i s le = below_rest most s le
rest_by (routes.Fork skip) most w token i s le = two (take_truth s) (truth_rest most s le) where
  two : (o : Option (Bool × List Val)) → Keeps (Rest most) o → MovedBelow most (o >>= λ b. Some (if b.0 then i + 1 else i + 1 + skip, b.1))
  two None k = tt
  two (Some b) k = below_rest most b.1 k
rest_by (routes.Keep stays skip) most w token i s le = two (take_truth s) (truth_rest most s le) where
  two : (o : Option (Bool × List Val)) → Keeps (Rest most) o → MovedBelow most (o >>= λ b. Some (if beq stays b.0 then (i + 1 + skip, Truth b.0 ∷ b.1) else (i + 1, b.1)))
  two None k = tt
  two (Some (b, t)) k = by (beq stays b) where
    by : (same : Bool) → MovedBelow most (Some (if same then (i + 1 + skip, Truth b ∷ t) else (i + 1, t)))
    by true = k
    by false = below_rest most t k

-- a step leaves nothing below the top that is longer than the values before it
pub moves_rest : (most : ℕ) (w : World) (token : Token) (i : ℕ) (s : List Val) → longest s ≤ most → MatchOption (moves w token i s) (Unit {0}) (λ r. longest (drop 1 r.1) ≤ most)
moves_rest most w token i s le = rest_by (way_of token) most w token i s le
