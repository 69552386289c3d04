-- Every token of a program fits in it: its operands fit, and each flow from it leads on, at most to
-- the end.
use Rattle.std.proofs.Common.{ℕ, ◌+◌, ◌≤◌, List, [], ◌∷◌, length, Option, Some, None, arith}
use Rattle.std.specs.Prelude.{MatchOption}
use Rattle.std.specs.List.{AllByRecursion}
use Rattle.kd_token.specs.Accepts.{Point, Flow, flow_to, flows_by, way_of}
use Rattle.kd_token.specs.Laws.{TokensStand}
use Rattle.kd_token.specs.Shape.{bool_taken, gives}
use Rattle.kd_token.specs.Table.{skip_of}
use Rattle.kd_token.specs.declared.shape.Kind.{Kind}
use Rattle.kd_token.specs.declared.shape.Kind.TheVariants as kinds
use Rattle.kd_token.specs.declared.token.Token.{Token}
use Rattle.kd_token.specs.declared.way.Way.{Way}
use Rattle.kd_token.specs.declared.way.Way.TheVariants as routes
use Rattle.kd_token.proofs.Tidy.{is_token, reach_within}
use Rattle.kd_wire.specs.Steps.{◌>>=◌}

-- flows lead on from place i, at most this far
abbrev LeadOn : ℕ → ℕ → Option (List Flow) → Type 0
LeadOn i most o = MatchOption o (Unit {0}) (AllByRecursion (λ f. (i + 1 ≤ f.to) × (f.to ≤ most)))

lead_on : (way : Way) (names : ℕ) (token : Token) (i most : ℕ) (q : Point) → i + 1 + skip_of way ≤ most → LeadOn i most (flows_by way names token i q)
lead_on routes.On names token i most q le = one (gives names token q.shape) where
  one : (o : Option (List Kind)) → LeadOn i most (o >>= λ s. Some (flow_to (i + 1) q s ∷ []))
  one None = tt
  one (Some s) = ((omega arith, omega (arith, le)), tt)
lead_on (routes.Skip skip) names token i most q le = ((omega arith, omega (arith, le)), tt)
lead_on (routes.Fork skip) names token i most q le = two (bool_taken q.shape) where
  two : (o : Option (List Kind)) → LeadOn i most (o >>= λ r. Some (flow_to (i + 1 + skip) q r ∷ flow_to (i + 1) q r ∷ []))
  two None = tt
  two (Some r) = ((omega arith, omega (arith, le)), ((omega arith, omega (arith, le)), tt))
lead_on (routes.Keep stays skip) names token i most q le = two (bool_taken q.shape) where
  two : (o : Option (List Kind)) → LeadOn i most (o >>= λ r. Some (flow_to (i + 1 + skip) q (kinds.Bool ∷ r) ∷ flow_to (i + 1) q r ∷ []))
  two None = tt
  two (Some r) = ((omega arith, omega (arith, le)), ((omega arith, omega (arith, le)), tt))

-- every token of a program that has a file
pub tokens_stand : TokensStand
tokens_stand p file i token there =
    let told = is_token p i token file there in
    record {
      left = told.0;
      place = told.1;
      is = told.2;
      leads = λ q. lead_on (way_of token) (length p.names) token i (length p.tokens) q (reach_within p i token file there);
    }
