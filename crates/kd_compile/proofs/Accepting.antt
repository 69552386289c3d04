-- The program of a class test is accepted: each of its places is reached, with a stack of a known
-- shape.
use Rattle.std.proofs.Common.{◌≡◌, ℕ, ◌+◌, ◌≤◌, ◌<◌, max, Bool, true, false, List, [], ◌∷◌, ◌++◌, length, Option, Some, None, refl, sym, subst, arith, inl, inr}
use Rattle.std.specs.Prelude.{◌⊎◌, ℤ, if◌then◌else◌, slice_get, MatchOption, Ok}
use Rattle.std.specs.List.{AllByRecursion}
use Rattle.std.proofs.lemmas.Bool.{cases_lt, lt-ltb}
use Rattle.std.proofs.lemmas.List.{append-nil}
use Rattle.std.proofs.lemmas.Option.{slice_get_within, slice_get_past}
use Rattle.kd_compile.specs.Measures.{number_tree, four_more, step_count, stack_depth, bound, bound_of_part, greatest, names}
use Rattle.kd_compile.specs.Measures.{token_count as size}
use Rattle.kd_compile.specs.Tokens.{index_of, code_of, program_for}
use Rattle.kd_compile.proofs.Fits.{operand, code_length, operand_length}
use Rattle.kd_compile.proofs.Rows.{has_front, has_back, has_itself}
use Rattle.kd_compile.proofs.Pieces.{known_covered, Goes, Leads, GoesOn, Piece, piece_last, piece_front, piece_then, piece_over, piece_counted, covered_shorter, covered_sooner}
use Rattle.kd_compile.proofs.Places.{Knows, names_known}
use Rattle.kd_compile.proofs.Typed.{kind_of, IsTruth, IsBytes, IsWell, well_of}
use Rattle.kd_expr.specs.Tree.{Tree, Literal, Int, OptionValue, RelayValue, FieldValue, OptionExists, RelayExists, Member, Equal, Not, And, Or, Group, Concat, IfElse, Substring, HexString, Lower, Upper, IntToText}
use Rattle.kd_expr.specs.Typing.{type_of}
use Rattle.kd_wire.specs.declared.field.Field.{Field}
use Rattle.kd_wire.specs.declared.field.Field.TheVariants as parts
use Rattle.kd_expr.specs.declared.typing.ValueType.TheVariants as types
use Rattle.kd_token.specs.Accepts.{Accepts, Point, Flow, Assignment, IsSoundAt, flow_to, out, leaving, origin, IsCovered, IsWithin}
use Rattle.kd_token.specs.File.{Code}
use Rattle.kd_token.specs.Shape.{IsShortKind, AreShort, bound_of_substring, bound_of_hex, field_kind, gives}
use Rattle.kd_wire.specs.Steps.{◌>>=◌}
use Rattle.kd_token.specs.Table.{point, IsRoomFor}
use Rattle.kd_token.specs.declared.shape.Kind.{Kind}
use Rattle.kd_token.specs.declared.shape.Kind.TheVariants as kinds
use Rattle.kd_token.specs.declared.token.Token.{Token}
use Rattle.kd_token.specs.declared.token.Token.TheVariants as tokens

-- the point before the token after an operand where a byte string is needed
abbrev bytes_points : Tree → List Kind → ℕ → List Point
bytes_points t s c = if number_tree t then point (kind_of t ∷ s) (c + step_count t) ∷ [] else []

-- the point after an operand where a byte string is needed
abbrev behind : Tree → List Kind → ℕ → Point
behind t s c = point (kinds.Bytes (bound t) ∷ s) (c + (step_count t + four_more t))

-- the points before the tokens of an expression, from a shape and a count of steps
abbrev points_of : Tree → List Kind → ℕ → List Point
points_of (Literal at bytes) s c = point s c ∷ []
points_of (Int at n) s c = point s c ∷ []
points_of (OptionValue at code) s c = point s c ∷ []
points_of (RelayValue at code) s c = point s c ∷ []
points_of (FieldValue at field) s c = point s c ∷ []
points_of (OptionExists at code) s c = point s c ∷ []
points_of (RelayExists at code) s c = point s c ∷ []
points_of (Member at name) s c = point s c ∷ []
points_of (Equal at a b) s c =
    points_of a s c ++ bytes_points a s c ++ (points_of b (behind a s c).shape (behind a s c).count ++ bytes_points b (behind a s c).shape (behind a s c).count) ++ behind b (behind a s c).shape (behind a s c).count ∷ []
points_of (Not at a) s c = points_of a s c ++ point (kinds.Bool ∷ s) (c + step_count a) ∷ []
points_of (And at a b) s c = points_of a s c ++ point (kinds.Bool ∷ s) (c + step_count a) ∷ points_of b s (c + step_count a + 1)
points_of (Or at a b) s c = points_of a s c ++ point (kinds.Bool ∷ s) (c + step_count a) ∷ points_of b s (c + step_count a + 1)
points_of (Group at a) s c = points_of a s c
points_of (Concat at a b) s c =
    points_of a s c ++ bytes_points a s c ++ (points_of b (behind a s c).shape (behind a s c).count ++ bytes_points b (behind a s c).shape (behind a s c).count) ++ behind b (behind a s c).shape (behind a s c).count ∷ []
points_of (IfElse at t a b) s c =
    points_of t s c ++ point (kinds.Bool ∷ s) (c + step_count t) ∷ (points_of a s (c + step_count t + 1) ++ bytes_points a s (c + step_count t + 1) ++ behind a s (c + step_count t + 1) ∷ (points_of b s (c + step_count t + 1) ++ bytes_points b s (c + step_count t + 1)))
points_of (Substring at a start count) s c = points_of a s c ++ bytes_points a s c ++ behind a s c ∷ []
points_of (HexString at a b) s c =
    points_of a s c ++ bytes_points a s c ++ (points_of b (behind a s c).shape (behind a s c).count ++ bytes_points b (behind a s c).shape (behind a s c).count) ++ behind b (behind a s c).shape (behind a s c).count ∷ []
points_of (Lower at a) s c = points_of a s c ++ bytes_points a s c ++ behind a s c ∷ []
points_of (Upper at a) s c = points_of a s c ++ bytes_points a s c ++ behind a s c ∷ []
points_of (IntToText at a) s c = points_of a s c ++ point (kinds.Int ∷ s) (c + step_count a) ∷ []

substring_le : (n : ℕ) (count : Option ℤ) → bound_of_substring n count ≤ n
substring_le n None = omega arith
substring_le n (Some z) = omega arith

-- an expression's byte string is no longer than the greatest one
bound_le : (t : Tree) → bound t ≤ greatest t
bound_le (Literal at bytes) = omega arith
bound_le (Int at n) = omega arith
bound_le (OptionValue at code) = omega arith
bound_le (RelayValue at code) = omega arith
bound_le (FieldValue at field) = omega arith
bound_le (OptionExists at code) = omega arith
bound_le (RelayExists at code) = omega arith
bound_le (Member at name) = omega arith
bound_le (Equal at a b) = omega arith
bound_le (Not at a) = omega arith
bound_le (And at a b) = omega arith
bound_le (Or at a b) = omega arith
bound_le (Group at a) = omega arith
bound_le (Concat at a b) = omega arith
bound_le (IfElse at t a b) = omega (arith, bound_le a, bound_le b)
bound_le (Substring at a start count) = omega (arith, bound_le a, substring_le (bound a) count)
bound_le (HexString at a b) = omega arith
bound_le (Lower at a) = bound_le a
bound_le (Upper at a) = bound_le a
bound_le (IntToText at a) = omega arith

part_short : (n : ℕ) (field : Field) → bound_of_part field ≤ n → IsShortKind n (field_kind field)
part_short n parts.Mac le = le
part_short n parts.Hlen le = tt
part_short n parts.Htype le = tt
part_short n parts.Ciaddr le = le
part_short n parts.Giaddr le = le
part_short n parts.Yiaddr le = le
part_short n parts.Siaddr le = le
part_short n parts.MessageType le = tt
part_short n parts.Transaction le = tt
part_short n parts.Length le = tt

-- a tree's tokens are a piece wherever they begin with enough room: they leave the tree's value on
-- top
abbrev HasPieces : Code → Tree → Type 0
HasPieces p t = (s : List Kind) (c : ℕ) → AreShort p.bound s → length s + stack_depth t ≤ p.depth → Piece p (point s c) (code_of p.names t) (points_of t s c) (point (kind_of t ∷ s) (c + step_count t))

-- a piece that ends with a value of this kind, and the four bytes of a number where they are needed
in_four : (p : Code) (q : Point) (ts : List Token) (qs : List Point) (b : Bool) (k : Kind) (n c : ℕ) (s : List Kind) → ((b ≡ true) × (k ≡ kinds.Int) × (n ≡ 4)) ⊎ ((b ≡ false) × (k ≡ kinds.Bytes n)) → n ≤ p.bound → Piece p q ts qs (point (k ∷ s) c)
    → Piece p q (ts ++ (if b then tokens.IntBytes ∷ [] else [])) (qs ++ (if b then point (k ∷ s) c ∷ [] else [])) (point (kinds.Bytes n ∷ s) (c + (if b then 1 else 0)))
unfolding gives
in_four p q ts qs true k n c s (inl h) le piece =
    let K : Kind → Type 0 = λ k. Piece p q ts qs (point (k ∷ s) c) → Piece p q (ts ++ tokens.IntBytes ∷ []) (qs ++ point (k ∷ s) c ∷ []) (point (kinds.Bytes n ∷ s) (c + 1)) in
    let room : IsRoomFor p (kinds.Bytes n ∷ s) = (piece.room.0, (le, piece.room.1.1)) in
    let N : ℕ → Type 0 = λ n. IsRoomFor p (kinds.Bytes n ∷ s) → Piece p (point (kinds.Int ∷ s) c) (tokens.IntBytes ∷ []) (point (kinds.Int ∷ s) c ∷ []) (point (kinds.Bytes n ∷ s) (c + 1)) in
    let one : Piece p (point (kinds.Int ∷ s) c) (tokens.IntBytes ∷ []) (point (kinds.Int ∷ s) c ∷ []) (point (kinds.Bytes n ∷ s) (c + 1)) =
    subst N (sym h.2) (λ room. piece_last p (point (kinds.Int ∷ s) c) tokens.IntBytes (point (kinds.Bytes 4 ∷ s) (c + 1)) room (λ a i end. ((room, end), tt))) room in
    subst K (sym h.1) (λ piece. piece_then p q _ _ ts _ qs _ piece one) piece
in_four p q ts qs false k n c s (inr h) le piece =
    let K : Kind → Type 0 = λ k. Piece p q ts qs (point (k ∷ s) c) in
    let T : List Token → Type 0 = λ v. Piece p q v qs (point (kinds.Bytes n ∷ s) c) in
    let Q : List Point → Type 0 = λ v. Piece p q (ts ++ []) v (point (kinds.Bytes n ∷ s) c) in
    piece_counted p q (ts ++ []) (qs ++ []) (kinds.Bytes n ∷ s) c (c + 0) (omega arith) (subst Q (sym (append-nil qs)) (subst T (sym (append-nil ts)) (subst K h.1 piece)))
in_four p q ts qs true k n c s (inr h) le piece = absurd (let e = h.0 in cc)
in_four p q ts qs false k n c s (inl h) le piece = absurd (let e = h.0 in cc)

-- an operand where a byte string is needed
operand_piece : (p : Code) (t : Tree) → IsBytes t → greatest t ≤ p.bound → HasPieces p t → (s : List Kind) (c : ℕ) → AreShort p.bound s → length s + stack_depth t ≤ p.depth
    → Piece p (point s c) (operand p.names t) (points_of t s c ++ bytes_points t s c) (behind t s c)
operand_piece p t is g pieces s c short deep =
    let le : bound t ≤ p.bound = omega (arith, bound_le t, g) in
    let piece = in_four p (point s c) (code_of p.names t) (points_of t s c) (number_tree t) (kind_of t) (bound t) (c + step_count t) s (told is) le (pieces s c short deep) in
    piece_counted p (point s c) (operand p.names t) (points_of t s c ++ bytes_points t s c) (kinds.Bytes (bound t) ∷ s) (c + step_count t + four_more t) (c + (step_count t + four_more t)) (omega arith) piece where
      told : IsBytes t → ((number_tree t ≡ true) × (kind_of t ≡ kinds.Int) × (bound t ≡ 4)) ⊎ ((number_tree t ≡ false) × (kind_of t ≡ kinds.Bytes (bound t)))
      told (inl h) = inl (h.number, h.kind, h.size)
      told (inr h) = inr (h.text, h.kind)

-- an operand that is a truth value
truth_piece : (p : Code) (t : Tree) → IsTruth t → HasPieces p t → (s : List Kind) (c : ℕ) → AreShort p.bound s → length s + stack_depth t ≤ p.depth
    → Piece p (point s c) (code_of p.names t) (points_of t s c) (point (kinds.Bool ∷ s) (c + step_count t))
truth_piece p t is pieces s c short deep =
    let K : Kind → Type 0 = λ k. Piece p (point s c) (code_of p.names t) (points_of t s c) (point (k ∷ s) (c + step_count t)) in
    subst K is (pieces s c short deep)

-- a token takes these kinds from the top and leaves one: it goes on if there is room and the next
-- place covers that
abbrev Takes : Code → Token → List Kind → Kind → Type 0
Takes p token taken k = (s : List Kind) (c : ℕ) (a : Assignment) (i : ℕ) → IsRoomFor p (k ∷ s) → IsCovered (a (i + 1)) (point (k ∷ s) (c + 1)) → GoesOn p a i token (point (taken ++ s) c)

-- two operands in bytes, and the token that takes them
two_pieces : (p : Code) (a b : Tree) (token : Token) (k : Kind) → IsBytes a → IsBytes b → greatest a ≤ p.bound → greatest b ≤ p.bound → IsShortKind p.bound k → Takes p token (kinds.Bytes (bound b) ∷ kinds.Bytes (bound a) ∷ []) k → HasPieces p a → HasPieces p b
    → (s : List Kind) (c : ℕ) → AreShort p.bound s → length s + max (stack_depth a) (1 + stack_depth b) ≤ p.depth
    → Piece p (point s c) (operand p.names a ++ operand p.names b ++ token ∷ [])
    (points_of a s c ++ bytes_points a s c ++ (points_of b (behind a s c).shape (behind a s c).count ++ bytes_points b (behind a s c).shape (behind a s c).count) ++ behind b (behind a s c).shape (behind a s c).count ∷ [])
    (point (k ∷ s) (c + (step_count a + four_more a + (step_count b + four_more b) + 1)))
two_pieces p a b token k is_a is_b g h short_k takes pieces_a pieces_b s c short deep =
    let first = operand_piece p a is_a g pieces_a s c short (omega (arith, deep)) in
    let top = behind a s c in
    let second = operand_piece p b is_b h pieces_b top.shape top.count first.room.1 (omega (arith, deep)) in
    let both = piece_then p (point s c) top (behind b top.shape top.count) (operand p.names a) (operand p.names b) _ _ first second in
    let few : length (behind b top.shape top.count).shape ≤ p.depth = second.room.0 in
    let room : IsRoomFor p (k ∷ s) = (omega (arith, few), (short_k, short)) in
    let last = piece_last p (behind b top.shape top.count) token (point (k ∷ s) ((behind b top.shape top.count).count + 1)) room (λ f i end. takes s (behind b top.shape top.count).count f i room end) in
    piece_counted p (point s c) _ _ (k ∷ s) ((behind b top.shape top.count).count + 1) (c + (step_count a + four_more a + (step_count b + four_more b) + 1)) (omega arith)
    (piece_then p (point s c) (behind b top.shape top.count) _ _ _ _ _ both last)

-- one operand in bytes, and the token that takes it
one_piece : (p : Code) (a : Tree) (token : Token) (k : Kind) → IsBytes a → greatest a ≤ p.bound → IsShortKind p.bound k → Takes p token (kinds.Bytes (bound a) ∷ []) k → HasPieces p a
    → (s : List Kind) (c : ℕ) → AreShort p.bound s → length s + stack_depth a ≤ p.depth
    → Piece p (point s c) (operand p.names a ++ token ∷ []) (points_of a s c ++ bytes_points a s c ++ behind a s c ∷ []) (point (k ∷ s) (c + (step_count a + four_more a + 1)))
one_piece p a token k is g short_k takes pieces s c short deep =
    let first = operand_piece p a is g pieces s c short deep in
    let top = behind a s c in
    let few : length top.shape ≤ p.depth = first.room.0 in
    let room : IsRoomFor p (k ∷ s) = (omega (arith, few), (short_k, short)) in
    let last = piece_last p top token (point (k ∷ s) (top.count + 1)) room (λ f i end. takes s top.count f i room end) in
    piece_counted p (point s c) _ _ (k ∷ s) (top.count + 1) (c + (step_count a + four_more a + 1)) (omega arith) (piece_then p (point s c) top _ _ _ _ _ first last)

-- one operand as it is, and the token that takes it
bare_piece : (p : Code) (a : Tree) (token : Token) (l k : Kind) → kind_of a ≡ l → IsShortKind p.bound k → Takes p token (l ∷ []) k → HasPieces p a
    → (s : List Kind) (c : ℕ) → AreShort p.bound s → length s + stack_depth a ≤ p.depth
    → Piece p (point s c) (code_of p.names a ++ token ∷ []) (points_of a s c ++ point (l ∷ s) (c + step_count a) ∷ []) (point (k ∷ s) (c + (step_count a + 1)))
bare_piece p a token l k is short_k takes pieces s c short deep =
    let K : Kind → Type 0 = λ k. Piece p (point s c) (code_of p.names a) (points_of a s c) (point (k ∷ s) (c + step_count a)) in
    let first = subst K is (pieces s c short deep) in
    let few : length (l ∷ s) ≤ p.depth = first.room.0 in
    let room : IsRoomFor p (k ∷ s) = (omega (arith, few), (short_k, short)) in
    let last = piece_last p (point (l ∷ s) (c + step_count a)) token (point (k ∷ s) (c + step_count a + 1)) room (λ f i end. takes s (c + step_count a) f i room end) in
    piece_counted p (point s c) _ _ (k ∷ s) (c + step_count a + 1) (c + (step_count a + 1)) (omega arith) (piece_then p (point s c) (point (l ∷ s) (c + step_count a)) _ _ _ _ _ first last)

-- a truth value, a branch that keeps it or drops it, and another truth value
keep_piece : (p : Code) (a b : Tree) (token : Token) → IsTruth a → IsTruth b
    → ((s : List Kind) (c : ℕ) (a : Assignment) (i : ℕ) → Goes p a (record { to = i + 1 + size b; point = point (kinds.Bool ∷ s) (c + 1) }) → Goes p a (record { to = i + 1; point = point s (c + 1) }) → GoesOn p a i token (point (kinds.Bool ∷ s) c))
    → HasPieces p a → HasPieces p b → (s : List Kind) (c : ℕ) → AreShort p.bound s → length s + max (stack_depth a) (stack_depth b) ≤ p.depth
    → Piece p (point s c) (code_of p.names a ++ token ∷ code_of p.names b) (points_of a s c ++ point (kinds.Bool ∷ s) (c + step_count a) ∷ points_of b s (c + step_count a + 1)) (point (kinds.Bool ∷ s) (c + (step_count a + 1 + step_count b)))
keep_piece p a b token is_a is_b goes pieces_a pieces_b s c short deep =
    let d : ℕ = c + step_count a in
    let first = truth_piece p a is_a pieces_a s c short (omega (arith, deep)) in
    let second = truth_piece p b is_b pieces_b s (d + 1) short (omega (arith, deep)) in
    let few : length (kinds.Bool ∷ s) ≤ p.depth = first.room.0 in
    let branch = piece_front p (point (kinds.Bool ∷ s) d) token (point s (d + 1)) (point (kinds.Bool ∷ s) (d + 1 + step_count b)) (code_of p.names b) (points_of b s (d + 1)) second (λ f i h end.
    let length_is = code_length p.names b in
    let C : ℕ → Type 0 = λ n. IsCovered (f n) (point (kinds.Bool ∷ s) (d + 1 + step_count b)) in
    let place : i + 1 + length (code_of p.names b) ≡ i + 1 + size b = omega (arith, length_is) in
    let kept = covered_sooner (f (i + 1 + size b)) (kinds.Bool ∷ s) (d + 1 + step_count b) (d + 1) (omega arith) (subst C place end) in
    let next = known_covered (f (i + 1)) (point s (d + 1)) (second.first f (i + 1) h) in
    goes s d f i (first.room, kept) ((omega (arith, few), short), next)) in
    piece_counted p (point s c) _ _ (kinds.Bool ∷ s) (d + 1 + step_count b) (c + (step_count a + 1 + step_count b)) (omega arith) (piece_then p (point s c) (point (kinds.Bool ∷ s) d) _ _ _ _ _ first branch)

-- the first of two arms, and the branch over the second
arm_piece : (p : Code) (a b : Tree) → IsBytes a → IsBytes b → greatest a ≤ p.bound → greatest b ≤ p.bound → HasPieces p a → HasPieces p b → (s : List Kind) (c : ℕ) → AreShort p.bound s → length s + max (stack_depth a) (stack_depth b) ≤ p.depth
    → Piece p (point s c) (operand p.names a ++ tokens.Branch (size b + four_more b) ∷ operand p.names b) (points_of a s c ++ bytes_points a s c ++ behind a s c ∷ (points_of b s c ++ bytes_points b s c))
    (point (kinds.Bytes (max (bound a) (bound b)) ∷ s) (c + max (step_count a + four_more a + 1) (step_count b + four_more b)))
arm_piece p a b is_a is_b g h pieces_a pieces_b s c short deep =
    let end_point = point (kinds.Bytes (max (bound a) (bound b)) ∷ s) (c + max (step_count a + four_more a + 1) (step_count b + four_more b)) in
    let first = operand_piece p a is_a g pieces_a s c short (omega (arith, deep)) in
    let second = operand_piece p b is_b h pieces_b s c short (omega (arith, deep)) in
    let room : IsRoomFor p end_point.shape = (first.room.0, (omega (arith, bound_le a, bound_le b, g, h), short)) in
    let wide = piece_over p (point s c) (behind b s c) end_point (operand p.names b) (points_of b s c ++ bytes_points b s c) room (λ o. covered_shorter o (max (bound a) (bound b)) (bound b) s end_point.count (c + (step_count b + four_more b)) (omega arith) (omega arith)) second in
    let branch = piece_front p (behind a s c) (tokens.Branch (size b + four_more b)) (point s c) end_point (operand p.names b) (points_of b s c ++ bytes_points b s c) wide (λ f i known end.
    let length_is = operand_length p.names b in
    let C : ℕ → Type 0 = λ n. IsCovered (f n) end_point in
    let place : i + 1 + length (operand p.names b) ≡ i + 1 + (size b + four_more b) = omega (arith, length_is) in
    let past = covered_shorter (f (i + 1 + (size b + four_more b))) (max (bound a) (bound b)) (bound a) s end_point.count ((behind a s c).count + 1) (omega arith) (omega arith) (subst C place end) in
    ((first.room, past), tt)) in
    piece_then p (point s c) (behind a s c) end_point _ _ _ _ first branch

-- a truth value, a branch to the second arm, and the two arms
choice_piece : (p : Code) (at : ℕ) (t a b : Tree) → IsTruth t → IsBytes a → IsBytes b → greatest a ≤ p.bound → greatest b ≤ p.bound
    → ((s : List Kind) (c : ℕ) (f : Assignment) (i : ℕ) → Goes p f (record { to = i + 1 + (size a + four_more a + 1); point = point s (c + 1) }) → Goes p f (record { to = i + 1; point = point s (c + 1) }) → GoesOn p f i (tokens.PopBranchFalse (size a + four_more a + 1)) (point (kinds.Bool ∷ s) c))
    → HasPieces p t → HasPieces p a → HasPieces p b → HasPieces p (IfElse at t a b)
choice_piece p at t a b is_t is_a is_b g h goes pieces_t pieces_a pieces_b s c short deep =
    let d : ℕ = c + step_count t in
    let e : ℕ = c + step_count t + 1 in
    let end_point = point (kinds.Bytes (max (bound a) (bound b)) ∷ s) (e + max (step_count a + four_more a + 1) (step_count b + four_more b)) in
    let arm : List Token = operand p.names a in
    let arms : List Token = operand p.names a ++ tokens.Branch (size b + four_more b) ∷ operand p.names b in
    let arm_points : List Point = points_of a s e ++ bytes_points a s e in
    let other_points : List Point = points_of b s e ++ bytes_points b s e in
    let first = truth_piece p t is_t pieces_t s c short (omega (arith, deep)) in
    let few : length (kinds.Bool ∷ s) ≤ p.depth = first.room.0 in
    let inner = arm_piece p a b is_a is_b g h pieces_a pieces_b s e short (omega (arith, deep)) in
    let one = operand_piece p a is_a g pieces_a s e short (omega (arith, deep)) in
    let two = operand_piece p b is_b h pieces_b s e short (omega (arith, deep)) in
    let branch = piece_front p (point (kinds.Bool ∷ s) d) (tokens.PopBranchFalse (size a + four_more a + 1)) (point s e) end_point arms (arm_points ++ behind a s e ∷ other_points) inner (λ f i known end.
    let size_is = one.size in
    let length_is = operand_length p.names a in
    let later = has_back f (i + 1) arm_points (behind a s e ∷ other_points) known in
    let place : i + 1 + length arm_points + 1 ≡ i + 1 + (size a + four_more a + 1) = omega (arith, size_is, length_is) in
    let C : ℕ → Type 0 = λ n. IsCovered (f n) (point s e) in
    let other = subst C place (known_covered (f (i + 1 + length arm_points + 1)) (point s e) (two.first f (i + 1 + length arm_points + 1) later.1)) in
    let next = known_covered (f (i + 1)) (point s e) (inner.first f (i + 1) known) in
    goes s d f i ((omega (arith, few), short), other) ((omega (arith, few), short), next)) in
    piece_counted p (point s c) _ _ end_point.shape end_point.count (c + (step_count t + 1 + max (step_count a + four_more a + 1) (step_count b + four_more b))) (omega arith) (piece_then p (point s c) (point (kinds.Bool ∷ s) d) _ _ _ _ _ first branch)

-- a token that takes nothing
leaf_piece : (p : Code) (token : Token) (k : Kind) → IsShortKind p.bound k → Takes p token [] k → (s : List Kind) (c : ℕ) → AreShort p.bound s → length s + 1 ≤ p.depth → Piece p (point s c) (token ∷ []) (point s c ∷ []) (point (k ∷ s) (c + 1))
leaf_piece p token k short_k takes s c short deep =
    let room : IsRoomFor p (k ∷ s) = (omega (arith, deep), (short_k, short)) in
    piece_last p (point s c) token (point (k ∷ s) (c + 1)) room (λ f i end. takes s c f i room end)

-- a name that has its index is asked for
member_takes : (p : Code) (name : List ℕ) → slice_get p.names (index_of name p.names) ≡ Some name → Takes p (tokens.Member (index_of name p.names)) [] kinds.Bool
unfolding gives
member_takes p name is s c f i room end =
    let less = slice_get_within p.names (index_of name p.names) name is in
    let there = lt-ltb (index_of name p.names) (length p.names) less in
    let P : Bool → Type 0 = λ b. MatchOption ((if b then Some (kinds.Bool ∷ s) else None) >>= λ t. Some (flow_to (i + 1) (point s c) t ∷ [])) ⊥ (AllByRecursion (Goes p f)) in
    subst P (sym there) ((room, end), tt)

-- so are the tokens of every tree whose operands have the types that are needed
piece_of : (p : Code) (t : Tree) → IsWell t → Knows p.names t → greatest t ≤ p.bound → HasPieces p t
unfolding gives
piece_of p (Literal at bytes) w k g = leaf_piece p (tokens.PushBytes bytes) (kinds.Bytes (length bytes)) g (λ s c f i room end. ((room, end), tt))
piece_of p (Int at n) w k g = leaf_piece p (tokens.PushInt n) kinds.Int tt (λ s c f i room end. ((room, end), tt))
piece_of p (OptionValue at code) w k g = leaf_piece p (tokens.PushOption code) (kinds.Bytes 4096) g (λ s c f i room end. ((room, end), tt))
piece_of p (RelayValue at code) w k g = leaf_piece p (tokens.PushRelay code) (kinds.Bytes 255) g (λ s c f i room end. ((room, end), tt))
piece_of p (FieldValue at field) w k g = leaf_piece p (tokens.PushField field) (field_kind field) (part_short p.bound field g) (λ s c f i room end. ((room, end), tt))
piece_of p (OptionExists at code) w k g = leaf_piece p (tokens.OptionExists code) kinds.Bool tt (λ s c f i room end. ((room, end), tt))
piece_of p (RelayExists at code) w k g = leaf_piece p (tokens.RelayExists code) kinds.Bool tt (λ s c f i room end. ((room, end), tt))
piece_of p (Member at name) w k g = leaf_piece p (tokens.Member (index_of name p.names)) kinds.Bool tt (member_takes p name k)
piece_of p (Equal at a b) w k g =
    two_pieces p a b tokens.Equal kinds.Bool w.0.0 w.1.0 (omega (arith, g)) (omega (arith, g)) tt (λ s c f i room end. ((room, end), tt)) (piece_of p a w.0.1 k.0 (omega (arith, g))) (piece_of p b w.1.1 k.1 (omega (arith, g)))
piece_of p (Not at a) w k g = bare_piece p a tokens.Not kinds.Bool kinds.Bool w.0 tt (λ s c f i room end. ((room, end), tt)) (piece_of p a w.1 k g)
piece_of p (And at a b) w k g =
    keep_piece p a b (tokens.BranchFalseElsePop (size b)) w.0.0 w.1.0 (λ s c f i kept next. (kept, (next, tt))) (piece_of p a w.0.1 k.0 (omega (arith, g))) (piece_of p b w.1.1 k.1 (omega (arith, g)))
piece_of p (Or at a b) w k g =
    keep_piece p a b (tokens.BranchTrueElsePop (size b)) w.0.0 w.1.0 (λ s c f i kept next. (kept, (next, tt))) (piece_of p a w.0.1 k.0 (omega (arith, g))) (piece_of p b w.1.1 k.1 (omega (arith, g)))
piece_of p (Group at a) w k g = truth_piece p a w.0 (piece_of p a w.1 k g)
piece_of p (Concat at a b) w k g =
    two_pieces p a b tokens.Concat (kinds.Bytes (bound a + bound b)) w.0.0 w.1.0 (omega (arith, g)) (omega (arith, g)) (omega (arith, g)) (λ s c f i room end. ((room, end), tt)) (piece_of p a w.0.1 k.0 (omega (arith, g))) (piece_of p b w.1.1 k.1 (omega (arith, g)))
piece_of p (IfElse at t a b) w k g =
    choice_piece p at t a b w.0.0 w.1.0 w.2.0 (omega (arith, g)) (omega (arith, g)) (λ s c f i other next. (other, (next, tt))) (piece_of p t w.0.1 k.0 (omega (arith, g))) (piece_of p a w.1.1 k.1 (omega (arith, g))) (piece_of p b w.2.1 k.2 (omega (arith, g)))
piece_of p (Substring at a start count) w k g =
    one_piece p a (tokens.Substring start count) (kinds.Bytes (bound_of_substring (bound a) count)) w.0 g (omega (arith, substring_le (bound a) count, bound_le a, g)) (λ s c f i room end. ((room, end), tt)) (piece_of p a w.1 k g)
piece_of p (HexString at a b) w k g =
    two_pieces p a b tokens.HexString (kinds.Bytes (bound_of_hex (bound a) (bound b))) w.0.0 w.1.0 (omega (arith, g)) (omega (arith, g)) (omega (arith, g)) (λ s c f i room end. ((room, end), tt)) (piece_of p a w.0.1 k.0 (omega (arith, g))) (piece_of p b w.1.1 k.1 (omega (arith, g)))
piece_of p (Lower at a) w k g = one_piece p a tokens.Lower (kinds.Bytes (bound a)) w.0 g (omega (arith, bound_le a, g)) (λ s c f i room end. ((room, end), tt)) (piece_of p a w.1 k g)
piece_of p (Upper at a) w k g = one_piece p a tokens.Upper (kinds.Bytes (bound a)) w.0 g (omega (arith, bound_le a, g)) (λ s c f i room end. ((room, end), tt)) (piece_of p a w.1 k g)
piece_of p (IntToText at a) w k g = bare_piece p a tokens.IntToText kinds.Int (kinds.Bytes 10) w.0.kind (omega (arith, g)) (λ s c f i room end. ((room, end), tt)) (piece_of p a w.1 k (omega (arith, g)))

-- every flow of a place that leads on is within what is declared
all_within : (p : Code) (a : Assignment) (fs : List Flow) → AllByRecursion (Goes p a) fs → AllByRecursion (IsWithin p) fs
all_within p a [] all = tt
all_within p a (f ∷ fs) all = (all.0.0, all_within p a fs all.1)

-- and it is covered where it leads
all_covered : (p : Code) (a : Assignment) (j : ℕ) (fs : List Flow) → AllByRecursion (Goes p a) fs → AllByRecursion (λ f. f.to ≡ j → IsCovered (a j) f.point) fs
all_covered p a j [] all = tt
all_covered p a j (f ∷ fs) all = (λ e. let P : ℕ → Type 0 = λ n. IsCovered (a n) f.point in subst P e all.0.1, all_covered p a j fs all.1)

enters : (p : Code) (a : Assignment) (j : ℕ) (o : Option (List Flow)) → MatchOption o ⊥ (AllByRecursion (Goes p a)) → MatchOption o (Unit {0}) (AllByRecursion (λ f. f.to ≡ j → IsCovered (a j) f.point))
enters p a j None l = tt
enters p a j (Some fs) l = all_covered p a j fs l

leaves : (p : Code) (a : Assignment) (o : Option (List Flow)) → MatchOption o ⊥ (AllByRecursion (Goes p a)) → MatchOption o ⊥ (AllByRecursion (IsWithin p))
leaves p a None l = absurd l
leaves p a (Some fs) l = all_within p a fs l

-- after the last token nothing leaves
leads_end : (p : Code) (a : Assignment) (i : ℕ) → length p.tokens ≤ i → Leads p a i
leads_end p a i past =
    let none : slice_get p.tokens i ≡ None = slice_get_past p.tokens i past in
    let P : Option Token → Type 0 = λ o. MatchOption (leaving (length p.names) o i (a i)) ⊥ (AllByRecursion (Goes p a)) in
    subst P (sym none) (by (a i)) where
      by : (o : Option Point) → MatchOption (leaving (length p.names) None i o) ⊥ (AllByRecursion (Goes p a))
      by None = tt
      by (Some q) = tt

-- places that all lead on, from the origin, are sound
leads_sound : (p : Code) (a : Assignment) → a 0 ≡ Some origin → ((j : ℕ) → Leads p a j) → (j : ℕ) → IsSoundAt p a j
leads_sound p a first leads j = record {
  start = λ e. let P : ℕ → Type 0 = λ n. a n ≡ Some origin in subst P (sym e) first;
  enter = λ i. enters p a j (out p a i) (leads i);
  leave = leaves p a (out p a j) (leads j);
}

-- the program of a class test is accepted, even if it is over a limit
pub accepted : (t : Tree) → type_of t ≡ Ok types.Bool → Accepts (program_for t)
accepted t typed =
    let p = program_for t in
    let well = well_of t types.Bool typed in
    let end_point = point (kinds.Bool ∷ []) (step_count t) in
    let inner = points_of t [] 0 in
    let a : Assignment = slice_get (inner ++ end_point ∷ []) in
    let begun = piece_of p t well.1 (names_known t) (omega arith) in
    let piece = piece_counted p (point [] 0) (code_of (names t) t) inner (kinds.Bool ∷ []) (0 + step_count t) (step_count t) (omega arith) (truth_piece p t well.0 begun [] 0 tt (omega arith)) in
    let stands = has_itself (inner ++ end_point ∷ []) in
    let points = has_front a 0 inner (end_point ∷ []) stands in
    let last = (has_back a 0 inner (end_point ∷ []) stands).0 in
    let A : ℕ → Type 0 = λ n. a n ≡ Some end_point in
    let size_is = piece.size in
    let ends : a (length p.tokens) ≡ Some end_point = subst A (omega (arith, size_is)) last in
    let behind_all : a (0 + length p.tokens) ≡ Some end_point = subst A (omega arith) ends in
    let inside = piece.leads a 0 (has_itself p.tokens) points (known_covered (a (0 + length p.tokens)) end_point behind_all) in
    let by : (j : ℕ) → (j < length p.tokens) ⊎ (length p.tokens ≤ j) → Leads p a j = λ j o. elim o [
      | inl less ↦ inside j (omega arith) (omega (arith, less))
      | inr past ↦ leads_end p a j past
    ] in
    let sound = leads_sound p a (piece.first a 0 points) (λ j. by j (cases_lt j (length p.tokens))) in
    let T : Option Point → Type 0 = λ o. MatchOption o ⊥ (λ q. q.count ≤ p.steps) in
    let S : Option Point → Type 0 = λ o. MatchOption o ⊥ (λ q. q.shape ≡ kinds.Bool ∷ []) in
    let in_time : T (Some end_point) = omega arith in
    let one : S (Some end_point) = refl in
    (a, (λ j less. sound j), subst T (sym ends) in_time, subst S (sym ends) one)
