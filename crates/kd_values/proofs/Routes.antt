-- Printed routes read back.
use Rattle.std.proofs.Common.{◌≡◌, ◌∙◌, ℕ, zero, suc, ◌+◌, ◌≤◌, ◌<◌, true, false, ◌&&◌, List, [], ◌∷◌, ◌++◌, length, Option, Some, None, append-nil, append_assoc, codes, decimal, drop, eq-eqb, eqb-true, if◌then◌else◌, length-append, length-drop, leb-true, nat_le, nat_lt, ne_eqb, option_and_then, refl, reverse, subst, sym, ap, arith, take, take-append-drop}
use Rattle.std.specs.Prelude.{◌==◌}
use Rattle.std.specs.List.{AllByRecursion, flat_map, list_all, onto_first, slice_split}
use Rattle.std.proofs.lemmas.Bool.{and_parts, false≢true}
use Rattle.std.proofs.lemmas.Fmt.{decimal_nonempty}
use Rattle.std.proofs.lemmas.List.{length-reverse, length-take-le, reverse-append, reverse-reverse}
use Rattle.std.proofs.lemmas.List.Splits.{length-slice_split}
use Rattle.hex.specs.Hex.{IsBytes}
use Rattle.memchr.specs.Find.{is_byte}
use Rattle.kd_expr.specs.Lexical.{a_blank}
use Rattle.kd_expr.specs.Lexing.{address_read, behind_of}
use Rattle.kd_names.specs.Pieces.{are_routes, bytes_of_bits, is_clear, is_route, pieces_behind, routes_of}
use Rattle.kd_names.specs.Values.{addresses_behind, addresses_text, dotted_text, prefix_address, route_text, routes_text}
use Rattle.kd_values.specs.Names.{route_of_parts, route_spelled}
use Rattle.kd_values.specs.Parts.{halves_at, if_two, trimmed, values_between_commas, values_in}
use Rattle.kd_values.proofs.Decimals.{AreFigures, based_reads, decimal_reads}
use Rattle.kd_values.proofs.Domains.{pieces_whole}
use Rattle.kd_values.proofs.Dotted.{dotted_reads}
use Rattle.kd_values.proofs.Lists.{spaced}
use Rattle.kd_values.proofs.Trims.{AreInner, inner_append, inner_trimmed, is_inner}

-- ---- figures and dots

-- a figure or a dot
abbrev IsDotted : ℕ → Type 0
IsDotted b = (46 ≤ b) × (b ≤ 57) × (b ≡ 47 → ⊥)

abbrev AreDotted : List ℕ → Type 0
AreDotted text = AllByRecursion IsDotted text

dotted_append : (xs ys : List ℕ) → AreDotted xs → AreDotted ys → AreDotted (xs ++ ys)
dotted_append [] ys p q = q
dotted_append (x ∷ xs) ys p q = (p.0, dotted_append xs ys p.1 q)

figures_dotted : (digits : List ℕ) → AreFigures digits → AreDotted digits
figures_dotted [] are = tt
figures_dotted (c ∷ digits) are = ((omega (arith, are.0.0), are.0.1, λ e. absurd (omega (arith, e, are.0.0))), figures_dotted digits are.1)

decimal_dotted : (n : ℕ) → n < 256 → AreDotted (decimal n)
decimal_dotted n small = figures_dotted (decimal n) (decimal_reads n (omega (arith, small))).0

address_dotted : (a b c d : ℕ) → a < 256 → b < 256 → c < 256 → d < 256 → AreDotted (dotted_text a b c d)
address_dotted a b c d p q r s =
    let dot : AreDotted (codes ".") = ((omega arith, omega arith, λ e. absurd (omega (arith, e))), tt) in
    dotted_append _ _ (dotted_append _ _ (dotted_append _ _ (dotted_append _ _ (dotted_append _ _ (dotted_append _ _ (decimal_dotted a p) dot) (decimal_dotted b q)) dot) (decimal_dotted c r)) dot) (decimal_dotted d s)

address_some : (a b c d : ℕ) → a < 256 → 0 < length (dotted_text a b c d)
address_some a b c d p =
    omega (
      arith,
      decimal_nonempty a (omega (arith, p)),
      length-append (decimal a) (codes "."),
      length-append (decimal a ++ codes ".") (decimal b),
      length-append (decimal a ++ codes "." ++ decimal b) (codes "."),
      length-append (decimal a ++ codes "." ++ decimal b ++ codes ".") (decimal c),
      length-append (decimal a ++ codes "." ++ decimal b ++ codes "." ++ decimal c) (codes "."),
      length-append (decimal a ++ codes "." ++ decimal b ++ codes "." ++ decimal c ++ codes ".") (decimal d),
    )

dotted_inner : (text : List ℕ) → AreDotted text → AreInner text
dotted_inner [] p = tt
dotted_inner (b ∷ text) p = (is_inner b (omega (arith, p.0.0)) (λ e. absurd (omega (arith, e, p.0.0))), dotted_inner text p.1)

-- ---- texts without a byte

abbrev HasNone : ℕ → List ℕ → Type 0
HasNone byte text = AllByRecursion (λ b. is_byte byte b ≡ false) text

none_append : (byte : ℕ) (xs ys : List ℕ) → HasNone byte xs → HasNone byte ys → HasNone byte (xs ++ ys)
none_append byte [] ys p q = q
none_append byte (x ∷ xs) ys p q = (p.0, none_append byte xs ys p.1 q)

dotted_none : (byte : ℕ) (text : List ℕ) → ((b : ℕ) → IsDotted b → b ≡ byte → ⊥) → AreDotted text → HasNone byte text
dotted_none byte [] other are = tt
dotted_none byte (b ∷ text) other are = (ne_eqb b byte (other b are.0), dotted_none byte text other are.1)

split_whole : (byte : ℕ) (text : List ℕ) → HasNone byte text → slice_split (is_byte byte) text ≡ text ∷ []
split_whole byte [] none = refl
split_whole byte (b ∷ text) none = rw none.0 (ap (onto_first b) (split_whole byte text none.1))

split_first : (byte : ℕ) (text rest : List ℕ) → HasNone byte text → slice_split (is_byte byte) (text ++ byte ∷ rest) ≡ text ∷ slice_split (is_byte byte) rest
split_first byte [] rest none = rw (eq-eqb byte byte refl) refl
split_first byte (b ∷ text) rest none = rw none.0 (ap (onto_first b) (split_first byte text rest none.1))

two_halves : (byte : ℕ) (front back : List ℕ) → HasNone byte front → HasNone byte back → halves_at byte (front ++ byte ∷ back) ≡ Some (front, back)
two_halves byte front back p q =
    ap if_two (split_first byte front back p ∙ ap (λ parts. front ∷ parts) (split_whole byte back q))

-- ---- blanks

begins : (text rest : List ℕ) → AreInner text → 0 < length text → behind_of a_blank (text ++ rest) ≡ text ++ rest
begins [] rest inner some = absurd (omega (arith, some))
begins (b ∷ text) rest inner some = rw inner.0.0 refl

reverse_inner : (xs : List ℕ) → AreInner xs → AreInner (reverse xs)
reverse_inner [] p = tt
reverse_inner (x ∷ xs) p = rw (reverse-append (x ∷ []) xs) (inner_append (reverse xs) (x ∷ []) (reverse_inner xs p.1) (p.0, tt))

-- a text that begins and ends without blanks is trimmed
both_ends : (first middle last : List ℕ) → AreInner first → AreInner last → 0 < length first → 0 < length last → trimmed (first ++ (middle ++ last)) ≡ first ++ (middle ++ last)
both_ends first middle last p q some any =
    let text = first ++ (middle ++ last) in
    let whole : text ≡ (first ++ middle) ++ last = sym (append_assoc first middle last) in
    let turned : reverse text ≡ reverse last ++ reverse (first ++ middle) = ap reverse whole ∙ reverse-append (first ++ middle) last in
    ap (λ t. reverse (behind_of a_blank (reverse t))) (begins first (middle ++ last) p some)
    ∙ ap (λ t. reverse (behind_of a_blank t)) turned
    ∙ ap reverse (begins (reverse last) (reverse (first ++ middle)) (reverse_inner last q) (omega (arith, length-reverse last, any)) ∙ sym turned)
    ∙ reverse-reverse text

-- a space behind a text does not count
space_behind : (text : List ℕ) → AreInner text → 0 < length text → trimmed (text ++ 32 ∷ []) ≡ text
space_behind text p some =
    ap (λ t. reverse (behind_of a_blank (reverse t))) (begins text (32 ∷ []) p some)
    ∙ ap (λ t. reverse (behind_of a_blank t)) (reverse-append text (32 ∷ []))
    ∙ ap reverse (ap (behind_of a_blank) (sym (append-nil (reverse text))) ∙ begins (reverse text) [] (reverse_inner text p) (omega (arith, length-reverse text, some)) ∙ append-nil (reverse text))
    ∙ reverse-reverse text

-- ---- one route

-- four bytes that begin with these
abbrev pad : List ℕ → List ℕ
pad [] = 0 ∷ 0 ∷ 0 ∷ 0 ∷ []
pad (a ∷ []) = a ∷ 0 ∷ 0 ∷ 0 ∷ []
pad (a ∷ b ∷ []) = a ∷ b ∷ 0 ∷ 0 ∷ []
pad (a ∷ b ∷ c ∷ []) = a ∷ b ∷ c ∷ 0 ∷ []
pad (a ∷ b ∷ c ∷ d ∷ more) = a ∷ b ∷ c ∷ d ∷ []

abbrev AreSmall : List ℕ → Type 0
AreSmall bytes = AllByRecursion (λ b. b < 256) bytes

-- what is known of the bytes of a prefix
record IsPrefix (p : List ℕ) : Type 0 where
  reads : address_read (prefix_address p) ≡ Some (pad p)
  signs : AreDotted (prefix_address p)
  some : 0 < length (prefix_address p)
  near : take (length p) (pad p) ≡ p
  far : list_all (λ b. b == 0) (drop (length p) (pad p)) ≡ true

zero_small : 0 < 256
zero_small = omega arith

prefix_of : (p : List ℕ) → length p ≤ 4 → AreSmall p → IsPrefix p
prefix_of [] few are = record { reads = dotted_reads 0 0 0 0 zero_small zero_small zero_small zero_small; signs = address_dotted 0 0 0 0 zero_small zero_small zero_small zero_small; some = address_some 0 0 0 0 zero_small; near = refl; far = refl }
prefix_of (a ∷ []) few are = record { reads = dotted_reads a 0 0 0 are.0 zero_small zero_small zero_small; signs = address_dotted a 0 0 0 are.0 zero_small zero_small zero_small; some = address_some a 0 0 0 are.0; near = refl; far = refl }
prefix_of (a ∷ b ∷ []) few are = record { reads = dotted_reads a b 0 0 are.0 are.1.0 zero_small zero_small; signs = address_dotted a b 0 0 are.0 are.1.0 zero_small zero_small; some = address_some a b 0 0 are.0; near = refl; far = refl }
prefix_of (a ∷ b ∷ c ∷ []) few are = record { reads = dotted_reads a b c 0 are.0 are.1.0 are.1.1.0 zero_small; signs = address_dotted a b c 0 are.0 are.1.0 are.1.1.0 zero_small; some = address_some a b c 0 are.0; near = refl; far = refl }
prefix_of (a ∷ b ∷ c ∷ d ∷ []) few are = record { reads = dotted_reads a b c d are.0 are.1.0 are.1.1.0 are.1.1.1.0; signs = address_dotted a b c d are.0 are.1.0 are.1.1.0 are.1.1.1.0; some = address_some a b c d are.0; near = refl; far = refl }
prefix_of (a ∷ b ∷ c ∷ d ∷ e ∷ more) few are = absurd (omega (arith, few))

-- what is known of the bytes of a router
record IsRouter (r : List ℕ) : Type 0 where
  reads : address_read (addresses_text r) ≡ Some r
  signs : AreDotted (addresses_text r)
  some : 0 < length (addresses_text r)

router_of : (r : List ℕ) → length r ≡ 4 → AreSmall r → IsRouter r
unfolding addresses_text addresses_behind
router_of [] four are = absurd (omega (arith, four))
router_of (a ∷ []) four are = absurd (omega (arith, four))
router_of (a ∷ b ∷ []) four are = absurd (omega (arith, four))
router_of (a ∷ b ∷ c ∷ []) four are = absurd (omega (arith, four))
router_of (a ∷ b ∷ c ∷ d ∷ []) four are =
    let same = append-nil (dotted_text a b c d) in
    record {
      reads = ap address_read same ∙ dotted_reads a b c d are.0 are.1.0 are.1.1.0 are.1.1.1.0;
      signs = dotted_append (dotted_text a b c d) [] (address_dotted a b c d are.0 are.1.0 are.1.1.0 are.1.1.1.0) tt;
      some = omega (arith, address_some a b c d are.0, length-append (dotted_text a b c d) []);
    }
router_of (a ∷ b ∷ c ∷ d ∷ e ∷ more) four are = absurd (omega (arith, four))

-- what is known of the text of a route
record PrintsRoute (route : List ℕ) : Type 0 where
  reads : route_spelled (route_text route) ≡ Some route
  plain : HasNone 44 (route_text route)
  bare : trimmed (route_text route) ≡ route_text route

abbrev front_text : List ℕ → ℕ → List ℕ
front_text p bits = prefix_address p ++ 47 ∷ decimal bits

parts_fit : (bits : ℕ) (p r : List ℕ) → bytes_of_bits bits ≡ length p → IsPrefix p → is_route (bits ∷ p ++ r) ≡ true → route_of_parts (pad p) bits r ≡ Some (bits ∷ p ++ r)
parts_fit bits p r reach prefix is =
    ap (λ k. if list_all (λ b. b == 0) (drop k (pad p)) && is_route (bits ∷ take k (pad p) ++ r) then Some (bits ∷ take k (pad p) ++ r) else None) reach
    ∙ ap (λ q. if list_all (λ b. b == 0) (drop (length p) (pad p)) && is_route (bits ∷ q ++ r) then Some (bits ∷ q ++ r) else None) prefix.near
    ∙ ap (λ t. if t && is_route (bits ∷ p ++ r) then Some (bits ∷ p ++ r) else None) prefix.far
    ∙ ap (λ t. if true && t then Some (bits ∷ p ++ r) else None) is

front_inner : (p : List ℕ) (bits : ℕ) → bits ≤ 32 → IsPrefix p → AreInner (front_text p bits)
front_inner p bits few prefix =
    inner_append (prefix_address p) (47 ∷ decimal bits) (dotted_inner (prefix_address p) prefix.signs)
    (is_inner 47 (omega arith) (λ e. absurd (omega (arith, e))), dotted_inner (decimal bits) (decimal_dotted bits (omega (arith, few))))

front_none : (byte : ℕ) (p : List ℕ) (bits : ℕ) → bits ≤ 32 → IsPrefix p → ((b : ℕ) → IsDotted b → b ≡ byte → ⊥) → (47 ≡ byte → ⊥) → HasNone byte (front_text p bits)
front_none byte p bits few prefix other slash =
    none_append byte (prefix_address p) (47 ∷ decimal bits) (dotted_none byte (prefix_address p) other prefix.signs)
    (ne_eqb 47 byte slash, dotted_none byte (decimal bits) other (decimal_dotted bits (omega (arith, few))))

no_dash : (b : ℕ) → IsDotted b → b ≡ 45 → ⊥
no_dash b is e = absurd (omega (arith, is.0, e))

no_comma : (b : ℕ) → IsDotted b → b ≡ 44 → ⊥
no_comma b is e = absurd (omega (arith, is.0, e))

-- the text of a prefix and a router is read as both
text_reads : (bits : ℕ) (p r : List ℕ) → bits ≤ 32 → bytes_of_bits bits ≡ length p → IsPrefix p → IsRouter r → is_route (bits ∷ p ++ r) ≡ true
    → route_spelled ((front_text p bits ++ 32 ∷ []) ++ 45 ∷ 32 ∷ addresses_text r) ≡ Some (bits ∷ p ++ r)
unfolding route_spelled
text_reads bits p r few reach prefix router is =
    let front = front_text p bits in
    let back = addresses_text r in
    let some : 0 < length front = omega (arith, prefix.some, length-append (prefix_address p) (47 ∷ decimal bits)) in
    let space : (b : ℕ) → b ≡ 32 → b ≡ 45 → ⊥ = λ b e f. absurd (omega (arith, e, f)) in
    let halves = two_halves 45 (front ++ 32 ∷ []) (32 ∷ back)
    (none_append 45 front (32 ∷ []) (front_none 45 p bits few prefix no_dash (λ e. absurd (omega (arith, e)))) (refl, tt))
    (refl, dotted_none 45 back no_dash router.signs) in
    let inner = two_halves 47 (prefix_address p) (decimal bits) (dotted_none 47 (prefix_address p) (λ b d. d.2) prefix.signs) (dotted_none 47 (decimal bits) (λ b d. d.2) (decimal_dotted bits (omega (arith, few)))) in
    rw halves
    (rw (space_behind front (front_inner p bits few prefix) some)
    (rw inner (rw prefix.reads (rw (based_reads 33 bits (omega (arith, few)) (omega (arith, few)))
    (rw (inner_trimmed back (dotted_inner back router.signs)) (rw router.reads (parts_fit bits p r reach prefix is)))))))

-- the text of a route, about its dash
text_is : (bits : ℕ) (p r : List ℕ) → prefix_address p ++ codes "/" ++ decimal bits ++ codes " - " ++ addresses_text r ≡ (front_text p bits ++ 32 ∷ []) ++ 45 ∷ 32 ∷ addresses_text r
text_is bits p r = simp append_assoc

text_ends : (bits : ℕ) (p r : List ℕ) → (front_text p bits ++ 32 ∷ []) ++ 45 ∷ 32 ∷ addresses_text r ≡ front_text p bits ++ ((32 ∷ 45 ∷ 32 ∷ []) ++ addresses_text r)
text_ends bits p r = append_assoc (front_text p bits) (32 ∷ []) (45 ∷ 32 ∷ addresses_text r)

joined_prints : (bits : ℕ) (p r text : List ℕ) → text ≡ (front_text p bits ++ 32 ∷ []) ++ 45 ∷ 32 ∷ addresses_text r → bits ≤ 32 → bytes_of_bits bits ≡ length p → IsPrefix p → IsRouter r → is_route (bits ∷ p ++ r) ≡ true
    → (route_spelled text ≡ Some (bits ∷ p ++ r)) × HasNone 44 text × (trimmed text ≡ text)
joined_prints bits p r text same few reach prefix router is =
    let front = front_text p bits in
    let back = addresses_text r in
    let some : 0 < length front = omega (arith, prefix.some, length-append (prefix_address p) (47 ∷ decimal bits)) in
    let other = same ∙ text_ends bits p r in (
      ap route_spelled same ∙ text_reads bits p r few reach prefix router is,
      subst (λ t. HasNone 44 t) (sym other)
          (none_append 44 front ((32 ∷ 45 ∷ 32 ∷ []) ++ back) (front_none 44 p bits few prefix no_comma (λ e. absurd (omega (arith, e)))) (refl, (refl, (refl, dotted_none 44 back no_comma router.signs)))),
      ap trimmed other ∙ both_ends front (32 ∷ 45 ∷ 32 ∷ []) back (front_inner p bits few prefix) (dotted_inner back router.signs) some router.some ∙ sym other,
    )

small_take : (n : ℕ) (bytes : List ℕ) → AreSmall bytes → AreSmall (take n bytes)
small_take zero bytes are = tt
small_take (suc n) [] are = tt
small_take (suc n) (b ∷ bytes) are = (are.0, small_take n bytes are.1)

small_drop : (n : ℕ) (bytes : List ℕ) → AreSmall bytes → AreSmall (drop n bytes)
small_drop zero bytes are = are
small_drop (suc n) [] are = tt
small_drop (suc n) (b ∷ bytes) are = small_drop n bytes are.1

route_prints : (route : List ℕ) → is_route route ≡ true → AreSmall route → PrintsRoute route
route_prints [] is are = absurd (false≢true is)
route_prints (bits ∷ bytes) is are =
    let reach = bytes_of_bits bits in
    let two = and_parts (nat_le bits 32 && length bytes == reach + 4) (is_clear bits (take reach bytes)) is in
    let one = and_parts (nat_le bits 32) (length bytes == reach + 4) two.0 in
    let few = leb-true bits 32 one.0 in
    let size = eqb-true (length bytes) (reach + 4) one.1 in
    let p = take reach bytes in
    let r = drop reach bytes in
    let whole : p ++ r ≡ bytes = take-append-drop reach bytes in
    let near : length p ≡ reach = length-take-le reach bytes (omega (arith, size)) in
    let prefix = prefix_of p (omega (arith, near, few)) (small_take reach bytes are.1) in
    let router = router_of r (omega (arith, length-drop reach bytes, size)) (small_drop reach bytes are.1) in
    let all = joined_prints bits p r (route_text (bits ∷ bytes)) (text_is bits p r) few (sym near) prefix router (ap (λ b. is_route (bits ∷ b)) whole ∙ is) in
    record { reads = all.0 ∙ ap (λ b. Some (bits ∷ b)) whole; plain = all.1; bare = all.2 }

-- ---- all routes

abbrev as_routes : List (List ℕ) → Option (List ℕ)
as_routes parts = values_in (λ part. route_spelled (trimmed part)) parts

route_then : (route : List ℕ) (parts : List (List ℕ)) (more : List ℕ) → PrintsRoute route → as_routes parts ≡ Some more → as_routes (route_text route ∷ parts) ≡ Some (route ++ more)
route_then route parts more prints others =
    ap (λ o. option_and_then (λ first. option_and_then (λ rest. Some (first ++ rest)) (as_routes parts)) o) (ap route_spelled prints.bare ∙ prints.reads)
    ∙ ap (option_and_then (λ rest. Some (route ++ rest))) others

routes_go : (route : List ℕ) (routes : List (List ℕ)) → AllByRecursion PrintsRoute (route ∷ routes) → as_routes (slice_split (is_byte 44) (routes_text (route ∷ routes))) ≡ Some (flat_map (λ p. p) (route ∷ routes))
routes_go route [] are =
    let text = route_text route in
    ap (λ t. as_routes (slice_split (is_byte 44) t)) (append-nil (text ++ []) ∙ append-nil text)
    ∙ ap as_routes (split_whole 44 text are.0.plain)
    ∙ route_then route [] [] are.0 refl
routes_go route (next ∷ routes) are =
    let text = route_text route in
    let rest = routes_text (next ∷ routes) in
    let some : 0 < length (slice_split (is_byte 44) rest) = omega (arith, length-slice_split (is_byte 44) rest) in
    ap (λ t. as_routes (slice_split (is_byte 44) t)) (append_assoc text (44 ∷ 32 ∷ []) rest)
    ∙ ap as_routes (split_first 44 text (32 ∷ rest) are.0.plain)
    ∙ route_then route (slice_split (is_byte 44) (32 ∷ rest)) (flat_map (λ p. p) (next ∷ routes)) are.0
    (spaced route_spelled (slice_split (is_byte 44) rest) some ∙ routes_go next routes are.1)

all_print : (extent : ℕ → ℕ) (skip : ℕ) (bytes : List ℕ) → AreSmall bytes → list_all is_route (pieces_behind extent skip bytes) ≡ true → AllByRecursion PrintsRoute (pieces_behind extent skip bytes)
all_print extent skip [] small are = tt
all_print extent zero (b ∷ bytes) small are =
    let parts = and_parts (is_route (b ∷ take (extent b) bytes)) (list_all is_route (pieces_behind extent (extent b) bytes)) are in
    (route_prints (b ∷ take (extent b) bytes) parts.0 (small.0, small_take (extent b) bytes small.1), all_print extent (extent b) bytes small.1 parts.1)
all_print extent (suc skip) (b ∷ bytes) small are = all_print extent skip bytes small.1 are

small_bytes : (bytes : List ℕ) → IsBytes bytes → AreSmall bytes
small_bytes [] are = tt
small_bytes (b ∷ bytes) are = (are 0, small_bytes bytes (λ i. are (suc i)))

pub routes_read : (value : List ℕ) → are_routes value ≡ true → IsBytes value → values_between_commas route_spelled (routes_text (routes_of value)) ≡ Some value
routes_read [] fits are = absurd (false≢true fits)
routes_read (b ∷ value) fits are =
    let extent : ℕ → ℕ = λ bits. bytes_of_bits bits + 4 in
    let parts = and_parts (nat_lt 0 (length (b ∷ value))) (list_all is_route (routes_of (b ∷ value))) fits in
    routes_go (b ∷ take (extent b) value) (pieces_behind extent (extent b) value) (all_print extent 0 (b ∷ value) (small_bytes (b ∷ value) are) parts.1)
    ∙ ap Some (pieces_whole extent 0 (b ∷ value))
