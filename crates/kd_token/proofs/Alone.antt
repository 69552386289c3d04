-- Bytes have only one first fault: files with the same bytes so far have the same field next.
use Rattle.std.proofs.Common.{◌≡◌, ℕ, ◌+◌, ◌^◌, ◌<◌, ◌≤◌, ◌==◌, List, [], ◌∷◌, ◌++◌, length, get_or, Option, Some, None, refl, sym, ap, subst, ◌∙◌, append_assoc, length-append, arith, inl, inr, if◌then◌else◌}
use Rattle.std.specs.Prelude.{ℤ, ◌⊎◌, take, drop}
use Rattle.std.specs.List.{flat_map}
use Rattle.std.proofs.lemmas.List.{append-nil, append_cancel_left, length-take-le, take-append-drop, take-take, take_at}
use Rattle.std.proofs.lemmas.Nat.{from_be_bytes-to_be_bytes_2}
use Rattle.byteorder.specs.Endian.{big_bytes, big_number}
use Rattle.kd_token.specs.declared.fault.FileFault.{FileFault}
use Rattle.kd_token.specs.declared.fault.FileFault.TheVariants as faults
use Rattle.kd_token.specs.declared.token.Token.{Token}
use Rattle.kd_token.specs.declared.token.Token.TheVariants as tokens
use Rattle.kd_token.specs.declared.token.Version.{Version}
use Rattle.kd_token.specs.File.{Code, HasFile, IsFileOf, IsToken, AreTokens, file_bytes, signed_bytes, token_bytes}
use Rattle.kd_wire.specs.Field.{field_number}
use Rattle.kd_token.specs.FirstFault.{Part, free, operand, limited, name_parts, count_parts, operand_parts, token_parts, later_parts, parts, bytes_of_parts, ComesNext, BeginsNone, IsFileFault, IsRestFault}
use Rattle.kd_token.specs.Laws.{HaveOneFault}
use Rattle.kd_token.proofs.Read.{parts_spelled}
use Rattle.kd_token.proofs.Told.{spelled_both}

-- two fields have the same length and the same faults
abbrev Alike : Part → Part → Type 0
Alike a b = (length a.bytes ≡ length b.bytes) × (a.cut ≡ b.cut) × (a.wrong ≡ b.wrong)

-- the first fields of two lists are alike, and if they have the same bytes, so are the lists after
-- them
abbrev AreTwins : List Part → List Part → Type 0
AreTwins [] [] = Unit {0}
AreTwins (a ∷ r) (b ∷ s) = Alike a b × (a.bytes ≡ b.bytes → AreTwins r s)
AreTwins r s = ⊥

twins_append : (r s t u : List Part) → AreTwins r s → (bytes_of_parts r ≡ bytes_of_parts s → AreTwins t u) → AreTwins (r ++ t) (s ++ u)
twins_append [] [] t u h k = k refl
twins_append [] (b ∷ s) t u h k = absurd h
twins_append (a ∷ r) [] t u h k = absurd h
twins_append (a ∷ r) (b ∷ s) t u h k = (h.0, λ e. twins_append r s t u (h.1 e) (λ f. k (ap (λ x. x ++ bytes_of_parts r) e ∙ ap (λ y. b.bytes ++ y) f)))

one_same : (x y : ℕ) → x ∷ [] ≡ y ∷ [] → x ≡ y
one_same x y e = ap (λ l. get_or l 0 0) e

two_back : (x : ℕ) → x < 2 ^ 16 → big_number 2 (big_bytes 2 x) ≡ x
two_back x fits =
    let back = from_be_bytes-to_be_bytes_2 x fits in
    omega (arith, back)

two_same : (x y : ℕ) → x < 2 ^ 16 → y < 2 ^ 16 → big_bytes 2 x ≡ big_bytes 2 y → x ≡ y
two_same x y few less e = sym (two_back x few) ∙ ap (big_number 2) e ∙ two_back y less

-- names
name_twins : (n m : List ℕ) → AreTwins (name_parts n) (name_parts m)
name_twins n m = ((refl, refl, refl), λ e. ((one_same (length n) (length m) e, refl, refl), λ f. tt))

names_twins : (ns ms : List (List ℕ)) → length ns ≡ length ms → AreTwins (flat_map name_parts ns) (flat_map name_parts ms)
names_twins [] [] e = tt
names_twins [] (m ∷ ms) e = absurd (omega (arith, e))
names_twins (n ∷ ns) [] e = absurd (omega (arith, e))
names_twins (n ∷ ns) (m ∷ ms) e = twins_append (name_parts n) (name_parts m) (flat_map name_parts ns) (flat_map name_parts ms) (name_twins n m) (λ f. names_twins ns ms (omega (arith, e)))

-- the operands that an opcode has
data Format : Type 0 where
  plain : Format
  number : ℕ → Format
  known : ℕ → Format
  text : Format
  slice : Format

abbrev IsOf : Format → List Part → Type 0
IsOf plain row = row ≡ []
IsOf (number n) row = (bytes : List ℕ) × (length bytes ≡ n) × (row ≡ free bytes ∷ [])
IsOf (known n) row = (bytes : List ℕ) × (length bytes ≡ n) × (row ≡ operand bytes ∷ [])
IsOf text row = (bytes : List ℕ) × (length bytes < 2 ^ 16) × (row ≡ free (big_bytes 2 (length bytes)) ∷ free bytes ∷ [])
IsOf slice row = (start : ℤ) × (count : Option ℤ) × (row ≡ free (signed_bytes start) ∷ count_parts count)

counts_twins : (a b : Option ℤ) → AreTwins (count_parts a) (count_parts b)
counts_twins None None = ((refl, refl, refl), λ e. tt)
counts_twins None (Some b) = ((refl, refl, refl), λ e. absurd (let f = one_same 1 0 e in omega (arith, f)))
counts_twins (Some a) None = ((refl, refl, refl), λ e. absurd (let f = one_same 0 1 e in omega (arith, f)))
counts_twins (Some a) (Some b) = ((refl, refl, refl), λ e. ((refl, refl, refl), λ f. tt))

of_twins : (k : Format) (r s : List Part) → IsOf k r → IsOf k s → AreTwins r s
of_twins plain r s f g = rw (f, g) tt
of_twins (number n) r s f g = rw (f.2, g.2) ((f.1 ∙ sym g.1, refl, refl), λ e. tt)
of_twins (known n) r s f g = rw (f.2, g.2) ((f.1 ∙ sym g.1, refl, refl), λ e. tt)
of_twins text r s f g = rw (f.2, g.2) ((refl, refl, refl), λ e. ((two_same (length f.0) (length g.0) f.1 g.1 e, refl, refl), λ d. tt))
of_twins slice r s f g = rw (f.2, g.2) ((refl, refl, refl), λ e. counts_twins f.1 g.1)

abbrev format_of : ℕ → Format
format_of x =
    if x == 0x01 then text
    else if x == 0x02 then number 4
    else if x == 0x03 then number 1
    else if x == 0x04 then number 1
    else if x == 0x05 then known 1
    else if x == 0x06 then number 1
    else if x == 0x07 then number 1
    else if x == 0x08 then number 1
    else if x == 0x0e then slice
    else if x == 0x20 then known 2
    else if x == 0x21 then known 2
    else if x == 0x22 then known 2
    else if x == 0x23 then known 2
    else plain

-- a token's first byte says which operands it has
abbrev HasFormat : Token → Type 0
HasFormat t = (opcode : ℕ) × (take 1 (token_bytes t) ≡ opcode ∷ []) × IsOf (format_of opcode) (operand_parts t)

has_format : (version : Version) (left : ℕ) (t : Token) → IsToken version left t → HasFormat t
has_format version left (tokens.PushBytes bytes) is = (0x01, refl, (bytes, is, refl))
has_format version left (tokens.PushInt x) is = (0x02, refl, (big_bytes 4 x, refl, refl))
has_format version left (tokens.PushOption x) is = (0x03, refl, (x ∷ [], refl, refl))
has_format version left (tokens.PushRelay x) is = (0x04, refl, (x ∷ [], refl, refl))
has_format version left (tokens.PushField x) is = (0x05, refl, (field_number x ∷ [], refl, refl))
has_format version left (tokens.OptionExists x) is = (0x06, refl, (x ∷ [], refl, refl))
has_format version left (tokens.RelayExists x) is = (0x07, refl, (x ∷ [], refl, refl))
has_format version left (tokens.Member x) is = (0x08, refl, (x ∷ [], refl, refl))
has_format version left tokens.Equal is = (0x09, refl, refl)
has_format version left tokens.Not is = (0x0a, refl, refl)
has_format version left tokens.And is = (0x0b, refl, refl)
has_format version left tokens.Or is = (0x0c, refl, refl)
has_format version left tokens.IfElse is = (0x0d, refl, refl)
has_format version left (tokens.Substring start count) is = (0x0e, refl, (start, count, refl))
has_format version left tokens.Concat is = (0x0f, refl, refl)
has_format version left tokens.HexString is = (0x10, refl, refl)
has_format version left tokens.Lower is = (0x11, refl, refl)
has_format version left tokens.Upper is = (0x12, refl, refl)
has_format version left tokens.IntToText is = (0x13, refl, refl)
has_format version left tokens.IntBytes is = (0x14, refl, refl)
has_format version left (tokens.Branch x) is = (0x20, refl, (big_bytes 2 x, refl, refl))
has_format version left (tokens.PopBranchFalse x) is = (0x21, refl, (big_bytes 2 x, refl, refl))
has_format version left (tokens.BranchFalseElsePop x) is = (0x22, refl, (big_bytes 2 x, refl, refl))
has_format version left (tokens.BranchTrueElsePop x) is = (0x23, refl, (big_bytes 2 x, refl, refl))

-- tokens
token_twins : (t u : Token) → HasFormat t → HasFormat u → AreTwins (token_parts t) (token_parts u)
token_twins t u f g = (
  (ap length f.1 ∙ sym (ap length g.1), refl, refl),
  λ e.
      let same : f.0 ≡ g.0 = one_same f.0 g.0 (sym f.1 ∙ e ∙ g.1) in
      let P : ℕ → Type 0 = λ x. IsOf (format_of x) (operand_parts t) in
      of_twins (format_of g.0) (operand_parts t) (operand_parts u) (subst P same f.2) g.2,
)

tokens_twins : (v w : Version) (ts us : List Token) → AreTokens v ts → AreTokens w us → length ts ≡ length us → AreTwins (flat_map token_parts ts) (flat_map token_parts us)
tokens_twins v w [] [] f g e = tt
tokens_twins v w [] (u ∷ us) f g e = absurd (omega (arith, e))
tokens_twins v w (t ∷ ts) [] f g e = absurd (omega (arith, e))
tokens_twins v w (t ∷ ts) (u ∷ us) f g e =
    twins_append (token_parts t) (token_parts u) (flat_map token_parts ts) (flat_map token_parts us)
    (token_twins t u (has_format v (length ts) t f.0) (has_format w (length us) u g.0))
    (λ d. tokens_twins v w ts us f.1 g.1 (omega (arith, e)))

-- the fields of two files
later_twins : (p q : Code) → HasFile p → HasFile q → AreTwins (later_parts p) (later_parts q)
later_twins p q f g = ((refl, refl, refl), λ v. ((refl, refl, refl), λ s. ((refl, refl, refl), λ d. ((refl, refl, refl), λ b. ((refl, refl, refl), λ n. names (one_same (length p.names) (length q.names) n)))))) where
  count : Code → Part
  count c = limited (big_bytes 2 (length c.tokens))

  tokens : big_bytes 2 (length p.tokens) ≡ big_bytes 2 (length q.tokens) → AreTwins (flat_map token_parts p.tokens) (flat_map token_parts q.tokens)
  tokens e = tokens_twins p.version q.version p.tokens q.tokens f.tokens g.tokens (two_same (length p.tokens) (length q.tokens) (omega (arith, f.few_tokens)) (omega (arith, g.few_tokens)) e)

  names : length p.names ≡ length q.names → AreTwins (flat_map name_parts p.names ++ (count p ∷ flat_map token_parts p.tokens)) (flat_map name_parts q.names ++ (count q ∷ flat_map token_parts q.tokens))
  names e = twins_append (flat_map name_parts p.names) (flat_map name_parts q.names) (count p ∷ flat_map token_parts p.tokens) (count q ∷ flat_map token_parts q.tokens) (names_twins p.names q.names e) (λ d. ((refl, refl, refl), tokens))

file_twins : (p q : Code) → HasFile p → HasFile q → AreTwins (parts p) (parts q)
file_twins p q f g = ((refl, refl, refl), λ e. later_twins p q f g)

-- if the first fields of two lists have the same length and the same bytes follow, they are the
-- same
front_same : (p q x y : List ℕ) → length p ≡ length q → p ++ x ≡ q ++ y → p ≡ q
front_same p q x y len e = sym (take_at p x (length p) refl) ∙ ap (take (length p)) e ∙ take_at q y (length p) (sym len)

module _ (a b : Part) (r s : List Part) (x y : List ℕ) (len : length a.bytes ≡ length b.bytes) (e : bytes_of_parts (a ∷ r) ++ x ≡ bytes_of_parts (b ∷ s) ++ y) where
  split : a.bytes ++ (bytes_of_parts r ++ x) ≡ b.bytes ++ (bytes_of_parts s ++ y)
  split = sym (append_assoc a.bytes (bytes_of_parts r) x) ∙ e ∙ append_assoc b.bytes (bytes_of_parts s) y

  head_same : a.bytes ≡ b.bytes
  head_same = front_same a.bytes b.bytes (bytes_of_parts r ++ x) (bytes_of_parts s ++ y) len split

  tail_same : bytes_of_parts r ++ x ≡ bytes_of_parts s ++ y
  tail_same = append_cancel_left b.bytes (bytes_of_parts r ++ x) (bytes_of_parts s ++ y) (ap (λ l. l ++ (bytes_of_parts r ++ x)) (sym head_same) ∙ split)

-- the number of bytes of a list
abbrev size : List Part → ℕ
size r = length (bytes_of_parts r)

-- of two places in bytes at which fields come next, either they are the same, or one is past the
-- other's field
abbrev ArePlaces : List Part → Part → List Part → Part → Type 0
ArePlaces r n s m = ((size r ≡ size s) × Alike n m) ⊎ ((size r + length n.bytes ≤ size s) ⊎ (size s + length m.bytes ≤ size r))

places : (r : List Part) (n : Part) (t s : List Part) (m : Part) (u : List Part) (x y : List ℕ) → AreTwins (r ++ n ∷ t) (s ++ m ∷ u) → bytes_of_parts r ++ x ≡ bytes_of_parts s ++ y → ArePlaces r n s m
places [] n t [] m u x y h e = inl (refl, h.0)
places [] n t (b ∷ s) m u x y h e = let l = h.0.0 in inr (inl (omega (arith, l, length-append b.bytes (bytes_of_parts s))))
places (a ∷ r) n t [] m u x y h e = let l = h.0.0 in inr (inr (omega (arith, l, length-append a.bytes (bytes_of_parts r))))
places (a ∷ r) n t (b ∷ s) m u x y h e = more (places r n t s m u x y (h.1 (head_same a b r s x y h.0.0 e)) (tail_same a b r s x y h.0.0 e)) where
  len : length a.bytes ≡ length b.bytes
  len = h.0.0

  whole : size (a ∷ r) ≡ length a.bytes + size r
  whole = length-append a.bytes (bytes_of_parts r)

  other : size (b ∷ s) ≡ length b.bytes + size s
  other = length-append b.bytes (bytes_of_parts s)

  more : ArePlaces r n s m → ArePlaces (a ∷ r) n (b ∷ s) m
  more (inl p) = let same = p.0 in inl (omega (arith, same, len, whole, other), p.1)
  more (inr (inl le)) = inr (inl (omega (arith, le, len, whole, other)))
  more (inr (inr le)) = inr (inr (omega (arith, le, len, whole, other)))

-- a field that comes next within a whole file's bytes ends within them
within : (r s : List Part) (m : Part) (u : List Part) (x y : List ℕ) → AreTwins r (s ++ m ∷ u) → bytes_of_parts r ++ x ≡ bytes_of_parts s ++ y → size s + length m.bytes ≤ size r
within [] [] m u x y h e = absurd h
within [] (b ∷ s) m u x y h e = absurd h
within (a ∷ r) [] m u x y h e = let l = h.0.0 in omega (arith, l, length-append a.bytes (bytes_of_parts r))
within (a ∷ r) (b ∷ s) m u x y h e =
    let le = within r s m u x y (h.1 (head_same a b r s x y h.0.0 e)) (tail_same a b r s x y h.0.0 e) in
    let l = h.0.0 in
    omega (arith, le, l, length-append a.bytes (bytes_of_parts r), length-append b.bytes (bytes_of_parts s))

-- two whole files before the same bytes have the same length
as_long : (r s : List Part) (x y : List ℕ) → AreTwins r s → bytes_of_parts r ++ x ≡ bytes_of_parts s ++ y → size r ≡ size s
as_long [] [] x y h e = refl
as_long [] (b ∷ s) x y h e = absurd h
as_long (a ∷ r) [] x y h e = absurd h
as_long (a ∷ r) (b ∷ s) x y h e =
    let same = as_long r s x y (h.1 (head_same a b r s x y h.0.0 e)) (tail_same a b r s x y h.0.0 e) in
    let l = h.0.0 in
    omega (arith, same, l, length-append a.bytes (bytes_of_parts r), length-append b.bytes (bytes_of_parts s))

-- the fault of the field that comes next at a place
abbrev IsNextFault : List ℕ → ℕ → Part → FileFault → Type 0
IsNextFault w at next f =
    ((length w < at + length next.bytes) × (f ≡ next.cut at))
    ⊎ ((at + length next.bytes ≤ length w) × BeginsNone (take (at + length next.bytes) w) × (f ≡ next.wrong at))

-- a file continues past the field, or ends within these bytes after it
no_fault : (w : List ℕ) (at : ℕ) (next : Part) (f : FileFault) (m : ℕ) (more : List ℕ) (p : Code) → at + length next.bytes ≤ m → m ≤ length w → take m w ++ more ≡ file_bytes p → HasFile p → IsNextFault w at next f → ⊥
no_fault w at next f m more p le few e has (inl h) = let l = h.0 in omega (arith, l, le, few)
no_fault w at next f m more p le few e has (inr h) = h.1 p (drop k (take m w) ++ more) (record {
  spelled = sym (append_assoc (take k w) (drop k (take m w)) more) ∙ ap (λ l. l ++ more) (ap (λ l. l ++ drop k (take m w)) (sym (take-take k m w le)) ∙ take-append-drop k (take m w)) ∙ e;
  limits = has;
}) where
  k : ℕ
  k = at + length next.bytes

-- the field that comes next belongs to a file that begins so
goes_on : (w : List ℕ) (at : ℕ) (next : Part) (c : ComesNext w at next) → take at w ++ bytes_of_parts (next ∷ c.after) ≡ file_bytes c.file
goes_on w at next c = ap (λ l. l ++ bytes_of_parts (next ∷ c.after)) c.same ∙ sym (spelled_both c.before (next ∷ c.after)) ∙ ap bytes_of_parts (sym c.fields) ∙ parts_spelled c.file

-- the bytes before the place, and the others
front_of : (w : List ℕ) (at : ℕ) (next : Part) (c : ComesNext w at next) → bytes_of_parts c.before ++ drop at w ≡ w
front_of w at next c = ap (λ l. l ++ drop at w) (sym c.same) ∙ take-append-drop at w

place_of_next : (w : List ℕ) (at : ℕ) (next : Part) (c : ComesNext w at next) → at ≡ size c.before
place_of_next w at next c = sym (length-take-le at w c.within) ∙ ap length c.same

-- two such faults are the same
one_next : (w : List ℕ) (i j : ℕ) (n m : Part) (f g : FileFault) → ComesNext w i n → ComesNext w j m → IsNextFault w i n f → IsNextFault w j m g → f ≡ g
one_next w i j n m f g c d h k = by (places c.before n c.after d.before m d.after (drop i w) (drop j w) twins (front_of w i n c ∙ sym (front_of w j m d))) where
  twins : AreTwins (c.before ++ n ∷ c.after) (d.before ++ m ∷ d.after)
  twins = let P : List Part → Type 0 = λ l. AreTwins l (d.before ++ m ∷ d.after) in subst P c.fields (let Q : List Part → Type 0 = λ l. AreTwins (parts c.file) l in subst Q d.fields (file_twins c.file d.file c.limits d.limits))

  first : i ≡ size c.before
  first = place_of_next w i n c

  second : j ≡ size d.before
  second = place_of_next w j m d

  same : i ≡ j → Alike n m → IsNextFault w i n f → IsNextFault w j m g → f ≡ g
  same e alike (inl a) (inl b) = a.1 ∙ ap n.cut e ∙ ap (λ cut. cut j) alike.1 ∙ sym b.1
  same e alike (inl a) (inr b) = let l = a.0 in let r = b.0 in let s = alike.0 in absurd (omega (arith, e, l, r, s))
  same e alike (inr a) (inl b) = let l = a.0 in let r = b.0 in let s = alike.0 in absurd (omega (arith, e, l, r, s))
  same e alike (inr a) (inr b) = a.2 ∙ ap n.wrong e ∙ ap (λ wrong. wrong j) alike.2 ∙ sym b.2

  by : ArePlaces c.before n d.before m → f ≡ g
  by (inl p) = let e = p.0 in same (omega (arith, e, first, second)) p.1 h k
  by (inr (inl le)) = absurd (no_fault w i n f j (bytes_of_parts (m ∷ d.after)) d.file (omega (arith, le, first, second)) d.within (goes_on w j m d) d.limits h)
  by (inr (inr le)) = absurd (no_fault w j m g i (bytes_of_parts (n ∷ c.after)) c.file (omega (arith, le, first, second)) c.within (goes_on w i n c) c.limits k)

-- bytes after a whole file
file_front : (w : List ℕ) (at : ℕ) (p : Code) → IsFileOf (take at w) p → bytes_of_parts (parts p) ++ drop at w ≡ w
file_front w at p is = ap (λ l. l ++ drop at w) (parts_spelled p ∙ sym is.spelled) ∙ take-append-drop at w

file_size : (w : List ℕ) (at : ℕ) (p : Code) → IsFileOf (take at w) p → at ≤ length w → at ≡ size (parts p)
file_size w at p is le = sym (length-take-le at w le) ∙ ap length (is.spelled ∙ sym (parts_spelled p))

-- a whole file has no fault of a field
no_next : (w : List ℕ) (i j : ℕ) (p : Code) (n : Part) (f : FileFault) → IsFileOf (take i w) p → i < length w → ComesNext w j n → IsNextFault w j n f → ⊥
no_next w i j p n f is less c h = no_fault w j n f i [] p le (omega (arith, less)) (append_nil_is ∙ is.spelled) is.limits h where
  append_nil_is : take i w ++ [] ≡ take i w
  append_nil_is = append-nil (take i w)

  twins : AreTwins (parts p) (c.before ++ n ∷ c.after)
  twins = let Q : List Part → Type 0 = λ l. AreTwins (parts p) l in subst Q c.fields (file_twins p c.file is.limits c.limits)

  le : j + length n.bytes ≤ i
  le =
      let fits = within (parts p) c.before n c.after (drop i w) (drop j w) twins (file_front w i p is ∙ sym (front_of w j n c)) in
      omega (arith, fits, place_of_next w j n c, file_size w i p is (omega (arith, less)))

-- two ends of whole files are the same
one_end : (w : List ℕ) (i j : ℕ) (p q : Code) → IsFileOf (take i w) p → IsFileOf (take j w) q → i < length w → j < length w → i ≡ j
one_end w i j p q is other less few =
    let e = as_long (parts p) (parts q) (drop i w) (drop j w) (file_twins p q is.limits other.limits) (file_front w i p is ∙ sym (file_front w j q other)) in
    omega (arith, e, file_size w i p is (omega (arith, less)), file_size w j q other (omega (arith, few)))

-- a fault of the field that comes next, or bytes after a file
abbrev IsOneOf : List ℕ → FileFault → Type 0
IsOneOf w f = ((at : ℕ) × (next : Part) × ComesNext w at next × IsNextFault w at next f) ⊎ IsRestFault w f

sorted : (w : List ℕ) (f : FileFault) → IsFileFault w f → IsOneOf w f
sorted w f (inl h) = inl (h.0, h.1, h.2, inl (h.3, h.4))
sorted w f (inr (inl h)) = inl (h.0, h.1, h.2, inr (h.3, h.4, h.5))
sorted w f (inr (inr h)) = inr h

-- bytes have only one first fault
pub one_fault : HaveOneFault
one_fault w f g h k = by (sorted w f h) (sorted w g k) where
  by : IsOneOf w f → IsOneOf w g → f ≡ g
  by (inl a) (inl b) = one_next w a.0 b.0 a.1 b.1 f g a.2 b.2 a.3 b.3
  by (inl a) (inr b) = absurd (no_next w b.0 a.0 b.1 a.1 f b.2 b.3 a.2 a.3)
  by (inr a) (inl b) = absurd (no_next w a.0 b.0 a.1 b.1 g a.2 a.3 b.2 b.3)
  by (inr a) (inr b) = a.4 ∙ ap faults.Rest (one_end w a.0 b.0 a.1 b.1 a.2 b.2 a.3 b.3) ∙ sym b.4
