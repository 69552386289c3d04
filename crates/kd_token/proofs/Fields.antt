-- The readers of a token file, in terms of its fields.
use Rattle.std.proofs.Common.{◌≡◌, ℕ, ℤ, zero, suc, ◌^◌, ◌<◌, ◌≤◌, Bool, true, false, List, [], ◌∷◌, length, Option, Some, None, refl, sym, ap, subst, ◌∙◌, arith, inl, inr}
use Rattle.std.specs.Prelude.{◌==◌, nat_lt, drop, replicate, if◌then◌else◌}
use Rattle.std.specs.List.{flat_map, AllByRecursion}
use Rattle.std.specs.Int.{w32}
use Rattle.std.specs.Int.RustNames.{FitsSigned}
use Rattle.std.proofs.lemmas.Bool.{ltb-false, eqb-true}
use Rattle.std.proofs.lemmas.List.{length-replicate}
use Rattle.byteorder.specs.Endian.{big_bytes}
use Rattle.kd_token.specs.declared.fault.FileFault.TheVariants as faults
use Rattle.kd_wire.specs.declared.field.Field.{Field}
use Rattle.kd_wire.specs.declared.field.Field.TheVariants as fields
use Rattle.kd_token.specs.declared.token.Token.{Token}
use Rattle.kd_token.specs.declared.token.Token.TheVariants as tokens
use Rattle.kd_token.specs.declared.token.Version.{Version}
use Rattle.kd_token.specs.declared.token.Version.TheVariants as versions
use Rattle.kd_token.specs.File.{Code, HasFile, IsName, IsToken, IsCount, AreTokens, code, signed_bytes, version_number}
use Rattle.kd_wire.specs.Field.{field_number}
use Rattle.kd_token.specs.Reading.{◌>>=◌, ReadStep, already, fault_where, known_or, bytes_next, number_next, limited_at, signed_at, version_of, version_at, name_at, names_at, all_names_at, long_at, field_numbered, field_at, count_after, count_at, substring_at, branch_at, plain_token, operands_at, token_at, tokens_at, all_tokens_at, fields_at}
use Rattle.kd_token.specs.FirstFault.{Part, part_with, free, limited, operand, name_parts, count_parts, token_parts, later_parts}
use Rattle.kd_token.proofs.Told.{Follows, Outcome, Row, Told, at_place, bind_told, bytes_told, field_told, four_told, gives_told, known, limited_told, makes_told, many_told, one_form, one_told, row_some, signed_told, tested, two_form, two_told, weaker}

version_back : (x : ℕ) (v : Version) → version_of x ≡ Some v → version_number v ≡ x
version_back x v = by (x == 1) refl (x == 2) refl where
  by : (a : Bool) → (x == 1) ≡ a → (b : Bool) → (x == 2) ≡ b → (if a then Some versions.One else if b then Some versions.Two else None) ≡ Some v → version_number v ≡ x
  by true e b f g = let is : versions.One ≡ v = cc in ap version_number (sym is) ∙ sym (eqb-true x 1 e)
  by false e true f g = let is : versions.Two ≡ v = cc in ap version_number (sym is) ∙ sym (eqb-true x 2 f)
  by false e false f g = absurd cc

version_told : Told version_at (λ v. part_with (λ at. faults.Version) (version_number v ∷ []) ∷ []) (λ v. Unit {0})
unfolding version_at
version_told = field_told 1 (λ x. x ∷ []) (λ x. x < 256) one_form (λ at. faults.Version) version_at (λ at x. known_or faults.Version (version_of x)) text (λ v. Unit {0}) (λ w l. refl)
    (λ x fits. known (version_of x) (λ at. faults.Version) (λ v. []) (Follows text (λ v. Unit {0}) (part_with (λ at. faults.Version) (x ∷ []) ∷ []) (λ v. [])) (λ v e. (refl, (ap (λ y. part_with (λ at. faults.Version) (y ∷ []) ∷ []) (version_back x v e), tt)))) 1 versions.One (refl, tt) where
      text : Version → List Part
      text v = part_with (λ at. faults.Version) (version_number v ∷ []) ∷ []

name_told : Told name_at name_parts IsName
unfolding name_at
name_told = field_told 1 (λ x. x ∷ []) (λ x. x < 256) one_form faults.Operand name_at next name_parts IsName (at_place 1 next)
    (λ size fits. tested (size == 0) faults.Operand (bytes_next size) (λ b. free b ∷ []) (Is size) (λ e. weaker (bytes_next size) (λ b. free b ∷ []) (λ b. length b ≡ size) (Is size) (λ b len. is size b fits e len) (bytes_told size))) 1 (0 ∷ []) (refl, (omega arith, omega arith)) where
      next : ℕ → ℕ → ReadStep (List ℕ)
      next at size = fault_where (size == 0) (faults.Operand at) >>= λ _. bytes_next size

      Is : ℕ → List ℕ → Type 0
      Is size = Follows name_parts IsName (operand (size ∷ []) ∷ []) (λ b. free b ∷ [])

      is : (size : ℕ) (b : List ℕ) → size < 256 → (size == 0) ≡ false → length b ≡ size → Is size b
      is size b fits e len =
          let some : 1 ≤ size = positive size e in
          (ap (λ n. operand (n ∷ []) ∷ free b ∷ []) len, (omega (arith, some, len), omega (arith, fits, len))) where
            positive : (n : ℕ) → (n == 0) ≡ false → 1 ≤ n
            positive zero e = absurd cc
            positive (suc n) e = omega arith

names_row : (n : ℕ) (l : List (List ℕ)) → Row (λ k. IsName) n l → AllByRecursion IsName l × (length l ≡ n)
names_row zero l e = subst (λ k. AllByRecursion IsName k × (length k ≡ 0)) (sym e) (tt, refl)
names_row (suc n) l row =
    let h = names_row n row.1 row.4 in
    subst (λ k. AllByRecursion IsName k × (length k ≡ suc n)) (sym row.2) ((row.3, h.0), ap suc h.1)

tokens_row : (v : Version) (n : ℕ) (l : List Token) → Row (λ k t. IsToken v k t) n l → AreTokens v l × (length l ≡ n)
tokens_row v zero l e = subst (λ k. AreTokens v k × (length k ≡ 0)) (sym e) (tt, refl)
tokens_row v (suc n) l row =
    let h = tokens_row v n row.1 row.4 in
    subst (λ k. AreTokens v k × (length k ≡ suc n)) (sym row.2) ((subst (λ k. IsToken v k row.0) (sym h.1) row.3, h.0), ap suc h.1)

all_names_told : Told all_names_at (λ names. limited (length names ∷ []) ∷ flat_map name_parts names) (λ names. (length names ≤ 64) × AllByRecursion IsName names)
unfolding all_names_at
all_names_told = bind_told (limited_at 1 64) names_at (λ x. limited (x ∷ []) ∷ []) (λ x. x ≤ 64) (λ x. flat_map name_parts) text Good (limited_told 1 (λ x. x ∷ []) (λ x. x < 256) one_form 64)
    (λ x few. weaker (names_at x) (flat_map name_parts) (Row (λ k. IsName) x) (Follows text Good (limited (x ∷ []) ∷ []) (flat_map name_parts)) (λ l row. is x l few row) (many_told (λ behind. name_at) name_parts (λ k. IsName) (λ k. name_told) some x))
    (λ x few.
    let l = row_some (λ k. IsName) some x in
    (l.0, is x l.0 few l.1)) where
      text : List (List ℕ) → List Part
      text names = limited (length names ∷ []) ∷ flat_map name_parts names

      Good : List (List ℕ) → Type 0
      Good names = (length names ≤ 64) × AllByRecursion IsName names

      some : (n : ℕ) → (x : List ℕ) × IsName x
      some n = (0 ∷ [], (omega arith, omega arith))

      is : (x : ℕ) (l : List (List ℕ)) → x ≤ 64 → Row (λ k. IsName) x l → Follows text Good (limited (x ∷ []) ∷ []) (flat_map name_parts) l
      is x l few row =
          let h = names_row x l row in
          (ap (λ n. limited (n ∷ []) ∷ flat_map name_parts l) h.1, (omega (arith, few, h.1), h.0))

long_told : Told long_at (λ b. free (big_bytes 2 (length b)) ∷ free b ∷ []) (λ b. length b < 2 ^ 16)
unfolding long_at
long_told = bind_told (number_next 2) bytes_next (λ x. free (big_bytes 2 x) ∷ []) (λ x. x < 2 ^ 16) (λ x b. free b ∷ []) text Good two_told
    (λ x fits. weaker (bytes_next x) (λ b. free b ∷ []) (λ b. length b ≡ x) (Follows text Good (free (big_bytes 2 x) ∷ []) (λ b. free b ∷ [])) (λ b len. is x b fits len) (bytes_told x))
    (λ x fits. (replicate x 0, is x (replicate x 0) fits (length-replicate {A = ℕ} x 0))) where
      text : List ℕ → List Part
      text b = free (big_bytes 2 (length b)) ∷ free b ∷ []

      Good : List ℕ → Type 0
      Good b = length b < 2 ^ 16

      is : (x : ℕ) (b : List ℕ) → x < 2 ^ 16 → length b ≡ x → Follows text Good (free (big_bytes 2 x) ∷ []) (λ b. free b ∷ []) b
      is x b fits len = (ap (λ n. free (big_bytes 2 n) ∷ free b ∷ []) len, omega (arith, fits, len))

field_back : (x : ℕ) (f : Field) → field_numbered x ≡ Some f → field_number f ≡ x
unfolding field_numbered
field_back x f = by0 (x == 0) refl where
  by9 : (a : Bool) → (x == 9) ≡ a → (if a then Some fields.Length else None) ≡ Some f → field_number f ≡ x
  by9 true e = λ g. let is : fields.Length ≡ f = cc in ap field_number (sym is) ∙ sym (eqb-true x 9 e)
  by9 false e = λ g. absurd cc

  by8 : (a : Bool) → (x == 8) ≡ a → (if a then Some fields.Transaction else if x == 9 then Some fields.Length else None) ≡ Some f → field_number f ≡ x
  by8 true e = λ g. let is : fields.Transaction ≡ f = cc in ap field_number (sym is) ∙ sym (eqb-true x 8 e)
  by8 false e = by9 (x == 9) refl

  by7 : (a : Bool) → (x == 7) ≡ a → (if a then Some fields.MessageType else if x == 8 then Some fields.Transaction else if x == 9 then Some fields.Length else None) ≡ Some f → field_number f ≡ x
  by7 true e = λ g. let is : fields.MessageType ≡ f = cc in ap field_number (sym is) ∙ sym (eqb-true x 7 e)
  by7 false e = by8 (x == 8) refl

  by6 : (a : Bool) → (x == 6) ≡ a → (if a then Some fields.Siaddr else if x == 7 then Some fields.MessageType else if x == 8 then Some fields.Transaction else if x == 9 then Some fields.Length else None) ≡ Some f → field_number f ≡ x
  by6 true e = λ g. let is : fields.Siaddr ≡ f = cc in ap field_number (sym is) ∙ sym (eqb-true x 6 e)
  by6 false e = by7 (x == 7) refl

  by5 : (a : Bool) → (x == 5) ≡ a → (if a then Some fields.Yiaddr else if x == 6 then Some fields.Siaddr else if x == 7 then Some fields.MessageType else if x == 8 then Some fields.Transaction else if x == 9 then Some fields.Length else None) ≡ Some f → field_number f ≡ x
  by5 true e = λ g. let is : fields.Yiaddr ≡ f = cc in ap field_number (sym is) ∙ sym (eqb-true x 5 e)
  by5 false e = by6 (x == 6) refl

  by4 : (a : Bool) → (x == 4) ≡ a → (if a then Some fields.Giaddr else if x == 5 then Some fields.Yiaddr else if x == 6 then Some fields.Siaddr else if x == 7 then Some fields.MessageType else if x == 8 then Some fields.Transaction else if x == 9 then Some fields.Length else None) ≡ Some f → field_number f ≡ x
  by4 true e = λ g. let is : fields.Giaddr ≡ f = cc in ap field_number (sym is) ∙ sym (eqb-true x 4 e)
  by4 false e = by5 (x == 5) refl

  by3 : (a : Bool) → (x == 3) ≡ a → (if a then Some fields.Ciaddr else if x == 4 then Some fields.Giaddr else if x == 5 then Some fields.Yiaddr else if x == 6 then Some fields.Siaddr else if x == 7 then Some fields.MessageType else if x == 8 then Some fields.Transaction else if x == 9 then Some fields.Length else None) ≡ Some f → field_number f ≡ x
  by3 true e = λ g. let is : fields.Ciaddr ≡ f = cc in ap field_number (sym is) ∙ sym (eqb-true x 3 e)
  by3 false e = by4 (x == 4) refl

  by2 : (a : Bool) → (x == 2) ≡ a → (if a then Some fields.Htype else if x == 3 then Some fields.Ciaddr else if x == 4 then Some fields.Giaddr else if x == 5 then Some fields.Yiaddr else if x == 6 then Some fields.Siaddr else if x == 7 then Some fields.MessageType else if x == 8 then Some fields.Transaction else if x == 9 then Some fields.Length else None) ≡ Some f → field_number f ≡ x
  by2 true e = λ g. let is : fields.Htype ≡ f = cc in ap field_number (sym is) ∙ sym (eqb-true x 2 e)
  by2 false e = by3 (x == 3) refl

  by1 : (a : Bool) → (x == 1) ≡ a → (if a then Some fields.Hlen else if x == 2 then Some fields.Htype else if x == 3 then Some fields.Ciaddr else if x == 4 then Some fields.Giaddr else if x == 5 then Some fields.Yiaddr else if x == 6 then Some fields.Siaddr else if x == 7 then Some fields.MessageType else if x == 8 then Some fields.Transaction else if x == 9 then Some fields.Length else None) ≡ Some f → field_number f ≡ x
  by1 true e = λ g. let is : fields.Hlen ≡ f = cc in ap field_number (sym is) ∙ sym (eqb-true x 1 e)
  by1 false e = by2 (x == 2) refl

  by0 : (a : Bool) → (x == 0) ≡ a → (if a then Some fields.Mac else if x == 1 then Some fields.Hlen else if x == 2 then Some fields.Htype else if x == 3 then Some fields.Ciaddr else if x == 4 then Some fields.Giaddr else if x == 5 then Some fields.Yiaddr else if x == 6 then Some fields.Siaddr else if x == 7 then Some fields.MessageType else if x == 8 then Some fields.Transaction else if x == 9 then Some fields.Length else None) ≡ Some f → field_number f ≡ x
  by0 true e = λ g. let is : fields.Mac ≡ f = cc in ap field_number (sym is) ∙ sym (eqb-true x 0 e)
  by0 false e = by1 (x == 1) refl

read_field_told : Told field_at (λ f. operand (field_number f ∷ []) ∷ []) (λ f. Unit {0})
unfolding field_at
read_field_told = field_told 1 (λ x. x ∷ []) (λ x. x < 256) one_form faults.Operand field_at (λ at x. known_or (faults.Operand at) (field_numbered x)) text (λ f. Unit {0}) (at_place 1 (λ at x. known_or (faults.Operand at) (field_numbered x)))
    (λ x fits. known (field_numbered x) faults.Operand (λ f. []) (Follows text (λ f. Unit {0}) (operand (x ∷ []) ∷ []) (λ f. [])) (λ f e. (refl, (ap (λ y. operand (y ∷ []) ∷ []) (field_back x f e), tt)))) 0 fields.Mac (refl, tt) where
      text : Field → List Part
      text f = operand (field_number f ∷ []) ∷ []

count_told : Told count_at count_parts IsCount
unfolding count_at count_after
count_told = field_told 1 (λ x. x ∷ []) (λ x. x < 256) one_form faults.Operand count_at (λ at mode. count_after at mode) count_parts IsCount (at_place 1 (λ at mode. count_after at mode)) (λ x fits. by x (x == 1) refl (x == 0) refl) 1 None (refl, tt) where
  Is : ℕ → Option ℤ → Type 0
  Is x = Follows count_parts IsCount (operand (x ∷ []) ∷ []) (λ c. drop 1 (count_parts c))

  by : (x : ℕ) (a : Bool) → (x == 1) ≡ a → (b : Bool) → (x == 0) ≡ b → Outcome (λ y. y ∷ []) faults.Operand (λ at mode. count_after at mode) count_parts IsCount x
  by x true e b f = subst (Outcome (λ y. y ∷ []) faults.Operand (λ at mode. count_after at mode) count_parts IsCount) (sym (eqb-true x 1 e)) (inr (λ at. gives_told None (λ c. drop 1 (count_parts c)) (Is 1) refl (refl, tt)))
  by x false e true f = subst (Outcome (λ y. y ∷ []) faults.Operand (λ at mode. count_after at mode) count_parts IsCount) (sym (eqb-true x 0 f)) (inr (λ at. makes_told Some signed_at (λ z. free (signed_bytes z) ∷ []) (FitsSigned w32) (λ c. drop 1 (count_parts c)) (Is 0) signed_told (λ z g. refl) (λ z g. (refl, g))))
  by x false e false f = inl (λ at r. rw (e, f) refl)

-- what remains of a token's fields after this opcode
abbrev Opened : Version → ℕ → ℕ → Token → Type 0
Opened version behind opcode = Follows token_parts (IsToken version behind) (part_with faults.Opcode (opcode ∷ []) ∷ []) (λ t. drop 1 (token_parts t))

substring_told : (version : Version) (behind : ℕ) → Told substring_at (λ t. drop 1 (token_parts t)) (Opened version behind 0x0e)
unfolding substring_at
substring_told version behind = bind_told signed_at (λ s. count_at >>= λ c. already (tokens.Substring s c)) (λ z. free (signed_bytes z) ∷ []) (FitsSigned w32) (λ s t. drop 2 (token_parts t)) (λ t. drop 1 (token_parts t)) (Opened version behind 0x0e) signed_told
    (λ s fits. makes_told (λ c. tokens.Substring s c) count_at count_parts IsCount (λ t. drop 2 (token_parts t)) (Follows (λ t. drop 1 (token_parts t)) (Opened version behind 0x0e) (free (signed_bytes s) ∷ []) (λ t. drop 2 (token_parts t))) count_told (λ c g. refl) (λ c g. (refl, (refl, (fits, g)))))
    (λ s fits. (tokens.Substring s None, (refl, (refl, (fits, tt)))))

branch_told : (behind : ℕ) → Told (branch_at behind) (λ d. operand (big_bytes 2 d) ∷ []) (λ d. d ≤ behind)
unfolding branch_at
branch_told behind = field_told 2 (big_bytes 2) (λ x. x < 2 ^ 16) two_form faults.Operand (branch_at behind) next text (λ d. d ≤ behind) (at_place 2 next)
    (λ x fits. tested (nat_lt behind x) faults.Operand (already x) (λ d. []) (Follows text (λ d. d ≤ behind) (operand (big_bytes 2 x) ∷ []) (λ d. [])) (λ e. gives_told x (λ d. []) (Follows text (λ d. d ≤ behind) (operand (big_bytes 2 x) ∷ []) (λ d. [])) refl (refl, ltb-false behind x e))) 0 0 (refl, omega arith) where
      next : ℕ → ℕ → ReadStep ℕ
      next at x = fault_where (nat_lt behind x) (faults.Operand at) >>= λ _. already x

      text : ℕ → List Part
      text d = operand (big_bytes 2 d) ∷ []

-- the rows of the table of operands
abbrev OfOpcode : Version → ℕ → ℕ → Type 0
OfOpcode version behind opcode = Outcome (λ x. x ∷ []) faults.Opcode (λ at o. operands_at version behind o at) token_parts (IsToken version behind) opcode

row_01 : (version : Version) (behind : ℕ) → OfOpcode version behind 0x01
unfolding operands_at plain_token
row_01 version behind = inr (λ at. makes_told tokens.PushBytes long_at (λ b. free (big_bytes 2 (length b)) ∷ free b ∷ []) (λ b. length b < 2 ^ 16) (λ t. drop 1 (token_parts t)) (Opened version behind 0x01) long_told (λ x g. refl) (λ x g. (refl, g)))

row_02 : (version : Version) (behind : ℕ) → OfOpcode version behind 0x02
unfolding operands_at plain_token
row_02 version behind = inr (λ at. makes_told tokens.PushInt (number_next 4) (λ x. free (big_bytes 4 x) ∷ []) (λ x. x < 2 ^ 32) (λ t. drop 1 (token_parts t)) (Opened version behind 0x02) four_told (λ x g. refl) (λ x g. (refl, g)))

row_03 : (version : Version) (behind : ℕ) → OfOpcode version behind 0x03
unfolding operands_at plain_token
row_03 version behind = inr (λ at. makes_told tokens.PushOption (number_next 1) (λ x. free (x ∷ []) ∷ []) (λ x. x < 256) (λ t. drop 1 (token_parts t)) (Opened version behind 0x03) one_told (λ x g. refl) (λ x g. (refl, tt)))

row_04 : (version : Version) (behind : ℕ) → OfOpcode version behind 0x04
unfolding operands_at plain_token
row_04 version behind = inr (λ at. makes_told tokens.PushRelay (number_next 1) (λ x. free (x ∷ []) ∷ []) (λ x. x < 256) (λ t. drop 1 (token_parts t)) (Opened version behind 0x04) one_told (λ x g. refl) (λ x g. (refl, tt)))

row_05 : (version : Version) (behind : ℕ) → OfOpcode version behind 0x05
unfolding operands_at plain_token
row_05 version behind = inr (λ at. makes_told tokens.PushField field_at (λ f. operand (field_number f ∷ []) ∷ []) (λ f. Unit {0}) (λ t. drop 1 (token_parts t)) (Opened version behind 0x05) read_field_told (λ x g. refl) (λ x g. (refl, tt)))

row_06 : (version : Version) (behind : ℕ) → OfOpcode version behind 0x06
unfolding operands_at plain_token
row_06 version behind = inr (λ at. makes_told tokens.OptionExists (number_next 1) (λ x. free (x ∷ []) ∷ []) (λ x. x < 256) (λ t. drop 1 (token_parts t)) (Opened version behind 0x06) one_told (λ x g. refl) (λ x g. (refl, tt)))

row_07 : (version : Version) (behind : ℕ) → OfOpcode version behind 0x07
unfolding operands_at plain_token
row_07 version behind = inr (λ at. makes_told tokens.RelayExists (number_next 1) (λ x. free (x ∷ []) ∷ []) (λ x. x < 256) (λ t. drop 1 (token_parts t)) (Opened version behind 0x07) one_told (λ x g. refl) (λ x g. (refl, tt)))

row_08 : (version : Version) (behind : ℕ) → OfOpcode version behind 0x08
unfolding operands_at plain_token
row_08 version behind = inr (λ at. makes_told tokens.Member (number_next 1) (λ x. free (x ∷ []) ∷ []) (λ x. x < 256) (λ t. drop 1 (token_parts t)) (Opened version behind 0x08) one_told (λ x g. refl) (λ x g. (refl, tt)))

row_09 : (version : Version) (behind : ℕ) → OfOpcode version behind 0x09
unfolding operands_at plain_token
row_09 version behind = inr (λ at. gives_told tokens.Equal (λ t. drop 1 (token_parts t)) (Opened version behind 0x09) refl (refl, tt))

row_0a : (version : Version) (behind : ℕ) → OfOpcode version behind 0x0a
unfolding operands_at plain_token
row_0a version behind = inr (λ at. gives_told tokens.Not (λ t. drop 1 (token_parts t)) (Opened version behind 0x0a) refl (refl, tt))

row_0b : (version : Version) (behind : ℕ) → OfOpcode version behind 0x0b
unfolding operands_at plain_token
row_0b version behind = inr (λ at. gives_told tokens.And (λ t. drop 1 (token_parts t)) (Opened version behind 0x0b) refl (refl, tt))

row_0c : (version : Version) (behind : ℕ) → OfOpcode version behind 0x0c
unfolding operands_at plain_token
row_0c version behind = inr (λ at. gives_told tokens.Or (λ t. drop 1 (token_parts t)) (Opened version behind 0x0c) refl (refl, tt))

row_0d : (version : Version) (behind : ℕ) → OfOpcode version behind 0x0d
unfolding operands_at plain_token
row_0d version behind = inr (λ at. gives_told tokens.IfElse (λ t. drop 1 (token_parts t)) (Opened version behind 0x0d) refl (refl, tt))

row_0e : (version : Version) (behind : ℕ) → OfOpcode version behind 0x0e
unfolding operands_at plain_token
row_0e version behind = inr (λ at. substring_told version behind)

row_0f : (version : Version) (behind : ℕ) → OfOpcode version behind 0x0f
unfolding operands_at plain_token
row_0f version behind = inr (λ at. gives_told tokens.Concat (λ t. drop 1 (token_parts t)) (Opened version behind 0x0f) refl (refl, tt))

row_10 : (version : Version) (behind : ℕ) → OfOpcode version behind 0x10
unfolding operands_at plain_token
row_10 version behind = inr (λ at. gives_told tokens.HexString (λ t. drop 1 (token_parts t)) (Opened version behind 0x10) refl (refl, tt))

row_11 : (version : Version) (behind : ℕ) → OfOpcode version behind 0x11
unfolding operands_at plain_token
row_11 version behind = inr (λ at. gives_told tokens.Lower (λ t. drop 1 (token_parts t)) (Opened version behind 0x11) refl (refl, tt))

row_12 : (version : Version) (behind : ℕ) → OfOpcode version behind 0x12
unfolding operands_at plain_token
row_12 version behind = inr (λ at. gives_told tokens.Upper (λ t. drop 1 (token_parts t)) (Opened version behind 0x12) refl (refl, tt))

row_13 : (version : Version) (behind : ℕ) → OfOpcode version behind 0x13
unfolding operands_at plain_token
row_13 version behind = inr (λ at. gives_told tokens.IntToText (λ t. drop 1 (token_parts t)) (Opened version behind 0x13) refl (refl, tt))

row_14 : (version : Version) (behind : ℕ) → OfOpcode version behind 0x14
unfolding operands_at plain_token
row_14 version behind = inr (λ at. gives_told tokens.IntBytes (λ t. drop 1 (token_parts t)) (Opened version behind 0x14) refl (refl, tt))

row_20 : (version : Version) (behind : ℕ) → OfOpcode version behind 0x20
unfolding operands_at plain_token
row_20 versions.One behind = inl (λ at r. refl)
row_20 versions.Two behind = inr (λ at. makes_told tokens.Branch (branch_at behind) (λ d. operand (big_bytes 2 d) ∷ []) (λ d. d ≤ behind) (λ t. drop 1 (token_parts t)) (Opened versions.Two behind 0x20) (branch_told behind) (λ d g. refl) (λ d g. (refl, g)))

row_21 : (version : Version) (behind : ℕ) → OfOpcode version behind 0x21
unfolding operands_at plain_token
row_21 versions.One behind = inl (λ at r. refl)
row_21 versions.Two behind = inr (λ at. makes_told tokens.PopBranchFalse (branch_at behind) (λ d. operand (big_bytes 2 d) ∷ []) (λ d. d ≤ behind) (λ t. drop 1 (token_parts t)) (Opened versions.Two behind 0x21) (branch_told behind) (λ d g. refl) (λ d g. (refl, g)))

row_22 : (version : Version) (behind : ℕ) → OfOpcode version behind 0x22
unfolding operands_at plain_token
row_22 versions.One behind = inl (λ at r. refl)
row_22 versions.Two behind = inr (λ at. makes_told tokens.BranchFalseElsePop (branch_at behind) (λ d. operand (big_bytes 2 d) ∷ []) (λ d. d ≤ behind) (λ t. drop 1 (token_parts t)) (Opened versions.Two behind 0x22) (branch_told behind) (λ d g. refl) (λ d g. (refl, g)))

row_23 : (version : Version) (behind : ℕ) → OfOpcode version behind 0x23
unfolding operands_at plain_token
row_23 versions.One behind = inl (λ at r. refl)
row_23 versions.Two behind = inr (λ at. makes_told tokens.BranchTrueElsePop (branch_at behind) (λ d. operand (big_bytes 2 d) ∷ []) (λ d. d ≤ behind) (λ t. drop 1 (token_parts t)) (Opened versions.Two behind 0x23) (branch_told behind) (λ d g. refl) (λ d g. (refl, g)))

-- one of these numbers, or none of them
abbrev IsNone : ℕ → List ℕ → Type 0
IsNone n [] = Unit {0}
IsNone n (k ∷ ks) = ((n == k) ≡ false) × IsNone n ks

this_or : (P : ℕ → Type 0) (n k : ℕ) → P k → ((n == k) ≡ false → P n) → P n
this_or P n k row other = by (n == k) refl where
  by : (test : Bool) → (n == k) ≡ test → P n
  by true e = subst P (sym (eqb-true n k e)) row
  by false e = other e

of_these : (P : ℕ → Type 0) (n : ℕ) (ks : List ℕ) → AllByRecursion P ks → (IsNone n ks → P n) → P n
of_these P n [] rows other = other tt
of_these P n (k ∷ ks) rows other = this_or P n k rows.0 (λ e. of_these P n ks rows.1 (λ none. other (e, none)))

abbrev opcodes : List ℕ
opcodes = 0x01 ∷ 0x02 ∷ 0x03 ∷ 0x04 ∷ 0x05 ∷ 0x06 ∷ 0x07 ∷ 0x08 ∷ 0x09 ∷ 0x0a ∷ 0x0b ∷ 0x0c ∷ 0x0d ∷ 0x0e ∷ 0x0f ∷ 0x10 ∷ 0x11 ∷ 0x12 ∷ 0x13 ∷ 0x14 ∷ 0x20 ∷ 0x21 ∷ 0x22 ∷ 0x23 ∷ []

no_opcode : (version : Version) (behind opcode : ℕ) → IsNone opcode opcodes → OfOpcode version behind opcode
unfolding operands_at plain_token
no_opcode version behind opcode o = inl (λ at r. rw (o.0, o.1.0, o.1.1.0, o.1.1.1.0, o.1.1.1.1.0, o.1.1.1.1.1.0, o.1.1.1.1.1.1.0, o.1.1.1.1.1.1.1.0, o.1.1.1.1.1.1.1.1.0, o.1.1.1.1.1.1.1.1.1.0, o.1.1.1.1.1.1.1.1.1.1.0, o.1.1.1.1.1.1.1.1.1.1.1.0, o.1.1.1.1.1.1.1.1.1.1.1.1.0, o.1.1.1.1.1.1.1.1.1.1.1.1.1.0, o.1.1.1.1.1.1.1.1.1.1.1.1.1.1.0, o.1.1.1.1.1.1.1.1.1.1.1.1.1.1.1.0, o.1.1.1.1.1.1.1.1.1.1.1.1.1.1.1.1.0, o.1.1.1.1.1.1.1.1.1.1.1.1.1.1.1.1.1.0, o.1.1.1.1.1.1.1.1.1.1.1.1.1.1.1.1.1.1.0, o.1.1.1.1.1.1.1.1.1.1.1.1.1.1.1.1.1.1.1.0, o.1.1.1.1.1.1.1.1.1.1.1.1.1.1.1.1.1.1.1.1.0, o.1.1.1.1.1.1.1.1.1.1.1.1.1.1.1.1.1.1.1.1.1.0, o.1.1.1.1.1.1.1.1.1.1.1.1.1.1.1.1.1.1.1.1.1.1.0, o.1.1.1.1.1.1.1.1.1.1.1.1.1.1.1.1.1.1.1.1.1.1.1.0) refl)

opcode_told : (version : Version) (behind opcode : ℕ) → OfOpcode version behind opcode
opcode_told version behind opcode =
    of_these (OfOpcode version behind) opcode opcodes
    (row_01 version behind, (row_02 version behind, (row_03 version behind, (row_04 version behind, (row_05 version behind, (row_06 version behind, (row_07 version behind, (row_08 version behind, (row_09 version behind, (row_0a version behind, (row_0b version behind, (row_0c version behind, (row_0d version behind, (row_0e version behind, (row_0f version behind, (row_10 version behind, (row_11 version behind, (row_12 version behind, (row_13 version behind, (row_14 version behind, (row_20 version behind, (row_21 version behind, (row_22 version behind, (row_23 version behind, tt))))))))))))))))))))))))
    (no_opcode version behind opcode)

token_told : (version : Version) (behind : ℕ) → Told (token_at version behind) token_parts (IsToken version behind)
unfolding token_at
token_told version behind = field_told 1 (λ x. x ∷ []) (λ x. x < 256) one_form faults.Opcode (token_at version behind) (λ at opcode. operands_at version behind opcode at) token_parts (IsToken version behind) (at_place 1 (λ at opcode. operands_at version behind opcode at))
    (λ opcode fits. opcode_told version behind opcode) 0x09 tokens.Equal (refl, tt)

all_tokens_told : (version : Version) → Told (all_tokens_at version) (λ list. limited (big_bytes 2 (length list)) ∷ flat_map token_parts list) (λ list. (length list ≤ 1024) × AreTokens version list)
unfolding all_tokens_at
all_tokens_told version = bind_told (limited_at 2 1024) (tokens_at version) (λ x. limited (big_bytes 2 x) ∷ []) (λ x. x ≤ 1024) (λ x. flat_map token_parts) text Good (limited_told 2 (big_bytes 2) (λ x. x < 2 ^ 16) two_form 1024)
    (λ x few. weaker (tokens_at version x) (flat_map token_parts) (Row (λ k t. IsToken version k t) x) (Follows text Good (limited (big_bytes 2 x) ∷ []) (flat_map token_parts)) (λ l row. is x l few row) (many_told (token_at version) token_parts (λ k t. IsToken version k t) (token_told version) some x))
    (λ x few.
    let l = row_some (λ k t. IsToken version k t) some x in
    (l.0, is x l.0 few l.1)) where
      text : List Token → List Part
      text list = limited (big_bytes 2 (length list)) ∷ flat_map token_parts list

      Good : List Token → Type 0
      Good list = (length list ≤ 1024) × AreTokens version list

      some : (n : ℕ) → (t : Token) × IsToken version n t
      some n = (tokens.Equal, tt)

      is : (x : ℕ) (l : List Token) → x ≤ 1024 → Row (λ k t. IsToken version k t) x l → Follows text Good (limited (big_bytes 2 x) ∷ []) (flat_map token_parts) l
      is x l few row =
          let h = tokens_row version x l row in
          (ap (λ n. limited (big_bytes 2 n) ∷ flat_map token_parts l) h.1, (omega (arith, few, h.1), h.0))

-- the fields after the magic number
pub fields_told : Told fields_at later_parts HasFile
unfolding fields_at
fields_told =
    bind_told version_at _ (λ v. part_with (λ at. faults.Version) (version_number v ∷ []) ∷ []) (λ v. Unit {0}) (λ v. P1) later_parts HasFile version_told
    (λ v yes. bind_told (limited_at 2 1024) _ (λ x. limited (big_bytes 2 x) ∷ []) (λ x. x ≤ 1024) (λ s. P2) P1 (G1 v) (limited_told 2 (big_bytes 2) (λ x. x < 2 ^ 16) two_form 1024)
    (λ s few. bind_told (limited_at 1 64) _ (λ x. limited (x ∷ []) ∷ []) (λ x. x ≤ 64) (λ d. P3) P2 (G2 v s) (limited_told 1 (λ x. x ∷ []) (λ x. x < 256) one_form 64)
    (λ d low. bind_told (number_next 2) _ (λ x. free (big_bytes 2 x) ∷ []) (λ x. x < 2 ^ 16) (λ b. P4) P3 (G3 v s d) two_told
    (λ b fits. bind_told all_names_at _ (λ names. limited (length names ∷ []) ∷ flat_map name_parts names) (λ names. (length names ≤ 64) × AllByRecursion IsName names) (λ n. P5) P4 (G4 v s d b) all_names_told
    (λ names are. makes_told (λ list. code v s d b names list) (all_tokens_at v) (λ list. limited (big_bytes 2 (length list)) ∷ flat_map token_parts list) (λ list. (length list ≤ 1024) × AreTokens v list) P5 (Follows P4 (G4 v s d b) (limited (length names ∷ []) ∷ flat_map name_parts names) P5) (all_tokens_told v) (λ list all. refl) (λ list all. last v s d b names list few low fits are all))
    (λ names are. (code v s d b names [], last v s d b names [] few low fits are (omega arith, tt))))
    (λ b fits. (code v s d b [] [], (last v s d b [] [] few low fits (omega arith, tt) (omega arith, tt)).1)))
    (λ d low. (code v s d 0 [] [], (last v s d 0 [] [] few low (omega arith) (omega arith, tt) (omega arith, tt)).1.1)))
    (λ s few. (code v s 0 0 [] [], (last v s 0 0 [] [] few (omega arith) (omega arith) (omega arith, tt) (omega arith, tt)).1.1.1)))
    (λ v yes. (code v 0 0 0 [] [], (last v 0 0 0 [] [] (omega arith) (omega arith) (omega arith) (omega arith, tt) (omega arith, tt)).1.1.1.1)) where
      P1 : Code → List Part
      P1 p = drop 1 (later_parts p)

      P2 : Code → List Part
      P2 p = drop 2 (later_parts p)

      P3 : Code → List Part
      P3 p = drop 3 (later_parts p)

      P4 : Code → List Part
      P4 p = drop 4 (later_parts p)

      P5 : Code → List Part
      P5 p = limited (big_bytes 2 (length p.tokens)) ∷ flat_map token_parts p.tokens

      G1 : Version → Code → Type 0
      G1 v = Follows later_parts HasFile (part_with (λ at. faults.Version) (version_number v ∷ []) ∷ []) P1

      G2 : Version → ℕ → Code → Type 0
      G2 v s = Follows P1 (G1 v) (limited (big_bytes 2 s) ∷ []) P2

      G3 : Version → ℕ → ℕ → Code → Type 0
      G3 v s d = Follows P2 (G2 v s) (limited (d ∷ []) ∷ []) P3

      G4 : Version → ℕ → ℕ → ℕ → Code → Type 0
      G4 v s d b = Follows P3 (G3 v s d) (free (big_bytes 2 b) ∷ []) P4

      last : (v : Version) (s d b : ℕ) (names : List (List ℕ)) (list : List Token) → s ≤ 1024 → d ≤ 64 → b < 2 ^ 16 → (length names ≤ 64) × AllByRecursion IsName names → (length list ≤ 1024) × AreTokens v list
          → Follows P4 (G4 v s d b) (limited (length names ∷ []) ∷ flat_map name_parts names) P5 (code v s d b names list)
      last v s d b names list few low fits are all = (
        refl,
        (
          refl,
          (
            refl,
            (
              refl,
              (
                refl,
                record {
                  steps = few;
                  depth = low;
                  bound = fits;
                  few_names = are.0;
                  names = are.1;
                  few_tokens = all.0;
                  tokens = all.1;
                },
              ),
            ),
          ),
        ),
      )
