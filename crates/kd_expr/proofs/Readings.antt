-- What each reader of tokens gives, the grammar allows.
use Rattle.std.proofs.Common.{◌≡◌, ℕ, zero, suc, ◌≤◌, ◌^◌, ℤ, Bool, true, false, Option, Some, Result, Ok, Err, List, [], ◌∷◌, ◌++◌, length, refl, sym, ap, subst, append-nil, codes, bytes_eq, if◌then◌else◌, nat_lt, ltb-true}
use Rattle.kd_expr.specs.Grammar.{Spells, Level, or_level, and_level, not_level, compare_level, sum_level, primary_level, or_one, or_more, and_one, and_more, not_none, negated, compare_one, equal, sum_one, sum_more, string, hexadecimal, address, number, group, option_hex, option_exists, relay_hex, relay_exists, field, packet_length, member, substring, concat, ifelse, hexstring, lcase, ucase, uint32totext, IsSigned, IsLength}
use Rattle.kd_expr.specs.Lexical.{Lexeme, StringAt, HexAt, AddressAt, NumberAt, MinusAt, NameAt, SignAt, BadAt}
use Rattle.kd_expr.specs.Reading.{Reader, Deeper, on_ok, seq, wanted, done, sign_here, word_here, sign_at, word_at, code_of_option, code_of_relay, suffix_of, field_of, signed, length_of_part, class_name, bracketed, option_at, relay_at, field_after, packet_at, member_at, operand_then, operand_in_brackets, group_at, operands_in_brackets, ifelse_at, substring_after, form_at, named_at, primary_at, sum_of, and_of, or_of, sum_at, compare_at, not_at, and_at, or_at, below}
use Rattle.kd_expr.specs.Refusals.{refusal_of, code_refusal, option_refusal, signed_refusal}
use Rattle.kd_expr.specs.declared.fault.SyntaxFault.{SyntaxFault}
use Rattle.kd_expr.specs.Tree.{Tree, Int, OptionValue, RelayValue, FieldValue, OptionExists, RelayExists, Member, Equal, Not, Group, Concat, IfElse, Substring, HexString, Lower, Upper, IntToText, at_of}
use Rattle.kd_wire.specs.declared.field.Field.{Field}
use Rattle.kd_expr.proofs.Options.{ok_pair, err_is, if_ok}
use Rattle.kd_expr.proofs.Sound.{IsSound, Takes, same_sound, on_ok_twice, done_sound, seq_sound, seq_one_sound, either_sound, chain_sound, weaker, OneOf, is_one, wanted_sound}
use Rattle.kd_expr.proofs.Tokens.{sign_is, word_is, option_code_is, relay_code_is, IsRelayCode, relay_number, IsSuffix, hex, exists, suffix_is, IsPartName, part_name, field_of_is, signed_is, length_is, IsClassName, class_is, class_name_is}
use Rattle.std.proofs.lemmas.Slice.Eq.{bytes_eq-Decides}

at_front : {B : Type 0} (P : List Lexeme → B → Type 0) (r : Reader B) {x y : Lexeme} → x ≡ y → IsSound (λ ws b. P (y ∷ ws) b) r → IsSound (λ ws b. P (x ∷ ws) b) r
at_front P r e h = let F : Lexeme → Type 0 = λ z. IsSound (λ ws b. P (z ∷ ws) b) r in subst F (sym e) h

sign_sound : {B : Type 0} (P : List Lexeme → B → Type 0) (b : ℕ) (f : ℕ → Reader B) → ((o : ℕ) → IsSound (λ ws t. P (SignAt o b ∷ ws) t) (f o)) → IsSound P (seq (sign_here b) f)
sign_sound P b f h = seq_one_sound P (sign_at b) refusal_of f (λ x o e. at_front P (f o) (sign_is b x o e) (h o))

word_sound : {B : Type 0} (P : List Lexeme → B → Type 0) (w : List ℕ) (f : ℕ → Reader B) → ((o : ℕ) → IsSound (λ ws t. P (NameAt o w ∷ ws) t) (f o)) → IsSound P (seq (word_here w) f)
word_sound P w f h = seq_one_sound P (word_at w) refusal_of f (λ x o e. at_front P (f o) (word_is w x o e) (h o))

-- a code in brackets, and what follows it
pub data InBrackets (code : Lexeme → Option ℕ) : List Lexeme → ℕ × Bool → Type 0 where
  in_brackets : (l r d : ℕ) (x y : Lexeme) {c : ℕ} {b : Bool} → code x ≡ Some c → IsSuffix y b → InBrackets code (SignAt l 91 ∷ x ∷ SignAt r 93 ∷ SignAt d 46 ∷ y ∷ []) (c, b)

bracketed_sound : (code : Lexeme → Option ℕ) (refusal : Lexeme → SyntaxFault) → IsSound (InBrackets code) (bracketed code refusal)
bracketed_sound code refusal =
    sign_sound _ 91 _ (λ l. seq_one_sound _ code refusal _ (λ x c is. sign_sound _ 93 _ (λ r. sign_sound _ 46 _ (λ d.
    seq_one_sound _ suffix_of refusal_of _ (λ y b has. done_sound _ (c, b) (in_brackets l r d x y is (suffix_is y b has)))))))

-- formed one nesting level deeper
pub data Inner : Level → ℕ → List Lexeme → Tree → Type 0 where
  inner : {l : Level} {n : ℕ} {us : List Lexeme} {t : Tree} → Spells l n us t → Inner l (suc n) us t

-- a class's name, one nesting level deeper
pub data InnerName : ℕ → List Lexeme → List ℕ → Type 0 where
  inner_name : {n at : ℕ} {s : List ℕ} → 1 ≤ length s → length s ≤ 255 → InnerName (suc n) (StringAt at s ∷ []) s

-- the readers one nesting level deeper are sound
pub record DeeperIsSound (m : ℕ) (deeper : Deeper) : Type 0 where
  pub any : (at : ℕ) → IsSound (Inner or_level m) (deeper.any at)
  pub operand : (at : ℕ) → IsSound (Inner not_level m) (deeper.operand at)
  pub name : (at : ℕ) → IsSound (InnerName m) (deeper.name at)

-- what may follow a name at a place
abbrev Behind : ℕ → ℕ → List ℕ → List Lexeme → Tree → Type 0
Behind m at name us t = Spells primary_level m (NameAt at name ∷ us) t

-- a test of a name
name_sound : (P : List ℕ → List Lexeme → Tree → Type 0) (name w : List ℕ) (r s : Reader Tree) → IsSound (P w) r → IsSound (P name) s → IsSound (P name) (if bytes_eq name w then r else s)
name_sound P name w r s hr hs =
    let at : (k : Bool) → bytes_eq name w ≡ k → IsSound (P name) (if k then r else s)
    = λ k. elim k as (λ k. bytes_eq name w ≡ k → IsSound (P name) (if k then r else s)) [
      | true ↦ λ is. let F : List ℕ → Type 0 = λ v. IsSound (P v) r in subst F (sym ((bytes_eq-Decides name w).0 is)) hr
      | false ↦ λ _. hs
    ] in
    at (bytes_eq name w) refl

option_from : (m at : ℕ) (c : ℕ × Bool) (us : List Lexeme) → InBrackets code_of_option us c → IsSound (λ ws t. Behind m at (codes "option") (us ++ ws) t) (done (if c.1 then OptionExists at c.0 else OptionValue at c.0))
option_from m at _ _ (in_brackets l r d x _ {c = c} is hex) = done_sound _ _ (option_hex (option_code_is x c is))
option_from m at _ _ (in_brackets l r d x _ {c = c} is exists) = done_sound _ _ (option_exists (option_code_is x c is))

option_sound : (m at : ℕ) → IsSound (Behind m at (codes "option")) (option_at at)
unfolding option_at
option_sound m at = seq_sound (InBrackets code_of_option) _ (bracketed code_of_option option_refusal) _ (bracketed_sound code_of_option option_refusal) (option_from m at)

relay_made : (m at l r d e : ℕ) (x : Lexeme) (c : ℕ) → IsRelayCode x c → Behind m at (codes "relay4") (SignAt l 91 ∷ x ∷ SignAt r 93 ∷ SignAt d 46 ∷ NameAt e (codes "hex") ∷ []) (RelayValue at c)
relay_made m at l r d e _ _ (relay_number h) = relay_hex h

relay_there : (m at l r d e : ℕ) (x : Lexeme) (c : ℕ) → IsRelayCode x c → Behind m at (codes "relay4") (SignAt l 91 ∷ x ∷ SignAt r 93 ∷ SignAt d 46 ∷ NameAt e (codes "exists") ∷ []) (RelayExists at c)
relay_there m at l r d e _ _ (relay_number h) = relay_exists h

relay_from : (m at : ℕ) (c : ℕ × Bool) (us : List Lexeme) → InBrackets code_of_relay us c → IsSound (λ ws t. Behind m at (codes "relay4") (us ++ ws) t) (done (if c.1 then RelayExists at c.0 else RelayValue at c.0))
relay_from m at _ _ (in_brackets l r d x _ {c = c} is (hex {at = e})) = done_sound _ _ (relay_made m at l r d e x c (relay_code_is x c is))
relay_from m at _ _ (in_brackets l r d x _ {c = c} is (exists {at = e})) = done_sound _ _ (relay_there m at l r d e x c (relay_code_is x c is))

relay_sound : (m at : ℕ) → IsSound (Behind m at (codes "relay4")) (relay_at at)
unfolding relay_at
relay_sound m at = seq_sound (InBrackets code_of_relay) _ (bracketed code_of_relay code_refusal) _ (bracketed_sound code_of_relay code_refusal) (relay_from m at)

field_made : (m at d : ℕ) (x : Lexeme) (part : Field) → IsPartName x part → Behind m at (codes "pkt4") (SignAt d 46 ∷ x ∷ []) (FieldValue at part)
field_made m at d _ _ (part_name e) = field e

field_sound : (m at : ℕ) → IsSound (Behind m at (codes "pkt4")) (field_after at)
unfolding field_after
field_sound m at = sign_sound _ 46 _ (λ d. seq_one_sound _ field_of refusal_of _ (λ x part is. done_sound _ _ (field_made m at d x part (field_of_is x part is))))

packet_sound : (m at : ℕ) → IsSound (Behind m at (codes "pkt")) (packet_at at)
unfolding packet_at
packet_sound m at = sign_sound _ 46 _ (λ d. word_sound _ (codes "len") _ (λ e. done_sound _ _ packet_length))

member_from : (m at o : ℕ) (name : List ℕ) (us : List Lexeme) → InnerName m us name → IsSound (λ ws t. Behind m at (codes "member") (SignAt o 40 ∷ (us ++ ws)) t) (seq (sign_here 41) (λ _. done (Member at name)))
member_from m at o _ _ (inner_name least most) = sign_sound _ 41 _ (λ c. done_sound _ _ (member least most))

-- the productions whose operands are nested one level deeper
group_made : {m at : ℕ} (c : ℕ) {us : List Lexeme} {a : Tree} → Inner or_level m us a → Spells primary_level m (SignAt at 40 ∷ (us ++ SignAt c 41 ∷ [])) (Group at a)
group_made c (inner s) = group c s

lower_made : {m at o : ℕ} (c : ℕ) {us : List Lexeme} {a : Tree} → Inner or_level m us a → Behind m at (codes "lcase") (SignAt o 40 ∷ (us ++ SignAt c 41 ∷ [])) (Lower at a)
lower_made c (inner s) = lcase c s

upper_made : {m at o : ℕ} (c : ℕ) {us : List Lexeme} {a : Tree} → Inner or_level m us a → Behind m at (codes "ucase") (SignAt o 40 ∷ (us ++ SignAt c 41 ∷ [])) (Upper at a)
upper_made c (inner s) = ucase c s

text_made : {m at o : ℕ} (c : ℕ) {us : List Lexeme} {a : Tree} → Inner or_level m us a → Behind m at (codes "uint32totext") (SignAt o 40 ∷ (us ++ SignAt c 41 ∷ [])) (IntToText at a)
text_made c (inner s) = uint32totext c s

concat_made : {m at o : ℕ} (c d : ℕ) {us vs : List Lexeme} {a b : Tree} → Inner or_level m us a → Inner or_level m vs b → Behind m at (codes "concat") (SignAt o 40 ∷ (us ++ SignAt c 44 ∷ (vs ++ SignAt d 41 ∷ []))) (Concat at a b)
concat_made c d (inner s) (inner r) = concat c d s r

hexstring_made : {m at o : ℕ} (c d : ℕ) {us vs : List Lexeme} {a b : Tree} → Inner or_level m us a → Inner or_level m vs b → Behind m at (codes "hexstring") (SignAt o 40 ∷ (us ++ SignAt c 44 ∷ (vs ++ SignAt d 41 ∷ []))) (HexString at a b)
hexstring_made c d (inner s) (inner r) = hexstring c d s r

ifelse_made : {m at o : ℕ} (c d e : ℕ) {us vs ws : List Lexeme} {t a b : Tree} → Inner or_level m us t → Inner or_level m vs a → Inner or_level m ws b → Behind m at (codes "ifelse") (SignAt o 40 ∷ (us ++ SignAt c 44 ∷ (vs ++ SignAt d 44 ∷ (ws ++ SignAt e 41 ∷ [])))) (IfElse at t a b)
ifelse_made c d e (inner s) (inner r) (inner q) = ifelse c d e s r q

substring_made : {m at o : ℕ} (c d e : ℕ) {us : List Lexeme} {x y : Lexeme} {a : Tree} {start : ℤ} {len : Option ℤ} → Inner or_level m us a → IsSigned x start → IsLength y len → Behind m at (codes "substring") (SignAt o 40 ∷ (us ++ SignAt c 44 ∷ x ∷ SignAt d 44 ∷ y ∷ SignAt e 41 ∷ [])) (Substring at a start len)
substring_made c d e (inner s) i j = substring c d e s i j

-- an operand in brackets
data InRound (m : ℕ) : List Lexeme → Tree → Type 0 where
  in_round : (o c : ℕ) {us : List Lexeme} {a : Tree} → Inner or_level m us a → InRound m (SignAt o 40 ∷ (us ++ SignAt c 41 ∷ [])) a

-- two operands in brackets
data TwoInRound (m : ℕ) : List Lexeme → Tree × Tree → Type 0 where
  two_in_round : (o c e : ℕ) {us vs : List Lexeme} {a b : Tree} → Inner or_level m us a → Inner or_level m vs b → TwoInRound m (SignAt o 40 ∷ (us ++ SignAt c 44 ∷ (vs ++ SignAt e 41 ∷ []))) (a, b)

concat_from : (m at : ℕ) (x : Tree × Tree) (us : List Lexeme) → TwoInRound m us x → IsSound (λ ws t. Behind m at (codes "concat") (us ++ ws) t) (done (Concat at x.0 x.1))
concat_from m at _ us (two_in_round o c e {a = a} {b = b} s r) = done_sound (λ ws t. Behind m at (codes "concat") (us ++ ws) t) _ (subst (λ v. Behind m at (codes "concat") v (Concat at a b)) (sym (append-nil us)) (concat_made c e s r))

hexstring_from : (m at : ℕ) (x : Tree × Tree) (us : List Lexeme) → TwoInRound m us x → IsSound (λ ws t. Behind m at (codes "hexstring") (us ++ ws) t) (done (HexString at x.0 x.1))
hexstring_from m at _ us (two_in_round o c e {a = a} {b = b} s r) = done_sound (λ ws t. Behind m at (codes "hexstring") (us ++ ws) t) _ (subst (λ v. Behind m at (codes "hexstring") v (HexString at a b)) (sym (append-nil us)) (hexstring_made c e s r))

lower_from : (m at : ℕ) (a : Tree) (us : List Lexeme) → InRound m us a → IsSound (λ ws t. Behind m at (codes "lcase") (us ++ ws) t) (done (Lower at a))
lower_from m at a us (in_round o c s) = done_sound (λ ws t. Behind m at (codes "lcase") (us ++ ws) t) _ (subst (λ v. Behind m at (codes "lcase") v (Lower at a)) (sym (append-nil us)) (lower_made c s))

upper_from : (m at : ℕ) (a : Tree) (us : List Lexeme) → InRound m us a → IsSound (λ ws t. Behind m at (codes "ucase") (us ++ ws) t) (done (Upper at a))
upper_from m at a us (in_round o c s) = done_sound (λ ws t. Behind m at (codes "ucase") (us ++ ws) t) _ (subst (λ v. Behind m at (codes "ucase") v (Upper at a)) (sym (append-nil us)) (upper_made c s))

text_from : (m at : ℕ) (a : Tree) (us : List Lexeme) → InRound m us a → IsSound (λ ws t. Behind m at (codes "uint32totext") (us ++ ws) t) (done (IntToText at a))
text_from m at a us (in_round o c s) = done_sound (λ ws t. Behind m at (codes "uint32totext") (us ++ ws) t) _ (subst (λ v. Behind m at (codes "uint32totext") v (IntToText at a)) (sym (append-nil us)) (text_made c s))

pub before_is : {B : Type 0} (d : Deeper) (o b : ℕ) (f : Tree → Reader B) (end : ℕ) (ts : List Lexeme) → seq (operand_then d o b) f end ts ≡ seq (d.any o) (λ a. seq (sign_here b) (λ _. f a)) end ts
unfolding operand_then
before_is {B} d o b f end ts =
    let at : (answer : Result (Tree × List Lexeme) SyntaxFault) → on_ok (on_ok answer (λ x. seq (sign_here b) (λ _. done x.0) end x.1)) (λ z. f z.0 end z.1) ≡ on_ok answer (λ x. seq (sign_here b) (λ _. f x.0) end x.1)
    = λ answer. elim answer as (λ v. on_ok (on_ok v (λ x. seq (sign_here b) (λ _. done x.0) end x.1)) (λ z. f z.0 end z.1) ≡ on_ok v (λ x. seq (sign_here b) (λ _. f x.0) end x.1)) [
      | Err fault ↦ refl
      | Ok x ↦ on_ok_twice (sign_here b end x.1) (λ y. Ok (x.0, y.1)) (λ z. f z.0 end z.1)
    ] in
    at (d.any o end ts)

module _ (m : ℕ) (d : Deeper) (s : DeeperIsSound m d) where
  member_sound : (at : ℕ) → IsSound (Behind m at (codes "member")) (member_at d at)
  unfolding member_at
  member_sound at = sign_sound _ 40 _ (λ o. seq_sound (InnerName m) _ (d.name o) _ (s.name o) (member_from m at o))

  before_sound : {B : Type 0} (P : List Lexeme → B → Type 0) (o b : ℕ) (f : Tree → Reader B) → ((a : Tree) (us : List Lexeme) → Inner or_level m us a → (c : ℕ) → IsSound (λ ws t. P (us ++ SignAt c b ∷ ws) t) (f a)) → IsSound P (seq (operand_then d o b) f)
  before_sound P o b f h = same_sound P _ _ (before_is d o b f) (seq_sound (Inner or_level m) P (d.any o) (λ a. seq (sign_here b) (λ _. f a)) (s.any o) (λ a us i. sign_sound (λ ws t. P (us ++ ws) t) b (λ _. f a) (h a us i)))

  group_sound : IsSound (Spells primary_level m) (group_at d)
  unfolding group_at
  group_sound = sign_sound _ 40 _ (λ at. before_sound _ at 41 _ (λ a us i c. done_sound _ _ (group_made c i)))

  one_operand_sound : IsSound (InRound m) (operand_in_brackets d)
  unfolding operand_in_brackets operand_then
  one_operand_sound = sign_sound _ 40 _ (λ o. seq_sound (Inner or_level m) _ (d.any o) _ (s.any o) (λ a us i. sign_sound _ 41 _ (λ c. done_sound _ _ (in_round o c i))))

  two_operands_sound : IsSound (TwoInRound m) (operands_in_brackets d)
  unfolding operands_in_brackets
  two_operands_sound =
      sign_sound _ 40 _ (λ o. before_sound _ o 44 _ (λ a us i c. before_sound _ o 41 _ (λ b vs j e.
      done_sound _ (a, b) (two_in_round o c e i j))))

  ifelse_sound : (at : ℕ) → IsSound (Behind m at (codes "ifelse")) (ifelse_at d at)
  unfolding ifelse_at
  ifelse_sound at =
      sign_sound _ 40 _ (λ o. before_sound _ o 44 _ (λ t us i c. before_sound _ o 44 _ (λ a vs j e.
      before_sound _ o 41 _ (λ b ws k f. done_sound _ _ (ifelse_made c e f i j k)))))

  substring_sound : (at : ℕ) → IsSound (Behind m at (codes "substring")) (substring_after d at)
  unfolding substring_after
  substring_sound at =
      sign_sound _ 40 _ (λ o. before_sound _ o 44 _ (λ a us i c. seq_one_sound _ signed signed_refusal _ (λ x start j.
      sign_sound _ 44 _ (λ e. seq_one_sound _ length_of_part signed_refusal _ (λ y len k.
      sign_sound _ 41 _ (λ f. done_sound _ _ (substring_made c e f i (signed_is x start j) (length_is y len k))))))))

  form_sound : (at : ℕ) (name : List ℕ) → IsSound (Behind m at name) (form_at d at name)
  unfolding form_at
  form_sound at name =
      name_sound (Behind m at) name (codes "substring") _ _ (substring_sound at)
      (name_sound (Behind m at) name (codes "ifelse") _ _ (ifelse_sound at)
      (name_sound (Behind m at) name (codes "concat") _ _ (seq_sound (TwoInRound m) _ (operands_in_brackets d) _ two_operands_sound (concat_from m at))
      (name_sound (Behind m at) name (codes "hexstring") _ _ (seq_sound (TwoInRound m) _ (operands_in_brackets d) _ two_operands_sound (hexstring_from m at))
      (name_sound (Behind m at) name (codes "lcase") _ _ (seq_sound (InRound m) _ (operand_in_brackets d) _ one_operand_sound (lower_from m at))
      (name_sound (Behind m at) name (codes "ucase") _ _ (seq_sound (InRound m) _ (operand_in_brackets d) _ one_operand_sound (upper_from m at))
      (name_sound (Behind m at) name (codes "uint32totext") _ _ (seq_sound (InRound m) _ (operand_in_brackets d) _ one_operand_sound (text_from m at))
      (λ end ts t rest e. err_is e)))))))

  named_sound : (at : ℕ) (name : List ℕ) → IsSound (Behind m at name) (named_at d at name)
  unfolding named_at
  named_sound at name =
      name_sound (Behind m at) name (codes "option") _ _ (option_sound m at)
      (name_sound (Behind m at) name (codes "relay4") _ _ (relay_sound m at)
      (name_sound (Behind m at) name (codes "pkt4") _ _ (field_sound m at)
      (name_sound (Behind m at) name (codes "pkt") _ _ (packet_sound m at)
      (name_sound (Behind m at) name (codes "member") _ _ (member_sound at)
      (form_sound at name)))))

-- a literal is one token
one_front : {m : ℕ} {x : Lexeme} {a t : Tree} {ts rest : List Lexeme} → Spells primary_level m (x ∷ []) a → ◌≡◌ {A = Result (Tree × List Lexeme) SyntaxFault} (Ok (a, ts)) (Ok (t, rest)) → Takes (λ us. Spells primary_level m us t) (x ∷ ts) rest
one_front {m} {x} h e = let both = ok_pair e in record {
  front = x ∷ [];
  is = ap (λ v. x ∷ v) both.1;
  holds = subst (λ v. Spells primary_level m (x ∷ []) v) both.0 h;
}

named_front : (m at : ℕ) (name : List ℕ) {t : Tree} (ts rest : List Lexeme) → Takes (λ us. Behind m at name us t) ts rest → Takes (λ us. Spells primary_level m us t) (NameAt at name ∷ ts) rest
named_front m at name ts rest t = record { front = NameAt at name ∷ t.front; is = ap (λ v. NameAt at name ∷ v) t.is; holds = t.holds }

pub primary_sound : (m : ℕ) (d : Deeper) → DeeperIsSound m d → IsSound (Spells primary_level m) (primary_at d)
unfolding primary_at
primary_sound m d s end [] t rest e = err_is e
primary_sound m d s end (StringAt at v ∷ ts) t rest e = one_front string e
primary_sound m d s end (HexAt at v ∷ ts) t rest e = one_front hexadecimal e
primary_sound m d s end (AddressAt at v ∷ ts) t rest e = one_front address e
primary_sound m d s end (NumberAt at k ∷ ts) t rest e =
    let both = if_ok {A = Tree × List Lexeme} {a = (Int at k, ts)} {b = (t, rest)} _ (nat_lt k (2 ^ 32)) e in
    one_front (number (ltb-true k (2 ^ 32) both.0)) (ap (λ v. Ok v) both.1)
primary_sound m d s end (MinusAt at k ∷ ts) t rest e = err_is e
primary_sound m d s end (NameAt at name ∷ ts) t rest e = named_front m at name ts rest (named_sound m d s at name end ts t rest e)
primary_sound m d s end (SignAt at b ∷ ts) t rest e = group_sound m d s end (SignAt at b ∷ ts) t rest e
primary_sound m d s end (BadAt at ∷ ts) t rest e = err_is e

negation_made : {m at : ℕ} {us : List Lexeme} {t : Tree} → Inner not_level m us t → Spells not_level m (NameAt at (codes "not") ∷ us) (Not at t)
negation_made (inner s) = negated s

-- a sign between two parts
sign_between : (m b : ℕ) (l k : Level) (join : Tree → Tree → Tree) → ((o : ℕ) (us vs : List Lexeme) (a c : Tree) → Spells l m us a → Spells k m vs c → Spells l m (us ++ SignAt o b ∷ vs) (join a c)) → (x : Lexeme) (o : ℕ) → sign_at b x ≡ Some o → (us vs : List Lexeme) (a c : Tree) → Spells l m us a → Spells k m vs c → Spells l m (us ++ x ∷ vs) (join a c)
sign_between m b l k join more x o e us vs a c p q = subst (λ y. Spells l m (us ++ y ∷ vs) (join a c)) (sym (sign_is b x o e)) (more o us vs a c p q)

-- a word between two parts
word_between : (m : ℕ) (w : List ℕ) (l k : Level) (join : Tree → Tree → Tree) → ((o : ℕ) (us vs : List Lexeme) (a c : Tree) → Spells l m us a → Spells k m vs c → Spells l m (us ++ NameAt o w ∷ vs) (join a c)) → (x : Lexeme) (o : ℕ) → word_at w x ≡ Some o → (us vs : List Lexeme) (a c : Tree) → Spells l m us a → Spells k m vs c → Spells l m (us ++ x ∷ vs) (join a c)
word_between m w l k join more x o e us vs a c p q = subst (λ y. Spells l m (us ++ y ∷ vs) (join a c)) (sym (word_is w x o e)) (more o us vs a c p q)

module _ (m : ℕ) (d : Deeper) (s : DeeperIsSound m d) where
  sum_sound : IsSound (Spells sum_level m) (sum_at d)
  unfolding sum_at
  sum_sound =
      chain_sound (Spells sum_level m) (Spells primary_level m) (sign_at 43) (primary_at d) sum_of (primary_sound m d s)
      (λ us a h. sum_one h) (sign_between m 43 sum_level primary_level sum_of (λ o us vs a c p q. sum_more o p q))

  compare_sound : IsSound (Spells compare_level m) (compare_at d)
  unfolding compare_at
  compare_sound =
      seq_sound (Spells sum_level m) (Spells compare_level m) (sum_at d) _ sum_sound (λ a us h.
      either_sound (λ ws t. Spells compare_level m (us ++ ws) t) (sign_at 61) _ (done a)
      (λ x o e. seq_sound (Spells sum_level m) (λ ws t. Spells compare_level m (us ++ x ∷ ws) t) (sum_at d) _ sum_sound (λ b vs r.
      done_sound (λ ws t. Spells compare_level m (us ++ x ∷ (vs ++ ws)) t) (Equal (at_of a) a b)
      (subst (λ v. Spells compare_level m (us ++ x ∷ v) (Equal (at_of a) a b)) (sym (append-nil vs))
      (subst (λ y. Spells compare_level m (us ++ y ∷ vs) (Equal (at_of a) a b)) (sym (sign_is 61 x o e)) (equal o h r)))))
      (done_sound (λ ws t. Spells compare_level m (us ++ ws) t) a (subst (λ v. Spells compare_level m v a) (sym (append-nil us)) (compare_one h))))

  pub not_sound : IsSound (Spells not_level m) (not_at d)
  unfolding not_at
  not_sound =
      either_sound (Spells not_level m) (word_at (codes "not")) _ (compare_at d)
      (λ x o e. at_front (Spells not_level m) _ (word_is (codes "not") x o e)
      (seq_sound (Inner not_level m) (λ ws t. Spells not_level m (NameAt o (codes "not") ∷ ws) t) (d.operand o) _ (s.operand o) (λ a us i.
      done_sound (λ ws t. Spells not_level m (NameAt o (codes "not") ∷ (us ++ ws)) t) (Not o a)
      (subst (λ v. Spells not_level m (NameAt o (codes "not") ∷ v) (Not o a)) (sym (append-nil us)) (negation_made i)))))
      (weaker (Spells compare_level m) (Spells not_level m) (compare_at d) (λ us a h. not_none h) compare_sound)

  pub and_sound : IsSound (Spells and_level m) (and_at d)
  unfolding and_at
  and_sound =
      chain_sound (Spells and_level m) (Spells not_level m) (word_at (codes "and")) (not_at d) and_of not_sound
      (λ us a h. and_one h) (word_between m (codes "and") and_level not_level and_of (λ o us vs a c p q. and_more o p q))

  or_sound : IsSound (Spells or_level m) (or_at d)
  unfolding or_at
  or_sound =
      chain_sound (Spells or_level m) (Spells and_level m) (word_at (codes "or")) (and_at d) or_of and_sound
      (λ us a h. or_one h) (word_between m (codes "or") or_level and_level or_of (λ o us vs a c p q. or_more o p q))

inner_sound : (l : Level) (n : ℕ) (r : Reader Tree) → IsSound (Spells l n) r → IsSound (Inner l (suc n)) r
inner_sound l n r h = weaker (Spells l n) (Inner l (suc n)) r (λ us t s. inner s) h

name_from : (n : ℕ) (x : Lexeme) (s : List ℕ) → IsClassName x s → InnerName (suc n) (x ∷ []) s
name_from n _ _ (class_is least most) = inner_name least most

name_made : (n : ℕ) (us : List Lexeme) (s : List ℕ) → OneOf class_name us s → InnerName (suc n) us s
name_made n _ s (is_one x e) = name_from n x s (class_name_is x s e)

-- the readers one nesting level deeper are sound at each nesting
pub below_sound : (m : ℕ) → DeeperIsSound m (below m)
unfolding below
below_sound zero = record { any = λ at end ts a rest e. err_is e; operand = λ at end ts a rest e. err_is e; name = λ at end ts a rest e. err_is e }
below_sound (suc n) = record {
  any = λ at. inner_sound or_level n (or_at (below n)) (or_sound n (below n) (below_sound n));
  operand = λ at. inner_sound not_level n (not_at (below n)) (not_sound n (below n) (below_sound n));
  name = λ at. weaker (OneOf class_name) (InnerName (suc n)) (wanted class_name refusal_of) (name_made n) (wanted_sound class_name refusal_of);
}

-- an expression read is one that the grammar allows
pub any_sound : (m : ℕ) → IsSound (Spells or_level m) (or_at (below m))
any_sound m = or_sound m (below m) (below_sound m)
