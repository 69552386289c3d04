-- What the grammar allows, the reader of tokens gives: one lemma per production, and all of them.
use Rattle.std.proofs.Common.{◌≡◌, ℕ, suc, ◌≤◌, ◌<◌, ◌^◌, ℤ, Option, Some, List, [], ◌∷◌, ◌++◌, length, refl, sym, subst, append_assoc, codes}
use Rattle.kd_expr.specs.Grammar.{Spells, Level, or_one, or_more, and_one, and_more, not_none, negated, compare_one, equal, sum_one, sum_more, string, hexadecimal, address, number, group, option_hex, option_exists, relay_hex, relay_exists, field, packet_length, member, substring, concat, ifelse, hexstring, lcase, ucase, uint32totext, IsOptionCode, IsSigned, IsLength, hex_bytes}
use Rattle.kd_expr.specs.Lexical.{Lexeme, StringAt, HexAt, AddressAt, NumberAt, NameAt, SignAt}
use Rattle.kd_expr.specs.Names.{field_by_name}
use Rattle.kd_expr.specs.Reading as reading
use Rattle.kd_expr.specs.Reading.{Reader, Deeper, on_ok, sign_at, word_at, seq, either, one, done, sign_here, word_here, code_of_option, code_of_relay, field_of, signed, length_of_part, class_name, bracketed, option_at, relay_at, field_after, packet_at, member_at, operand_in_brackets, group_at, operands_in_brackets, ifelse_at, substring_after, form_at, named_at, primary_at, sum_of, and_of, or_of, sum_at, compare_at, not_at, and_at, or_at, operands_joined, chain}
use Rattle.kd_expr.specs.Tree.{Tree, Literal, Int, OptionValue, RelayValue, FieldValue, OptionExists, RelayExists, Member, Equal, Not, Concat, IfElse, Substring, HexString, Lower, Upper, IntToText, at_of}
use Rattle.kd_wire.specs.declared.field.Field.{Field}
use Rattle.kd_wire.specs.declared.field.Field.TheVariants.{Length}
use Rattle.kd_expr.proofs.Complete.{Answers, Misses, InHand, hand_ends, chain_one, chain_more, StopsCompare, ReadsAny, Complete, group_reads, one_reads, two_read, ifelse_reads, substring_reads, class_reads, code_reads, less_true}

literal_reads : (n at : ℕ) (s : List ℕ) (end : ℕ) (rest : List Lexeme) → Answers (primary_at (reading.below n) end (StringAt at s ∷ rest)) (Literal at s) rest
unfolding primary_at
literal_reads n at s end rest = refl

hex_reads : (n at : ℕ) (s : List ℕ) (end : ℕ) (rest : List Lexeme) → Answers (primary_at (reading.below n) end (HexAt at s ∷ rest)) (Literal at (hex_bytes s)) rest
unfolding primary_at
hex_reads n at s end rest = refl

address_reads : (n at : ℕ) (s : List ℕ) (end : ℕ) (rest : List Lexeme) → Answers (primary_at (reading.below n) end (AddressAt at s ∷ rest)) (Literal at s) rest
unfolding primary_at
address_reads n at s end rest = refl

number_reads : (n at k : ℕ) (end : ℕ) (rest : List Lexeme) → k < 2 ^ 32 → Answers (primary_at (reading.below n) end (NumberAt at k ∷ rest)) (Int at k) rest
unfolding primary_at
number_reads n at k end rest h = rw (less_true k (2 ^ 32) h) refl

option_reads : {x : Lexeme} {code : ℕ} (n at l r d e : ℕ) (end : ℕ) (rest : List Lexeme) → IsOptionCode x code → Answers (primary_at (reading.below n) end (NameAt at (codes "option") ∷ SignAt l 91 ∷ x ∷ SignAt r 93 ∷ SignAt d 46 ∷ NameAt e (codes "hex") ∷ rest)) (OptionValue at code) rest
unfolding primary_at named_at option_at
option_reads n at l r d e end rest i = rw (code_reads i) refl

option_exists_reads : {x : Lexeme} {code : ℕ} (n at l r d e : ℕ) (end : ℕ) (rest : List Lexeme) → IsOptionCode x code → Answers (primary_at (reading.below n) end (NameAt at (codes "option") ∷ SignAt l 91 ∷ x ∷ SignAt r 93 ∷ SignAt d 46 ∷ NameAt e (codes "exists") ∷ rest)) (OptionExists at code) rest
unfolding primary_at named_at option_at
option_exists_reads n at l r d e end rest i = rw (code_reads i) refl

relay_reads : (n at l k r d e code : ℕ) (end : ℕ) (rest : List Lexeme) → code < 256 → Answers (primary_at (reading.below n) end (NameAt at (codes "relay4") ∷ SignAt l 91 ∷ NumberAt k code ∷ SignAt r 93 ∷ SignAt d 46 ∷ NameAt e (codes "hex") ∷ rest)) (RelayValue at code) rest
unfolding primary_at named_at relay_at
relay_reads n at l k r d e code end rest h = rw (less_true code 256 h) refl

relay_exists_reads : (n at l k r d e code : ℕ) (end : ℕ) (rest : List Lexeme) → code < 256 → Answers (primary_at (reading.below n) end (NameAt at (codes "relay4") ∷ SignAt l 91 ∷ NumberAt k code ∷ SignAt r 93 ∷ SignAt d 46 ∷ NameAt e (codes "exists") ∷ rest)) (RelayExists at code) rest
unfolding primary_at named_at relay_at
relay_exists_reads n at l k r d e code end rest h = rw (less_true code 256 h) refl

field_reads : (n at d e : ℕ) (name : List ℕ) (part : Field) (end : ℕ) (rest : List Lexeme) → field_by_name name ≡ Some part → Answers (primary_at (reading.below n) end (NameAt at (codes "pkt4") ∷ SignAt d 46 ∷ NameAt e name ∷ rest)) (FieldValue at part) rest
unfolding primary_at named_at field_after
field_reads n at d e name part end rest h = rw h refl

packet_reads : (n at d e : ℕ) (end : ℕ) (rest : List Lexeme) → Answers (primary_at (reading.below n) end (NameAt at (codes "pkt") ∷ SignAt d 46 ∷ NameAt e (codes "len") ∷ rest)) (FieldValue at Length) rest
unfolding primary_at named_at packet_at
packet_reads n at d e end rest = refl

member_reads : (n at o k c : ℕ) (name : List ℕ) (end : ℕ) (rest : List Lexeme) → 1 ≤ length name → length name ≤ 255 → Answers (primary_at (reading.below (suc n)) end (NameAt at (codes "member") ∷ SignAt o 40 ∷ StringAt k name ∷ SignAt c 41 ∷ rest)) (Member at name) rest
unfolding primary_at named_at
member_reads n at o k c name end rest least most = class_reads n at o k c end name rest least most

lower_reads : {n : ℕ} {us : List Lexeme} {a : Tree} (at o c : ℕ) → ReadsAny n us a → (end : ℕ) (rest : List Lexeme) → Answers (primary_at (reading.below (suc n)) end (NameAt at (codes "lcase") ∷ SignAt o 40 ∷ ((us ++ SignAt c 41 ∷ []) ++ rest))) (Lower at a) rest
unfolding primary_at named_at form_at
lower_reads at o c h end rest = rw (one_reads o c h end rest) refl

upper_reads : {n : ℕ} {us : List Lexeme} {a : Tree} (at o c : ℕ) → ReadsAny n us a → (end : ℕ) (rest : List Lexeme) → Answers (primary_at (reading.below (suc n)) end (NameAt at (codes "ucase") ∷ SignAt o 40 ∷ ((us ++ SignAt c 41 ∷ []) ++ rest))) (Upper at a) rest
unfolding primary_at named_at form_at
upper_reads at o c h end rest = rw (one_reads o c h end rest) refl

text_reads : {n : ℕ} {us : List Lexeme} {a : Tree} (at o c : ℕ) → ReadsAny n us a → (end : ℕ) (rest : List Lexeme) → Answers (primary_at (reading.below (suc n)) end (NameAt at (codes "uint32totext") ∷ SignAt o 40 ∷ ((us ++ SignAt c 41 ∷ []) ++ rest))) (IntToText at a) rest
unfolding primary_at named_at form_at
text_reads at o c h end rest = rw (one_reads o c h end rest) refl

concat_reads : {n : ℕ} {us vs : List Lexeme} {a b : Tree} (at o c d : ℕ) → ReadsAny n us a → ReadsAny n vs b → (end : ℕ) (rest : List Lexeme) → Answers (primary_at (reading.below (suc n)) end (NameAt at (codes "concat") ∷ SignAt o 40 ∷ ((us ++ SignAt c 44 ∷ (vs ++ SignAt d 41 ∷ [])) ++ rest))) (Concat at a b) rest
unfolding primary_at named_at form_at
concat_reads at o c d h g end rest = rw (two_read o c d h g end rest) refl

hexstring_reads : {n : ℕ} {us vs : List Lexeme} {a b : Tree} (at o c d : ℕ) → ReadsAny n us a → ReadsAny n vs b → (end : ℕ) (rest : List Lexeme) → Answers (primary_at (reading.below (suc n)) end (NameAt at (codes "hexstring") ∷ SignAt o 40 ∷ ((us ++ SignAt c 44 ∷ (vs ++ SignAt d 41 ∷ [])) ++ rest))) (HexString at a b) rest
unfolding primary_at named_at form_at
hexstring_reads at o c d h g end rest = rw (two_read o c d h g end rest) refl

choice_reads : {n : ℕ} {us vs ws : List Lexeme} {t a b : Tree} (at o c d e : ℕ) → ReadsAny n us t → ReadsAny n vs a → ReadsAny n ws b → (end : ℕ) (rest : List Lexeme) → Answers (primary_at (reading.below (suc n)) end (NameAt at (codes "ifelse") ∷ SignAt o 40 ∷ ((us ++ SignAt c 44 ∷ (vs ++ SignAt d 44 ∷ (ws ++ SignAt e 41 ∷ []))) ++ rest))) (IfElse at t a b) rest
unfolding primary_at named_at form_at
choice_reads at o c d e h g f end rest = ifelse_reads at o c d e h g f end rest

part_reads : {n : ℕ} (at o c d e : ℕ) {us : List Lexeme} {x y : Lexeme} {a : Tree} {start : ℤ} {len : Option ℤ} → ReadsAny n us a → IsSigned x start → IsLength y len → (end : ℕ) (rest : List Lexeme) → Answers (primary_at (reading.below (suc n)) end (NameAt at (codes "substring") ∷ SignAt o 40 ∷ ((us ++ SignAt c 44 ∷ x ∷ SignAt d 44 ∷ y ∷ SignAt e 41 ∷ []) ++ rest))) (Substring at a start len) rest
unfolding primary_at named_at form_at
part_reads at o c d e h i j end rest = substring_reads at o c d e h i j end rest

sum_first : (n : ℕ) (end : ℕ) (ts rest : List Lexeme) (t : Tree) → Answers (primary_at (reading.below n) end ts) t rest → InHand (sum_at (reading.below n)) (sign_at 43) (primary_at (reading.below n)) sum_of end ts rest t
unfolding sum_at
sum_first n end ts rest t e = chain_one (sign_at 43) (primary_at (reading.below n)) sum_of end ts rest t e

and_first : (n : ℕ) (end : ℕ) (ts rest : List Lexeme) (t : Tree) → Answers (not_at (reading.below n) end ts) t rest → InHand (and_at (reading.below n)) (word_at (codes "and")) (not_at (reading.below n)) and_of end ts rest t
unfolding and_at
and_first n end ts rest t e = chain_one (word_at (codes "and")) (not_at (reading.below n)) and_of end ts rest t e

or_first : (n : ℕ) (end : ℕ) (ts rest : List Lexeme) (t : Tree) → Answers (and_at (reading.below n) end ts) t rest → InHand (or_at (reading.below n)) (word_at (codes "or")) (and_at (reading.below n)) or_of end ts rest t
unfolding or_at
or_first n end ts rest t e = chain_one (word_at (codes "or")) (and_at (reading.below n)) or_of end ts rest t e

compare_alone : (n : ℕ) (end : ℕ) (ts rest : List Lexeme) (t : Tree) → Answers (sum_at (reading.below n) end ts) t rest → StopsCompare rest → Answers (compare_at (reading.below n) end ts) t rest
unfolding compare_at
compare_alone n end ts rest t e s = rw (e, s.no_equal) refl

compare_both : (n o : ℕ) (end : ℕ) (ts vs rest : List Lexeme) (a b : Tree) → Answers (sum_at (reading.below n) end ts) a (SignAt o 61 ∷ vs) → Answers (sum_at (reading.below n) end vs) b rest → Answers (compare_at (reading.below n) end ts) (Equal (at_of a) a b) rest
unfolding compare_at
compare_both n o end ts vs rest a b e f = rw (e, f) refl

not_without : (n : ℕ) (end : ℕ) (ts rest : List Lexeme) (t : Tree) → Answers (compare_at (reading.below n) end ts) t rest → Misses (word_at (codes "not")) ts → Answers (not_at (reading.below n) end ts) t rest
unfolding not_at
not_without n end ts rest t e f = rw (f, e) refl

negation_reads : (d : Deeper) (at : ℕ) (end : ℕ) (ts rest : List Lexeme) (t : Tree) → Answers (d.operand at end ts) t rest → Answers (not_at d end (NameAt at (codes "not") ∷ ts)) (Not at t) rest
unfolding not_at
negation_reads d at end ts rest t e = rw e refl

negation_below : (n at : ℕ) (end : ℕ) (ts rest : List Lexeme) (t : Tree) → Answers (not_at (reading.below n) end ts) t rest → Answers (not_at (reading.below (suc n)) end (NameAt at (codes "not") ∷ ts)) (Not at t) rest
unfolding reading.below
negation_below n at end ts rest t e = negation_reads (reading.below (suc n)) at end ts rest t e

-- what the grammar allows at a level, its reader gives
pub complete : {l : Level} {n : ℕ} {us : List Lexeme} {t : Tree} → Spells l n us t → Complete l n us t
complete (or_one {n = n} {ts = ts} {t = t} s) = record {
  reads = λ end rest stops no_and. or_first n end (ts ++ rest) rest t (hand_ends (complete s end rest stops) no_and);
}
complete (or_more {n = n} o {us = us} {vs = vs} {a = a} {b = b} s r) = record {
  reads = λ end rest stops no_and.
      subst (λ v. InHand (or_at (reading.below n)) (word_at (codes "or")) (and_at (reading.below n)) or_of end v rest (or_of a b)) (sym (append_assoc us (NameAt o (codes "or") ∷ vs) rest))
      (chain_more (NameAt o (codes "or")) o vs rest ((complete s).reads end (NameAt o (codes "or") ∷ (vs ++ rest)) (record { no_plus = refl; no_equal = refl }) refl) refl (hand_ends (complete r end rest stops) no_and));
}
complete (and_one {n = n} {ts = ts} {t = t} s) = λ end rest stops. and_first n end (ts ++ rest) rest t (complete s end rest stops)
complete (and_more {n = n} o {us = us} {vs = vs} {a = a} {b = b} s r) = λ end rest stops.
    subst (λ v. InHand (and_at (reading.below n)) (word_at (codes "and")) (not_at (reading.below n)) and_of end v rest (and_of a b)) (sym (append_assoc us (NameAt o (codes "and") ∷ vs) rest))
    (chain_more (NameAt o (codes "and")) o vs rest (complete s end (NameAt o (codes "and") ∷ (vs ++ rest)) (record { no_plus = refl; no_equal = refl })) refl (complete r end rest stops))
complete (not_none {n = n} {ts = ts} {t = t} s) = λ end rest stops. let c = complete s end rest stops in not_without n end (ts ++ rest) rest t c.0 c.1
complete (negated {n = n} {at = at} {ts = ts} {t = t} s) = λ end rest stops. negation_below n at end (ts ++ rest) rest t (complete s end rest stops)
complete (compare_one {n = n} {ts = ts} {t = t} s) = λ end rest stops. let c = complete s end rest in (compare_alone n end (ts ++ rest) rest t (hand_ends c.0 stops.no_plus) stops, c.1)
complete (equal {n = n} o {us = us} {vs = vs} {a = a} {b = b} s r) = λ end rest stops.
    let c = complete s end (SignAt o 61 ∷ (vs ++ rest)) in
    let d = complete r end rest in (
      subst (λ v. Answers (compare_at (reading.below n) end v) (Equal (at_of a) a b) rest) (sym (append_assoc us (SignAt o 61 ∷ vs) rest)) (compare_both n o end (us ++ SignAt o 61 ∷ (vs ++ rest)) (vs ++ rest) rest a b (hand_ends c.0 refl) (hand_ends d.0 stops.no_plus)),
      subst (λ v. Misses (word_at (codes "not")) v) (sym (append_assoc us (SignAt o 61 ∷ vs) rest)) c.1,
    )
complete (sum_one {n = n} {ts = ts} {t = t} s) = λ end rest. let c = complete s end rest in (sum_first n end (ts ++ rest) rest t c.0, c.1)
complete (sum_more {n = n} o {us = us} {vs = vs} {a = a} {b = b} s r) = λ end rest.
    let c = complete s end (SignAt o 43 ∷ (vs ++ rest)) in (
      subst (λ v. InHand (sum_at (reading.below n)) (sign_at 43) (primary_at (reading.below n)) sum_of end v rest (sum_of a b)) (sym (append_assoc us (SignAt o 43 ∷ vs) rest))
          (chain_more (SignAt o 43) o vs rest c.0 refl (complete r end rest).0),
      subst (λ v. Misses (word_at (codes "not")) v) (sym (append_assoc us (SignAt o 43 ∷ vs) rest)) c.1,
    )
complete (string {n = n} {at = at} {s = s}) = λ end rest. (literal_reads n at s end rest, refl)
complete (hexadecimal {n = n} {at = at} {digits = s}) = λ end rest. (hex_reads n at s end rest, refl)
complete (address {n = n} {at = at} {bytes = s}) = λ end rest. (address_reads n at s end rest, refl)
complete (number {n = n} {at = at} {k = k} h) = λ end rest. (number_reads n at k end rest h, refl)
complete (group {at = at} c s) = λ end rest. (group_reads at c (complete s) end rest, refl)
complete (option_hex {n = n} {at = at} {l = l} {r = r} {d = d} {e = e} i) = λ end rest. (option_reads n at l r d e end rest i, refl)
complete (option_exists {n = n} {at = at} {l = l} {r = r} {d = d} {e = e} i) = λ end rest. (option_exists_reads n at l r d e end rest i, refl)
complete (relay_hex {n = n} {at = at} {l = l} {k = k} {r = r} {d = d} {e = e} {code = code} h) = λ end rest. (relay_reads n at l k r d e code end rest h, refl)
complete (relay_exists {n = n} {at = at} {l = l} {k = k} {r = r} {d = d} {e = e} {code = code} h) = λ end rest. (relay_exists_reads n at l k r d e code end rest h, refl)
complete (field {n = n} {at = at} {d = d} {e = e} {name = name} {part = part} h) = λ end rest. (field_reads n at d e name part end rest h, refl)
complete (packet_length {n = n} {at = at} {d = d} {e = e}) = λ end rest. (packet_reads n at d e end rest, refl)
complete (member {n = n} {at = at} {o = o} {k = k} {c = c} {name = name} least most) = λ end rest. (member_reads n at o k c name end rest least most, refl)
complete (substring {at = at} {o = o} c d e s i j) = λ end rest. (part_reads at o c d e (complete s) i j end rest, refl)
complete (concat {at = at} {o = o} c d s r) = λ end rest. (concat_reads at o c d (complete s) (complete r) end rest, refl)
complete (ifelse {at = at} {o = o} c d e s r q) = λ end rest. (choice_reads at o c d e (complete s) (complete r) (complete q) end rest, refl)
complete (hexstring {at = at} {o = o} c d s r) = λ end rest. (hexstring_reads at o c d (complete s) (complete r) end rest, refl)
complete (lcase {at = at} {o = o} c s) = λ end rest. (lower_reads at o c (complete s) end rest, refl)
complete (ucase {at = at} {o = o} c s) = λ end rest. (upper_reads at o c (complete s) end rest, refl)
complete (uint32totext {at = at} {o = o} c s) = λ end rest. (text_reads at o c (complete s) end rest, refl)
