-- The line of an event in a record is the event's line in a replay.
use Rattle.std.proofs.Common.{◌≡◌, ℕ, ◌+◌, ◌-◌, ◌*◌, ◌/◌, ◌%◌, ◌^◌, ◌<◌, ◌≤◌, Bool, true, false, List, [], ◌∷◌, ◌++◌, None, Some, refl, sym, ap, ◌∙◌, arith, append_assoc, length-append, true≢false}
use Rattle.std.specs.Prelude.{◌&&◌, nat_lt, if◌then◌else◌, decimal}
use Rattle.std.specs.Char.{is_ascii_digit}
use Rattle.std.specs.List.{All, AllPass, flat_map}
use Rattle.std.proofs.lemmas.Bool.{ne_eqb}
use Rattle.std.proofs.lemmas.Bool.Decides.{nat_tests}
use Rattle.std.proofs.lemmas.Grind.{flat_map-append}
use Rattle.std.proofs.lemmas.Fmt.{decimal_by_steps, decimal_nonempty}
use Rattle.std.proofs.lemmas.List.Elements.{All-append, All-head, All-nil, All-tail}
use Rattle.hex.specs.Hex.{encode_lower, is_hex_digit}
use Rattle.hex.proofs.HexLemmas.{decode_of-encode_lower, decode_of-ok}
use Rattle.kd_event.specs.declared.event.Event.{Event}
use Rattle.kd_text.specs.Words.{HasNo}
use Rattle.kd_text.proofs.Plain.{plain_append}
use Rattle.kd_loops.specs.Arriving.{IsRecordable}
use Rattle.kd_loops.specs.Lines.{IsEventLine, IsMoment, lines_of, number_after}
use Rattle.kd_loops.specs.Laws.{BatchesReplay, RecordsReplay}
use Rattle.kd_loops.specs.Recording.{record_line}
use Rattle.kd_loops.specs.Serving.{Batch, events_in, record_of}
use Rattle.kd_loops.proofs.Looking.{lines_line}
use Rattle.kd_loops.proofs.Spelling.{digits_plain}
use Rattle.kd_loops.proofs.Texts.{decimal_length, hex_length}

number_then : (xs ys : List ℕ) (n k : ℕ) → number_after n xs ≡ Some k → number_after n (xs ++ ys) ≡ number_after k ys
number_then [] ys n k e = let same : n ≡ k = cc in ap (λ m. number_after m ys) same
number_then (x ∷ xs) ys n k e = by (is_ascii_digit x && nat_lt (n * 10 + (x - 48)) (2 ^ 64)) (λ h. number_then xs ys (n * 10 + (x - 48)) k h) e
  where
    by : (t : Bool) → (number_after (n * 10 + (x - 48)) xs ≡ Some k → number_after (n * 10 + (x - 48)) (xs ++ ys) ≡ number_after k ys)
        → (if t then number_after (n * 10 + (x - 48)) xs else None) ≡ Some k → (if t then number_after (n * 10 + (x - 48)) (xs ++ ys) else None) ≡ number_after k ys
    by false later h = absurd (cc)
    by true later h = later h

digit_is : (d : ℕ) → d < 10 → is_ascii_digit (48 + d) ≡ true
digit_is d small = grind (arith, nat_tests)

fits_is : (n : ℕ) → n < 2 ^ 64 → nat_lt n (2 ^ 64) ≡ true
fits_is n small = grind (arith, nat_tests)

number_digit : (n d : ℕ) → d < 10 → n * 10 + d < 2 ^ 64 → number_after n ((48 + d) ∷ []) ≡ Some (n * 10 + d)
number_digit n d small low =
    let e : (48 + d) - 48 ≡ d = omega arith in
    rw (e, digit_is d small, fits_is (n * 10 + d) low) refl

-- a number's digits spell it
decimal_number : (n : ℕ) → n < 2 ^ 64 → number_after 0 (decimal n) ≡ Some n
decimal_number n low = decimal_by_steps (λ n digits. n < 2 ^ 64 → number_after 0 digits ≡ Some n) one more n low low
  where
    one : (n : ℕ) → n < 10 → n < 2 ^ 64 → number_after 0 ((48 + n) ∷ []) ≡ Some n
    one n small low = number_digit 0 n small (omega arith) ∙ ap Some (let e : 0 * 10 + n ≡ n = omega arith in e)

    more : (n : ℕ) (digits : List ℕ) → 10 ≤ n → (n / 10 < 2 ^ 64 → number_after 0 digits ≡ Some (n / 10)) → n < 2 ^ 64 → number_after 0 (digits ++ (48 + n % 10) ∷ []) ≡ Some n
    more n digits large before low =
        let e : n / 10 * 10 + n % 10 ≡ n = omega arith in
        number_then digits ((48 + n % 10) ∷ []) 0 (n / 10) (before (omega arith)) ∙ number_digit (n / 10) (n % 10) (omega arith) (omega arith) ∙ ap Some e

decimal_is : (n : ℕ) → n < 2 ^ 64 → IsMoment (decimal n) n
decimal_is n low = record { some = decimal_nonempty n low; few = decimal_length n low; number = decimal_number n low }

hex_plain : (text : List ℕ) → AllPass is_hex_digit text → HasNo 10 text
hex_plain [] are = tt
hex_plain (c ∷ text) are =
    let here : is_hex_digit c ≡ true = All-head (λ x. is_hex_digit x ≡ true) c text are in
    (ne_eqb c 10 (λ e. true≢false (sym here ∙ ap is_hex_digit e)), hex_plain text (All-tail (λ x. is_hex_digit x ≡ true) c text are))

module _ (event : Event) (is : IsRecordable event) where
  spelled : IsEventLine (decimal event.moment ++ 32 ∷ encode_lower event.bytes) event
  spelled = record {
    digits = decimal event.moment;
    hex = encode_lower event.bytes;
    short = omega (arith, length-append (decimal event.moment) (32 ∷ encode_lower event.bytes), decimal_length event.moment is.moment, hex_length event.bytes, is.room);
    whole = refl;
    moment = decimal_is event.moment is.moment;
    bytes = decode_of-encode_lower event.bytes is.bytes;
  }

  plain : HasNo 10 (decimal event.moment ++ 32 ∷ encode_lower event.bytes)
  plain = plain_append 10 (decimal event.moment) (32 ∷ encode_lower event.bytes)
      (digits_plain 10 refl (decimal event.moment) 0 event.moment (decimal_number event.moment is.moment))
      (refl, hex_plain (encode_lower event.bytes) (decode_of-ok (encode_lower event.bytes) event.bytes (decode_of-encode_lower event.bytes is.bytes)).1)

  first_line : (rest : List ℕ) → lines_of (record_line event ++ rest) ≡ (decimal event.moment ++ 32 ∷ encode_lower event.bytes) ∷ lines_of rest
  unfolding record_line
  first_line rest =
      let digits = decimal event.moment in
      let hex = encode_lower event.bytes in
      let e : (digits ++ 32 ∷ [] ++ hex ++ 10 ∷ []) ++ rest ≡ (digits ++ 32 ∷ hex) ++ 10 ∷ rest = simp append_assoc in
      ap lines_of e ∙ lines_line (digits ++ 32 ∷ hex) rest plain

pub records_replay : RecordsReplay
records_replay [] are = tt
records_replay (event ∷ events) are =
    let is = All-head IsRecordable event events are in
    rw (first_line event is (flat_map record_line events)) (spelled event is, records_replay events (All-tail IsRecordable event events are))

-- the records of batches are the record of their events
pub all_recordable : (list : List Batch) → All IsRecordable (flat_map events_in list)
all_recordable [] = All-nil IsRecordable
all_recordable (b ∷ list) = All-append IsRecordable (events_in b) (flat_map events_in list) b.recordable (all_recordable list)

pub records_are : (list : List Batch) → flat_map record_of list ≡ flat_map record_line (flat_map events_in list)
records_are [] = refl
records_are (b ∷ list) = ap (λ r. record_of b ++ r) (records_are list) ∙ sym (flat_map-append record_line (events_in b) (flat_map events_in list))

pub batches_replay : BatchesReplay
batches_replay list = rw (records_are list) (records_replay (flat_map events_in list) (all_recordable list))
