-- The plain text is the text with spaces, and zeros before points, in place of some bytes.
use Rattle.std.proofs.Common.{◌≡◌, ℕ, suc, Bool, true, false, not, ◌&&◌, ◌==◌, nat_eq, List, [], ◌∷◌, ◌++◌, length, Some, None, inl, inr, refl, sym, ap, ◌∙◌, subst, arith, if◌then◌else◌, true≢false}
use Rattle.std.specs.Prelude.{codes, flat_map}
use Rattle.std.specs.List.{list_any, starts_with}
use Rattle.std.proofs.lemmas.Bool.{eqb-false, eqb-true}
use Rattle.kd_plain.specs.Plain.{Span, Quoted, Comment, Endless, Single, span_bytes, a_blank_in_line, a_json_space, a_line_feed, bracket_next, blanks, byte_or_zero, is_apart, is_endless, json_bytes, plain, point_next, spans, with_zeros}
use Rattle.kd_plain.specs.PlainLaws.{IsBlankedText, IsPlainAlready, MayStandFor}
use Rattle.kd_plain.proofs.Spans.{bytes_of_spans}

unchanged : (text : List ℕ) → IsBlankedText text text
unchanged [] = tt
unchanged (b ∷ text) = (inl refl, unchanged text)

-- a point at the beginning of a text is there with more behind it
point_stays : (a b : List ℕ) → starts_with nat_eq a (codes ".") ≡ true → starts_with nat_eq (a ++ b) (codes ".") ≡ true
point_stays [] b e = absurd cc
point_stays (x ∷ a) b e = e

stands_before_more : (x : ℕ) (a b : List ℕ) (c : ℕ) → MayStandFor x a c → MayStandFor x (a ++ b) c
stands_before_more x a b c (inl same) = inl same
stands_before_more x a b c (inr (other, inl space)) = inr (other, inl space)
stands_before_more x a b c (inr (other, inr (zero, point))) = inr (other, inr (zero, point_stays a b point))

one_after_other : (a b c d : List ℕ) → IsBlankedText a c → IsBlankedText b d → IsBlankedText (a ++ b) (c ++ d)
one_after_other [] b [] d p q = q
one_after_other [] b (x ∷ c) d p q = absurd p
one_after_other (x ∷ a) b [] d p q = absurd p
one_after_other (x ∷ a) b (y ∷ c) d p q = (stands_before_more x a b y p.0, one_after_other a b c d p.1 q)

-- a byte of a comment
blank_is : (b : ℕ) (behind : List ℕ) → MayStandFor b behind (if a_line_feed b then b else 32)
blank_is b behind = at (b == 10) refl
  where
    at : (k : Bool) → (b == 10) ≡ k → MayStandFor b behind (if k then b else 32)
    at true h = inl refl
    at false h = inr (eqb-false b 10 h, inl refl)

blanks_are : (comment : List ℕ) → IsBlankedText comment (blanks comment)
blanks_are [] = tt
blanks_are (b ∷ comment) = (blank_is b comment, blanks_are comment)

-- a comma that may be a space
comma_is : (b : ℕ) (next : Bool) (behind : List ℕ) → MayStandFor b behind (if b == 44 && next then 32 else b)
comma_is b next behind = at (b == 44) refl next
  where
    at : (k : Bool) → (b == 44) ≡ k → (n : Bool) → MayStandFor b behind (if k && n then 32 else b)
    at true h true = inr (λ e. absurd (omega (arith, e, eqb-true b 44 h)), inl refl)
    at true h false = inl refl
    at false h n = inl refl

-- white space that may be a zero, which is no comma
zero_is : (b : ℕ) (apart : Bool) (rest : List Span) (next : Bool) → MayStandFor b (flat_map span_bytes rest) (if byte_or_zero apart b rest == 44 && next then 32 else byte_or_zero apart b rest)
zero_is b false rest next = comma_is b next (flat_map span_bytes rest)
zero_is b true rest next = at (a_blank_in_line b) refl (point_next rest) refl
  where
    at : (k : Bool) → a_blank_in_line b ≡ k → (p : Bool) → point_next rest ≡ p
        → MayStandFor b (flat_map span_bytes rest) (if (if k && p then 48 else b) == 44 && next then 32 else (if k && p then 48 else b))
    at true white true point = inr (λ e. absurd (true≢false (sym white ∙ ap a_blank_in_line e)), inr (refl, point))
    at true white false point = comma_is b next (flat_map span_bytes rest)
    at false white p point = comma_is b next (flat_map span_bytes rest)

json_is : (apart : Bool) (spans : List Span) → IsBlankedText (flat_map span_bytes spans) (json_bytes (with_zeros apart spans))
json_is apart [] = tt
json_is apart (Quoted bytes ∷ rest) = one_after_other bytes (flat_map span_bytes rest) bytes (json_bytes (with_zeros true rest)) (unchanged bytes) (json_is true rest)
json_is apart (Comment bytes ∷ rest) = one_after_other bytes (flat_map span_bytes rest) (blanks bytes) (json_bytes (with_zeros true rest)) (blanks_are bytes) (json_is true rest)
json_is apart (Endless bytes ∷ rest) = one_after_other bytes (flat_map span_bytes rest) (blanks bytes) (json_bytes (with_zeros true rest)) (blanks_are bytes) (json_is true rest)
json_is apart (Single b ∷ rest) =
    (zero_is b apart rest (bracket_next (with_zeros (is_apart (Single b)) rest)), json_is (is_apart (Single b)) rest)

-- the plain text, if there is one
some_plain : (text bytes : List ℕ) → plain text ≡ Some bytes → json_bytes (with_zeros true (spans text)) ≡ bytes
some_plain text bytes is = at (list_any is_endless (spans text)) is
  where
    at : (k : Bool) → (if k then None else Some (json_bytes (with_zeros true (spans text)))) ≡ Some bytes → json_bytes (with_zeros true (spans text)) ≡ bytes
    at true h = absurd cc
    at false h = cc

pub plain_is_blanked : (text bytes : List ℕ) → plain text ≡ Some bytes → IsBlankedText text bytes
plain_is_blanked text bytes is =
    subst (λ t. IsBlankedText t bytes) (bytes_of_spans text) (subst (λ t. IsBlankedText (flat_map span_bytes (spans text)) t) (some_plain text bytes is) (json_is true (spans text)))

same_size : (text blanked : List ℕ) → IsBlankedText text blanked → length blanked ≡ length text
same_size [] [] p = refl
same_size [] (c ∷ blanked) p = absurd p
same_size (b ∷ text) [] p = absurd p
same_size (b ∷ text) (c ∷ blanked) p = ap suc (same_size text blanked p.1)

pub plain_has_length : (text bytes : List ℕ) → plain text ≡ Some bytes → length bytes ≡ length text
plain_has_length text bytes is = same_size text bytes (plain_is_blanked text bytes is)

-- spans with nothing that only Kea allows stand for their own bytes
none_endless : (spans : List Span) → IsPlainAlready spans → list_any is_endless spans ≡ false
none_endless [] p = refl
none_endless (Quoted bytes ∷ rest) p = none_endless rest p
none_endless (Comment bytes ∷ rest) p = absurd p
none_endless (Endless bytes ∷ rest) p = absurd p
none_endless (Single b ∷ rest) p = none_endless rest p.2

comma_stays : (b : ℕ) (next : Bool) → (b ≡ 44 → next ≡ false) → (if b == 44 && next then 32 else b) ≡ b
comma_stays b next h = at (b == 44) refl
  where
    at : (k : Bool) → (b == 44) ≡ k → (if k && next then 32 else b) ≡ b
    at true e = rw (h (eqb-true b 44 e)) refl
    at false e = refl

own_bytes : (spans : List Span) → IsPlainAlready spans → json_bytes spans ≡ flat_map span_bytes spans
own_bytes [] p = refl
own_bytes (Quoted bytes ∷ rest) p = ap (λ t. bytes ++ t) (own_bytes rest p)
own_bytes (Comment bytes ∷ rest) p = absurd p
own_bytes (Endless bytes ∷ rest) p = absurd p
own_bytes (Single b ∷ rest) p =
    ap (λ c. c ∷ json_bytes rest) (comma_stays b (bracket_next rest) p.0) ∙ ap (λ t. b ∷ t) (own_bytes rest p.2)

-- without white space right before a point no byte becomes a zero
byte_stays : (apart : Bool) (b : ℕ) (rest : List Span) → (a_json_space b ≡ true → point_next rest ≡ false) → byte_or_zero apart b rest ≡ b
byte_stays false b rest h = refl
byte_stays true b rest h = at (a_json_space b) refl
  where
    at : (k : Bool) → a_json_space b ≡ k → (if k && not (a_line_feed b) && point_next rest then 48 else b) ≡ b
    at true white = at_feed (a_line_feed b)
      where
        at_feed : (f : Bool) → (if not f && point_next rest then 48 else b) ≡ b
        at_feed true = refl
        at_feed false = rw (h white) refl
    at false white = refl

spans_stay : (apart : Bool) (spans : List Span) → IsPlainAlready spans → with_zeros apart spans ≡ spans
spans_stay apart [] p = refl
spans_stay apart (Quoted bytes ∷ rest) p = ap (λ t. Quoted bytes ∷ t) (spans_stay true rest p)
spans_stay apart (Comment bytes ∷ rest) p = absurd p
spans_stay apart (Endless bytes ∷ rest) p = absurd p
spans_stay apart (Single b ∷ rest) p =
    ap (λ c. Single c ∷ with_zeros (is_apart (Single b)) rest) (byte_stays apart b rest p.1)
    ∙ ap (λ t. Single b ∷ t) (spans_stay (is_apart (Single b)) rest p.2)

pub plain_stays : (text : List ℕ) → IsPlainAlready (spans text) → plain text ≡ Some text
plain_stays text p =
    rw (none_endless (spans text) p) (ap Some (ap json_bytes (spans_stay true (spans text) p) ∙ own_bytes (spans text) p ∙ bytes_of_spans text))
