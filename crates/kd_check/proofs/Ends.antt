-- What is found in a text is the text from some place on.
use Rattle.std.proofs.Common.{◌≡◌, ℕ, zero, suc, ◌+◌, ◌-◌, ◌<◌, Bool, true, false, ◌&&◌, ◌==◌, cond, List, [], ◌∷◌, length, length-drop, drop, map, Option, Some, None, option_and_then, IfSome, refl, subst, sym, ap, ◌∙◌, arith}
use Rattle.std.specs.Prelude.{find, slice_get}
use Rattle.std.specs.List.{AllByRecursion, list_any, prefix_len}
use Rattle.std.proofs.lemmas.List.{drop-drop}
use Rattle.kd_check.specs.Place.{after_colon, after_commas, after_first, after_string, after_white, an_item, depth_behind, filled, has_key, is_closing, is_escaping, is_slash, is_white, item_numbered, member_named, member_with_key, members, named_by, named_in, rests, rests_within, segments_of, value_of_member}
use Rattle.serde_json.specs.Find.{index_of}

-- a text is what another has from a place on
pub record IsEnd (rest text : List ℕ) : Type 0 where
  pub from : ℕ
  pub is : rest ≡ drop from text

end_self : (text : List ℕ) → IsEnd text text
end_self text = record { from = 0; is = refl }

end_tail : (b : ℕ) (bytes : List ℕ) → IsEnd bytes (b ∷ bytes)
end_tail b bytes = record { from = 1; is = refl }

end_trans : {a b c : List ℕ} → IsEnd a b → IsEnd b c → IsEnd a c
end_trans {a} {b} {c} x y = record {
  from = y.from + x.from;
  is = x.is ∙ ap (λ t. drop x.from t) y.is ∙ drop-drop x.from y.from c;
}

end_white : (text : List ℕ) → IsEnd (after_white text) text
end_white text = record { from = prefix_len is_white text; is = refl }

end_string : (text : List ℕ) → IsEnd (after_string text) text
end_string [] = end_self []
end_string (b ∷ []) = end_tail b []
end_string (b ∷ c ∷ bytes) =
    by (b == 34) (b == 92) (end_string bytes) (end_string (c ∷ bytes))
  where
    by : (p q : Bool) → IsEnd (after_string bytes) bytes → IsEnd (after_string (c ∷ bytes)) (c ∷ bytes) → IsEnd (cond p (c ∷ bytes) (cond q (after_string bytes) (after_string (c ∷ bytes)))) (b ∷ c ∷ bytes)
    by true q one two = end_tail b (c ∷ bytes)
    by false true one two = end_trans one (end_trans (end_tail c bytes) (end_tail b (c ∷ bytes)))
    by false false one two = end_trans two (end_tail b (c ∷ bytes))

end_first : (b : ℕ) (bytes : List ℕ) → IsEnd (after_first b bytes) bytes
end_first b bytes = by (b == 34)
  where
    by : (p : Bool) → IsEnd (cond p (after_string bytes) bytes) bytes
    by true = end_string bytes
    by false = end_self bytes

-- each text of a list is what a text has from a place on
abbrev AreEnds : List (List ℕ) → List ℕ → Type 0
AreEnds texts text = AllByRecursion (λ t. IsEnd t text) texts

ends_trans : (texts : List (List ℕ)) (a b : List ℕ) → AreEnds texts a → IsEnd a b → AreEnds texts b
ends_trans [] a b all is = tt
ends_trans (t ∷ texts) a b all is = (end_trans all.0 is, ends_trans texts a b all.1 is)

ends_rests : (n : ℕ) (text : List ℕ) → AreEnds (rests_within n text) text
unfolding rests_within
ends_rests zero text = tt
ends_rests (suc n) [] = tt
ends_rests (suc n) (b ∷ bytes) =
    (end_self (b ∷ bytes), ends_trans (rests_within n (after_first b bytes)) (after_first b bytes) (b ∷ bytes) (ends_rests n (after_first b bytes)) (end_trans (end_first b bytes) (end_tail b bytes)))

ends_commas : (depth : ℕ) (texts : List (List ℕ)) (text : List ℕ) → AreEnds texts text → AreEnds (after_commas depth texts) text
ends_commas depth [] text all = tt
ends_commas depth ([] ∷ more) text all = tt
ends_commas depth ((b ∷ bytes) ∷ more) text all =
    by (depth == 0 && is_closing b) (depth == 0 && b == 44) (ends_commas depth more text all.1) (ends_commas (depth_behind b depth) more text all.1)
  where
    by : (p q : Bool) → AreEnds (after_commas depth more) text → AreEnds (after_commas (depth_behind b depth) more) text → AreEnds (cond p [] (cond q (bytes ∷ after_commas depth more) (after_commas (depth_behind b depth) more))) text
    by true q same deep = tt
    by false true same deep = (end_trans (end_tail b bytes) all.0, same)
    by false false same deep = deep

ends_white : (texts : List (List ℕ)) (text : List ℕ) → AreEnds texts text → AreEnds (map after_white texts) text
ends_white [] text all = tt
ends_white (t ∷ texts) text all = (end_trans (end_white t) all.0, ends_white texts text all.1)

ends_members : (text : List ℕ) → AreEnds (members text) text
ends_members text =
    ends_white (text ∷ after_commas 0 (rests text)) text (end_self text, ends_commas 0 (rests text) text (ends_rests (length text) text))

-- what is found, if it is, is what a text has from a place on
abbrev FoundIn : Option (List ℕ) → List ℕ → Type 0
FoundIn found text = IfSome found (λ t. IsEnd t text)

found_trans : (found : Option (List ℕ)) (a b : List ℕ) → FoundIn found a → IsEnd a b → FoundIn found b
found_trans None a b all is = tt
found_trans (Some t) a b all is = end_trans all is

found_by : (test : List ℕ → Bool) (texts : List (List ℕ)) (text : List ℕ) → AreEnds texts text → FoundIn (find test texts) text
found_by test [] text all = tt
found_by test (t ∷ texts) text all = by (test t) (found_by test texts text all.1)
  where
    by : (p : Bool) → FoundIn (find test texts) text → FoundIn (cond p (Some t) (find test texts)) text
    by true rest = all.0
    by false rest = rest

found_at : (texts : List (List ℕ)) (number : ℕ) (text : List ℕ) → AreEnds texts text → FoundIn (slice_get texts number) text
found_at [] number text all = tt
found_at (t ∷ texts) zero text all = all.0
found_at (t ∷ texts) (suc number) text all = found_at texts number text all.1

found_key : (key text : List ℕ) → FoundIn (member_with_key key text) text
found_key key text = by (list_any is_escaping key) (found_by (has_key key) (members text) text (ends_members text))
  where
    by : (p : Bool) → FoundIn (find (has_key key) (members text)) text → FoundIn (cond p None (find (has_key key) (members text))) text
    by true found = tt
    by false found = found

item_end : (t : List ℕ) → FoundIn (an_item t) t
item_end [] = tt
item_end (b ∷ bytes) = by (b == 93)
  where
    by : (p : Bool) → FoundIn (cond p None (Some (b ∷ bytes))) (b ∷ bytes)
    by true = tt
    by false = end_self (b ∷ bytes)

found_item : (text : List ℕ) (number : ℕ) → FoundIn (item_numbered text number) text
found_item text number = by (slice_get (members text) number) (found_at (members text) number text (ends_members text))
  where
    by : (o : Option (List ℕ)) → FoundIn o text → FoundIn (option_and_then an_item o) text
    by None found = tt
    by (Some t) found = found_trans (an_item t) t text (item_end t) found

found_member : (segment value : List ℕ) → FoundIn (member_named segment value) value
found_member segment [] = tt
found_member segment (b ∷ bytes) = by (b == 123) (b == 91)
  where
    numbered : (o : Option ℕ) → FoundIn (option_and_then (item_numbered bytes) o) bytes
    numbered None = tt
    numbered (Some n) = found_item bytes n

    by : (p q : Bool) → FoundIn (cond p (member_with_key segment bytes) (cond q (option_and_then (item_numbered bytes) (index_of segment)) None)) (b ∷ bytes)
    by true q = found_trans (member_with_key segment bytes) bytes (b ∷ bytes) (found_key segment bytes) (end_tail b bytes)
    by false true = found_trans (option_and_then (item_numbered bytes) (index_of segment)) bytes (b ∷ bytes) (numbered (index_of segment)) (end_tail b bytes)
    by false false = tt

end_colon : (whole rest : List ℕ) → IsEnd rest whole → IsEnd (after_colon whole rest) whole
end_colon whole [] is = end_self whole
end_colon whole (b ∷ bytes) is = by (b == 58)
  where
    by : (p : Bool) → IsEnd (cond p (after_white bytes) whole) whole
    by true = end_trans (end_white bytes) (end_trans (end_tail b bytes) is)
    by false = end_self whole

end_value : (member : List ℕ) → IsEnd (value_of_member member) member
end_value [] = end_self []
end_value (b ∷ bytes) = by (b == 34)
  where
    by : (p : Bool) → IsEnd (cond p (after_colon (b ∷ bytes) (after_white (after_string bytes))) (b ∷ bytes)) (b ∷ bytes)
    by true = end_colon (b ∷ bytes) (after_white (after_string bytes)) (end_trans (end_white (after_string bytes)) (end_trans (end_string bytes) (end_tail b bytes)))
    by false = end_self (b ∷ bytes)

found_named : (segments : List (List ℕ)) (member : List ℕ) → FoundIn (named_by segments member) member
found_named [] member = end_self member
found_named (segment ∷ segments) member =
    by (member_named segment (value_of_member member)) (found_member segment (value_of_member member)) (λ t. found_named segments t)
  where
    by : (o : Option (List ℕ)) → FoundIn o (value_of_member member) → ((t : List ℕ) → FoundIn (named_by segments t) t) → FoundIn (option_and_then (named_by segments) o) member
    by None found more = tt
    by (Some t) found more = found_trans (named_by segments t) t member (more t) (end_trans found (end_value member))

found_filled : (text : List ℕ) → FoundIn (filled text) text
found_filled [] = tt
found_filled (b ∷ bytes) = end_self (b ∷ bytes)

-- what a path names in a text is what the text has from a place on
found_in : (text path : List ℕ) → FoundIn (named_in text path) text
found_in text [] = found_trans (filled (after_white text)) (after_white text) text (found_filled (after_white text)) (end_white text)
found_in text (b ∷ bytes) = by (is_slash b) (b == 45 && length bytes == 0)
  where
    by : (p q : Bool) → FoundIn (cond p (named_by (segments_of bytes) (after_white text)) (cond q (filled (after_white text)) None)) text
    by true q = found_trans (named_by (segments_of bytes) (after_white text)) (after_white text) text (found_named (segments_of bytes) (after_white text)) (end_white text)
    by false true = found_trans (filled (after_white text)) (after_white text) text (found_filled (after_white text)) (end_white text)
    by false false = tt

-- the place is the difference of the lengths
end_place : (rest text : List ℕ) → 0 < length rest → IsEnd rest text → drop (length text - length rest) text ≡ rest
end_place rest text some is =
    let size = ap length is.is in
    let place : length text - length rest ≡ is.from = omega (arith, length-drop is.from text) in
    ap (λ n. drop n text) place ∙ sym is.is

pub place_holds : (text path rest : List ℕ) → named_in text path ≡ Some rest → 0 < length rest → drop (length text - length rest) text ≡ rest
place_holds text path rest is some =
    end_place rest text some (by (named_in text path) is (found_in text path))
  where
    by : (o : Option (List ℕ)) → o ≡ Some rest → FoundIn o text → IsEnd rest text
    by None e found = absurd (cc)
    by (Some t) e found = let same : t ≡ rest = cc in subst (λ x. IsEnd x text) same found
