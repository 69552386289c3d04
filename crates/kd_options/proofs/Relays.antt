-- The sub-options of relay information: the walk over the bytes gives the list of the definition.
use Rattle.std.proofs.Common.{◌≡◌, ℕ, zero, suc, ◌<◌, ◌≤◌, Bool, true, false, List, [], ◌∷◌, ◌++◌, length, take, Option, Some, None, refl, sym, ap, ◌∙◌, inl, inr, arith, length-take}
use Rattle.std.specs.List.{flat_map}
use Rattle.kd_wire.specs.Area.{Piece}
use Rattle.kd_options.specs.Relay.{sub_text, IsSubOptions, IsRelayList}
use Rattle.std.proofs.Math.Seq.{take-append_seam}
use Rattle.std.proofs.lemmas.Bool.{false≢true}
use Rattle.kd_options.specs.RelayWalk.{subs_from, are_whole_from, sub_options_of, sub_options_in}
use Rattle.kd_options.specs.RelayFront.{IsCutSubOption}

subs_from-skip : (value rest : List ℕ) → subs_from (length value) (value ++ rest) ≡ subs_from 0 rest
unfolding subs_from
subs_from-skip [] rest = refl
subs_from-skip (b ∷ value) rest = subs_from-skip value rest

are_whole_from-skip : (value rest : List ℕ) → are_whole_from (length value) (value ++ rest) ≡ are_whole_from 0 rest
unfolding are_whole_from
are_whole_from-skip [] rest = refl
are_whole_from-skip (b ∷ value) rest = are_whole_from-skip value rest

-- the walk gives the sub-option that the bytes begin with
pub subs_from-front : (code : ℕ) (value rest : List ℕ) → subs_from 0 (code ∷ length value ∷ (value ++ rest)) ≡ (code, value) ∷ subs_from 0 rest
unfolding subs_from
subs_from-front code value rest = rw (take-append_seam value rest, subs_from-skip value rest) refl

pub are_whole_from-front : (code : ℕ) (value rest : List ℕ) → are_whole_from 0 (code ∷ length value ∷ (value ++ rest)) ≡ are_whole_from 0 rest
unfolding are_whole_from
are_whole_from-front code value rest = are_whole_from-skip value rest

pub subs_from-none : subs_from 0 [] ≡ []
unfolding subs_from
subs_from-none = refl

pub are_whole_from-none : are_whole_from 0 [] ≡ true
unfolding are_whole_from
are_whole_from-none = refl

short_skip : (bytes : List ℕ) (n : ℕ) → length bytes < n → are_whole_from n bytes ≡ false
unfolding are_whole_from
short_skip bytes zero less = absurd (omega (arith, less))
short_skip [] (suc n) less = refl
short_skip (b ∷ bytes) (suc n) less = short_skip bytes n (omega (arith, less))

pub are_whole_from-cut : (bytes : List ℕ) → IsCutSubOption bytes → are_whole_from 0 bytes ≡ false
unfolding are_whole_from
are_whole_from-cut [] is = absurd is
are_whole_from-cut (code ∷ []) is = refl
are_whole_from-cut (code ∷ n ∷ bytes) is = short_skip bytes n is

length_taken : (n : ℕ) (bytes : List ℕ) → n ≤ length bytes → length (take n bytes) ≡ n
length_taken n bytes fits = omega (arith, length-take n bytes)

-- a whole value is the text of its sub-options, after the bytes that are skipped
spelled_again : (n : ℕ) (bytes : List ℕ) → are_whole_from n bytes ≡ true → (bytes ≡ take n bytes ++ flat_map sub_text (subs_from n bytes)) × (n ≤ length bytes)
unfolding are_whole_from subs_from
spelled_again zero [] whole = (refl, omega arith)
spelled_again (suc n) [] whole = absurd (false≢true whole)
spelled_again (suc n) (b ∷ bytes) whole =
    let rest = spelled_again n bytes whole in (ap (λ x. b ∷ x) rest.0, omega (arith, rest.1))
spelled_again zero (code ∷ []) whole = absurd (false≢true whole)
spelled_again zero (code ∷ n ∷ bytes) whole =
    let rest = spelled_again n bytes whole in
    let size : length (take n bytes) ≡ n = length_taken n bytes rest.1 in (
      (λ i. code ∷ sym size i ∷ rest.0 i),
      omega arith,
    )

whole_text : (list : List Piece) → are_whole_from 0 (flat_map sub_text list) ≡ true
whole_text [] = are_whole_from-none
whole_text (p ∷ list) = are_whole_from-front p.0 p.1 (flat_map sub_text list) ∙ whole_text list

-- the walk gives the sub-options of the definition
pub is_sub_options : (value : List ℕ) → IsSubOptions value (sub_options_of value)
is_sub_options value = by (are_whole_from 0 value) refl
  where
    by : (t : Bool) → are_whole_from 0 value ≡ t → IsSubOptions value (sub_options_of value)
    by true t = rw t (inl ((spelled_again 0 value t).0))
    by false t = rw t (inr ((λ other e. false≢true (sym t ∙ ap (are_whole_from 0) e ∙ whole_text other)), refl))

pub is_relay_list : (value : Option (List ℕ)) → IsRelayList value (sub_options_in value)
is_relay_list None = refl
is_relay_list (Some value) = is_sub_options value

-- the walk over the texts of sub-options gives them back
walk_back : (list : List Piece) → subs_from 0 (flat_map sub_text list) ≡ list
walk_back [] = subs_from-none
walk_back (p ∷ list) = subs_from-front p.0 p.1 (flat_map sub_text list) ∙ ap (λ rest. p ∷ rest) (walk_back list)

-- a value has one list of sub-options
one_list : (value : List ℕ) (list other : List Piece) → IsSubOptions value list → IsSubOptions value other → list ≡ other
one_list value list other (inl e) (inl f) = sym (walk_back list) ∙ ap (subs_from 0) (sym e ∙ f) ∙ walk_back other
one_list value list other (inl e) (inr f) = absurd (f.0 list e)
one_list value list other (inr e) (inl f) = absurd (e.0 other f)
one_list value list other (inr e) (inr f) = e.1 ∙ sym f.1

pub one_relay_list : (value : Option (List ℕ)) (list other : List Piece) → IsRelayList value list → IsRelayList value other → list ≡ other
one_relay_list None list other e f = e ∙ sym f
one_relay_list (Some value) list other e f = one_list value list other e f
