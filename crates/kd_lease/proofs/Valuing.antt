-- The values that options give to codes, and the list that has them.
use Rattle.std.proofs.Common.{◌≡◌, ◌≢◌, ℕ, zero, suc, ◌+◌, ◌<◌, ◌≤◌, ◌==◌, List, [], ◌∷◌, ◌++◌, Bool, true, false, ◌&&◌, ◌||◌, nat_eq, if◌then◌else◌, Option, None, Some, refl, sym, subst, ap, ◌∙◌, length, slice_get, slice_index_or, slice_set, option_map, ◌⊎◌, inl, inr, arith}
use Rattle.std.specs.List.{find, flat_map, insert, range_with_len}
use Rattle.std.specs.Option.{option_or}
use Rattle.std.proofs.lemmas.Bool.Decides.{eqb_tells}
use Rattle.std.proofs.lemmas.List.Folds.{find-append, list_any-append}
use Rattle.std.proofs.Math.Bool.{or-false}
use Rattle.std.proofs.lemmas.Option.{same_Some, slice_get_within}
use Rattle.kd_classes.specs.declared.option_list.OptionData.{OptionData}
use Rattle.kd_lease.specs.Client.{wants_option}
use Rattle.kd_lease.specs.Given.{always_has, configured, configured_at, configured_options, value_in}
use Rattle.kd_options.specs.Message.{Seen}
use Rattle.kd_lease.specs.declared.values.Coded.{Coded}
use Rattle.kd_lease.specs.Valuing.{HasValues, HaveCodes, HasOtherCode, IsCodePlace, RiseAbove, always_at, marked, value_at}
use Rattle.kd_wire.specs.Area.{IsCode}

is_other : (a b : ℕ) → a ≢ b → nat_eq a b ≡ false
is_other a b ne = cases (eqb_tells a b) where
  cases : ((nat_eq a b ≡ true) × (a ≡ b)) ⊎ ((nat_eq a b ≡ false) × (a ≢ b)) → nat_eq a b ≡ false
  cases (inl t) = absurd (ne t.1)
  cases (inr f) = f.0

less_other : (a b : ℕ) → a < b → a ≢ b
less_other a b less eq = omega (arith, less, eq)

above_place : (a b : ℕ) → b ≤ a → a ≢ b → b < a
above_place a b le ne = omega (arith, le, ne)

is_same : (a : ℕ) → nat_eq a a ≡ true
is_same a = cases (eqb_tells a a) where
  cases : ((nat_eq a a ≡ true) × (a ≡ a)) ⊎ ((nat_eq a a ≡ false) × (a ≢ a)) → nat_eq a a ≡ true
  cases (inl t) = t.0
  cases (inr f) = absurd (f.1 refl)

map-or : (x y : Option OptionData) → option_map (λ o. o.value) (option_or x y) ≡ option_or (option_map (λ o. o.value) x) (option_map (λ o. o.value) y)
map-or None y = refl
map-or (Some x) y = refl

-- the value of an option for a code, if it has that code
abbrev own_value : OptionData → ℕ → Option (List ℕ)
own_value o code = if o.code == code then Some o.value else None

one : (o : OptionData) (code : ℕ) → value_in code (o ∷ []) ≡ own_value o code
one o code = cases (eqb_tells o.code code) where
  cases : ((nat_eq o.code code ≡ true) × (o.code ≡ code)) ⊎ ((nat_eq o.code code ≡ false) × (o.code ≢ code)) → value_in code (o ∷ []) ≡ own_value o code
  cases (inl t) = rw (t.0) refl
  cases (inr f) = rw (f.0) refl

value_in-append : (code : ℕ) (options : List OptionData) (o : OptionData) → value_in code (options ++ o ∷ []) ≡ option_or (value_in code options) (own_value o code)
value_in-append code options o =
    ap (option_map (λ p. p.value)) (find-append (λ p. p.code == code) options (o ∷ []))
    ∙ map-or (find (λ p. p.code == code) options) (find (λ p. p.code == code) (o ∷ []))
    ∙ ap (λ y. option_or (value_in code options) y) (one o code)

-- an option has a code, and is sent to all
abbrev own_flag : OptionData → ℕ → Bool
own_flag o code = o.always && o.code == code

always_has-append : (code : ℕ) (options : List OptionData) (o : OptionData) → always_has code (options ++ o ∷ []) ≡ (always_has code options || own_flag o code)
always_has-append code options o =
    list_any-append (λ p. p.always && p.code == code) options (o ∷ []) ∙ ap (λ y. always_has code options || y) (or-false (own_flag o code))

-- one more flag of the first of two, put last
or_last : (own more code rest : Bool) → ((own || more) && code || rest) ≡ (own && code || rest || more && code)
or_last true more true rest = refl
or_last true true false rest = sym (or-false rest)
or_last true false false rest = sym (or-false rest)
or_last false true true true = refl
or_last false true true false = refl
or_last false true false rest = sym (or-false rest)
or_last false false code rest = sym (or-false rest)

or_swap : (new rest : Bool) → (new || rest) ≡ (rest || new)
or_swap true true = refl
or_swap true false = refl
or_swap false rest = sym (or-false rest)

or_mid : (own new rest : Bool) → (own || (rest || new)) ≡ (own || rest || new)
or_mid true new rest = refl
or_mid false new rest = refl

always_insert : (place : ℕ) (list : List Coded) (e : Coded) (k : ℕ) → always_at k (insert list place e) ≡ (always_at k list || e.always && e.code == k)
always_insert zero list e k = or_swap (e.always && e.code == k) (always_at k list)
always_insert (suc place) [] e k = or-false (e.always && e.code == k)
always_insert (suc place) (x ∷ more) e k =
    ap (λ b. x.always && x.code == k || b) (always_insert place more e k) ∙ or_mid (x.always && x.code == k) (e.always && e.code == k) (always_at k more)

-- what marking the entry at a place keeps, and what it does

rise_marked : (always : Bool) (place : ℕ) (list : List Coded) (b : ℕ) → RiseAbove b list → RiseAbove b (marked always place list)
rise_marked always place [] b rise = rise
rise_marked always zero (x ∷ more) b rise = rise
rise_marked always (suc place) (x ∷ more) b rise = (rise.0, rise_marked always place more x.code rise.1)

codes_marked : (always : Bool) (place : ℕ) (list : List Coded) → HaveCodes list → HaveCodes (marked always place list)
codes_marked always place [] have = have
codes_marked always zero (x ∷ more) have = have
codes_marked always (suc place) (x ∷ more) have = (have.0, codes_marked always place more have.1)

pub mark_set : (place : ℕ) (list : List Coded) (x : Coded) → place < length list → x ≡ slice_index_or list place x
    → slice_set list place (record { code = x.code; value = x.value; always = true }) ≡ marked true place list
mark_set place [] x within is = absurd (omega (arith, within))
mark_set zero (y ∷ more) x within is =
    ap (λ (e : Coded). record { code = e.code; value = e.value; always = true } ∷ more) is
    ∙ ap (λ b. record { code = y.code; value = y.value; always = b } ∷ more) (sym (or_true y.always)) where
      or_true : (b : Bool) → (b || true) ≡ true
      or_true true = refl
      or_true false = refl
mark_set (suc place) (y ∷ more) x within is = ap (λ rest. y ∷ rest) (mark_set place more x (omega (arith, within)) is)

pub mark_none : (place : ℕ) (list : List Coded) → list ≡ marked false place list
mark_none place [] = refl
mark_none zero (y ∷ more) = ap (λ b. record { code = y.code; value = y.value; always = b } ∷ more) (sym (or-false y.always))
mark_none (suc place) (y ∷ more) = ap (λ rest. y ∷ rest) (mark_none place more)

-- a code below those of a list has no value in it
pub none_above : (list : List Coded) (b c : ℕ) → c ≤ b → RiseAbove b list → value_at c list ≡ None
none_above [] b c low rise = refl
none_above (x ∷ more) b c low rise =
    let above : c < x.code = omega (arith, low, rise.0) in
    let other : nat_eq x.code c ≡ false = is_other x.code c (λ eq. less_other c x.code above (sym eq)) in
    let last : c ≤ x.code = omega (arith, low, rise.0) in
    rw other (none_above more x.code c last rise.1)

pub rise_insert : (place : ℕ) (list : List Coded) (e : Coded) (b : ℕ) → b < e.code → RiseAbove b list → IsCodePlace e.code list place → HasOtherCode e.code list place
    → RiseAbove b (insert list place e)
rise_insert zero [] e b less rise at next = (less, tt)
rise_insert zero (x ∷ more) e b less rise at next = (less, (above_place x.code e.code at (next x refl), rise.1))
rise_insert (suc place) [] e b less rise at next = (less, tt)
rise_insert (suc place) (x ∷ more) e b less rise at next = (rise.0, rise_insert place more e x.code at.0 rise.1 at.1 next)

pub codes_insert : (place : ℕ) (list : List Coded) (e : Coded) → IsCode e.code → HaveCodes list → HaveCodes (insert list place e)
codes_insert zero list e is have = (is, have)
codes_insert (suc place) [] e is have = (is, tt)
codes_insert (suc place) (x ∷ more) e is have = (have.0, codes_insert place more e is have.1)

found_new : (place : ℕ) (list : List Coded) (e : Coded) → IsCodePlace e.code list place → value_at e.code (insert list place e) ≡ Some e.value.now
found_new zero list e at = rw (is_same e.code) refl
found_new (suc place) [] e at = rw (is_same e.code) refl
found_new (suc place) (x ∷ more) e at = rw (is_other x.code e.code (less_other x.code e.code at.0)) (found_new place more e at.1)

none_yet : (place : ℕ) (list : List Coded) (e : Coded) (b : ℕ) → RiseAbove b list → IsCodePlace e.code list place → HasOtherCode e.code list place → value_at e.code list ≡ None
none_yet place [] e b rise at next = refl
none_yet zero (x ∷ more) e b rise at next = rw (is_other x.code e.code (next x refl)) (none_above more x.code e.code at rise.1)
none_yet (suc place) (x ∷ more) e b rise at next =
    rw (is_other x.code e.code (less_other x.code e.code at.0)) (none_yet place more e x.code rise.1 at.1 next)

-- the values after one more entry at the front
value_behind : (x : Coded) (k : ℕ) (xs ys : List Coded) → value_at k xs ≡ value_at k ys → value_at k (x ∷ xs) ≡ value_at k (x ∷ ys)
value_behind x k xs ys same = cases (eqb_tells x.code k) where
  cases : ((nat_eq x.code k ≡ true) × (x.code ≡ k)) ⊎ ((nat_eq x.code k ≡ false) × (x.code ≢ k)) → value_at k (x ∷ xs) ≡ value_at k (x ∷ ys)
  cases (inl t) = rw (t.0) refl
  cases (inr f) = rw (f.0) same

other_insert : (place : ℕ) (list : List Coded) (e : Coded) (k : ℕ) → nat_eq e.code k ≡ false → value_at k (insert list place e) ≡ value_at k list
other_insert zero list e k ne = rw ne refl
other_insert (suc place) [] e k ne = rw ne refl
other_insert (suc place) (x ∷ more) e k ne = value_behind x k (insert more place e) more (other_insert place more e k ne)

value_marked : (always : Bool) (place : ℕ) (list : List Coded) (k : ℕ) → value_at k (marked always place list) ≡ value_at k list
value_marked always place [] k = refl
value_marked always zero (x ∷ more) k = cases (eqb_tells x.code k) where
  cases : ((nat_eq x.code k ≡ true) × (x.code ≡ k)) ⊎ ((nat_eq x.code k ≡ false) × (x.code ≢ k)) → value_at k (marked always zero (x ∷ more)) ≡ value_at k (x ∷ more)
  cases (inl t) = rw (t.0) refl
  cases (inr f) = rw (f.0) refl
value_marked always (suc place) (x ∷ more) k = value_behind x k (marked always place more) more (value_marked always place more k)

always_marked : (always : Bool) (place : ℕ) (list : List Coded) (x : Coded) (k : ℕ) → slice_get list place ≡ Some x
    → always_at k (marked always place list) ≡ (always_at k list || always && x.code == k)
always_marked always place [] x k at = absurd (omega (arith, slice_get_within [] place x at))
always_marked always zero (y ∷ more) x k at =
    or_last y.always always (y.code == k) (always_at k more) ∙ ap (λ e. always_at k (y ∷ more) || always && e.code == k) (same_Some y x at)
always_marked always (suc place) (y ∷ more) x k at =
    ap (λ b. y.always && y.code == k || b) (always_marked always place more x k at) ∙ or_mid (y.always && y.code == k) (always && x.code == k) (always_at k more)

known_behind : (y : Coded) (k : ℕ) (more : List Coded) → (v : List ℕ) × (value_at k more ≡ Some v) → (v : List ℕ) × (value_at k (y ∷ more) ≡ Some v)
known_behind y k more known = cases (eqb_tells y.code k) where
  cases : ((nat_eq y.code k ≡ true) × (y.code ≡ k)) ⊎ ((nat_eq y.code k ≡ false) × (y.code ≢ k)) → (v : List ℕ) × (value_at k (y ∷ more) ≡ Some v)
  cases (inl t) = (y.value.now, rw (t.0) refl)
  cases (inr f) = rw (f.0) known

-- the value of the entry at a place
known_at : (place : ℕ) (list : List Coded) (x : Coded) → slice_get list place ≡ Some x → (v : List ℕ) × (value_at x.code list ≡ Some v)
known_at place [] x is = absurd (omega (arith, slice_get_within [] place x is))
known_at zero (y ∷ more) x is = let same : y ≡ x = same_Some y x is in (y.value.now, rw (sym (ap (λ e. e.code) same)) (rw (is_same y.code) refl))
known_at (suc place) (y ∷ more) x is = known_behind y x.code more (known_at place more x is)

or-none : (x : Option (List ℕ)) → option_or x None ≡ x
or-none None = refl
or-none (Some x) = refl

-- an option whose code is not a code of options
pub put_none : (list : List Coded) (options : List OptionData) (o : OptionData) → ((k : ℕ) → IsCode k → o.code ≢ k) → HasValues list options → HasValues list (options ++ o ∷ [])
put_none list options o other h = record {
  rise = h.rise;
  codes = h.codes;
  each = λ k is. h.each k is ∙ sym (value_in-append k options o ∙ rw (is_other o.code k (other k is)) (or-none (value_in k options)));
  flags = λ k is. h.flags k is ∙ sym (always_has-append k options o ∙ none o.always (nat_eq o.code k) (always_has k options) (is_other o.code k (other k is)));
} where
  none : (always same rest : Bool) → same ≡ false → (rest || always && same) ≡ rest
  none true same rest is = rw is (or-false rest)
  none false same rest is = or-false rest

-- an option whose code has a value
pub put_known : (place : ℕ) (list : List Coded) (x : Coded) (options : List OptionData) (o : OptionData) → slice_get list place ≡ Some x → x.code ≡ o.code → IsCode o.code
    → HasValues list options → HasValues (marked o.always place list) (options ++ o ∷ [])
put_known place list x options o at eq is h = record {
  rise = rise_marked o.always place list 0 h.rise;
  codes = codes_marked o.always place list h.codes;
  each = λ k isk. value_marked o.always place list k ∙ h.each k isk ∙ sym (value_in-append k options o ∙ cases k (eqb_tells o.code k));
  flags = λ k isk. always_marked o.always place list x k at ∙ flags k isk;
} where
  found : (v : List ℕ) × (value_in o.code options ≡ Some v)
  found = let known = known_at place list x at in (known.0, sym (h.each o.code is) ∙ ap (λ c. value_at c list) (sym eq) ∙ known.1)

  cases : (k : ℕ) → ((nat_eq o.code k ≡ true) × (o.code ≡ k)) ⊎ ((nat_eq o.code k ≡ false) × (o.code ≢ k)) → option_or (value_in k options) (own_value o k) ≡ value_in k options
  cases k (inl t) =
      let there : value_in k options ≡ Some found.0 = ap (λ c. value_in c options) (sym t.1) ∙ found.1 in
      ap (λ x. option_or x (own_value o k)) there ∙ sym there
  cases k (inr f) = rw (f.0) (or-none (value_in k options))

  flags : (k : ℕ) → IsCode k → (always_at k list || o.always && x.code == k) ≡ always_has k (options ++ o ∷ [])
  flags k isk =
      ap (λ b. b || o.always && x.code == k) (h.flags k isk) ∙ ap (λ (c : ℕ). always_has k options || o.always && c == k) eq ∙ sym (always_has-append k options o)

-- an option whose code has no value yet
pub put_new : (place : ℕ) (list : List Coded) (e : Coded) (options : List OptionData) (o : OptionData) → e.code ≡ o.code → e.value.now ≡ o.value → e.always ≡ o.always → IsCode e.code
    → IsCodePlace e.code list place → HasOtherCode e.code list place → HasValues list options → HasValues (insert list place e) (options ++ o ∷ [])
put_new place list e options o code value flag is at next h =
    record {
      rise = rise_insert place list e 0 is.0 h.rise at next;
      codes = codes_insert place list e is h.codes;
      each = λ k isk. each k isk (eqb_tells e.code k);
      flags = λ k isk. always_insert place list e k ∙ flags k isk;
    } where
      each : (k : ℕ) → IsCode k → ((nat_eq e.code k ≡ true) × (e.code ≡ k)) ⊎ ((nat_eq e.code k ≡ false) × (e.code ≢ k)) → value_at k (insert list place e) ≡ value_in k (options ++ o ∷ [])
      each k isk (inl t) =
          let empty : value_in k options ≡ None = sym (h.each k isk) ∙ ap (λ c. value_at c list) (sym t.1) ∙ none_yet place list e 0 h.rise at next in
          let own : own_value o k ≡ Some o.value = ap (λ c. if nat_eq c k then Some o.value else None) (sym code) ∙ ap (λ b. if b then Some o.value else None) t.0 in
          ap (λ c. value_at c (insert list place e)) (sym t.1) ∙ found_new place list e at ∙ ap Some value
          ∙ sym (value_in-append k options o ∙ ap (λ x. option_or x (own_value o k)) empty ∙ own)
      each k isk (inr f) =
          let own : own_value o k ≡ None = ap (λ c. if nat_eq c k then Some o.value else None) (sym code) ∙ ap (λ b. if b then Some o.value else None) f.0 in
          other_insert place list e k f.0 ∙ h.each k isk ∙ sym (value_in-append k options o ∙ ap (λ x. option_or (value_in k options) x) own ∙ or-none (value_in k options))

      flags : (k : ℕ) → IsCode k → (always_at k list || e.always && e.code == k) ≡ always_has k (options ++ o ∷ [])
      flags k isk =
          ap (λ b. b || e.always && e.code == k) (h.flags k isk) ∙ ap (λ (c : ℕ). always_has k options || e.always && c == k) code
          ∙ ap (λ b. always_has k options || b && o.code == k) flag ∙ sym (always_has-append k options o)

-- an entry with another code tells nothing of whether a code is sent to all
flag_behind : (x : Coded) (k : ℕ) (more : List Coded) → x.code ≢ k → always_at k (x ∷ more) ≡ always_at k more
flag_behind x k more other = by x.always (nat_eq x.code k) (is_other x.code k other) where
  by : (always same : Bool) → same ≡ false → (always && same || always_at k more) ≡ always_at k more
  by true same is = rw is refl
  by false same is = refl

-- if no entry behind has its code, the flag of an entry is that of its code
first_flag : (x : Coded) (k : ℕ) (more : List Coded) → nat_eq x.code k ≡ true → always_at k more ≡ false → always_at k (x ∷ more) ≡ x.always
first_flag x k more same none = by x.always (nat_eq x.code k) (always_at k more) same none where
  by : (always is rest : Bool) → is ≡ true → rest ≡ false → (always && is || rest) ≡ always
  by true is rest e n = rw e refl
  by false is rest e n = n

-- a code below those of a list has no entry that is sent to all
none_always : (list : List Coded) (b c : ℕ) → c ≤ b → RiseAbove b list → always_at c list ≡ false
none_always [] b c low rise = refl
none_always (x ∷ more) b c low rise =
    let above : c < x.code = omega (arith, low, rise.0) in
    let last : c ≤ x.code = omega (arith, low, rise.0) in
    flag_behind x c more (λ eq. less_other c x.code above (sym eq)) ∙ none_always more x.code c last rise.1

-- if a function of codes, flags and values gives nothing for a code without a value, then over
-- consecutive codes it gives what it gives for the entries
pub over_entries : {A : Type 0} (give : ℕ → Bool → Option (List ℕ) → List A) (f : ℕ → List A) → ((code : ℕ) (always : Bool) → give code always None ≡ []) → (n a : ℕ) (list : List Coded) → RiseAbove a list
    → HaveCodes list → n + a ≡ 254
    → ((code : ℕ) → a < code → code < 255 → f code ≡ give code (always_at code list) (value_at code list)) → flat_map f (range_with_len (a + 1) n) ≡ flat_map (λ e. give e.code e.always (Some e.value.now)) list
over_entries give f none zero a [] rise have all same = refl
over_entries give f none zero a (x ∷ more) rise have all same = absurd (omega (arith, rise.0, have.0.1, all))
over_entries give f none (suc n) a [] rise have all same =
    let first : f (a + 1) ≡ [] = same (a + 1) (omega arith) (omega (arith, all)) ∙ none (a + 1) false in
    rw first (over_entries give f none n (a + 1) [] tt tt (omega (arith, all)) (λ code low high. same code (omega (arith, low)) high))
over_entries give f none (suc n) a (x ∷ more) rise have all same = cases (eqb_tells x.code (a + 1))
    (λ eq. over_entries give f none n (a + 1) more (subst (λ b. RiseAbove b more) eq rise.1) have.1 (omega (arith, all)) (later eq))
    (λ ne. over_entries give f none n (a + 1) (x ∷ more) (above ne, rise.1) have (omega (arith, all)) (λ code low high. same code (omega (arith, low)) high)) where
      above : x.code ≢ a + 1 → a + 1 < x.code
      above ne = above_place x.code (a + 1) (omega (arith, rise.0)) ne

      later : x.code ≡ a + 1 → (code : ℕ) → a + 1 < code → code < 255 → f code ≡ give code (always_at code more) (value_at code more)
      later eq code low high =
          let other : x.code ≢ code = less_other x.code code (omega (arith, eq, low)) in
          let behind : value_at code (x ∷ more) ≡ value_at code more = rw (is_other x.code code other) refl in
          same code (omega (arith, low)) high ∙ ap (λ b. give code b (value_at code (x ∷ more))) (flag_behind x code more other) ∙ ap (give code (always_at code more)) behind

      cases : ((nat_eq x.code (a + 1) ≡ true) × (x.code ≡ a + 1)) ⊎ ((nat_eq x.code (a + 1) ≡ false) × (x.code ≢ a + 1))
          → (x.code ≡ a + 1 → flat_map f (range_with_len (a + 1 + 1) n) ≡ flat_map (λ e. give e.code e.always (Some e.value.now)) more)
          → (x.code ≢ a + 1 → flat_map f (range_with_len (a + 1 + 1) n) ≡ flat_map (λ e. give e.code e.always (Some e.value.now)) (x ∷ more))
          → f (a + 1) ++ flat_map f (range_with_len (a + 1 + 1) n) ≡ flat_map (λ e. give e.code e.always (Some e.value.now)) (x ∷ more)
      cases (inl t) here beyond =
          let found : value_at (a + 1) (x ∷ more) ≡ Some x.value.now = rw (t.0) refl in
          let flag : always_at (a + 1) (x ∷ more) ≡ x.always = first_flag x (a + 1) more t.0 (none_always more x.code (a + 1) (omega (arith, t.1)) rise.1) in
          let first : f (a + 1) ≡ give x.code x.always (Some x.value.now) =
          same (a + 1) (omega arith) (omega (arith, all)) ∙ ap (λ b. give (a + 1) b (value_at (a + 1) (x ∷ more))) flag ∙ ap (give (a + 1) x.always) found
          ∙ ap (λ code. give code x.always (Some x.value.now)) (sym t.1) in
          ap (λ front. front ++ flat_map f (range_with_len (a + 1 + 1) n)) first ∙ ap (λ back. give x.code x.always (Some x.value.now) ++ back) (here t.1)
      cases (inr o) here beyond =
          let found : value_at (a + 1) (x ∷ more) ≡ None = none_above (x ∷ more) (a + 1) (a + 1) (omega arith) (above o.1, rise.1) in
          let first : f (a + 1) ≡ [] =
          same (a + 1) (omega arith) (omega (arith, all)) ∙ ap (give (a + 1) (always_at (a + 1) (x ∷ more))) found ∙ none (a + 1) (always_at (a + 1) (x ∷ more)) in
          ap (λ front. front ++ flat_map f (range_with_len (a + 1 + 1) n)) first ∙ beyond o.1

-- the entry at an index has a code
pub code_at : (list : List Coded) (i : ℕ) (other : Coded) → i < length list → HaveCodes list → IsCode (slice_index_or list i other).code
code_at [] i other less have = absurd (omega (arith, less))
code_at (x ∷ more) zero other less have = have.0
code_at (x ∷ more) (suc i) other less have = code_at more i other (omega (arith, less)) have.1

-- a list's entries give what the codes of options give
pub all_entries : (m : Seen) (list : List Coded) (options : List OptionData) → HasValues list options
    → flat_map (λ e. configured (wants_option e.code m || e.always) e.code (Some e.value.now)) list ≡ configured_options m options
unfolding configured_options
all_entries m list options h =
    sym (over_entries (λ code always value. configured (wants_option code m || always) code value) (configured_at m options) (λ code always. refl) 254 0 list h.rise h.codes refl
    (λ code low high. ap (λ value. configured (wants_option code m || always_has code options) code value) (sym (h.each code (low, high)))
    ∙ ap (λ always. configured (wants_option code m || always) code (value_at code list)) (sym (h.flags code (low, high)))))
