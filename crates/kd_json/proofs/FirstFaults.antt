-- The place of the first value that breaks a rule, and the kind of its fault.
use Rattle.std.proofs.Common.{◌≡◌, ℕ, ◌+◌, ◌<◌, ◌≤◌, Bool, true, false, not, ◌&&◌, nat_le, nat_lt, nat_eq, if◌then◌else◌, List, [], ◌∷◌, ◌++◌, length, get_or, take, drop, codes, Option, Some, None, ap, sym, refl, ◌∙◌, arith, append-nil, append_assoc}
use Rattle.std.proofs.lemmas.Bool.{and_from, and_left, and_right, le-leb, leb-true, lt-leb, ltb-false, ltb-true}
use Rattle.std.proofs.lemmas.List.{length-take, take-append-drop, take_all, take_more}
use Rattle.std.proofs.lemmas.List.Folds.{list_all-append, list_all_more}
use Rattle.std.proofs.lemmas.Option.{slice_get_read}
use Rattle.std.specs.Fmt.{decimal}
use Rattle.std.specs.List.{list_all, list_any}
use Rattle.kd_config.proofs.Tests.{both_passed}
use Rattle.kd_json.proofs.Shared.{must_failed, must_passed}
use Rattle.kd_config.specs.Address.{has_address}
use Rattle.kd_config.specs.Reservation.{listed}
use Rattle.kd_json.specs.Faults.{config_fault_number, fault_path}
use Rattle.kd_json.specs.FirstFault.{PoolFails, ReservationFails, client_key, lies_in, wrong_key}
use Rattle.kd_fields.specs.Place.{path_below}
use Rattle.kd_json.specs.Parts.{lie_and_fit}
use Rattle.kd_config.specs.Rules.{is_new, lies_within, may_all_reserve, may_have, may_reserve, reserved}
use Rattle.kd_fields.specs.Steps.{must}
use Rattle.kd_json.specs.declared.fault.ConfigFault.{ConfigFault}
use Rattle.kd_config.specs.declared.pool.Pool.{Pool}
use Rattle.kd_config.specs.declared.prefix.Prefix.{Prefix}
use Rattle.kd_config.specs.declared.reservation.Identity.{Identity}
use Rattle.kd_config.specs.declared.reservation.Reservation.{Reservation}

-- the values before a place with the value at the place, and more
pub one_more_at : {A : Type 0} (xs : List A) (i : ℕ) (x : A) (more : List A) → i < length xs
    → x ≡ get_or xs i x → take (i + 1) xs ++ more ≡ take i xs ++ x ∷ more
one_more_at {A} xs i x more below is =
    ap (λ (ys : List A). ys ++ more)
    (take_more xs i x below ∙ ap (λ (y : A). take i xs ++ y ∷ []) (sym is))
    ∙ append_assoc (take i xs) (x ∷ []) more

-- the values before a place, the one at it, and those after it
pub cut_at_place : {A : Type 0} (xs : List A) (i : ℕ) (x : A) → i < length xs
    → x ≡ get_or xs i x → take i xs ++ x ∷ drop (i + 1) xs ≡ xs
cut_at_place xs i x below is =
    sym (one_more_at xs i x (drop (i + 1) xs) below is) ∙ take-append-drop (i + 1) xs

-- what is wrong with a reservation: its address, or its client
pub wrong_address : (prefix : Prefix) (earlier : List ℕ) (r : Reservation)
    → must (may_reserve prefix earlier r) ≡ None → codes "ip-address" ≡ wrong_key prefix earlier r
wrong_address prefix earlier r e =
    ap (λ (b : Bool). if b then client_key r.identity else codes "ip-address")
    (sym (must_failed (may_reserve prefix earlier r) e))

pub wrong_client : (prefix : Prefix) (earlier : List ℕ) (r : Reservation)
    → must (may_reserve prefix earlier r) ≡ Some tt
    → client_key r.identity ≡ wrong_key prefix earlier r
wrong_client prefix earlier r e =
    ap (λ (b : Bool). if b then client_key r.identity else codes "ip-address")
    (sym (must_passed (may_reserve prefix earlier r) e))

-- a reservation whose address passed has none outside the prefix
pub is_inside : (prefix : Prefix) (earlier : List ℕ) (address : Option ℕ)
    → must (may_have prefix earlier address) ≡ Some tt → lies_in prefix address ≡ true
is_inside prefix earlier None e = refl
is_inside prefix earlier (Some a) e =
    (both_passed (has_address prefix a) (not (list_any (nat_eq a) earlier))
    (must_passed (may_have prefix earlier (Some a)) e)).0

all_false : (a b c : Bool) → (a && b) ≡ false → (a && (b && c)) ≡ false
all_false false b c e = refl
all_false true false c e = refl
all_false true true c e = absurd (cc)

-- the first reservations have passed; those after them decide
abbrev pub Decide : Prefix → List ℕ → List Reservation → List ℕ → List Identity → Type 0
Decide prefix first front earlier clients =
    (more : List Reservation) → may_all_reserve prefix first [] (front ++ more)
    ≡ may_all_reserve prefix earlier clients more

-- if a reservation passed, the rest decides
pub inside_passed : (prefix : Prefix) (first earlier : List ℕ) (clients : List Identity)
    (rs : List Reservation) (i : ℕ) (r : Reservation) → i < length rs → r ≡ get_or rs i r
    → Decide prefix first (take i rs) earlier clients
    → must (may_reserve prefix earlier r && is_new clients r.identity) ≡ Some tt
    → Decide prefix first (take (i + 1) rs) (earlier ++ listed r.address) (clients ++ r.identity ∷ [])
inside_passed prefix first earlier clients rs i r below is left e more =
    let both = both_passed (may_reserve prefix earlier r) (is_new clients r.identity)
    (must_passed (may_reserve prefix earlier r && is_new clients r.identity) e) in
    let rest = may_all_reserve prefix (earlier ++ listed r.address) (clients ++ r.identity ∷ []) more in
    ap (may_all_reserve prefix first []) (one_more_at rs i r more below is)
    ∙ (left (r ∷ more)
    ∙ (ap (λ (b : Bool). b && (is_new clients r.identity && rest)) both.0
    ∙ ap (λ (b : Bool). b && rest) both.1))

-- the reservation that failed is the first
pub inside_failed : (prefix : Prefix) (path first earlier : List ℕ) (clients : List Identity)
    (rs : List Reservation) (i : ℕ) (r : Reservation) (fault : ConfigFault) → i < length rs
    → r ≡ get_or rs i r → earlier ≡ first ++ reserved (take i rs)
    → Decide prefix first (take i rs) earlier clients
    → must (may_reserve prefix earlier r && is_new clients r.identity) ≡ None
    → config_fault_number fault ≡ (if lies_in prefix r.address then 76 else 74)
    → fault_path fault
    ≡ path_below (path_below path (decimal i)) (wrong_key prefix earlier r)
    → ReservationFails (may_all_reserve prefix first []) path first prefix rs fault
inside_failed prefix path first earlier clients rs i r fault below is joined left e kind named = record {
  place = i;
  reservation = r;
  first = record {
    value_at = slice_get_read rs (length rs) i r refl below is;
    before = ap (may_all_reserve prefix first []) (sym (append-nil (take i rs))) ∙ left [];
    with_it = ap (may_all_reserve prefix first [])
        (sym (append-nil (take (i + 1) rs)) ∙ one_more_at rs i r [] below is)
        ∙ (left (r ∷ []) ∙ all_false (may_reserve prefix earlier r) (is_new clients r.identity) true
        (must_failed (may_reserve prefix earlier r && is_new clients r.identity) e));
  };
  number = kind;
  named = named ∙ ap (λ (e : List ℕ). path_below (path_below path (decimal i)) (wrong_key prefix e r))
      joined;
}

-- then not all may be reserved
pub not_all_inside : (prefix : Prefix) (first earlier : List ℕ) (clients : List Identity)
    (rs : List Reservation) (i : ℕ) (r : Reservation) → i < length rs → r ≡ get_or rs i r
    → Decide prefix first (take i rs) earlier clients
    → must (may_reserve prefix earlier r && is_new clients r.identity) ≡ None
    → must (may_all_reserve prefix first [] rs) ≡ None
not_all_inside prefix first earlier clients rs i r below is left e =
    let rest = drop (i + 1) rs in
    ap must (ap (may_all_reserve prefix first []) (sym (cut_at_place rs i r below is))
    ∙ (left (r ∷ rest) ∙ all_false (may_reserve prefix earlier r) (is_new clients r.identity)
    (may_all_reserve prefix (earlier ++ listed r.address) (clients ++ r.identity ∷ []) rest)
    (must_failed (may_reserve prefix earlier r && is_new clients r.identity) e)))

-- all have passed
pub all_inside : (prefix : Prefix) (first earlier : List ℕ) (clients : List Identity)
    (rs : List Reservation) (i : ℕ) → length rs ≤ i
    → Decide prefix first (take i rs) earlier clients
    → must (may_all_reserve prefix first [] rs) ≡ Some tt
all_inside prefix first earlier clients rs i all left =
    ap must (ap (may_all_reserve prefix first [])
    (sym (take_all i rs all) ∙ sym (append-nil (take i rs))) ∙ left [])

-- one more pool that passed
pub within_passed : (prefix : Prefix) (pools : List Pool) (apart i : ℕ) (pool : Pool)
    → i < length pools → pool ≡ get_or pools i pool
    → must (lies_within prefix pool && nat_lt i apart) ≡ Some tt
    → list_all (lies_within prefix) (take i pools) ≡ true
    → (i + 1 ≤ apart) × (list_all (lies_within prefix) (take (i + 1) pools) ≡ true)
within_passed prefix pools apart i pool below is e before =
    let both = both_passed (lies_within prefix pool) (nat_lt i apart)
    (must_passed (lies_within prefix pool && nat_lt i apart) e) in
    let less : i < apart = ltb-true i apart both.1 in (
      omega arith,
      list_all_more (lies_within prefix) pools i pool below
          ∙ and_from (list_all (lies_within prefix) (take i pools))
          (lies_within prefix (get_or pools i pool)) before
          (ap (lies_within prefix) (sym is) ∙ both.0),
    )

-- with a pool that failed, the pools do not fit
with_one : (prefix : Prefix) (pools : List Pool) (apart i : ℕ) (pool : Pool) → i < length pools
    → pool ≡ get_or pools i pool → must (lies_within prefix pool && nat_lt i apart) ≡ None
    → lie_and_fit prefix apart (take (i + 1) pools) ≡ false
with_one prefix pools apart i pool below is e =
    by (lies_within prefix pool) (nat_lt i apart) refl refl
    (must_failed (lies_within prefix pool && nat_lt i apart) e) where
      by : (t u : Bool) → lies_within prefix pool ≡ t → nat_lt i apart ≡ u
          → (lies_within prefix pool && nat_lt i apart) ≡ false
          → lie_and_fit prefix apart (take (i + 1) pools) ≡ false
      by t false h k f =
          let many : apart ≤ i = ltb-false i apart k in
          and_left (nat_le (length (take (i + 1) pools)) apart)
          (list_all (lies_within prefix) (take (i + 1) pools))
          (lt-leb (length (take (i + 1) pools)) apart (omega (arith, length-take (i + 1) pools)))
      by false true h k f =
          and_right (nat_le (length (take (i + 1) pools)) apart)
          (list_all (lies_within prefix) (take (i + 1) pools))
          (list_all_more (lies_within prefix) pools i pool below
          ∙ and_right (list_all (lies_within prefix) (take i pools))
          (lies_within prefix (get_or pools i pool)) (ap (lies_within prefix) (sym is) ∙ h))
      by true true h k f =
          let both = and_from (lies_within prefix pool) (nat_lt i apart) h k in
          absurd (cc (f, both))

-- the pool that failed is the first
pub within_failed : (prefix : Prefix) (path : List ℕ) (pools : List Pool) (apart i : ℕ)
    (pool : Pool) (fault : ConfigFault) → i < length pools → i ≤ apart → pool ≡ get_or pools i pool
    → must (lies_within prefix pool && nat_lt i apart) ≡ None
    → list_all (lies_within prefix) (take i pools) ≡ true
    → config_fault_number fault ≡ (if lies_within prefix pool then 75 else 74)
    → fault_path fault ≡ path_below (path_below path (decimal i)) (codes "pool")
    → PoolFails (lie_and_fit prefix apart) path prefix pools fault
within_failed prefix path pools apart i pool fault below few is e before kind named = record {
  place = i;
  pool = pool;
  first = record {
    value_at = slice_get_read pools (length pools) i pool refl below is;
    before = and_from (nat_le (length (take i pools)) apart)
        (list_all (lies_within prefix) (take i pools))
        (le-leb (length (take i pools)) apart (omega (arith, length-take i pools))) before;
    with_it = with_one prefix pools apart i pool below is e;
  };
  number = kind;
  named = named;
}

-- pools do not fit if a prefix of them does not fit
fit_kept : (prefix : Prefix) (pools : List Pool) (apart n : ℕ)
    → lie_and_fit prefix apart (take n pools) ≡ false → lie_and_fit prefix apart pools ≡ false
fit_kept prefix pools apart n e = by (lie_and_fit prefix apart pools) refl where
  by : (b : Bool) → lie_and_fit prefix apart pools ≡ b → b ≡ false
  by false h = refl
  by true h =
      let all = both_passed (nat_le (length pools) apart) (list_all (lies_within prefix) pools) h in
      let front = both_passed (list_all (lies_within prefix) (take n pools))
      (list_all (lies_within prefix) (drop n pools))
      (sym (list_all-append (lies_within prefix) (take n pools) (drop n pools))
      ∙ (ap (list_all (lies_within prefix)) (take-append-drop n pools) ∙ all.1)) in
      let few : length pools ≤ apart = leb-true (length pools) apart all.0 in
      let fits = and_from (nat_le (length (take n pools)) apart)
      (list_all (lies_within prefix) (take n pools))
      (le-leb (length (take n pools)) apart (omega (arith, length-take n pools))) front.0 in
      absurd (cc (fits, e))

-- then not all fit
pub not_all_within : (prefix : Prefix) (pools : List Pool) (apart i : ℕ) (pool : Pool)
    → i < length pools → pool ≡ get_or pools i pool
    → must (lies_within prefix pool && nat_lt i apart) ≡ None
    → must (lie_and_fit prefix apart pools) ≡ None
not_all_within prefix pools apart i pool below is e =
    ap must (fit_kept prefix pools apart (i + 1) (with_one prefix pools apart i pool below is e))

-- all fit
pub all_within : (prefix : Prefix) (pools : List Pool) (apart i : ℕ) → length pools ≤ i → i ≤ apart
    → list_all (lies_within prefix) (take i pools) ≡ true
    → must (lie_and_fit prefix apart pools) ≡ Some tt
all_within prefix pools apart i all few before =
    ap must (and_from (nat_le (length pools) apart) (list_all (lies_within prefix) pools)
    (le-leb (length pools) apart (omega arith))
    (ap (list_all (lies_within prefix)) (sym (take_all i pools all)) ∙ before))
