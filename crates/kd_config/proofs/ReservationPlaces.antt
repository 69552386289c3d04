-- Two reservations of one address, or of one subnet for one client, are at the same place.
use Rattle.std.proofs.Common.{◌≡◌, ℕ, zero, suc, true, false, not, ◌&&◌, List, [], ◌∷◌, ◌++◌, refl, sym, ap, subst, ◌∙◌}
use Rattle.std.proofs.lemmas.Bool.{eq-eqb, false≢true, not-true}
use Rattle.std.proofs.lemmas.List.Folds.{list_any-append}
use Rattle.std.proofs.lemmas.Slice.Eq.{bytes_eq-Decides}
use Rattle.std.specs.List.{list_all, list_any}
use Rattle.std.specs.Prelude.{Option, Some, nat_eq, slice_get}
use Rattle.kd_config.proofs.Tests.{both_passed, some_is}
use Rattle.kd_config.proofs.Tests.{or_false}
use Rattle.kd_config.specs.Address.{has_address}
use Rattle.kd_config.specs.Apart.{lie_apart}
use Rattle.kd_config.specs.Laws.{AddressHasOneReservation, ClientHasOneReservation}
use Rattle.kd_config.specs.Reservation.{listed}
use Rattle.kd_config.specs.Rules.{all_obey, pool_ranges, is_new, lies_within, may_all_reserve, may_have, may_reserve, may_stand, obeys, reserved, same_identity}
use Rattle.kd_config.specs.declared.prefix.Prefix.{Prefix}
use Rattle.kd_config.specs.declared.reservation.Identity.{Identity}
use Rattle.kd_config.specs.declared.reservation.Identity.TheVariants as clients
use Rattle.kd_config.specs.declared.reservation.Reservation.{Reservation}
use Rattle.kd_config.specs.declared.subnet.Subnet.{Subnet}

-- an address is not among these
abbrev IsNotOf : ℕ → List ℕ → Type 0
IsNotOf a earlier = list_any (nat_eq a) earlier ≡ false

-- a client is not among these
abbrev IsNotAmong : Identity → List Identity → Type 0
IsNotAmong identity clients = list_any (same_identity identity) clients ≡ false

-- what holds of the first reservation
record First (prefix : Prefix) (earlier : List ℕ) (clients : List Identity) (r : Reservation)
    (rs : List Reservation) : Type 0 where
  address : (a : ℕ) → r.address ≡ Some a → IsNotOf a earlier
  client : IsNotAmong r.identity clients
  later : may_all_reserve prefix (earlier ++ listed r.address) (clients ++ r.identity ∷ []) rs ≡ true

-- an address that may be reserved is not among the earlier ones
new_if : (prefix : Prefix) (earlier : List ℕ) (a : ℕ) → may_have prefix earlier (Some a) ≡ true
    → IsNotOf a earlier
new_if prefix earlier a h =
    not-true (list_any (nat_eq a) earlier)
    (both_passed (has_address prefix a) (not (list_any (nat_eq a) earlier)) h).1

first_of_all : (prefix : Prefix) (earlier : List ℕ) (clients : List Identity) (r : Reservation)
    (rs : List Reservation)
    → may_all_reserve prefix earlier clients (r ∷ rs) ≡ true → First prefix earlier clients r rs
first_of_all prefix earlier clients r rs h =
    let more = may_all_reserve prefix (earlier ++ listed r.address) (clients ++ r.identity ∷ []) rs in
    let both = both_passed (may_reserve prefix earlier r) (is_new clients r.identity && more) h in
    let rest = both_passed (is_new clients r.identity) more both.1 in
    record {
      address = λ a is. new_if prefix earlier a
          (subst (λ (o : Option ℕ). may_have prefix earlier o ≡ true) is both.0);
      client = not-true (list_any (same_identity r.identity) clients) rest.0;
      later = rest.1;
    }

-- an address that is in neither of two lists
not_of_both : (a : ℕ) (xs ys : List ℕ) → IsNotOf a (xs ++ ys) → IsNotOf a xs × IsNotOf a ys
not_of_both a xs ys e = or_false (list_any (nat_eq a) xs) (list_any (nat_eq a) ys)
    (sym (list_any-append (nat_eq a) xs ys) ∙ e)

not_among_both : (i : Identity) (xs ys : List Identity) → IsNotAmong i (xs ++ ys) → IsNotAmong i xs
    × IsNotAmong i ys
not_among_both i xs ys e =
    or_false (list_any (same_identity i) xs) (list_any (same_identity i) ys)
    (sym (list_any-append (same_identity i) xs ys) ∙ e)

-- a reservation has an address and a client that are not among the earlier ones
record IsNewcomer (earlier : List ℕ) (clients : List Identity) (r : Reservation) : Type 0 where
  address : (a : ℕ) → r.address ≡ Some a → IsNotOf a earlier
  client : IsNotAmong r.identity clients

newcomer : (prefix : Prefix) (earlier : List ℕ) (clients : List Identity) (rs : List Reservation)
    (j : ℕ) (r : Reservation)
    → may_all_reserve prefix earlier clients rs ≡ true → slice_get rs j ≡ Some r
    → IsNewcomer earlier clients r
newcomer prefix earlier clients [] j r h e = absurd (cc)
newcomer prefix earlier clients (x ∷ rs) zero r h e =
    let first = first_of_all prefix earlier clients x rs h in
    subst (λ (y : Reservation). IsNewcomer earlier clients y) (some_is x r e)
    (record { address = first.address; client = first.client })
newcomer prefix earlier clients (x ∷ rs) (suc j) r h e =
    let first = first_of_all prefix earlier clients x rs h in
    let more = newcomer prefix (earlier ++ listed x.address)
    (clients ++ x.identity ∷ []) rs j r first.later e in
    record {
      address = λ a is. (not_of_both a earlier (listed x.address) (more.address a is)).0;
      client = (not_among_both r.identity clients (x.identity ∷ []) more.client).0;
    }

-- a client is the same as itself
same_client : (i : Identity) → same_identity i i ≡ true
same_client (clients.Hardware bytes) = (bytes_eq-Decides bytes bytes).1 refl
same_client (clients.Duid bytes) = (bytes_eq-Decides bytes bytes).1 refl
same_client (clients.Circuit bytes) = (bytes_eq-Decides bytes bytes).1 refl
same_client (clients.ClientId bytes) = (bytes_eq-Decides bytes bytes).1 refl

-- an address is there, and not among those that are: a contradiction
other_address : (a : ℕ) (o : Option ℕ) → o ≡ Some a → IsNotOf a (listed o) → ⊥
other_address a o is none =
    let this : IsNotOf a (a ∷ []) = subst (λ (p : Option ℕ). IsNotOf a (listed p)) is none in
    false≢true (sym (or_false (nat_eq a a) false this).0 ∙ eq-eqb a a refl)

other_client : (a b : Identity) → a ≡ b → IsNotAmong b (a ∷ []) → ⊥
other_client a b same e =
    let this : same_identity b a ≡ false = (or_false (same_identity b a) false e).0 in
    false≢true (sym (subst (λ (n : Identity). same_identity b n ≡ false) same this) ∙ same_client b)

-- the first reservation and a later one share neither the address nor the client
record AreOthers (x r : Reservation) : Type 0 where
  address : (a : ℕ) → x.address ≡ Some a → r.address ≡ Some a → ⊥
  client : x.identity ≡ r.identity → ⊥

first_and_later : (prefix : Prefix) (earlier : List ℕ) (clients : List Identity) (x : Reservation)
    (rs : List Reservation) (l : ℕ) (p q : Reservation)
    → may_all_reserve prefix earlier clients (x ∷ rs) ≡ true → Some x ≡ Some p
    → slice_get rs l ≡ Some q → AreOthers p q
first_and_later prefix earlier clients x rs l p q h e f =
    let first = first_of_all prefix earlier clients x rs h in
    let more = newcomer prefix (earlier ++ listed x.address)
    (clients ++ x.identity ∷ []) rs l q first.later f in
    subst (λ (y : Reservation). AreOthers y q) (some_is x p e) (record {
      address = λ a this that. other_address a x.address this
          (not_of_both a earlier (listed x.address) (more.address a that)).1;
      client = λ same. other_client x.identity q.identity same
          (not_among_both q.identity clients (x.identity ∷ []) more.client).1;
    })

-- two reservations of a subnet
record IsOnePlace (j l : ℕ) (p q : Reservation) : Type 0 where
  address : (a : ℕ) → p.address ≡ Some a → q.address ≡ Some a → j ≡ l
  client : p.identity ≡ q.identity → j ≡ l

within : (prefix : Prefix) (earlier : List ℕ) (clients : List Identity) (rs : List Reservation)
    (j l : ℕ) (p q : Reservation)
    → may_all_reserve prefix earlier clients rs ≡ true → slice_get rs j ≡ Some p
    → slice_get rs l ≡ Some q → IsOnePlace j l p q
within prefix earlier clients [] j l p q h e f = absurd (cc)
within prefix earlier clients (x ∷ rs) zero zero p q h e f =
    record { address = λ a this that. refl; client = λ same. refl }
within prefix earlier clients (x ∷ rs) zero (suc l) p q h e f =
    let others = first_and_later prefix earlier clients x rs l p q h e f in
    record {
      address = λ a this that. absurd (others.address a this that);
      client =
          λ same. absurd (others.client same);
    }
within prefix earlier clients (x ∷ rs) (suc j) zero p q h e f =
    let others = first_and_later prefix earlier clients x rs j q p h f e in
    record {
      address = λ a this that. absurd (others.address a that this);
      client =
          λ same. absurd (others.client (sym same));
    }
within prefix earlier clients (x ∷ rs) (suc j) (suc l) p q h e f =
    let first = first_of_all prefix earlier clients x rs h in
    let one = within prefix (earlier ++ listed x.address)
    (clients ++ x.identity ∷ []) rs j l p q first.later e f in
    record {
      address = λ a this that. ap suc (one.address a this that);
      client =
          λ same. ap suc (one.client same);
    }

reserves : (earlier : List ℕ) (s : Subnet) → obeys earlier s ≡ true
    → may_all_reserve s.prefix earlier [] s.reservations ≡ true
unfolding obeys
reserves earlier s h =
    (both_passed (list_all (lies_within s.prefix) s.pools)
    (may_all_reserve s.prefix earlier [] s.reservations) h).1

-- the rules of the first subnet, and of the later ones
first_subnet : (earlier : List ℕ) (s : Subnet) (subnets : List Subnet)
    → all_obey earlier (s ∷ subnets) ≡ true
    → (may_all_reserve s.prefix earlier [] s.reservations ≡ true)
    × (all_obey (earlier ++ reserved s.reservations) subnets ≡ true)
first_subnet earlier s subnets h =
    let both = both_passed (obeys earlier s) (all_obey (earlier ++ reserved s.reservations) subnets)
    h in
    (reserves earlier s both.0, both.1)

-- a reserved address is not among the earlier ones
new_address : (earlier : List ℕ) (subnets : List Subnet) (i j : ℕ) (s : Subnet) (r : Reservation)
    (a : ℕ) → all_obey earlier subnets ≡ true
    → slice_get subnets i ≡ Some s → slice_get s.reservations j ≡ Some r → r.address ≡ Some a
    → IsNotOf a earlier
new_address earlier [] i j s r a h e f is = absurd (cc)
new_address earlier (x ∷ subnets) zero j s r a h e f is =
    let rules = first_subnet earlier x subnets h in
    let here : slice_get x.reservations j ≡ Some r =
    subst (λ (y : Subnet). slice_get y.reservations j ≡ Some r) (sym (some_is x s e)) f in
    (newcomer x.prefix earlier [] x.reservations j r rules.0 here).address a is
new_address earlier (x ∷ subnets) (suc i) j s r a h e f is =
    let rules = first_subnet earlier x subnets h in
    (not_of_both a earlier (reserved x.reservations)
    (new_address (earlier ++ reserved x.reservations) subnets i j s r a rules.1 e f is)).0

-- an address that is not reserved is not that of any reservation
not_this : (a : ℕ) (rs : List Reservation) (j : ℕ) (r : Reservation) → IsNotOf a (reserved rs)
    → slice_get rs j ≡ Some r → r.address ≡ Some a → ⊥
not_this a [] j r none e same = absurd (cc)
not_this a (x ∷ rs) zero r none e same =
    other_address a x.address (ap (λ (y : Reservation). y.address) (some_is x r e) ∙ same)
    (not_of_both a (listed x.address) (reserved rs) none).0
not_this a (x ∷ rs) (suc j) r none e same =
    not_this a rs j r (not_of_both a (listed x.address) (reserved rs) none).1 e same

-- a reservation of a subnet, and one of a later subnet
across : (earlier : List ℕ) (x : Subnet) (subnets : List Subnet) (j k l : ℕ) (s t : Subnet)
    (p q : Reservation) (a : ℕ)
    → all_obey earlier (x ∷ subnets) ≡ true → Some x ≡ Some s → slice_get s.reservations j ≡ Some p
    → slice_get subnets k ≡ Some t → slice_get t.reservations l ≡ Some q → p.address ≡ Some a
    → q.address ≡ Some a → ⊥
across earlier x subnets j k l s t p q a h e f g u this that =
    let rules = first_subnet earlier x subnets h in
    let new = new_address (earlier ++ reserved x.reservations) subnets k l t q a rules.1 g u that in
    let here : slice_get x.reservations j ≡ Some p =
    subst (λ (y : Subnet). slice_get y.reservations j ≡ Some p) (sym (some_is x s e)) f in
    not_this a x.reservations j p (not_of_both a earlier (reserved x.reservations) new).1 here this

-- two reservations of the first subnet
within_first : (earlier : List ℕ) (x : Subnet) (subnets : List Subnet) (j l : ℕ) (s t : Subnet)
    (p q : Reservation)
    → all_obey earlier (x ∷ subnets) ≡ true → Some x ≡ Some s → slice_get s.reservations j ≡ Some p
    → Some x ≡ Some t → slice_get t.reservations l ≡ Some q → IsOnePlace j l p q
within_first earlier x subnets j l s t p q h e f g u =
    let this : slice_get x.reservations j ≡ Some p =
    subst (λ (y : Subnet). slice_get y.reservations j ≡ Some p) (sym (some_is x s e)) f in
    let that : slice_get x.reservations l ≡ Some q =
    subst (λ (y : Subnet). slice_get y.reservations l ≡ Some q) (sym (some_is x t g)) u in
    within x.prefix earlier [] x.reservations j l p q (first_subnet earlier x subnets h).0 this that

-- two reservations of one address
one_place : (earlier : List ℕ) (subnets : List Subnet) (i j k l : ℕ) (s t : Subnet)
    (p q : Reservation) (a : ℕ) → all_obey earlier subnets ≡ true
    → slice_get subnets i ≡ Some s → slice_get s.reservations j ≡ Some p
    → slice_get subnets k ≡ Some t
    → slice_get t.reservations l ≡ Some q → p.address ≡ Some a → q.address ≡ Some a
    → (i ≡ k) × (j ≡ l)
one_place earlier [] i j k l s t p q a h e f g u this that = absurd (cc)
one_place earlier (x ∷ subnets) zero j zero l s t p q a h e f g u this that =
    (refl, (within_first earlier x subnets j l s t p q h e f g u).address a this that)
one_place earlier (x ∷ subnets) zero j (suc k) l s t p q a h e f g u this that =
    absurd (across earlier x subnets j k l s t p q a h e f g u this that)
one_place earlier (x ∷ subnets) (suc i) j zero l s t p q a h e f g u this that =
    absurd (across earlier x subnets l i j t s q p a h g u e f that this)
one_place earlier (x ∷ subnets) (suc i) j (suc k) l s t p q a h e f g u this that =
    let rules = first_subnet earlier x subnets h in
    let one = one_place (earlier ++ reserved x.reservations) subnets i j k l s t p q a rules.1 e f g u
    this that in
    (ap suc one.0, one.1)

-- two reservations of one subnet for one client
one_of_client : (earlier : List ℕ) (subnets : List Subnet) (i j l : ℕ) (s t : Subnet)
    (p q : Reservation) → all_obey earlier subnets ≡ true
    → slice_get subnets i ≡ Some s → slice_get s.reservations j ≡ Some p
    → slice_get subnets i ≡ Some t
    → slice_get t.reservations l ≡ Some q → p.identity ≡ q.identity → j ≡ l
one_of_client earlier [] i j l s t p q h e f g u same = absurd (cc)
one_of_client earlier (x ∷ subnets) zero j l s t p q h e f g u same =
    (within_first earlier x subnets j l s t p q h e f g u).client same
one_of_client earlier (x ∷ subnets) (suc i) j l s t p q h e f g u same =
    one_of_client (earlier ++ reserved x.reservations) subnets i j l s t p q
    (first_subnet earlier x subnets h).1 e f g u same

obey_from : (subnets : List Subnet) → may_stand subnets ≡ true → all_obey [] subnets ≡ true
unfolding may_stand
obey_from subnets h = (both_passed (lie_apart (pool_ranges subnets)) (all_obey [] subnets) h).1

pub one_of_address : AddressHasOneReservation
one_of_address c a i j k l p q sound this that its same =
    one_place [] c.subnets i j k l this.subnet that.subnet p q a
    (obey_from c.subnets sound.subnets.together)
    this.subnet_at this.reservation_at that.subnet_at that.reservation_at its same

pub one_of_identity : ClientHasOneReservation
one_of_identity c i j l p q sound this that same =
    one_of_client [] c.subnets i j l this.subnet that.subnet p q
    (obey_from c.subnets sound.subnets.together)
    this.subnet_at this.reservation_at that.subnet_at that.reservation_at same
