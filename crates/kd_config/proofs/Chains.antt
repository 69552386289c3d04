-- The first reservation for a client whose classes are held: from its first reservation, each next one.
use Rattle.std.proofs.Common.{◌≡◌, ℕ, zero, suc, ◌+◌, ◌-◌, ◌<◌, Bool, true, false, ◌&&◌, List, [], ◌∷◌, ◌++◌, Option, None, Some, refl, sym, ap, subst, ◌∙◌, if◌then◌else◌, length, take, drop, get_or, slice_get, arith, append_assoc}
use Rattle.std.specs.List.{find, position_from}
use Rattle.std.specs.Map.{lookup}
use Rattle.std.specs.Str.{bytes_eq}
use Rattle.std.proofs.lemmas.Bool.{false≢true}
use Rattle.std.proofs.lemmas.List.{drop_more, length-append, length-take-le, take-append-drop}
use Rattle.std.proofs.lemmas.Option.{get_or_from_slice_get, none-some, same_Some, slice_get_within}
use Rattle.std.proofs.lemmas.Slice.Eq.{bytes_eq-Decides}
use Rattle.indexmap.specs.IndexMap.{insert_entry}
use Rattle.kd_config.specs.Places.{AreNext, IsFirstPlace}
use Rattle.kd_config.specs.Reservation.{is_client, is_client_if}
use Rattle.kd_config.specs.declared.reservation.IdentityKind.{IdentityKind}
use Rattle.kd_config.specs.declared.reservation.Reservation.{Reservation}
use Rattle.kd_config.proofs.ClientPlaces.{from_start}

-- ---- what is stored for a key

-- the value of a key after another one was stored
pub stored : {K : Type 0} (items : K → List ℕ) (es : List (K × ℕ)) (key : K) (v : ℕ) (other : List ℕ)
    → lookup (λ k. bytes_eq other (items k)) (insert_entry (λ a b. bytes_eq (items a) (items b)) es key v)
    ≡ (if bytes_eq other (items key) then Some v else lookup (λ k. bytes_eq other (items k)) es)
stored items [] key v other = refl
stored items (e ∷ es) key v other = by (bytes_eq (items key) (items e.0)) refl (bytes_eq other (items e.0)) refl (bytes_eq other (items key)) refl (stored items es key v other) where
  by : (t : Bool) → bytes_eq (items key) (items e.0) ≡ t → (u : Bool) → bytes_eq other (items e.0) ≡ u → (w : Bool) → bytes_eq other (items key) ≡ w
      → lookup (λ k. bytes_eq other (items k)) (insert_entry (λ a b. bytes_eq (items a) (items b)) es key v)
      ≡ (if bytes_eq other (items key) then Some v else lookup (λ k. bytes_eq other (items k)) es)
      → lookup (λ k. bytes_eq other (items k)) (insert_entry (λ a b. bytes_eq (items a) (items b)) (e ∷ es) key v)
      ≡ (if bytes_eq other (items key) then Some v else lookup (λ k. bytes_eq other (items k)) (e ∷ es))
  by true t true u true w more = rw t (rw u (rw w refl))
  by true t false u false w more = rw t (rw u (rw w refl))
  by true t true u false w more = absurd (false≢true (sym w ∙ ap (bytes_eq other) ((bytes_eq-Decides (items key) (items e.0)).0 t) ∙ u))
  by true t false u true w more = absurd (false≢true (sym u ∙ ap (bytes_eq other) (sym ((bytes_eq-Decides (items key) (items e.0)).0 t)) ∙ w))
  by false t true u true w more = absurd (false≢true (sym t ∙ (bytes_eq-Decides (items key) (items e.0)).1 (sym ((bytes_eq-Decides other (items key)).0 w) ∙ (bytes_eq-Decides other (items e.0)).0 u)))
  by false t true u false w more = rw t (rw u (rw w refl))
  by false t false u true w more = rw t (rw u (rw w (subst (λ (b : Bool). lookup (λ k. bytes_eq other (items k)) (insert_entry (λ a b. bytes_eq (items a) (items b)) es key v) ≡ (if b then Some v else lookup (λ k. bytes_eq other (items k)) es)) w more)))
  by false t false u false w more = rw t (rw u (rw w (subst (λ (b : Bool). lookup (λ k. bytes_eq other (items k)) (insert_entry (λ a b. bytes_eq (items a) (items b)) es key v) ≡ (if b then Some v else lookup (λ k. bytes_eq other (items k)) es)) w more)))

-- ---- the next place

-- what holds of the next place of a reservation
pub record NextAt (r : Reservation) (i : ℕ) (behind : List Reservation) (places : List (Option ℕ)) (p : ℕ) : Type 0 where
  next : Option ℕ
  there : slice_get places p ≡ Some next
  first : IsFirstPlace r.identity i behind next

pub next_at : (i : ℕ) (rs : List Reservation) (places : List (Option ℕ)) → AreNext i rs places → (p : ℕ) (r : Reservation) → slice_get rs p ≡ Some r
    → NextAt r (i + p + 1) (drop (p + 1) rs) places p
next_at i [] places are p r is = absurd (none-some r is)
next_at i (x ∷ rs) [] are p r is = absurd are
next_at i (x ∷ rs) (next ∷ places) are zero r is =
    let place : i + 1 ≡ i + zero + 1 = omega arith in
    record {
      next = next;
      there = refl;
      first =
          subst (λ (y : Reservation). IsFirstPlace y.identity (i + zero + 1) rs next) (same_Some x r is)
          (subst (λ (n : ℕ). IsFirstPlace x.identity n rs next) place are.0);
    }
next_at i (x ∷ rs) (next ∷ places) are (suc p) r is =
    let place : i + 1 + p + 1 ≡ i + suc p + 1 = omega arith in
    let later : suc (p + 1) ≡ suc p + 1 = omega arith in
    let more = next_at (i + 1) rs places are.1 p r is in
    record {
      next = more.next;
      there = more.there;
      first =
          subst (λ (n : ℕ). IsFirstPlace r.identity (i + suc p + 1) (drop n (x ∷ rs)) more.next) later
          (subst (λ (n : ℕ). IsFirstPlace r.identity n (drop (p + 1) rs) more.next) place more.first);
    }

-- ---- the search

left_at : {X : Type 0} (xs : List X) (i : ℕ) (x : X) → slice_get xs i ≡ Some x → drop i xs ≡ x ∷ drop (i + 1) xs
left_at xs i x e = drop_more xs i x (slice_get_within xs i x e) ∙ ap (λ y. y ∷ drop (i + 1) xs) (get_or_from_slice_get xs i x x e)

fails : (a b : Bool) → b ≡ false → (a && b) ≡ false
fails true b is = is
fails false b is = refl

at_seam : {X : Type 0} (front xs : List X) (x : X) → slice_get (front ++ x ∷ xs) (length front) ≡ Some x
at_seam [] xs x = refl
at_seam (y ∷ front) xs x = at_seam front xs x

drop_seam : {X : Type 0} (front xs : List X) → drop (length front) (front ++ xs) ≡ xs
drop_seam [] xs = refl
drop_seam (y ∷ front) xs = drop_seam front xs

module _ {X : Type 0} (test admits : X → Bool) where
  -- the element at a place passes the first test, and the first that passes both is the first from
  -- there on that does
  pub record From (list : List X) (p : ℕ) : Type 0 where
    pub here : X
    pub there : slice_get list p ≡ Some here
    pub passes : test here ≡ true
    pub rest : find (λ x. test x && admits x) list ≡ find (λ x. test x && admits x) (drop p list)

  -- the search goes on from a place, or none passes both
  abbrev pub IsLeft : List X → Option ℕ → Type 0
  IsLeft list None = find (λ x. test x && admits x) list ≡ None
  IsLeft list (Some p) = From list p

  -- behind elements of which none passes both, it goes on from the first that passes the first test
  pub seek : (front xs : List X) → find (λ x. test x && admits x) (front ++ xs) ≡ find (λ x. test x && admits x) xs
      → IsLeft (front ++ xs) (position_from test (length front) xs)
  seek front [] rest = rest
  seek front (x ∷ xs) rest = by (test x) refl (seek (front ++ x ∷ []) xs) where
    by : (t : Bool) → test x ≡ t
        → (find (λ y. test y && admits y) ((front ++ x ∷ []) ++ xs) ≡ find (λ y. test y && admits y) xs
        → IsLeft ((front ++ x ∷ []) ++ xs) (position_from test (length (front ++ x ∷ [])) xs))
        → IsLeft (front ++ x ∷ xs) (if t then Some (length front) else position_from test (length front + 1) xs)
    by true is more =
        record {
          here = x;
          there = at_seam front xs x;
          passes = is;
          rest = rest ∙ ap (find (λ y. test y && admits y)) (sym (drop_seam front (x ∷ xs)));
        }
    by false is more =
        let same : (front ++ x ∷ []) ++ xs ≡ front ++ x ∷ xs = append_assoc front (x ∷ []) xs in
        let passed : find (λ y. test y && admits y) (x ∷ xs) ≡ find (λ y. test y && admits y) xs =
        ap (λ (b : Bool). if b && admits x then Some x else find (λ y. test y && admits y) xs) is in
        subst (λ (n : ℕ). IsLeft (front ++ x ∷ xs) (position_from test n xs)) (length-append front (x ∷ []))
        (subst (λ (list : List X). IsLeft list (position_from test (length (front ++ x ∷ [])) xs)) same
        (more (ap (find (λ y. test y && admits y)) same ∙ rest ∙ passed)))

  -- the element at a place is not admitted: the search goes on from the next one that passes the first
  -- test
  pub go_on : (list : List X) (p : ℕ) (x : X) → slice_get list p ≡ Some x → admits x ≡ false
      → find (λ y. test y && admits y) list ≡ find (λ y. test y && admits y) (drop p list)
      → IsLeft list (position_from test (p + 1) (drop (p + 1) list))
  go_on list p x is not rest =
      let within = slice_get_within list p x is in
      let cut : take p list ++ drop p list ≡ list = take-append-drop p list in
      let here : drop p list ≡ x ∷ drop (p + 1) list = left_at list p x is in
      let front : length (take p list) ≡ p = length-take-le p list (omega (arith, within)) in
      let count : length (take p list ++ x ∷ []) ≡ p + 1 = length-append (take p list) (x ∷ []) ∙ ap (λ n. n + 1) front in
      let same : (take p list ++ x ∷ []) ++ drop (p + 1) list ≡ list =
      append_assoc (take p list) (x ∷ []) (drop (p + 1) list) ∙ ap (λ xs. take p list ++ xs) (sym here) ∙ cut in
      let passed : find (λ y. test y && admits y) (x ∷ drop (p + 1) list) ≡ find (λ y. test y && admits y) (drop (p + 1) list) =
      ap (λ (b : Bool). if b then Some x else find (λ y. test y && admits y) (drop (p + 1) list)) (fails (test x) (admits x) not) in
      subst (λ (n : ℕ). IsLeft list (position_from test n (drop (p + 1) list))) count
      (subst (λ (xs : List X). IsLeft xs (position_from test (length (take p list ++ x ∷ [])) (drop (p + 1) list))) same
      (seek (take p list ++ x ∷ []) (drop (p + 1) list)
      (ap (find (λ y. test y && admits y)) same ∙ rest ∙ ap (find (λ y. test y && admits y)) here ∙ passed)))

  -- the element at a place is admitted: it is what is sought
  pub it_is : (list : List X) (p : ℕ) (x : X) → slice_get list p ≡ Some x → test x ≡ true → admits x ≡ true
      → find (λ y. test y && admits y) list ≡ find (λ y. test y && admits y) (drop p list)
      → find (λ y. test y && admits y) list ≡ Some x
  it_is list p x is passes admitted rest =
      rest ∙ ap (find (λ y. test y && admits y)) (left_at list p x is)
      ∙ ap (λ (b : Bool). if b then Some x else find (λ y. test y && admits y) (drop (p + 1) list)) (ap (λ (b : Bool). b && admits x) passes ∙ admitted)

-- ---- over reservations

-- the search goes on from this place
pub from_place : {X : Type 0} (test admits : X → Bool) (list : List X) (found : Option ℕ) (p : ℕ)
    → IsLeft test admits list found → found ≡ Some p → From test admits list p
from_place test admits list found p left is = subst (IsLeft test admits list) is left

-- the place that is kept for a reservation that is for a client is the next one that is for it
pub next_place : (kind : IdentityKind) (id : Option (List ℕ)) (list : List Reservation) (places : List (Option ℕ)) → AreNext 0 list places
    → (p : ℕ) (r : Reservation) (next : Option ℕ) → slice_get list p ≡ Some r → is_client_if kind id r.identity ≡ true → slice_get places p ≡ Some next
    → next ≡ position_from (λ x. is_client_if kind id x.identity) (p + 1) (drop (p + 1) list)
next_place kind None list places are p r next is passes there = absurd (false≢true passes)
next_place kind (Some bytes) list places are p r next is passes there =
    let at = next_at 0 list places are p r is in
    let place : 0 + p + 1 ≡ p + 1 = omega arith in
    same_Some next at.next (sym there ∙ at.there)
    ∙ (at.first kind bytes passes ∙ ap (λ n. position_from (λ x. is_client kind bytes x.identity) n (drop (p + 1) list)) place)

-- as many next places as reservations are kept, so each has one
pub found_next : (kind : IdentityKind) (id : Option (List ℕ)) (list : List Reservation) (places : List (Option ℕ)) → AreNext 0 list places
    → (p : ℕ) (r : Reservation) (next : Option ℕ) → slice_get list p ≡ Some r → is_client_if kind id r.identity ≡ true → next ≡ get_or places p next
    → next ≡ position_from (λ x. is_client_if kind id x.identity) (p + 1) (drop (p + 1) list)
found_next kind id list places are p r next is passes kept =
    let at = next_at 0 list places are p r is in
    let same : next ≡ at.next = kept ∙ get_or_from_slice_get places p at.next next at.there in
    next_place kind id list places are p r next is passes (at.there ∙ ap Some (sym same))

-- there are as many next places as reservations
pub next_there : (i : ℕ) (list : List Reservation) (places : List (Option ℕ)) → AreNext i list places → length places ≡ length list
next_there i [] [] are = refl
next_there i (r ∷ list) (next ∷ places) are = ap suc (next_there (i + 1) list places are.1)
next_there i [] (next ∷ places) are = absurd are
next_there i (r ∷ list) [] are = absurd are

-- how many elements there are from a place on
abbrev pub count_left : {X : Type 0} → List X → Option ℕ → ℕ
count_left list None = 0
count_left list (Some p) = length list - p

-- from a later place on there are fewer
pub fewer_left : {X : Type 0} (test : X → Bool) (list : List X) (p : ℕ) → p < length list
    → count_left list (position_from test (p + 1) (drop (p + 1) list)) < count_left list (Some p)
fewer_left test list p within = by (position_from test (p + 1) (drop (p + 1) list)) refl where
  by : (o : Option ℕ) → position_from test (p + 1) (drop (p + 1) list) ≡ o → count_left list o < count_left list (Some p)
  by None is = omega (arith, within)
  by (Some k) is = let late = from_start test (p + 1) (drop (p + 1) list) k is in omega (arith, within, late)
