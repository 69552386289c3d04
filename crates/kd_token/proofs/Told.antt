-- What readers take and refuse, in terms of the fields of a file.
use Rattle.std.proofs.Common.{◌≡◌, ℕ, pos, zero, suc, ◌+◌, ◌*◌, ◌^◌, ◌%◌, ◌<◌, ◌≤◌, Bool, true, false, List, [], ◌∷◌, ◌++◌, length, Option, Some, None, Result, Ok, Err, refl, sym, ap, subst, ◌∙◌, append_assoc, length-append, arith, inl, inr}
use Rattle.std.specs.Prelude.{◌⊎◌, nat_lt, take, drop, replicate, if◌then◌else◌}
use Rattle.std.specs.List.{flat_map}
use Rattle.std.specs.Int.{w32, cast_signed, int_wrap}
use Rattle.std.specs.Int.RustNames.{FitsSigned}
use Rattle.std.proofs.lemmas.Bool.{ltb-true, ltb-false, le-ltb}
use Rattle.std.proofs.lemmas.Int.{SFits-int_wrap}
use Rattle.std.proofs.lemmas.Grind.{flat_map-append}
use Rattle.std.proofs.lemmas.List.{append-nil, length-take-le, length-replicate, take-append-drop, take_at, drop_at}
use Rattle.std.proofs.lemmas.Nat.{from_be_bytes-to_be_bytes_2, from_be_bytes-to_be_bytes_4}
use Rattle.byteorder.specs.Endian.{big_bytes, big_number}
use Rattle.kd_token.specs.declared.fault.FileFault.{FileFault}
use Rattle.kd_token.specs.declared.fault.FileFault.TheVariants as faults
use Rattle.kd_token.specs.File.{signed_bytes}
use Rattle.kd_token.specs.Reading.{◌>>=◌, ReadStep, Rest, rest, unless_faulty, place_in, already, makes, here, fault_where, known_or, bytes_next, number_next, limited_at, signed_at, many_at}
use Rattle.kd_token.specs.FirstFault.{Part, part_with, free, limited, bytes_of_parts}
use Rattle.kd_token.proofs.Again.{number_again}
use Rattle.kd_token.proofs.Numbers.{AreBytes, two_bytes, four_bytes, signed_back}

-- these bytes remain after those
abbrev pub past : List ℕ → List ℕ → Rest
past before left = rest (before ++ left) left

pub place_is : (before left : List ℕ) → place_in (past before left) ≡ length before
place_is before left = let e = length-append before left in omega (arith, e)

pub spelled_both : (a b : List Part) → bytes_of_parts (a ++ b) ≡ bytes_of_parts a ++ bytes_of_parts b
spelled_both a b = flat_map-append (λ one. one.bytes) a b

pub bytes_front : (a b : List ℕ) → AreBytes (a ++ b) → AreBytes a
bytes_front [] b h i = omega arith
bytes_front (x ∷ a) b h zero = h zero
bytes_front (x ∷ a) b h (suc i) = bytes_front a b (λ j. h (suc j)) i

pub bytes_after : (a b : List ℕ) → AreBytes (a ++ b) → AreBytes b
bytes_after [] b h = h
bytes_after (x ∷ a) b h = bytes_after a b (λ j. h (suc j))

-- what is read has these fields, whatever comes after them
pub record Read {X : Type 0} (r : ReadStep X) (text : X → List Part) (Good : X → Type 0) (w left : List ℕ) (x : X × Rest) : Type 0 where
  pub good : Good x.0
  pub after : List ℕ
  pub split : left ≡ bytes_of_parts (text x.0) ++ after
  pub there : x.1 ≡ rest (w ++ left) after
  pub again : (more : List ℕ) → r (past w (bytes_of_parts (text x.0) ++ more)) ≡ Ok (x.0, rest (w ++ (bytes_of_parts (text x.0) ++ more)) more)

-- the fault of the field that comes next
abbrev pub IsAt : {X : Type 0} → ReadStep X → List ℕ → List Part → Part → List ℕ → FileFault → Type 0
IsAt r w before next behind f =
    ((length behind < length next.bytes) × (f ≡ next.cut (length w + length (bytes_of_parts before))))
    ⊎ ((length next.bytes ≤ length behind) × (f ≡ next.wrong (length w + length (bytes_of_parts before)))
    × ((more : List ℕ) → r (past w (bytes_of_parts before ++ (take (length next.bytes) behind ++ more))) ≡ Err f))

-- the fields before a fault are the first of something that can be read
pub record Stop {X : Type 0} (r : ReadStep X) (text : X → List Part) (Good : X → Type 0) (w left : List ℕ) (f : FileFault) : Type 0 where
  pub witness : X
  pub good : Good witness
  pub before : List Part
  pub field : Part
  pub after : List Part
  pub behind : List ℕ
  pub row : text witness ≡ before ++ field ∷ after
  pub split : left ≡ bytes_of_parts before ++ behind
  pub fault : IsAt r w before field behind f

abbrev pub Tells : {X : Type 0} → ReadStep X → (X → List Part) → (X → Type 0) → List ℕ → List ℕ → Result (X × Rest) FileFault → Type 0
Tells r text Good w left (Ok x) = Read r text Good w left x
Tells r text Good w left (Err f) = Stop r text Good w left f

abbrev pub Told : {X : Type 0} → ReadStep X → (X → List Part) → (X → Type 0) → Type 0
Told r text Good = (w left : List ℕ) → AreBytes left → Tells r text Good w left (r (past w left))

-- what was read so far, and what is known of what comes next
abbrev pub Follows : {Y : Type 0} → (Y → List Part) → (Y → Type 0) → List Part → (Y → List Part) → Y → Type 0
Follows tY GY front t2 y = (tY y ≡ front ++ t2 y) × GY y

after_read : {X Y : Type 0} (r : ReadStep X) (next : X → ReadStep Y) (t1 : X → List Part) (G1 : X → Type 0) (t2 : Y → List Part) (tY : Y → List Part) (GY : Y → Type 0) (w left : List ℕ) (x : X × Rest)
    → Read r t1 G1 w left x → AreBytes left → Told (next x.0) t2 (Follows tY GY (t1 x.0) t2) → Tells (r >>= next) tY GY w left (next x.0 x.1)
after_read {X} {Y} r next t1 G1 t2 tY GY w left x rd bytes told = subst Q (sym whole) (by (next x.0 (past w1 rd.after)) (told w1 rd.after late)) where
  front : List ℕ
  front = bytes_of_parts (t1 x.0)

  w1 : List ℕ
  w1 = w ++ front

  Q : Rest → Type 0
  Q s = Tells (r >>= next) tY GY w left (next x.0 s)

  whole : x.1 ≡ past w1 rd.after
  whole = rd.there ∙ ap (λ l. rest l rd.after) (ap (λ l. w ++ l) rd.split ∙ sym (append_assoc w front rd.after))

  late : AreBytes rd.after
  late = bytes_after front rd.after (subst AreBytes rd.split bytes)

  joined : (m : List ℕ) (got : Result (Y × Rest) FileFault) → next x.0 (past w1 m) ≡ got → (r >>= next) (past w (front ++ m)) ≡ got
  joined m got e = ap (λ q. unless_faulty q (λ y. next y.0 y.1)) (rd.again m) ∙ ap (λ l. next x.0 (rest l m)) (sym (append_assoc w front m)) ∙ e

  spell : (y : Y) → Follows tY GY (t1 x.0) t2 y → bytes_of_parts (tY y) ≡ front ++ bytes_of_parts (t2 y)
  spell y g = ap bytes_of_parts g.0 ∙ spelled_both (t1 x.0) (t2 y)

  by : (got : Result (Y × Rest) FileFault) → Tells (next x.0) t2 (Follows tY GY (t1 x.0) t2) w1 rd.after got → Tells (r >>= next) tY GY w left got
  by (Ok y) u = record {
    good = u.good.1;
    after = u.after;
    split = rd.split ∙ ap (λ l. front ++ l) u.split ∙ sym (append_assoc front (bytes_of_parts (t2 y.0)) u.after) ∙ ap (λ l. l ++ u.after) (sym (spell y.0 u.good));
    there = u.there ∙ ap (λ l. rest l u.after) (append_assoc w front rd.after ∙ ap (λ l. w ++ l) (sym rd.split));
    again = λ more. subst (λ l. (r >>= next) (past w l) ≡ Ok (y.0, rest (w ++ l) more)) (sym (ap (λ l. l ++ more) (spell y.0 u.good) ∙ append_assoc front (bytes_of_parts (t2 y.0)) more)) (joined (bytes_of_parts (t2 y.0) ++ more) _ (u.again more) ∙ ap (λ l. Ok (y.0, rest l more)) (append_assoc w front (bytes_of_parts (t2 y.0) ++ more)));
  }
  by (Err f) u = record {
    witness = u.witness;
    good = u.good.1;
    before = t1 x.0 ++ u.before;
    field = u.field;
    after = u.after;
    behind = u.behind;
    row = u.good.0 ∙ ap (λ l. t1 x.0 ++ l) u.row ∙ sym (append_assoc (t1 x.0) u.before (u.field ∷ u.after));
    split = rd.split ∙ ap (λ l. front ++ l) u.split ∙ sym (append_assoc front (bytes_of_parts u.before) u.behind) ∙ ap (λ l. l ++ u.behind) (sym (spelled_both (t1 x.0) u.before));
    fault = at u.fault;
  } where
    placed : length w1 + length (bytes_of_parts u.before) ≡ length w + length (bytes_of_parts (t1 x.0 ++ u.before))
    placed = let e : length (bytes_of_parts (t1 x.0 ++ u.before)) ≡ length (front ++ bytes_of_parts u.before) = ap length (spelled_both (t1 x.0) u.before) in omega (arith, e, length-append w front, length-append front (bytes_of_parts u.before))

    at : IsAt (next x.0) w1 u.before u.field u.behind f → IsAt (r >>= next) w (t1 x.0 ++ u.before) u.field u.behind f
    at (inl e) = inl (e.0, e.1 ∙ ap u.field.cut placed)
    at (inr e) = inr (
      e.0,
      e.1 ∙ ap u.field.wrong placed,
      λ more.
          let tail : List ℕ = take (length u.field.bytes) u.behind ++ more in
          let same : bytes_of_parts (t1 x.0 ++ u.before) ++ tail ≡ front ++ (bytes_of_parts u.before ++ tail) = ap (λ l. l ++ tail) (spelled_both (t1 x.0) u.before) ∙ append_assoc front (bytes_of_parts u.before) tail in
          subst (λ l. (r >>= next) (past w l) ≡ Err f) (sym same) (joined (bytes_of_parts u.before ++ tail) (Err f) (e.2 more)),
    )

-- one after another
pub bind_told : {X Y : Type 0} (r : ReadStep X) (next : X → ReadStep Y) (t1 : X → List Part) (G1 : X → Type 0) (t2 : X → Y → List Part) (tY : Y → List Part) (GY : Y → Type 0)
    → Told r t1 G1 → ((x : X) → G1 x → Told (next x) (t2 x) (Follows tY GY (t1 x) (t2 x))) → ((x : X) → G1 x → (y : Y) × Follows tY GY (t1 x) (t2 x) y) → Told (r >>= next) tY GY
bind_told {X} {Y} r next t1 G1 t2 tY GY one others some w left bytes = by (r (past w left)) (one w left bytes) where
  by : (got : Result (X × Rest) FileFault) → Tells r t1 G1 w left got → Tells (r >>= next) tY GY w left (unless_faulty got (λ x. next x.0 x.1))
  by (Ok x) rd = after_read r next t1 G1 (t2 x.0) tY GY w left x rd bytes (others x.0 rd.good)
  by (Err f) u = record {
    witness = y.0;
    good = y.1.1;
    before = u.before;
    field = u.field;
    after = u.after ++ t2 u.witness y.0;
    behind = u.behind;
    row = y.1.0 ∙ ap (λ l. l ++ t2 u.witness y.0) u.row ∙ append_assoc u.before (u.field ∷ u.after) (t2 u.witness y.0);
    split = u.split;
    fault = at u.fault;
  } where
    y : (y : Y) × Follows tY GY (t1 u.witness) (t2 u.witness) y
    y = some u.witness u.good

    at : IsAt r w u.before u.field u.behind f → IsAt (r >>= next) w u.before u.field u.behind f
    at (inl e) = inl e
    at (inr e) = inr (e.0, e.1, λ more. ap (λ q. unless_faulty q (λ z. next z.0 z.1)) (e.2 more))

-- two readers that give the same
tells_same : {X : Type 0} (f r : ReadStep X) (text : X → List Part) (Good : X → Type 0) (w left : List ℕ) → ((l : List ℕ) → r (past w l) ≡ f (past w l)) → (got : Result (X × Rest) FileFault) → Tells f text Good w left got → Tells r text Good w left got
tells_same f r text Good w left same (Ok x) u = record {
  good = u.good;
  after = u.after;
  split = u.split;
  there = u.there;
  again = λ more. same (bytes_of_parts (text x.0) ++ more) ∙ u.again more;
}
tells_same f r text Good w left same (Err e) u = record {
  witness = u.witness;
  good = u.good;
  before = u.before;
  field = u.field;
  after = u.after;
  behind = u.behind;
  row = u.row;
  split = u.split;
  fault = at u.fault;
} where
  at : IsAt f w u.before u.field u.behind e → IsAt r w u.before u.field u.behind e
  at (inl g) = inl g
  at (inr g) = inr (g.0, g.1, λ more. same (bytes_of_parts u.before ++ (take (length u.field.bytes) u.behind ++ more)) ∙ g.2 more)

-- a weaker fact
pub weaker : {X : Type 0} (r : ReadStep X) (text : X → List Part) (G H : X → Type 0) → ((x : X) → G x → H x) → Told r text G → Told r text H
weaker {X} r text G H f told w left bytes = by (r (past w left)) (told w left bytes) where
  by : (got : Result (X × Rest) FileFault) → Tells r text G w left got → Tells r text H w left got
  by (Ok x) u = record {
    good = f x.0 u.good;
    after = u.after;
    split = u.split;
    there = u.there;
    again = u.again;
  }
  by (Err e) u = record {
    witness = u.witness;
    good = f u.witness u.good;
    before = u.before;
    field = u.field;
    after = u.after;
    behind = u.behind;
    row = u.row;
    split = u.split;
    fault = u.fault;
  }

pub gives_told : {X : Type 0} (x : X) (text : X → List Part) (Good : X → Type 0) → text x ≡ [] → Good x → Told (already x) text Good
gives_told x text Good none good w left bytes = record {
  good = good;
  after = left;
  split = ap (λ row. bytes_of_parts row ++ left) (sym none);
  there = refl;
  again = λ more.
      let same : more ≡ bytes_of_parts (text x) ++ more = ap (λ row. bytes_of_parts row ++ more) (sym none) in
      subst (λ l. already x (past w l) ≡ Ok (x, rest (w ++ l) more)) same refl;
}

pub makes_told : {X Y : Type 0} (view : X → Y) (r : ReadStep X) (t : X → List Part) (G : X → Type 0) (tY : Y → List Part) (GY : Y → Type 0) → Told r t G → ((x : X) → G x → tY (view x) ≡ t x) → ((x : X) → G x → GY (view x)) → Told (makes view r) tY GY
makes_told {X} {Y} view r t G tY GY one text good =
    bind_told r (λ x. already (view x)) t G (λ x y. []) tY GY one
    (λ x g. gives_told (view x) (λ y. []) (Follows tY GY (t x) (λ y. [])) refl (text x g ∙ sym (append-nil (t x)), good x g))
    (λ x g. (view x, (text x g ∙ sym (append-nil (t x)), good x g)))

-- the bytes of a number
pub record IsForm (n : ℕ) (spell : ℕ → List ℕ) (Fits : ℕ → Type 0) : Type 0 where
  pub len : (x : ℕ) → length (spell x) ≡ n
  pub number : (x : ℕ) → Fits x → big_number n (spell x) ≡ x
  pub back : (b : List ℕ) → length b ≡ n → AreBytes b → (b ≡ spell (big_number n b)) × Fits (big_number n b)

pub one_form : IsForm 1 (λ x. x ∷ []) (λ x. x < 256)
one_form = record { len = λ x. refl; number = λ x fits. one x; back = back } where
  one : (x : ℕ) → x * 256 ^ 0 + 0 ≡ x
  one x = omega arith

  back : (b : List ℕ) → length b ≡ 1 → AreBytes b → (b ≡ big_number 1 b ∷ []) × (big_number 1 b < 256)
  back [] len h = absurd (omega (arith, len))
  back (x ∷ []) len h = (ap (λ y. y ∷ []) (sym (one x)), omega (arith, one x, h 0))
  back (x ∷ y ∷ l) len h = absurd (omega (arith, len))

pub two_form : IsForm 2 (big_bytes 2) (λ x. x < 2 ^ 16)
two_form = record {
  len = λ x. refl;
  number = λ x fits. let back = from_be_bytes-to_be_bytes_2 x fits in omega (arith, back);
  back = λ b len h. (two_bytes b (big_number 2 b) len h refl, omega (arith, h 0, h 1));
}

four_form : IsForm 4 (big_bytes 4) (λ x. x < 2 ^ 32)
four_form = record {
  len = λ x. refl;
  number = λ x fits. let back = from_be_bytes-to_be_bytes_4 x fits in omega (arith, back);
  back = λ b len h. (four_bytes b (big_number 4 b) len h refl, omega (arith, h 0, h 1, h 2, h 3));
}

-- what comes of a number: it is refused, or goes on
abbrev pub Outcome : {Y : Type 0} → (ℕ → List ℕ) → (ℕ → FileFault) → (ℕ → ℕ → ReadStep Y) → (Y → List Part) → (Y → Type 0) → ℕ → Type 0
Outcome spell wrong next tY GY x =
    ((at : ℕ) (r : Rest) → next at x r ≡ Err (wrong at))
    ⊎ ((at : ℕ) → Told (next at x) (λ y. drop 1 (tY y)) (Follows tY GY (part_with wrong (spell x) ∷ []) (λ y. drop 1 (tY y))))

-- a number that is a field, and what comes of it
pub field_told : {Y : Type 0} (n : ℕ) (spell : ℕ → List ℕ) (Fits : ℕ → Type 0) → IsForm n spell Fits → (wrong : ℕ → FileFault) (r : ReadStep Y) (next : ℕ → ℕ → ReadStep Y) (tY : Y → List Part) (GY : Y → Type 0)
    → ((w l : List ℕ) → r (past w l) ≡ (number_next n >>= next (length w)) (past w l)) → ((x : ℕ) → Fits x → Outcome spell wrong next tY GY x)
    → (x0 : ℕ) (y0 : Y) → Follows tY GY (part_with wrong (spell x0) ∷ []) (λ y. drop 1 (tY y)) y0 → Told r tY GY
field_told {Y} n spell Fits form wrong r next tY GY same each x0 y0 g0 w left bytes =
    subst (Tells r tY GY w left) (sym (same w left)) (tells_same both r tY GY w left (same w) (both (past w left)) (by (nat_lt (length left) n) refl)) where
      both : ReadStep Y
      both = number_next n >>= next (length w)

      none : length w ≡ length w + 0
      none = omega arith

      stops : (f : FileFault) → IsAt both w [] (part_with wrong (spell x0)) left f → Stop both tY GY w left f
      stops f fault = record {
        witness = y0;
        good = g0.1;
        before = [];
        field = part_with wrong (spell x0);
        after = drop 1 (tY y0);
        behind = left;
        row = g0.0;
        split = refl;
        fault = fault;
      }

      by : (short : Bool) → nat_lt (length left) n ≡ short → Tells both tY GY w left (both (past w left))
      by true e =
          let cut : both (past w left) ≡ Err (faults.Cut (length w)) = rw e (ap (λ at. Err (faults.Cut at)) (place_is w left)) in
          let less : length left < length (spell x0) = omega (arith, ltb-true (length left) n e, form.len x0) in
          subst (Tells both tY GY w left) (sym cut) (stops (faults.Cut (length w)) (inl (less, ap faults.Cut none)))
      by false e = subst (Tells both tY GY w left) (sym (ap (λ q. unless_faulty q (λ y. next (length w) y.0 y.1)) numbered)) (chosen (each x known.1)) where
        many : n ≤ length left
        many = ltb-false (length left) n e

        x : ℕ
        x = big_number n (take n left)

        len : length (take n left) ≡ n
        len = length-take-le n left many

        whole : take n left ++ drop n left ≡ left
        whole = take-append-drop n left

        numbered : number_next n (past w left) ≡ Ok (x, rest (w ++ left) (drop n left))
        numbered = ap (λ l. number_next n (rest (w ++ left) l)) (sym whole) ∙ number_again (w ++ left) n x (take n left) (drop n left) len refl

        known : (take n left ≡ spell x) × Fits x
        known = form.back (take n left) len (bytes_front (take n left) (drop n left) (subst AreBytes (sym whole) bytes))

        nil : spell x ++ [] ≡ spell x
        nil = append-nil (spell x)

        taken : Read (number_next n) (λ y. part_with wrong (spell y) ∷ []) Fits w left (x, rest (w ++ left) (drop n left))
        taken = record {
          good = known.1;
          after = drop n left;
          split = sym whole ∙ ap (λ l. l ++ drop n left) (known.0 ∙ sym nil);
          there = refl;
          again = λ more. number_again (w ++ ((spell x ++ []) ++ more)) n x (spell x ++ []) more (ap length nil ∙ form.len x) (ap (big_number n) nil ∙ form.number x known.1);
        }

        chosen : Outcome spell wrong next tY GY x → Tells both tY GY w left (next (length w) x (rest (w ++ left) (drop n left)))
        chosen (inl refused) = subst (Tells both tY GY w left) (sym (refused (length w) (rest (w ++ left) (drop n left)))) (stops (wrong (length w)) (inr (
          omega (arith, many, form.len x0),
          ap wrong none,
          λ more.
              let again : number_next n (past w (take n left ++ more)) ≡ Ok (x, rest (w ++ (take n left ++ more)) more) = number_again (w ++ (take n left ++ more)) n x (take n left) more len refl in
              let now : both (past w (take n left ++ more)) ≡ Err (wrong (length w)) = ap (λ q. unless_faulty q (λ y. next (length w) y.0 y.1)) again ∙ refused (length w) (rest (w ++ (take n left ++ more)) more) in
              subst (λ k. both (past w (take k left ++ more)) ≡ Err (wrong (length w))) (sym (form.len x0)) now,
        )))
        chosen (inr told) = after_read (number_next n) (next (length w)) (λ y. part_with wrong (spell y) ∷ []) Fits (λ y. drop 1 (tY y)) tY GY w left (x, rest (w ++ left) (drop n left)) taken bytes (told (length w))

-- bytes
pub bytes_told : (n : ℕ) → Told (bytes_next n) (λ b. free b ∷ []) (λ b. length b ≡ n)
bytes_told n w left bytes = by (nat_lt (length left) n) refl where
  by : (short : Bool) → nat_lt (length left) n ≡ short → Tells (bytes_next n) (λ b. free b ∷ []) (λ b. length b ≡ n) w left (if short then Err (faults.Cut (place_in (past w left))) else Ok (take n left, rest (w ++ left) (drop n left)))
  by true e = record {
    witness = replicate n 0;
    good = length-replicate {A = ℕ} n 0;
    before = [];
    field = free (replicate n 0);
    after = [];
    behind = left;
    row = refl;
    split = refl;
    fault = inl (omega (arith, ltb-true (length left) n e, length-replicate {A = ℕ} n 0), ap faults.Cut (place_is w left ∙ none));
  } where
    none : length w ≡ length w + 0
    none = omega arith
  by false e = record {
    good = long;
    after = drop n left;
    split = sym (take-append-drop n left) ∙ ap (λ l. l ++ drop n left) (sym nil);
    there = refl;
    again = λ more. subst (λ l. bytes_next n (past w (l ++ more)) ≡ Ok (take n left, rest (w ++ (l ++ more)) more)) (sym nil) (again more);
  } where
    long : length (take n left) ≡ n
    long = length-take-le n left (ltb-false (length left) n e)

    nil : take n left ++ [] ≡ take n left
    nil = append-nil (take n left)

    again : (more : List ℕ) → bytes_next n (past w (take n left ++ more)) ≡ Ok (take n left, rest (w ++ (take n left ++ more)) more)
    again more =
        let fits : nat_lt (length (take n left ++ more)) n ≡ false = le-ltb _ _ (omega (arith, long, length-append (take n left) more)) in
        rw (fits, take_at (take n left) more n long, drop_at (take n left) more n long) refl

gives_after : {X : Type 0} (got : Result (X × Rest) FileFault) → got ≡ unless_faulty got (λ x. Ok (x.0, x.1))
gives_after (Ok x) = refl
gives_after (Err f) = refl

-- a number that may be any
number_told : (n : ℕ) (spell : ℕ → List ℕ) (Fits : ℕ → Type 0) → IsForm n spell Fits → Fits 0 → Told (number_next n) (λ x. free (spell x) ∷ []) Fits
number_told n spell Fits form zero_fits =
    field_told n spell Fits form faults.Cut (number_next n) (λ at x. already x) (λ x. free (spell x) ∷ []) Fits (λ w l. gives_after (number_next n (past w l)))
    (λ x fits. inr (λ at. gives_told x (λ y. []) (Follows (λ x. free (spell x) ∷ []) Fits (part_with faults.Cut (spell x) ∷ []) (λ y. [])) refl (refl, fits))) 0 0 (refl, zero_fits)

pub one_told : Told (number_next 1) (λ x. free (x ∷ []) ∷ []) (λ x. x < 256)
one_told = number_told 1 (λ x. x ∷ []) (λ x. x < 256) one_form (omega arith)

pub two_told : Told (number_next 2) (λ x. free (big_bytes 2 x) ∷ []) (λ x. x < 2 ^ 16)
two_told = number_told 2 (big_bytes 2) (λ x. x < 2 ^ 16) two_form (omega arith)

pub four_told : Told (number_next 4) (λ x. free (big_bytes 4 x) ∷ []) (λ x. x < 2 ^ 32)
four_told = number_told 4 (big_bytes 4) (λ x. x < 2 ^ 32) four_form (omega arith)

signed_fits : (n : ℕ) → n < 2 ^ 32 → FitsSigned w32 (cast_signed w32 n)
unfolding int_wrap
signed_fits n fits =
    let e : n % 2 ^ 32 ≡ n = omega (arith, fits) in
    let h : FitsSigned w32 (cast_signed w32 (n % 2 ^ 32)) = SFits-int_wrap w32 (pos n) in
    subst (λ m. FitsSigned w32 (cast_signed w32 m)) e h

pub signed_told : Told signed_at (λ z. free (signed_bytes z) ∷ []) (FitsSigned w32)
signed_told = makes_told (cast_signed w32) (number_next 4) (λ x. free (big_bytes 4 x) ∷ []) (λ x. x < 2 ^ 32) (λ z. free (signed_bytes z) ∷ []) (FitsSigned w32) four_told (λ x fits. ap (λ b. free b ∷ []) (signed_back x fits)) signed_fits

-- a test, and what comes after it
pub tested : {Y : Type 0} (test : Bool) (wrong : ℕ → FileFault) (next : ReadStep Y) (t2 : Y → List Part) (G2 : Y → Type 0) → (test ≡ false → Told next t2 G2)
    → ((at : ℕ) (r : Rest) → (fault_where test (wrong at) >>= λ _. next) r ≡ Err (wrong at)) ⊎ ((at : ℕ) → Told (fault_where test (wrong at) >>= λ _. next) t2 G2)
tested true wrong next t2 G2 told = inl (λ at r. refl)
tested false wrong next t2 G2 told = inr (λ at. told refl)

pub known : {Y : Type 0} (o : Option Y) (wrong : ℕ → FileFault) (t2 : Y → List Part) (G2 : Y → Type 0) → ((y : Y) → o ≡ Some y → (t2 y ≡ []) × G2 y)
    → ((at : ℕ) (r : Rest) → known_or (wrong at) o r ≡ Err (wrong at)) ⊎ ((at : ℕ) → Told (known_or (wrong at) o) t2 G2)
known None wrong t2 G2 h = inl (λ at r. refl)
known (Some y) wrong t2 G2 h = inr (λ at. gives_told y t2 G2 (h y refl).0 (h y refl).1)

pub limited_told : (n : ℕ) (spell : ℕ → List ℕ) (Fits : ℕ → Type 0) → IsForm n spell Fits → (most : ℕ) → Told (limited_at n most) (λ x. limited (spell x) ∷ []) (λ x. x ≤ most)
unfolding limited_at
limited_told n spell Fits form most =
    field_told n spell Fits form (λ at. faults.Limit) (limited_at n most) (λ at x. fault_where (nat_lt most x) faults.Limit >>= λ _. already x) (λ x. limited (spell x) ∷ []) (λ x. x ≤ most) (λ w l. refl)
    (λ x fits. tested (nat_lt most x) (λ at. faults.Limit) (already x) (λ y. []) (Follows (λ x. limited (spell x) ∷ []) (λ x. x ≤ most) (limited (spell x) ∷ []) (λ y. [])) (λ e. gives_told x (λ y. []) (Follows (λ x. limited (spell x) ∷ []) (λ x. x ≤ most) (limited (spell x) ∷ []) (λ y. [])) refl (refl, ltb-false most x e))) 0 0 (refl, omega arith)

-- the reader of a field that begins by its place
pub at_place : {Y : Type 0} (n : ℕ) (next : ℕ → ℕ → ReadStep Y) (w l : List ℕ) → (here >>= λ at. number_next n >>= λ x. next at x) (past w l) ≡ (number_next n >>= next (length w)) (past w l)
at_place n next w l = ap (λ at. (number_next n >>= next at) (past w l)) (place_is w l)

-- this many items
abbrev pub Row : {X : Type 0} → (ℕ → X → Type 0) → ℕ → List X → Type 0
Row Good zero l = l ≡ []
Row {X} Good (suc n) l = (x : X) × (xs : List X) × (l ≡ x ∷ xs) × Good n x × Row Good n xs

pub row_some : {X : Type 0} (Good : ℕ → X → Type 0) → ((n : ℕ) → (x : X) × Good n x) → (n : ℕ) → (l : List X) × Row Good n l
row_some Good some zero = ([], refl)
row_some Good some (suc n) =
    let x = some n in
    let l = row_some Good some n in
    (x.0 ∷ l.0, (x.0, l.0, refl, x.1, l.1))

pub many_told : {X : Type 0} (item : ℕ → ReadStep X) (text : X → List Part) (Good : ℕ → X → Type 0) → ((n : ℕ) → Told (item n) text (Good n)) → ((n : ℕ) → (x : X) × Good n x) → (n : ℕ) → Told (many_at item n) (flat_map text) (Row Good n)
unfolding many_at
many_told item text Good each some zero = gives_told [] (flat_map text) (Row Good zero) refl refl
many_told {X} item text Good each some (suc n) =
    bind_told (item n) (λ x. many_at item n >>= λ xs. already (x ∷ xs)) text (Good n) (λ x l. flat_map text (drop 1 l)) (flat_map text) (Row Good (suc n)) (each n)
    (λ x g. makes_told (λ xs. x ∷ xs) (many_at item n) (flat_map text) (Row Good n) (λ l. flat_map text (drop 1 l)) (Follows (flat_map text) (Row Good (suc n)) (text x) (λ l. flat_map text (drop 1 l))) (many_told item text Good each some n) (λ xs h. refl) (λ xs h. (refl, (x, xs, refl, g, h))))
    (λ x g.
    let l = row_some Good some n in
    (x ∷ l.0, (refl, (x, l.0, refl, g, l.1))))
