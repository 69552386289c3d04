-- Tiers: where a number is in them, and what they are after one is inserted or removed.
use Rattle.std.proofs.Common.{◌≡◌, ℕ, ◌+◌, ◌-◌, ◌*◌, ◌/◌, ◌%◌, ◌<◌, ◌≤◌, min, zero, suc, List, [], ◌∷◌, ◌++◌, length, get_or, set, take, drop, refl, sym, ap, ◌∙◌, subst, ⊎_elim, Option, None, Some, arith}
use Rattle.std.specs.List.{All, flat_map, insert, remove}
use Rattle.std.specs.Option.{option_to_list}
use Rattle.std.proofs.lemmas.Bool.{cases_eq, cases_lt}
use Rattle.std.proofs.lemmas.List.{append_assoc, append-nil, drop-set, drop-set-lt, drop_more, get_or-set_other, get_or-set_same, length-append, length-set, length_push, set_split, take-append-drop, take-set-le, take_more_set}
use Rattle.std.proofs.lemmas.List.Concat.{flat_map-append, get_or-flat_map}
use Rattle.std.proofs.lemmas.List.Edits.{insert-append_left, insert-append_right, length-insert, length-remove, remove-append_left, remove-append_right}
use Rattle.kd_rows.specs.Tiers.{AreTiers}

-- the lengths of tiers, each as full as it can be with n numbers in all
abbrev pub Full : {T : Type 0} → (T → List ℕ) → ℕ → List T → Type 0
Full {T} f n ts = (i : ℕ) (d : T) → i < length ts → length (f (get_or ts i d)) ≡ min 4096 (n - 4096 * i)

-- the same without the first tier
full_rest : {T : Type 0} (f : T → List ℕ) (n : ℕ) (t : T) (ts : List T) → Full f n (t ∷ ts) → Full f (n - 4096) ts
full_rest f n t ts full i d inside = let h = full (suc i) d (omega arith) in omega (arith, h)

-- there are no more numbers than the tiers have room for
pub flat_most : {T : Type 0} (f : T → List ℕ) (n : ℕ) (ts : List T) → Full f n ts → length (flat_map f ts) ≤ 4096 * length ts
flat_most f n [] full = omega arith
flat_most f n (t ∷ ts) full =
    let first = full 0 t (omega arith) in
    let rest = flat_most f (n - 4096) ts (full_rest f n t ts full) in
    let both = length-append (f t) (flat_map f ts) in
    omega (arith, first, rest, both)

-- the tiers before one that is reached are full
pub before : {T : Type 0} (f : T → List ℕ) (n : ℕ) (ts : List T) (i : ℕ) → Full f n ts → i ≤ length ts → 4096 * i ≤ n → length (flat_map f (take i ts)) ≡ 4096 * i
before f n ts zero full inside reached = omega arith
before f n [] (suc i) full inside reached = absurd (omega (arith, inside))
before f n (t ∷ ts) (suc i) full inside reached =
    let first = full 0 t (omega arith) in
    let rest = before f (n - 4096) ts i (full_rest f n t ts full) (omega (arith, inside)) (omega (arith, reached)) in
    let both = length-append (f t) (flat_map f (take i ts)) in
    omega (arith, first, rest, both)

-- the number at an index
pub at_place : {T : Type 0} (f : T → List ℕ) (ts : List T) (place : ℕ) (e : T) (d : ℕ) → Full f (length (flat_map f ts)) ts → place < length (flat_map f ts) → get_or (flat_map f ts) place d ≡ get_or (f (get_or ts (place / 4096) e)) (place % 4096) d
at_place f ts place e d full within =
    let most = flat_most f (length (flat_map f ts)) ts full in
    let inside : place / 4096 < length ts = omega (arith, most, within) in
    let long = full (place / 4096) e inside in
    let first = before f (length (flat_map f ts)) ts (place / 4096) full (omega (arith, inside)) (omega (arith, within)) in
    let is : place ≡ length (flat_map f (take (place / 4096) ts)) + place % 4096 = omega (arith, first) in
    ap (λ (i : ℕ). get_or (flat_map f ts) i d) is ∙ get_or-flat_map f ts (place / 4096) (place % 4096) e d inside (omega (arith, long, within))

-- the numbers before a tier, in it, and after it
pub split : {T : Type 0} (f : T → List ℕ) (ts : List T) (i : ℕ) (d : T) → i < length ts → flat_map f ts ≡ flat_map f (take i ts) ++ (f (get_or ts i d) ++ flat_map f (drop (i + 1) ts))
split f ts i d inside =
    ap (flat_map f) (sym (take-append-drop i ts)) ∙ flat_map-append f (take i ts) (drop i ts)
    ∙ ap (λ (ys : List _). flat_map f (take i ts) ++ flat_map f ys) (drop_more ts i d inside)

-- a tier is exchanged: the numbers up to and including it, and those after it
pub exchanged : {T : Type 0} (f : T → List ℕ) (ts : List T) (i : ℕ) (t : T) (all new over : List ℕ) → i < length ts → new ≡ f t ++ over → all ≡ flat_map f (take i ts) ++ (new ++ flat_map f (drop (i + 1) ts)) → all ≡ flat_map f (take (i + 1) (set ts i t)) ++ (over ++ flat_map f (drop (i + 1) (set ts i t)))
exchanged {T} f ts i t all new over inside is same =
    same ∙ ap (λ (ys : List ℕ). a ++ (ys ++ b)) is ∙ ap (λ (ys : List ℕ). a ++ ys) (append_assoc (f t) over b)
    ∙ sym (append_assoc a (f t) (over ++ b))
    ∙ ap (λ (ys : List ℕ). ys ++ (over ++ b)) (sym front)
    ∙ ap (λ (ys : List T). flat_map f (take (i + 1) (set ts i t)) ++ (over ++ flat_map f ys)) (sym (drop-set-lt (i + 1) ts i t (omega arith))) where
      a : List ℕ
      a = flat_map f (take i ts)

      b : List ℕ
      b = flat_map f (drop (i + 1) ts)

      front : flat_map f (take (i + 1) (set ts i t)) ≡ a ++ f t
      front =
          ap (flat_map f) (take_more_set ts i t inside) ∙ flat_map-append f (take i ts) (t ∷ [])
          ∙ ap (λ (ys : List ℕ). a ++ ys) (append-nil (f t))

-- a number is inserted in the tier of its index
pub begun : {T : Type 0} (f : T → List ℕ) (ts : List T) (place number : ℕ) (d : T) → Full f (length (flat_map f ts)) ts → place ≤ length (flat_map f ts) → place / 4096 < length ts → insert (flat_map f ts) place number ≡ flat_map f (take (place / 4096) ts) ++ (insert (f (get_or ts (place / 4096) d)) (place % 4096) number ++ flat_map f (drop (place / 4096 + 1) ts))
begun f ts place number d full most inside =
    ap (λ (ys : List ℕ). insert ys place number) (split f ts (place / 4096) d inside)
    ∙ insert-append_right (flat_map f (take (place / 4096) ts)) (here ++ after) (4096 * (place / 4096)) place number first (omega arith)
    ∙ ap (λ (i : ℕ). flat_map f (take (place / 4096) ts) ++ insert (here ++ after) i number) (omega arith)
    ∙ ap (λ (ys : List ℕ). flat_map f (take (place / 4096) ts) ++ ys) (insert-append_left here after (place % 4096) number (omega (arith, long, most))) where
      here : List ℕ
      here = f (get_or ts (place / 4096) d)

      after : List ℕ
      after = flat_map f (drop (place / 4096 + 1) ts)

      long : length here ≡ min 4096 (length (flat_map f ts) - 4096 * (place / 4096))
      long = full (place / 4096) d inside

      first : length (flat_map f (take (place / 4096) ts)) ≡ 4096 * (place / 4096)
      first = before f (length (flat_map f ts)) ts (place / 4096) full (omega (arith, inside)) (omega (arith, most))

-- the lengths of tiers after one is exchanged, if those before it are as full as they can be with m
-- numbers
pub full_before : {T : Type 0} (f : T → List ℕ) (m : ℕ) (ts : List T) (i : ℕ) (t : T) → i < length ts → length (f t) ≡ min 4096 (m - 4096 * i) → ((j : ℕ) (d : T) → j < i → length (f (get_or ts j d)) ≡ min 4096 (m - 4096 * j)) → (j : ℕ) (d : T) → j < i + 1 → length (f (get_or (set ts i t) j d)) ≡ min 4096 (m - 4096 * j)
full_before f m ts i t inside long below j d under = ⊎_elim
    (λ e. ap (λ (k : ℕ). length (f (get_or (set ts i t) k d))) e ∙ ap (λ (x : _). length (f x)) (get_or-set_same ts i t d inside) ∙ long ∙ ap (λ (k : ℕ). min 4096 (m - 4096 * k)) (sym e))
    (λ other. ap (λ (x : _). length (f x)) (get_or-set_other ts i j t d other) ∙ below j d (omega (arith, under, other)))
    (cases_eq j i)

-- the lengths of the tiers after it stay
pub full_after : {T : Type 0} (f : T → List ℕ) (n : ℕ) (ts : List T) (i : ℕ) (t : T) → ((j : ℕ) (d : T) → i ≤ j → j < length ts → length (f (get_or ts j d)) ≡ min 4096 (n - 4096 * j)) → (j : ℕ) (d : T) → i < j → j < length (set ts i t) → length (f (get_or (set ts i t) j d)) ≡ min 4096 (n - 4096 * j)
full_after f n ts i t above j d over inside =
    let long = length-set ts i t in
    ap (λ (x : _). length (f x)) (get_or-set_other ts i j t d (omega (arith, over))) ∙ above j d (omega (arith, over)) (omega (arith, inside, long))

-- room stays if a tier is exchanged for one with room
pub roomy_set : {T : Type 0} (capacity : T → ℕ) (ts : List T) (i : ℕ) (t : T) → 4096 ≤ capacity t → All (λ t. 4096 ≤ capacity t) ts → All (λ t. 4096 ≤ capacity t) (set ts i t)
roomy_set capacity ts i t room roomy k d inside =
    let long = length-set ts i t in
    ⊎_elim
    (λ e. subst (λ (x : _). 4096 ≤ capacity x) (sym (ap (λ (j : ℕ). get_or (set ts i t) j d) e ∙ get_or-set_same ts i t d (omega (arith, inside, long, e)))) room)
    (λ other. subst (λ (x : _). 4096 ≤ capacity x) (sym (get_or-set_other ts i k t d other)) (roomy k d (omega (arith, inside, long))))
    (cases_eq k i)

-- a number is inserted: the tiers up to one contain it, and what came out of that one goes on
pub record IsCarried {T : Type 0} (f : T → List ℕ) (capacity : T → ℕ) (old now : List T) (place number i : ℕ) (over : List ℕ) : Type 0 where
  pub inside : i < length now
  pub count : length now ≡ length old
  pub most : length over ≤ 1
  pub same : insert (flat_map f old) place number ≡ flat_map f (take (i + 1) now) ++ (over ++ flat_map f (drop (i + 1) now))
  pub below : (j : ℕ) (d : T) → j < i + 1 → length (f (get_or now j d)) ≡ min 4096 (length (flat_map f old) + 1 - 4096 * j)
  pub above : (j : ℕ) (d : T) → i < j → j < length now → length (f (get_or now j d)) ≡ min 4096 (length (flat_map f old) - 4096 * j)
  pub some : 0 < length over → 4096 * (i + 1) ≤ length (flat_map f old)
  pub none : length over ≡ 0 → length (flat_map f old) < 4096 * (i + 1)
  pub roomy : All (λ t. 4096 ≤ capacity t) now

-- a tier is as full as it can be after a number came in, and what it had no room for came out
grown : {T : Type 0} (f : T → List ℕ) (n i : ℕ) (d t : T) (over : List ℕ) → length (f d) ≡ min 4096 (n - 4096 * i) → 4096 * i ≤ n → length (f t) + length over ≡ length (f d) + 1 → length (f t) ≤ 4096 → (0 < length over → length (f t) ≡ 4096) → length over ≤ 1 → length (f t) ≡ min 4096 (n + 1 - 4096 * i)
grown f n i d t over was reached long low full one = ⊎_elim
    (λ none. omega (arith, was, none, long, low, reached))
    (λ some. let all = full (omega (arith, some)) in omega (arith, was, all, long, one, some, reached))
    (cases_eq (length over) 0)

-- the number comes into its tier
pub carried_first : {T : Type 0} (f : T → List ℕ) (capacity : T → ℕ) (old : List T) (place number : ℕ) (d t : T) (over : List ℕ) → AreTiers f capacity old → place ≤ length (flat_map f old) → length (flat_map f old) < 4096 * length old → d ≡ get_or old (place / 4096) d → insert (f d) (place % 4096) number ≡ f t ++ over → length (f t) + length over ≡ length (f d) + 1 → length (f t) ≤ 4096 → (0 < length over → length (f t) ≡ 4096) → length over ≤ 1 → 4096 ≤ capacity t → IsCarried f capacity old (set old (place / 4096) t) place number (place / 4096) over
carried_first f capacity old place number d t over are most room read is long low full one roomy =
    let n = length-set old (place / 4096) t in
    let inside : place / 4096 < length old = omega (arith, most, room) in
    let was = ap (λ (x : _). length (f x)) read ∙ are.full (place / 4096) d inside in
    record {
      inside = omega (arith, n, inside);
      count = n;
      most = one;
      same = exchanged f old (place / 4096) t _ (insert (f d) (place % 4096) number) over inside is (begun f old place number d are.full most inside ∙ ap (λ (x : _). flat_map f (take (place / 4096) old) ++ (insert (f x) (place % 4096) number ++ flat_map f (drop (place / 4096 + 1) old))) (sym read));
      below = full_before f (length (flat_map f old) + 1) old (place / 4096) t inside (grown f (length (flat_map f old)) (place / 4096) d t over was (omega (arith, most)) long low full one) (λ j e under. let h = are.full j e (omega (arith, under, inside)) in omega (arith, h, under, most));
      above = full_after f (length (flat_map f old)) old (place / 4096) t (λ j e above within. are.full j e within);
      some = λ h. let it = full h in omega (arith, was, it, long, h, one);
      none = λ h. omega (arith, was, long, low, h);
      roomy = roomy_set capacity old (place / 4096) t roomy are.roomy;
    }

-- nothing came out of a tier: the number is among the others
pub carried_all : {T : Type 0} (f : T → List ℕ) (capacity : T → ℕ) (old now : List T) (place number i : ℕ) → place ≤ length (flat_map f old) → IsCarried f capacity old now place number i [] → AreTiers f capacity now × (flat_map f now ≡ insert (flat_map f old) place number)
carried_all f capacity old now place number i most it = (record { full = full; roomy = it.roomy }, is) where
  is : flat_map f now ≡ insert (flat_map f old) place number
  is = ap (flat_map f) (sym (take-append-drop (i + 1) now)) ∙ flat_map-append f (take (i + 1) now) (drop (i + 1) now) ∙ sym it.same

  count : length (flat_map f now) ≡ length (flat_map f old) + 1
  count = ap length is ∙ length-insert (flat_map f old) place number most

  full : (j : ℕ) (d : _) → j < length now → length (f (get_or now j d)) ≡ min 4096 (length (flat_map f now) - 4096 * j)
  full j d inside = ⊎_elim
      (λ low. let h = it.below j d low in omega (arith, h, count))
      (λ high. let h = it.above j d (omega (arith, high)) inside in let none = it.none refl in omega (arith, h, count, none, high))
      (cases_lt j (i + 1))

-- an option has at most one element
pub at_most_one : (o : Option ℕ) → length (option_to_list o) ≤ 1
at_most_one None = omega arith
at_most_one (Some x) = omega arith

-- what is read at an index
pub read_at : {T : Type 0} (f : T → List ℕ) (ts : List T) (numbers : List ℕ) (place : ℕ) (t : T) (number : ℕ) → Full f (length (flat_map f ts)) ts → flat_map f ts ≡ numbers → place < length numbers → t ≡ get_or ts (place / 4096) t → number ≡ get_or (f t) (place % 4096) number → number ≡ get_or numbers place number
read_at f ts numbers place t number full are within tier read =
    let inside : place < length (flat_map f ts) = subst (λ (ns : List ℕ). place < length ns) (sym are) within in
    read ∙ ap (λ (x : _). get_or (f x) (place % 4096) number) tier ∙ sym (at_place f ts place t number full inside)
    ∙ ap (λ (ns : List ℕ). get_or ns place number) are

-- a number is removed: the tiers before one are as full as they can be, except that the last of
-- them lacks one
pub record IsDrawn {T : Type 0} (f : T → List ℕ) (capacity : T → ℕ) (old now : List T) (place i : ℕ) : Type 0 where
  pub count : length now ≡ length old
  pub same : flat_map f now ≡ remove (flat_map f old) place
  pub below : (j : ℕ) (d : T) → j + 1 < i → length (f (get_or now j d)) ≡ min 4096 (length (flat_map f old) - 1 - 4096 * j)
  pub short : (j : ℕ) (d : T) → j + 1 ≡ i → length (f (get_or now j d)) + 1 ≡ min 4096 (length (flat_map f old) - 4096 * j)
  pub above : (j : ℕ) (d : T) → i ≤ j → j < length now → length (f (get_or now j d)) ≡ min 4096 (length (flat_map f old) - 4096 * j)
  pub roomy : All (λ t. 4096 ≤ capacity t) now
  pub inside : i ≤ length now

-- all numbers after a tier is exchanged
pub flat_set : {T : Type 0} (f : T → List ℕ) (ts : List T) (i : ℕ) (t : T) → i < length ts → flat_map f (set ts i t) ≡ flat_map f (take i ts) ++ (f t ++ flat_map f (drop (i + 1) ts))
flat_set f ts i t inside =
    ap (flat_map f) (set_split ts i t inside) ∙ flat_map-append f (take i ts) (t ∷ drop (suc i) ts)
    ∙ ap (λ (k : ℕ). flat_map f (take i ts) ++ (f t ++ flat_map f (drop k ts))) {x = suc i} {y = i + 1} (omega arith)

-- the number is removed from its tier
pub drawn_first : {T : Type 0} (f : T → List ℕ) (capacity : T → ℕ) (old : List T) (place : ℕ) (d t : T) → AreTiers f capacity old → place < length (flat_map f old) → d ≡ get_or old (place / 4096) d → f t ≡ remove (f d) (place % 4096) → capacity t ≡ capacity d → IsDrawn f capacity old (set old (place / 4096) t) place (place / 4096 + 1)
drawn_first {T} f capacity old place d t are within read is room =
    record {
      count = n;
      same = flat_set f old i t inside ∙ ap (λ (ys : List ℕ). flat_map f (take i old) ++ (ys ++ flat_map f (drop (i + 1) old))) (is ∙ ap (λ (x : T). remove (f x) (place % 4096)) read) ∙ sym whole;
      below = λ j e under. let h = are.full j e (omega (arith, under, inside)) in ap (λ (x : T). length (f x)) (get_or-set_other old i j t e (omega (arith, under))) ∙ omega (arith, h, under, within);
      short = λ j e last. let same : j ≡ i = omega (arith, last) in ap (λ (k : ℕ). length (f (get_or (set old i t) k e)) + 1) same ∙ ap (λ (x : T). length (f x) + 1) (get_or-set_same old i t e inside) ∙ fewer ∙ was ∙ ap (λ (k : ℕ). min 4096 (length (flat_map f old) - 4096 * k)) (sym same);
      above = λ j e over low. ap (λ (x : T). length (f x)) (get_or-set_other old i j t e (omega (arith, over))) ∙ are.full j e (omega (arith, low, n));
      roomy = roomy_set capacity old i t (subst (λ (c : ℕ). 4096 ≤ c) (sym (room ∙ ap capacity read)) (are.roomy i d inside)) are.roomy;
      inside = omega (arith, n, inside);
    } where
      i : ℕ
      i = place / 4096

      n : length (set old i t) ≡ length old
      n = length-set old i t

      most : length (flat_map f old) ≤ 4096 * length old
      most = flat_most f (length (flat_map f old)) old are.full

      inside : i < length old
      inside = omega (arith, most, within)

      was : length (f d) ≡ min 4096 (length (flat_map f old) - 4096 * i)
      was = ap (λ (x : T). length (f x)) read ∙ are.full i d inside

      fewer : length (f t) + 1 ≡ length (f d)
      fewer = ap (λ (ys : List ℕ). length ys + 1) is ∙ length-remove (f d) (place % 4096) (omega (arith, was, within))

      here : List ℕ
      here = f (get_or old i d)

      after : List ℕ
      after = flat_map f (drop (i + 1) old)

      first : length (flat_map f (take i old)) ≡ 4096 * i
      first = before f (length (flat_map f old)) old i are.full (omega (arith, inside)) (omega (arith, within))

      whole : remove (flat_map f old) place ≡ flat_map f (take i old) ++ (remove here (place % 4096) ++ after)
      whole =
          ap (λ (ys : List ℕ). remove ys place) (split f old i d inside)
          ∙ remove-append_right (flat_map f (take i old)) (here ++ after) (4096 * i) place first (omega arith)
          ∙ ap (λ (k : ℕ). flat_map f (take i old) ++ remove (here ++ after) k) (omega arith)
          ∙ ap (λ (ys : List ℕ). flat_map f (take i old) ++ ys) (remove-append_left here after (place % 4096) (omega (arith, are.full i d inside, within)))

-- the first number of a tier goes to the end of the one before
pub drawn_more : {T : Type 0} (f : T → List ℕ) (capacity : T → ℕ) (old now : List T) (place i first : ℕ) (d e t s : T) → IsDrawn f capacity old now place (i + 1) → i + 1 < length now → d ≡ get_or now (i + 1) d → f d ≡ first ∷ f t → capacity t ≡ capacity d → e ≡ get_or (set now (i + 1) t) i e → f s ≡ f e ++ first ∷ [] → capacity s ≡ capacity e → IsDrawn f capacity old (set (set now (i + 1) t) i s) place (i + 1 + 1)
drawn_more {T} f capacity old now place i first d e t s it inside read is room read_low low room_low =
    record {
      count = n ∙ m ∙ it.count;
      same = whole ∙ it.same;
      below = λ j x under. ⊎_elim
          (λ same. ap (λ (k : ℕ). length (f (get_or next k x))) same ∙ ap (λ (y : T). length (f y)) (get_or-set_same middle i s x (omega (arith, m, inside))) ∙ filled ∙ ap (λ (k : ℕ). min 4096 (length (flat_map f old) - 1 - 4096 * k)) (sym same))
          (λ other. ap (λ (y : T). length (f y)) (get_or-set_other middle i j s x other ∙ get_or-set_other now (i + 1) j t x (omega (arith, under, other))) ∙ it.below j x (omega (arith, under, other)))
          (cases_eq j i);
      short = λ j x last. let same : j ≡ i + 1 = omega (arith, last) in ap (λ (k : ℕ). length (f (get_or next k x)) + 1) same ∙ ap (λ (y : T). length (f y) + 1) (get_or-set_other middle i (i + 1) s x (omega arith) ∙ get_or-set_same now (i + 1) t x inside) ∙ omega (arith, was, shorter) ∙ ap (λ (k : ℕ). min 4096 (length (flat_map f old) - 4096 * k)) (sym same);
      above = λ j x over within. ap (λ (y : T). length (f y)) (get_or-set_other middle i j s x (omega (arith, over)) ∙ get_or-set_other now (i + 1) j t x (omega (arith, over))) ∙ it.above j x (omega (arith, over)) (omega (arith, within, n, m));
      roomy = roomy_set capacity middle i s (subst (λ (c : ℕ). 4096 ≤ c) (sym (room_low ∙ ap capacity read_low)) (roomy_middle i e (omega (arith, m, inside)))) roomy_middle;
      inside = omega (arith, n, m, inside);
    } where
      middle : List T
      middle = set now (i + 1) t

      next : List T
      next = set middle i s

      n : length next ≡ length middle
      n = length-set middle i s

      m : length middle ≡ length now
      m = length-set now (i + 1) t

      roomy_middle : All (λ t. 4096 ≤ capacity t) middle
      roomy_middle = roomy_set capacity now (i + 1) t (subst (λ (c : ℕ). 4096 ≤ c) (sym (room ∙ ap capacity read)) (it.roomy (i + 1) d inside)) it.roomy

      was : length (f d) ≡ min 4096 (length (flat_map f old) - 4096 * (i + 1))
      was = ap (λ (x : T). length (f x)) read ∙ it.above (i + 1) d (omega arith) inside

      shorter : length (f d) ≡ length (f t) + 1
      shorter = ap length is ∙ omega arith

      low_is : e ≡ get_or now i e
      low_is = read_low ∙ get_or-set_other now (i + 1) i t e (omega arith)

      filled : length (f s) ≡ min 4096 (length (flat_map f old) - 1 - 4096 * i)
      filled =
          let h = ap (λ (x : T). length (f x) + 1) low_is ∙ it.short i e refl in
          let k = ap length low ∙ length_push (f e) first in
          omega (arith, h, k, was, shorter)

      rest : List T
      rest = drop (i + 1 + 1) now

      whole : flat_map f next ≡ flat_map f now
      whole =
          flat_set f middle i s (omega (arith, m, inside))
          ∙ ap (λ (ys : List T). flat_map f ys ++ (f s ++ flat_map f (drop (i + 1) middle))) (take-set-le i now (i + 1) t (omega arith))
          ∙ ap (λ (ys : List T). flat_map f (take i now) ++ (f s ++ flat_map f ys)) (drop-set now (i + 1) t inside)
          ∙ ap (λ (ys : List ℕ). flat_map f (take i now) ++ (ys ++ (f t ++ flat_map f rest))) low
          ∙ ap (λ (ys : List ℕ). flat_map f (take i now) ++ ys) (append_assoc (f e) (first ∷ []) (f t ++ flat_map f rest))
          ∙ ap (λ (ys : List ℕ). flat_map f (take i now) ++ (f e ++ (ys ++ flat_map f rest))) (sym is)
          ∙ ap (λ (x : T). flat_map f (take i now) ++ (f e ++ (f x ++ flat_map f rest))) read
          ∙ ap (λ (ys : List T). flat_map f (take i now) ++ (f e ++ flat_map f ys)) (sym (drop_more now (i + 1) d inside))
          ∙ ap (λ (x : T). flat_map f (take i now) ++ (f x ++ flat_map f (drop (i + 1) now))) low_is
          ∙ sym (split f now i e (omega (arith, inside)))

-- there are no tiers left, or an empty one: the numbers are the old ones without the one that was
-- removed
pub drawn_all : {T : Type 0} (f : T → List ℕ) (capacity : T → ℕ) (old now : List T) (place i : ℕ) → place < length (flat_map f old) → IsDrawn f capacity old now place i → length (flat_map f old) ≤ 4096 * i → AreTiers f capacity now
drawn_all {T} f capacity old now place i within it done = record { full = full; roomy = it.roomy } where
  count : length (flat_map f now) + 1 ≡ length (flat_map f old)
  count = ap (λ (ys : List ℕ). length ys + 1) it.same ∙ length-remove (flat_map f old) place within

  full : (j : ℕ) (d : T) → j < length now → length (f (get_or now j d)) ≡ min 4096 (length (flat_map f now) - 4096 * j)
  full j d inside = ⊎_elim
      (λ low. let h = it.below j d low in omega (arith, h, count))
      (λ high. ⊎_elim
      (λ last. let h = it.short j d last in omega (arith, h, count, last, done))
      (λ other. let h = it.above j d (omega (arith, high, other)) inside in omega (arith, h, count, done, high, other))
      (cases_eq (j + 1) i))
      (cases_lt (j + 1) i)

-- a number in its tier is at its index
pub within_tier : {T : Type 0} (f : T → List ℕ) (ts : List T) (place : ℕ) (d : T) → Full f (length (flat_map f ts)) ts → place < length (flat_map f ts) → d ≡ get_or ts (place / 4096) d → place % 4096 < length (f d)
within_tier f ts place d full within read =
    let most = flat_most f (length (flat_map f ts)) ts full in
    let long = ap (λ (x : _). length (f x)) read ∙ full (place / 4096) d (omega (arith, most, within)) in
    omega (arith, long, within)

-- the same, by the index of the tier that gives its first number
pub drawn_next : {T : Type 0} (f : T → List ℕ) (capacity : T → ℕ) (old now : List T) (place i first : ℕ) (d e t s : T) → 0 < i → IsDrawn f capacity old now place i → i < length now → d ≡ get_or now i d → f d ≡ first ∷ f t → capacity t ≡ capacity d → e ≡ get_or (set now i t) (i - 1) e → f s ≡ f e ++ first ∷ [] → capacity s ≡ capacity e → IsDrawn f capacity old (set (set now i t) (i - 1) s) place (i + 1)
drawn_next f capacity old now place i first d e t s some it inside read is room read_low low room_low = subst
    (λ (k : ℕ). IsDrawn f capacity old now place k → k < length now → d ≡ get_or now k d → e ≡ get_or (set now k t) (i - 1) e → IsDrawn f capacity old (set (set now k t) (i - 1) s) place (k + 1))
    {x = i - 1 + 1} {y = i} (omega (arith, some))
    (λ it inside read read_low. drawn_more f capacity old now place (i - 1) first d e t s it inside read is room read_low low room_low) it inside read read_low
