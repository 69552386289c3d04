-- The counts of addresses, one after another.
use Rattle.std.proofs.Common.{◌≡◌, ℕ, zero, suc, ◌+◌, ◌-◌, ◌≤◌, ◌++◌, List, [], ◌∷◌, Bool, true, false, Option, cond, length, refl, sym, ap, ◌∙◌, arith, length-append}
use Rattle.std.specs.Int.{from_bool}
use Rattle.std.specs.List.{count_by, range_with_len}
use Rattle.std.proofs.lemmas.List.FromFn.{length-range_with_len}
use Rattle.std.proofs.lemmas.List.Sums.{count_by-le-length, sum_by_push}
use Rattle.kd_lease.specs.Kept.{bound_state}
use Rattle.kd_lease.specs.Rules.{offered_state}
use Rattle.kd_rows.specs.Table.{row_at}
use Rattle.kd_rows.specs.declared.row.Row.{Row}
use Rattle.kd_pools.specs.Counts.{counts_of, declined_state, ended_at, free_at, held_in, unused_at}
use Rattle.kd_pools.specs.Walking.{IsAtMost, both_counts, counts_at}
use Rattle.kd_pools.specs.declared.counts.Counts.{Counts}

-- counts with the same numbers are the same
pub same_counts : (x y : Counts) → x.addresses ≡ y.addresses → x.reserved ≡ y.reserved → x.bound ≡ y.bound → x.offered ≡ y.offered
    → x.declined ≡ y.declined → x.ended ≡ y.ended → x.unused ≡ y.unused → x.free ≡ y.free → x ≡ y
same_counts x y a r b o d e u f =
    λ i. record { addresses = a i; reserved = r i; bound = b i; offered = o i; declined = d i; ended = e i; unused = u i; free = f i }

-- counts that are at most a number are at most any greater number
pub at_most : (n m : ℕ) (c : Counts) → n ≤ m → IsAtMost n c → IsAtMost m c
at_most n m c up h = record {
  addresses = omega (arith, h.addresses);
  reserved = omega (arith, h.reserved);
  bound = omega (arith, h.bound);
  offered = omega (arith, h.offered);
  declined = omega (arith, h.declined);
  ended = omega (arith, h.ended);
  unused = omega (arith, h.unused);
  free = omega (arith, h.free);
}

one_of : (b : Bool) → cond b 1 0 ≡ from_bool b
one_of true = refl
one_of false = refl

push : (p : ℕ → Bool) (list : List ℕ) (a : ℕ) → count_by p (list ++ a ∷ []) ≡ count_by p list + from_bool (p a)
push p list a = sum_by_push (λ x. cond (p x) 1 0) list a ∙ ap (λ n. count_by p list + n) (one_of (p a))

module _ (reserved : ℕ → Bool) (rows : List Row) (now : ℕ) where
  -- the counts of addresses with one more
  one_more : (list : List ℕ) (a : ℕ) → counts_of reserved rows now (list ++ a ∷ []) ≡ both_counts (counts_of reserved rows now list) (counts_at (reserved a) (row_at rows a) now)
  one_more list a =
      same_counts (counts_of reserved rows now (list ++ a ∷ [])) (both_counts (counts_of reserved rows now list) (counts_at (reserved a) (row_at rows a) now))
      (length-append list (a ∷ [])) (push reserved list a) (push (held_in bound_state rows now) list a) (push (held_in offered_state rows now) list a)
      (push (held_in declined_state rows now) list a) (push (ended_at rows now) list a) (push (unused_at rows) list a) (push (free_at reserved rows now) list a)

  -- each number is at most that of the addresses
  within : (list : List ℕ) → IsAtMost (length list) (counts_of reserved rows now list)
  within list = record {
    addresses = omega arith;
    reserved = count_by-le-length reserved list;
    bound = count_by-le-length (held_in bound_state rows now) list;
    offered = count_by-le-length (held_in offered_state rows now) list;
    declined = count_by-le-length (held_in declined_state rows now) list;
    ended = count_by-le-length (ended_at rows now) list;
    unused = count_by-le-length (unused_at rows) list;
    free = count_by-le-length (free_at reserved rows now) list;
  }

range_more : (first n a : ℕ) → first + n ≡ a → range_with_len first (n + 1) ≡ range_with_len first n ++ a ∷ []
range_more first zero a e =
    let same : first ≡ a = omega arith in ap (λ b. b ∷ []) same
range_more first (suc n) a e =
    let next : suc n + 1 ≡ suc (n + 1) = omega arith in
    rw next (ap (λ l. first ∷ l) (range_more (first + 1) n a (omega arith)))

-- the counts up to and including an address
walked : (reserved : ℕ → Bool) (rows : List Row) (now first a n : ℕ) → first ≤ a → n ≡ a - first + 1
    → both_counts (counts_of reserved rows now (range_with_len first (a - first))) (counts_at (reserved a) (row_at rows a) now) ≡ counts_of reserved rows now (range_with_len first n)
walked reserved rows now first a n up e =
    let list : range_with_len first n ≡ range_with_len first (a - first) ++ a ∷ [] = ap (range_with_len first) e ∙ range_more first (a - first) a (omega arith) in
    sym (ap (counts_of reserved rows now) list ∙ one_more reserved rows now (range_with_len first (a - first)) a)

-- the same when counts go on by those of one address
pub stepped : (reserved : ℕ → Bool) (rows : List Row) (now first a n : ℕ) (counts one both : Counts) (is : Bool) (row : Option Row) → first ≤ a → n ≡ a - first + 1
    → counts ≡ counts_of reserved rows now (range_with_len first (a - first)) → is ≡ reserved a → row ≡ row_at rows a → one ≡ counts_at is row now
    → both ≡ both_counts counts one → both ≡ counts_of reserved rows now (range_with_len first n)
stepped reserved rows now first a n counts one both is row up e before is_so found of_one together =
    let that : one ≡ counts_at (reserved a) (row_at rows a) now =
    of_one ∙ ap (λ (b : Bool). counts_at b row now) is_so ∙ ap (λ (r : Option Row). counts_at (reserved a) r now) found in
    together ∙ ap (λ (c : Counts). both_counts c one) before
    ∙ ap (both_counts (counts_of reserved rows now (range_with_len first (a - first)))) that
    ∙ walked reserved rows now first a n up e

-- the counts of n addresses are at most n
pub few_counted : (reserved : ℕ → Bool) (rows : List Row) (now first n m : ℕ) (counts : Counts) → counts ≡ counts_of reserved rows now (range_with_len first n) → n ≤ m → IsAtMost m counts
few_counted reserved rows now first n m counts is up =
    rw is (at_most (length (range_with_len first n)) m (counts_of reserved rows now (range_with_len first n)) (omega (arith, length-range_with_len first n)) (within reserved rows now (range_with_len first n)))
