-- A path, segment by segment, and an array, item by item.
use Rattle.std.proofs.Common.{◌≡◌, ℕ, zero, suc, ◌+◌, ◌-◌, ◌<◌, ◌≤◌, Bool, true, false, List, [], ◌∷◌, not, length, length-drop, take, drop, Some, None, option_and_then, refl, sym, ap, ◌∙◌, arith}
use Rattle.std.specs.Prelude.{slice_get}
use Rattle.std.specs.List.{onto_first, position_or_len}
use Rattle.std.proofs.lemmas.List.Splits.{slice_split-cons_no, slice_split_first}
use Rattle.std.proofs.lemmas.List.Sums.{prefix_len-le-length}
use Rattle.std.proofs.lemmas.List.{drop-drop, take_rest}
use Rattle.kd_check.specs.Place.{after_white, an_item, is_slash, item_numbered, member_named, members, named_by, segments_of, value_of_member}

-- where the first `/` is
slash_here : (x : ℕ) (path : List ℕ) → is_slash x ≡ true → position_or_len is_slash (x ∷ path) ≡ 0
slash_here x path is = rw is refl

slash_later : (x : ℕ) (path : List ℕ) → is_slash x ≡ false → position_or_len is_slash (x ∷ path) ≡ 1 + position_or_len is_slash path
slash_later x path is = rw is refl

-- a path without `/` is its own segment
segments_none : (path : List ℕ) → position_or_len is_slash path ≡ length path → segments_of path ≡ path ∷ []
segments_none [] all = refl
segments_none (x ∷ path) all = by (is_slash x) refl (λ e. segments_none path e)
  where
    by : (k : Bool) → is_slash x ≡ k → (position_or_len is_slash path ≡ length path → segments_of path ≡ path ∷ []) → segments_of (x ∷ path) ≡ (x ∷ path) ∷ []
    by true is rest = absurd (omega (arith, slash_here x path is, all))
    by false is rest =
        slice_split-cons_no is_slash x path is
        ∙ ap (λ t. onto_first x t) (rest (omega (arith, slash_later x path is, all)))

-- the first segment is the whole path
pub segments_last : (path segment behind : List ℕ) (size : ℕ) → size ≡ position_or_len is_slash path → segment ≡ take size path → behind ≡ drop size path → length behind ≡ 0 → segments_of path ≡ segment ∷ []
segments_last path segment behind size is front back empty =
    let left = ap length back in
    let most : position_or_len is_slash path ≤ length path = prefix_len-le-length (λ x. not (is_slash x)) path in
    let all : size ≡ length path - 0 = omega (arith, length-drop {A = ℕ}) in
    segments_none path (omega (arith, is, all))
    ∙ ap (λ t. t ∷ []) (sym (front ∙ ap (λ n. take n path) all ∙ take_rest path 0))

-- the first segment, and those behind its `/`
pub segments_more : (path segment behind more : List ℕ) (x size : ℕ) → size ≡ position_or_len is_slash path → segment ≡ take size path → behind ≡ drop size path → behind ≡ x ∷ more → segments_of path ≡ segment ∷ segments_of more
segments_more path segment behind more x size is front back cut =
    let left = ap length back in
    let some = ap length cut in
    let below : position_or_len is_slash path < length path = omega (arith, length-drop {A = ℕ}) in
    let rest : drop (position_or_len is_slash path + 1) path ≡ more =
    ap (λ n. drop (n + 1) path) (sym is) ∙ sym (drop-drop 1 size path) ∙ ap (λ t. drop 1 t) (sym back ∙ cut) in
    slice_split_first is_slash path 0 below
    ∙ ap (λ t. t ∷ segments_of (drop (position_or_len is_slash path + 1) path)) (ap (λ n. take n path) (sym is) ∙ sym front)
    ∙ ap (λ t. segment ∷ segments_of t) rest

-- a segment names a member, and the others go on from there
pub segment_found : (path more segment member next whole : List ℕ) (segments : List (List ℕ)) → segments_of path ≡ segment ∷ segments_of more → member_named segment (value_of_member member) ≡ Some next → named_by (segments_of path) member ≡ named_by segments whole → named_by (segments_of more) next ≡ named_by segments whole
segment_found path more segment member next whole segments cut found so_far =
    ap (λ o. option_and_then (named_by (segments_of more)) o) (sym found)
    ∙ ap (λ s. named_by s member) (sym cut) ∙ so_far

-- the last segment names a member
pub segment_last : (path segment member next whole : List ℕ) (segments : List (List ℕ)) → segments_of path ≡ segment ∷ [] → member_named segment (value_of_member member) ≡ Some next → named_by (segments_of path) member ≡ named_by segments whole → named_by segments whole ≡ Some next
segment_last path segment member next whole segments cut found so_far =
    sym so_far ∙ ap (λ s. named_by s member) cut ∙ ap (λ o. option_and_then (named_by []) o) found

-- a segment names nothing
pub segment_missed : (path segment member whole : List ℕ) (others segments : List (List ℕ)) → segments_of path ≡ segment ∷ others → member_named segment (value_of_member member) ≡ None → named_by (segments_of path) member ≡ named_by segments whole → named_by segments whole ≡ None
segment_missed path segment member whole others segments cut missed so_far =
    sym so_far ∙ ap (λ s. named_by s member) cut ∙ ap (λ o. option_and_then (named_by others) o) missed

-- a list of one has nothing behind it
pub one_alone : (x : List ℕ) (k : ℕ) → 0 < k → slice_get (x ∷ []) k ≡ None
one_alone x zero some = absurd (omega arith)
one_alone x (suc k) some = refl

-- the items from a rest on are those from a number on
abbrev pub ItemsFrom : List ℕ → List ℕ → ℕ → Type 0
ItemsFrom rest content number = (k : ℕ) → slice_get (members rest) k ≡ slice_get (members content) (number + k)

-- an item that comes after the last one
pub item_missed : (content rest : List ℕ) (here number : ℕ) → here < number → members rest ≡ after_white rest ∷ [] → ItemsFrom rest content here → item_numbered content number ≡ None
item_missed content rest here number below last same =
    let far : 0 < number - here = omega arith in
    let sum : here + (number - here) ≡ number = omega arith in
    ap (λ n. option_and_then an_item (slice_get (members content) n)) (sym sum)
    ∙ ap (λ o. option_and_then an_item o) (sym (same (number - here)) ∙ ap (λ t. slice_get t (number - here)) last ∙ one_alone (after_white rest) (number - here) far)

-- the item that a rest begins with
pub item_found : (content rest : List ℕ) (here number : ℕ) → here ≡ number → ItemsFrom rest content here → item_numbered content number ≡ an_item (after_white rest)
item_found content rest here number is same =
    let sum : here + 0 ≡ number = omega arith in
    ap (λ n. option_and_then an_item (slice_get (members content) n)) (sym sum)
    ∙ ap (λ o. option_and_then an_item o) (sym (same 0))
