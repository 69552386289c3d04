-- The kept items, written one after another.
use Rattle.std.proofs.Common.{◌≡◌, ℕ, ◌+◌, ◌<◌, ◌≤◌, Bool, true, false, List, [], ◌∷◌, ◌++◌, length, drop, take, max, replicate, get_or, refl, sym, ap, ◌∙◌, arith, append_assoc, length-append, le-leb}
use Rattle.std.specs.Prelude.{sum_by}
use Rattle.std.specs.List.{flat_map}
use Rattle.std.proofs.lemmas.Bool.{lt-leb}
use Rattle.std.proofs.lemmas.Grind.{flat_map-append}
use Rattle.std.proofs.lemmas.List.{append-nil, drop_more, length-replicate, take_at}
use Rattle.std.proofs.lemmas.List.Sums.{sum_by-drop_more}
use Rattle.kd_wire.specs.Area.{Piece, piece, spelled}
use Rattle.kd_wire.specs.Put.{with_bytes_at}
use Rattle.kd_wire.specs.declared.header.Header.{Header}
use Rattle.kd_options.specs.declared.item.Item.{Item}
use Rattle.kd_options.specs.Reply.{base_cost, item_cost, items_text, kept, kept_from, obligatory_cost, optional_cost, pieces_of, pieces_text, reply_text, unpadded}
use Rattle.kd_options.proofs.Puts.{put_then, put_none, length-all_text, padded_is}

-- what the obligatory items from here on cost
abbrev pub rest : List Item → ℕ → ℕ
rest items i = sum_by obligatory_cost (drop i items)

-- the first i items were looked at, and those of them that are kept come after the header
pub record Putting (items : List Item) (room : ℕ) (old : List ℕ) (i at left : ℕ) (new : List ℕ) : Type 0 where
  pub done : List Item
  pub kept_is : kept room items ≡ done ++ kept_from (at + rest items i) room (drop i items)
  pub is : new ≡ with_bytes_at 240 (items_text done) old
  pub at_is : at ≡ 240 + length (items_text done)
  pub room_is : at + left + rest items i + 1 ≡ room

pub putting_none : (items : List Item) (room left : ℕ) (old : List ℕ) → left + base_cost items + 1 ≡ room → Putting items room old 0 240 left old
putting_none items room left old fits = record { done = []; kept_is = refl; is = put_none 240 old; at_is = refl; room_is = omega (arith, fits) }

length-item_text : (x : Item) → length (pieces_text (pieces_of x)) ≡ item_cost x
length-item_text x = length-all_text x.code x.value

items_text-append : (done : List Item) (x : Item) → items_text (done ++ x ∷ []) ≡ items_text done ++ pieces_text (pieces_of x)
items_text-append done x =
    let put : Piece → List ℕ = λ p. spelled (piece p.0 p.1) in
    ap (flat_map put) (flat_map-append pieces_of done (x ∷ []) ∙ ap (λ ps. flat_map pieces_of done ++ ps) (append-nil (pieces_of x)))
    ∙ flat_map-append put (flat_map pieces_of done) (pieces_of x)

both_costs : (x : Item) → obligatory_cost x + optional_cost x ≡ item_cost x
both_costs x = by x.obligatory refl
  where
    by : (t : Bool) → x.obligatory ≡ t → obligatory_cost x + optional_cost x ≡ item_cost x
    by true t = rw t (omega arith)
    by false t = rw t (omega arith)

-- an item that fits is kept, and one that does not is passed over
kept_step : (used room : ℕ) (x : Item) (more : List Item) → used + optional_cost x + 1 ≤ room → kept_from used room (x ∷ more) ≡ x ∷ kept_from (used + optional_cost x) room more
kept_step used room x more fits = by x.obligatory refl fits
  where
    by : (t : Bool) → x.obligatory ≡ t → used + optional_cost x + 1 ≤ room → kept_from used room (x ∷ more) ≡ x ∷ kept_from (used + optional_cost x) room more
    by true t h = let none : used + 0 ≡ used = omega arith in rw (t, none) refl
    by false t h = let fits' : used + item_cost x + 1 ≤ room = rw t at h in rw (t, le-leb (used + item_cost x + 1) room fits') refl

kept_skip : (used room : ℕ) (x : Item) (more : List Item) → room < used + optional_cost x + 1 → used + 1 ≤ room → kept_from used room (x ∷ more) ≡ kept_from used room more
kept_skip used room x more full fits = by x.obligatory refl full
  where
    by : (t : Bool) → x.obligatory ≡ t → room < used + optional_cost x + 1 → kept_from used room (x ∷ more) ≡ kept_from used room more
    by true t h = let h' : room < used + 0 + 1 = rw t at h in absurd (omega (arith, h', fits))
    by false t h = let h' : room < used + item_cost x + 1 = rw t at h in rw (t, lt-leb (used + item_cost x + 1) room h') refl

rest-more : (items : List Item) (i : ℕ) (x : Item) → i < length items → x ≡ get_or items i x → rest items i ≡ obligatory_cost x + rest items (i + 1)
rest-more items i x less is = sum_by-drop_more obligatory_cost items i x less ∙ ap (λ y. obligatory_cost y + rest items (i + 1)) (sym is)

drop_is : (items : List Item) (i : ℕ) (x : Item) → i < length items → x ≡ get_or items i x → drop i items ≡ x ∷ drop (i + 1) items
drop_is items i x less is = drop_more items i x less ∙ ap (λ y. y ∷ drop (i + 1) items) (sym is)

-- an item that is passed over is not obligatory
skipped : (x : Item) {left : ℕ} → left < optional_cost x → obligatory_cost x ≡ 0
skipped x {left} full = by x.obligatory refl full
  where
    by : (t : Bool) → x.obligatory ≡ t → left < optional_cost x → obligatory_cost x ≡ 0
    by true t h = let h' : left < 0 = rw t at h in absurd (omega (arith, h'))
    by false t h = rw t refl

module _ (items : List Item) (room : ℕ) (old : List ℕ) (i at left : ℕ) (new : List ℕ) (x : Item) (p : Putting items room old i at left new) (less : i < length items) (is : x ≡ get_or items i x) where
  -- an item that does not fit is passed over
  pub putting_skip : left < optional_cost x → Putting items room old (i + 1) at left new
  putting_skip full =
      let more = rest-more items i x less is in
      let none : obligatory_cost x ≡ 0 = skipped x full in
      let same : rest items i ≡ rest items (i + 1) = omega (arith, more, none) in
      let skips = kept_skip (at + rest items i) room x (drop (i + 1) items) (omega (arith, p.room_is, full)) (omega (arith, p.room_is)) in
      record {
        done = p.done;
        kept_is = p.kept_is ∙ ap (λ l. p.done ++ kept_from (at + rest items i) room l) (drop_is items i x less is) ∙ ap (λ k. p.done ++ k) skips ∙ ap (λ r. p.done ++ kept_from (at + r) room (drop (i + 1) items)) same;
        is = p.is;
        at_is = p.at_is;
        room_is = omega (arith, p.room_is, same);
      }

  -- one that fits is put
  pub putting_item : (left' at' : ℕ) (next : List ℕ) → length old ≡ room → left' + optional_cost x ≡ left → at' ≡ at + item_cost x → next ≡ with_bytes_at at (pieces_text (pieces_of x)) new → Putting items room old (i + 1) at' left' next
  putting_item left' at' next size leaves place put =
      let more = rest-more items i x less is in
      let both = both_costs x in
      let used : at + rest items i + optional_cost x ≡ at' + rest items (i + 1) = omega (arith, more, both, place) in
      let keeps = kept_step (at + rest items i) room x (drop (i + 1) items) (omega (arith, p.room_is, leaves)) in
      let own = length-item_text x in
      record {
        done = p.done ++ x ∷ [];
        kept_is = p.kept_is ∙ ap (λ l. p.done ++ kept_from (at + rest items i) room l) (drop_is items i x less is) ∙ ap (λ k. p.done ++ k) keeps
            ∙ ap (λ u. p.done ++ x ∷ kept_from u room (drop (i + 1) items)) used ∙ sym (append_assoc p.done (x ∷ []) (kept_from (at' + rest items (i + 1)) room (drop (i + 1) items)));
        is = put_then 240 (items_text p.done) (pieces_text (pieces_of x)) old new next at p.is p.at_is put (omega (arith, p.at_is, p.room_is, size))
            ∙ ap (λ t. with_bytes_at 240 t old) (sym (items_text-append p.done x));
        at_is = omega (arith, place, p.at_is, own, ap length (items_text-append p.done x), length-append (items_text p.done) (pieces_text (pieces_of x)));
        room_is = omega (arith, p.room_is, more, both, leaves, place);
      }

-- a room of zeros, written into and cut off, is the reply's text
pub reply_is : (header : Header) (room : ℕ) (items given : List Item) (slice out vec new : List ℕ) (end n len cut : ℕ)
    → slice ≡ replicate n 0 → n ≡ room → given ≡ items
    → out ≡ unpadded header (length slice) given ++ drop end slice → end ≡ length (unpadded header (length slice) given) → end ≤ length slice
    → length out ≡ length slice → len ≡ length slice → cut ≡ max end 300 → new ≡ take cut (take len (out ++ drop (length out) vec)) → 300 ≤ room
    → new ≡ reply_text header room items
reply_is header room items given slice out vec new end n len cut zeros full same is place within kept_len vec_len cut_is new_is least =
    let all : slice ≡ replicate room 0 = zeros ∙ ap (λ k. replicate k 0) full in
    let size : length slice ≡ room = ap length all ∙ length-replicate room 0 in
    let text = unpadded header room items in
    let out_is : out ≡ text ++ drop end (replicate room 0) = is ∙ (λ i. unpadded header (size i) (same i) ++ drop end (all i)) in
    let end_is : end ≡ length text = place ∙ (λ i. length (unpadded header (size i) (same i))) in
    let inner : take len (out ++ drop (length out) vec) ≡ out = take_at out (drop (length out) vec) len (kept_len ∙ sym vec_len) in
    new_is ∙ ap (take cut) inner ∙ (λ i. take (cut_is i) (out_is i)) ∙ padded_is text room end end_is (omega (arith, end_is, within, size)) least
