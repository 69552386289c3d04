-- A reply's text reads as its header and its kept items, if those are readable options; the values
-- of items do not have to be bytes. What an obligatory item says is read.
use Rattle.std.proofs.Common.{◌≡◌, ℕ, ◌+◌, ◌-◌, ◌≤◌, Bool, true, false, List, [], ◌∷◌, ◌++◌, length, drop, None, Some, refl, sym, ap, subst, ◌∙◌, arith, append_assoc, length-append, eqb-true, inr}
use Rattle.std.specs.Prelude.{replicate, nat_eq, nat_le, if◌then◌else◌, Option, Ok}
use Rattle.std.specs.List.{AllByRecursion, IsDistinct, flat_map}
use Rattle.std.proofs.lemmas.Bool.{false≢true}
use Rattle.std.proofs.lemmas.List.{append-nil, drop_at, length-replicate}
use Rattle.kd_wire.specs.Area.{IsArea, Piece}
use Rattle.kd_wire.specs.Header.{header_bytes, header_read}
use Rattle.kd_wire.specs.declared.header.Header.{Header}
use Rattle.kd_options.specs.Joined.{HasOptions, IsAreaIf, file_field, options_field, options_of, sname_field, uses_file, uses_sname, value_of}
use Rattle.kd_options.specs.Laws.{IsHeader, item_codes, item_options, read_back}
use Rattle.kd_options.specs.Message.{Reads}
use Rattle.kd_options.specs.Options.{IsReadable}
use Rattle.kd_options.specs.Reply.{ItemsFit, base_cost, item_cost, items_text, kept, kept_from, pieces_of, reply_text, unpadded}
use Rattle.kd_options.specs.declared.item.Item.{Item}
use Rattle.kd_options.proofs.ItemOptions.{items_area}
use Rattle.kd_options.proofs.Kept.{kept_distinct, kept_within}
use Rattle.kd_options.proofs.Pieces.{options_of-items}
use Rattle.kd_options.proofs.ReadBack.{header_back, length-header_bytes}

-- what makes a reply readable: its header, the codes of its items, and the options that are kept
pub record IsReadableReply (header : Header) (room : ℕ) (items : List Item) : Type 0 where
  pub fields : IsHeader header
  pub op : header.op ≡ 2
  pub codes : IsDistinct nat_eq (item_codes items)
  pub plain : value_of 52 (item_options (kept room items)) ≡ None
  pub readable : IsReadable (item_options (kept room items))
  pub fits : ItemsFit room items
  pub most : room ≤ 1472

-- an options field whose pieces have no code 52 has all options of the datagram
plain_options : (bytes : List ℕ) (pieces options : List Piece) → IsArea (options_field bytes) pieces → options_of pieces ≡ options → value_of 52 options ≡ None → HasOptions bytes options
plain_options bytes pieces options area joins plain =
    let absent : value_of 52 (options_of pieces) ≡ None = ap (value_of 52) joins ∙ plain in
    record {
      pieces = pieces ++ [] ++ [];
      in_use = record {
        field = pieces;
        file = [];
        sname = [];
        field_is = area;
        file_is = let P : Option (List ℕ) → Type 0 = λ o. IsAreaIf (uses_file o) (file_field bytes) [] in subst P (sym absent) refl;
        sname_is = let P : Option (List ℕ) → Type 0 = λ o. IsAreaIf (uses_sname o) (sname_field bytes) [] in subst P (sym absent) refl;
        in_order = refl;
      };
      joins = sym joins ∙ ap options_of (sym (append-nil (pieces ++ []) ∙ append-nil pieces));
    }

module _ (header : Header) (room : ℕ) (items : List Item) (is : IsReadableReply header room items) where
  abbrev zeros : List ℕ
  zeros = replicate (300 - length (unpadded header room items)) 0

  abbrev body : List ℕ
  body = items_text (kept room items)

  -- header and cookie come first, and after them the kept items, End and zeros
  text_is : reply_text header room items ≡ header_bytes header ++ (body ++ 255 ∷ zeros)
  text_is = append_assoc (header_bytes header) (body ++ 255 ∷ []) zeros ∙ ap (λ x. header_bytes header ++ x) (append_assoc body (255 ∷ []) zeros)

  -- the text before its last zeros has 241 bytes and those of its items
  length-text : length (header_bytes header ++ (body ++ 255 ∷ zeros)) ≡ 240 + (length body + (1 + length zeros))
  length-text =
      let head = length-header_bytes header is.fields in
      omega (arith, head, length-append (header_bytes header) (body ++ 255 ∷ zeros), length-append body (255 ∷ zeros))

  -- it is no longer than a message may be
  text_most : length (header_bytes header ++ (body ++ 255 ∷ zeros)) ≤ 4096
  text_most =
      let padding : length zeros ≤ 300 = omega (arith, length-replicate {A = ℕ} (300 - length (unpadded header room items)) 0) in
      omega (arith, length-text, kept_within room items is.fits, padding, is.most)

  -- its header reads back
  header_is : header_read (reply_text header room items) ≡ Ok header
  header_is =
      ap header_read text_is ∙ header_back header (body ++ 255 ∷ zeros) is.fields (inr is.op) (omega (arith, length-text)) text_most

  -- its options field is what follows
  field_is : options_field (reply_text header room items) ≡ body ++ 255 ∷ zeros
  field_is =
      ap (drop 240) text_is ∙ drop_at (header_bytes header) (body ++ 255 ∷ zeros) 240 (length-header_bytes header is.fields)

  -- its options are the kept items
  options_are : HasOptions (reply_text header room items) (item_options (kept room items))
  options_are =
      let pieces = flat_map pieces_of (kept room items) in
      let P : List ℕ → Type 0 = λ field. IsArea field pieces in
      let area = subst P (sym field_is) (items_area (kept room items) zeros) in
      let joins = options_of-items (kept room items) (kept_distinct (base_cost items) room items is.codes) in
      plain_options (reply_text header room items) pieces (item_options (kept room items)) area joins is.plain

  -- the text reads as the header and the kept items
  pub rereads : Reads (reply_text header room items) (read_back header room items)
  rereads = record { header = header_is; len = refl; options = options_are; readable = is.readable }

-- the items of a code are obligatory
abbrev pub IsObligatory : ℕ → Item → Type 0
IsObligatory code item = item.code ≡ code → item.obligatory ≡ true

-- one more item in front of two lists that say the same of a code
behind_one : (code : ℕ) (x : Item) (xs ys : List Item)
    → value_of code (item_options xs) ≡ value_of code (item_options ys) → value_of code (item_options (x ∷ xs)) ≡ value_of code (item_options (x ∷ ys))
behind_one code x xs ys same = ap (λ rest. if nat_eq code x.code then Some x.value else rest) same

-- the value of a code whose items are obligatory is kept
pub kept_value : (code used room : ℕ) (items : List Item) → AllByRecursion (IsObligatory code) items
    → value_of code (item_options (kept_from used room items)) ≡ value_of code (item_options items)
kept_value code used room [] each = refl
kept_value code used room (x ∷ items) each =
    by x.obligatory (nat_le (used + item_cost x + 1) room) refl (kept_value code used room items each.1) (kept_value code (used + item_cost x) room items each.1)
  where
    value : List Item → Option (List ℕ)
    value xs = value_of code (item_options xs)

    by : (own fits : Bool) → x.obligatory ≡ own → value (kept_from used room items) ≡ value items → value (kept_from (used + item_cost x) room items) ≡ value items
        → value (if own then x ∷ kept_from used room items else if fits then x ∷ kept_from (used + item_cost x) room items else kept_from used room items) ≡ value (x ∷ items)
    by true fits is same next = behind_one code x (kept_from used room items) items same
    by false true is same next = behind_one code x (kept_from (used + item_cost x) room items) items next
    by false false is same next = past (nat_eq code x.code) refl where
      past : (b : Bool) → nat_eq code x.code ≡ b → value (kept_from used room items) ≡ value (x ∷ items)
      past true e = absurd (false≢true (sym is ∙ each.0 (sym (eqb-true code x.code e))))
      past false e = rw e same
