-- A reply's text reads back as the message with its header and its kept items.
use Rattle.std.proofs.Common.{◌≡◌, ℕ, ◌+◌, ◌-◌, ◌≤◌, List, [], ◌∷◌, ◌++◌, length, drop, None, refl, sym, ap, subst, ◌∙◌, arith, append_assoc, length-append}
use Rattle.std.specs.Prelude.{◌≢◌, replicate, Option, Ok}
use Rattle.std.specs.List.{AllByRecursion, flat_map}
use Rattle.std.proofs.lemmas.List.{append-nil, drop_at, length-replicate}
use Rattle.kd_wire.specs.Area.{IsArea, Piece}
use Rattle.kd_wire.specs.Header.{header_bytes, header_read}
use Rattle.kd_wire.specs.declared.header.Header.{Header}
use Rattle.kd_options.specs.Joined.{HasOptions, IsAreaIf, file_field, options_field, options_of, sname_field, uses_file, uses_sname, value_of}
use Rattle.kd_options.specs.Laws.{IsItem, IsReply, item_options, read_back}
use Rattle.kd_options.specs.Message.{Reads}
use Rattle.kd_options.specs.Reply.{ItemsFit, base_cost, items_text, kept, pieces_of, reply_text, unpadded}
use Rattle.kd_options.specs.declared.item.Item.{Item}
use Rattle.kd_options.proofs.ItemOptions.{each_gives, items_area, items_readable, value_of-none}
use Rattle.kd_options.proofs.Kept.{kept_distinct, kept_each, kept_type, kept_within}
use Rattle.kd_options.proofs.Pieces.{options_of-items}
use Rattle.kd_options.proofs.ReadBack.{header_back, length-header_bytes}

-- bytes whose options field is an area of pieces without code 52 have the options that the pieces
-- make
plain_options : (bytes : List ℕ) (pieces options : List Piece) → IsArea (options_field bytes) pieces → options_of pieces ≡ options → value_of 52 options ≡ None → HasOptions bytes options
plain_options bytes pieces options area joins plain =
    let absent : value_of 52 (options_of pieces) ≡ None = ap (value_of 52) joins ∙ plain in
    record {
      pieces = pieces ++ [] ++ [];
      in_use = record {
        field = pieces;
        file = [];
        sname = [];
        field_is = area;
        file_is = let P : Option (List ℕ) → Type 0 = λ o. IsAreaIf (uses_file o) (file_field bytes) [] in subst P (sym absent) refl;
        sname_is = let P : Option (List ℕ) → Type 0 = λ o. IsAreaIf (uses_sname o) (sname_field bytes) [] in subst P (sym absent) refl;
        in_order = refl;
      };
      joins = sym joins ∙ ap options_of (sym (append-nil (pieces ++ []) ∙ append-nil pieces));
    }

module _ (header : Header) (room : ℕ) (items : List Item) (is : IsReply header room items) (fits : ItemsFit room items) where
  abbrev zeros : List ℕ
  zeros = replicate (300 - length (unpadded header room items)) 0

  abbrev body : List ℕ
  body = items_text (kept room items)

  -- header and cookie first, and after them the kept items, End and zeros
  text_is : reply_text header room items ≡ header_bytes header ++ (body ++ 255 ∷ zeros)
  text_is = append_assoc (header_bytes header) (body ++ 255 ∷ []) zeros ∙ ap (λ x. header_bytes header ++ x) (append_assoc body (255 ∷ []) zeros)

  -- it has 240 to 4,096 bytes
  length-text : length (header_bytes header ++ (body ++ 255 ∷ zeros)) ≡ 240 + (length body + (1 + length zeros))
  length-text =
      let head = length-header_bytes header is.fields in
      omega (arith, head, length-append (header_bytes header) (body ++ 255 ∷ zeros), length-append body (255 ∷ zeros))

  text_most : length (header_bytes header ++ (body ++ 255 ∷ zeros)) ≤ 4096
  text_most =
      let padding : length zeros ≤ 300 = omega (arith, length-replicate {A = ℕ} (300 - length (unpadded header room items)) 0) in
      omega (arith, length-text, kept_within room items fits, padding, is.most)

  header_is : header_read (reply_text header room items) ≡ Ok header
  header_is =
      ap header_read text_is ∙ header_back header (body ++ 255 ∷ zeros) is.fields is.op (omega (arith, length-text)) text_most

  field_is : options_field (reply_text header room items) ≡ body ++ 255 ∷ zeros
  field_is =
      ap (drop 240) text_is ∙ drop_at (header_bytes header) (body ++ 255 ∷ zeros) 240 (length-header_bytes header is.fields)

  kept_items : AllByRecursion IsItem (kept room items)
  kept_items = kept_each IsItem (base_cost items) room items is.each

  options_are : HasOptions (reply_text header room items) (item_options (kept room items))
  options_are =
      let pieces = flat_map pieces_of (kept room items) in
      let P : List ℕ → Type 0 = λ field. IsArea field pieces in
      let plain = value_of-none 52 (kept room items) (each_gives IsItem (λ x. x.code ≢ 52) (λ x item. item.plain) (kept room items) kept_items) in
      plain_options (reply_text header room items) pieces (item_options (kept room items)) (subst P (sym field_is) (items_area (kept room items) zeros)) (options_of-items (kept room items) (kept_distinct (base_cost items) room items is.codes)) plain

-- the law
pub text_reads : (header : Header) (room : ℕ) (items : List Item) → IsReply header room items → ItemsFit room items → Reads (reply_text header room items) (read_back header room items)
text_reads header room items is fits = record {
  header = header_is header room items is fits;
  len = refl;
  options = options_are header room items is fits;
  readable = items_readable (kept room items) (kept_type (base_cost items) room items is.kind) (kept_items header room items is fits);
}
