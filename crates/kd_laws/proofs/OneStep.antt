-- An event has one answer.
use Rattle.std.proofs.Common.{◌≡◌, ℕ, ◌+◌, ◌∷◌, [], ◌++◌, Bool, true, false, List, map, length, nat_le, sum_by, Ok, Result, ◌⊎◌, inl, inr, refl, sym, ap, ◌∙◌, subst, if◌then◌else◌}
use Rattle.std.proofs.lemmas.List.Sums.{sum_by-cons}
use Rattle.std.specs.List.{flat_map}
use Rattle.kd_config.specs.Configuration.{Configuration}
use Rattle.kd_event.specs.declared.event.Response.{Response}
use Rattle.kd_event.specs.declared.event.Response.TheVariants as responses
use Rattle.kd_event.specs.declared.ports.Ports.{Ports}
use Rattle.kd_keeps.specs.declared.keeps.Keeps.{Ghosts}
use Rattle.kd_lease.specs.Change.{Changes}
use Rattle.kd_lease.specs.Client.{reply_room}
use Rattle.kd_lease.specs.Laws.{OneChange}
use Rattle.kd_lease.specs.Plan.{Outcome, ReplyOption, option_of_item}
use Rattle.kd_lease.specs.Plan.Outcome.{planned, quiet}
use Rattle.kd_lease.specs.ReplyOf.{IsReplyText, header_of_reply}
use Rattle.kd_options.specs.Joined.{HasOptions, IsAreaIf, file_field, options_field, options_of, sname_field, uses_file, uses_sname, value_of}
use Rattle.kd_options.specs.Message.{Reads, Seen}
use Rattle.kd_options.specs.Reply.{base_cost, cost_of, first_pieces, item_cost, kept, kept_from, obligatory_cost, padded, piece_count, pieces_of, pieces_text, reply_text}
use Rattle.kd_options.specs.declared.item.Item.{Item}
use Rattle.kd_rows.specs.Table.{latest_of}
use Rattle.kd_rows.specs.declared.row.Row.{Row}
use Rattle.kd_server.specs.Server.{StepsTo}
use Rattle.kd_laws.specs.OneStep.{OneHistory, OneStep, StandAlike}
use Rattle.kd_server.specs.Step.{IsAnswered, IsUnreadable, Responds}
use Rattle.kd_wire.specs.Area.{IsArea, Piece}
use Rattle.kd_wire.specs.Header.{header_bytes, header_read}
use Rattle.kd_wire.specs.declared.header.WireFault.{WireFault}
use Rattle.kd_wire.specs.declared.header.Header.{Header}
use Rattle.kd_wire.proofs.Areas.{walk_area}

-- an area has one list of pieces
one_area : (bytes : List ℕ) (xs ys : List Piece) → IsArea bytes xs → IsArea bytes ys → xs ≡ ys
one_area bytes xs ys x y = sym (walk_area bytes xs x) ∙ walk_area bytes ys y

one_area_if : (used : Bool) (bytes : List ℕ) (xs ys : List Piece) → IsAreaIf used bytes xs → IsAreaIf used bytes ys → xs ≡ ys
one_area_if true bytes xs ys x y = one_area bytes xs ys x y
one_area_if false bytes xs ys x y = x ∙ sym y

-- a datagram has one list of options
one_options : (bytes : List ℕ) (xs ys : List Piece) → HasOptions bytes xs → HasOptions bytes ys → xs ≡ ys
one_options bytes xs ys x y =
    let field : x.in_use.field ≡ y.in_use.field = one_area (options_field bytes) x.in_use.field y.in_use.field x.in_use.field_is y.in_use.field_is in
    let file : x.in_use.file ≡ y.in_use.file = one_area_if (uses_file (value_of 52 (options_of y.in_use.field))) (file_field bytes) x.in_use.file y.in_use.file
    (subst (λ (f : List Piece). IsAreaIf (uses_file (value_of 52 (options_of f))) (file_field bytes) x.in_use.file) field x.in_use.file_is) y.in_use.file_is in
    let sname : x.in_use.sname ≡ y.in_use.sname = one_area_if (uses_sname (value_of 52 (options_of y.in_use.field))) (sname_field bytes) x.in_use.sname y.in_use.sname
    (subst (λ (f : List Piece). IsAreaIf (uses_sname (value_of 52 (options_of f))) (sname_field bytes) x.in_use.sname) field x.in_use.sname_is) y.in_use.sname_is in
    let pieces : x.pieces ≡ y.pieces = x.in_use.in_order ∙ (λ i. field i ++ file i ++ sname i) ∙ sym y.in_use.in_order in
    x.joins ∙ ap options_of pieces ∙ sym y.joins

same_header : (r : Result Header WireFault) (a b : Header) → r ≡ Ok a → r ≡ Ok b → a ≡ b
same_header r a b h k = cc

-- a datagram reads as one message
pub one_message : (bytes : List ℕ) (m n : Seen) → Reads bytes m → Reads bytes n → m ≡ n
one_message bytes m n r s =
    let header : m.header ≡ n.header = same_header (header_read bytes) m.header n.header r.header s.header in
    let len : m.len ≡ n.len = r.len ∙ sym s.len in
    let options : m.options ≡ n.options = one_options bytes m.options n.options r.options s.options in
    λ i. record { header = header i; len = len i; options = options i }

-- what counts of an item is its option: its cost, its pieces, and whether it is kept
cost_in : ReplyOption → ℕ
cost_in o = if o.obligatory then cost_of (length o.value) else 0

pieces_in : ReplyOption → List Piece
pieces_in o = first_pieces o.code o.value (piece_count (length o.value))

kept_in : ℕ → ℕ → List ReplyOption → List ReplyOption
kept_in used room [] = []
kept_in used room (o ∷ os) =
    if o.obligatory then o ∷ kept_in used room os
    else if nat_le (used + cost_of (length o.value) + 1) room then o ∷ kept_in (used + cost_of (length o.value)) room os
    else kept_in used room os

cost_is : (xs : List Item) → sum_by obligatory_cost xs ≡ sum_by cost_in (map option_of_item xs)
unfolding cost_in
cost_is [] = refl
cost_is (x ∷ xs) = sum_by-cons obligatory_cost x xs ∙ ap (λ n. obligatory_cost x + n) (cost_is xs) ∙ sym (sum_by-cons cost_in (option_of_item x) (map option_of_item xs))

pieces_are : (xs : List Item) → flat_map pieces_of xs ≡ flat_map pieces_in (map option_of_item xs)
unfolding pieces_in
pieces_are [] = refl
pieces_are (x ∷ xs) = ap (λ ps. pieces_of x ++ ps) (pieces_are xs)

kept_is : (used room : ℕ) (xs : List Item) → map option_of_item (kept_from used room xs) ≡ kept_in used room (map option_of_item xs)
unfolding kept_in
kept_is used room [] = refl
kept_is used room (x ∷ xs) = by (kept_is used room xs) (kept_is (used + item_cost x) room xs) x.obligatory (nat_le (used + item_cost x + 1) room) where
  by : map option_of_item (kept_from used room xs) ≡ kept_in used room (map option_of_item xs)
      → map option_of_item (kept_from (used + item_cost x) room xs) ≡ kept_in (used + item_cost x) room (map option_of_item xs) → (b c : Bool)
      → map option_of_item (if b then x ∷ kept_from used room xs else if c then x ∷ kept_from (used + item_cost x) room xs else kept_from used room xs)
      ≡ (if b then option_of_item x ∷ kept_in used room (map option_of_item xs) else if c then option_of_item x ∷ kept_in (used + item_cost x) room (map option_of_item xs) else kept_in used room (map option_of_item xs))
  by one less true c = ap (λ os. option_of_item x ∷ os) one
  by one less false true = ap (λ os. option_of_item x ∷ os) less
  by one less false false = one

-- a reply's text by its options
text_in : Header → ℕ → List ReplyOption → List ℕ
text_in header room os = padded (header_bytes header ++ (pieces_text (flat_map pieces_in (kept_in (240 + sum_by cost_in os) room os)) ++ 255 ∷ []))

text_is : (header : Header) (room : ℕ) (xs : List Item) → reply_text header room xs ≡ text_in header room (map option_of_item xs)
unfolding text_in
text_is header room xs = ap (λ (ps : List Piece). padded (header_bytes header ++ (pieces_text ps ++ 255 ∷ [])))
    (pieces_are (kept room xs)
    ∙ ap (flat_map pieces_in) (kept_is (base_cost xs) room xs ∙ ap (λ n. kept_in (240 + n) room (map option_of_item xs)) (cost_is xs)))

-- the options have one text
one_text : (header : Header) (room : ℕ) (options : List ReplyOption) (text other : List ℕ) → IsReplyText header room options text → IsReplyText header room options other → text ≡ other
one_text header room options text other t o =
    t.2 ∙ text_is header room t.0 ∙ ap (text_in header room) (t.1 ∙ sym o.1) ∙ sym (text_is header room o.0) ∙ sym o.2

-- what is sent follows from the outcome of a message
one_response : (ports : Ports) (m : Seen) (got : Outcome) (r s : Response) → Responds ports m got r → Responds ports m got s → r ≡ s
one_response ports m (quiet reason) r s h k = h ∙ sym k
one_response ports m (planned kind yiaddr content) (responses.Quiet reason) s h k = absurd h
one_response ports m (planned kind yiaddr content) (responses.Reply to text) (responses.Quiet reason) h k = absurd k
one_response ports m (planned kind yiaddr content) (responses.Reply to text) (responses.Reply at other) h k =
    let places : to ≡ at = h.0 ∙ sym k.0 in
    let texts : text ≡ other = one_text (header_of_reply kind yiaddr content.fields m.header) (reply_room m) content.options text other h.1 k.1 in
    λ i. responses.Reply (places i) (texts i)

module _ (one : OneChange) where
  -- an event has one answer
  pub one_step : OneStep
  one_step config ports rows event handled other new its h k = done (by h.done k.done) where
    moments : handled.now ≡ other.now
    moments = h.now ∙ sym k.now

    done : (handled.response ≡ other.response) × (new ≡ its) → (handled ≡ other) × (new ≡ its)
    done same = ((λ i. record { now = moments i; response = same.0 i }), same.1)

    answered : IsAnswered latest_of (Changes config) ports rows event handled.now handled.response new → IsAnswered latest_of (Changes config) ports rows event other.now other.response its
        → (handled.response ≡ other.response) × (new ≡ its)
    answered a b =
        let messages : a.message ≡ b.message = one_message event.bytes a.message b.message a.reads b.reads in
        let changes : Changes config rows b.message other.now new a.outcome =
        subst (λ (now : ℕ). Changes config rows b.message now new a.outcome) moments
        (subst (λ (m : Seen). Changes config rows m handled.now new a.outcome) messages a.changes) in
        let same = one config rows b.message other.now new its a.outcome b.outcome changes b.changes in
        let responds : Responds ports b.message b.outcome handled.response =
        subst (λ (got : Outcome). Responds ports b.message got handled.response) same.1
        (subst (λ (m : Seen). Responds ports m a.outcome handled.response) messages a.responds) in
        (one_response ports b.message b.outcome handled.response other.response responds b.responds, same.0)

    by : IsUnreadable latest_of (Changes config) ports rows event handled.response new ⊎ IsAnswered latest_of (Changes config) ports rows event handled.now handled.response new
        → IsUnreadable latest_of (Changes config) ports rows event other.response its ⊎ IsAnswered latest_of (Changes config) ports rows event other.now other.response its
        → (handled.response ≡ other.response) × (new ≡ its)
    by (inl u) (inl v) = (u.quiet ∙ sym v.quiet, u.table ∙ sym v.table)
    by (inl u) (inr b) = absurd (u.unreadable b.message b.reads)
    by (inr a) (inl v) = absurd (v.unreadable a.message a.reads)
    by (inr a) (inr b) = answered a b

-- events have one history
pub one_history : OneStep → {S T : Type 0} (g : Ghosts S) (h : Ghosts T) → OneHistory g h
one_history one g h [] [] [] old new its last alike a b =
    (refl, record { ports = ap (λ s. s.ports) a ∙ alike.ports ∙ sym (ap (λ s. s.ports) b); config = ap (λ s. s.config) a ∙ alike.config ∙ sym (ap (λ s. s.config) b); rows = ap (λ s. s.rows) a ∙ alike.rows ∙ sym (ap (λ s. s.rows) b) })
one_history one g h [] [] (other ∷ others) old new its last alike a b = absurd b
one_history one g h [] (handled ∷ list) others old new its last alike a b = absurd a
one_history one g h (event ∷ events) [] others old new its last alike a b = absurd a
one_history one g h (event ∷ events) (handled ∷ list) [] old new its last alike a b = absurd b
one_history one g h (event ∷ events) (handled ∷ list) (other ∷ others) old new its last alike a b =
    let step : StepsTo its.config its.ports its.rows event handled a.0.rows =
    subst (λ (c : Configuration). StepsTo c its.ports its.rows event handled a.0.rows) alike.config
    (subst (λ (p : Ports). StepsTo old.config p its.rows event handled a.0.rows) alike.ports
    (subst (λ (rows : List Row). StepsTo old.config old.ports rows event handled a.0.rows) alike.rows a.1.step)) in
    let same = one its.config its.ports its.rows event handled other a.0.rows b.0.rows step b.1.step in
    let next : StandAlike a.0 b.0 = record { ports = a.1.ports ∙ alike.ports ∙ sym b.1.ports; config = a.1.config ∙ alike.config ∙ sym b.1.config; rows = same.1 } in
    let rest = one_history one g h events list others a.0 new b.0 last next a.2 b.2 in
    ((λ i. same.0 i ∷ rest.0 i), rest.1)
