-- The text of a reply reads as the reply that was decided.
use Rattle.std.proofs.Common.{◌≡◌, ℕ, ◌+◌, ◌<◌, ◌^◌, ◌==◌, Bool, true, false, List, [], ◌∷◌, Option, None, Some, refl, sym, ap, subst, ◌∙◌, arith, leb-true}
use Rattle.std.specs.Prelude.{IfSome, IsSomeAnd, codes, map, nat_eq, sum_by, bit_or, if◌then◌else◌}
use Rattle.std.specs.List.{AllByRecursion, IsDistinct}
use Rattle.std.proofs.lemmas.List.Sums.{sum_by-cons}
use Rattle.std.proofs.lemmas.Nat.{or_of_16}
use Rattle.std.specs.Option.{option_or}
use Rattle.kd_config.specs.Configuration.{Configuration}
use Rattle.kd_config.specs.Sound.{IsSound}
use Rattle.kd_event.specs.declared.reason.Reason.{Reason}
use Rattle.kd_event.specs.declared.reason.Reason.TheVariants as reasons
use Rattle.kd_lease.specs.Change.{AnswersTo, Changes, ForClient, HasReplyContent, Unless, WhereFits, asked_for, fits_in}
use Rattle.kd_lease.specs.Choice.{Asking}
use Rattle.kd_lease.specs.Client.{first_byte, identity_by, identity_by_hardware, identity_under, reply_room, server_message}
use Rattle.kd_lease.specs.Laws.{EndsAreFounded}
use Rattle.kd_lease.specs.Plan.{Content, Outcome, option_of_item}
use Rattle.kd_lease.specs.Plan.Outcome.{planned, quiet}
use Rattle.kd_lease.specs.ReplyOf.{ciaddr_of_reply, flags_of_reply, header_of_reply, needed, within_room}
use Rattle.kd_lease.specs.ReplyOptions.{plan_type, reply_content, reply_options}
use Rattle.kd_lease.specs.Rules.{Does, granted_times}
use Rattle.kd_lease.specs.declared.booting.BootFields.{BootFields}
use Rattle.kd_lease.specs.declared.plan.PlanKind.{PlanKind}
use Rattle.kd_lease.specs.declared.plan.PlanKind.TheVariants as kinds
use Rattle.kd_machine.specs.Parts.{is_held}
use Rattle.kd_options.specs.Joined.{value_of}
use Rattle.kd_options.specs.Laws.{IsHeader, MessagesHaveSizes, item_codes, item_options, read_back}
use Rattle.kd_options.specs.Message.{Reads, Seen, mac_of}
use Rattle.kd_options.specs.Options.{IsAddressValue, IsReadable, IsType}
use Rattle.kd_options.specs.Reply.{ItemsFit, base_cost, kept, obligatory_cost, reply_text}
use Rattle.kd_options.specs.declared.item.Item.{Item}
use Rattle.kd_rows.specs.declared.row.Row.{Row}
use Rattle.kd_wire.specs.declared.header.Header.{Header}
use Rattle.kd_laws.proofs.Assigned.{assigned_32}
use Rattle.kd_laws.proofs.Booted.{AreFields, fields_sized}
use Rattle.kd_laws.proofs.Ordered.{AreOrdered, IsSure, codes_of, is_own, ordered-distinct, ordered-sure, told}
use Rattle.kd_laws.proofs.Rereads.{IsObligatory, kept_value, rereads}
use Rattle.kd_laws.proofs.Told.{reply_ordered, told_client, told_lifetime, told_no_overload, told_no_requested, told_server, told_type}
use Rattle.kd_laws.specs.Granted.{AreGranted}
use Rattle.kd_laws.specs.Replies.{ReadsAsReply, RepliesReadBack}

-- the flags of a reply have 16 bits, and its `ciaddr` has 32
flags_16 : (kind : PlanKind) (h : Header) → h.flags < 2 ^ 16 → flags_of_reply kind h < 2 ^ 16
flags_16 kinds.Offer h is = is
flags_16 kinds.Ack h is = is
flags_16 kinds.InformAck h is = is
flags_16 kinds.Nak h is = by (h.giaddr == 0) where
  by : (b : Bool) → (if b then h.flags else bit_or h.flags 0x8000) < 2 ^ 16
  by true = is
  by false = or_of_16 h.flags 0x8000 is (omega arith)

ciaddr_32 : (kind : PlanKind) (h : Header) → h.ciaddr < 2 ^ 32 → ciaddr_of_reply kind h < 2 ^ 32
ciaddr_32 kinds.Offer h is = omega arith
ciaddr_32 kinds.Ack h is = is
ciaddr_32 kinds.InformAck h is = is
ciaddr_32 kinds.Nak h is = omega arith

-- the header of a reply has its sizes
reply_header : (kind : PlanKind) (yiaddr : ℕ) (fields : BootFields) (h : Header) → IsHeader h → yiaddr < 2 ^ 32 → AreFields fields → IsHeader (header_of_reply kind yiaddr fields h)
unfolding header_of_reply
reply_header kind yiaddr fields h is fits sized = record {
  op = omega arith;
  htype = is.htype;
  hlen = is.hlen;
  hops = omega arith;
  xid = is.xid;
  secs = omega arith;
  flags = flags_16 kind h is.flags;
  ciaddr = ciaddr_32 kind h is.ciaddr;
  yiaddr = fits;
  siaddr = sized.siaddr;
  giaddr = is.giaddr;
  chaddr = is.chaddr;
  sname = sized.sname;
  file = sized.file;
}

-- a reply is one by its op
reply_op : (kind : PlanKind) (yiaddr : ℕ) (fields : BootFields) (h : Header) → (header_of_reply kind yiaddr fields h).op ≡ 2
unfolding header_of_reply
reply_op kind yiaddr fields h = refl

-- who the client is, is decided by option 61 and the hardware in the header
same_client : (config : Configuration) (kind : PlanKind) (yiaddr : ℕ) (fields : BootFields) (m reply : Seen)
    → reply.header ≡ header_of_reply kind yiaddr fields m.header → value_of 61 reply.options ≡ value_of 61 m.options → identity_under config reply ≡ identity_under config m
unfolding header_of_reply
same_client config kind yiaddr fields m reply header value =
    λ i. if config.extensions.ignores_client_ids
    then option_or (identity_by_hardware (header i).htype (mac_of (header i))) (identity_by (value i) None)
    else identity_by (value i) (identity_by_hardware (header i).htype (mac_of (header i)))

-- the cost, the codes and the values of items are those of their options
items_cost : (items : List Item) → sum_by obligatory_cost items ≡ sum_by needed (map option_of_item items)
items_cost [] = refl
items_cost (x ∷ items) =
    sum_by-cons obligatory_cost x items ∙ ap (λ n. obligatory_cost x + n) (items_cost items) ∙ sym (sum_by-cons needed (option_of_item x) (map option_of_item items))

items_codes : (items : List Item) → item_codes items ≡ codes_of (map option_of_item items)
items_codes [] = refl
items_codes (x ∷ items) = ap (λ cs. x.code ∷ cs) (items_codes items)

items_told : (code : ℕ) (items : List Item) → value_of code (item_options items) ≡ told code (map option_of_item items)
items_told code [] = refl
items_told code (x ∷ items) = ap (λ rest. if nat_eq code x.code then Some x.value else rest) (items_told code items)

-- the items of one of the server's own codes are obligatory
items_sure : (code : ℕ) (items : List Item) → is_own code ≡ true → AllByRecursion IsSure (map option_of_item items) → AllByRecursion (IsObligatory code) items
items_sure code [] own each = tt
items_sure code (x ∷ items) own each =
    ((λ same. each.0 (subst (λ (c : ℕ). is_own c ≡ true) (sym same) own)), items_sure code items own each.1)

-- what an outcome that is a reply rests on
record IsAnswer (q : Asking) (kind : PlanKind) (yiaddr : ℕ) (content : Content) : Type 0 where
  row : Option Row
  does : Does q row (planned kind yiaddr content)
  content_is : content ≡ reply_content q kind yiaddr
  fits : within_room (reply_room q.message) content.options ≡ true

module _ (kind : PlanKind) (yiaddr : ℕ) (content : Content) where
  abbrev reply : Outcome
  reply = planned kind yiaddr content

  -- a reply is not the lack of one
  not_quiet : {A : Type 0} (reason : Reason) → reply ≡ quiet reason → A
  not_quiet reason is = absurd (cc)

  -- a reply comes only after the tests that would leave the message unanswered
  past_test : (b : Bool) (reason : Reason) (Done : Option Row → Outcome → Type 0) (set : Option Row) → Unless b reason Done set reply → Done set reply
  past_test true reason Done set h = not_quiet reason h.1
  past_test false reason Done set h = h

  -- and only to a client with an identity
  past_client : (client : Option (List ℕ)) (Done : List ℕ → Option Row → Outcome → Type 0) (set : Option Row) → ForClient client Done set reply → (c : List ℕ) × (client ≡ Some c) × Done c set reply
  past_client None Done set h = not_quiet _ h.1
  past_client (Some c) Done set h = (c, refl, h)

  -- and only if its mandatory options fit
  fitting : (q : Asking) (set : Option Row) → AnswersTo q set reply → IsAnswer q kind yiaddr content
  fitting q set a = by (fits_in (reply_room q.message) a.outcome) refl a.replies where
    by : (b : Bool) → fits_in (reply_room q.message) a.outcome ≡ b → WhereFits b a.row a.outcome set reply → IsAnswer q kind yiaddr content
    by true fits h = record {
      row = a.row;
      does = subst (Does q a.row) (sym h.1) a.does;
      content_is = subst (HasReplyContent q) (sym h.1) a.content;
      fits = subst (λ (o : Outcome). fits_in (reply_room q.message) o ≡ true) (sym h.1) fits;
    }
    by false fits h = not_quiet _ h.1

-- a message that changes the leases and gets a reply was answered
answered : (config : Configuration) (old new : List Row) (m : Seen) (now : ℕ) (kind : PlanKind) (yiaddr : ℕ) (content : Content)
    (h : Changes config old m now new (planned kind yiaddr content)) → (client : List ℕ) × (identity_under config m ≡ Some client) × IsAnswer (asked_for config old h.names m now client) kind yiaddr content
answered config old new m now kind yiaddr content h =
    let Answers : List ℕ → Option Row → Outcome → Type 0 = λ client. AnswersTo (asked_for config old h.names m now client) in
    let Drops : List ℕ → Option Row → Outcome → Type 0 = λ client. Unless (is_held (codes "DROP") h.names) reasons.DropClass (Answers client) in
    let requests = past_test kind yiaddr content (server_message m) reasons.NotRequest (ForClient (identity_under config m) Drops) h.set h.decides in
    let client = past_client kind yiaddr content (identity_under config m) Drops h.set requests in
    let answers = past_test kind yiaddr content (is_held (codes "DROP") h.names) reasons.DropClass (Answers client.0) h.set client.2 in
    (client.0, client.1, fitting kind yiaddr content (asked_for config old h.names m now client.0) h.set answers)

-- the type of a reply is a message type
type_is : (kind : PlanKind) → IsType (plan_type kind ∷ [])
type_is kinds.Offer = (omega arith, omega arith)
type_is kinds.Ack = (omega arith, omega arith)
type_is kinds.InformAck = (omega arith, omega arith)
type_is kinds.Nak = (omega arith, omega arith)

module _ (founded : EndsAreFounded) (q : Asking) (sound : IsSound q.config) (fields : IsHeader q.message.header) (kind : PlanKind) (yiaddr : ℕ) (content : Content)
    (is : IsAnswer q kind yiaddr content) (items : List Item) (are : map option_of_item items ≡ content.options) (granted : AreGranted q.config q.rows q.message q.now yiaddr (granted_times q yiaddr)) where
  abbrev room : ℕ
  room = reply_room q.message

  abbrev header : Header
  header = header_of_reply kind yiaddr content.fields q.message.header

  -- the items are those options
  same_options : map option_of_item items ≡ reply_options q kind yiaddr
  same_options = are ∙ ap (λ (c : Content). c.options) is.content_is

  -- they are in order
  ordered : AreOrdered 0 262 (map option_of_item items)
  ordered = subst (AreOrdered 0 262) (sym same_options) (reply_ordered q sound kind yiaddr)

  -- so their codes are distinct
  codes_distinct : IsDistinct nat_eq (item_codes items)
  codes_distinct = subst (IsDistinct nat_eq) (sym (items_codes items)) (ordered-distinct 0 262 (map option_of_item items) ordered)

  -- the obligatory ones fit
  items_fit : ItemsFit room items
  items_fit =
      let within = leb-true (240 + sum_by needed content.options + 1) room is.fits in
      omega (arith, within, items_cost items, ap (sum_by needed) are)

  -- what the kept items say of one of the server's own codes is what the options of the reply say
  said : (code : ℕ) → is_own code ≡ true → value_of code (item_options (kept room items)) ≡ told code (reply_options q kind yiaddr)
  said code own =
      kept_value code (base_cost items) room items (items_sure code items own (ordered-sure 0 262 (map option_of_item items) ordered)) ∙ items_told code items ∙ ap (told code) same_options

  -- the kept items are readable options
  readable : IsReadable (item_options (kept room items))
  readable = record {
    kind = subst (λ (v : Option (List ℕ)). IsSomeAnd v IsType) (sym (said 53 refl ∙ told_type q sound kind yiaddr)) (type_is kind);
    requested = subst (λ (v : Option (List ℕ)). IfSome v IsAddressValue) (sym (said 50 refl ∙ told_no_requested q sound kind yiaddr)) tt;
    server = subst (λ (v : Option (List ℕ)). IfSome v IsAddressValue) (sym (said 54 refl ∙ told_server q sound kind yiaddr)) refl;
  }

  -- the boot fields have their sizes
  sized : AreFields content.fields
  sized = subst AreFields (sym (ap (λ (c : Content). c.fields) is.content_is)) (fields_sized q sound kind yiaddr)

  -- the text reads as the header and the kept items
  reads : Reads (reply_text header room items) (read_back header room items)
  reads = rereads header room items (record {
    fields = reply_header kind yiaddr content.fields q.message.header fields (assigned_32 founded q is.row kind yiaddr content sound is.does) sized;
    op = reply_op kind yiaddr content.fields q.message.header;
    codes = codes_distinct;
    plain = said 52 refl ∙ told_no_overload q sound kind yiaddr;
    readable = readable;
    fits = items_fit;
    most = omega arith;
  })

  -- the text of an answer reads as the reply that was decided
  answer_reads : (text : List ℕ) → text ≡ reply_text header room items → ReadsAsReply q.config q.rows q.message q.now kind yiaddr content.fields text
  answer_reads text text_is = record {
    reply = read_back header room items;
    reads = subst (λ (bytes : List ℕ). Reads bytes (read_back header room items)) (sym text_is) reads;
    header = refl;
    type = ap first_byte (said 53 refl ∙ told_type q sound kind yiaddr);
    client = same_client q.config kind yiaddr content.fields q.message (read_back header room items) refl (said 61 refl ∙ told_client q sound kind yiaddr);
    times = granted_times q yiaddr;
    granted = granted;
    lifetime = said 51 refl ∙ told_lifetime q sound kind yiaddr;
  }

-- the law
pub replies_read : EndsAreFounded → MessagesHaveSizes → RepliesReadBack
replies_read founded sizes config old new m now kind yiaddr content text sound message changes is =
    let answer = answered config old new m now kind yiaddr content changes in
    let q = asked_for config old changes.names m now answer.0 in
    let granted : AreGranted config old m now yiaddr (granted_times q yiaddr) = record { names = changes.names; held = changes.held; client = answer.0; by = answer.1; are = refl } in
    answer_reads founded q sound (sizes m message).fields kind yiaddr content answer.2 is.0 is.1 granted text is.2
