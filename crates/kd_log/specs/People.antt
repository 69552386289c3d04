-- The human-readable text of a reply: one line of words, with one space between them.
use Rattle.std.specs.Prelude.{◌≡◌, ℕ, ◌*◌, ◌<◌, ◌≤◌, ◌==◌, ◌⊎◌, List, [], ◌∷◌, ◌++◌, Option, None, Some, codes, decimal, if◌then◌else◌, nat_eq, pos}
use Rattle.std.specs.List.{flat_map}
use Rattle.std.specs.Map.{lookup}
use Rattle.hex.specs.Hex.{encode_lower}
use Rattle.jiff.specs.Types.{DateTime}
use Rattle.jiff.specs.Words.{civil_nanos, iso_datetime_text}
use Rattle.kd_names.specs.Values.{message_type_word}
use Rattle.kd_options.specs.Joined.{value_of}
use Rattle.kd_options.specs.Kind.{type_number}
use Rattle.kd_options.specs.Message.{Seen, mac_of}
use Rattle.kd_options.specs.RelayWalk.{relay_list}
use Rattle.kd_options.specs.declared.kind.MessageType.{MessageType}
use Rattle.kd_text.specs.Text.{address_text, bytes_text}

-- the last time that has a date and time of day: 9999-12-30T22:00:00Z
abbrev pub last_dated : ℕ
last_dated = 253402207200

-- a time as date and time of day in UTC (RFC 3339), for example `2026-11-26T14:03:07Z`
pub record IsDateTimeText (moment : ℕ) (text : List ℕ) : Type 0 where
  pub early : moment ≤ last_dated
  pub clock : DateTime
  pub at : civil_nanos clock ≡ pos (moment * 1000000000)
  pub text_is : text ≡ iso_datetime_text clock ++ codes "Z"

-- a time: its date and time of day, or its seconds in decimal if it is later than the last dated
-- one
abbrev pub IsTimeText : ℕ → List ℕ → Type 0
IsTimeText moment text = IsDateTimeText moment text ⊎ ((last_dated < moment) × (text ≡ decimal moment))

-- a byte of a hardware address, after the one before it
abbrev pub colon_byte : ℕ → List ℕ
colon_byte byte = codes ":" ++ encode_lower (byte ∷ [])

-- a hardware address: its bytes in hexadecimal with colons between them; a dash if there are none
abbrev pub mac_text : List ℕ → List ℕ
mac_text [] = codes "-"
mac_text (byte ∷ bytes) = encode_lower (byte ∷ []) ++ flat_map colon_byte bytes

-- an address; a dash for 0.0.0.0
abbrev pub address_or_dash : ℕ → List ℕ
address_or_dash a = if a == 0 then codes "-" else address_text a

-- a value in hexadecimal; a dash if it is absent or empty
abbrev pub value_text : Option (List ℕ) → List ℕ
value_text None = codes "-"
value_text (Some value) = bytes_text value

-- a sub-option of the relay agent information: 1 is the circuit ID, 2 the remote ID (RFC 3046
-- section 2)
abbrev pub relay_word : ℕ → Seen → List ℕ
relay_word code m = value_text (lookup (nat_eq code) (relay_list m.options))

-- what follows the type of a reply: the hardware address, the address that it assigns, the client
-- identifier (option 61), the relay, and two sub-options of the relay agent information
abbrev pub reply_words : Seen → List ℕ
reply_words m =
    (codes " " ++ mac_text (mac_of m.header)) ++ (codes " " ++ address_or_dash m.header.yiaddr)
    ++ (codes " client " ++ value_text (value_of 61 m.options))
    ++ (codes " relay " ++ address_or_dash m.header.giaddr)
    ++ (codes " circuit " ++ relay_word 1 m) ++ (codes " remote " ++ relay_word 2 m)

-- the human-readable line of a reply, with its line feed
pub record IsPeopleLine (moment : ℕ) (m : Seen) (text : List ℕ) : Type 0 where
  pub time : List ℕ
  pub kind : MessageType
  pub time_is : IsTimeText moment time
  pub kind_is : value_of 53 m.options ≡ Some (type_number kind ∷ [])
  pub text_is : text
      ≡ time ++ (codes " " ++ message_type_word (type_number kind)) ++ reply_words m ++ codes "\n"
