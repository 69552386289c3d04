-- The notes on objects, key by key and item by item.
use Rattle.std.proofs.Common.{◌≡◌, ℕ, List, [], ◌∷◌, ◌++◌, map, refl, ap, ◌∙◌, append_assoc, string_bytes, String}
use Rattle.std.proofs.lemmas.List.{map-append}
use Rattle.std.specs.declared.alloc.Global.{Global}
use Rattle.serde_json.specs.View.{members_view}
use Rattle.serde_json.specs.declared.value.Value.{Value}
use Rattle.kd_notes.specs.Notes.{KeyNote, member_keys, note_of}
use Rattle.kd_notes.specs.declared.notes.Note.{Note}

-- the keys of an object in memory
pub keys_seen : (entries : List (String Global × Value)) → member_keys (members_view entries) ≡ map string_bytes (map (λ m. m.0) entries)
keys_seen [] = refl
keys_seen (m ∷ entries) = ap (λ (keys : List (List ℕ)). string_bytes m.0 ∷ keys) (keys_seen entries)

-- notes one after another, as a contract has them
pub notes_joined : (xs ys : List Note) → map note_of (xs ++ ys) ≡ map note_of xs ++ map note_of ys
notes_joined xs ys = map-append note_of xs ys

-- parts after a list
pub two_joined : (old a b n1 n2 : List KeyNote) → n1 ≡ old ++ a → n2 ≡ n1 ++ b → n2 ≡ old ++ (a ++ b)
two_joined old a b n1 n2 e f = f ∙ (ap (λ (xs : List KeyNote). xs ++ b) e ∙ append_assoc old a b)

pub three_joined : (old a b c n1 n2 n3 : List KeyNote) → n1 ≡ old ++ a → n2 ≡ n1 ++ b → n3 ≡ n2 ++ c → n3 ≡ old ++ (a ++ b ++ c)
three_joined old a b c n1 n2 n3 e f g = two_joined old (a ++ b) c n2 n3 (two_joined old a b n1 n2 e f) g

pub four_joined : (old a b c d n1 n2 n3 n4 : List KeyNote) → n1 ≡ old ++ a → n2 ≡ n1 ++ b → n3 ≡ n2 ++ c → n4 ≡ n3 ++ d → n4 ≡ old ++ (a ++ b ++ c ++ d)
four_joined old a b c d n1 n2 n3 n4 e f g h = two_joined old (a ++ b ++ c) d n3 n4 (three_joined old a b c n1 n2 n3 e f g) h
