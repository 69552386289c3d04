-- The bytes of a hardware address, by its first and those after it.
use Rattle.std.proofs.Common.{◌≡◌, ◌∙◌, sym, ap, refl, subst, ℕ, ◌<◌, arith, true, false, Bool, List, [], ◌∷◌, ◌++◌, length, Option, Some, None, option_map, append_assoc}
use Rattle.std.specs.Prelude.{◌==◌, nat_le, if◌then◌else◌, option_and_then, unwrap_or}
use Rattle.clap.specs.Words.{Text}
use Rattle.kd_commands.specs.Steps.{byte_at_front, byte_behind_colon}
use Rattle.kd_commands.specs.Values.{byte_spelled, bytes_behind, hardware_of}

is_there : {A : Type 0} (x : A) → Some x ≡ None → ⊥
is_there x h = cc

parts : (byte b : ℕ) (behind rest : Text) → ◌≡◌ {A = Option (ℕ × Text)} (Some (byte, behind)) (Some (b, rest))
    → (byte ≡ b) × (behind ≡ rest)
parts byte b behind rest h = (ap (λ (x : Option (ℕ × Text)). (unwrap_or x (0, [])).0) h, ap (λ (x : Option (ℕ × Text)). (unwrap_or x (0, [])).1) h)

-- a byte that is read, and those after it
pub record IsFirst (text : Text) (byte : ℕ) (behind : Text) : Type 0 where
  pub bytes : bytes_behind text ≡ option_map (λ more. byte ∷ more) (bytes_behind behind)
  pub smaller : length behind < length text

pub one_more : (text : Text) (byte : ℕ) (behind : Text) → Some (byte, behind) ≡ byte_behind_colon text → IsFirst text byte behind
unfolding bytes_behind byte_behind_colon byte_at_front
one_more [] byte behind h = cc
one_more (colon ∷ []) byte behind h = go (colon == 58) refl
  where
    go : (t : Bool) → (colon == 58) ≡ t → IsFirst (colon ∷ []) byte behind
    go true e = absurd (is_there (byte, behind) (rw e at h))
    go false e = absurd (is_there (byte, behind) (rw e at h))
one_more (colon ∷ high ∷ []) byte behind h = go (colon == 58) refl
  where
    go : (t : Bool) → (colon == 58) ≡ t → IsFirst (colon ∷ high ∷ []) byte behind
    go true e = absurd (is_there (byte, behind) (rw e at h))
    go false e = absurd (is_there (byte, behind) (rw e at h))
one_more (colon ∷ high ∷ low ∷ rest) byte behind h = go (colon == 58) refl (byte_spelled high low) refl
  where
    go : (t : Bool) → (colon == 58) ≡ t → (o : Option ℕ) → byte_spelled high low ≡ o → IsFirst (colon ∷ high ∷ low ∷ rest) byte behind
    go false e o f = absurd (is_there (byte, behind) (rw e at h))
    go true e None f = absurd (is_there (byte, behind) (rw (e, f) at h))
    go true e (Some b) f =
        let same = parts byte b behind rest (rw (e, f) at h) in
        record { bytes = rw (e, f, same.0, same.1) (map_is b (bytes_behind rest)); smaller = rw same.1 (omega arith) }
      where
        map_is : (x : ℕ) (o : Option (List ℕ)) → option_and_then (λ bytes. Some (x ∷ bytes)) o ≡ option_map (λ more. x ∷ more) o
        map_is x None = refl
        map_is x (Some bytes) = refl

-- if none is read, and something remains, the text has no such bytes
pub no_more : (first : ℕ) (text : Text) → None ≡ byte_behind_colon (first ∷ text) → bytes_behind (first ∷ text) ≡ None
unfolding bytes_behind byte_behind_colon byte_at_front
no_more colon [] h = refl
no_more colon (high ∷ []) h = refl
no_more colon (high ∷ low ∷ rest) h = go (colon == 58) refl (byte_spelled high low) refl
  where
    go : (t : Bool) → (colon == 58) ≡ t → (o : Option ℕ) → byte_spelled high low ≡ o → bytes_behind (colon ∷ high ∷ low ∷ rest) ≡ None
    go false e o f = rw e refl
    go true e None f = rw (e, f) refl
    go true e (Some b) f = absurd (is_there (b, rest) (sym (rw (e, f) at h)))

pub none_left : bytes_behind [] ≡ Some []
unfolding bytes_behind
none_left = refl

-- with one more byte before them
pub put_behind : (xs : List ℕ) (b : ℕ) (o : Option (List ℕ)) → option_map (λ more. (xs ++ b ∷ []) ++ more) o ≡ option_map (λ more. xs ++ more) (option_map (λ more. b ∷ more) o)
put_behind xs b None = refl
put_behind xs b (Some more) = ap (λ l. Some l) (append_assoc xs (b ∷ []) more)

-- the first byte of a hardware address
pub front_first : (text : Text) (byte : ℕ) (behind : Text) → Some (byte, behind) ≡ byte_at_front text
    → bytes_behind (58 ∷ text) ≡ option_map (λ more. byte ∷ more) (bytes_behind behind)
unfolding byte_behind_colon
front_first text byte behind h = (one_more (58 ∷ text) byte behind h).bytes

pub front_none : (text : Text) → None ≡ byte_at_front text → bytes_behind (58 ∷ text) ≡ None
unfolding byte_behind_colon
front_none text h = no_more 58 text h

-- and the whole address, if those after its first byte are put after it
pub hardware_is : (seen text : Text) (byte : ℕ) (none front : List ℕ) (behind : Text) (all : Option (List ℕ)) → seen ≡ text
    → Some (byte, behind) ≡ byte_at_front seen → none ≡ [] → front ≡ none ++ byte ∷ [] → all ≡ option_map (λ more. front ++ more) (bytes_behind behind)
    → hardware_of text ≡ option_and_then (λ bytes. if nat_le (length bytes) 16 then Some bytes else None) all
hardware_is seen text byte none front behind all same h empty one are =
    let first = front_first text byte behind (subst (λ t. Some (byte, behind) ≡ byte_at_front t) same h) in
    let front_is : front ≡ byte ∷ [] = one ∙ ap (λ l. l ++ byte ∷ []) empty in
    ap (option_and_then (λ bytes. if nat_le (length bytes) 16 then Some bytes else None))
    (first ∙ sym (are ∙ ap (λ xs. option_map (λ more. xs ++ more) (bytes_behind behind)) front_is))
