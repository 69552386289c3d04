-- Items read one after another: what a loop maintains while it reads them.
use Rattle.std.proofs.Common.{◌≡◌, ℕ, suc, ◌+◌, ◌-◌, ◌<◌, ◌≤◌, List, [], ◌∷◌, ◌++◌, length, Result, Ok, Err, refl, sym, ap, ◌∙◌, append_assoc, subst, arith}
use Rattle.std.proofs.lemmas.List.{append-nil}
use Rattle.std.specs.List.{flat_map, AllByRecursion}
use Rattle.kd_token.specs.declared.fault.FileFault.{FileFault}
use Rattle.kd_token.specs.declared.fault.FileFault.TheVariants as faults
use Rattle.kd_token.specs.declared.token.Token.{Token}
use Rattle.kd_token.specs.declared.token.Version.{Version}
use Rattle.kd_token.specs.File.{IsToken, AreTokens}
use Rattle.kd_token.specs.Reading.{IsReadFault, ReadStep, Rest, unless_faulty, many_at}

-- these items, and then those that are read
abbrev pub with_front : {X : Type 0} → List X → Result (List X × Rest) FileFault → Result (List X × Rest) FileFault
with_front front read = unless_faulty read (λ x. Ok (front ++ x.0, x.1))

-- the same fault comes if the next part has it
pub refused : {A B : Type 0} (fault : FileFault) (read : Result A FileFault) (next : Result B FileFault) → (read ≡ Err fault → next ≡ Err fault) → IsReadFault fault read → IsReadFault fault next
refused faults.Magic read next f e = f e
refused faults.Version read next f e = f e
refused (faults.Cut at) read next f e = f e
refused (faults.Opcode at) read next f e = f e
refused (faults.Operand at) read next f e = f e
refused (faults.Rest at) read next f e = f e
refused faults.Limit read next f e = f e
refused faults.Memory read next f e = tt

regroup : {X : Type 0} (front : List X) (x : X) (read : Result (List X × Rest) FileFault) → with_front front (unless_faulty read (λ xs. Ok (x ∷ xs.0, xs.1))) ≡ with_front (front ++ x ∷ []) read
regroup front x (Err fault) = refl
regroup front x (Ok xs) = ap (λ ys. Ok (ys, xs.1)) (sym (append_assoc front (x ∷ []) xs.0))

-- one more item
pub goes_on : {X : Type 0} (item : ℕ → ReadStep X) (front : List X) (count i : ℕ) (r : Rest) (x : X) (after : Rest) (total : Result (List X × Rest) FileFault) → i < count → item (count - (i + 1)) r ≡ Ok (x, after)
    → with_front front (many_at item (count - i) r) ≡ total → with_front (front ++ x ∷ []) (many_at item (count - (i + 1)) after) ≡ total
unfolding many_at
goes_on item front count i r x after total less one so_far =
    let k : count - i ≡ suc (count - (i + 1)) = omega arith in
    let step : with_front front (many_at item (count - i) r) ≡ with_front (front ++ x ∷ []) (many_at item (count - (i + 1)) after) = rw (k, one) (regroup front x (many_at item (count - (i + 1)) after)) in
    sym step ∙ so_far

-- an item that is not read
pub ends : {X : Type 0} (item : ℕ → ReadStep X) (fault : FileFault) (front : List X) (count i : ℕ) (r : Rest) (total : Result (List X × Rest) FileFault) → i < count → IsReadFault fault (item (count - (i + 1)) r)
    → with_front front (many_at item (count - i) r) ≡ total → IsReadFault fault total
unfolding many_at
ends item fault front count i r total less none so_far =
    let k : count - i ≡ suc (count - (i + 1)) = omega arith in
    refused fault (item (count - (i + 1)) r) total (λ e. sym so_far ∙ rw (k, e) refl) none

-- all items are read
pub is_done : {X : Type 0} (item : ℕ → ReadStep X) (front : List X) (count i : ℕ) (r : Rest) (total : Result (List X × Rest) FileFault) → count ≤ i → with_front front (many_at item (count - i) r) ≡ total → total ≡ Ok (front, r)
unfolding many_at
is_done item front count i r total most so_far =
    let k : count - i ≡ 0 = omega arith in
    let one : with_front front (many_at item (count - i) r) ≡ Ok (front, r) = rw k (ap (λ xs. Ok (xs, r)) (append-nil front)) in
    sym so_far ∙ one

-- the bytes so far, with one more item
pub spelled_more : {X : Type 0} (text : X → List ℕ) (front : List X) (x : X) (whole bytes after : List ℕ) → whole ≡ flat_map text front ++ bytes → bytes ≡ text x ++ after → whole ≡ flat_map text (front ++ x ∷ []) ++ after
spelled_more text front x whole bytes after so_far one = so_far ∙ ap (λ b. flat_map text front ++ b) one ∙ again text front x after where
  again : {X : Type 0} (text : X → List ℕ) (front : List X) (x : X) (after : List ℕ) → flat_map text front ++ (text x ++ after) ≡ flat_map text (front ++ x ∷ []) ++ after
  again text [] x after = ap (λ b. b ++ after) (sym (append-nil (text x)))
  again text (y ∷ front) x after =
      append_assoc (text y) (flat_map text front) (text x ++ after) ∙ ap (λ b. text y ++ b) (again text front x after) ∙ sym (append_assoc (text y) (flat_map text (front ++ x ∷ [])) after)

-- one more that has the property
pub all_more : {X : Type 0} (P : X → Type 0) (front : List X) (x : X) → AllByRecursion P front → P x → AllByRecursion P (front ++ x ∷ [])
all_more P [] x all one = (one, tt)
all_more P (y ∷ front) x all one = (all.0, all_more P front x all.1 one)

-- tokens of a list with this many more after them
abbrev pub AreFirst : Version → ℕ → List Token → Type 0
AreFirst version behind [] = Unit {0}
AreFirst version behind (token ∷ tokens) = IsToken version (length tokens + behind) token × AreFirst version behind tokens

pub first_more : (version : Version) (behind : ℕ) (front : List Token) (token : Token) → AreFirst version (behind + 1) front → IsToken version behind token → AreFirst version behind (front ++ token ∷ [])
first_more version behind [] token all one = (rw (zero_more behind) one, tt) where
  zero_more : (n : ℕ) → 0 + n ≡ n
  zero_more n = omega arith
first_more version behind (t ∷ front) token all one = (rw (one_later front token behind) all.0, first_more version behind front token all.1 one) where
  one_later : (front : List Token) (token : Token) (behind : ℕ) → length (front ++ token ∷ []) + behind ≡ length front + (behind + 1)
  one_later [] token behind = omega arith
  one_later (t ∷ front) token behind = let e = one_later front token behind in omega (arith, e)

pub first_all : (version : Version) (tokens : List Token) → AreFirst version 0 tokens → AreTokens version tokens
first_all version [] all = tt
first_all version (t ∷ tokens) all =
    let P : ℕ → Type 0 = λ n. IsToken version n t in
    let same : length tokens + 0 ≡ length tokens = omega arith in
    (subst P same all.0, first_all version tokens all.1)
