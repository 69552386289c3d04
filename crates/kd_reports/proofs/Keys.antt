-- The lines about the keys that are refused and those that are skipped, key by key.
use Rattle.std.proofs.Common.{◌≡◌, ◌≤◌, ◌<◌, ◌+◌, ◌++◌, ◌∙◌, ◌&&◌, ◌||◌, ℕ, Bool, true, false, List, [], ◌∷◌, append-nil, ap, arith, bytes_eq, cond, drop, filter, get_or, length, length-append, map, refl, string_bytes, sym, take, take-append-drop}
use Rattle.std.proofs.lemmas.Bool.{le-ltb, lt-ltb}
use Rattle.std.proofs.lemmas.Grind.{flat_map-append}
use Rattle.std.proofs.lemmas.List.{map-append, take_all, take_at, take_more, drop_more}
use Rattle.std.proofs.lemmas.List.Elements.{filter-append}
use Rattle.std.specs.List.{flat_map, list_any}
use Rattle.kd_notes.specs.Notes.{KeyNote, note_of}
use Rattle.kd_notes.specs.declared.notes.Note.{Note}
use Rattle.kd_reports.specs.KeaWords.{is_refused_at, is_unknown, line_of_kind, more_text, refused_lines, refused_paths, refused_place, skipped_lines}

-- ---- the keys that are skipped

-- ---- the keys that are refused

-- the paths of the notes in memory that pass a test
abbrev pub paths_by : (KeyNote → Bool) → List Note → List (List ℕ)
paths_by is notes = map (λ note. note.0) (filter is (map note_of notes))

paths-append : (is : KeyNote → Bool) (xs ys : List Note) → paths_by is (xs ++ ys) ≡ paths_by is xs ++ paths_by is ys
paths-append is xs ys =
    let path : KeyNote → List ℕ = λ note. note.0 in
    ap (λ (some : List KeyNote). map path (filter is some)) (map-append note_of xs ys)
    ∙ ap (λ (some : List KeyNote). map path some) (filter-append is (map note_of xs) (map note_of ys))
    ∙ map-append path (filter is (map note_of xs)) (filter is (map note_of ys))

-- the path of one note, if it passes
paths-one : (is : KeyNote → Bool) (note : Note) (b : Bool) → is (note_of note) ≡ b → paths_by is (note ∷ []) ≡ cond b (string_bytes note.path ∷ []) []
paths-one is note true e = ap (λ (b : Bool). map (λ (n : KeyNote). n.0) (cond b (note_of note ∷ []) [])) e
paths-one is note false e = ap (λ (b : Bool). map (λ (n : KeyNote). n.0) (cond b (note_of note ∷ []) [])) e

paths-more : (is : KeyNote → Bool) (notes : List Note) (i : ℕ) (d : Note) (b : Bool) → i < length notes → is (note_of (get_or notes i d)) ≡ b
    → paths_by is (take (i + 1) notes) ≡ paths_by is (take i notes) ++ cond b (string_bytes (get_or notes i d).path ∷ []) []
paths-more is notes i d b here e =
    ap (λ (some : List Note). paths_by is some) (take_more notes i d here)
    ∙ paths-append is (take i notes) (get_or notes i d ∷ [])
    ∙ ap (λ (end : List (List ℕ)). paths_by is (take i notes) ++ end) (paths-one is (get_or notes i d) b e)

-- the next note passes
pub some_grow : (is : KeyNote → Bool) (notes : List Note) (i : ℕ) (d : Note) → i < length notes → is (note_of (get_or notes i d)) ≡ true
    → paths_by is (take (i + 1) notes) ≡ paths_by is (take i notes) ++ string_bytes (get_or notes i d).path ∷ []
some_grow is notes i d here e = paths-more is notes i d true here e

-- the next note does not pass
pub some_stay : (is : KeyNote → Bool) (notes : List Note) (i : ℕ) (d : Note) → i < length notes → is (note_of (get_or notes i d)) ≡ false
    → paths_by is (take (i + 1) notes) ≡ paths_by is (take i notes)
some_stay is notes i d here e = paths-more is notes i d false here e ∙ append-nil (paths_by is (take i notes))

-- the next note passes, so there are paths behind those before it
pub record Behind (is : KeyNote → Bool) (notes : List Note) (i : ℕ) : Type 0 where
  pub rest : List (List ℕ)
  pub together : paths_by is notes ≡ paths_by is (take i notes) ++ rest
  pub some_left : 0 < length rest

pub some_behind : (is : KeyNote → Bool) (notes : List Note) (i : ℕ) (d : Note) → i < length notes → is (note_of (get_or notes i d)) ≡ true → Behind is notes i
some_behind is notes i d here e =
    let next = get_or notes i d in
    let behind = drop (i + 1) notes in
    let split : notes ≡ take i notes ++ (next ∷ behind) =
    sym (take-append-drop i notes) ∙ ap (λ (end : List Note). take i notes ++ end) (drop_more notes i d here) in
    let first : paths_by is (next ∷ behind) ≡ string_bytes next.path ∷ paths_by is behind =
    paths-append is (next ∷ []) behind ∙ ap (λ (front : List (List ℕ)). front ++ paths_by is behind) (paths-one is next true e) in
    record {
      rest = paths_by is (next ∷ behind);
      together = ap (λ (some : List Note). paths_by is some) split ∙ paths-append is (take i notes) (next ∷ behind);
      some_left = omega (arith, ap (λ (some : List (List ℕ)). length some) first);
    }

-- a key is refused
abbrev pub of_refused : KeyNote → Bool
of_refused note = is_unknown note.1

-- the paths of the refused keys of notes in memory
abbrev pub paths_in : List Note → List (List ℕ)
paths_in notes = refused_paths (map note_of notes)

-- the lines about these paths
abbrev pub places : List ℕ → List ℕ → List ℕ → List (List ℕ) → List ℕ
places name written json paths = flat_map (λ path. refused_place name written json path) paths

-- the lines up to the next path
pub places-more : (name written json : List ℕ) (paths : List (List ℕ)) (path : List ℕ)
    → places name written json (paths ++ path ∷ []) ≡ places name written json paths ++ refused_place name written json path
places-more name written json paths path =
    let line : List ℕ → List ℕ = λ it. refused_place name written json it in
    flat_map-append line paths (path ∷ []) ∙ ap (λ (end : List ℕ). flat_map line paths ++ end) (append-nil (line path))

-- all are shown
pub all_shown : (name written json : List ℕ) (paths : List (List ℕ)) → length paths ≤ 64
    → refused_lines name written json paths ≡ places name written json paths
unfolding refused_lines
all_shown name written json paths few =
    ap (λ (b : Bool). places name written json (take 64 paths) ++ cond b (more_text name) []) (le-ltb 64 (length paths) few)
    ∙ append-nil (places name written json (take 64 paths))
    ∙ ap (λ (some : List (List ℕ)). places name written json some) (take_all 64 paths few)

-- the first 64 are shown
first_shown : (name written json : List ℕ) (seen rest : List (List ℕ)) → length seen ≡ 64 → 0 < length rest
    → refused_lines name written json (seen ++ rest) ≡ places name written json seen ++ more_text name
unfolding refused_lines
first_shown name written json seen rest full more =
    let over : 64 < length (seen ++ rest) = omega (arith, length-append seen rest) in
    ap (λ (b : Bool). places name written json (take 64 (seen ++ rest)) ++ cond b (more_text name) []) (lt-ltb 64 (length (seen ++ rest)) over)
    ∙ ap (λ (some : List (List ℕ)). places name written json some ++ more_text name) (take_at seen rest 64 full)

-- one key more is refused
pub cut_shown : (name written json : List ℕ) (notes : List Note) (i : ℕ) (d : Note) → i < length notes → is_unknown (get_or notes i d).kind ≡ true
    → length (paths_in (take i notes)) ≡ 64
    → refused_lines name written json (paths_in notes) ≡ places name written json (paths_in (take i notes)) ++ more_text name
cut_shown name written json notes i d here is full =
    let behind = some_behind of_refused notes i d here is in
    ap (λ (paths : List (List ℕ)). refused_lines name written json paths) behind.together
    ∙ first_shown name written json (paths_in (take i notes)) behind.rest full behind.some_left

-- a test of notes in memory is that of the notes
pub noted_same : (path : List ℕ) (notes : List Note)
    → list_any (λ note. is_unknown note.kind && bytes_eq (string_bytes note.path) path) notes ≡ is_refused_at path (map note_of notes)
noted_same path [] = refl
noted_same path (note ∷ notes) =
    ap (λ (b : Bool). (is_unknown note.kind && bytes_eq (string_bytes note.path) path) || b) (noted_same path notes)
