use Rattle.std.proofs.Common.{◌≡◌, ◌≤◌, ◌++◌, ◌∙◌, ◌+◌, ℕ, true, List, [], ◌∷◌, ap, arith, get_or, length, length-append, string_bytes, subst, sym, take}
use Rattle.std.proofs.lemmas.List.{take_all}
use Rattle.kd_notes.specs.Notes.{note_of}
use Rattle.kd_notes.specs.declared.notes.Note.{Note}
use Rattle.kd_reports.specs.KeaWords.{AreSaidOfValues, AreValueWords, IsSaidOfValue, is_wrong_beside, more_values}
use Rattle.kd_reports.proofs.Keys.{paths_by, some_behind, some_grow, some_stay}
use Rattle.kd_reports.proofs.Values.{all_said, first_said, one_more}
use Rattle.kd_reports.proofs.kea_words.value_words.Goals as goal
use Rattle.kd_reports.proofs.kea_words.value_words.Goals.{then-is_wrong_besides+else-count-eq-MOST_PLACES+in_ok-about_value+in_ok-push_str, else-is_wrong_besides}

pub returns-then-count-eq-MOST_PLACES : goal.returns-then-count-eq-MOST_PLACES
returns-then-count-eq-MOST_PLACES c =
    let name = c.args.texts.now.name.now in
    let written = c.args.texts.now.written.now in
    let json = c.args.texts.now.plain.now in
    let notes = c.args.notes.now in
    let is = is_wrong_beside c.args.fault.now in
    let i = c.loop-note.note-index in
    let note = c.note-item.result in
    let passes : is (note_of (get_or notes i note)) ≡ true =
    ap (λ (it : Note). is (note_of it)) (sym c.note-item.is) ∙ sym c.is_wrong_besides.ensures ∙ c.if-is_wrong_besides.true in
    let behind = some_behind is notes i note c.loop-note-test.true passes in
    let full : length (paths_by is (take i notes)) ≡ 64 = sym c.loop-note.invariant.counted ∙ c.if-count-eq-MOST_PLACES.true in
    let said = first_said name written json (paths_by is (take i notes)) behind.rest (string_bytes c.loop-note.words) full behind.some_left c.loop-note.invariant.said in
    let here : AreValueWords name written json (paths_by is notes) (string_bytes c.loop-note.words ++ more_values name) =
    subst (λ (paths : List (List ℕ)). AreValueWords name written json paths (string_bytes c.loop-note.words ++ more_values name)) (sym behind.together) said in
    subst (λ (words : List ℕ). AreValueWords name written json (paths_by is notes) words) (sym c.in_ok-put_more_values.ensures) here

pub loop-note-preserved : goal.loop-note-preserved
loop-note-preserved c =
    let name = c.args.texts.now.name.now in
    let written = c.args.texts.now.written.now in
    let json = c.args.texts.now.plain.now in
    let notes = c.args.notes.now in
    let is = is_wrong_beside c.args.fault.now in
    let i = c.loop-note.note-index in
    let note = c.note-item.result in
    let same : is (note_of (get_or notes i note)) ≡ c.is_wrong_besides.result =
    ap (λ (it : Note). is (note_of it)) (sym c.note-item.is) ∙ sym c.is_wrong_besides.ensures in
    elim c.if-is_wrong_besides.branch [
      | then-is_wrong_besides+else-count-eq-MOST_PLACES+in_ok-about_value+in_ok-push_str w ↦
          let path : List ℕ = string_bytes (get_or notes i note).path in
          let line : List ℕ = string_bytes w.in_ok-about_value.about_value in
          let place : w.as_str.result.now ≡ path = w.as_str.ensures.value ∙ ap (λ (it : Note). string_bytes it.path) c.note-item.is in
          let value : IsSaidOfValue name written json path line =
          subst (λ (at : List ℕ). IsSaidOfValue name written json at line) place w.in_ok-about_value.ensures in
          let grows = some_grow is notes i note c.loop-note-test.true (same ∙ w.if-is_wrong_besides.true) in
          let longer : length (paths_by is (take (i + 1) notes)) ≡ length (paths_by is (take i notes)) + 1 =
          ap (λ (paths : List (List ℕ)). length paths) grows ∙ length-append (paths_by is (take i notes)) (path ∷ []) in
          let words : string_bytes c.if-is_wrong_besides.words ≡ string_bytes c.loop-note.words ++ line =
          ap (λ it. string_bytes it) w.words-is ∙ w.in_ok-push_str.ensures.bytes
          ∙ ap (λ (end : List ℕ). string_bytes c.loop-note.words ++ end) w.as_str-then-is_wrong_besides.ensures.value in
          record {
            said = subst (λ (all : List ℕ). AreSaidOfValues name written json (paths_by is (take (i + 1) notes)) all) (sym words)
                (subst (λ (paths : List (List ℕ)). AreSaidOfValues name written json paths (string_bytes c.loop-note.words ++ line)) (sym grows)
                (one_more name written json (paths_by is (take i notes)) path (string_bytes c.loop-note.words) line c.loop-note.invariant.said value));
            counted = omega (arith, w.count-is, longer, c.loop-note.invariant.counted);
            few = omega (arith, w.count-is, w.if-count-eq-MOST_PLACES.false, c.loop-note.invariant.few);
          }
      | else-is_wrong_besides w ↦
          let stays = some_stay is notes i note c.loop-note-test.true (same ∙ w.if-is_wrong_besides.false) in
          record {
            said = subst (λ (paths : List (List ℕ)). AreSaidOfValues name written json paths (string_bytes c.if-is_wrong_besides.words)) (sym stays)
                (subst (λ it. AreSaidOfValues name written json (paths_by is (take i notes)) (string_bytes it)) (sym w.words-is) c.loop-note.invariant.said);
            counted = w.count-is ∙ c.loop-note.invariant.counted ∙ ap (λ (paths : List (List ℕ)). length paths) (sym stays);
            few = subst (λ (n : ℕ). n ≤ 64) (sym w.count-is) c.loop-note.invariant.few;
          }
    ]

pub returns : goal.returns
returns c =
    let name = c.args.texts.now.name.now in
    let written = c.args.texts.now.written.now in
    let json = c.args.texts.now.plain.now in
    let notes = c.args.notes.now in
    let is = is_wrong_beside c.args.fault.now in
    let i = c.loop-note.note-index in
    let few : length (paths_by is (take i notes)) ≤ 64 = omega (arith, c.loop-note.invariant.counted, c.loop-note.invariant.few) in
    let all : take i notes ≡ notes = take_all i notes c.loop-note-test.false in
    subst (λ (some : List Note). AreValueWords name written json (paths_by is some) (string_bytes c.loop-note.words)) all
    (all_said name written json (paths_by is (take i notes)) (string_bytes c.loop-note.words) few c.loop-note.invariant.said)
