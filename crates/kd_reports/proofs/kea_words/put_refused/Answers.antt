use Rattle.std.proofs.Common.{◌≡◌, ◌≤◌, ◌++◌, ◌∙◌, OnOk, List, ap, append_assoc, arith, get_or, length, string_bytes, subst, sym, take, true, ℕ}
use Rattle.std.proofs.lemmas.List.{take_all}
use Rattle.kd_notes.specs.declared.notes.Note.{Note}
use Rattle.kd_reports.specs.KeaWords.{is_unknown, more_text, refused_lines}
use Rattle.kd_reports.proofs.Keys.{all_shown, cut_shown, paths_in, places}
use Rattle.kd_reports.proofs.kea_words.put_refused.Goals as goal

pub returns-then-count-eq-MOST_PLACES : goal.returns-then-count-eq-MOST_PLACES
returns-then-count-eq-MOST_PLACES c =
    let name = c.args.texts.now.name.now in
    let written = c.args.texts.now.written.now in
    let json = c.args.texts.now.plain.now in
    let notes = c.args.notes.now in
    let old = string_bytes c.args.words.now in
    let i = c.loop-note.note-index in
    let note = c.note-item.result in
    let is : is_unknown (get_or notes i note).kind ≡ true =
    ap (λ (it : Note). is_unknown it.kind) (sym c.note-item.is) ∙ sym c.is_refused.ensures ∙ c.if-is_refused.true in
    let full : length (paths_in (take i notes)) ≡ 64 = sym c.loop-note.invariant.counted ∙ c.if-count-eq-MOST_PLACES.true in
    let lines : string_bytes c.loop-note.words ++ more_text name ≡ old ++ refused_lines name written json (paths_in notes) =
    ap (λ (text : List ℕ). text ++ more_text name) c.loop-note.invariant.shown
    ∙ append_assoc old (places name written json (paths_in (take i notes))) (more_text name)
    ∙ ap (λ (text : List ℕ). old ++ text) (sym (cut_shown name written json notes i note c.loop-note-test.true is full)) in
    subst (λ text. OnOk c.put_more.result (string_bytes c.put_more.new.words ≡ text)) lines c.put_more.ensures

pub returns : goal.returns
returns c =
    let name = c.args.texts.now.name.now in
    let written = c.args.texts.now.written.now in
    let json = c.args.texts.now.plain.now in
    let notes = c.args.notes.now in
    let old = string_bytes c.args.words.now in
    let i = c.loop-note.note-index in
    let few : length (paths_in (take i notes)) ≤ 64 = omega (arith, c.loop-note.invariant.counted, c.loop-note.invariant.few) in
    let all : take i notes ≡ notes = take_all i notes c.loop-note-test.false in
    c.loop-note.invariant.shown
    ∙ ap (λ (text : List ℕ). old ++ text) (sym (all_shown name written json (paths_in (take i notes)) few))
    ∙ ap (λ (some : List Note). old ++ refused_lines name written json (paths_in some)) all
