-- A filter that goes on: the lines so far are filtered, and the rest of the input is not read.
use Rattle.std.proofs.Common.{◌≡◌, ℕ, ◌+◌, ◌^◌, ◌<◌, ◌⊎◌, inl, inr, List, [], ◌∷◌, ◌++◌, Some, None, refl, sym, ap, ◌∙◌, arith, append_assoc, length, length-append}
use Rattle.std.specs.Prelude.{Option, Ok, Err}
use Rattle.std.specs.Io.KnownBytes.{Appends}
use Rattle.std.proofs.lemmas.List.{append-nil, flat_map_more}
use Rattle.std.proofs.lemmas.List.Elements.{AllZip-push}
use Rattle.kd_loops.specs.Filtering.{AreFiltered, EndsFiltering, GivesNoText, GivesText, LeavesFiltered}
use Rattle.kd_loops.specs.Finding.{FindsIn}
use Rattle.kd_loops.specs.Lines.{lines_of}
use Rattle.kd_loops.specs.Parts.{WritesPart}
use Rattle.kd_loops.specs.declared.fault.ReplayFault.{ReplayFault}
use Rattle.kd_loops.specs.declared.fault.ReplayFault.TheVariants as faults
use Rattle.kd_loops.specs.declared.lines.Found.TheVariants as found

appended : (old new : Option (List ℕ)) (text out : List ℕ) → Appends old new text → old ≡ Some out → new ≡ Some (out ++ text)
appended None new text out p e = absurd (cc)
appended (Some xs) None text out p e = absurd p
appended (Some xs) (Some ys) text out p e = let same : xs ≡ out = cc in ap (λ l. Some l) (p ∙ ap (λ x. x ++ text) same)

module _ (gives : List ℕ → List ℕ → Type 0) where
  filtered_none : (old : List ℕ) → AreFiltered gives [] old old
  filtered_none old = record { texts = []; each = tt; written = sym (append-nil old) }

  filtered_more : (lines : List (List ℕ)) (old out line text : List ℕ) → AreFiltered gives lines old out → GivesText gives line text → AreFiltered gives (lines ++ line ∷ []) old (out ++ text)
  filtered_more lines old out line text are is = record {
    texts = are.texts ++ text ∷ [];
    each = AllZip-push (GivesText gives) lines are.texts line text are.each is;
    written = ap (λ o. o ++ text) are.written ∙ flat_map_more (λ t. t) old are.texts text;
  }

  -- this many lines of the input are filtered, the remaining input holds the others, and the sink
  -- holds their texts
  pub record Goes (input old : List ℕ) (number : ℕ) (left contents : Option (List ℕ)) : Type 0 where
    pub before : List (List ℕ)
    pub rest : List ℕ
    pub out : List ℕ
    pub known : left ≡ Some rest
    pub lines : lines_of input ≡ before ++ lines_of rest
    pub count : length before ≡ number
    pub told : contents ≡ Some out
    pub filtered : AreFiltered gives before old out

  pub goes_none : (input old : List ℕ) (left contents : Option (List ℕ)) → left ≡ Some input → contents ≡ Some old → Goes input old 0 left contents
  goes_none input old left contents known told =
      record { before = []; rest = input; out = old; known = known; lines = refl; count = refl; told = told; filtered = filtered_none old }

  pub goes_line : (input old : List ℕ) (number : ℕ) (left contents : Option (List ℕ)) (g : Goes input old number left contents) (left' : Option (List ℕ)) (line text : List ℕ) (contents' : Option (List ℕ))
      → FindsIn found.Line g.rest left' line → gives line text → Appends contents contents' text → Goes input old (number + 1) left' contents'
  goes_line input old number left contents g left' line text contents' f given a = record {
    before = g.before ++ line ∷ [];
    rest = f.rest;
    out = g.out ++ text;
    known = f.known;
    lines = g.lines ∙ ap (λ r. g.before ++ r) f.finds.0 ∙ sym (append_assoc g.before (line ∷ []) (lines_of f.rest));
    count = omega (arith, length-append g.before (line ∷ []), g.count);
    told = appended contents contents' text g.out a g.told;
    filtered = filtered_more g.before old g.out line text g.filtered (record { short = f.finds.1; given = given });
  }

  module _ (source_failed : Type 0) (input old : List ℕ) (number : ℕ) (left contents : Option (List ℕ)) (g : Goes input old number left contents) where
    pub filtered_end : (left' : Option (List ℕ)) (line : List ℕ) → FindsIn found.End g.rest left' line → LeavesFiltered gives source_failed (Ok number) input old contents
    filtered_end left' line f =
        let e : lines_of input ≡ g.before = g.lines ∙ ap (λ r. g.before ++ r) f.finds ∙ append-nil g.before in
        record { out = g.out; told = g.told; filters = (rw e (sym g.count), rw e g.filtered) }

    stopped : (fault : ReplayFault) (out : List ℕ) (contents' : Option (List ℕ)) → contents' ≡ Some out → EndsFiltering gives source_failed fault (number + 1) (lines_of g.rest) g.out out
        → LeavesFiltered gives source_failed (Err fault) input old contents'
    stopped fault out contents' told ends = record {
      out = out;
      told = told;
      filters = record { before = g.before; after = lines_of g.rest; between = g.out; all = g.lines; filtered = g.filtered; ends = rw g.count ends };
    }

    pub filtered_read : source_failed → LeavesFiltered gives source_failed (Err faults.Read) input old contents
    filtered_read failed = stopped faults.Read g.out contents g.told (failed, refl)

    pub filtered_memory : (number + 1 ≡ 1) ⊎ ((0 < length (lines_of g.rest)) ⊎ (number + 1 ≡ 2 ^ 64)) → LeavesFiltered gives source_failed (Err faults.Memory) input old contents
    filtered_memory where_is = stopped faults.Memory g.out contents g.told (where_is, refl)

    pub filtered_memory_at : (left' : Option (List ℕ)) (line : List ℕ) → FindsIn found.Line g.rest left' line → LeavesFiltered gives source_failed (Err faults.Memory) input old contents
    filtered_memory_at left' line f = filtered_memory (inr (inl (rw f.finds.0 (omega arith))))

    pub filtered_too_long : (left' : Option (List ℕ)) (line : List ℕ) → FindsIn found.TooLong g.rest left' line → LeavesFiltered gives source_failed (Err (faults.BadLine (number + 1))) input old contents
    filtered_too_long left' line f =
        let none : GivesNoText gives f.finds.first = λ text p. omega (arith, p.short, f.finds.long) in
        stopped (faults.BadLine (number + 1)) g.out contents g.told (rw f.finds.all (refl, none, refl))

    pub filtered_bad : (left' : Option (List ℕ)) (line : List ℕ) → FindsIn found.Line g.rest left' line → ((text : List ℕ) → gives line text → ⊥) → LeavesFiltered gives source_failed (Err (faults.BadLine (number + 1))) input old contents
    filtered_bad left' line f none = stopped (faults.BadLine (number + 1)) g.out contents g.told (rw f.finds.0 (refl, (λ text p. none text p.given), refl))

    pub filtered_cut : (left' : Option (List ℕ)) (line text : List ℕ) (contents' : Option (List ℕ)) → FindsIn found.Line g.rest left' line → gives line text → WritesPart contents contents' text
        → LeavesFiltered gives source_failed (Err faults.Write) input old contents'
    filtered_cut left' line text contents' f given w =
        let all : gives line (w.part ++ w.more) = rw (← w.cut) given in
        stopped faults.Write (g.out ++ w.part) contents' (appended contents contents' w.part g.out w.written g.told)
        (rw f.finds.0 (record { part = w.part; more = w.more; given = record { short = f.finds.1; given = all }; written = refl }))
