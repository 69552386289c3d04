-- Lines found in the bytes of an input.
use Rattle.std.proofs.Common.{◌≡◌, ◌≢◌, ℕ, ◌+◌, ◌-◌, ◌<◌, ◌≤◌, Bool, true, false, List, [], ◌∷◌, ◌++◌, Option, Some, None, refl, sym, ap, ◌∙◌, arith, append_assoc, length, take, drop, length-append, length-take, length-drop}
use Rattle.std.specs.Prelude.{◌==◌, if◌then◌else◌, OnErr, Result, Ok, Err}
use Rattle.std.specs.List.{slice_range}
use Rattle.std.specs.Io.KnownBytes.{Consumes, IsAtEnd, Keeps, prepend_known}
use Rattle.std.proofs.lemmas.Bool.{eqb-false, eqb-true}
use Rattle.std.proofs.lemmas.List.{append-nil, drop-drop, drop-take, take-append-drop}
use Rattle.memchr.specs.Find.{IsFirstByte, is_byte}
use Rattle.kd_text.specs.Words.{HasNo}
use Rattle.kd_text.proofs.Cuts.{split_first}
use Rattle.kd_text.proofs.Plain.{plain_all, plain_append, plain_front}
use Rattle.kd_loops.specs.Lines.{line_feeds, line_limit, lines_of, with_front}
use Rattle.kd_loops.specs.Finding.{FailsIn, FindsIn, FindsTooLong, TakesAll, TakesLast, TakesTooLong}
use Rattle.kd_loops.specs.declared.lines.Found.TheVariants as found

pub is_zero : (n : ℕ) → true ≡ (n == 0) → n ≡ 0
is_zero n h = eqb-true n 0 (sym h)

pub is_some : (n : ℕ) → false ≡ (n == 0) → 0 < n
is_some n h = let ne : n ≢ 0 = eqb-false n 0 (sym h) in omega arith

slice_rest : (xs : List ℕ) (from to n : ℕ) → from + n ≤ to → drop n (slice_range xs from to) ≡ slice_range xs (from + n) to
slice_rest xs from to n h =
    let e : to - from ≡ n + (to - (from + n)) = omega arith in
    ap (λ m. drop n (take m (drop from xs))) e ∙ drop-take n (to - (from + n)) (drop from xs) ∙ ap (take (to - (from + n))) (drop-drop n from xs)

slice_length : (xs : List ℕ) (from to : ℕ) → from ≤ to → to ≤ length xs → length (slice_range xs from to) ≡ to - from
slice_length xs from to h k = simp (length-take, length-drop) (omega arith)

module _ (xs : List ℕ) (from to : ℕ) (h : from ≤ to) (k : to ≤ length xs) where
  pub takes_last : (line new : List ℕ) (at : ℕ) → IsFirstByte (is_byte 10) (slice_range xs from to) (Some at) → new ≡ line ++ take at (slice_range xs from to)
      → TakesLast (slice_range xs from to) line (slice_range xs (from + (at + 1)) to) new
  takes_last line new at is put =
      let chunk = slice_range xs from to in
      let size = slice_length xs from to h k in
      record {
        rest = take at chunk;
        whole = split_first 10 chunk at is.0.high is.1 ∙ ap (λ r. take at chunk ++ 10 ∷ r) (slice_rest xs from to (at + 1) (omega (arith, is.0.high, size)));
        plain = plain_front 10 chunk at (omega (arith, is.0.high)) is.0.before;
        put = put;
      }

  pub takes_all : (line new : List ℕ) → 0 < length (slice_range xs from to) → IsFirstByte (is_byte 10) (slice_range xs from to) None → new ≡ line ++ slice_range xs from to
      → TakesAll (slice_range xs from to) line (slice_range xs to to) new
  takes_all line new some is put = record {
    some = some;
    plain = plain_all 10 (slice_range xs from to) is;
    none = (let e : to - to ≡ 0 = omega arith in ap (λ m. take m (drop to xs)) e);
    put = put;
  }

pub long_at : (chunk line : List ℕ) (at : ℕ) → IsFirstByte (is_byte 10) chunk (Some at) → line_limit - length line < at → TakesTooLong chunk line chunk
long_at chunk line at is long = record {
  same = refl;
  front = take at chunk;
  more = drop at chunk;
  whole = sym (take-append-drop at chunk);
  plain = plain_front 10 chunk at (omega (arith, is.0.high)) is.0.before;
  long = omega (arith, length-take at chunk, is.0.high);
}

pub long_all : (chunk line : List ℕ) → IsFirstByte (is_byte 10) chunk None → line_limit - length line < length chunk → TakesTooLong chunk line chunk
long_all chunk line is long = record {
  same = refl;
  front = chunk;
  more = [];
  whole = sym (append-nil chunk);
  plain = plain_all 10 chunk is;
  long = omega arith;
}

-- a line has begun: these bytes of it are in the line, and the unread bytes follow them
pub record Begun (all ahead : List ℕ) (left : Option (List ℕ)) (line : List ℕ) : Type 0 where
  pub rest : List ℕ
  pub known : left ≡ Some rest
  pub whole : all ≡ line ++ (ahead ++ rest)
  pub plain : HasNo 10 line

pub begun_read : {all ahead : List ℕ} {left : Option (List ℕ)} {line : List ℕ} (ahead' : List ℕ) (left' : Option (List ℕ)) → Begun all ahead left line → Consumes (prepend_known ahead left) (prepend_known ahead' left') [] → Begun all ahead' left' line
begun_read {all} {ahead} {left} {line} ahead' left' p read =
    let e : prepend_known ahead left ≡ Some (ahead ++ p.rest) = ap (prepend_known ahead) p.known in
    let read' : Consumes (Some (ahead ++ p.rest)) (prepend_known ahead' left') [] = rw e at read in
    by left' read'
  where
    by : (left' : Option (List ℕ)) → Consumes (Some (ahead ++ p.rest)) (prepend_known ahead' left') [] → Begun all ahead' left' line
    by None h = absurd h
    by (Some rest') h = record { rest = rest'; known = refl; whole = p.whole ∙ ap (λ r. line ++ r) h; plain = p.plain }

pub begun_all : {all ahead : List ℕ} {left : Option (List ℕ)} {line : List ℕ} {ahead' new : List ℕ} → Begun all ahead left line → TakesAll ahead line ahead' new → Begun all ahead' left new
begun_all {all} {ahead} {left} {line} {ahead'} {new} p t = record {
  rest = p.rest;
  known = p.known;
  whole = rw (t.none, t.put) (p.whole ∙ sym (append_assoc line ahead p.rest));
  plain = rw t.put (plain_append 10 line ahead p.plain t.plain);
}

-- what always holds also holds if there is a fault
pub on_err : {T E P : Type 0} (r : Result T E) → P → OnErr r P
on_err (Ok value) p = tt
on_err (Err fault) p = p

-- the source has failed while a line had begun, and nothing was ahead
pub fails_in : {all ahead : List ℕ} {left : Option (List ℕ)} {line : List ℕ} (left' : Option (List ℕ)) → Begun all ahead left line → ahead ≡ [] → Keeps left left' → FailsIn all left'
fails_in {all} {ahead} {left} {line} left' p none kept =
    let kept' : Keeps (Some p.rest) left' = rw p.known at kept in
    by left' kept'
  where
    by : (left' : Option (List ℕ)) → Keeps (Some p.rest) left' → FailsIn all left'
    by None h = absurd h
    by (Some rest) h = record {
      part = line;
      rest = rest;
      known = refl;
      whole = p.whole ∙ ap (λ a. line ++ (a ++ p.rest)) none ∙ ap (λ r. line ++ r) (sym h);
      plain = p.plain;
    }

pub feeds_append : (xs ys : List ℕ) → line_feeds (xs ++ ys) ≡ line_feeds xs + line_feeds ys
feeds_append [] ys = omega arith
feeds_append (b ∷ xs) ys = by (b == 10) (feeds_append xs ys)
  where
    by : (t : Bool) → line_feeds (xs ++ ys) ≡ line_feeds xs + line_feeds ys
        → (if t then line_feeds (xs ++ ys) + 1 else line_feeds (xs ++ ys)) ≡ (if t then line_feeds xs + 1 else line_feeds xs) + line_feeds ys
    by true e = omega (arith, e)
    by false e = e

pub feeds_plain : (text : List ℕ) → HasNo 10 text → line_feeds text ≡ 0
feeds_plain [] plain = refl
feeds_plain (b ∷ text) plain = rw plain.0 (feeds_plain text plain.1)

feeds_line : (text : List ℕ) → HasNo 10 text → line_feeds (text ++ 10 ∷ []) ≤ 1
feeds_line text plain =
    let one : line_feeds (10 ∷ []) ≡ 1 = refl in
    omega (arith, feeds_append text (10 ∷ []), feeds_plain text plain, one)

pub lines_line : (text rest : List ℕ) → HasNo 10 text → lines_of (text ++ 10 ∷ rest) ≡ text ∷ lines_of rest
lines_line [] rest plain = refl
lines_line (b ∷ text) rest plain = rw (plain.0, lines_line text rest plain.1) refl

lines_last : (b : ℕ) (text : List ℕ) → HasNo 10 (b ∷ text) → lines_of (b ∷ text) ≡ (b ∷ text) ∷ []
lines_last b [] plain = rw plain.0 refl
lines_last b (c ∷ text) plain = let e = lines_last c text plain.1 in rw (plain.0, e) refl

front_front : (b c : ℕ) (text : List ℕ) (lines : List (List ℕ)) → with_front (b ∷ []) (with_front (c ∷ text) lines) ≡ with_front (b ∷ c ∷ text) lines
front_front b c text [] = refl
front_front b c text (line ∷ lines) = refl

lines_front : (b : ℕ) (text rest : List ℕ) → HasNo 10 (b ∷ text) → lines_of (b ∷ text ++ rest) ≡ with_front (b ∷ text) (lines_of rest)
lines_front b [] rest plain = rw plain.0 refl
lines_front b (c ∷ text) rest plain = let e = lines_front c text rest plain.1 in rw (plain.0, e) (front_front b c text (lines_of rest))

front_long : (text : List ℕ) (lines all : List (List ℕ)) → all ≡ with_front text lines → line_limit < length text → FindsTooLong all
front_long text [] all e long = record { first = text; later = []; all = e; long = long }
front_long text (line ∷ lines) all e long = record { first = text ++ line; later = lines; all = e; long = omega (arith, length-append text line) }

long_text : (text rest : List ℕ) → HasNo 10 text → line_limit < length text → FindsTooLong (lines_of (text ++ rest))
long_text [] rest plain long = absurd (omega arith)
long_text (b ∷ text) rest plain long = front_long (b ∷ text) (lines_of rest) _ (lines_front b text rest plain) long

pub finds_line : {all ahead : List ℕ} {left : Option (List ℕ)} {line : List ℕ} {ahead' new : List ℕ} → Begun all ahead left line → TakesLast ahead line ahead' new → length new ≤ line_limit
    → FindsIn found.Line all (prepend_known ahead' left) new
finds_line {all} {ahead} {left} {line} {ahead'} {new} p t short =
    let whole : all ≡ new ++ 10 ∷ (ahead' ++ p.rest) =
    p.whole ∙ ap (λ a. line ++ (a ++ p.rest)) t.whole ∙ ap (λ r. line ++ r) (append_assoc t.rest (10 ∷ ahead') p.rest)
    ∙ sym (append_assoc line t.rest (10 ∷ (ahead' ++ p.rest))) ∙ ap (λ r. r ++ 10 ∷ (ahead' ++ p.rest)) (sym t.put) in
    let plain : HasNo 10 new = rw t.put (plain_append 10 line t.rest p.plain t.plain) in
    record {
      taken = new ++ 10 ∷ [];
      rest = ahead' ++ p.rest;
      known = ap (prepend_known ahead') p.known;
      whole = whole ∙ sym (append_assoc new (10 ∷ []) (ahead' ++ p.rest));
      one = feeds_line new plain;
      finds = (ap lines_of whole ∙ lines_line new (ahead' ++ p.rest) plain, short);
    }

pub finds_too_long : {all ahead : List ℕ} {left : Option (List ℕ)} {line : List ℕ} {ahead' : List ℕ} (new : List ℕ) → Begun all ahead left line → TakesTooLong ahead line ahead'
    → FindsIn found.TooLong all (prepend_known ahead' left) new
finds_too_long {all} {ahead} {left} {line} {ahead'} new p t =
    let whole : all ≡ (line ++ t.front) ++ (t.more ++ p.rest) =
    p.whole ∙ ap (λ a. line ++ (a ++ p.rest)) t.whole ∙ ap (λ r. line ++ r) (append_assoc t.front t.more p.rest) ∙ sym (append_assoc line t.front (t.more ++ p.rest)) in
    let long = long_text (line ++ t.front) (t.more ++ p.rest) (plain_append 10 line t.front p.plain t.plain) (omega (arith, length-append line t.front, t.long)) in
    record {
      taken = line;
      rest = ahead' ++ p.rest;
      known = ap (prepend_known ahead') p.known;
      whole = p.whole ∙ ap (λ a. line ++ (a ++ p.rest)) (sym t.same);
      one = omega (arith, feeds_plain line p.plain);
      finds = (let P : List ℕ → Type 0 = λ a. FindsTooLong (lines_of a) in rw whole long);
    }

at_end : (rest : List ℕ) (left : Option (List ℕ)) → left ≡ Some rest → IsAtEnd left → rest ≡ []
at_end rest left e end = rw e at end

-- at the end of the input, what has begun is the last line
pub record Ended (all : List ℕ) (left : Option (List ℕ)) (line : List ℕ) : Type 0 where
  pub known : left ≡ Some []
  pub whole : all ≡ line
  pub plain : HasNo 10 line

pub ended : {all ahead : List ℕ} {left : Option (List ℕ)} {line : List ℕ} (ahead' new : List ℕ) → Begun all ahead left line → ahead ≡ [] → ahead' ≡ [] → new ≡ line → IsAtEnd left → Ended all (prepend_known ahead' left) new
ended {all} {ahead} {left} {line} ahead' new p none none' same end =
    let last = at_end p.rest left p.known end in
    record {
      known = rw (none', p.known, last) refl;
      whole = p.whole ∙ ap (λ a. line ++ (a ++ p.rest)) none ∙ ap (λ r. line ++ r) last ∙ append-nil line ∙ sym same;
      plain = rw same p.plain;
    }

pub finds_end : {all : List ℕ} {left : Option (List ℕ)} {line : List ℕ} → Ended all left line → length line ≡ 0 → FindsIn found.End all left line
finds_end {all} {left} {line} p none = record {
  taken = [];
  rest = [];
  known = p.known;
  whole = p.whole ∙ empty line none;
  one = omega arith;
  finds = ap lines_of (p.whole ∙ empty line none);
}
  where
    empty : (text : List ℕ) → length text ≡ 0 → text ≡ []
    empty [] e = refl
    empty (b ∷ text) e = absurd (omega (arith, e))

pub finds_last : {all : List ℕ} {left : Option (List ℕ)} {line : List ℕ} → Ended all left line → 0 < length line → length line ≤ line_limit → FindsIn found.Line all left line
finds_last {all} {left} {line} p some short = record {
  taken = line;
  rest = [];
  known = p.known;
  whole = p.whole ∙ sym (append-nil line);
  one = omega (arith, feeds_plain line p.plain);
  finds = (ap lines_of p.whole ∙ last line p.plain some, short);
}
  where
    last : (text : List ℕ) → HasNo 10 text → 0 < length text → lines_of text ≡ text ∷ []
    last [] plain some = absurd (omega arith)
    last (b ∷ text) plain some = lines_last b text plain
