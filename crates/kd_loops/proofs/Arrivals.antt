-- Datagrams that arrive, one and then more.
use Rattle.std.proofs.Common.{◌≡◌, ◌⊎◌, inl, inr, ℕ, ◌^◌, ◌<◌, ◌≤◌, Bool, true, false, List, [], ◌∷◌, ◌++◌, Option, refl, sym, ap, ◌∙◌, subst, arith, length, map, min, take, get_or}
use Rattle.std.specs.List.{All}
use Rattle.std.proofs.lemmas.Bool.{cases_lt}
use Rattle.std.proofs.lemmas.List.{get_or-take, get_or_past, length-map, length-take, map_push, take_all, take_at, take_min}
use Rattle.std.proofs.lemmas.List.Elements.{All-cons, All-nil, All-push}
use Rattle.hex.specs.Hex.{IsBytes}
use Rattle.kd_event.specs.declared.event.Event.{Event}
use Rattle.kd_loops.specs.Answering.{ArrivesAt, Gathers}
use Rattle.kd_loops.specs.Arriving.{Arrival, IsRecordable, coming, datagram_room, event_of}
use Rattle.kd_loops.specs.Trace.{Comes, Grows}
use Rattle.kd_loops.specs.declared.happening.Happening.{Happening}
use Rattle.kd_loops.specs.declared.happening.Happening.TheVariants as happens
use Rattle.kd_loops.proofs.Growing.{grows_trans}

-- a prefix of bytes is bytes
pub bytes_take : (buf : List ℕ) (n : ℕ) → IsBytes buf → IsBytes (take n buf)
bytes_take buf n fits = λ i. by i (cases_lt i n)
  where
    by : (i : ℕ) → (i < n) ⊎ (n ≤ i) → get_or (take n buf) i 0 < 256
    by i (inl less) = subst (λ (b : ℕ). b < 256) (sym (get_or-take n buf i 0 less)) (fits i)
    by i (inr past) = subst (λ (b : ℕ). b < 256) (sym (get_or_past (take n buf) i 0 (omega (arith, length-take n buf)))) (omega arith)

-- a datagram comes to a buffer of its room, and then the clock is read
pub arrives : (waited : Bool) (old mid out : Option (List Happening)) (buf bytes : List ℕ) (n moment : ℕ)
    → length buf ≡ datagram_room → bytes ≡ take n buf → IsBytes bytes → moment < 2 ^ 64
    → Comes waited old mid (length buf) (take n buf) → Grows mid out (happens.Said moment ∷ [])
    → ArrivesAt waited old out (record { moment = moment; bytes = bytes })
arrives waited old mid out buf bytes n moment full is fits low comes said = record {
  datagram = comes.datagram;
  grows = grows_trans old mid out (happens.Came waited comes.datagram ∷ []) (happens.Said moment ∷ []) comes.grows said;
  cut = is ∙ comes.cut ∙ ap (λ room. take room comes.datagram) full;
  recordable = record {
    moment = low;
    bytes = fits;
    room = rw is (omega (arith, length-take n buf, full));
  };
}

-- a datagram that is held, cut off at a room, in a buffer that is filled up
pub held_bytes : (bytes start items filled : List ℕ) (len room : ℕ) → len ≡ min room (length bytes) → start ≡ take len bytes → items ≡ take room start ++ filled → take len items ≡ take room bytes
held_bytes bytes start items filled len room cut front all =
    let short : length start ≡ len = rw front (omega (arith, length-take len bytes, cut)) in
    let whole : take room start ≡ start = take_all room start (omega arith) in
    ap (λ xs. take len xs) (all ∙ ap (λ xs. xs ++ filled) whole) ∙ take_at start filled len short ∙ front ∙ ap (λ n. take n bytes) cut ∙ take_min room bytes

coming_false : (xs ys : List Arrival) → coming false (xs ++ ys) ≡ coming false xs ++ coming false ys
coming_false [] ys = refl
coming_false (x ∷ xs) ys = ap (λ t. happens.Came false x.datagram ∷ happens.Said x.moment ∷ t) (coming_false xs ys)

coming_then : (xs ys : List Arrival) → 0 < length xs → coming true (xs ++ ys) ≡ coming true xs ++ coming false ys
coming_then [] ys some = absurd (omega arith)
coming_then (x ∷ xs) ys some = ap (λ t. happens.Came true x.datagram ∷ happens.Said x.moment ∷ t) (coming_false xs ys)

module _ (old mid out : Option (List Happening)) (event : Event) where
  -- the first datagram arrives
  pub gathers_first : ArrivesAt true old out event → Gathers old out (event ∷ [])
  gathers_first a =
      let arrival : Arrival = record { datagram = a.datagram; moment = event.moment } in
      let are : event_of arrival ∷ [] ≡ event ∷ [] = ap (λ bytes. let e : Event = record { moment = event.moment; bytes = bytes } in e ∷ []) (sym a.cut) in
      record {
        arrivals = arrival ∷ [];
        are = are;
        recordable = subst (λ (es : List Event). All IsRecordable es) (sym are) (All-cons IsRecordable event [] a.recordable (All-nil IsRecordable));
        grows = a.grows;
      }

  -- and then more
  pub gathers_more : (events : List Event) → 0 < length events → Gathers old mid events → ArrivesAt false mid out event → Gathers old out (events ++ event ∷ [])
  gathers_more events some g a =
      let arrival : Arrival = record { datagram = a.datagram; moment = event.moment } in
      let is : event_of arrival ≡ event = ap (λ bytes. let e : Event = record { moment = event.moment; bytes = bytes } in e) (sym a.cut) in
      let are : map event_of (g.arrivals ++ arrival ∷ []) ≡ events ++ event ∷ [] =
      map_push event_of g.arrivals arrival ∙ ap (λ es. es ++ event_of arrival ∷ []) g.are ∙ ap (λ e. events ++ e ∷ []) is in
      let count : length g.arrivals ≡ length events = sym (length-map g.arrivals event_of) ∙ ap length g.are in
      let fits : All IsRecordable events = subst (λ (es : List Event). All IsRecordable es) g.are g.recordable in
      record {
        arrivals = g.arrivals ++ arrival ∷ [];
        are = are;
        recordable = subst (λ (es : List Event). All IsRecordable es) (sym are) (All-push IsRecordable events event fits a.recordable);
        grows = subst (Grows old out) (sym (coming_then g.arrivals (arrival ∷ []) (omega (arith, count))))
            (grows_trans old mid out (coming true g.arrivals) (coming false (arrival ∷ [])) g.grows a.grows);
      }
