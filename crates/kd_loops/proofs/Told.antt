-- Handled datagrams that are answered, one after another, up to the first whose text cannot be
-- written.
use Rattle.std.proofs.Common.{◌≡◌, ℕ, ◌+◌, ◌<◌, List, [], ◌∷◌, ◌++◌, Option, sym, ap, ◌∙◌, subst, length, take, drop, get_or, refl}
use Rattle.std.proofs.KnownBytes.{Appends-nil, Appends-trans}
use Rattle.std.proofs.lemmas.List.{flat_map_more, map_push, take_more}
use Rattle.std.specs.List.{flat_map}
use Rattle.std.specs.Io.KnownBytes.{Appends}
use Rattle.kd_event.specs.declared.event.Handled.{Handled}
use Rattle.kd_loops.specs.Answering.{AreCut, AreTold, IsCut, IsTold}
use Rattle.kd_loops.specs.Serving.{Answered, packets_of, text_of}
use Rattle.kd_loops.specs.Trace.{Grows}
use Rattle.kd_loops.specs.declared.happening.Happening.{Happening}
use Rattle.kd_loops.proofs.Growing.{grows_none, grows_trans}
use Rattle.kd_loops.proofs.Written.{cut_at}

module _ (list : List Handled) (i : ℕ) (handled : Handled) (less : i < length list) (is : handled ≡ get_or list i handled)
    (trace between gone : Option (List Happening)) (old mid new : Option (List ℕ)) (before : AreTold (take i list) trace between old mid) where
  -- what is handed over of those before, and of one more
  grows_more : (last : Answered) → Grows between gone (packets_of last) → Grows trace gone (flat_map packets_of (before.told ++ last ∷ []))
  grows_more last grows = subst (Grows trace gone) (flat_map_more packets_of [] before.told last)
      (grows_trans trace between gone (flat_map packets_of before.told) (packets_of last) before.grows grows)

  -- one more is answered
  pub told_more : IsTold handled between gone mid new → AreTold (take (i + 1) list) trace gone old new
  told_more then =
      let last : Answered = record { handled = handled; sent = then.sent } in
      record {
        told = before.told ++ last ∷ [];
        are = map_push (λ (a : Answered). a.handled) before.told last ∙ ap (λ l. l ++ handled ∷ []) before.are
            ∙ ap (λ h. take i list ++ h ∷ []) is ∙ sym (take_more list i handled less);
        grows = grows_more last then.grows;
        appended = subst (Appends old new) (flat_map_more text_of [] before.told last)
            (Appends-trans old mid new (flat_map text_of before.told) (text_of last) before.appended then.appended);
      }

  -- a prefix of the text of the next is written
  pub cut_more : IsCut handled between gone mid new → AreCut list trace gone old new
  cut_more then =
      let last : Answered = record { handled = handled; sent = then.sent } in
      record {
        told = before.told;
        last = last;
        untold = drop (i + 1) list;
        are = cut_at list i handled less is ∙ ap (λ l. l ++ handled ∷ drop (i + 1) list) (sym before.are);
        part = then.cut.part;
        more = then.cut.more;
        cut = then.cut.cut;
        grows = grows_more last then.grows;
        appended = Appends-trans old mid new (flat_map text_of before.told) then.cut.part before.appended then.cut.written;
      }
