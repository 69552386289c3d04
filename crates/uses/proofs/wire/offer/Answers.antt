use Rattle.std.proofs.Common.{◌≡◌, ◌∙◌, [], ◌∷◌, ◌++◌, ◌+◌, Ok, ap, append_assoc, drop, refl, subst}
use Rattle.kd_wire.proofs.Written.{Written, written_more}
use Rattle.kd_wire.specs.Header.{header_bytes}
use Rattle.kd_wire.specs.Put.{with_bytes_at}
use Rattle.kd_wire.specs.declared.header.Header.{Header as HeaderFields}
use Rattle.uses.proofs.wire.offer.Goals as goal

pub returns : goal.returns
returns c h e =
    let read = c.in_ok-header.header in
    let same : read ≡ h = cc (c.in_ok-header.ensures.read, e) in
    let head = header_bytes (record read { op = 2 }) in
    let old = c.args.out.now in
    let one : Written old head 240 c.write_header.new.out = record {
      is = c.write_header.ensures.written;
      place = c.write_header.ensures.len;
    } in
    let two = written_more old head 240 c.write_header.new.out (53 ∷ 1 ∷ 2 ∷ []) c.put_piece-end.new.out 3 one c.put_piece-end.ensures.written refl in
    let ends : c.put_end.new.out ≡ with_bytes_at 243 (255 ∷ []) c.put_piece-end.new.out =
    rw c.put_piece-end.ensures.next at c.put_end.ensures.written in
    let three = written_more old (head ++ 53 ∷ 1 ∷ 2 ∷ []) 243 c.put_piece-end.new.out (255 ∷ []) c.put_end.new.out 1 two ends refl in
    let whole : c.put_end.new.out ≡ head ++ 53 ∷ 1 ∷ 2 ∷ [] ++ 255 ∷ drop 244 old = rw (append_assoc (head ++ 53 ∷ 1 ∷ 2 ∷ []) (255 ∷ []) (drop 244 old)) at three.is in (
      ap Ok (c.put_end.ensures.next ∙ ap (λ n. n + 1) c.put_piece-end.ensures.next),
      subst (λ (x : HeaderFields). c.put_end.new.out ≡ header_bytes (record x { op = 2 }) ++ 53 ∷ 1 ∷ 2 ∷ [] ++ 255 ∷ drop 244 old) same whole,
    )
