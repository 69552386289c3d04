use Rattle.std.proofs.Common.{◌≡◌, ◌+◌, ◌<◌, ◌≤◌, arith, ap, ◌∙◌, sym, length, length-append}
use Rattle.std.specs.Fork.{slice_chunk}
use Rattle.kd_wire.specs.Area.{piece, spelled}
use Rattle.kd_wire.specs.Put.{with_bytes_at}
use Rattle.kd_options.specs.Reply.{first_text, piece_count}
use Rattle.kd_options.proofs.Puts.{put_then, chunk_is, next_within, first_text-more, length-all_text}
use Rattle.kd_options.proofs.reply.put_value.Goals as goal

pub put_piece-next-requires-clause-room : goal.put_piece-next-requires-clause-room
put_piece-next-requires-clause-room c =
    let value = c.args.value.now in
    let k = c.loop-k.k in
    let less : k < piece_count (length value) = omega (arith, c.loop-k-test.true, c.pieces-k-end.ensures) in
    let chunk = ap length (chunk_is value k c.min-to.result c.min-to.ensures) in
    omega (arith, chunk, c.loop-k.invariant.1, next_within c.args.code value k less, c.requires.room, c.loop-k.auto.out)

pub loop-k-preserved : goal.loop-k-preserved
loop-k-preserved c =
    let code = c.args.code in
    let value = c.args.value.now in
    let k = c.loop-k.k in
    let at = c.args.at in
    let old = c.args.out.now in
    let before = first_text code value k in
    let next_piece = spelled (piece code (slice_chunk value 255 k)) in
    let less : k < piece_count (length value) = omega (arith, c.loop-k-test.true, c.pieces-k-end.ensures) in
    let chunk = chunk_is value k c.min-to.result c.min-to.ensures in
    let fits : at + length before ≤ length old = omega (arith, next_within code value k less, c.requires.room) in
    let put = c.put_piece-next.ensures.written ∙ ap (λ x. with_bytes_at c.loop-k.next (spelled (piece code x)) c.loop-k.out) chunk in
    let more = ap length (first_text-more code value k) ∙ length-append before next_piece in (
      put_then at before next_piece old c.loop-k.out c.put_piece-next.new.out c.loop-k.next c.loop-k.invariant.0 c.loop-k.invariant.1 put fits
          ∙ ap (λ x. with_bytes_at at x old) (sym (first_text-more code value k)),
      omega (arith, c.put_piece-next.ensures.next, ap length chunk, c.loop-k.invariant.1, more),
    )

pub returns-clause-next : goal.returns-clause-next
returns-clause-next c =
    let code = c.args.code in
    let value = c.args.value.now in
    let last : c.loop-k.k ≡ piece_count (length value) = omega (arith, c.loop-k-test.false, c.pieces-k-end.ensures, c.loop-k.auto.k-end) in
    c.loop-k.invariant.1 ∙ ap (λ j. c.args.at + length (first_text code value j)) last ∙ ap (λ n. c.args.at + n) (length-all_text code value)
