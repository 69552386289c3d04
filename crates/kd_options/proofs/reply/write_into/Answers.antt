use Rattle.std.proofs.Common.{◌≡◌, ◌++◌, ◌∷◌, [], arith, ap, ◌∙◌, length, drop, length-append}
use Rattle.kd_wire.specs.Header.{header_bytes}
use Rattle.kd_options.specs.Reply.{items_text, kept, unpadded}
use Rattle.kd_options.proofs.Puts.{put_then, behind_header}
use Rattle.kd_options.proofs.reply.write_into.Goals as goal

pub returns-clause-written : goal.returns-clause-written
returns-clause-written c =
    let items = c.args.items.now in
    let old = c.args.out.now in
    let first = c.write_header.new.out in
    let head = header_bytes c.args.header.now in
    let body = items_text (kept (length first) items) in
    let put = put_then 240 body (255 ∷ []) first c.put_items-end.new.out c.put_end.new.out _ c.put_items-end.ensures.written c.put_items-end.ensures.next c.put_end.ensures.written
    (omega (arith, c.put_items-end.ensures.next, c.put_items-end.ensures.within)) in
    let whole = behind_header head (body ++ 255 ∷ []) old first c.put_end.new.out c.write_header.ensures.len c.write_header.ensures.written put in
    let end : length (head ++ (body ++ 255 ∷ [])) ≡ c.put_end.result =
    omega (arith, c.put_end.ensures.next, c.put_items-end.ensures.next, c.write_header.ensures.len, length-append head (body ++ 255 ∷ []), length-append body (255 ∷ [])) in
    whole ∙ ap (λ n. head ++ (body ++ 255 ∷ []) ++ drop n old) end ∙ ap (λ room. unpadded c.args.header.now room items ++ drop c.put_end.result old) c.write_header.auto.out
