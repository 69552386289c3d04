use Rattle.std.proofs.Common.{◌/◌, ◌%◌, ◌^◌, Some, ap, ◌∙◌}
use Rattle.std.proofs.lemmas.Option.{same_Some}
use Rattle.kd_text.proofs.Fields.{address_of_bytes, bytes_of_address, first_small, others_small}
use Rattle.kd_text.proofs.address.address_of_word.Goals as goal

pub returns-in_err-byte_of_word : goal.returns-in_err-byte_of_word
returns-in_err-byte_of_word c = λ a small is.
    let p = bytes_of_address c.cut.ensures c.cut-2.ensures c.cut-3.ensures a small is in
    let some = c.in_err-byte_of_word.ensures (a / 2 ^ 24) (first_small a small) p.0 in
    cc

pub returns-in_err-byte_of_word-2 : goal.returns-in_err-byte_of_word-2
returns-in_err-byte_of_word-2 c = λ a small is.
    let p = bytes_of_address c.cut.ensures c.cut-2.ensures c.cut-3.ensures a small is in
    let some = c.in_err-byte_of_word-2.ensures (a / 2 ^ 16 % 256) (others_small (a / 2 ^ 16)) p.1 in
    cc

pub returns-in_err-byte_of_word-3 : goal.returns-in_err-byte_of_word-3
returns-in_err-byte_of_word-3 c = λ a small is.
    let p = bytes_of_address c.cut.ensures c.cut-2.ensures c.cut-3.ensures a small is in
    let some = c.in_err-byte_of_word-3.ensures (a / 2 ^ 8 % 256) (others_small (a / 2 ^ 8)) p.2 in
    cc

pub returns-in_err-byte_of_word-4 : goal.returns-in_err-byte_of_word-4
returns-in_err-byte_of_word-4 c = λ a small is.
    let p = bytes_of_address c.cut.ensures c.cut-2.ensures c.cut-3.ensures a small is in
    let some = c.in_err-byte_of_word-4.ensures (a % 256) (others_small a) p.3 in
    cc

pub returns : goal.returns
returns c = λ a small is.
    let p = bytes_of_address c.cut.ensures c.cut-2.ensures c.cut-3.ensures a small is in
    let first = same_Some _ _ (c.in_ok-byte_of_word.ensures (a / 2 ^ 24) (first_small a small) p.0) in
    let second = same_Some _ _ (c.in_ok-byte_of_word-2.ensures (a / 2 ^ 16 % 256) (others_small (a / 2 ^ 16)) p.1) in
    let third = same_Some _ _ (c.in_ok-byte_of_word-3.ensures (a / 2 ^ 8 % 256) (others_small (a / 2 ^ 8)) p.2) in
    let last = same_Some _ _ (c.in_ok-byte_of_word-4.ensures (a % 256) (others_small a) p.3) in
    ap Some (address_of_bytes c.from-a.result c.from-b.result c.from-c.result c.from-d.result a small (c.from-a.ensures ∙ first) (c.from-b.ensures ∙ second) (c.from-c.ensures ∙ third) (c.from-d.ensures ∙ last))
