use Rattle.std.proofs.Common.{◌≡◌, ◌∙◌, sym, ap, ℕ, List, [], ◌∷◌, ◌++◌, length, Some, None, true, false, option_map, append-nil, arith}
use Rattle.std.specs.Prelude.{◌==◌}
use Rattle.std.proofs.lemmas.Bool.{eqb-true}
use Rattle.kd_commands.specs.Steps.{byte_behind_colon}
use Rattle.kd_commands.specs.Values.{bytes_behind}
use Rattle.kd_commands.proofs.Spelled.{no_more, none_left, one_more, put_behind}
use Rattle.kd_commands.proofs.hardware.with_others.Goals as goal

pub loop-byte-smaller : goal.loop-byte-smaller
loop-byte-smaller c = (one_more c.loop-byte.left.now c.in-Some.byte c.in-Some.behind.now c.in-Some.ensures).smaller

pub loop-byte-preserved : goal.loop-byte-preserved
loop-byte-preserved c =
    let more = one_more c.loop-byte.left.now c.in-Some.byte c.in-Some.behind.now c.in-Some.ensures in
    ap (λ xs. option_map (λ l. xs ++ l) (bytes_behind c.in-Some.behind.now)) c.in_ok-push.ensures.items
    ∙ put_behind c.loop-byte.bytes.items c.in-Some.byte (bytes_behind c.in-Some.behind.now)
    ∙ ap (option_map (λ l. c.loop-byte.bytes.items ++ l)) (sym more.bytes)
    ∙ c.loop-byte.invariant

-- what is made of the bytes if nothing remains, and if something does
at_end : (xs left : List ℕ) → true ≡ (length left == 0) → Some xs ≡ option_map (λ l. xs ++ l) (bytes_behind left)
at_end xs [] h = ap (λ l. Some l) (sym (append-nil xs)) ∙ ap (option_map (λ l. xs ++ l)) (sym none_left)
at_end xs (b ∷ left) h = let empty : length (b ∷ left) ≡ 0 = eqb-true (length (b ∷ left)) 0 (sym h) in absurd (omega arith)

not_at_end : (xs left : List ℕ) → false ≡ (length left == 0) → None ≡ byte_behind_colon left → None ≡ option_map (λ l. xs ++ l) (bytes_behind left)
not_at_end xs [] h none = cc
not_at_end xs (b ∷ left) h none = ap (option_map (λ l. xs ++ l)) (sym (no_more b left none))

pub returns-then-is_empty : goal.returns-then-is_empty
returns-then-is_empty c = at_end c.loop-byte.bytes.items c.loop-byte.left.now c.if-is_empty.ensures ∙ c.loop-byte.invariant

pub returns-else-is_empty : goal.returns-else-is_empty
returns-else-is_empty c = not_at_end c.loop-byte.bytes.items c.loop-byte.left.now c.if-is_empty.ensures c.in_default.ensures ∙ c.loop-byte.invariant
