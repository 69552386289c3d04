-- A tree has no more nodes than its text has bytes.
use Rattle.std.proofs.Common.{◌≡◌, ℕ, ◌≤◌, ◌<◌, ◌^◌, List, ◌∷◌, length, arith, length-append, ap}
use Rattle.kd_expr.specs.Grammar.{Spells, Level, or_one, or_more, and_one, and_more, not_none, negated, compare_one, equal, sum_one, sum_more, string, hexadecimal, address, number, group, option_hex, option_exists, relay_hex, relay_exists, field, packet_length, member, substring, concat, ifelse, hexstring, lcase, ucase, uint32totext, HasText}
use Rattle.kd_expr.specs.Lexical.{Lexeme, Scans, finished, blank, token, bad}
use Rattle.kd_expr.specs.Size.{node_count}
use Rattle.kd_expr.specs.Tree.{Tree}
use Rattle.kd_expr.proofs.Words.{word_starts}

nodes_le : {l : Level} {n : ℕ} {us : List Lexeme} {t : Tree} → Spells l n us t → node_count t ≤ length us
nodes_le (or_one s) = nodes_le s
nodes_le (or_more o s r) = omega (arith, length-append {A = Lexeme}, nodes_le s, nodes_le r)
nodes_le (and_one s) = nodes_le s
nodes_le (and_more o s r) = omega (arith, length-append {A = Lexeme}, nodes_le s, nodes_le r)
nodes_le (not_none s) = nodes_le s
nodes_le (negated s) = omega (arith, nodes_le s)
nodes_le (compare_one s) = nodes_le s
nodes_le (equal o s r) = omega (arith, length-append {A = Lexeme}, nodes_le s, nodes_le r)
nodes_le (sum_one s) = nodes_le s
nodes_le (sum_more o s r) = omega (arith, length-append {A = Lexeme}, nodes_le s, nodes_le r)
nodes_le string = omega arith
nodes_le hexadecimal = omega arith
nodes_le address = omega arith
nodes_le (number h) = omega arith
nodes_le (group c s) = omega (arith, length-append {A = Lexeme}, nodes_le s)
nodes_le (option_hex i) = omega arith
nodes_le (option_exists i) = omega arith
nodes_le (relay_hex h) = omega arith
nodes_le (relay_exists h) = omega arith
nodes_le (field h) = omega arith
nodes_le packet_length = omega arith
nodes_le (member least most) = omega arith
nodes_le (substring c d e s i j) = omega (arith, length-append {A = Lexeme}, nodes_le s)
nodes_le (concat c d s r) = omega (arith, length-append {A = Lexeme}, nodes_le s, nodes_le r)
nodes_le (ifelse c d e s r q) = omega (arith, length-append {A = Lexeme}, nodes_le s, nodes_le r, nodes_le q)
nodes_le (hexstring c d s r) = omega (arith, length-append {A = Lexeme}, nodes_le s, nodes_le r)
nodes_le (lcase c s) = omega (arith, length-append {A = Lexeme}, nodes_le s)
nodes_le (ucase c s) = omega (arith, length-append {A = Lexeme}, nodes_le s)
nodes_le (uint32totext c s) = omega (arith, length-append {A = Lexeme}, nodes_le s)

tokens_le : {at : ℕ} {bytes : List ℕ} {ts : List Lexeme} → Scans at bytes ts → length ts ≤ length bytes
tokens_le finished = omega arith
tokens_le (blank is s) = omega (arith, tokens_le s)
tokens_le (token word rest w s) =
    let f = word_starts w in
    let size : length word ≡ length (f.first ∷ f.others) = ap (λ v. length v) f.is in
    omega (arith, tokens_le s, size, length-append word rest)
tokens_le (bad solid none) = omega arith

pub nodes_of_text : (t : Tree) → HasText t → node_count t < 2 ^ 32
nodes_of_text t h = omega (arith, nodes_le h.parses.spelled, tokens_le h.parses.scanned, h.parses.short)
