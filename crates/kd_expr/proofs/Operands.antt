-- Forms with operands whose last two parts are read by a function of their own.
use Rattle.std.proofs.Common.{◌≡◌, ℕ, ℤ, Option, Result, Ok, Err, List, refl, ap, sym}
use Rattle.kd_expr.specs.Lexical.{Lexeme}
use Rattle.kd_expr.specs.Reading.{Reader, Deeper, on_ok, seq, wanted, done, sign_here, signed, length_of_part, operand_then, ifelse_at, substring_after}
use Rattle.kd_expr.specs.Refusals.{signed_refusal}
use Rattle.kd_expr.specs.Tree.{Tree, IfElse, Substring}
use Rattle.kd_expr.specs.declared.fault.SyntaxFault.{SyntaxFault}
use Rattle.kd_expr.proofs.Complete.{Answers, Refuses}
use Rattle.kd_expr.proofs.Options.{ok_pair, err_is}

second_read : (read : Result (Tree × List Lexeme) SyntaxFault) (node : Tree → Tree → Tree) (x a b : Tree) (rest : List Lexeme) → Answers {A = Tree × Tree} (on_ok read (λ y. Ok ((x, y.0), y.1))) (a, b) rest → Answers {A = Tree} (on_ok read (λ y. Ok (node x y.0, y.1))) (node a b) rest
second_read (Err fault) node x a b rest e = err_is e
second_read (Ok y) node x a b rest e =
    let p = ok_pair e in
    let f : node x y.0 ≡ node a b = ap (λ (v : Tree × Tree). node v.0 v.1) p.0 in rw (f, p.1) refl

both_read : (read : Result (Tree × List Lexeme) SyntaxFault) (second : Reader Tree) (node : Tree → Tree → Tree) (end : ℕ) (a b : Tree) (rest : List Lexeme) → Answers {A = Tree × Tree} (on_ok read (λ x. seq second (λ y. done (x.0, y)) end x.1)) (a, b) rest → Answers (on_ok read (λ x. seq second (λ y. done (node x.0 y)) end x.1)) (node a b) rest
both_read (Err fault) second node end a b rest e = err_is e
both_read (Ok x) second node end a b rest e = second_read (second end x.1) node x.0 a b rest e

second_none : (read : Result (Tree × List Lexeme) SyntaxFault) (node : Tree → Tree → Tree) (x : Tree) (fault : SyntaxFault) → Refuses {A = Tree × Tree} (on_ok read (λ y. Ok ((x, y.0), y.1))) fault → Refuses {A = Tree} (on_ok read (λ y. Ok (node x y.0, y.1))) fault
second_none (Err other) node x fault e = cc
second_none (Ok y) node x fault e = err_is (sym e)

both_none : (read : Result (Tree × List Lexeme) SyntaxFault) (second : Reader Tree) (node : Tree → Tree → Tree) (end : ℕ) (fault : SyntaxFault) → Refuses {A = Tree × Tree} (on_ok read (λ x. seq second (λ y. done (x.0, y)) end x.1)) fault → Refuses (on_ok read (λ x. seq second (λ y. done (node x.0 y)) end x.1)) fault
both_none (Err other) second node end fault e = cc
both_none (Ok x) second node end fault e = second_none (second end x.1) node x.0 fault e

-- the two operands of a form after its bracket
abbrev pub two_at : Deeper → ℕ → Reader (Tree × Tree)
two_at deeper bracket =
    seq (operand_then deeper bracket 44) (λ a. seq (operand_then deeper bracket 41) (λ b. done (a, b)))

pub ifelse_read : (deeper : Deeper) (at bracket end : ℕ) (ts us vs rest : List Lexeme) (t a b : Tree) → Answers (sign_here 40 end ts) bracket us → Answers (operand_then deeper bracket 44 end us) t vs → Answers (two_at deeper bracket end vs) (a, b) rest → Answers (ifelse_at deeper at end ts) (IfElse at t a b) rest
unfolding ifelse_at
ifelse_read deeper at bracket end ts us vs rest t a b opened first e =
    rw (opened, first) (both_read (operand_then deeper bracket 44 end vs) (operand_then deeper bracket 41) (IfElse at t) end a b rest e)

pub ifelse_fails : (deeper : Deeper) (at bracket end : ℕ) (ts us vs : List Lexeme) (t : Tree) (fault : SyntaxFault) → Answers (sign_here 40 end ts) bracket us → Answers (operand_then deeper bracket 44 end us) t vs → Refuses (two_at deeper bracket end vs) fault → Refuses (ifelse_at deeper at end ts) fault
unfolding ifelse_at
ifelse_fails deeper at bracket end ts us vs t fault opened first e =
    rw (opened, first) (both_none (operand_then deeper bracket 44 end vs) (operand_then deeper bracket 41) (IfElse at t) end fault e)

-- the numbers of a substring, with its closing bracket
abbrev pub part_at : (ℤ → Option ℤ → Tree) → Reader Tree
part_at node =
    seq (wanted signed signed_refusal) (λ start. seq (sign_here 44) (λ _. seq (wanted length_of_part signed_refusal) (λ len. seq (sign_here 41) (λ _. done (node start len)))))

pub substring_read : (deeper : Deeper) (at bracket end : ℕ) (ts us vs rest : List Lexeme) (a : Tree) (start shown : ℤ) (len : Option ℤ) → shown ≡ start → Answers (sign_here 40 end ts) bracket us → Answers (operand_then deeper bracket 44 end us) a vs → Answers (part_at (Substring at a) end vs) (Substring at a start len) rest → Answers (substring_after deeper at end ts) (Substring at a shown len) rest
unfolding substring_after
substring_read deeper at bracket end ts us vs rest a start shown len same opened first e = rw (same, opened, first) e

pub substring_fails : (deeper : Deeper) (at bracket end : ℕ) (ts us vs : List Lexeme) (a : Tree) (fault : SyntaxFault) → Answers (sign_here 40 end ts) bracket us → Answers (operand_then deeper bracket 44 end us) a vs → Refuses (part_at (Substring at a) end vs) fault → Refuses (substring_after deeper at end ts) fault
unfolding substring_after
substring_fails deeper at bracket end ts us vs a fault opened first e = rw (opened, first) e
