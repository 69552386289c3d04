-- What an order prints on standard output and standard error, and its exit status.
use Rattle.std.specs.Prelude.{◌≡◌, ◌≢◌, ◌↔◌, ◌<◌, ℕ, Bool, if◌then◌else◌, List, [], ◌++◌, length, Result, Ok, Err, MatchOption, MatchResult, codes}
use Rattle.std.specs.String.{string_bytes}
use Rattle.std.specs.Fmt.{decimal}
use Rattle.hex.specs.Hex.{decode_of, encode_lower}
use Rattle.hex.specs.declared.FromHexError.{FromHexError}
use Rattle.kd_compile.specs.Compiled.{IsCompiled, compile_fault_number, first_over}
use Rattle.kd_compile.specs.Value.{truth}
use Rattle.kd_expr.specs.Faults.{expr_fault_number, type_fault_number}
use Rattle.kd_expr.specs.Grammar.{Parses}
use Rattle.kd_expr.specs.Size.{node_count}
use Rattle.kd_expr.specs.Tree.{Tree}
use Rattle.kd_expr.specs.Typing.{test_type}
use Rattle.kd_expr.specs.declared.fault.ExprFault.{ExprFault}
use Rattle.kd_expr.specs.declared.fault.ExprFault.TheVariants as reading
use Rattle.kd_machine.specs.Held.{base_names}
use Rattle.kd_machine.specs.Run.{Run}
use Rattle.kd_machine.specs.declared.run.Outcome.{Outcome}
use Rattle.kd_options.specs.Faults.{read_fault_number}
use Rattle.kd_options.specs.Joined.{value_of}
use Rattle.kd_options.specs.Message.{Seen, Reads, IsFirstFault}
use Rattle.kd_options.specs.declared.fault.ReadFault.{ReadFault}
use Rattle.kd_options.specs.declared.fault.ReadFault.TheVariants.{Memory}
use Rattle.kd_token.specs.Accepts.{Accepts, IsRightFault, IsVerifyFault}
use Rattle.kd_token.specs.Faults.{file_fault_number, verify_fault_number}
use Rattle.kd_token.specs.File.{Code, IsFileOf}
use Rattle.kd_token.specs.FirstFault.{IsFileFault}
use Rattle.kd_token.specs.declared.fault.FileFault.{FileFault}
use Rattle.kd_token.specs.declared.fault.FileFault.TheVariants as file
use Rattle.kd_token.specs.declared.fault.VerifyFault.{VerifyFault}
use Rattle.kd_token.specs.declared.fault.VerifyFault.TheVariants as verifying
use Rattle.kd_answers.specs.Show.{show_text, line_feed}
use Rattle.kd_answers.specs.Status.{status_of}
use Rattle.kd_answers.specs.declared.printed.Printed.{Printed}
use Rattle.kd_commands.specs.declared.orders.Order.{Order}
use Rattle.kd_commands.specs.declared.orders.Order.TheVariants.{Help, Show, Expr, Compile, Verify, Eval, EvalText}

-- this text and nothing else
pub record IsSuccess (text : List ℕ) (p : Printed) : Type 0 where
  pub out : p.out ≡ text
  pub fault : p.fault ≡ []
  pub status : p.status ≡ 0

-- one fault line that begins with this number, and its exit status
pub record IsRefusal (number : ℕ) (p : Printed) : Type 0 where
  pub name : List ℕ
  pub out : p.out ≡ []
  pub fault : p.fault ≡ codes "fault " ++ decimal number ++ codes " " ++ name ++ line_feed
  pub status : p.status ≡ status_of number

-- a datagram is refused for its first fault, which is not out of memory
pub record IsRefused (bytes : List ℕ) (p : Printed) : Type 0 where
  pub fault : ReadFault
  pub first : IsFirstFault fault bytes
  pub ours : fault ≢ Memory
  pub line : IsRefusal (read_fault_number fault) p

-- what is said of the message that a datagram reads as; otherwise the datagram's first fault
pub record OfDatagram (says : Seen → Printed → Type 0) (bytes : List ℕ) (p : Printed) : Type 0 where
  pub readable : (m : Seen) → Reads bytes m → says m p
  pub refused : ((m : Seen) → Reads bytes m → ⊥) → IsRefused bytes p

-- what is said of an argument's bytes; an argument that is not hexadecimal is a mistake on the
-- command line
abbrev pub OfDecoded : (List ℕ → Printed → Type 0) → Result (List ℕ) FromHexError → Printed → Type 0
OfDecoded says (Ok bytes) p = says bytes p
OfDecoded says (Err error) p = IsRefusal 98 p

-- the lines of a datagram, with or without the names of its options
abbrev pub ShowsDatagram : Bool → List ℕ → Printed → Type 0
ShowsDatagram names = OfDatagram (λ m p. IsSuccess (show_text names m) p)

-- the same for an argument
abbrev pub ShowsDecoded : Bool → Result (List ℕ) FromHexError → Printed → Type 0
ShowsDecoded names = OfDecoded (ShowsDatagram names)

-- a class test's line, with the number of its nodes
abbrev pub nodes_line : ℕ → List ℕ
nodes_line number = codes "bool " ++ decimal number ++ line_feed

-- what is said of a tree that is a class test; otherwise the first fault of its type
abbrev pub OfTest : (Tree → Printed → Type 0) → Tree → Printed → Type 0
OfTest says tree p =
    MatchResult (test_type tree) (λ done. says tree p)
    (λ fault. IsRefusal (type_fault_number fault) p)

-- a text is refused for a fault in reading it, which is not out of memory
pub record IsUnread (text : List ℕ) (p : Printed) : Type 0 where
  pub fault : ExprFault
  pub long : (fault ≡ reading.TooLong) ↔ (4096 < length text)
  pub ours : fault ≢ reading.Memory
  pub line : IsRefusal (expr_fault_number fault) p

-- what is said of the tree that a text stands for, if it stands for one; otherwise the fault in
-- reading it
pub record OfText (says : Tree → Printed → Type 0) (text : List ℕ) (p : Printed) : Type 0 where
  pub readable : (tree : Tree) → Parses text tree → says tree p
  pub refused : ((tree : Tree) → Parses text tree → ⊥) → IsUnread text p

-- the nodes of a class test
abbrev pub TypesTree : Tree → Printed → Type 0
TypesTree = OfTest (λ tree p. IsSuccess (nodes_line (node_count tree)) p)

-- the same for a text
abbrev pub TypesText : List ℕ → Printed → Type 0
TypesText = OfText TypesTree

-- what is said of a class test that exceeds no limit of programs; otherwise the first limit that it
-- exceeds
abbrev pub OfCompiled : (Tree → Printed → Type 0) → Tree → Printed → Type 0
OfCompiled says tree p =
    MatchOption (first_over tree) (says tree p) (λ fault. IsRefusal (compile_fault_number fault) p)

-- the token file, in hexadecimal digits, of a program that a class test compiles to
pub record PrintsFile (tree : Tree) (p : Printed) : Type 0 where
  pub program : Code
  pub compiled : IsCompiled tree program
  pub file : List ℕ
  pub file_of : IsFileOf file program
  pub line : IsSuccess (encode_lower file ++ line_feed) p

-- the same for a tree
abbrev pub CompilesTree : Tree → Printed → Type 0
CompilesTree = OfTest (λ tree p. OfCompiled PrintsFile tree p)

-- the same for a text
abbrev pub CompilesText : List ℕ → Printed → Type 0
CompilesText = OfText CompilesTree

-- an accepted program's line: what it declares, and the number of its tokens
abbrev pub accepted_line : Code → List ℕ
accepted_line c =
    codes "accepted steps " ++ decimal c.steps ++ codes " depth " ++ decimal c.depth
    ++ codes " length " ++ decimal c.bound
    ++ codes " tokens " ++ decimal (length c.tokens) ++ line_feed

-- a program is refused for its first fault, at the position where that fault is; it is not out of
-- memory
pub record IsUnaccepted (c : Code) (p : Printed) : Type 0 where
  pub fault : VerifyFault
  pub first : IsVerifyFault c fault
  pub right : IsRightFault c fault
  pub ours : fault ≢ verifying.Memory
  pub line : IsRefusal (verify_fault_number fault) p

-- what is said of a program that is accepted; otherwise its first fault
pub record OfAccepted (says : Code → Printed → Type 0) (c : Code) (p : Printed) : Type 0 where
  pub accepted : Accepts c → says c p
  pub refused : (Accepts c → ⊥) → IsUnaccepted c p

-- bytes are refused for their first fault, which is not out of memory
pub record IsNoFile (bytes : List ℕ) (p : Printed) : Type 0 where
  pub fault : FileFault
  pub first : IsFileFault bytes fault
  pub ours : fault ≢ file.Memory
  pub line : IsRefusal (file_fault_number fault) p

-- what is said of the program of a token file, if the bytes are one; otherwise their first fault
pub record OfFile (says : Code → Printed → Type 0) (bytes : List ℕ) (p : Printed) : Type 0 where
  pub readable : (c : Code) → IsFileOf bytes c → says c p
  pub refused : ((c : Code) → IsFileOf bytes c → ⊥) → IsNoFile bytes p

-- what a program declares
abbrev pub VerifiesProgram : Code → Printed → Type 0
VerifiesProgram = OfAccepted (λ c p. IsSuccess (accepted_line c) p)

-- the same for the program of a token file
abbrev pub VerifiesFile : List ℕ → Printed → Type 0
VerifiesFile = OfFile VerifiesProgram

-- the same for an argument
abbrev pub VerifiesDecoded : Result (List ℕ) FromHexError → Printed → Type 0
VerifiesDecoded = OfDecoded VerifiesFile

-- the word for a truth value
abbrev pub truth_text : Bool → List ℕ
truth_text value = if value then codes "true" else codes "false"

-- a run's line: its truth value, its steps, its greatest depth and the length of its longest value
abbrev pub run_line : Outcome → List ℕ
run_line o =
    truth_text o.value ++ codes " steps " ++ decimal o.steps ++ codes " depth "
    ++ decimal o.peak_depth ++ codes " length "
    ++ decimal o.peak_length ++ line_feed

-- the line of a program's run over a message that has only the class names that hold before any
-- definition
pub record RunsOver (c : Code) (m : Seen) (p : Printed) : Type 0 where
  pub outcome : Outcome
  pub run : Run c m (base_names (value_of 60 m.options)) outcome
  pub line : IsSuccess (run_line outcome) p

-- the same over the message of a datagram, for a program that is accepted
abbrev pub RunsProgram : List ℕ → Code → Printed → Type 0
RunsProgram datagram = OfAccepted (λ c p. OfDatagram (RunsOver c) datagram p)

-- the same for two arguments, a token file and a datagram
abbrev pub RunsDecoded : Result (List ℕ) FromHexError → Result (List ℕ) FromHexError → Printed
    → Type 0
RunsDecoded program datagram =
    OfDecoded (λ file p. OfDecoded (λ bytes q. OfFile (RunsProgram bytes) file q) datagram p)
    program

-- the line of the run of a program that a class test compiles to, with the test's truth value, over
-- a message that has only the class names that hold before any definition
pub record TestsOver (tree : Tree) (m : Seen) (p : Printed) : Type 0 where
  pub program : Code
  pub compiled : IsCompiled tree program
  pub outcome : Outcome
  pub run : Run program m (base_names (value_of 60 m.options)) outcome
  pub value : outcome.value ≡ truth m (base_names (value_of 60 m.options)) tree
  pub line : IsSuccess (run_line outcome) p

-- the same over the message of a datagram
abbrev pub TestsDatagram : List ℕ → Tree → Printed → Type 0
TestsDatagram datagram tree = OfDatagram (TestsOver tree) datagram

-- the same for a tree
abbrev pub TestsTree : List ℕ → Tree → Printed → Type 0
TestsTree datagram = OfTest (λ tree p. OfCompiled (TestsDatagram datagram) tree p)

-- the same for two arguments, a class test and a datagram
abbrev pub TestsDecoded : List ℕ → Result (List ℕ) FromHexError → Printed → Type 0
TestsDecoded text datagram = OfDecoded (λ bytes p. OfText (TestsTree bytes) text p) datagram

-- the order prints something that depends only on its arguments
abbrev pub IsPrinted : Order → Type 0
IsPrinted (Help text) = Unit {0}
IsPrinted (Show hex names) = Unit {0}
IsPrinted (Expr text) = Unit {0}
IsPrinted (Compile text) = Unit {0}
IsPrinted (Verify hex) = Unit {0}
IsPrinted (Eval program datagram) = Unit {0}
IsPrinted (EvalText text datagram) = Unit {0}
IsPrinted other = ⊥

-- what each such order prints
abbrev pub Answers : Order → Printed → Type 0
Answers (Help text) p = IsSuccess (string_bytes text) p
Answers (Show hex names) p = ShowsDecoded names (decode_of (string_bytes hex)) p
Answers (Expr text) p = TypesText (string_bytes text) p
Answers (Compile text) p = CompilesText (string_bytes text) p
Answers (Verify hex) p = VerifiesDecoded (decode_of (string_bytes hex)) p
Answers (Eval program datagram) p =
    RunsDecoded (decode_of (string_bytes program)) (decode_of (string_bytes datagram)) p
Answers (EvalText text datagram) p =
    TestsDecoded (string_bytes text) (decode_of (string_bytes datagram)) p
Answers other p = ⊥
