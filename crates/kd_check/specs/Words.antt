-- What is wrong, in words: of a class's test, of a token file, and of the order of classes.
use Rattle.std.specs.Prelude.{ℕ, List, ◌++◌, codes, decimal, Option, Some, None}
use Rattle.kd_compile.specs.declared.fault.CompileFault.{CompileFault}
use Rattle.kd_compile.specs.declared.fault.CompileFault.TheVariants as compiling
use Rattle.kd_json.specs.declared.fault.FileTestFault.{FileTestFault}
use Rattle.kd_json.specs.declared.fault.FileTestFault.TheVariants as tokens
use Rattle.kd_json.specs.declared.fault.TestFault.{TestFault}
use Rattle.kd_json.specs.declared.fault.TestFault.TheVariants as tests
use Rattle.kd_expr.specs.declared.fault.ExprFault.{ExprFault}
use Rattle.kd_expr.specs.declared.fault.ExprFault.TheVariants as reading
use Rattle.kd_expr.specs.declared.fault.TypeFault.{TypeFault}
use Rattle.kd_expr.specs.declared.fault.TypeFault.TheVariants as typing
use Rattle.kd_token.specs.declared.fault.FileFault.{FileFault}
use Rattle.kd_token.specs.declared.fault.FileFault.TheVariants as file
use Rattle.kd_token.specs.declared.fault.VerifyFault.{VerifyFault}
use Rattle.kd_token.specs.declared.fault.VerifyFault.TheVariants as verifying

-- why a text is not an expression
abbrev pub reading_words : ExprFault → List ℕ
reading_words (reading.BadToken place) = codes "this is no word, number, string or sign of a test"
reading_words (reading.Expected place) = codes "something else is expected here"
reading_words (reading.NumberTooLarge place) = codes "this number is out of range"
reading_words (reading.TooNested place) = codes "this nests deeper than 64 levels"
reading_words reading.TooLong = codes "the test has more than 4096 bytes"
reading_words (reading.UnknownName place) = codes "no option has this name"
reading_words reading.Memory = codes "out of memory"

-- why an expression is not a class test
abbrev pub typing_words : TypeFault → List ℕ
typing_words (typing.WantsBool place) = codes "a condition, true or false, is expected here"
typing_words (typing.WantsBytes place) = codes "a string is expected here"
typing_words (typing.WantsInt place) = codes "a number is expected here"

-- why a class test cannot be compiled
abbrev pub compiling_words : CompileFault → List ℕ
compiling_words compiling.TooManyTokens = codes "the test compiles to more than 1024 tokens"
compiling_words compiling.TooDeep = codes "the test needs more than 64 values at once"
compiling_words compiling.TooLong = codes "a string of the test could have more than 65535 bytes"
compiling_words compiling.TooManyNames = codes "the test names more than 64 classes"
compiling_words compiling.Memory = codes "out of memory"

-- why the text of a test has no program
abbrev pub test_words : TestFault → List ℕ
test_words (tests.Reading why) = reading_words why
test_words (tests.Typing why) = typing_words why
test_words (tests.Compiling why) = compiling_words why

-- the place in a text that is not an expression, if the fault names one
abbrev pub reading_place : ExprFault → Option ℕ
reading_place (reading.BadToken place) = Some place
reading_place (reading.Expected place) = Some place
reading_place (reading.NumberTooLarge place) = Some place
reading_place (reading.TooNested place) = Some place
reading_place reading.TooLong = None
reading_place (reading.UnknownName place) = Some place
reading_place reading.Memory = None

-- the place of an operand of the wrong type
abbrev pub typing_place : TypeFault → ℕ
typing_place (typing.WantsBool place) = place
typing_place (typing.WantsBytes place) = place
typing_place (typing.WantsInt place) = place

-- the place in the text of a test that a fault names, if it names one
abbrev pub test_place : TestFault → Option ℕ
test_place (tests.Reading why) = reading_place why
test_place (tests.Typing why) = Some (typing_place why)
test_place (tests.Compiling why) = None

-- why bytes are not a token file
abbrev pub file_words : FileFault → List ℕ
file_words file.Magic = codes "it does not begin with K4TK"
file_words file.Version = codes "its version is neither 1 nor 2"
file_words (file.Cut place) = codes "it ends within the field at byte " ++ decimal place
file_words (file.Opcode place) = codes "no token has the opcode at byte " ++ decimal place
file_words (file.Operand place) =
    codes "the operand at byte " ++ decimal place ++ codes " is out of range"
file_words (file.Rest place) =
    codes "there are more bytes after the last token, from byte " ++ decimal place
file_words file.Limit = codes "its steps, depth, names or tokens are over the limit"
file_words file.Memory = codes "out of memory"

-- why a program is not accepted
abbrev pub verifying_words : VerifyFault → List ℕ
verifying_words (verifying.Short number) =
    codes "token " ++ decimal number ++ codes " needs more values than there are"
verifying_words (verifying.Kind number) =
    codes "token " ++ decimal number ++ codes " needs a value of another kind"
verifying_words (verifying.Deep number) =
    codes "after token " ++ decimal number ++ codes " there are more values than declared"
verifying_words (verifying.Long number) =
    codes "after token " ++ decimal number ++ codes " a string may be longer than declared"
verifying_words verifying.Steps = codes "it may take more steps than declared"
verifying_words verifying.Finish = codes "it does not end with one condition, true or false"
verifying_words (verifying.Name number) =
    codes "token " ++ decimal number ++ codes " uses a name that is not listed"
verifying_words verifying.Memory = codes "out of memory"

-- why a token file has no program
abbrev pub tokens_words : FileTestFault → List ℕ
tokens_words tokens.Absent = codes "there is no such file"
tokens_words (tokens.File why) = file_words why
tokens_words (tokens.Verify why) = verifying_words why
