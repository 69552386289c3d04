-- What contracts see of nodes and tokens: the tree and the lexemes, without memory.
use Rattle.std.specs.Prelude.{ℕ, List, [], ◌∷◌, map}
use Rattle.kd_expr.specs.Address.{decimal}
use Rattle.kd_expr.specs.Lexical.{Lexeme, StringAt, HexAt, AddressAt, NumberAt, MinusAt, NameAt, SignAt, BadAt}
use Rattle.kd_expr.specs.Tree.{Tree, Literal, Int, OptionValue, RelayValue, FieldValue, OptionExists, RelayExists, Member, Equal, Not, And, Or, Group, Concat, IfElse, Substring, HexString, Lower, Upper, IntToText}
use Rattle.kd_expr.specs.declared.node.Node.{Node}
use Rattle.kd_expr.specs.declared.node.Node.TheVariants as nodes
use Rattle.kd_expr.specs.declared.token.Token.{Token}
use Rattle.kd_expr.specs.declared.token.Sign.{Sign}
use Rattle.kd_expr.specs.declared.token.Sign.TheVariants as signs
use Rattle.kd_expr.specs.declared.token.Kind.{Kind}
use Rattle.kd_expr.specs.declared.token.Kind.TheVariants as kinds

-- the tree that a node is seen as
abbrev pub tree_of : Node → Tree
tree_of (nodes.Literal at bytes) = Literal at bytes
tree_of (nodes.Int at value) = Int at value
tree_of (nodes.Option at code) = OptionValue at code
tree_of (nodes.Relay at code) = RelayValue at code
tree_of (nodes.Field at field) = FieldValue at field
tree_of (nodes.OptionExists at code) = OptionExists at code
tree_of (nodes.RelayExists at code) = RelayExists at code
tree_of (nodes.Member at name) = Member at name
tree_of (nodes.Equal' at p a q b) = Equal at (tree_of a) (tree_of b)
tree_of (nodes.Not' at p a) = Not at (tree_of a)
tree_of (nodes.And' at p a q b) = And at (tree_of a) (tree_of b)
tree_of (nodes.Or' at p a q b) = Or at (tree_of a) (tree_of b)
tree_of (nodes.Group' at p a) = Group at (tree_of a)
tree_of (nodes.Concat' at p a q b) = Concat at (tree_of a) (tree_of b)
tree_of (nodes.IfElse' at p t q a r b) = IfElse at (tree_of t) (tree_of a) (tree_of b)
tree_of (nodes.Substring' at p a start len) = Substring at (tree_of a) start len
tree_of (nodes.HexString' at p a q b) = HexString at (tree_of a) (tree_of b)
tree_of (nodes.Lower' at p a) = Lower at (tree_of a)
tree_of (nodes.Upper' at p a) = Upper at (tree_of a)
tree_of (nodes.IntToText' at p a) = IntToText at (tree_of a)

-- the byte of a sign; of an equality, one of its two equal bytes
abbrev pub sign_byte : Sign → ℕ
sign_byte signs.Open = 40
sign_byte signs.Close = 41
sign_byte signs.Left = 91
sign_byte signs.Right = 93
sign_byte signs.Comma = 44
sign_byte signs.Dot = 46
sign_byte signs.Plus = 43
sign_byte signs.Equals = 61

-- the lexeme of a kind of token at a place
abbrev pub lexeme_at : ℕ → Kind → Lexeme
lexeme_at at (kinds.Text bytes) = StringAt at bytes.now
lexeme_at at (kinds.Hex digits) = HexAt at digits.now
lexeme_at at (kinds.Address a b c d) = AddressAt at (a ∷ b ∷ c ∷ d ∷ [])
lexeme_at at (kinds.Number digits) = NumberAt at (decimal digits.now)
lexeme_at at (kinds.Minus digits) = MinusAt at (decimal digits.now)
lexeme_at at (kinds.Name name) = NameAt at name.now
lexeme_at at (kinds.Sign s) = SignAt at (sign_byte s)
lexeme_at at kinds.Bad = BadAt at

-- the lexeme that a token is seen as
abbrev pub lexeme_of : Token → Lexeme
lexeme_of token = lexeme_at token.at token.kind

-- the lexemes that tokens are seen as
abbrev pub lexemes : List Token → List Lexeme
lexemes tokens = map lexeme_of tokens
