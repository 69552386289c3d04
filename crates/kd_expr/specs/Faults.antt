-- The faults of reading and typing a class test: as a caller sees them, and their numbers.
use Rattle.std.specs.Prelude.{ℕ}
use Rattle.kd_expr.specs.declared.fault.ExprFault.{ExprFault}
use Rattle.kd_expr.specs.declared.fault.ExprFault.TheVariants as faults
use Rattle.kd_expr.specs.declared.fault.SyntaxFault.{SyntaxFault}
use Rattle.kd_expr.specs.declared.fault.SyntaxFault.TheVariants as syntax
use Rattle.kd_expr.specs.declared.fault.TypeFault.{TypeFault}
use Rattle.kd_expr.specs.declared.fault.TypeFault.TheVariants as types

-- the number of each fault of reading
abbrev pub expr_fault_number : ExprFault → ℕ
expr_fault_number (faults.BadToken at) = 20
expr_fault_number (faults.Expected at) = 21
expr_fault_number (faults.NumberTooLarge at) = 22
expr_fault_number (faults.TooNested at) = 23
expr_fault_number faults.TooLong = 24
expr_fault_number (faults.UnknownName at) = 25
expr_fault_number faults.Memory = 91

-- the number of each fault of typing
abbrev pub type_fault_number : TypeFault → ℕ
type_fault_number (types.WantsBool at) = 26
type_fault_number (types.WantsBytes at) = 27
type_fault_number (types.WantsInt at) = 28

-- a fault of tokens, as the caller of the reader sees it
abbrev pub outer_fault : SyntaxFault → ExprFault
outer_fault (syntax.BadToken at) = faults.BadToken at
outer_fault (syntax.Expected at) = faults.Expected at
outer_fault (syntax.NumberTooLarge at) = faults.NumberTooLarge at
outer_fault (syntax.TooNested at) = faults.TooNested at
outer_fault (syntax.UnknownName at) = faults.UnknownName at
outer_fault syntax.Memory = faults.Memory
