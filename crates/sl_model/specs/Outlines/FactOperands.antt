-- How the fact rules look at operands: the row of a call, the variables in scope, and the forms that rules name.
--
-- Restates no section of ISO/IEC 14882:2017: which forms a rule names is this project's own.
-- Chosen here: a call is known by the form and the call of its row in the library's table, a container by its number, and a literal by
-- the number that it is in the type it is converted to. An operand that is a call, `++`, `--` or an iterator operator gives its value to
-- a fresh variable; the t-th fresh one has the t-th number behind those in scope.
use Rattle.std.specs.Prelude.{ℕ, zero, suc, ◌+◌, ◌==◌, Bool, true, false, ◌&&◌, List, [], ◌∷◌, length, slice_get, is_some}
use Rattle.std.specs.Prelude.{ℤ, Option, Some, None, option_map}
use Rattle.std.specs.Prelude.{if◌then◌else◌}
use Rattle.sl_base.specs.declared.form.Form.{Form}
use Rattle.sl_specs.specs.declared.call.Call.{Call}
use Rattle.sl_specs.specs.declared.call.Call.TheVariants as c
use Rattle.sl_specs.specs.Rows.{Row}
use Rattle.sl_specs.specs.Table.{table, same_call}
use Rattle.sl_syntax.specs.declared.operator.Access.{Access}
use Rattle.sl_syntax.specs.declared.operator.Access.TheVariants as access
use Rattle.sl_syntax.specs.declared.operator.Arithmetic.TheVariants as o
use Rattle.sl_syntax.specs.declared.typed.callee.Callee.{Callee}
use Rattle.sl_syntax.specs.declared.typed.callee.Callee.TheVariants as callees
use Rattle.sl_syntax.specs.Typed.{Expr, literal, held, iterator, convert, negate, logical_not, logical_and, logical_or, arithmetic, comparison, call}
use Rattle.sl_syntax.specs.Typed.{container, handed_scalar, scalar, Operands, none, with, Typed}
use Rattle.sl_model.specs.Numbers.{converted}

-- what sort of iterator variable it is: one that writes, one into a const container, or a reference
pub data IteratorSort : Type 0 where
  writing_iterator : IteratorSort
  const_iterator : IteratorSort
  element_reference : IteratorSort

-- a container in scope: its form, and whether it may not be changed
pub record ContainerSort : Type 0 where
  pub form : Form
  pub is_const : Bool

-- the text, and what is in scope at a place of it: how many scalars, and the sorts of containers and iterators by their numbers
pub record FactScope : Type 0 where
  pub text : Typed
  pub scalars : ℕ
  pub containers : List ContainerSort
  pub iterators : List IteratorSort

-- how many containers are in scope
abbrev pub container_count : FactScope → ℕ
container_count s = length s.containers

-- the t-th fresh iterator
abbrev pub fresh_iterator : FactScope → ℕ → ℕ
fresh_iterator s t = length s.iterators + t

-- the t-th fresh scalar
abbrev pub fresh_scalar : FactScope → ℕ → ℕ
fresh_scalar s t = s.scalars + t

-- the form of a container in scope
abbrev pub form_at : FactScope → ℕ → Option Form
form_at s x = option_map (λ (k : ContainerSort). k.form) (slice_get s.containers x)

-- the row of what is called
unfoldable pub table_row : Callee → Option Row
unfolding table
table_row (callees.Row n) = slice_get table n
table_row (callees.Appends n) = slice_get table n
table_row callee = None

-- the row is a member call of this name, on this object
abbrev pub object_of : Call → Option Row → Option ℕ → Option ℕ
object_of name (Some r) (Some x) = if is_some r.form && same_call r.call name then Some x else None
object_of name r x = None

-- the container that a member call of this name is on
abbrev pub called_on : Call → Expr → Option ℕ
called_on name (call h ops) = object_of name (table_row h.callee) h.object
called_on name e = None

-- `c.begin()`, `c.end()`, `c.size()` and `c.empty()`
abbrev pub begin_of : Expr → Option ℕ
begin_of e = called_on c.Begin e

-- the container whose end it is
abbrev pub end_of : Expr → Option ℕ
end_of e = called_on c.End e

-- the container whose size it is
abbrev pub size_of : Expr → Option ℕ
size_of e = called_on c.Size e

-- a literal, as the number that it is in its type
abbrev pub literal_of : Expr → Option ℤ
literal_of (literal ty z) = Some z
literal_of (convert ty (literal from z)) = Some (converted ty z)
literal_of e = None

-- a container as an operand
abbrev pub container_of : Expr → Option ℕ
container_of (container x) = Some x
container_of e = None

-- a scalar variable
abbrev pub variable_of : Expr → Option ℕ
variable_of (held (scalar x at)) = Some x
variable_of e = None

-- the scalar that has the facts of an operand: a variable, or the t-th fresh one; what is calculated, a literal and what is converted
-- have none
abbrev pub scalar_of : FactScope → ℕ → Expr → Option ℕ
scalar_of s t (held (scalar x at)) = Some x
scalar_of s t (literal ty z) = None
scalar_of s t (convert ty a) = None
scalar_of s t (negate ty at a) = None
scalar_of s t (logical_not at a) = None
scalar_of s t (logical_and at a b) = None
scalar_of s t (logical_or at a b) = None
scalar_of s t (arithmetic op ty at a b) = None
scalar_of s t (comparison op at a b) = None
scalar_of s t (container x) = None
scalar_of s t (handed_scalar x) = Some x
scalar_of s t e = Some (fresh_scalar s t)

-- the iterator that has the facts of an operand: a variable, or the t-th fresh one
abbrev pub iterator_of : FactScope → ℕ → Expr → ℕ
iterator_of s t (iterator x) = x
iterator_of s t e = fresh_iterator s t

-- the operand at a place
abbrev pub operand_at : ℕ → Operands → Option Expr
operand_at n none = None
operand_at zero (with a rest) = Some a
operand_at (suc n) (with a rest) = operand_at n rest

-- how many operands there are
abbrev pub operand_count : Operands → ℕ
operand_count none = 0
operand_count (with a rest) = operand_count rest + 1

-- the containers among operands
abbrev pub container_operands : Operands → List ℕ
container_operands none = []
container_operands (with a rest) = elim (container_of a) [ None ↦ container_operands rest | Some x ↦ x ∷ container_operands rest ]

-- A range of a container: `c.begin(), c.end()`, or with an iterator for one of the two, which has to be inside c.
pub record WrittenRange : Type 0 where
  pub over : ℕ
  pub bounds : List ℕ

-- a range by its container and the iterators that stand for one of the two
abbrev pub range_over : ℕ → List ℕ → WrittenRange
range_over x bounds = record { over = x; bounds = bounds }

-- it is there, and this number
abbrev pub is_number : ℕ → Option ℕ → Bool
is_number x None = false
is_number x (Some y) = x == y

-- the range that two operands write, by what each begins or ends and the iterators that have their facts
abbrev pub range_between : Option ℕ → Option ℕ → ℕ → ℕ → Option WrittenRange
range_between starts (Some x) first last = if is_number x starts then Some (range_over x []) else Some (range_over x (first ∷ []))
range_between (Some x) None first last = Some (range_over x (last ∷ []))
range_between None None first last = None

-- the range that the first two operands write, which are read as the t-th and the next
abbrev pub range_of : FactScope → ℕ → Operands → Option WrittenRange
range_of s t (with a (with b rest)) = range_between (begin_of a) (end_of b) (iterator_of s t a) (iterator_of s (t + 1) b)
range_of s t ops = None

-- the container all of whose elements the first two operands range over: `c.begin(), c.end()`
abbrev pub whole_of : Operands → Option ℕ
whole_of (with a (with b rest)) = elim (end_of b) [ None ↦ None | Some x ↦ if is_number x (begin_of a) then Some x else None ]
whole_of ops = None

-- the number k of `c.size() + k`
abbrev pub more_than_size : ℕ → Expr → Option ℤ
more_than_size x (arithmetic o.Add ty at a b) = if is_number x (size_of a) then literal_of b else None
more_than_size x e = None

-- a container of this access may not be changed
abbrev pub is_const_access : Access → Bool
is_const_access access.Const = true
is_const_access a = false
