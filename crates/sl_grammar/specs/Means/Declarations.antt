-- How types, declarations, parameters and results are read. The number is how many nodes may stand on a way below the declaration.
use Rattle.std.specs.Prelude.{ℕ, ◌+◌, max, nat_lt, drop, Bool, true, false, List, [], ◌∷◌, Option, Some, None, if◌then◌else◌, Ok}
use Rattle.sl_base.specs.declared.form.Form.{Form}
use Rattle.sl_base.specs.declared.mark.Mark.TheVariants as m
use Rattle.sl_base.specs.declared.place.Place.{Place}
use Rattle.sl_base.specs.declared.scalar.Scalar.{Scalar}
use Rattle.sl_base.specs.declared.scalar.Scalar.TheVariants as c
use Rattle.sl_base.specs.declared.token.Token.{Token}
use Rattle.sl_syntax.specs.declared.token_kind.TokenKind.{TokenKind}
use Rattle.sl_syntax.specs.declared.token_kind.TokenKind.TheVariants as k
use Rattle.sl_syntax.specs.declared.tree.declaration.ContainerType.{ContainerType}
use Rattle.sl_syntax.specs.declared.tree.element.ElementType.{ElementType}
use Rattle.sl_syntax.specs.declared.tree.element.ElementType.TheVariants as y
use Rattle.sl_syntax.specs.declared.tree.element.ReferenceHead.{ReferenceHead}
use Rattle.sl_syntax.specs.declared.tree.function.IteratorType.{IteratorType}
use Rattle.sl_syntax.specs.declared.tree.function.Param.{Param}
use Rattle.sl_syntax.specs.declared.tree.function.Param.TheVariants as r
use Rattle.sl_syntax.specs.declared.tree.function.ResultType.{ResultType}
use Rattle.sl_syntax.specs.declared.tree.function.ResultType.TheVariants as z
use Rattle.sl_syntax.specs.Tree as t
use Rattle.sl_syntax.specs.Tree.{Expr, Exprs, Initializer, Declaration}
use Rattle.sl_syntax.specs.Written.{is_map}
use Rattle.sl_grammar.specs.Means.Expressions.{expr, list, list_before}
use Rattle.sl_grammar.specs.Means.Steps.{Reader, Tall, ◌>>=◌, ◌>>◌, pure, refuse, only, skip, kind_at, here, is_mark, mark, identifier, all_behind}

abbrev pub int_by : TokenKind → Reader (Unit {0})
int_by (k.Scalar c.Int) = skip
int_by _ = refuse

-- `int`
unfoldable pub int : Reader (Unit {0})
int = λ ts. int_by (kind_at ts) ts

-- `<int>` or `<int, int>`
abbrev pub elements_by : Bool → Reader (Unit {0})
elements_by false = do
  mark m.Less
  int
  mark m.Greater
  pure tt
elements_by true = do
  mark m.Less
  int
  mark m.Comma
  int
  mark m.Greater
  pure tt

unfoldable pub container_type : Form → Reader ContainerType
container_type form = λ ts. (do
  skip
  elements_by (is_map form)
  pure (record { place = here ts; form = form })) ts

-- `::iterator` behind a container's type
unfoldable pub iterator_behind : ContainerType → Reader IteratorType
iterator_behind type = do
  mark m.ColonColon
  name ← identifier
  pure (record { container = type; name = name })

-- `int` or `auto`
abbrev pub element_by : TokenKind → Reader ElementType
element_by (k.Scalar c.Int) = λ ts. Ok (y.Int, drop 1 ts)
element_by k.Auto = λ ts. Ok (y.Auto, drop 1 ts)
element_by _ = refuse

-- `int&`, whose first word may be `const`, and stands at this place
abbrev pub open_head : Bool → Place → Reader ReferenceHead
open_head is_const place = do
  element ← (λ ts. element_by (kind_at ts) ts)
  mark m.And
  pure (record { place = place; is_const = is_const; element = element })

abbrev pub head_by : TokenKind → Place → Reader ReferenceHead
head_by k.Const place = skip >> open_head true place
head_by _ place = open_head false place

-- the type of a reference
unfoldable pub reference_head : Reader ReferenceHead
reference_head = λ ts. head_by (kind_at ts) (here ts) ts

-- a word and the next begin the type of a reference
abbrev pub begins_head : TokenKind → TokenKind → Bool
begins_head k.Const second = true
begins_head (k.Scalar c.Int) second = is_mark m.And second
begins_head k.Auto second = is_mark m.And second
begins_head _ second = false

abbrev pub begins_reference : List Token → Bool
begins_reference ts = begins_head (kind_at ts) (kind_at (drop 1 ts))

module _ (depth_left : ℕ) where
  -- a reference's type is a node below the declaration
  unfoldable pub reference_declaration : Reader (Tall Declaration)
  reference_declaration = do
    head ← reference_head
    x ← identifier
    mark m.Equal
    v ← expr (depth_left + 1) 1
    pure (t.declares_reference head x v.0, max 1 v.1 + 1)

  -- `= x`, which may be left out
  unfoldable pub optional_value : Reader (Tall (Option Expr))
  optional_value = λ ts. if is_mark m.Equal (kind_at ts) then (do
    skip
    v ← expr (depth_left + 1) 1
    pure (Some v.0, v.1)) ts else Ok ((None, 0), ts)

  unfoldable pub scalar_declaration : Scalar → Reader (Tall Declaration)
  scalar_declaration scalar = λ ts. (do
    skip
    x ← identifier
    v ← optional_value
    pure (t.declares_scalar (here ts) scalar x v.0, v.1 + 1)) ts

  unfoldable pub auto_declaration : Reader (Tall Declaration)
  auto_declaration = λ ts. (do
    skip
    x ← identifier
    mark m.Equal
    v ← expr (depth_left + 1) 1
    pure (t.declares_auto (here ts) x v.0, v.1 + 1)) ts

  -- what stands behind the first brace, with the last
  unfoldable pub braces : Bool → Reader (Tall Initializer)
  braces equal = do
    xs ← list_before (expr (depth_left + 1) 1) (expr depth_left 1) depth_left m.RightBrace
    mark m.RightBrace
    pure (t.braces equal xs.0, xs.1)

  abbrev pub behind_equal_by : TokenKind → Reader (Tall Initializer)
  behind_equal_by k.Name = identifier >>= (λ x. pure (t.copies x, 0))
  behind_equal_by (k.Mark m.LeftBrace) = skip >> braces true
  behind_equal_by _ = refuse

  unfoldable pub constructed : Reader (Tall Initializer)
  constructed = do
    skip
    xs ← list (expr (depth_left + 1) 1) (expr depth_left 1) depth_left
    mark m.RightParenthesis
    pure (t.arguments xs.0, xs.1)

  abbrev pub initializer_by : TokenKind → Reader (Tall Initializer)
  initializer_by (k.Mark m.Equal) = skip >> (λ ts. behind_equal_by (kind_at ts) ts)
  initializer_by (k.Mark m.LeftBrace) = skip >> braces false
  initializer_by (k.Mark m.LeftParenthesis) = constructed
  initializer_by _ = pure (t.absent, 0)

  unfoldable pub initializer : Reader (Tall Initializer)
  initializer = λ ts. initializer_by (kind_at ts) ts

  -- the type is a node below the declaration
  unfoldable pub container_declaration : Form → Reader (Tall Declaration)
  container_declaration form = only (nat_lt 0 depth_left) (do
    type ← container_type form
    x ← identifier
    i ← initializer
    pure (t.declares_container type x i.0, max 1 i.1 + 1))

-- behind the type of a parameter
unfoldable pub scalar_param : Place → Scalar → Reader (Tall Param)
scalar_param place scalar = λ ts.
    if is_mark m.And (kind_at ts) then (do
      skip
      x ← identifier
      pure (r.Reference place scalar x, 1)) ts
    else (do
      x ← identifier
      pure (r.Value place scalar x, 1)) ts

-- behind the type of a container
unfoldable pub type_param : ContainerType → Reader (Tall Param)
type_param type = λ ts.
    if is_mark m.ColonColon (kind_at ts) then (do
      i ← iterator_behind type
      x ← identifier
      pure (r.Iterator i x, 2)) ts
    else (do
      mark m.And
      x ← identifier
      pure (r.Container type x, 2)) ts

abbrev pub container_by : TokenKind → Reader ContainerType
container_by (k.Container form) = container_type form
container_by _ = refuse

unfoldable pub const_param : Reader (Tall Param)
const_param = λ ts. (do
  skip
  type ← (λ us. container_by (kind_at us) us)
  mark m.And
  x ← identifier
  pure (r.ConstContainer (here ts) type x, 2)) ts

abbrev pub param_by : TokenKind → Reader (Tall Param)
param_by (k.Scalar scalar) = λ ts. (skip >> scalar_param (here ts) scalar) ts
param_by (k.Container form) = container_type form >>= type_param
param_by k.Const = const_param
param_by _ = refuse

unfoldable pub param : Reader (Tall Param)
param = λ ts. param_by (kind_at ts) ts

abbrev pub comma_param : Reader (Tall Param)
comma_param = mark m.Comma >> param

-- the parameters before a `)`
unfoldable pub params : Reader (Tall (List Param))
params = λ ts.
    if is_mark m.RightParenthesis (kind_at ts) then Ok (([], 0), ts)
    else (param >>= (λ x. all_behind (is_mark m.Comma) comma_param (x.0 ∷ [], x.1))) ts

-- the type that a function gives back, with its height
abbrev pub result_by : TokenKind → Reader (Tall ResultType)
result_by k.Void = λ ts. Ok ((z.Void, 0), drop 1 ts)
result_by (k.Scalar scalar) = λ ts. Ok ((z.Scalar scalar, 0), drop 1 ts)
result_by (k.Container form) = do
  type ← container_type form
  i ← iterator_behind type
  pure (z.Iterator i, 2)
result_by _ = refuse

unfoldable pub result : Reader (Tall ResultType)
result = λ ts. result_by (kind_at ts) ts
