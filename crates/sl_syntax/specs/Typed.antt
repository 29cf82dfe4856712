-- A typed text as plain data: what the code's typed tree says, without where it lies in memory. Variables, functions, rows of the library,
-- sites, loops and names are numbers, from 0. What has no tree below it is the code's own.
--
-- The variables of a function are numbered in the order in which they come into scope: scalars, containers and iterators each by themselves,
-- references to elements among the iterators. So a declaration doesn't say its number. Loops are numbered through the whole text, in source
-- order.
use Rattle.std.specs.Prelude.{ℕ, List, [], ◌∷◌, Option, ℤ}
use Rattle.sl_base.specs.declared.form.Form.{Form}
use Rattle.sl_base.specs.declared.place.Place.{Place}
use Rattle.sl_base.specs.declared.scalar.Scalar.{Scalar}
use Rattle.sl_syntax.specs.declared.operator.Arithmetic.{Arithmetic}
use Rattle.sl_syntax.specs.declared.operator.Comparison.{Comparison}
use Rattle.sl_syntax.specs.declared.typed.element.ElementPart.{ElementPart}
use Rattle.sl_syntax.specs.declared.typed.element.Taken.{Taken}
use Rattle.sl_syntax.specs.declared.typed.head.Head.{Head}
use Rattle.sl_syntax.specs.declared.typed.parameter.ParameterKind.{ParameterKind}
use Rattle.sl_syntax.specs.declared.typed.step.Fix.{Fix}
use Rattle.sl_syntax.specs.declared.typed.step.Step.{Step}
use Rattle.sl_syntax.specs.declared.typed.variable.Variable.{Variable}

mutual
  -- an expression: each conversion is a node, and parentheses are none
  pub data Expr : Type 0 where
    -- a number of a type; `true` and `false` are 1 and 0
    literal : Scalar → ℤ → Expr
    -- the number at a left side
    held : Left → Expr
    -- an iterator variable
    iterator : ℕ → Expr
    convert : Scalar → Expr → Expr
    negate : Scalar → Place → Expr → Expr
    logical_not : Place → Expr → Expr
    logical_and : Place → Expr → Expr → Expr
    logical_or : Place → Expr → Expr → Expr
    arithmetic : Arithmetic → Scalar → Place → Expr → Expr → Expr
    comparison : Comparison → Place → Expr → Expr → Expr
    -- `++` and `--` of a number
    increment : Step → Fix → Scalar → Place → Left → Expr
    -- a call that moves an iterator variable, and the operands behind it
    move : Fix → ℕ → Head → Operands → Expr
    -- a call of the library that gives no element
    call : Head → Operands → Expr
    -- a call of a function of the text
    own_call : ℕ → Place → Operands → Expr
    -- `.first` and `.second` of a pair
    first : Place → Expr → Expr
    second : Place → Expr → Expr
    -- a container as an operand
    container : ℕ → Expr
    -- a scalar that is handed to a parameter by reference
    handed_scalar : ℕ → Expr

  -- a left side: where a number is read from or written to
  pub data Left : Type 0 where
    -- a variable, at its name
    scalar : ℕ → Place → Left
    -- a use of a reference to an element, by its number among the iterators, at its name: the name's number, and what is read or written
    reference : ℕ → Place → ℕ → ElementPart → Left
    -- a call of the library that gives an element
    element : Head → Operands → Left

  -- operands in their order
  pub data Operands : Type 0 where
    none : Operands
    with : Expr → Operands → Operands

-- a condition; `always` is the missing one of a `for`
pub data Cond : Type 0 where
  read : List ℕ → Cond
  not_read : List ℕ → Cond
  test : Expr → Cond
  always : Cond

-- an item of a print
pub data Printed : Type 0 where
  text : List ℕ → Printed
  endline : Printed
  number : Expr → Printed

-- an effect
pub data Effect : Type 0 where
  reads : List ℕ → Effect
  prints : List Printed → Effect
  evaluates : Expr → Effect
  -- the left side takes the value
  assigns : Left → Expr → Effect
  -- the operator works in the first type, and the left side has the second
  updates : Arithmetic → Scalar → Scalar → Place → Left → Expr → Effect
  -- an iterator variable takes an iterator
  moves_to : ℕ → Expr → Effect

-- a declaration of a scalar, an iterator, a reference to an element that a call gives, or a container that a call makes
pub data Declaration : Type 0 where
  unset_scalar : Scalar → Declaration
  set_scalar : Scalar → Expr → Declaration
  set_iterator : Expr → Declaration
  binds_reference : Head → Operands → Declaration
  makes : Form → Head → Operands → Declaration

-- the first part of a `for`
pub data First : Type 0 where
  no_first : First
  declares_first : Declaration → First
  does_first : Effect → First

mutual
  -- a statement; a loop begins with its number
  pub data Stmt : Type 0 where
    -- the site of its brace, where it declares a container
    block : Option ℕ → Stmts → Stmt
    declares : Declaration → Stmt
    choice : Cond → Stmt → Stmt
    choice_else : Cond → Stmt → Stmt → Stmt
    while : ℕ → Cond → Stmt → Stmt
    for : ℕ → First → Cond → Option Effect → Stmt → Stmt
    -- what its variable is, the container, the place of the `for` and the container's name; two hidden iterators come into scope, and then
    -- the variable
    range_for : ℕ → Taken → ℕ → Place → ℕ → Stmt → Stmt
    break : Stmt
    continue : Stmt
    gives_back : Option Expr → Stmt
    does : Effect → Stmt

  -- statements in their order
  pub data Stmts : Type 0 where
    no_more : Stmts
    followed : Stmt → Stmts → Stmts

-- a function: its body is a block, and `close` the place of that block's closing brace; `variables` are all that it declares, parameters
-- first and in source order
pub record Function : Type 0 where
  pub name : List ℕ
  pub parameters : List ParameterKind
  pub result : Option ParameterKind
  pub variables : List Variable
  pub body : Stmt
  pub close : Place

-- A typed text: its functions, the number of `main`, the places of its sites and of the words of its loops, both in source order, the names
-- of its variables, and in ascending order 0, 1, each literal and its two neighbours; `true` and `false` count as the literals 1 and 0.
pub record Typed : Type 0 where
  pub functions : List Function
  pub main : ℕ
  pub sites : List Place
  pub loops : List Place
  pub names : List (List ℕ)
  pub constants : List ℤ

-- these operands
abbrev pub operands_from : List Expr → Operands
operands_from [] = none
operands_from (a ∷ rest) = with a (operands_from rest)

-- these statements
abbrev pub stmts_from : List Stmt → Stmts
stmts_from [] = no_more
stmts_from (a ∷ rest) = followed a (stmts_from rest)
