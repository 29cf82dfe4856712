-- The tree of a program as plain data: what the code's tree says, without where it lies in memory. A type for each rule of the grammar, a
-- constructor for each alternative, and its parts in their order. docs/GRAMMAR.md has the rules.
use Rattle.std.specs.Prelude.{ℕ, Bool, List, [], ◌∷◌, Option}
use Rattle.sl_base.specs.declared.place.Place.{Place}
use Rattle.sl_base.specs.declared.scalar.Scalar.{Scalar}
use Rattle.sl_syntax.specs.declared.operator.Assignment.{Assignment}
use Rattle.sl_syntax.specs.declared.operator.BinaryOperator.{BinaryOperator}
use Rattle.sl_syntax.specs.declared.operator.PostfixOperator.{PostfixOperator}
use Rattle.sl_syntax.specs.declared.operator.PrefixOperator.{PrefixOperator}
use Rattle.sl_syntax.specs.declared.operator.Selector.{Selector}
use Rattle.sl_syntax.specs.declared.tree.declaration.ContainerType.{ContainerType}
use Rattle.sl_syntax.specs.declared.tree.effect.Read.{Read}
use Rattle.sl_syntax.specs.declared.tree.element.Element.{Element}
use Rattle.sl_syntax.specs.declared.tree.element.ReferenceHead.{ReferenceHead}
use Rattle.sl_syntax.specs.declared.tree.function.Param.{Param}
use Rattle.sl_syntax.specs.declared.tree.function.ResultType.{ResultType}
use Rattle.sl_syntax.specs.declared.tree.identifier.Identifier.{Identifier}

mutual
  -- an expression: a node for each operator, for each piece behind an operand and for each pair of parentheses, ISO/IEC 14882:2017, [expr]
  pub data Expr : Type 0 where
    number : Place → ℕ → Expr
    truth : Place → Bool → Expr
    name : Identifier → Expr
    -- f(..), a function of the program
    call : Identifier → Exprs → Expr
    -- std::f(..)
    library_call : Identifier → Exprs → Expr
    parentheses : Place → Expr → Expr
    prefix : PrefixOperator → Place → Expr → Expr
    binary : Expr → BinaryOperator → Place → Expr → Expr
    postfix : Expr → PostfixOperator → Place → Expr
    index : Expr → Place → Expr → Expr
    -- v.f(..)
    member_call : Expr → Identifier → Exprs → Expr
    -- p.first, it->first
    member : Expr → Selector → Place → Identifier → Expr

  -- expressions in their order
  pub data Exprs : Type 0 where
    none : Exprs
    with : Expr → Exprs → Exprs

-- what a container is made from
pub data Initializer : Type 0 where
  absent : Initializer
  copies : Identifier → Initializer
  -- whether a `=` stands before the braces
  braces : Bool → Exprs → Initializer
  arguments : Exprs → Initializer

-- a declaration, ISO/IEC 14882:2017, [dcl.dcl]
pub data Declaration : Type 0 where
  declares_scalar : Place → Scalar → Identifier → Option Expr → Declaration
  declares_auto : Place → Identifier → Expr → Declaration
  declares_reference : ReferenceHead → Identifier → Expr → Declaration
  declares_container : ContainerType → Identifier → Initializer → Declaration

-- an item of a print
pub data Out : Type 0 where
  text : Place → List ℕ → Out
  end_line : Place → Out
  value : Expr → Out

-- what is done for its effect; a print has its place and its items
pub data Effect : Type 0 where
  reads : Read → Effect
  prints : Place → List Out → Effect
  evaluates : Expr → Effect
  assigns : Expr → Assignment → Place → Expr → Effect

-- what is tested
pub data Cond : Type 0 where
  tests_read : Read → Cond
  tests_no_read : Place → Read → Cond
  tests : Expr → Cond

-- the first part of a `for`
pub data First : Type 0 where
  first_scalar : Place → Scalar → Identifier → Expr → First
  first_auto : Place → Identifier → Expr → First
  first_effect : Effect → First

mutual
  -- a statement, ISO/IEC 14882:2017, [stmt.stmt]
  pub data Stmt : Type 0 where
    block : Place → Items → Place → Stmt
    choice : Place → Cond → Stmt → Stmt
    choice_else : Place → Cond → Stmt → Stmt → Stmt
    while : Place → Cond → Stmt → Stmt
    for : Place → Option First → Option Cond → Option Effect → Stmt → Stmt
    -- how its variable takes an element; the variable, and the container
    range_for : Place → Element → Identifier → Identifier → Stmt → Stmt
    break : Place → Stmt
    continue : Place → Stmt
    gives_back : Place → Option Expr → Stmt
    does : Place → Effect → Stmt

  -- an item of a block: a declaration with its `;`, or a statement
  pub data Item : Type 0 where
    declares : Declaration → Item
    states : Stmt → Item

  -- items in their order
  pub data Items : Type 0 where
    no_more : Items
    followed : Item → Items → Items

-- a function: its body is a block, which opens and closes
pub record Function : Type 0 where
  pub place : Place
  pub result : ResultType
  pub name : Identifier
  pub params : List Param
  pub opens : Place
  pub items : Items
  pub closes : Place

-- a program: its functions
abbrev pub Program : Type 0
Program = List Function

-- these expressions
abbrev pub exprs_from : List Expr → Exprs
exprs_from [] = none
exprs_from (x ∷ xs) = with x (exprs_from xs)

-- these items
abbrev pub items_from : List Item → Items
items_from [] = no_more
items_from (x ∷ xs) = followed x (items_from xs)
