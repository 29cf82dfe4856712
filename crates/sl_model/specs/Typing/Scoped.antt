-- A text in which each variable that is used is in scope, and each operand has the shape that is asked for. Variables are
-- numbered as they come into scope, so a variable is in scope where its number is below the count of its sort.
--
-- Restates ISO/IEC 14882:2017, [basic.scope.declarative] and [basic.scope.block] (a variable is in scope from its declaration to
-- the end of its block), [stmt.for] and [stmt.ranged] (a head's variables are in scope in the body), [stmt.select] and
-- [stmt.iter] (what a part declares isn't in scope behind it), [expr.call] (as many operands as parameters), [stmt.return] (a
-- function gives what it says) and [basic.start.main].
-- Chosen here: a part of a statement that declares something is a block, a container is made by a declaration alone, and no
-- container is handed to two parameters of one call. References to elements count among the iterators.
use Rattle.std.specs.Prelude.{◌≡◌, ℕ, ◌+◌, ◌<◌, Bool, true, false, List, [], ◌∷◌, Option, Some, None, slice_get}
use Rattle.sl_syntax.specs.declared.operator.Comparison.TheVariants as comparisons
use Rattle.sl_syntax.specs.declared.typed.callee.Callee.{Callee}
use Rattle.sl_syntax.specs.declared.typed.callee.Callee.TheVariants as callees
use Rattle.sl_syntax.specs.declared.typed.element.Taken.{Taken}
use Rattle.sl_syntax.specs.declared.typed.element.Taken.TheVariants as taken
use Rattle.sl_syntax.specs.declared.typed.head.Head.{Head}
use Rattle.sl_syntax.specs.declared.typed.operator.Operator.TheVariants as operators
use Rattle.sl_syntax.specs.declared.typed.parameter.ParameterKind.{ParameterKind}
use Rattle.sl_syntax.specs.declared.typed.parameter.ParameterKind.TheVariants as parameter
use Rattle.sl_syntax.specs.Typed.{Expr, literal, held, iterator as iterator_held, convert, negate, logical_not, logical_and, logical_or, arithmetic}
use Rattle.sl_syntax.specs.Typed.{comparison, increment, move, call, own_call, first, second, container, handed_scalar, Left, scalar, reference}
use Rattle.sl_syntax.specs.Typed.{element, Operands, none, with, Cond, read, not_read, test, always, Printed, text, endline, number as printed_number}
use Rattle.sl_syntax.specs.Typed.{Effect, reads, prints, evaluates, assigns, updates, moves_to, Declaration, unset_scalar, set_scalar, set_iterator}
use Rattle.sl_syntax.specs.Typed.{binds_reference, makes, First, no_first, declares_first, does_first, Stmt, block, declares, choice, choice_else}
use Rattle.sl_syntax.specs.Typed.{while, for, range_for, break, continue, gives_back, does, Stmts, no_more, followed, Function, Typed}
use Rattle.sl_model.specs.Runs.Good.{AreBelow, AreApart}
use Rattle.sl_model.specs.Typing.Shapes.{Shape, no_value, a_number, a_stamp, an_element, Gift, a_value, HasParts, Signature, shape_of_result, gift_of}
use Rattle.sl_model.specs.Typing.Shapes.{gifts_of, AllSuit, containers_in, signature_of}

-- how many variables of each sort are in scope
pub record Counts : Type 0 where
  pub scalars : ℕ
  pub conts : ℕ
  pub iters : ℕ

-- none are
abbrev pub no_counts : Counts
no_counts = record { scalars = 0; conts = 0; iters = 0 }

-- one scalar more
abbrev pub one_scalar : Counts → Counts
one_scalar c = record c { scalars = c.scalars + 1 }

-- one container more
abbrev pub one_container : Counts → Counts
one_container c = record c { conts = c.conts + 1 }

-- one iterator more, or one reference to an element
abbrev pub one_iterator : Counts → Counts
one_iterator c = record c { iters = c.iters + 1 }

-- the object of a call is in scope
abbrev pub HasObject : Counts → Option ℕ → Type 0
HasObject c None = Unit {0}
HasObject c (Some x) = x < c.conts

-- a call of the library has its object in scope, and makes a container or not
abbrev pub IsCall : Signature → Counts → Bool → Head → Type 0
IsCall g c b h = (g.makes h.callee ≡ b) × HasObject c h.object

-- a function is there, its parameters get what suits them, and no container goes to two of them
abbrev pub IsOwnCall : Signature → ℕ → List Gift → Type 0
IsOwnCall g f gifts = (elim (slice_get g.functions f) [ None ↦ ⊥ | Some h ↦ AllSuit h.parameters gifts ]) × AreApart (containers_in gifts)

abbrev mutual
  -- an expression uses what is in scope
  pub InExpr : Signature → Counts → Expr → Type 0
  InExpr g c (literal ty z) = Unit {0}
  InExpr g c (held l) = InLeft g c l
  InExpr g c (iterator_held x) = x < c.iters
  InExpr g c (convert ty a) = InExpr g c a
  InExpr g c (negate ty at a) = InExpr g c a
  InExpr g c (logical_not at a) = InExpr g c a
  InExpr g c (logical_and at a b) = InExpr g c a × InExpr g c b
  InExpr g c (logical_or at a b) = InExpr g c a × InExpr g c b
  InExpr g c (arithmetic op ty at a b) = InExpr g c a × InExpr g c b
  InExpr g c (comparison op at a b) = InExpr g c a × InExpr g c b
  InExpr g c (increment d x ty at l) = InLeft g c l
  InExpr g c (move x it h ops) = (it < c.iters) × ((g.shape h.callee ≡ a_stamp) × (IsCall g c false h × InOperands g c ops))
  InExpr g c (call h ops) = IsCall g c false h × InOperands g c ops
  InExpr g c (own_call f at ops) = IsOwnCall g f (gifts_of g ops) × InOperands g c ops
  InExpr g c (first at a) = HasParts (gift_of g a) × InExpr g c a
  InExpr g c (second at a) = HasParts (gift_of g a) × InExpr g c a
  InExpr g c (container x) = x < c.conts
  InExpr g c (handed_scalar x) = x < c.scalars

  -- a left side uses what is in scope
  pub InLeft : Signature → Counts → Left → Type 0
  InLeft g c (scalar x at) = x < c.scalars
  InLeft g c (reference x at name part) = x < c.iters
  InLeft g c (element h ops) = (g.shape h.callee ≡ an_element) × (IsCall g c false h × InOperands g c ops)

  -- operands use what is in scope
  pub InOperands : Signature → Counts → Operands → Type 0
  InOperands g c none = Unit {0}
  InOperands g c (with a rest) = InExpr g c a × InOperands g c rest

-- a condition uses what is in scope
abbrev pub InCond : Signature → Counts → Cond → Type 0
InCond g c (read xs) = AreBelow xs c.scalars
InCond g c (not_read xs) = AreBelow xs c.scalars
InCond g c (test a) = InExpr g c a
InCond g c always = Unit {0}

-- an item of a print uses what is in scope
abbrev pub InPrinted : Signature → Counts → Printed → Type 0
InPrinted g c (text bytes) = Unit {0}
InPrinted g c endline = Unit {0}
InPrinted g c (printed_number a) = InExpr g c a

-- a print uses what is in scope
abbrev pub InPrint : Signature → Counts → List Printed → Type 0
InPrint g c [] = Unit {0}
InPrint g c (p ∷ ps) = InPrinted g c p × InPrint g c ps

-- an effect uses what is in scope
abbrev pub InEffect : Signature → Counts → Effect → Type 0
InEffect g c (reads xs) = AreBelow xs c.scalars
InEffect g c (prints ps) = InPrint g c ps
InEffect g c (evaluates a) = InExpr g c a
InEffect g c (assigns l a) = InExpr g c a × InLeft g c l
InEffect g c (updates op ty left_ty at l a) = InExpr g c a × InLeft g c l
InEffect g c (moves_to it a) = (it < c.iters) × ((gift_of g a ≡ a_value a_stamp) × InExpr g c a)

-- the initialiser of a declaration uses what is in scope
abbrev pub InDeclaration : Signature → Counts → Declaration → Type 0
InDeclaration g c (unset_scalar ty) = Unit {0}
InDeclaration g c (set_scalar ty a) = InExpr g c a
InDeclaration g c (set_iterator a) = (gift_of g a ≡ a_value a_stamp) × InExpr g c a
InDeclaration g c (binds_reference h ops) = (g.shape h.callee ≡ an_element) × (IsCall g c false h × InOperands g c ops)
InDeclaration g c (makes form h ops) = IsCall g c true h × InOperands g c ops

-- what is in scope after a declaration
abbrev pub with_declaration : Declaration → Counts → Counts
with_declaration (unset_scalar ty) c = one_scalar c
with_declaration (set_scalar ty a) c = one_scalar c
with_declaration (set_iterator a) c = one_iterator c
with_declaration (binds_reference h ops) c = one_iterator c
with_declaration (makes form h ops) c = one_container c

-- the first part of a `for` uses what is in scope
abbrev pub InFirst : Signature → Counts → First → Type 0
InFirst g c no_first = Unit {0}
InFirst g c (declares_first d) = InDeclaration g c d
InFirst g c (does_first e) = InEffect g c e

-- what is in scope after the first part of a `for`
abbrev pub with_first : First → Counts → Counts
with_first no_first c = c
with_first (declares_first d) c = with_declaration d c
with_first (does_first e) c = c

-- the last part of a `for` uses what is in scope
abbrev pub InLast : Signature → Counts → Option Effect → Type 0
InLast g c None = Unit {0}
InLast g c (Some e) = InEffect g c e

-- what is in scope in the body of a range-for: its two hidden iterators come first, then the element, a number or a reference
abbrev pub with_range : Taken → Counts → Counts
with_range taken.Value c = one_scalar (one_iterator (one_iterator c))
with_range taken.Reference c = one_iterator (one_iterator (one_iterator c))

-- what a range-for asks by itself makes no container; it gets an element, and its step gives an iterator
pub record AsksWell (g : Signature) : Type 0 where
  pub tests : g.makes (callees.Hidden (operators.Compare comparisons.NotEqual)) ≡ false
  pub reads_one : g.makes (callees.Hidden operators.Dereference) ≡ false
  pub steps : g.makes (callees.Hidden operators.Increment) ≡ false
  pub element_read : g.shape (callees.Hidden operators.Dereference) ≡ an_element
  pub stamp_stepped : g.shape (callees.Hidden operators.Increment) ≡ a_stamp

-- a part of a statement isn't a declaration by itself
abbrev pub IsPart : Stmt → Type 0
IsPart (declares d) = ⊥
IsPart a = Unit {0}

-- what a function gives back has the shape that is due
abbrev pub GivesBack : Signature → Counts → Shape → Option Expr → Type 0
GivesBack g c shape None = shape ≡ no_value
GivesBack g c shape (Some a) = (gift_of g a ≡ a_value shape) × InExpr g c a

-- what is in scope after a statement
abbrev pub with_stmt : Stmt → Counts → Counts
with_stmt (declares d) c = with_declaration d c
with_stmt a c = c

abbrev mutual
  -- a statement uses what is in scope, and gives back values of a shape
  pub InStmt : Signature → Shape → Counts → Stmt → Type 0
  InStmt g shape c (block site all) = InStmts g shape c all
  InStmt g shape c (declares d) = InDeclaration g c d
  InStmt g shape c (choice k a) = InCond g c k × (IsPart a × InStmt g shape c a)
  InStmt g shape c (choice_else k a b) = InCond g c k × ((IsPart a × InStmt g shape c a) × (IsPart b × InStmt g shape c b))
  InStmt g shape c (while l k a) = InCond g c k × (IsPart a × InStmt g shape c a)
  InStmt g shape c (for l head k last a) = InFirst g c head × (InCond g (with_first head c) k
      × (InLast g (with_first head c) last × (IsPart a × InStmt g shape (with_first head c) a)))
  InStmt g shape c (range_for l by x at name a) = (x < c.conts) × (AsksWell g × (IsPart a × InStmt g shape (with_range by c) a))
  InStmt g shape c break = Unit {0}
  InStmt g shape c continue = Unit {0}
  InStmt g shape c (gives_back a) = GivesBack g c shape a
  InStmt g shape c (does e) = InEffect g c e

  -- statements in turn use what is in scope
  pub InStmts : Signature → Shape → Counts → Stmts → Type 0
  InStmts g shape c no_more = Unit {0}
  InStmts g shape c (followed a rest) = InStmt g shape c a × InStmts g shape (with_stmt a c) rest

-- what is in scope after a parameter
abbrev pub with_parameter : ParameterKind → Counts → Counts
with_parameter (parameter.Value ty) c = one_scalar c
with_parameter (parameter.Reference ty) c = one_scalar c
with_parameter (parameter.Container access form) c = one_container c
with_parameter (parameter.Iterator b form) c = one_iterator c

-- what is in scope after parameters
abbrev pub with_parameters : List ParameterKind → Counts → Counts
with_parameters [] c = c
with_parameters (k ∷ ks) c = with_parameters ks (with_parameter k c)

-- the body of a function uses what is in scope, and gives back what is due
abbrev pub IsScopedFunction : Signature → Function → Type 0
IsScopedFunction g f = InStmt g (shape_of_result f.result) (with_parameters f.parameters no_counts) f.body

-- A text over a library that gives these shapes and makes containers at these calls: each function uses what is in scope, and
-- `main` is there, has no parameters and gives a number.
pub record IsScoped (shape : Callee → Shape) (makes_one : Callee → Bool) (p : Typed) : Type 0 where
  pub bodies : (f : ℕ) (h : Function) → slice_get p.functions f ≡ Some h → IsScopedFunction (signature_of shape makes_one p) h
  pub main : Function
  pub main_there : slice_get p.functions p.main ≡ Some main
  pub main_parameters : main.parameters ≡ []
  pub main_result : shape_of_result main.result ≡ a_number
