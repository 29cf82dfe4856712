-- A function value that reads expressions to a depth, and what expressions are as data, with their height.
use Rattle.std.specs.Prelude.{◌≡◌, ℕ, ◌+◌, ◌-◌, ◌<◌, ◌≤◌, max, Result, Ok, Err, IfOk, List, map, Vec}
use Rattle.std.specs.declared.alloc.Global.{Global}
use denote.Ref.{MutBor}
use Rattle.sl_base.specs.declared.token.Token.{Token}
use Rattle.sl_syntax.specs.declared.tree.expr.Expr.{Expr as ExprCode}
use Rattle.sl_syntax.specs.declared.tree.identifier.Identifier.{Identifier}
use Rattle.sl_syntax.specs.Depth.{height, list_height}
use Rattle.sl_syntax.specs.Tree.{Expr, Exprs, member_call}
use Rattle.sl_syntax.specs.TreeView.{expr_of, exprs_of}
use Rattle.sl_grammar.specs.declared.fault.Fault.{Fault}
use Rattle.sl_grammar.specs.declared.fault.Fault.TheVariants.{Memory}
use Rattle.sl_grammar.specs.Means.Expressions.{expr, arguments}
use Rattle.sl_grammar.specs.Means.Steps.{Reads, Reader, Tall, ◌>>=◌, pure}

-- what is read, with its height
abbrev pub measured : {A : Type 0} → (A → ℕ) → A → Tall A
measured height x = (x, height x)

-- an expression whose height the code has found, and one whose height it leaves
abbrev pub tall_expr : ExprCode × ℕ → Tall Expr
tall_expr x = (expr_of x.0, x.1)

abbrev pub whole_expr : ExprCode → Tall Expr
whole_expr x = measured height (expr_of x)

-- expressions in the same two ways, as the tree has them, and as a list
abbrev pub tall_exprs : Vec ExprCode Global × ℕ → Tall Exprs
tall_exprs x = (exprs_of x.0.items, x.1)

abbrev pub tall_list : Vec ExprCode Global × ℕ → Tall (List Expr)
tall_list x = (map expr_of x.0.items, x.1)

abbrev pub whole_exprs : Vec ExprCode Global → Tall Exprs
whole_exprs xs = measured list_height (exprs_of xs.items)

-- reads expressions that are less high than the number that it is given, up to a depth
pub record Nests (depth_left : ℕ) (pre : Global → MutBor (List Token) → ℕ → ℕ → Type 0)
    (post : Global → MutBor (List Token) → ℕ → ℕ → Result (ExprCode × ℕ) Fault → MutBor (List Token) → Type 0) : Type 0 where
  pub callable : (alloc : Global) (old : MutBor (List Token)) (depth least : ℕ) → depth ≤ depth_left → pre alloc old depth least
  pub reads : (alloc : Global) (old new : MutBor (List Token)) (depth least : ℕ) (r : Result (ExprCode × ℕ) Fault) → depth ≤ depth_left
      → post alloc old depth least r new → Reads tall_expr (expr depth least old.now) r new.now
  pub low : (alloc : Global) (old new : MutBor (List Token)) (depth least : ℕ) (r : Result (ExprCode × ℕ) Fault) → depth ≤ depth_left
      → post alloc old depth least r new → IfOk r (λ x. x.1 < depth)

-- A part of an expression, by the readers of what is one node and two nodes deeper.
abbrev pub nested : {A : Type 0} → ((ℕ → Reader (Tall Expr)) → (ℕ → Reader (Tall Expr)) → ℕ → A) → ℕ → A
nested reader depth_left = reader (expr depth_left) (expr (depth_left - 1)) depth_left

-- A list in an expression, whose others are one node deeper than a list of one.
abbrev pub listed : {A : Type 0} → (Reader (Tall Expr) → Reader (Tall Expr) → ℕ → A) → ℕ → A
listed reader depth_left = reader (expr depth_left 1) (expr (depth_left - 1) 1) (depth_left - 1)

-- The outcome of a step that takes no token, unless memory ran out.
abbrev pub OkOrMemory : {X : Type 0} → Result X Fault → (X → Type 0) → Type 0
OkOrMemory (Ok x) P = P x
OkOrMemory (Err e) P = e ≡ Memory

-- what stands behind the name of a member that is called
abbrev pub called : (inner smaller : ℕ → Reader (Tall Expr)) → ℕ → Tall Expr → Identifier → Reader (Tall Expr)
called inner smaller depth_left left f = arguments inner smaller depth_left >>= (λ xs. pure (member_call left.0 f xs.0, max left.1 xs.1 + 1))
