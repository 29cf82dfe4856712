-- Which trees follow the grammar: operators bind as ISO/IEC 14882:2017, [expr], says and binary ones group to the left, an `else` belongs to the
-- nearest `if` that has none ([stmt.if]), what must not be empty isn't, and the depth is at most 64.
use Rattle.std.specs.Prelude.{◌≡◌, ℕ, ◌<◌, ◌≤◌, Bool, true, false, List, [], ◌∷◌, length, Option, Some, None, ⊤}
use Rattle.sl_base.specs.declared.limits.TheConstants.{TREE_DEPTH}
use Rattle.sl_base.specs.declared.word.Word.TheVariants as w
use Rattle.sl_syntax.specs.declared.token_kind.TokenKind.TheVariants as kind
use Rattle.sl_syntax.specs.declared.operator.Arithmetic.{Arithmetic}
use Rattle.sl_syntax.specs.declared.operator.Arithmetic.TheVariants as arithmetic
use Rattle.sl_syntax.specs.declared.operator.BinaryOperator.{BinaryOperator}
use Rattle.sl_syntax.specs.declared.operator.BinaryOperator.TheVariants as binary
use Rattle.sl_syntax.specs.declared.operator.Comparison.{Comparison}
use Rattle.sl_syntax.specs.declared.operator.Comparison.TheVariants as comparison
use Rattle.sl_syntax.specs.declared.tree.effect.Read.{Read}
use Rattle.sl_syntax.specs.Depth.{depth}
use Rattle.sl_syntax.specs.TokenKinds.{kind_of}
use Rattle.sl_syntax.specs.Tree as t
use Rattle.sl_syntax.specs.Tree.{Expr, Exprs, Initializer, Declaration, Out, Effect, Cond, First, Stmt, Item, Items, Function, Program}

-- How tightly things bind, by the grammar's rules: `expr` 1, `conj` 2, `eq` 3, `rel` 4, `sum` 5, `term` 6, `unary` 7, `post` 8, `prim` 9.
abbrev pub arithmetic_level : Arithmetic → ℕ
arithmetic_level arithmetic.Add = 5
arithmetic_level arithmetic.Subtract = 5
arithmetic_level arithmetic.Multiply = 6
arithmetic_level arithmetic.Divide = 6
arithmetic_level arithmetic.Remainder = 6

abbrev pub comparison_level : Comparison → ℕ
comparison_level comparison.Equal = 3
comparison_level comparison.NotEqual = 3
comparison_level comparison.Less = 4
comparison_level comparison.LessEqual = 4
comparison_level comparison.Greater = 4
comparison_level comparison.GreaterEqual = 4

abbrev pub binary_level : BinaryOperator → ℕ
binary_level binary.Or = 1
binary_level binary.And = 2
binary_level (binary.Comparison op) = comparison_level op
binary_level (binary.Arithmetic op) = arithmetic_level op

-- the rule to which an expression belongs
abbrev pub level : Expr → ℕ
level (t.number place n) = 9
level (t.truth place v) = 9
level (t.name x) = 9
level (t.call f xs) = 9
level (t.library_call f xs) = 9
level (t.parentheses place x) = 9
level (t.prefix op place x) = 7
level (t.binary x op place y) = binary_level op
level (t.postfix x op place) = 8
level (t.index x place y) = 8
level (t.member_call x f xs) = 8
level (t.member x s place f) = 8

-- the operands belong to the rules that the grammar asks for; a call of the library names a lib that the grammar doesn't
abbrev mutual
  pub IsExpr : Expr → Type 0
  IsExpr (t.number place n) = ⊤
  IsExpr (t.truth place v) = ⊤
  IsExpr (t.name x) = ⊤
  IsExpr (t.call f xs) = AreExprs xs
  IsExpr (t.library_call f xs) = (kind_of (w.Lib f.name) ≡ kind.Library) × AreExprs xs
  IsExpr (t.parentheses place x) = IsExpr x
  IsExpr (t.prefix op place x) = (7 ≤ level x) × IsExpr x
  IsExpr (t.binary x op place y) = (binary_level op ≤ level x) × (binary_level op < level y) × IsExpr x × IsExpr y
  IsExpr (t.postfix x op place) = (8 ≤ level x) × IsExpr x
  IsExpr (t.index x place y) = (8 ≤ level x) × IsExpr x × IsExpr y
  IsExpr (t.member_call x f xs) = (8 ≤ level x) × IsExpr x × AreExprs xs
  IsExpr (t.member x s place f) = (8 ≤ level x) × IsExpr x

  pub AreExprs : Exprs → Type 0
  AreExprs t.none = ⊤
  AreExprs (t.with x xs) = IsExpr x × AreExprs xs

-- what may be left out
abbrev pub IfThere : {A : Type 0} → (A → Type 0) → Option A → Type 0
IfThere P None = ⊤
IfThere P (Some x) = P x

-- each of these
abbrev pub Each : {A : Type 0} → (A → Type 0) → List A → Type 0
Each P [] = ⊤
Each P (x ∷ xs) = P x × Each P xs

-- not empty
abbrev pub AreSome : {A : Type 0} → List A → Type 0
AreSome xs = 0 < length xs

abbrev pub IsSomeList : Exprs → Type 0
IsSomeList t.none = ⊥
IsSomeList (t.with x xs) = ⊤

abbrev pub IsInitializer : Initializer → Type 0
IsInitializer t.absent = ⊤
IsInitializer (t.copies x) = ⊤
IsInitializer (t.braces equal xs) = AreExprs xs
IsInitializer (t.arguments xs) = IsSomeList xs × AreExprs xs

abbrev pub IsDeclaration : Declaration → Type 0
IsDeclaration (t.declares_scalar place s x v) = IfThere IsExpr v
IsDeclaration (t.declares_auto place x v) = IsExpr v
IsDeclaration (t.declares_reference head x v) = IsExpr v
IsDeclaration (t.declares_container c x i) = IsInitializer i

abbrev pub IsRead : Read → Type 0
IsRead r = AreSome r.variables

abbrev pub IsOut : Out → Type 0
IsOut (t.text place bytes) = ⊤
IsOut (t.end_line place) = ⊤
IsOut (t.value x) = (5 ≤ level x) × IsExpr x

abbrev pub IsEffect : Effect → Type 0
IsEffect (t.reads r) = IsRead r
IsEffect (t.prints place outs) = AreSome outs × Each IsOut outs
IsEffect (t.evaluates x) = IsExpr x
IsEffect (t.assigns x op place y) = IsExpr x × IsExpr y

abbrev pub IsCond : Cond → Type 0
IsCond (t.tests_read r) = IsRead r
IsCond (t.tests_no_read place r) = IsRead r
IsCond (t.tests x) = IsExpr x

abbrev pub IsFirst : First → Type 0
IsFirst (t.first_scalar place s x v) = IsExpr v
IsFirst (t.first_auto place x v) = IsExpr v
IsFirst (t.first_effect e) = IsEffect e

-- it ends in an `if` that has no `else`
abbrev pub ends_open : Stmt → Bool
ends_open (t.block opens items closes) = false
ends_open (t.choice place c x) = true
ends_open (t.choice_else place c x y) = ends_open y
ends_open (t.while place c x) = ends_open x
ends_open (t.for place first c step x) = ends_open x
ends_open (t.range_for place e x v body) = ends_open body
ends_open (t.break place) = false
ends_open (t.continue place) = false
ends_open (t.gives_back place v) = false
ends_open (t.does place e) = false

abbrev mutual
  pub IsStmt : Stmt → Type 0
  IsStmt (t.block opens items closes) = AreItems items
  IsStmt (t.choice place c x) = IsCond c × IsStmt x
  IsStmt (t.choice_else place c x y) = IsCond c × IsStmt x × (ends_open x ≡ false) × IsStmt y
  IsStmt (t.while place c x) = IsCond c × IsStmt x
  IsStmt (t.for place first c step x) = IfThere IsFirst first × IfThere IsCond c × IfThere IsEffect step × IsStmt x
  IsStmt (t.range_for place e x v body) = IsStmt body
  IsStmt (t.break place) = ⊤
  IsStmt (t.continue place) = ⊤
  IsStmt (t.gives_back place v) = IfThere IsExpr v
  IsStmt (t.does place e) = IsEffect e

  pub IsItem : Item → Type 0
  IsItem (t.declares d) = IsDeclaration d
  IsItem (t.states s) = IsStmt s

  pub AreItems : Items → Type 0
  AreItems t.no_more = ⊤
  AreItems (t.followed x xs) = IsItem x × AreItems xs

abbrev pub IsFunction : Function → Type 0
IsFunction f = AreItems f.items

-- a program that follows the grammar
pub record Shaped (p : Program) : Type 0 where
  pub some : AreSome p
  pub each : Each IsFunction p
  pub depth : depth p ≤ TREE_DEPTH
