-- What a container is made from, as operands of the constructor that makes it.
use Rattle.std.proofs.Common.{◌≡◌, ℕ, ◌==◌, Bool, false, List, [], ◌∷◌, length, replicate, refl, sym, ◌∙◌, ap, Option, Vec, Result, Ok, Err, IfOk}
use Rattle.std.specs.declared.alloc.AllocError.{AllocError}
use Rattle.std.specs.declared.alloc.Global.{Global}
use Rattle.sl_base.specs.declared.form.Form.{Form}
use Rattle.sl_base.specs.declared.scalar.Scalar.TheVariants as c
use Rattle.sl_syntax.specs.declared.tree.expr.Expr.{Expr as ExprCode}
use Rattle.sl_syntax.specs.Tree as s
use Rattle.sl_syntax.specs.TreeView.{exprs_of}
use Rattle.sl_syntax.specs.TypedView.{operands_of}
use Rattle.sl_syntax.specs.declared.typed.expr.Expr.{Expr as TypedCode}
use Rattle.sl_typing.specs.declared.scope.Scope.{Scope}
use Rattle.sl_typing.specs.Candidates.{Found, list_constructor}
use Rattle.sl_typing.specs.Contexts.{Context}
use Rattle.sl_typing.specs.Numbering.{operands, as_number}
use Rattle.sl_typing.specs.StatementNumbering.{making_row, operands_in}
use Rattle.sl_expr_types.proofs.LastLaws.{size-exprs_of}

-- braces with elements
pub braces_more : (g : Context) (form : Form) (equal : Bool) (xs : List ExprCode) → (length xs == 0) ≡ false
    → list_constructor form ≡ making_row g form (s.braces equal (exprs_of xs))
braces_more g form equal [] e = absurd (cc)
braces_more g form equal (x ∷ xs) e = refl

-- elements in braces, as operands
pub braces_operands : (g : Context) (row : Option Found) (equal : Bool) (xs : List ExprCode)
    → operands g.scope (length g.sites) (replicate (length xs) (as_number c.Int)) (exprs_of xs) ≡ operands_in g row (s.braces equal (exprs_of xs))
braces_operands g row equal xs =
    ap (λ (n : ℕ). operands g.scope (length g.sites) (replicate n (as_number c.Int)) (exprs_of xs)) (sym (size-exprs_of xs))

-- the same of an answer
pub braces_answer : (g : Context) (row : Option Found) (equal : Bool) (xs ys : List ExprCode) (h : Scope) (n : ℕ)
    (r : Result (Vec TypedCode Global) AllocError) → n ≡ length g.sites → h ≡ g.scope → ys ≡ xs
    → IfOk r (λ v. operands_of v.items ≡ operands h n (replicate (length ys) (as_number c.Int)) (exprs_of ys))
    → IfOk r (λ v. operands_of v.items ≡ operands_in g row (s.braces equal (exprs_of xs)))
braces_answer g row equal xs ys h n (Ok v) en eh ey k = k ∙ (rw (en, eh, ey) (braces_operands g row equal xs))
braces_answer g row equal xs ys h n (Err e) en eh ey k = k
