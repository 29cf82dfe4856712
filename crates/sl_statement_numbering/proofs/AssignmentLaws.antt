-- An assignment is typed as its parts are.
use Rattle.std.proofs.Common.{◌≡◌, ℕ, [], ◌∷◌, Option, refl}
use Rattle.sl_base.specs.declared.place.Place.{Place}
use Rattle.sl_syntax.specs.declared.operator.Assignment.{Assignment}
use Rattle.sl_syntax.specs.Tree as s
use Rattle.sl_syntax.specs.Tree.{Expr}
use Rattle.sl_syntax.specs.Typed as t
use Rattle.sl_typing.specs.declared.expr_type.ExprType.{ExprType}
use Rattle.sl_typing.specs.Contexts.{Context, with_sites}
use Rattle.sl_typing.specs.Numbering.{told}
use Rattle.sl_typing.specs.Sites.{behind, assignment_site}
use Rattle.sl_typing.specs.StatementNumbering.{assigned, assignment_number, typed_expr, typed_effect}
use Rattle.sl_typing.specs.TypeOf.{type_of}

pub assignment_typed : (g a b : Context) (x y : Expr) (op : Assignment) (at : Place) (site : Option ℕ) (u v : ExprType) (m n : Option ℕ) (d e : t.Expr)
    → a ≡ behind g x → b ≡ with_sites (assignment_site a.scope x op at) a → site ≡ assignment_number a x op
    → u ≡ type_of g.scope x → m ≡ told g.scope x → d ≡ typed_expr g x → v ≡ type_of b.scope y → n ≡ told b.scope y → e ≡ typed_expr b y
    → assigned op at site u v (m ∷ n ∷ []) d e ≡ typed_effect g (s.assigns x op at y)
assignment_typed g a b x y op at site u v m n d e ea eb es eu em ed ev en ee = rw (es, eu, em, ed, ev, en, ee, eb, ea) refl
