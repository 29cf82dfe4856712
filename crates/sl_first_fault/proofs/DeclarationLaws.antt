-- Declarations: a variable behind what it is made from, and its own rules.
use Rattle.std.proofs.Common.{◌≡◌, not, ◌||◌, List, ◌++◌, Option, Result, refl, sym, ap, ◌∙◌, append_assoc}
use Rattle.sl_base.specs.declared.place.Place.{Place}
use Rattle.sl_base.specs.declared.scalar.Scalar.{Scalar}
use Rattle.sl_syntax.specs.declared.operator.Access.TheVariants as a
use Rattle.sl_syntax.specs.declared.tree.declaration.ContainerType.{ContainerType}
use Rattle.sl_syntax.specs.declared.tree.element.ReferenceHead.{ReferenceHead}
use Rattle.sl_syntax.specs.declared.tree.identifier.Identifier.{Identifier}
use Rattle.sl_syntax.specs.Tree as s
use Rattle.sl_syntax.specs.Tree.{Expr, Initializer}
use Rattle.sl_typing.specs.declared.expr_type.ExprType.{ExprType}
use Rattle.sl_typing.specs.declared.expr_type.ExprType.TheVariants as types
use Rattle.sl_typing.specs.declared.fault.Fault.{Fault}
use Rattle.sl_typing.specs.declared.rules.TheConstants as rule
use Rattle.sl_typing.specs.Contexts.{Context, declare}
use Rattle.sl_typing.specs.Faults.{broken}
use Rattle.sl_typing.specs.Flow.{behind_value, behind_initializer, behind_declaration}
use Rattle.sl_typing.specs.Ranges.{reference_type, may_be_bound, head_frees_const}
use Rattle.sl_typing.specs.Sites.{behind}
use Rattle.sl_typing.specs.StatementFaults.{expr_faults, value_faults, initializer_faults, twice_faults, limit_faults, declaration_faults}
use Rattle.sl_typing.specs.StatementFaults.{wrong_value, has_no_constructor, wrong_initializer, is_disordered}
use Rattle.sl_typing.specs.TypeOf.{type_of}
use Rattle.sl_typing.specs.Types.{is_number, is_iterator, is_written, value_type}
use Rattle.sl_typing.specs.Typing.{first_of}
use Rattle.sl_first_fault.specs.declared.stop.Stop.{Stop}
use Rattle.sl_first_fault.specs.Means.Steps.{Done, Answers}
use Rattle.sl_expr_sites.proofs.ScopeLaws.{behind_value-scope, behind_initializer-scope}
use Rattle.sl_first_fault.proofs.StepLaws.{Answers-along, declares, group-2, group-3}

-- what the declaration of a variable answers, whatever its own rules are
abbrev pub Declares : {A : Type 0} → Result A Stop → Option Fault → Identifier → ExprType → Context → Context → Type 0
Declares r own x t mid new = (k : Context) (zs : List Fault) → mid.scope ≡ k.scope → own ≡ first_of zs
    → Answers r (zs ++ limit_faults k (declare x t mid) x.place) new (declare x t mid)

pub scalar : {A : Type 0} (r : Result A Stop) (own : Option Fault) (g mid new : Context) (at : Place) (type : Scalar) (x : Identifier) (v : Option Expr)
    → Done (value_faults g v) mid (behind_value g v) → own ≡ first_of (twice_faults g x ++ broken (wrong_value g v) at rule.WRONG_TYPE)
    → Declares r own x (types.Scalar type) mid new
    → Answers r (declaration_faults g (s.declares_scalar at type x v)) new (behind_declaration g (s.declares_scalar at type x v))
scalar r own g mid new at type x v done e h =
    let t = types.Scalar type in
    let wrong = broken (wrong_value g v) at rule.WRONG_TYPE in
    let b = behind_value g v in
    let past = limit_faults g (declare x t b) x.place in
    Answers-along r (value_faults g v ++ ((twice_faults g x ++ wrong) ++ past)) new (declare x t b)
    (group-2 (value_faults g v) (twice_faults g x) wrong past)
    (declares r own (twice_faults g x ++ wrong) x t t new g refl done (behind_value-scope g v) e h)

pub auto : {A : Type 0} (r : Result A Stop) (own : Option Fault) (g mid new : Context) (at : Place) (x : Identifier) (e : Expr) (t : ExprType)
    → t ≡ value_type (type_of g.scope e) → Done (expr_faults g e) mid (behind g e)
    → own ≡ first_of (twice_faults g x ++ broken (not (is_number (type_of g.scope e) || is_iterator (type_of g.scope e))) x.place rule.AUTO)
    → Declares r own x t mid new → Answers r (declaration_faults g (s.declares_auto at x e)) new (behind_declaration g (s.declares_auto at x e))
auto r own g mid new at x e t same done f h =
    let u = value_type (type_of g.scope e) in
    let wrong = broken (not (is_number (type_of g.scope e) || is_iterator (type_of g.scope e))) x.place rule.AUTO in
    let past = limit_faults g (declare x u (behind g e)) x.place in
    Answers-along r (expr_faults g e ++ ((twice_faults g x ++ wrong) ++ past)) new (declare x u (behind g e))
    (group-2 (expr_faults g e) (twice_faults g x) wrong past)
    (declares r own (twice_faults g x ++ wrong) x t u new g same done refl f h)

pub reference : {A : Type 0} (r : Result A Stop) (own : Option Fault) (g mid new : Context) (head : ReferenceHead) (x : Identifier) (e : Expr) (t : ExprType)
    → t ≡ reference_type head (type_of g.scope e) → Done (expr_faults g e) mid (behind g e)
    → own ≡ first_of (twice_faults g x ++ broken (not (may_be_bound g.scope e)) head.place rule.WRONG_TYPE
    ++ broken (head_frees_const head (is_written (type_of g.scope e))) head.place rule.WRITE_TO_CONST)
    → Declares r own x t mid new
    → Answers r (declaration_faults g (s.declares_reference head x e)) new (behind_declaration g (s.declares_reference head x e))
reference r own g mid new head x e t same done f h =
    let u = reference_type head (type_of g.scope e) in
    let unbound = broken (not (may_be_bound g.scope e)) head.place rule.WRONG_TYPE in
    let frees = broken (head_frees_const head (is_written (type_of g.scope e))) head.place rule.WRITE_TO_CONST in
    let past = limit_faults g (declare x u (behind g e)) x.place in
    Answers-along r (expr_faults g e ++ (((twice_faults g x ++ unbound) ++ frees) ++ past)) new (declare x u (behind g e))
    (group-3 (expr_faults g e) (twice_faults g x) unbound frees past)
    (declares r own (twice_faults g x ++ unbound ++ frees) x t u new g same done refl f h)

pub container : {A : Type 0} (r : Result A Stop) (own : Option Fault) (g mid new : Context) (ct : ContainerType) (x : Identifier) (v : Initializer)
    → Done (initializer_faults g v) mid (behind_initializer g v)
    → own ≡ first_of (twice_faults g x ++ (broken (has_no_constructor ct.form v) ct.place rule.NO_SUCH_CALL
    ++ broken (wrong_initializer g ct.form v) ct.place rule.WRONG_TYPE ++ broken (is_disordered g v) ct.place rule.ORDER_OF_EFFECTS))
    → Declares r own x (types.Container a.Whole ct.form) mid new
    → Answers r (declaration_faults g (s.declares_container ct x v)) new (behind_declaration g (s.declares_container ct x v))
container r own g mid new ct x v done f h =
    let t = types.Container a.Whole ct.form in
    let vs = initializer_faults g v in
    let none = broken (has_no_constructor ct.form v) ct.place rule.NO_SUCH_CALL in
    let wrong = broken (wrong_initializer g ct.form v) ct.place rule.WRONG_TYPE in
    let order = broken (is_disordered g v) ct.place rule.ORDER_OF_EFFECTS in
    let b = behind_initializer g v in
    let past = limit_faults g (declare x t b) x.place in
    let own_rules = twice_faults g x ++ none ++ wrong ++ order in
    Answers-along r (vs ++ (own_rules ++ past)) new (declare x t b)
    (sym (append_assoc vs own_rules past) ∙ ap (λ (l : List Fault). l ++ past) (group-3 vs (twice_faults g x) none wrong order))
    (declares r own own_rules x t t new g refl done (behind_initializer-scope g v) (f ∙ ap first_of (group-2 (twice_faults g x) none wrong order)) h)
