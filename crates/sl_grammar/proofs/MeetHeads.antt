-- The types of references and iterators, a declaration of a reference, and what a function gives back.
use Rattle.std.proofs.Common.{◌≡◌, ℕ, ◌+◌, ◌<◌, max, Bool, true, false, List, [], ◌∷◌, ◌++◌, drop, Ok, Err, refl, arith}
use Rattle.std.specs.Prelude.{codes}
use Rattle.sl_base.specs.declared.form.Form.{Form}
use Rattle.sl_base.specs.declared.mark.Mark.TheVariants as m
use Rattle.sl_base.specs.declared.scalar.Scalar.TheVariants as c
use Rattle.sl_base.specs.declared.token.Token.{Token}
use Rattle.sl_base.specs.declared.word.Word.TheVariants as w
use Rattle.sl_syntax.specs.declared.token_kind.TokenKind.{TokenKind}
use Rattle.sl_syntax.specs.declared.token_kind.TokenKind.TheVariants as k
use Rattle.sl_syntax.specs.declared.tree.declaration.ContainerType.{ContainerType}
use Rattle.sl_syntax.specs.declared.tree.element.ElementType.{ElementType}
use Rattle.sl_syntax.specs.declared.tree.element.ElementType.TheVariants as y
use Rattle.sl_syntax.specs.declared.tree.element.ReferenceHead.{ReferenceHead}
use Rattle.sl_syntax.specs.declared.tree.function.IteratorType.{IteratorType}
use Rattle.sl_syntax.specs.declared.tree.function.ResultType.TheVariants as z
use Rattle.sl_syntax.specs.declared.tree.identifier.Identifier.{Identifier}
use Rattle.sl_syntax.specs.Depth.{height, declaration_height, result_height}
use Rattle.sl_syntax.specs.Shaped.{IsExpr, IsDeclaration}
use Rattle.sl_syntax.specs.Tree as t
use Rattle.sl_syntax.specs.Written as s
use Rattle.sl_syntax.specs.Written.{Written, plain, scalar_word, container_written, iterator_written, element_word, reference_words, reference_written}
use Rattle.sl_syntax.specs.Written.{written, declaration_written, result_written}
use Rattle.sl_grammar.specs.declared.fault.Fault.TheVariants.{Memory, Grammar}
use Rattle.sl_grammar.specs.Means.Declarations.{container_type, iterator_behind, element_by, open_head, head_by, reference_head, reference_declaration}
use Rattle.sl_grammar.specs.Means.Declarations.{result_by, result}
use Rattle.sl_grammar.specs.Means.Expressions.{expr}
use Rattle.sl_grammar.specs.Means.Steps.{Outcome, kind_at, here}
use Rattle.sl_grammar.proofs.MeetSteps.{Met, MetTall, met, missing, past_mark, past_name, reads, step, stops, stops_first, stops_in}
use Rattle.sl_grammar.proofs.Rows.{Anything}
use Rattle.sl_grammar.proofs.SoundDeclarations.{type-took}
use Rattle.sl_grammar.proofs.SoundExpressions.{whole-part}
use Rattle.sl_grammar.proofs.SoundSteps.{one_plain}
use Rattle.sl_grammar.proofs.Spelling as spelling
use Rattle.sl_grammar.proofs.Spelling.{Spelled, ◌⨾◌, no_words, respelled}
use Rattle.sl_grammar.proofs.ViableDeclarations.{type-begun}
use Rattle.sl_grammar.proofs.ViableExpressions.{value-stops}
use Rattle.sl_grammar.proofs.ViableSteps.{begun, placed-begun, rewritten, some_expr, some_name, unfinished, ◌⨠◌}

pub type-met : (form : Form) (ts : List Token) → kind_at ts ≡ k.Container form → Met container_written Anything ts (container_type form ts)
type-met form ts e = by-outcome (container_type form ts) refl
  where
    by-outcome : (o : Outcome ContainerType) → container_type form ts ≡ o → Met container_written Anything ts o
    by-outcome (Ok y) h = reads y.0 (type-took form ts y e h) tt
    by-outcome (Err (Grammar n)) h = stops (record { place = here ts; form = form }) tt (type-begun form ts n e h)
    by-outcome (Err Memory) h = record { meets = tt }

-- behind the container's type
pub iterator-met : (type : ContainerType) (ts us : List Token) → Spelled (container_written type) ts us
    → Met iterator_written Anything ts (iterator_behind type us)
unfolding iterator_behind
iterator-met type ts us typed =
    let of : Identifier → IteratorType = λ x. record { container = type; name = x } in
    past_mark m.ColonColon us _ (stops (of some_name) tt (missing typed _)) (λ p vs colons.
    past_name vs _ (stops (of some_name) tt (typed ⨠ missing colons _)) (λ x rest name.
    reads (of x) (typed ⨾ (colons ⨾ name)) tt))

element-by : (kind : TokenKind) (ts : List Token) → kind_at ts ≡ kind
    → Met (λ (x : ElementType). plain (element_word x) ∷ []) Anything ts (element_by kind ts)
element-by (k.Scalar c.Int) ts e = reads y.Int (one_plain ts (k.Scalar c.Int) (element_word y.Int) e refl) tt
element-by (k.Scalar _) ts e = stops_first y.Int tt
element-by k.Auto ts e = reads y.Auto (one_plain ts k.Auto (element_word y.Auto) e refl) tt
element-by _ ts e = stops_first y.Int tt

-- what stands before the type of the element
abbrev opening : Bool → List Written
opening false = []
opening true = plain (w.Key (codes "const")) ∷ []

opened-words : (is_const : Bool) (x : ElementType)
    → opening is_const ++ (plain (element_word x) ∷ s.mark m.And ∷ []) ≡ reference_words is_const x
opened-words false x = refl
opened-words true x = refl

open-met : (is_const : Bool) (ts us : List Token) → Spelled (opening is_const) ts us
    → Met reference_written Anything ts (open_head is_const (here ts) us)
open-met is_const ts us opened =
    let head : ElementType → ReferenceHead = λ x. record { place = here ts; is_const = is_const; element = x } in
    step (element_by (kind_at us) us) _ (element-by (kind_at us) us refl)
    (λ n v. stops (head v.tree) tt
    (placed-begun (here ts) (rewritten (opened-words is_const v.tree) (opened ⨠ unfinished (begun v) (s.mark m.And ∷ [])))))
    (λ x vs typed _.
    past_mark m.And vs _
    (stops (head x) tt (placed-begun (here ts) (rewritten (opened-words is_const x) (opened ⨠ missing typed (s.mark m.And ∷ [])))))
    (λ p rest and. reads (head x) (spelling.begun (respelled (opened-words is_const x) (opened ⨾ (typed ⨾ and)))) tt))

head-by : (kind : TokenKind) (ts : List Token) → kind_at ts ≡ kind → Met reference_written Anything ts (head_by kind (here ts) ts)
head-by k.Const ts e = open-met true ts (drop 1 ts) (one_plain ts k.Const (w.Key (codes "const")) e refl)
head-by _ ts e = open-met false ts ts (no_words ts)

pub head-met : (ts : List Token) → Met reference_written Anything ts (reference_head ts)
unfolding reference_head
head-met ts = head-by (kind_at ts) ts refl

pub value-met : (depth_left : ℕ) (ts : List Token) → MetTall written IsExpr height depth_left ts (expr (depth_left + 1) 1 ts)
value-met depth_left ts =
    met written IsExpr height depth_left (expr (depth_left + 1) 1) (whole-part depth_left) (value-stops depth_left) ts

-- a declaration of a reference
pub reference-met : (depth_left : ℕ) → 0 < depth_left → (ts : List Token)
    → MetTall declaration_written IsDeclaration declaration_height (depth_left + 1) ts (reference_declaration depth_left ts)
unfolding reference_declaration
reference-met depth_left high ts =
    step (reference_head ts) _ (head-met ts)
    (λ n v. stops_in _ _ _ _ (t.declares_reference v.tree some_name some_expr) tt (omega (arith, high)) (unfinished (begun v) _))
    (λ head us headed _.
    past_name us _ (stops_in _ _ _ _ (t.declares_reference head some_name some_expr) tt (omega (arith, high)) (missing headed _)) (λ x vs name.
    past_mark m.Equal vs _ (stops_in _ _ _ _ (t.declares_reference head x some_expr) tt (omega (arith, high)) (headed ⨠ missing name _))
    (λ p ws equal.
    step (expr (depth_left + 1) 1 ws) _ (value-met depth_left ws)
    (λ n v. stops_in _ _ _ _ (t.declares_reference head x v.tree.0) v.fits.0 (omega (arith, high, v.fits.1, v.fits.2))
    (headed ⨠ (name ⨠ (equal ⨠ begun v))))
    (λ v rest given fits. reads (t.declares_reference head x v.0, max 1 v.1 + 1) (headed ⨾ (name ⨾ (equal ⨾ given)))
    (fits.0, omega (arith, fits.1), omega (arith, high, fits.2))))))

result-by : (kind : TokenKind) (ts : List Token) → kind_at ts ≡ kind → MetTall result_written Anything result_height 2 ts (result_by kind ts)
result-by k.Void ts e = reads (z.Void, 0) (one_plain ts k.Void (w.Key (codes "void")) e refl) (tt, refl, omega arith)
result-by (k.Scalar scalar) ts e =
    reads (z.Scalar scalar, 0) (one_plain ts (k.Scalar scalar) (scalar_word scalar) e refl) (tt, refl, omega arith)
result-by (k.Container form) ts e =
    step (container_type form ts) _ (type-met form ts e)
    (λ n v. stops_in _ _ _ _ (z.Iterator (record { container = v.tree; name = some_name })) tt (omega arith) (unfinished (begun v) _))
    (λ type us typed _.
    step (iterator_behind type us) _ (iterator-met type ts us typed)
    (λ n v. stops_in _ _ _ _ (z.Iterator v.tree) tt (omega arith) (begun v))
    (λ i rest given _. reads (z.Iterator i, 2) given (tt, refl, omega arith)))
result-by _ ts e = stops_first (z.Void, 0) (tt, refl, omega arith)

pub result-met : (ts : List Token) → MetTall result_written Anything result_height 2 ts (result ts)
unfolding result
result-met ts = result-by (kind_at ts) ts refl
