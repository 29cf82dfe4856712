-- Parameters: what is read as such is their words, and where a reader stops, the words before begin such.
use Rattle.std.proofs.Common.{◌≡◌, ◌≤◌, List, [], ◌∷◌, drop, refl, arith}
use Rattle.std.specs.Prelude.{codes}
use Rattle.sl_base.specs.declared.form.Form.TheVariants as f
use Rattle.sl_base.specs.declared.mark.Mark.TheVariants as m
use Rattle.sl_base.specs.declared.scalar.Scalar.{Scalar}
use Rattle.sl_base.specs.declared.scalar.Scalar.TheVariants as c
use Rattle.sl_base.specs.declared.token.Token.{Token}
use Rattle.sl_base.specs.declared.word.Word.TheVariants as w
use Rattle.sl_syntax.specs.declared.token_kind.TokenKind.{TokenKind}
use Rattle.sl_syntax.specs.declared.token_kind.TokenKind.TheVariants as k
use Rattle.sl_syntax.specs.declared.tree.declaration.ContainerType.{ContainerType}
use Rattle.sl_syntax.specs.declared.tree.function.Param.{Param}
use Rattle.sl_syntax.specs.declared.tree.function.Param.TheVariants as r
use Rattle.sl_syntax.specs.Blank.{nowhere}
use Rattle.sl_syntax.specs.Depth.{highest, param_height}
use Rattle.sl_syntax.specs.Written.{container_written, param_written, params_written, scalar_word}
use Rattle.sl_grammar.specs.Means.Declarations.{comma_param, const_param, container_by, container_type, iterator_behind, param, param_by, params}
use Rattle.sl_grammar.specs.Means.Declarations.{scalar_param, type_param}
use Rattle.sl_grammar.specs.Means.Steps.{Outcome, Tall, here, is_mark, kind_at}
use Rattle.sl_grammar.proofs.MeetHeads.{type-met, iterator-met}
use Rattle.sl_grammar.proofs.MeetSteps.{Met, MetTall, behind_words, missing, parts_of, past_mark, past_name, pick, reads, step, stops_first, stops_in, stops_of}
use Rattle.sl_grammar.proofs.Rows.{Anything, comma_param_written}
use Rattle.sl_grammar.proofs.SoundSteps.{Took, Part, Parts, answered, behind, bound, chosen, one_word, seen}
use Rattle.sl_grammar.proofs.Spelling.{Spelled, ◌⨾◌, no_words}
use Rattle.sl_grammar.proofs.ViableSteps.{Stops, Viable, begun, behind-viable, faulted, no_fault, some_name, unfinished, viable, ◌⨠◌}

-- of a parameter
abbrev MetParam : List Token → Outcome (Tall Param) → Type 0
MetParam ts o = MetTall param_written Anything param_height 2 ts o

scalar_param-met : (scalar : Scalar) (ts : List Token) → kind_at ts ≡ k.Scalar scalar → MetParam ts (scalar_param (here ts) scalar (drop 1 ts))
unfolding scalar_param
scalar_param-met scalar ts e =
    let word = one_word ts (k.Scalar scalar) (scalar_word scalar) e refl in
    pick (is_mark m.And (kind_at (drop 1 ts))) _ _ (MetParam ts)
    (λ sees.
    let and = seen m.And (drop 1 ts) sees in
    past_name (drop 1 (drop 1 ts)) _ (stops_in _ _ _ _ (r.Reference (here ts) scalar some_name) tt (omega arith) (word ⨠ missing and _))
    (λ x us name. reads (r.Reference (here ts) scalar x, 1) (word ⨾ (and ⨾ name)) (tt, refl, omega arith)))
    (λ _.
    past_name (drop 1 ts) _ (stops_in _ _ _ _ (r.Value (here ts) scalar some_name) tt (omega arith) (missing word _))
    (λ x us name. reads (r.Value (here ts) scalar x, 1) (word ⨾ name) (tt, refl, omega arith)))

-- behind the type of a container
type_param-met : (type : ContainerType) (ts us : List Token) → Spelled (container_written type) ts us → MetParam ts (type_param type us)
unfolding type_param
type_param-met type ts us typed =
    pick (is_mark m.ColonColon (kind_at us)) _ _ (MetParam ts)
    (λ _.
    step (iterator_behind type us) _ (iterator-met type ts us typed)
    (λ n v. stops_in _ _ _ _ (r.Iterator v.tree some_name) tt (omega arith) (unfinished (begun v) _))
    (λ i vs given _.
    past_name vs _ (stops_in _ _ _ _ (r.Iterator i some_name) tt (omega arith) (missing given _)) (λ x rest name.
    reads (r.Iterator i x, 2) (given ⨾ name) (tt, refl, omega arith))))
    (λ _.
    past_mark m.And us _ (stops_in _ _ _ _ (r.Container type some_name) tt (omega arith) (missing typed _)) (λ p vs and.
    past_name vs _ (stops_in _ _ _ _ (r.Container type some_name) tt (omega arith) (typed ⨠ missing and _)) (λ x rest name.
    reads (r.Container type x, 2) (typed ⨾ (and ⨾ name)) (tt, refl, omega arith))))

-- the type of a container, where one stands
container-by : (kind : TokenKind) (ts : List Token) → kind_at ts ≡ kind → Met container_written Anything ts (container_by kind ts)
container-by (k.Container form) ts e = type-met form ts e
container-by _ ts e = stops_first (record { place = here ts; form = f.Vector }) tt

const_param-met : (ts : List Token) → kind_at ts ≡ k.Const → MetParam ts (const_param ts)
unfolding const_param
const_param-met ts e =
    let word = one_word ts k.Const (w.Key (codes "const")) e refl in
    step (container_by (kind_at (drop 1 ts)) (drop 1 ts)) _ (container-by (kind_at (drop 1 ts)) (drop 1 ts) refl)
    (λ n v. stops_in _ _ _ _ (r.ConstContainer (here ts) v.tree some_name) tt (omega arith) (word ⨠ unfinished (begun v) _))
    (λ type us typed _.
    past_mark m.And us _ (stops_in _ _ _ _ (r.ConstContainer (here ts) type some_name) tt (omega arith) (word ⨠ missing typed _))
    (λ p vs and.
    past_name vs _ (stops_in _ _ _ _ (r.ConstContainer (here ts) type some_name) tt (omega arith) (word ⨠ (typed ⨠ missing and _)))
    (λ x rest name. reads (r.ConstContainer (here ts) type x, 2) (word ⨾ (typed ⨾ (and ⨾ name))) (tt, refl, omega arith))))

-- where no parameter begins
some_param : Param
some_param = r.Value nowhere c.Int some_name

param-by : (kind : TokenKind) (ts : List Token) → kind_at ts ≡ kind → MetParam ts (param_by kind ts)
unfolding some_param
param-by (k.Scalar scalar) ts e = scalar_param-met scalar ts e
param-by (k.Container form) ts e =
    step (container_type form ts) _ (type-met form ts e)
    (λ n v. stops_in _ _ _ _ (r.Container v.tree some_name) tt (omega arith) (unfinished (begun v) _))
    (λ type us typed _. type_param-met type ts us typed)
param-by k.Const ts e = const_param-met ts e
param-by _ ts e = stops_first (some_param, 1) (tt, refl, omega arith)

param-met : (ts : List Token) → MetParam ts (param ts)
unfolding param
param-met ts = param-by (kind_at ts) ts refl

comma-met : (ts : List Token) → MetTall comma_param_written Anything param_height 2 ts (comma_param ts)
unfolding some_param
comma-met ts =
    past_mark m.Comma ts _ (stops_first (some_param, 1) (tt, refl, omega arith)) (λ p us comma.
    behind_words (param us) comma (param-met us))

param-part : Parts param_written Anything param_height 2 param
param-part = parts_of param_written Anything param_height 2 param param-met

param-begun : Stops param_written Anything param_height 2 param
param-begun = stops_of param_written Anything param_height 2 param param-met

comma-part : Parts comma_param_written Anything param_height 2 comma_param
comma-part = parts_of comma_param_written Anything param_height 2 comma_param comma-met

comma-begun : Stops comma_param_written Anything param_height 2 comma_param
comma-begun = stops_of comma_param_written Anything param_height 2 comma_param comma-met

pub params-part : Parts params_written Anything (highest param_height) 2 params
unfolding params
params-part ts y h =
    let P : Took (List Param) → Type 0 = λ z. Part params_written Anything (highest param_height) 2 ts z.0 z.1 in
    chosen (is_mark m.RightParenthesis (kind_at ts)) _ _ _ (P y) h
    (λ closes h1. answered _ y P h1 (record { spelled = no_words ts; fits = tt; size = refl; low = omega arith }))
    (λ opens h1.
    bound (param ts) _ y P h1 (λ x one h2.
    let first = param-part ts x one in
    let others = behind comma_param_written Anything param_height 2 (is_mark m.Comma) comma_param comma-part (x.0.0 ∷ [], x.0.1) x.1 y h2 in
    record {
      spelled = rw others.all (first.spelled ⨾ others.spelled);
      fits = tt;
      size = rw others.all (omega (arith, first.size, others.size));
      low = omega (arith, first.size, first.low, others.size, others.low);
    }))

pub params-begun : Stops params_written Anything (highest param_height) 2 params
unfolding params
params-begun ts n h =
    let P : Type 0 = Viable (λ (xs : List Param). Anything xs × (highest param_height xs ≤ 2)) params_written ts n in
    chosen (is_mark m.RightParenthesis (kind_at ts)) _ _ _ P h
    (λ closes h1. no_fault _ n P h1)
    (λ opens h1.
    faulted (param ts) _ n P h1
    (λ h2.
    let v = param-begun ts n h2 in
    viable (v.tree ∷ []) (tt, omega (arith, v.fits.1)) (unfinished (begun v) []))
    (λ x one h2.
    let first = param-part ts x one in
    let v = behind-viable comma_param_written Anything param_height 2 (is_mark m.Comma) comma_param comma-part comma-begun
    (x.0.0 ∷ [], x.0.1) x.1 n h2 in
    viable (x.0.0 ∷ v.tree) (tt, omega (arith, first.size, first.low, v.fits.1)) (first.spelled ⨠ begun v)))
