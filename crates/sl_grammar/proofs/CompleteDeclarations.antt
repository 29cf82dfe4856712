-- The words of a declaration, a parameter or a result are read as it is.
use Rattle.std.proofs.Common.{◌≡◌, ℕ, ◌+◌, ◌≤◌, Bool, true, false, List, [], ◌∷◌, ◌++◌, length, Some, None, Ok, refl, sym, arith, append-nil}
use Rattle.std.specs.Prelude.{⊤}
use Rattle.std.proofs.lemmas.Bool.{lt-ltb}
use Rattle.sl_base.specs.declared.mark.Mark.TheVariants as m
use Rattle.sl_base.specs.declared.place.Place.{Place}
use Rattle.sl_base.specs.declared.token.Token.{Token}
use Rattle.sl_syntax.specs.declared.token_kind.TokenKind.TheVariants as k
use Rattle.sl_syntax.specs.declared.tree.declaration.ContainerType.{ContainerType}
use Rattle.sl_syntax.specs.declared.tree.element.ElementType.{ElementType}
use Rattle.sl_syntax.specs.declared.tree.element.ElementType.TheVariants as y
use Rattle.sl_syntax.specs.declared.tree.element.ReferenceHead.{ReferenceHead}
use Rattle.sl_syntax.specs.declared.tree.function.IteratorType.{IteratorType}
use Rattle.sl_syntax.specs.declared.tree.function.Param.{Param}
use Rattle.sl_syntax.specs.declared.tree.function.Param.TheVariants as r
use Rattle.sl_syntax.specs.declared.tree.function.ResultType.{ResultType}
use Rattle.sl_syntax.specs.declared.tree.function.ResultType.TheVariants as z
use Rattle.sl_syntax.specs.Depth.{list_height, highest, initializer_height, declaration_height, param_height, result_height}
use Rattle.sl_syntax.specs.Shaped.{AreExprs, IsInitializer, IsDeclaration}
use Rattle.sl_syntax.specs.Tree as t
use Rattle.sl_syntax.specs.Tree.{Exprs, Initializer, Declaration}
use Rattle.sl_syntax.specs.Written.{is_map, list_written, elements_written, container_written, initializer_written, declaration_written}
use Rattle.sl_syntax.specs.Written.{Written, from_place, iterator_written, reference_words, reference_written, param_written, params_written}
use Rattle.sl_syntax.specs.Written.{result_written}
use Rattle.sl_syntax.specs.Written as v
use Rattle.sl_grammar.specs.Means.Declarations.{int, elements_by, container_type, optional_value, scalar_declaration, auto_declaration, braces}
use Rattle.sl_grammar.specs.Means.Declarations.{constructed, initializer, container_declaration, scalar_param, type_param, const_param, param}
use Rattle.sl_grammar.specs.Means.Declarations.{comma_param, params, iterator_behind, reference_head, begins_reference, reference_declaration, result}
use Rattle.sl_grammar.specs.Means.Expressions.{expr}
use Rattle.sl_grammar.specs.Means.Statements.{is_more}
use Rattle.sl_grammar.specs.Means.Steps.{Reader, Tall, kind_at, is_mark, mark, identifier}
use Rattle.sl_grammar.proofs.CompleteExpressions.{whole-complete}
use Rattle.sl_grammar.proofs.CompleteKinds.{scalar-kind, form-kind}
use Rattle.sl_grammar.proofs.CompleteLists.{brace-close, list-reads, list_before-reads}
use Rattle.sl_grammar.proofs.CompleteSteps.{Turn, row, all-row}
use Rattle.sl_grammar.proofs.Rows.{Anything, each-anything, comma_param_written}
use Rattle.sl_grammar.proofs.Spelling.{Spelled, split, at_word, plain_word, respelled}

elements-read : (b : Bool) (ts rest : List Token) → Spelled (elements_written b) ts rest → elements_by b ts ≡ Ok (tt, rest)
unfolding int mark
elements-read false ts rest s =
    plain_word s (λ o1 p1 t1 e1 s1. plain_word s1 (λ o2 p2 t2 e2 s2. plain_word s2 (λ o3 p3 t3 e3 s3.
    let e : t3 ≡ rest = s3.spells in
    rw (e1, e2, e3, e) refl)))
elements-read true ts rest s =
    plain_word s (λ o1 p1 t1 e1 s1. plain_word s1 (λ o2 p2 t2 e2 s2. plain_word s2 (λ o3 p3 t3 e3 s3.
    plain_word s3 (λ o4 p4 t4 e4 s4. plain_word s4 (λ o5 p5 t5 e5 s5.
    let e : t5 ≡ rest = s5.spells in
    rw (e1, e2, e3, e4, e5, e) refl)))))

type-reads : (c : ContainerType) (ts rest : List Token) → Spelled (container_written c) ts rest → container_type c.form ts ≡ Ok (c, rest)
unfolding container_type
type-reads c ts rest s = at_word s (λ o us e a. rw (e, elements-read (is_map c.form) us rest a) refl)

pub type-kind : (c : ContainerType) (ts rest : List Token) → Spelled (container_written c) ts rest → kind_at ts ≡ k.Container c.form
type-kind c ts rest s = at_word s (λ o us e a. rw e (form-kind c.form))

-- the words of a reference's type begin one, and are read as it
pub head-begins : (h : ReferenceHead) (xs : List Written) (ts rest : List Token) → Spelled (reference_written h ++ xs) ts rest
    → begins_reference ts ≡ true
head-begins h xs ts rest s = by-parts h.place h.is_const h.element s
  where
    by-parts : (place : Place) (is_const : Bool) (x : ElementType) → Spelled (from_place place (reference_words is_const x) ++ xs) ts rest
        → begins_reference ts ≡ true
    by-parts place true x s = at_word s (λ o us e a. rw e refl)
    by-parts place false y.Int s = at_word s (λ o1 t1 e1 s1. plain_word s1 (λ o2 p2 t2 e2 s2. rw (e1, e2) refl))
    by-parts place false y.Auto s = at_word s (λ o1 t1 e1 s1. plain_word s1 (λ o2 p2 t2 e2 s2. rw (e1, e2) refl))

pub head-reads : (h : ReferenceHead) (ts rest : List Token) → Spelled (reference_written h) ts rest → reference_head ts ≡ Ok (h, rest)
unfolding reference_head mark
head-reads h ts rest s = by-parts h.place h.is_const h.element s
  where
    by-parts : (place : Place) (is_const : Bool) (x : ElementType) → Spelled (from_place place (reference_words is_const x)) ts rest
        → reference_head ts ≡ Ok (record { place = place; is_const = is_const; element = x }, rest)
    by-parts place true y.Int s = at_word s (λ o1 t1 e1 s1. plain_word s1 (λ o2 p2 t2 e2 s2. plain_word s2 (λ o3 p3 t3 e3 s3.
        let e : t3 ≡ rest = s3.spells in
        rw (e1, e2, e3, e) refl)))
    by-parts place true y.Auto s = at_word s (λ o1 t1 e1 s1. plain_word s1 (λ o2 p2 t2 e2 s2. plain_word s2 (λ o3 p3 t3 e3 s3.
        let e : t3 ≡ rest = s3.spells in
        rw (e1, e2, e3, e) refl)))
    by-parts place false y.Int s = at_word s (λ o1 t1 e1 s1. plain_word s1 (λ o2 p2 t2 e2 s2.
        let e : t2 ≡ rest = s2.spells in
        rw (e1, e2, e) refl))
    by-parts place false y.Auto s = at_word s (λ o1 t1 e1 s1. plain_word s1 (λ o2 p2 t2 e2 s2.
        let e : t2 ≡ rest = s2.spells in
        rw (e1, e2, e) refl))

-- the type of an iterator: that of its container, and what stands behind
iterator-parts : {C : Type 0} (i : IteratorType) (xs : List Written) (ts rest : List Token) → Spelled (iterator_written i ++ xs) ts rest
    → ((us vs : List Token) → kind_at ts ≡ k.Container i.container.form → container_type i.container.form ts ≡ Ok (i.container, us)
    → is_mark m.ColonColon (kind_at us) ≡ true → iterator_behind i.container us ≡ Ok (i, vs) → Spelled xs vs rest → C) → C
unfolding iterator_behind mark identifier
iterator-parts i xs ts rest s go =
    split (iterator_written i) s (λ vs front behind.
    split (container_written i.container) front (λ us typed others.
    plain_word others (λ o1 p1 t1 e1 s1. at_word s1 (λ o2 t2 e2 s2.
    let e : t2 ≡ vs = s2.spells in
    go us vs (type-kind i.container ts us typed) (type-reads i.container ts us typed) (rw e1 refl) (rw (e1, e2, e) refl) behind))))

-- the words of a result are read as it
pub result-reads : (x : ResultType) (ts rest : List Token) → Spelled (result_written x) ts rest → result ts ≡ Ok ((x, result_height x), rest)
unfolding result
result-reads z.Void ts rest s = plain_word s (λ o p us e a. let e2 : us ≡ rest = a.spells in rw (e, e2) refl)
result-reads (z.Scalar scalar) ts rest s = plain_word s (λ o p us e a. let e2 : us ≡ rest = a.spells in rw (e, scalar-kind scalar, e2) refl)
result-reads (z.Iterator i) ts rest s =
    iterator-parts i [] ts rest (respelled (sym (append-nil (iterator_written i))) s) (λ us vs kind typed colons given behind.
    let e : vs ≡ rest = behind.spells in
    rw (kind, typed, given, e) refl)

-- and begin no end of the text
pub result-more : (x : ResultType) (ts rest : List Token) → Spelled (result_written x) ts rest → is_more (kind_at ts) ≡ true
result-more z.Void ts rest s = plain_word s (λ o p us e a. rw e refl)
result-more (z.Scalar scalar) ts rest s = plain_word s (λ o p us e a. rw (e, scalar-kind scalar) refl)
result-more (z.Iterator i) ts rest s = split (container_written i.container) s (λ mid a b. rw (type-kind i.container ts mid a) refl)

pub result-some : (x : ResultType) → 1 ≤ length (result_written x)
result-some z.Void = omega arith
result-some (z.Scalar scalar) = omega arith
result-some (z.Iterator i) = omega arith

-- the reader of this declaration
abbrev pub reader_of : ℕ → Declaration → Reader (Tall Declaration)
reader_of depth_left (t.declares_scalar place s x v) = scalar_declaration depth_left s
reader_of depth_left (t.declares_auto place x v) = auto_declaration depth_left
reader_of depth_left (t.declares_reference head x v) = reference_declaration depth_left
reader_of depth_left (t.declares_container c x i) = container_declaration depth_left c.form

module _ (depth_left : ℕ) where
  braces-read : (equal : Bool) (xs : Exprs) (ts rest : List Token) → AreExprs xs → list_height xs ≤ depth_left
      → Spelled (list_written xs ++ v.mark m.RightBrace ∷ []) ts rest
      → braces depth_left equal ts ≡ Ok ((t.braces equal xs, list_height xs), rest)
  unfolding braces mark
  braces-read equal xs ts rest a l s =
      split (list_written xs) s (λ mid b c.
      plain_word c (λ o place us e d.
      let e2 : us ≡ rest = d.spells in
      let list = list_before-reads (expr (depth_left + 1) 1) (expr depth_left 1) depth_left (depth_left + 1) (whole-complete (depth_left + 1))
      (whole-complete depth_left)
      (omega arith) m.RightBrace xs ts mid brace-close a l
      (rw e (record { is = refl; ends = record { stops = omega arith; not_call = refl }; no_comma = refl })) b in
      rw (list, e, e2) refl))

  initializer-reads : (i : Initializer) (ts rest : List Token) → IsInitializer i → initializer_height i ≤ depth_left
      → kind_at rest ≡ k.Mark m.Semicolon
      → Spelled (initializer_written i) ts rest
      → initializer depth_left ts ≡ Ok ((i, initializer_height i), rest)
  unfolding initializer constructed mark identifier
  initializer-reads t.absent ts rest g l f s = let e : ts ≡ rest = s.spells in rw (e, f) refl
  initializer-reads (t.copies x) ts rest g l f s =
      plain_word s (λ o1 p1 t1 e1 s1. at_word s1 (λ o2 t2 e2 s2.
      let e : t2 ≡ rest = s2.spells in
      rw (e1, e2, e) refl))
  initializer-reads (t.braces true xs) ts rest g l f s =
      plain_word s (λ o1 p1 t1 e1 s1. plain_word s1 (λ o2 p2 t2 e2 s2. rw (e1, e2) (braces-read true xs t2 rest g l s2)))
  initializer-reads (t.braces false xs) ts rest g l f s = plain_word s (λ o1 p1 t1 e1 s1. rw e1 (braces-read false xs t1 rest g l s1))
  initializer-reads (t.arguments t.none) ts rest g l f s = absurd g.0
  initializer-reads (t.arguments (t.with x xs)) ts rest g l f s =
      plain_word s (λ o1 p1 t1 e1 s1.
      split (list_written (t.with x xs)) s1 (λ mid a b.
      plain_word b (λ o2 p2 t2 e2 s2.
      let e : t2 ≡ rest = s2.spells in
      let inside = list-reads (expr (depth_left + 1) 1) (expr depth_left 1) depth_left (depth_left + 1) (whole-complete (depth_left + 1))
      (whole-complete depth_left) (omega arith) x xs t1 mid g.1 l
      (rw e2 (record { stops = omega arith; not_call = refl })) (rw e2 refl) a in
      rw (e1, inside, e2, e) refl)))

  -- The words of a declaration, before a `;`, are read as that declaration.
  pub declaration-complete : (d : Declaration) (ts rest : List Token) → IsDeclaration d → declaration_height d ≤ depth_left + 1
      → kind_at rest ≡ k.Mark m.Semicolon → Spelled (declaration_written d) ts rest
      → reader_of depth_left d ts ≡ Ok ((d, declaration_height d), rest)
  unfolding scalar_declaration auto_declaration reference_declaration container_declaration optional_value mark identifier
  declaration-complete (t.declares_scalar place s x None) ts rest g l f h =
      at_word h (λ o1 t1 e1 s1. at_word s1 (λ o2 t2 e2 s2.
      let e : t2 ≡ rest = s2.spells in
      rw (e1, e2, e, f) refl))
  declaration-complete (t.declares_scalar place s x (Some value)) ts rest g l f h =
      at_word h (λ o1 t1 e1 s1. at_word s1 (λ o2 t2 e2 s2. plain_word s2 (λ o3 p3 t3 e3 s3.
      rw (
        e1,
        e2,
        e3,
        (whole-complete (depth_left + 1)).reads value t3 rest g (omega arith) (rw f (record { stops = omega arith; not_call = refl })) s3,
      ) refl)))
  declaration-complete (t.declares_auto place x value) ts rest g l f h =
      at_word h (λ o1 t1 e1 s1. at_word s1 (λ o2 t2 e2 s2. plain_word s2 (λ o3 p3 t3 e3 s3.
      rw (
        e1,
        e2,
        e3,
        (whole-complete (depth_left + 1)).reads value t3 rest g (omega arith) (rw f (record { stops = omega arith; not_call = refl })) s3,
      ) refl)))
  declaration-complete (t.declares_reference head x value) ts rest g l f h =
      split (reference_written head) h (λ t0 a b.
      at_word b (λ o1 t1 e1 s1. plain_word s1 (λ o2 p2 t2 e2 s2.
      rw (
        head-reads head ts t0 a,
        e1,
        e2,
        (whole-complete (depth_left + 1)).reads value t2 rest g (omega arith) (rw f (record { stops = omega arith; not_call = refl })) s2,
      ) refl)))
  declaration-complete (t.declares_container c x i) ts rest g l f h =
      split (container_written c) h (λ mid a b.
      at_word b (λ o us e d.
      rw (lt-ltb 0 depth_left (omega arith), type-reads c ts mid a, e, initializer-reads i us rest g (omega arith) f d) refl))

param-reads : (x : Param) (ts rest : List Token) → Spelled (param_written x) ts rest → param ts ≡ Ok ((x, param_height x), rest)
unfolding param scalar_param type_param const_param mark identifier
param-reads (r.Value place s x) ts rest h =
    at_word h (λ o1 t1 e1 s1. at_word s1 (λ o2 t2 e2 s2.
    let e : t2 ≡ rest = s2.spells in
    rw (e1, scalar-kind s, e2, e) refl))
param-reads (r.Reference place s x) ts rest h =
    at_word h (λ o1 t1 e1 s1. plain_word s1 (λ o2 p2 t2 e2 s2. at_word s2 (λ o3 t3 e3 s3.
    let e : t3 ≡ rest = s3.spells in
    rw (e1, scalar-kind s, e2, e3, e) refl)))
param-reads (r.Container c x) ts rest h =
    split (container_written c) h (λ mid a b.
    plain_word b (λ o2 p2 t2 e2 s2. at_word s2 (λ o3 t3 e3 s3.
    let e : t3 ≡ rest = s3.spells in
    rw (type-kind c ts mid a, type-reads c ts mid a, e2, e3, e) refl)))
param-reads (r.ConstContainer place c x) ts rest h =
    at_word h (λ o1 t1 e1 s1.
    split (container_written c) s1 (λ mid a b.
    plain_word b (λ o2 p2 t2 e2 s2. at_word s2 (λ o3 t3 e3 s3.
    let e : t3 ≡ rest = s3.spells in
    rw (e1, type-kind c t1 mid a, type-reads c t1 mid a, e2, e3, e) refl))))
param-reads (r.Iterator i x) ts rest h =
    iterator-parts i (v.named x ∷ []) ts rest h (λ us vs kind typed colons given behind.
    at_word behind (λ o t1 e1 s1.
    let e : t1 ≡ rest = s1.spells in
    rw (kind, typed, colons, given, e1, e) refl))

param-begins : (x : Param) (ts rest : List Token) → Spelled (param_written x) ts rest → is_mark m.RightParenthesis (kind_at ts) ≡ false
param-begins (r.Value place s x) ts rest h = at_word h (λ o1 t1 e1 s1. rw (e1, scalar-kind s) refl)
param-begins (r.Reference place s x) ts rest h = at_word h (λ o1 t1 e1 s1. rw (e1, scalar-kind s) refl)
param-begins (r.Container c x) ts rest h = split (container_written c) h (λ mid a b. rw (type-kind c ts mid a) refl)
param-begins (r.ConstContainer place c x) ts rest h = at_word h (λ o1 t1 e1 s1. rw e1 refl)
param-begins (r.Iterator i x) ts rest h = iterator-parts i (v.named x ∷ []) ts rest h (λ us vs kind typed colons given behind. rw kind refl)

param-turn : (x : Param) (ts mid : List Token) → Anything x → ⊤ → Spelled (comma_param_written x) ts mid
    → Turn (is_mark m.Comma) comma_param param_height x ts mid
unfolding mark
param-turn x ts mid p f s = plain_word s (λ o place us e a. record { goes_on = rw e refl; reads = rw (e, param-reads x us mid a) refl })

-- The words of parameters, before a `)`, are read as those parameters.
pub params-complete : (xs : List Param) (ts rest : List Token) → kind_at rest ≡ k.Mark m.RightParenthesis → Spelled (params_written xs) ts rest
    → params ts ≡ Ok ((xs, highest param_height xs), rest)
unfolding params
params-complete [] ts rest f s = let e : ts ≡ rest = s.spells in rw (e, f) refl
params-complete (x ∷ xs) ts rest f s =
    split (param_written x) s (λ mid a b.
    let r = row (is_mark m.Comma) comma_param param_height comma_param_written Anything (λ kind. ⊤) param-turn (λ y us vs p q. tt)
    (λ y. omega arith) xs mid rest
    (each-anything xs) tt (rw f refl) b in
    let others = all-row (is_mark m.Comma) comma_param param_height xs (x ∷ []) (param_height x) mid rest r in
    rw (param-begins x ts mid a, param-reads x ts mid a, others) refl)
