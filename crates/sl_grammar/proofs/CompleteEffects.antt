-- The words of a read, a print, an assignment or a condition are read as it is.
use Rattle.std.proofs.Common.{◌≡◌, ℕ, ◌+◌, ◌<◌, ◌≤◌, ◌&&◌, max, drop, Bool, true, false, List, [], ◌∷◌, length, flat_map, None, Ok, refl, sym, subst}
use Rattle.std.proofs.Common.{arith, length-append}
use Rattle.std.specs.Prelude.{⊤, codes}
use Rattle.std.proofs.lemmas.Bool.{lt-ltb, false≢true}
use Rattle.sl_base.specs.declared.mark.Mark.TheVariants as m
use Rattle.sl_base.specs.declared.place.Place.{Place}
use Rattle.sl_base.specs.declared.token.Token.{Token}
use Rattle.sl_base.specs.declared.word.Word.TheVariants as w
use Rattle.sl_syntax.specs.declared.token_kind.TokenKind.{TokenKind}
use Rattle.sl_syntax.specs.declared.token_kind.TokenKind.TheVariants as k
use Rattle.sl_syntax.specs.declared.operator.PrefixOperator.TheVariants as p
use Rattle.sl_syntax.specs.declared.tree.effect.Read.{Read}
use Rattle.sl_syntax.specs.declared.tree.identifier.Identifier.{Identifier}
use Rattle.sl_syntax.specs.Depth.{height, highest, out_height, effect_height, cond_height}
use Rattle.sl_syntax.specs.Shaped.{IsExpr, Each, AreSome, IsRead, IsOut, IsEffect, IsCond}
use Rattle.sl_syntax.specs.Tree as t
use Rattle.sl_syntax.specs.Tree.{Expr, Out, Effect, Cond}
use Rattle.sl_syntax.specs.Written.{written, read_written, out_written, print_written, effect_written, cond_written}
use Rattle.sl_syntax.specs.Written as v
use Rattle.sl_grammar.specs.Means.Effects.{shifted_name, read, is_input, out_by, shifted_out, print, assignment_of, assigned, effect_by, effect}
use Rattle.sl_grammar.specs.Means.Effects.{begins_no_read, no_read, cond_by, cond}
use Rattle.sl_grammar.specs.Means.Expressions.{expr}
use Rattle.sl_grammar.specs.Means.Steps.{and_then, ◌>>=◌, pure, kind_at, is_mark, mark, identifier, all_behind}
use Rattle.sl_grammar.proofs.CompleteExpressions.{expr-complete, whole-complete}
use Rattle.sl_grammar.proofs.CompleteKinds.{Ends, assignment-mark, assignment-ends, begins_expr, expr-begins, expr-some}
use Rattle.sl_grammar.proofs.CompleteSteps.{Turn, row, all-row}
use Rattle.sl_grammar.proofs.Rows.{Anything, each-anything, name_written, flat, shifted_written}
use Rattle.sl_grammar.proofs.Spelling.{Spelled, split, at_word, plain_word}

-- what follows an effect or a condition
pub record EndsEffect (kind : TokenKind) : Type 0 where
  pub ends : Ends 1 kind
  pub no_read : is_mark m.ShiftRight kind ≡ false
  pub no_print : is_mark m.ShiftLeft kind ≡ false
  pub no_assignment : (depth_left : ℕ) → assignment_of depth_left kind ≡ None

name-turn : (x : Identifier) (ts mid : List Token) → Anything x → ⊤ → Spelled (name_written x) ts mid
    → Turn (is_mark m.ShiftRight) shifted_name flat x ts mid
unfolding shifted_name mark identifier
name-turn x ts mid p f s =
    plain_word s (λ o place us e a. at_word a (λ o2 vs e2 b.
    let e3 : vs ≡ mid = b.spells in
    record { goes_on = rw e refl; reads = rw (e, e2, e3) refl }))

names-row : (xs : List Identifier) (x : Identifier) (ts rest : List Token) → is_mark m.ShiftRight (kind_at rest) ≡ false
    → Spelled (flat_map name_written xs) ts rest
    → all_behind (is_mark m.ShiftRight) shifted_name (x ∷ [], 0) ts ≡ Ok ((x ∷ xs, max 0 (highest flat xs)), rest)
names-row xs x ts rest e s =
    all-row (is_mark m.ShiftRight) shifted_name flat xs (x ∷ []) 0 ts rest
    (row (is_mark m.ShiftRight) shifted_name flat name_written Anything (λ k. ⊤) name-turn (λ x ts mid p s. tt) (λ x. omega arith)
    xs ts rest (each-anything xs) tt e s)

no-input : (kind : TokenKind) → begins_expr kind ≡ true → is_input kind ≡ false
no-input k.Input h = absurd (false≢true h)
no-input _ h = refl

pub and-false : (b : Bool) → b && false ≡ false
and-false true = refl
and-false false = refl

module _ (depth_left : ℕ) where
  read-names : (place : Place) (xs : List Identifier) (ts rest : List Token) → 0 < depth_left → AreSome xs
      → is_mark m.ShiftRight (kind_at rest) ≡ false
      → Spelled (v.at place (w.Lib (codes "cin")) ∷ flat_map name_written xs) ts rest
      → read depth_left ts ≡ Ok ((record { place = place; variables = xs }, 1), rest)
  unfolding read shifted_name mark identifier
  read-names place [] ts rest l a e s = absurd (omega arith)
  read-names place (x ∷ xs) ts rest l a e s =
      at_word s (λ o us e1 b.
      plain_word b (λ o2 place2 vs e2 c.
      at_word c (λ o3 ws e3 d.
      rw (e1, e2, e3, lt-ltb 0 depth_left l, names-row xs x ws rest e d) refl)))

  pub read-reads : (r : Read) (ts rest : List Token) → 0 < depth_left → IsRead r → is_mark m.ShiftRight (kind_at rest) ≡ false
      → Spelled (read_written r) ts rest → read depth_left ts ≡ Ok ((r, 1), rest)
  read-reads r ts rest l a e s = read-names r.place r.variables ts rest l a e s

  out-kind : (kind : TokenKind) → begins_expr kind ≡ true → out_by depth_left kind ≡ (expr depth_left 5 >>= (λ x. pure (t.value x.0, x.1)))
  out-kind k.Text h = absurd (false≢true h)
  out-kind k.EndLine h = absurd (false≢true h)
  out-kind _ h = refl

  abbrev LowOut : Out → Type 0
  LowOut x = IsOut x × (out_height x < depth_left)

  out-reads : (x : Out) (ts rest : List Token) → LowOut x → Ends 5 (kind_at rest) → Spelled (out_written x) ts rest
      → out_by depth_left (kind_at ts) ts ≡ Ok ((x, out_height x), rest)
  out-reads (t.text place bytes) ts rest p f s = at_word s (λ o us e a. let e2 : us ≡ rest = a.spells in rw (e, e2) refl)
  out-reads (t.end_line place) ts rest p f s = at_word s (λ o us e a. let e2 : us ≡ rest = a.spells in rw (e, e2) refl)
  out-reads (t.value x) ts rest p f s = rw (
    out-kind (kind_at ts) (expr-begins x ts rest p.0.1 s),
    (expr-complete depth_left).reads x 5 ts rest p.0.1 p.1 p.0.0 f s,
  ) refl

  shift-reads : (x : Out) (ts rest : List Token) → LowOut x → Ends 5 (kind_at rest) → Spelled (shifted_written x) ts rest
      → shifted_out depth_left ts ≡ Ok ((x, out_height x), rest)
  unfolding shifted_out mark
  shift-reads x ts rest p f s = plain_word s (λ o place us e a. rw e (out-reads x us rest p f a))

  out-turn : (x : Out) (ts mid : List Token) → LowOut x → Ends 5 (kind_at mid) → Spelled (shifted_written x) ts mid
      → Turn (is_mark m.ShiftLeft) (shifted_out depth_left) out_height x ts mid
  out-turn x ts mid p f s = record { goes_on = plain_word s (λ o place us e a. rw e refl); reads = shift-reads x ts mid p f s }

  out-ends : (x : Out) (ts mid : List Token) → LowOut x → Spelled (shifted_written x) ts mid → Ends 5 (kind_at ts)
  out-ends x ts mid p s = plain_word s (λ o place us e a. rw e (record { stops = omega arith; not_call = refl }))

  low-outs : (xs : List Out) → Each IsOut xs → highest out_height xs < depth_left → Each LowOut xs
  low-outs [] a l = tt
  low-outs (x ∷ xs) a l = ((a.0, omega arith), low-outs xs a.1 (omega arith))

  outs-ends : (xs : List Out) (ts rest : List Token) → Ends 5 (kind_at rest) → Spelled (flat_map shifted_written xs) ts rest → Ends 5 (kind_at ts)
  outs-ends [] ts rest f s = subst (λ (u : List Token). Ends 5 (kind_at u)) (sym s.spells) f
  outs-ends (x ∷ xs) ts rest f s = plain_word s (λ o place us e a. rw e (record { stops = omega arith; not_call = refl }))

  print-reads : (place : Place) (xs : List Out) (ts rest : List Token) → AreSome xs → Each IsOut xs → highest out_height xs < depth_left
      → EndsEffect (kind_at rest) → Spelled (print_written place xs) ts rest
      → print depth_left ts ≡ Ok ((t.prints place xs, highest out_height xs + 1), rest)
  unfolding print
  print-reads place [] ts rest n a l f s = absurd (omega arith)
  print-reads place (x ∷ xs) ts rest n a l f s =
      at_word s (λ o us e b.
      split (shifted_written x) b (λ mid c d.
      let ends : Ends 5 (kind_at rest) = record { stops = omega (arith, f.ends.stops); not_call = f.ends.not_call } in
      let low : Each LowOut (x ∷ xs) = low-outs (x ∷ xs) a l in
      let first = shift-reads x us mid low.0 (outs-ends xs mid rest ends d) c in
      let r = row (is_mark m.ShiftLeft) (shifted_out depth_left) out_height shifted_written LowOut (Ends 5) out-turn out-ends
      (λ y. omega arith) xs mid rest low.1 ends f.no_print d in
      let others = all-row (is_mark m.ShiftLeft) (shifted_out depth_left) out_height xs (x ∷ []) (out_height x) mid rest r in
      rw (e, lt-ltb 0 depth_left (omega arith), first, others) refl))

  effect-kind : (kind : TokenKind) → begins_expr kind ≡ true → effect_by depth_left kind ≡ (expr (depth_left + 1) 1 >>= assigned depth_left)
  effect-kind k.Input h = absurd (false≢true h)
  effect-kind k.Output h = absurd (false≢true h)
  effect-kind _ h = refl

  -- The words of an effect are read as that effect.
  pub effect-complete : (e : Effect) (ts rest : List Token) → IsEffect e → effect_height e ≤ depth_left → EndsEffect (kind_at rest)
      → Spelled (effect_written e) ts rest
      → effect depth_left ts ≡ Ok ((e, effect_height e), rest)
  unfolding effect assigned
  effect-complete (t.reads r) ts rest g l f s =
      let input : kind_at ts ≡ k.Input = at_word s (λ o us e a. rw e refl) in
      rw (input, read-reads r ts rest (omega arith) g f.no_read s) refl
  effect-complete (t.prints place xs) ts rest g l f s =
      let output : kind_at ts ≡ k.Output = at_word s (λ o us e a. rw e refl) in
      rw output (print-reads place xs ts rest g.0 g.1 (omega arith) f s)
  effect-complete (t.evaluates x) ts rest g l f s =
      rw (
        effect-kind (kind_at ts) (expr-begins x ts rest g s),
        (whole-complete (depth_left + 1)).reads x ts rest g (omega arith) f.ends s,
        f.no_assignment depth_left,
      ) refl
  effect-complete (t.assigns x op place y) ts rest g l f s =
      split (written x) s (λ mid a b.
      at_word b (λ o us e c.
      let ends : Ends 1 (kind_at mid) = rw e (assignment-ends op) in
      rw (
        effect-kind (kind_at ts) (expr-begins x ts mid g.0 a),
        (whole-complete (depth_left + 1)).reads x ts mid g.0 (omega arith) ends a,
        e,
        assignment-mark depth_left op,
        lt-ltb (height x) depth_left (omega arith),
        (whole-complete depth_left).reads y us rest g.1 (omega arith) f.ends c,
      ) refl))

  -- no expression begins with `(std::cin`, nor with `!(std::cin`
  begins-none : (r : Expr) (ts rest : List Token) → IsExpr r → Spelled (written r) ts rest
      → (is_mark m.LeftParenthesis (kind_at ts) && is_input (kind_at (drop 1 ts)) ≡ false) × (begins_no_read depth_left ts ≡ false)
  begins-none (t.truth place true) ts rest g h = at_word h (λ o us e _. rw e (refl, refl))
  begins-none (t.truth place false) ts rest g h = at_word h (λ o us e _. rw e (refl, refl))
  begins-none (t.library_call f xs) ts rest g h = at_word h (λ o us e _. rw (e, g.0) (refl, refl))
  begins-none (t.parentheses place x) ts rest g h = at_word h (λ o us e d. split (written x) d
      (λ mid p q. rw e (no-input (kind_at us) (expr-begins x us mid g p), refl)))
  begins-none (t.prefix p.Not place x) ts rest g h = at_word h (λ o us e d. rw e (refl, (begins-none x us rest g.1 d).0))
  begins-none (t.prefix p.Negate place x) ts rest g h = at_word h (λ o us e _. rw e (refl, refl))
  begins-none (t.prefix _ place x) ts rest g h = at_word h (λ o us e _. rw e (refl, refl))
  begins-none (t.binary x op place y) ts rest g h = split (written x) h (λ mid p q. begins-none x ts mid g.2 p)
  begins-none (t.postfix x op place) ts rest g h = split (written x) h (λ mid p q. begins-none x ts mid g.1 p)
  begins-none (t.index x place y) ts rest g h = split (written x) h (λ mid p q. begins-none x ts mid g.1 p)
  begins-none (t.member_call x f xs) ts rest g h = split (written x) h (λ mid p q. begins-none x ts mid g.1 p)
  begins-none (t.member x s place f) ts rest g h = split (written x) h (λ mid p q. begins-none x ts mid g.1 p)
  begins-none _ ts rest g h = at_word h (λ o us e _. rw e (refl, refl))

  cond-kind : (kind : TokenKind) (ts : List Token) → begins_expr kind ≡ true → begins_no_read depth_left ts ≡ false
      → cond_by depth_left kind ts ≡ and_then (expr (depth_left + 1) 1 ts) (λ x. pure (t.tests x.0, x.1))
  cond-kind k.Input ts h n = absurd (false≢true h)
  cond-kind _ ts h n = rw (n, and-false) refl

  -- The words of a condition are read as that condition.
  pub cond-complete : (c : Cond) (ts rest : List Token) → IsCond c → cond_height c ≤ depth_left → EndsEffect (kind_at rest)
      → Spelled (cond_written c) ts rest → cond depth_left ts ≡ Ok ((c, cond_height c), rest)
  unfolding cond no_read mark
  cond-complete (t.tests_read r) ts rest g l f s =
      let input : kind_at ts ≡ k.Input = at_word s (λ o us e a. rw e refl) in
      rw (input, read-reads r ts rest (omega arith) g f.no_read s) refl
  cond-complete (t.tests_no_read place r) ts rest g l f s =
      at_word s (λ o us e a.
      plain_word a (λ o2 place2 vs e2 b.
      split (read_written r) b (λ mid c d.
      plain_word d (λ o3 place3 ws e3 z.
      let e4 : ws ≡ rest = z.spells in
      let input : kind_at vs ≡ k.Input = at_word c (λ o us e a. rw e refl) in
      let inside : read depth_left vs ≡ Ok ((r, 1), mid) = read-reads r vs mid (omega arith) g (rw e3 refl) c in
      rw (e, e2, input, lt-ltb 1 depth_left (omega arith), inside, e3, e4) refl))))
  cond-complete (t.tests x) ts rest g l f s =
      rw (
        cond-kind (kind_at ts) ts (expr-begins x ts rest g s) (begins-none x ts rest g s).1,
        (whole-complete (depth_left + 1)).reads x ts rest g (omega arith) f.ends s,
      ) refl

-- the word begins an effect
abbrev pub begins_effect : TokenKind → Bool
begins_effect k.Input = true
begins_effect k.Output = true
begins_effect kind = begins_expr kind

pub begins-effect : (kind : TokenKind) → begins_expr kind ≡ true → begins_effect kind ≡ true
begins-effect k.Input h = refl
begins-effect k.Output h = refl
begins-effect _ h = h

pub effect-begins : (e : Effect) (ts rest : List Token) → IsEffect e → Spelled (effect_written e) ts rest → begins_effect (kind_at ts) ≡ true
effect-begins (t.reads r) ts rest g s = at_word s (λ o us e a. rw e refl)
effect-begins (t.prints place xs) ts rest g s = at_word s (λ o us e a. rw e refl)
effect-begins (t.evaluates x) ts rest g s = begins-effect (kind_at ts) (expr-begins x ts rest g s)
effect-begins (t.assigns x op place y) ts rest g s = split (written x) s (λ mid a b. begins-effect (kind_at ts) (expr-begins x ts mid g.0 a))

-- an effect has a word at least
pub effect-some : (e : Effect) → 1 ≤ length (effect_written e)
effect-some (t.reads r) = omega arith
effect-some (t.prints place xs) = omega arith
effect-some (t.evaluates x) = expr-some x
effect-some (t.assigns x op place y) = rw length-append (omega (arith, expr-some x))
