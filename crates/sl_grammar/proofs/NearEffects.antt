-- The readers of reads, prints, assignments and conditions do the same up to a point.
use Rattle.std.proofs.Common.{◌≡◌, ℕ, zero, suc, ◌+◌, ◌≤◌, ◌<◌, nat_lt, Bool, true, false, ◌&&◌, if◌then◌else◌, List, [], ◌∷◌, length, Option, Some}
use Rattle.std.proofs.Common.{None, refl, sym, ap, subst, arith, rules}
use Rattle.std.proofs.lemmas.Bool.{ltb-true}
use denote.Enum.Bare.{same_true}
use Rattle.sl_base.specs.contracts.mark.Mark.{the_type}
use Rattle.sl_base.specs.declared.mark.Mark.{Mark}
use Rattle.sl_base.specs.declared.mark.Mark.TheVariants as m
use Rattle.sl_base.specs.declared.place.Place.{Place}
use Rattle.sl_base.specs.declared.token.Token.{Token}
use Rattle.sl_syntax.specs.declared.token_kind.TokenKind.{TokenKind}
use Rattle.sl_syntax.specs.declared.token_kind.TokenKind.TheVariants as k
use Rattle.sl_syntax.specs.declared.operator.Assignment.{Assignment}
use Rattle.sl_syntax.specs.TokenKinds.{kind_of}
use Rattle.sl_syntax.specs.Tree as t
use Rattle.sl_syntax.specs.Tree.{Expr, Cond}
use Rattle.sl_grammar.specs.Means.Effects.{shifted_name, read, out_by, shifted_out, print, assignment_of, assigned_by, assigned, effect_by, effect}
use Rattle.sl_grammar.specs.Means.Effects.{begins_no_read, no_read, cond_by, cond}
use Rattle.sl_grammar.specs.Means.Expressions.{expr}
use Rattle.sl_grammar.specs.Means.Steps.{Reader, Tall, and_then, ◌>>=◌, ◌>>◌, pure, is_mark, mark}
use Rattle.sl_grammar.proofs.NearExpressions.{expr-near, expr-behind-not, expr-behind-parenthesis}
use Rattle.sl_grammar.proofs.NearSteps.{left_over, left-within, bind-left, Same, step, end, cut, Agree, past, Twins, Level, plain, tall, yields}
use Rattle.sl_grammar.proofs.NearSteps.{loose, skipped, chosen, under, mark-near, identifier-near, repeat-near}

abbrev tests : Tall Expr → Reader (Tall Cond)
tests x = pure (t.tests x.0, x.1)

module _ (depth_left : ℕ) where
  abbrev behind_open : Place → Reader (Tall Cond)
  behind_open place = do
    r ← read depth_left
    mark m.RightParenthesis
    pure (t.tests_no_read place r.0, 2)

  abbrev behind_not : Place → Reader (Tall Cond)
  behind_not place = mark m.LeftParenthesis >> behind_open place

  abbrev tested : Reader (Tall Cond)
  tested s = and_then (expr (depth_left + 1) 1 s) tests

  abbrev tested_by : Bool → Reader (Tall Cond)
  tested_by no_read_begins = λ s. if no_read_begins then no_read depth_left s else tested s

module _ {b : ℕ} where
  shifted_name-near : Twins b 1 Level shifted_name shifted_name
  unfolding shifted_name
  shifted_name-near s s' = plain (mark-near m.ShiftRight s s') (λ _ _ s s'. plain (identifier-near s s') (λ _ _ _ _. yields refl))

  read-near : (depth_left : ℕ) → Twins b 1 Level (read depth_left) (read depth_left)
  unfolding read
  read-near depth_left s s' = under (nat_lt 0 depth_left) (skipped (tall _ _ (shifted_name-near _ _)
      (λ x y _ s s'. tall _ _ (repeat-near (is_mark m.ShiftRight) shifted_name shifted_name-near (x ∷ []) (y ∷ []) 0 s s')
      (λ _ _ _ _ _. yields refl))))

  module _ (depth_left : ℕ) where
    out_by-near : (kind : TokenKind) → Twins b 0 Level (out_by depth_left kind) (out_by depth_left kind)
    out_by-near k.Text s s' = skipped (yields refl)
    out_by-near k.EndLine s s' = skipped (yields refl)
    out_by-near _ s s' = loose (tall _ _ (expr-near depth_left 5 s s') (λ _ _ _ _ _. yields refl))

    shifted_out-near : Twins b 1 Level (shifted_out depth_left) (shifted_out depth_left)
    unfolding shifted_out
    shifted_out-near s s' = plain (mark-near m.ShiftLeft s s') (λ _ _ u u'. chosen (out_by depth_left) (out_by depth_left) out_by-near u u')

    print-near : Twins b 1 Level (print depth_left) (print depth_left)
    unfolding print
    print-near s s' = under (nat_lt 0 depth_left) (skipped (tall _ _ (shifted_out-near _ _)
        (λ x y z s s'. tall _ _ (repeat-near (is_mark m.ShiftLeft) (shifted_out depth_left) shifted_out-near (x ∷ []) (y ∷ []) z s s')
        (λ _ _ _ _ _. yields refl))))

    assigned_by-near : (x y : Expr) (z : ℕ) (op : Option Assignment)
        → Twins b 0 Level (assigned_by depth_left (x, z) op) (assigned_by depth_left (y, z) op)
    assigned_by-near x y z (Some op) s s' =
        under (nat_lt z depth_left) (skipped (loose (tall _ _ (expr-near depth_left 1 _ _) (λ _ _ _ _ _. yields refl))))
    assigned_by-near x y z None s s' = yields refl

    assigned-near : (x y : Expr) (z : ℕ) → Twins b 0 Level (assigned depth_left (x, z)) (assigned depth_left (y, z))
    unfolding assigned
    assigned-near x y z s s' =
        chosen (λ v. assigned_by depth_left (x, z) (assignment_of depth_left v)) (λ v. assigned_by depth_left (y, z) (assignment_of depth_left v))
        (λ v. assigned_by-near x y z (assignment_of depth_left v)) s s'

    effect_by-near : (kind : TokenKind) → Twins b 1 Level (effect_by depth_left kind) (effect_by depth_left kind)
    effect_by-near k.Input s s' = tall _ _ (read-near depth_left s s') (λ _ _ _ _ _. yields refl)
    effect_by-near k.Output s s' = print-near s s'
    effect_by-near _ s s' = tall _ _ (expr-near (depth_left + 1) 1 s s') assigned-near

    pub effect-near : Twins b 1 Level (effect depth_left) (effect depth_left)
    unfolding effect
    effect-near s s' = chosen (effect_by depth_left) (effect_by depth_left) effect_by-near s s'

    behind_open-near : (place place' : Place) → Twins b 1 Level (behind_open depth_left place) (behind_open depth_left place')
    behind_open-near place place' s s' = tall _ _ (read-near depth_left s s') (λ _ _ _ s s'. plain (mark-near m.RightParenthesis s s')
        (λ _ _ _ _. yields refl))

    behind_not-near : (place place' : Place) → Twins b 1 Level (behind_not depth_left place) (behind_not depth_left place')
    behind_not-near place place' s s' = plain (mark-near m.LeftParenthesis s s') (λ _ _. behind_open-near place place')

    no_read-near : Twins b 1 Level (no_read depth_left) (no_read depth_left)
    unfolding no_read
    no_read-near s s' = skipped (behind_not-near _ _ _ _)

    tested-near : Twins b 1 Level (tested depth_left) (tested depth_left)
    tested-near s s' = tall _ _ (expr-near (depth_left + 1) 1 s s') (λ _ _ _ _ _. yields refl)

    tested_by-near : (t : Bool) → Twins b 1 Level (tested_by depth_left t) (tested_by depth_left t)
    tested_by-near true s s' = no_read-near s s'
    tested_by-near false s s' = tested-near s s'

is_mark-true : (m : Mark) (kind : TokenKind) → is_mark m kind ≡ true → kind ≡ k.Mark m
is_mark-true m (k.Mark x) e = ap (λ y. k.Mark y) (same_true the_type (search rules) x m e)
is_mark-true m _ e = cc

more-depth_left : (r least : ℕ) (s : List Token) → expr (suc (suc r) + 1) least s ≡ expr (suc (suc (suc r))) least s
more-depth_left r least s = ap (λ n. expr n least s) (omega arith)

-- Where there is depth enough for a read under a test, both readings of a condition that begins with `!` take that, and a `(` behind it.
behind-first : (r : ℕ) (t : Bool) (x : Token) (ts : List Token) → kind_of x.word ≡ k.Mark m.Not
    → left_over (tested_by (suc (suc r)) t (x ∷ ts)) ≤ length ts
unfolding no_read
behind-first r true x ts e = left-within 1 (length ts) (behind_not (suc (suc r)) x.place ts)
    (behind_not-near {b = 0} (suc (suc r)) x.place x.place ts ts).within
behind-first r false x ts e = omega (
  arith,
  ap left_over (more-depth_left r 1 (x ∷ ts)),
  expr-behind-not r 1 x ts e,
  left-within 1 (length ts) (expr (suc (suc r)) 7 ts) (expr-near {b = 0} (suc (suc r)) 7 ts ts).within,
  bind-left 0 (expr (suc (suc r) + 1) 1 (x ∷ ts)) tests (λ y u. omega arith),
)

behind-second : (r : ℕ) (t : Bool) (x y : Token) (ts : List Token) → kind_of x.word ≡ k.Mark m.Not → kind_of y.word ≡ k.Mark m.LeftParenthesis
    → left_over (tested_by (suc (suc r)) t (x ∷ y ∷ ts)) ≤ length ts
unfolding no_read mark
behind-second r true x y ts e f = rw f (left-within 1 (length ts) (behind_open (suc (suc r)) x.place ts)
    (behind_open-near {b = 0} (suc (suc r)) x.place x.place ts ts).within)
behind-second r false x y ts e f = omega (
  arith,
  ap left_over (more-depth_left r 1 (x ∷ y ∷ ts)),
  expr-behind-not r 1 x (y ∷ ts) e,
  expr-behind-parenthesis r 7 y ts f,
  bind-left 0 (expr (suc (suc r) + 1) 1 (x ∷ y ∷ ts)) tests (λ y u. omega arith),
)

-- The three words that are looked at are the same in both, or both readings get behind the point.
data Looked (b depth_left : ℕ) (s s' : List Token) : Type 0 where
  alike : begins_no_read depth_left s ≡ begins_no_read depth_left s' → Looked b depth_left s s'
  beyond : ((t : Bool) → left_over (tested_by depth_left t s) < b) → Looked b depth_left s s'

module _ {b : ℕ} where
  one-word : (r : ℕ) (x x' : Token) (ts ts' : List Token) (t : Bool) → x.word ≡ x'.word → length ts < b → is_mark m.Not (kind_of x.word) ≡ t
      → Looked b (suc (suc r)) (x ∷ ts) (x' ∷ ts')
  one-word r x x' ts ts' true q l e = beyond (λ t. omega (arith, l, behind-first r t x ts (is_mark-true m.Not (kind_of x.word) e)))
  one-word r x x' ts ts' false q l e = alike (rw (sym q, e) refl)

  two-words : (r : ℕ) (x x' y y' : Token) (ts ts' : List Token) (t u : Bool) → x.word ≡ x'.word → y.word ≡ y'.word → length ts < b
      → is_mark m.Not (kind_of x.word) ≡ t → is_mark m.LeftParenthesis (kind_of y.word) ≡ u → Looked b (suc (suc r)) (x ∷ y ∷ ts) (x' ∷ y' ∷ ts')
  two-words r x x' y y' ts ts' true true q p l e f =
      let second : (t : Bool) → left_over (tested_by (suc (suc r)) t (x ∷ y ∷ ts)) ≤ length ts = λ t. behind-second r t x y ts
      (is_mark-true m.Not (kind_of x.word) e) (is_mark-true m.LeftParenthesis (kind_of y.word) f) in
      beyond (λ t. omega (arith, l, second t))
  two-words r x x' y y' ts ts' true false q p l e f = alike (rw (sym q, sym p, e, f) refl)
  two-words r x x' y y' ts ts' false u q p l e f = alike (rw (sym q, e) refl)

  look : (r : ℕ) (s s' : List Token) → Same b s s' → Looked b (suc (suc r)) s s'
  look r _ _ end = alike refl
  look r _ _ (cut s s' l) =
      let all : (t : Bool) → left_over (tested_by (suc (suc r)) t s) ≤ length s = λ t. left-within 1 (length s) (tested_by (suc (suc r)) t s)
      (tested_by-near {b = b} (suc (suc r)) t s s).within in
      beyond (λ t. omega (arith, l, all t))
  look r _ _ (step x x' _ _ q end) = alike (rw q refl)
  look r _ _ (step x x' _ _ q (cut ts ts' l)) = one-word r x x' ts ts' (is_mark m.Not (kind_of x.word)) q l refl
  look r _ _ (step x x' _ _ q (step y y' _ _ p end)) = alike (rw (q, p) refl)
  look r _ _ (step x x' _ _ q (step y y' _ _ p (cut ts ts' l))) = two-words r x x' y y' ts ts' (is_mark m.Not (kind_of x.word))
      (is_mark m.LeftParenthesis (kind_of y.word)) q p l refl refl
  look r _ _ (step x x' _ _ q (step y y' _ _ p (step z z' ts ts' o same))) = alike (rw (q, p, o) refl)

  test-agrees : (depth_left : ℕ) (t : Bool) → (t ≡ true → 1 < depth_left) → (s s' : List Token) → Same b s s'
      → Agree b Level (tested_by depth_left (t && begins_no_read depth_left s) s) (tested_by depth_left (t && begins_no_read depth_left s') s')
  test-agrees depth_left false l s s' e = (tested-near depth_left s s').agrees e
  test-agrees zero true l s s' e = absurd (omega (arith, l refl))
  test-agrees (suc zero) true l s s' e = absurd (omega (arith, l refl))
  test-agrees (suc (suc r)) true l s s' e =
      let begins : List Token → Bool = begins_no_read (suc (suc r)) in
      elim (look r s s' e) as (λ _. Agree b Level (tested_by (suc (suc r)) (begins s) s) (tested_by (suc (suc r)) (begins s') s')) [
        | alike q ↦ subst (λ z. Agree b Level (tested_by (suc (suc r)) (begins s) s) (tested_by (suc (suc r)) z s')) q
            ((tested_by-near (suc (suc r)) (begins s) s s').agrees e)
        | beyond h ↦ past (tested_by (suc (suc r)) (begins s) s) (tested_by (suc (suc r)) (begins s') s') (h (begins s))
      ]

  module _ (depth_left : ℕ) where
    either_test-near : Twins b 1 Level (λ s. tested_by depth_left (nat_lt 1 depth_left && begins_no_read depth_left s) s)
        (λ s. tested_by depth_left (nat_lt 1 depth_left && begins_no_read depth_left s) s)
    either_test-near s s' = record {
      agrees = test-agrees depth_left (nat_lt 1 depth_left) (ltb-true 1 depth_left) s s';
      within = (tested_by-near {b = b} depth_left (nat_lt 1 depth_left && begins_no_read depth_left s) s s).within;
      within' = (tested_by-near {b = b} depth_left (nat_lt 1 depth_left && begins_no_read depth_left s') s' s').within;
    }

    cond_by-near : (kind : TokenKind) → Twins b 1 Level (cond_by depth_left kind) (cond_by depth_left kind)
    cond_by-near k.Input s s' = tall _ _ (read-near depth_left s s') (λ _ _ _ _ _. yields refl)
    cond_by-near _ s s' = either_test-near s s'

    pub cond-near : Twins b 1 Level (cond depth_left) (cond depth_left)
    unfolding cond
    cond-near s s' = chosen (cond_by depth_left) (cond_by depth_left) cond_by-near s s'
