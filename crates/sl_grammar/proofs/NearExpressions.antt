-- The readers of expressions do the same up to a point.
use Rattle.std.proofs.Common.{◌≡◌, ℕ, zero, suc, ◌+◌, ◌-◌, ◌≤◌, nat_lt, true, List, [], ◌∷◌, length, Option, Some, None, refl, arith}
use Rattle.std.proofs.lemmas.Bool.{lt-ltb}
use Rattle.sl_base.specs.declared.mark.Mark.{Mark}
use Rattle.sl_base.specs.declared.mark.Mark.TheVariants as m
use Rattle.sl_base.specs.declared.place.Place.{Place}
use Rattle.sl_base.specs.declared.token.Token.{Token}
use Rattle.sl_syntax.specs.declared.token_kind.TokenKind.{TokenKind}
use Rattle.sl_syntax.specs.declared.token_kind.TokenKind.TheVariants as k
use Rattle.sl_syntax.specs.declared.operator.BinaryOperator.{BinaryOperator}
use Rattle.sl_syntax.specs.declared.operator.PostfixOperator.{PostfixOperator}
use Rattle.sl_syntax.specs.declared.operator.PostfixOperator.TheVariants as q
use Rattle.sl_syntax.specs.declared.operator.PrefixOperator.{PrefixOperator}
use Rattle.sl_syntax.specs.declared.operator.PrefixOperator.TheVariants as p
use Rattle.sl_syntax.specs.declared.tree.identifier.Identifier.{Identifier}
use Rattle.sl_syntax.specs.Shaped.{binary_level}
use Rattle.sl_syntax.specs.TokenKinds.{kind_of}
use Rattle.sl_syntax.specs.Tree as t
use Rattle.sl_syntax.specs.Tree.{Expr}
use Rattle.sl_grammar.specs.Means.Expressions.{infix_of, goes_on, comma_expr, list_behind, list, list_before, arguments, name_or_call, named}
use Rattle.sl_grammar.specs.Means.Expressions.{library_call, parentheses, prefixed, operand_by, operand, indexed, member_by, dotted, pointed}
use Rattle.sl_grammar.specs.Means.Expressions.{postfixed, piece_by, piece, combined, operation_by, operation, climb, from_operand, expr}
use Rattle.sl_grammar.specs.Means.Steps.{Reader, Tall, and_then, ◌>>◌, pure, is_mark, mark}
use Rattle.sl_grammar.proofs.NearSteps.{left_over, left-within, bind-left, Near, Twins, Level, plain, tall, yields, refuses, loose, skipped, taken}
use Rattle.sl_grammar.proofs.NearSteps.{chosen, known, by_test, under, mark-near, identifier-near, library-near, repeat-near}

module _ {b : ℕ} where
  module _ (one more : Reader (Tall Expr)) (depth_left : ℕ) (h : Twins b 1 Level one one) (g : Twins b 1 Level more more) where
    comma_expr-near : Twins b 1 Level (comma_expr one more depth_left) (comma_expr one more depth_left)
    comma_expr-near s s' = plain (mark-near m.Comma s s') (λ _ _ u u'. g u u')

    list_behind-near : (x y : Expr) (z : ℕ) → Twins b 0 Level (list_behind one more depth_left (x, z)) (list_behind one more depth_left (y, z))
    unfolding list_behind
    list_behind-near x y z s s' = by_test (is_mark m.Comma)
        (under (nat_lt z depth_left) (tall _ _ (repeat-near (is_mark m.Comma) (comma_expr one more depth_left) comma_expr-near [] [] 0 s s')
        (λ _ _ _ _ _. yields refl))) (yields refl)

    pub list-near : Twins b 1 Level (list one more depth_left) (list one more depth_left)
    unfolding list
    list-near s s' = tall _ _ (h s s') list_behind-near

    pub list_before-near : (close : Mark) → Twins b 0 Level (list_before one more depth_left close) (list_before one more depth_left close)
    unfolding list_before
    list_before-near close s s' = by_test (is_mark close) (yields refl) (loose (list-near s s'))

  module _ (inner smaller : ℕ → Reader (Tall Expr)) (depth_left : ℕ)
      (h : (least : ℕ) → Twins b 1 Level (inner least) (inner least))
      (g : (least : ℕ) → Twins b 1 Level (smaller least) (smaller least)) where
    arguments-near : Twins b 1 Level (arguments inner smaller depth_left) (arguments inner smaller depth_left)
    unfolding arguments
    arguments-near s s' = plain (mark-near m.LeftParenthesis s s') (λ _ _ u u'. tall _ _
        (list_before-near (inner 1) (smaller 1) (depth_left - 1) (h 1) (g 1) m.RightParenthesis u u')
        (λ _ _ _ v v'. plain (mark-near m.RightParenthesis v v') (λ _ _ _ _. yields refl)))

    name_or_call-near : (f f' : Identifier) → Twins b 0 Level (name_or_call inner smaller depth_left f) (name_or_call inner smaller depth_left f')
    name_or_call-near f f' s s' = by_test (is_mark m.LeftParenthesis) (under (nat_lt 0 depth_left)
        (loose (tall _ _ (arguments-near s s') (λ _ _ _ _ _. yields refl)))) (yields refl)

    named-near : Twins b 1 Level (named inner smaller depth_left) (named inner smaller depth_left)
    unfolding named
    named-near s s' = plain (identifier-near s s') name_or_call-near

    library_call-near : Twins b 1 Level (library_call inner smaller depth_left) (library_call inner smaller depth_left)
    unfolding library_call
    library_call-near s s' =
        under (nat_lt 0 depth_left) (plain (library-near s s') (λ _ _ u u'. tall _ _ (arguments-near u u') (λ _ _ _ _ _. yields refl)))

    parentheses-near : Twins b 1 Level (parentheses inner smaller depth_left) (parentheses inner smaller depth_left)
    unfolding parentheses
    parentheses-near s s' = under (nat_lt 0 depth_left) (skipped (tall _ _ (h 1 _ _)
        (λ _ _ _ u u'. plain (mark-near m.RightParenthesis u u') (λ _ _ _ _. yields refl))))

    prefixed-near : (op : PrefixOperator) → Twins b 1 Level (prefixed inner smaller depth_left op) (prefixed inner smaller depth_left op)
    unfolding prefixed
    prefixed-near op s s' = under (nat_lt 0 depth_left) (skipped (tall _ _ (h 7 _ _) (λ _ _ _ _ _. yields refl)))

    operand_by-near : (kind : TokenKind) (s s' : List Token) → 1 ≤ length s → 1 ≤ length s'
        → Near b 1 Level s s' (operand_by inner smaller depth_left kind s) (operand_by inner smaller depth_left kind s')
    operand_by-near k.Number s s' l l' = taken l l' refl
    operand_by-near (k.Truth v) s s' l l' = taken l l' refl
    operand_by-near k.Name s s' l l' = named-near s s'
    operand_by-near k.Library s s' l l' = library_call-near s s'
    operand_by-near (k.Mark m.LeftParenthesis) s s' l l' = parentheses-near s s'
    operand_by-near (k.Mark m.Not) s s' l l' = prefixed-near p.Not s s'
    operand_by-near (k.Mark m.Minus) s s' l l' = prefixed-near p.Negate s s'
    operand_by-near (k.Mark m.Star) s s' l l' = prefixed-near p.Dereference s s'
    operand_by-near (k.Mark m.PlusPlus) s s' l l' = prefixed-near p.Increment s s'
    operand_by-near (k.Mark m.MinusMinus) s s' l l' = prefixed-near p.Decrement s s'
    operand_by-near _ s s' l l' = refuses

    operand-near : Twins b 1 Level (operand inner smaller depth_left) (operand inner smaller depth_left)
    unfolding operand
    operand-near s s' = known (operand_by inner smaller depth_left) (operand_by inner smaller depth_left) (λ _ _. refuses) operand_by-near s s'

    indexed-near : (x y : Expr) (z : ℕ) → Twins b 1 Level (indexed inner smaller depth_left (x, z)) (indexed inner smaller depth_left (y, z))
    unfolding indexed
    indexed-near x y z s s' = skipped (tall _ _ (h 1 _ _) (λ _ _ _ u u'. plain (mark-near m.RightBracket u u') (λ _ _ _ _. yields refl)))

    member_by-near : (x y : Expr) (z : ℕ) (dot dot' : Place) (f f' : Identifier)
        → Twins b 0 Level (member_by inner smaller depth_left (x, z) dot f) (member_by inner smaller depth_left (y, z) dot' f')
    member_by-near x y z dot dot' f f' s s' = by_test (is_mark m.LeftParenthesis)
        (loose (tall _ _ (arguments-near s s') (λ _ _ _ _ _. yields refl))) (yields refl)

    dotted-near : (x y : Expr) (z : ℕ) → Twins b 1 Level (dotted inner smaller depth_left (x, z)) (dotted inner smaller depth_left (y, z))
    unfolding dotted
    dotted-near x y z s s' = skipped (plain (identifier-near _ _) (member_by-near x y z _ _))

    pointed-near : (x y : Expr) (z : ℕ) → Twins b 1 Level (pointed inner smaller depth_left (x, z)) (pointed inner smaller depth_left (y, z))
    unfolding pointed
    pointed-near x y z s s' = skipped (plain (identifier-near _ _) (λ _ _ _ _. yields refl))

    postfixed-near : (x y : Expr) (z : ℕ) (op : PostfixOperator)
        → Twins b 0 Level (postfixed inner smaller depth_left (x, z) op) (postfixed inner smaller depth_left (y, z) op)
    postfixed-near x y z op s s' = skipped (yields refl)

    piece_by-near : (x y : Expr) (z : ℕ) (kind : TokenKind) → Twins b 0 Level (piece_by inner smaller depth_left (x, z) kind)
        (piece_by inner smaller depth_left (y, z) kind)
    piece_by-near x y z (k.Mark m.PlusPlus) s s' = postfixed-near x y z q.Increment s s'
    piece_by-near x y z (k.Mark m.MinusMinus) s s' = postfixed-near x y z q.Decrement s s'
    piece_by-near x y z (k.Mark m.LeftBracket) s s' = loose (indexed-near x y z s s')
    piece_by-near x y z (k.Mark m.Dot) s s' = loose (dotted-near x y z s s')
    piece_by-near x y z (k.Mark m.Arrow) s s' = loose (pointed-near x y z s s')
    piece_by-near x y z _ s s' = refuses

    piece-near : (x y : Expr) (z : ℕ) → Twins b 0 Level (piece inner smaller depth_left (x, z)) (piece inner smaller depth_left (y, z))
    unfolding piece
    piece-near x y z s s' = chosen (piece_by inner smaller depth_left (x, z)) (piece_by inner smaller depth_left (y, z)) (piece_by-near x y z) s s'

    combined-near : (x y : Expr) (z : ℕ) (op : BinaryOperator)
        → Twins b 1 Level (combined inner smaller depth_left (x, z) op) (combined inner smaller depth_left (y, z) op)
    unfolding combined
    combined-near x y z op s s' = skipped (tall _ _ (h (binary_level op + 1) _ _) (λ _ _ _ _ _. yields refl))

    operation_by-near : (x y : Expr) (z : ℕ) (op : Option BinaryOperator)
        → Twins b 0 Level (operation_by inner smaller depth_left (x, z) op) (operation_by inner smaller depth_left (y, z) op)
    operation_by-near x y z (Some op) s s' = loose (combined-near x y z op s s')
    operation_by-near x y z None s s' = piece-near x y z s s'

    operation-near : (x y : Expr) (z : ℕ) → Twins b 0 Level (operation inner smaller depth_left (x, z)) (operation inner smaller depth_left (y, z))
    unfolding operation
    operation-near x y z s s' = chosen (λ v. operation_by inner smaller depth_left (x, z) (infix_of v))
        (λ v. operation_by inner smaller depth_left (y, z) (infix_of v)) (λ v. operation_by-near x y z (infix_of v)) s s'

    climb-near : (least n : ℕ) (x y : Expr) (z : ℕ) → Twins b 0 Level (climb inner smaller depth_left least n (x, z))
        (climb inner smaller depth_left least n (y, z))
    unfolding climb
    climb-near least zero x y z s s' = by_test (λ v. nat_lt (goes_on v) least) (yields refl) refuses
    climb-near least (suc n) x y z s s' = by_test (λ v. nat_lt (goes_on v) least) (yields refl)
        (under (nat_lt z depth_left) (tall _ _ (operation-near x y z s s') (climb-near least n)))

    from_operand-near : (least : ℕ) → Twins b 1 Level (from_operand inner smaller depth_left least) (from_operand inner smaller depth_left least)
    unfolding from_operand
    from_operand-near least s s' = tall _ _ (operand-near s s') (climb-near least depth_left)

    -- what begins with `!` ends where what stands behind that ends, or behind it
    behind-not : (least : ℕ) (x : Token) (ts : List Token) → nat_lt 0 depth_left ≡ true → kind_of x.word ≡ k.Mark m.Not
        → left_over (from_operand inner smaller depth_left least (x ∷ ts)) ≤ left_over (inner 7 ts)
    unfolding from_operand operand prefixed
    behind-not least x ts q e =
        let over : Tall Expr → Reader (Tall Expr) = λ y. pure (t.prefix p.Not x.place y.0, y.1 + 1) in
        rw (e, q) (omega (
          arith,
          bind-left 0 (inner 7 ts) over (λ y u. omega arith),
          bind-left 0 (and_then (inner 7 ts) over) (climb inner smaller depth_left least depth_left)
              (λ y u. (climb-near least depth_left y.0 y.0 y.1 u u).within),
        ))

    -- what begins with `(` takes that
    behind-parenthesis : (least : ℕ) (x : Token) (ts : List Token) → nat_lt 0 depth_left ≡ true → kind_of x.word ≡ k.Mark m.LeftParenthesis
        → left_over (from_operand inner smaller depth_left least (x ∷ ts)) ≤ length ts
    unfolding from_operand operand parentheses
    behind-parenthesis least x ts q e =
        let close : Tall Expr → Reader (Tall Expr) = λ y. mark m.RightParenthesis >> pure (t.parentheses x.place y.0, y.1 + 1) in
        let closed : (y : Tall Expr) (u : List Token) → Near b 1 Level u u (close y u) (close y u) = λ y u. plain (mark-near m.RightParenthesis u u)
        (λ _ _ _ _. yields refl) in
        rw (e, q) (omega (
          arith,
          left-within 1 (length ts) (inner 1 ts) (h 1 ts ts).within,
          bind-left 1 (inner 1 ts) close (λ y u. (closed y u).within),
          bind-left 0 (and_then (inner 1 ts) close) (climb inner smaller depth_left least depth_left)
              (λ y u. (climb-near least depth_left y.0 y.0 y.1 u u).within),
        ))

  pub expr-near : (d least : ℕ) → Twins b 1 Level (expr d least) (expr d least)
  unfolding expr
  expr-near zero least s s' = refuses
  expr-near (suc zero) least s s' = from_operand-near (expr zero) (expr zero) zero (expr-near zero) (expr-near zero) least s s'
  expr-near (suc (suc n)) least s s' = from_operand-near (expr (suc n)) (expr n) (suc n) (expr-near (suc n)) (expr-near n) least s s'

pub expr-behind-not : (r least : ℕ) (x : Token) (ts : List Token) → kind_of x.word ≡ k.Mark m.Not
    → left_over (expr (suc (suc (suc r))) least (x ∷ ts)) ≤ left_over (expr (suc (suc r)) 7 ts)
unfolding expr
expr-behind-not r least x ts e = behind-not {b = 0} (expr (suc (suc r))) (expr (suc r)) (suc (suc r)) (expr-near (suc (suc r)))
    (expr-near (suc r)) least x ts (lt-ltb 0 (suc (suc r)) (omega arith)) e

pub expr-behind-parenthesis : (r least : ℕ) (x : Token) (ts : List Token) → kind_of x.word ≡ k.Mark m.LeftParenthesis
    → left_over (expr (suc (suc r)) least (x ∷ ts)) ≤ length ts
unfolding expr
expr-behind-parenthesis r least x ts e = behind-parenthesis {b = 0} (expr (suc r)) (expr r) (suc r) (expr-near (suc r)) (expr-near r) least x ts
    (lt-ltb 0 (suc r) (omega arith)) e
