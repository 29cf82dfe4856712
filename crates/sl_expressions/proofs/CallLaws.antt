-- Calls, once their arguments are read.
use Rattle.std.proofs.Common.{◌≡◌, refl, ℕ, ◌+◌, ◌<◌, max, List, Ok}
use Rattle.std.proofs.lemmas.Bool.{lt-ltb}
use Rattle.sl_base.specs.declared.token.Token.{Token}
use Rattle.sl_syntax.specs.declared.tree.identifier.Identifier.{Identifier}
use Rattle.sl_syntax.specs.Tree as t
use Rattle.sl_syntax.specs.Tree.{Expr, Exprs}
use Rattle.sl_grammar.specs.Means.Expressions.{call, library_call, arguments}
use Rattle.sl_grammar.specs.Means.Steps.{Reader, Tall, library}
use Rattle.sl_expressions.specs.Means.Nests.{called}

module _ (inner smaller : ℕ → Reader (Tall Expr)) (depth_left : ℕ) where
  pub call-ok : (f : Identifier) (xs : Tall Exprs) (ts us : List Token) → 0 < depth_left → arguments inner smaller depth_left ts ≡ Ok (xs, us)
      → call inner smaller depth_left f ts ≡ Ok ((t.call f xs.0, xs.1 + 1), us)
  call-ok f xs ts us h e = rw (lt-ltb 0 depth_left h, e) refl

  pub library_call-ok : (f : Identifier) (xs : Tall Exprs) (ts us vs : List Token) → 0 < depth_left → library ts ≡ Ok (f, us)
      → arguments inner smaller depth_left us ≡ Ok (xs, vs)
      → library_call inner smaller depth_left ts ≡ Ok ((t.library_call f xs.0, xs.1 + 1), vs)
  unfolding library_call
  library_call-ok f xs ts us vs h e k = rw (lt-ltb 0 depth_left h, e, k) refl

  pub called-ok : (left : Tall Expr) (f : Identifier) (xs : Tall Exprs) (ts us : List Token) → arguments inner smaller depth_left ts ≡ Ok (xs, us)
      → called inner smaller depth_left left f ts ≡ Ok ((t.member_call left.0 f xs.0, max left.1 xs.1 + 1), us)
  called-ok left f xs ts us e = rw e refl
