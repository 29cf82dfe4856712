-- Texts of the subset as data, worked by hand.
use Rattle.std.specs.Prelude.{◌≡◌, refl, ℕ, [], ◌∷◌, Some, None, pos, codes}
use Rattle.sl_base.specs.declared.form.Form.TheVariants as f
use Rattle.sl_base.specs.declared.place.Place.{Place}
use Rattle.sl_base.specs.declared.scalar.Scalar.TheVariants as c
use Rattle.sl_syntax.specs.declared.subset.Stmt.TheVariants.{Vector, PushBack, Begin, Dereference}
use Rattle.sl_syntax.specs.declared.subset.Text.{Text}
use Rattle.sl_syntax.specs.declared.typed.callee.Callee.TheVariants as k
use Rattle.sl_syntax.specs.declared.typed.operator.Operator.TheVariants as o
use Rattle.sl_syntax.specs.declared.typed.parameter.ParameterKind.TheVariants as p
use Rattle.sl_syntax.specs.declared.typed.variable.VariableKind.TheVariants as v
use Rattle.sl_syntax.specs.Typed.{literal, held, iterator, call, element, none, with, evaluates, set_scalar, set_iterator, makes, block, declares}
use Rattle.sl_syntax.specs.Typed.{does, no_more, followed, Typed}
use Rattle.sl_syntax.specs.SubsetView.{typed_of, constants_of}

abbrev pub at : ℕ → ℕ → Place
at line col = record { line = line; col = col }

-- int main() {}
abbrev pub empty : Text
empty = record { stmts = []; close = at 1 13; sites = []; names = [] }

abbrev pub empty_as_data : Typed
empty_as_data = record {
  functions = record {
    name = codes "main";
    parameters = [];
    result = Some (p.Value c.Int);
    variables = [];
    body = block None no_more;
    close = at 1 13;
  } ∷ [];
  main = 0;
  sites = [];
  loops = [];
  names = [];
  constants = pos 0 ∷ pos 1 ∷ [];
}

empty_is : typed_of empty ≡ empty_as_data
empty_is = refl

-- int main() {
--   std::vector<int> v;
--   std::vector<int> w;
--   auto it = w.begin();
--   w.push_back(7);
--   v.push_back(5);
--   int x = *it;
-- }
abbrev pub two_vectors : Text
two_vectors = record {
  stmts = Vector (at 2 3) (at 2 20) ∷ Vector (at 3 3) (at 3 20) ∷ Begin (at 4 15) 1 1 (at 4 8) ∷ PushBack (at 5 5) 1 1 0 7
      ∷ PushBack (at 6 5) 0 0 1 5 ∷ Dereference (at 7 11) 0 2 (at 7 7) ∷ [];
  close = at 8 1;
  sites = at 5 5 ∷ at 6 5 ∷ at 8 1 ∷ [];
  names = codes "v" ∷ codes "w" ∷ codes "it" ∷ codes "x" ∷ [];
}

abbrev pub two_vectors_as_data : Typed
two_vectors_as_data = record {
  functions = record {
    name = codes "main";
    parameters = [];
    result = Some (p.Value c.Int);
    variables = record { kind = v.Container; name = 0; place = at 2 20 } ∷ record { kind = v.Container; name = 1; place = at 3 20 }
        ∷ record { kind = v.Iterator; name = 2; place = at 4 8 } ∷ record { kind = v.Scalar; name = 3; place = at 7 7 } ∷ [];
    close = at 8 1;
    body = block (Some 2) (
        followed (declares (makes f.Vector (record { callee = k.Row 0; place = at 2 3; site = None; object = None; names = [] }) none)) (
        followed (declares (makes f.Vector (record { callee = k.Row 0; place = at 3 3; site = None; object = None; names = [] }) none)) (
        followed (declares
        (set_iterator (call (record { callee = k.Row 7; place = at 4 15; site = None; object = Some 1; names = Some 1 ∷ [] }) none))) (
        followed (does
        (evaluates (call (record { callee = k.Row 15; place = at 5 5; site = Some 0; object = Some 1; names = Some 1 ∷ [] })
        (with (literal c.Int (pos 7)) none)))) (
        followed (does
        (evaluates (call (record { callee = k.Row 15; place = at 6 5; site = Some 1; object = Some 0; names = Some 0 ∷ [] })
        (with (literal c.Int (pos 5)) none)))) (
        followed (declares
        (set_scalar c.Int
        (held (element (record { callee = k.Operator o.Dereference; place = at 7 11; site = None; object = None; names = None ∷ Some 2 ∷ [] })
        (with (iterator 0) none)))))
        no_more))))));
  } ∷ [];
  main = 0;
  sites = at 5 5 ∷ at 6 5 ∷ at 8 1 ∷ [];
  loops = [];
  names = codes "v" ∷ codes "w" ∷ codes "it" ∷ codes "x" ∷ [];
  constants = pos 0 ∷ pos 1 ∷ pos 4 ∷ pos 5 ∷ pos 6 ∷ pos 7 ∷ pos 8 ∷ [];
}

two_vectors_is : typed_of two_vectors ≡ two_vectors_as_data
two_vectors_is = refl

-- each constant is there once, with its neighbours
near_constants : constants_of (pos 1 ∷ pos 3 ∷ pos 2 ∷ pos 3 ∷ []) ≡ pos 0 ∷ pos 1 ∷ pos 2 ∷ pos 3 ∷ pos 4 ∷ []
near_constants = refl
