-- Functions of a program, typed one after the other.
use Rattle.std.proofs.Common.{◌≡◌, List, [], ◌∷◌, map, refl, ap}
use Rattle.sl_syntax.specs.declared.tree.function.Function.{Function as FunctionCode}
use Rattle.sl_syntax.specs.declared.typed.function.Function.{Function as TypedCode}
use Rattle.sl_syntax.specs.Typed as t
use Rattle.sl_syntax.specs.TreeView.{function_of}
use Rattle.sl_syntax.specs.TypedView as view
use Rattle.sl_typing.specs.Flow.{after_function, after_functions}
use Rattle.sl_typing.specs.ProgramFaults.{function_faults, functions_faults}
use Rattle.sl_typing.specs.Typing.{typed_function, typed_functions}
use Rattle.sl_number_limits.proofs.Functions.{after_function_fits}
use Rattle.sl_number_limits.proofs.PartFaults.{first_function, other_functions}
use Rattle.sl_statement_numbering.proofs.WalkLaws.{Walk, all_before}

-- the functions of a program
abbrev pub function_walk : Walk FunctionCode TypedCode t.Function (List t.Function)
function_walk = record {
  faults = λ g xs. functions_faults g (map function_of xs);
  behind = λ g xs. after_functions g (map function_of xs);
  typed = λ g xs. typed_functions g (map function_of xs);
  one = λ g x. function_faults g (function_of x);
  behind_one = λ g x. after_function g (function_of x);
  typed_one = λ g x. typed_function g (function_of x);
  seen = view.function_of;
  nothing = [];
  before = λ v vs. v ∷ vs;
  behind_none = λ g. refl;
  typed_none = λ g. refl;
  first = λ g x xs k. first_function g (function_of x) (map function_of xs) k;
  others = λ g x xs k. other_functions g (function_of x) (map function_of xs) k;
  behind_more = λ g x xs. refl;
  typed_more = λ g x xs. refl;
  fits = λ g x xs f k. after_function_fits g (function_of x) f (first_function g (function_of x) (map function_of xs) k);
}

-- those that are typed
pub functions_seen : (ys : List TypedCode) → map view.function_of ys ≡ all_before function_walk ys []
unfolding all_before
functions_seen [] = refl
functions_seen (y ∷ ys) = ap (λ (vs : List t.Function). view.function_of y ∷ vs) (functions_seen ys)
