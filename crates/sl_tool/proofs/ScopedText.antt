-- In a text of the subset each variable that is used is in scope, so each of its runs keeps the invariant of states.
use Rattle.std.proofs.Common.{◌≡◌, ℕ, zero, suc, ◌+◌, List, [], ◌∷◌, Some, refl, subst, ℤ}
use Rattle.std.specs.Prelude.{slice_get}
use Rattle.sl_syntax.specs.Typed.{Function}
use Rattle.sl_syntax.specs.declared.subset.Stmt.{Stmt}
use Rattle.sl_syntax.specs.declared.subset.Stmt.TheVariants.{Vector, PushBack, Begin, Dereference}
use Rattle.sl_syntax.specs.declared.subset.Text.{Text}
use Rattle.sl_syntax.specs.SubsetView.{stmts_of, main_of, typed_of}
use Rattle.sl_base.specs.declared.limits.TheConstants.{CALLS}
use Rattle.sl_specs.specs.Table.{table}
use Rattle.sl_model.specs.LibraryCalls.Library.{lib}
use Rattle.sl_model.specs.Runs.Run.{out_of}
use Rattle.sl_model.specs.Typing.Shapes.{Signature, a_number, lib_shape, lib_makes, signature_of}
use Rattle.sl_model.specs.Typing.Scoped.{InStmts, IsScopedFunction, IsScoped}
use Rattle.sl_model.proofs.RunGood.{IsGoodOut, run-good}
use Rattle.sl_tool.specs.Subset.{IsOfText}
use Rattle.sl_tool.proofs.Uses.{UsesDeclared}
use Rattle.sl_tool.proofs.Founded.{uses-declared}

-- the statements use what is in scope, where so many variables of each sort are
in_scope : (functions : List Function) (ss : List Stmt) (scalars vectors iterators : ℕ) → UsesDeclared vectors iterators ss
    → InStmts (record { shape = lib_shape; makes = lib_makes; functions = functions }) a_number
    (record { scalars = scalars; conts = vectors; iters = iterators }) (stmts_of ss)
unfolding table
in_scope functions [] scalars vectors iterators u = tt
in_scope functions (Vector place named ∷ ss) scalars vectors iterators u = (((refl, tt), tt), in_scope functions ss scalars (vectors + 1) iterators u)
in_scope functions (PushBack place v name site z ∷ ss) scalars vectors iterators u =
    (((refl, u.0), (tt, tt)), in_scope functions ss scalars vectors iterators u.1)
in_scope functions (Begin place v name named ∷ ss) scalars vectors iterators u =
    ((refl, ((refl, u.0), tt)), in_scope functions ss scalars vectors (iterators + 1) u.1)
in_scope functions (Dereference place it name named ∷ ss) scalars vectors iterators u =
    ((refl, ((refl, tt), (u.0, tt))), in_scope functions ss (scalars + 1) vectors iterators u.1)

-- the only function of a text of the subset
only_main : (g : Signature) (h k : Function) (f : ℕ) → IsScopedFunction g h → slice_get (h ∷ []) f ≡ Some k → IsScopedFunction g k
only_main g h k zero scoped e = let same : h ≡ k = cc in subst (IsScopedFunction g) same scoped
only_main g h k (suc f) scoped e = absurd cc

-- a text of the subset is scoped
pub is_scoped : (p : Text) → IsOfText p → IsScoped lib_shape lib_makes (typed_of p)
is_scoped p of_text =
    let g = signature_of lib_shape lib_makes (typed_of p) in
    record {
      bodies = λ f h e. only_main g (main_of p.stmts p.close) h f
          (in_scope (main_of p.stmts p.close ∷ []) p.stmts 0 0 0 (uses-declared of_text.1.0 p of_text.1.2)) e;
      main = main_of p.stmts p.close;
      main_there = refl;
      main_parameters = refl;
      main_result = refl;
    }

-- and its runs keep the invariant of states
pub runs-good : (p : Text) → IsOfText p → (input : List ℤ) (picks : List ℕ) (steps : ℕ)
    → IsGoodOut (out_of lib (typed_of p) input picks steps)
runs-good p of_text input picks steps = run-good (typed_of p) (is_scoped p of_text) input picks steps
