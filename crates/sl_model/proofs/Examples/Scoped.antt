-- Texts that use what is in scope, and one that hands a container to a function twice. Names and places that a run doesn't look at are
-- left out.
use Rattle.std.proofs.Common.{◌≡◌, ◌∙◌, ℕ, zero, suc, [], ◌∷◌, Some, None, pos, refl, ap, sym, subst, arith}
use Rattle.std.specs.Prelude.{codes, slice_get}
use Rattle.sl_base.specs.declared.scalar.Scalar.TheVariants as t
use Rattle.sl_base.specs.declared.form.Form.TheVariants as f
use Rattle.sl_syntax.specs.declared.operator.Access.TheVariants as a
use Rattle.sl_syntax.specs.declared.operator.Comparison.TheVariants as c
use Rattle.sl_syntax.specs.declared.typed.callee.Callee.TheVariants as callees
use Rattle.sl_syntax.specs.declared.typed.element.Taken.TheVariants as taken
use Rattle.sl_syntax.specs.declared.typed.parameter.ParameterKind.TheVariants as parameter
use Rattle.sl_syntax.specs.declared.typed.step.Fix.TheVariants.{Prefix}
use Rattle.sl_syntax.specs.declared.typed.step.Step.TheVariants.{Up}
use Rattle.sl_syntax.specs.Typed.{Expr, literal, held, call, own_call, comparison, increment, scalar, container, handed_scalar, none, with, test}
use Rattle.sl_syntax.specs.Typed.{evaluates, assigns, set_scalar, makes, declares_first, block, declares, for, range_for, does, no_more, followed}
use Rattle.sl_syntax.specs.Typed.{Function, Typed}
use Rattle.sl_specs.specs.Table.{table}
use Rattle.sl_model.specs.Runs.Good.{AreApart}
use Rattle.sl_model.specs.Typing.Shapes.{Signature, lib_shape, lib_makes, signature_of}
use Rattle.sl_model.specs.Typing.Scoped.{Counts, InExpr, AsksWell, IsScopedFunction, IsScoped}
use Rattle.sl_model.proofs.Examples.Short.{at, head}
use Rattle.sl_model.proofs.Examples.Runs.{growth}
use Rattle.sl_model.proofs.Examples.References.{named_behind_clear, keys_added}

-- a text of one function
one_function : (p : Typed) (h : Function) → p.functions ≡ h ∷ [] → IsScopedFunction (signature_of lib_shape lib_makes p) h → (i : ℕ) (k : Function)
    → slice_get p.functions i ≡ Some k → IsScopedFunction (signature_of lib_shape lib_makes p) k
one_function p h e scoped zero k g =
    let q : Some h ≡ Some k = sym (ap (λ l. slice_get l 0) e) ∙ g in
    let r : h ≡ k = cc in
    subst (λ (x : Function). IsScopedFunction (signature_of lib_shape lib_makes p) x) r scoped
one_function p h e scoped (suc i) k g = absurd (let q : None ≡ Some k = sym (ap (λ l. slice_get l (suc i)) e) ∙ g in cc)

growth_is_scoped : IsScoped lib_shape lib_makes growth
unfolding table
growth_is_scoped = record {
  bodies = one_function growth _ refl (
    ((refl, tt), tt),
    (
      ((refl, (omega arith)), (tt, tt)),
      (
        (refl, ((refl, (omega arith)), tt)),
        (
          ((refl, (omega arith)), (tt, tt)),
          ((refl, ((refl, tt), ((omega arith), tt))), tt),
        ),
      ),
    ),
  );
  main = _;
  main_there = refl;
  main_parameters = refl;
  main_result = refl;
}

-- a reference is in scope from its declaration on
reference_is_scoped : IsScoped lib_shape lib_makes named_behind_clear
unfolding table
reference_is_scoped = record {
  bodies = one_function named_behind_clear _ refl (
    ((refl, tt), tt),
    (
      ((refl, (omega arith)), (tt, tt)),
      (
        (refl, ((refl, (omega arith)), tt)),
        (
          ((refl, (omega arith)), tt),
          ((omega arith), tt),
        ),
      ),
    ),
  );
  main = _;
  main_there = refl;
  main_parameters = refl;
  main_result = refl;
}

-- the library has what a range-for asks of it in that text
map_asks_well : AsksWell (signature_of lib_shape lib_makes keys_added)
map_asks_well = record { tests = refl; reads_one = refl; steps = refl; element_read = refl; stamp_stepped = refl }

-- the reference of a range-for is in scope in its body, behind the two hidden iterators
range_is_scoped : IsScoped lib_shape lib_makes keys_added
unfolding table
range_is_scoped = record {
  bodies = one_function keys_added _ refl (
    ((refl, tt), tt),
    (
      (tt, (refl, ((refl, (omega arith)), (tt, tt)))),
      (
        (tt, (refl, ((refl, (omega arith)), (tt, tt)))),
        (
          ((omega arith), (map_asks_well, (tt, ((omega arith), (omega arith))))),
          (
            ((refl, ((refl, (omega arith)), (tt, tt))), (tt, ((refl, ((refl, (omega arith)), (tt, tt))), tt))),
            tt,
          ),
        ),
      ),
    ),
  );
  main = _;
  main_there = refl;
  main_parameters = refl;
  main_result = refl;
}

-- void take(std::vector<int>& a, std::vector<int>& b, int n, int& r) { r = n; }
abbrev take : Function
take = record {
  name = [];
  parameters = parameter.Container a.Whole f.Vector ∷ parameter.Container a.Whole f.Vector ∷ parameter.Value t.Int ∷ parameter.Reference t.Int ∷ [];
  result = None;
  variables = [];
  close = at 1 80;
  body = block None (followed (does (assigns (scalar 1 (at 1 72)) (held (scalar 0 (at 1 76))))) no_more);
}

-- take(v, w, x, x) by the numbers of v and w
abbrev call_of_take : ℕ → ℕ → Expr
call_of_take v w = own_call 0 (at 6 3) (with (container v) (with (container w) (with (held (scalar 0 (at 6 14))) (with (handed_scalar 0) none))))

-- int main() {
--   std::vector<int> v;
--   std::vector<int> w;
--   int x = 1;
--   take(v, w, x, x);
--   for (int i = 0; i < 3; ++i) { v.push_back(i); }
--   for (int y : v) { x = y; }
-- }
abbrev user : Function
user = record {
  name = [];
  parameters = [];
  result = Some (parameter.Value t.Int);
  variables = [];
  close = at 9 1;
  body = block (Some 2) (
      followed (declares (makes f.Vector (head (callees.Row 0) (at 3 3) None None []) none)) (
      followed (declares (makes f.Vector (head (callees.Row 0) (at 4 3) None None []) none)) (
      followed (declares (set_scalar t.Int (literal t.Int (pos 1)))) (
      followed (does (evaluates (call_of_take 0 1))) (
      followed (for 0 (declares_first (set_scalar t.Int (literal t.Int (pos 0))))
      (test (comparison c.Less (at 7 21) (held (scalar 1 (at 7 19))) (literal t.Int (pos 3))))
      (Some (evaluates (increment Up Prefix t.Int (at 7 26) (scalar 1 (at 7 28)))))
      (block None (followed (does (evaluates (call (head (callees.Row 15) (at 7 35) (Some 1) (Some 0) (Some 0 ∷ []))
      (with (held (scalar 1 (at 7 45))) none))))
      no_more))) (
      followed (range_for 1 taken.Value 0 (at 8 3) 0
      (block None (followed (does (assigns (scalar 0 (at 8 21)) (held (scalar 1 (at 8 25))))) no_more)))
      no_more))))));
}

abbrev two : Typed
two = record { functions = take ∷ user ∷ []; main = 1; sites = at 7 35 ∷ at 9 1 ∷ []; loops = []; names = codes "v" ∷ []; constants = [] }

-- what is known of its calls
abbrev calls : Signature
calls = signature_of lib_shape lib_makes two

-- the library has what a range-for asks of it
lib_asks_well : AsksWell calls
lib_asks_well = record { tests = refl; reads_one = refl; steps = refl; element_read = refl; stamp_stepped = refl }

-- two containers are apart
zero_and_one : AreApart (0 ∷ 1 ∷ [])
zero_and_one zero zero at e f = refl
zero_and_one zero (suc zero) at e f = absurd (let q : Some 0 ≡ Some 1 = e ∙ sym f in cc)
zero_and_one (suc zero) zero at e f = absurd (let q : Some 1 ≡ Some 0 = e ∙ sym f in cc)
zero_and_one (suc zero) (suc zero) at e f = refl
zero_and_one zero (suc (suc y)) at e f = absurd (cc)
zero_and_one (suc zero) (suc (suc y)) at e f = absurd (cc)
zero_and_one (suc (suc x)) y at e f = absurd (cc)

take_is_scoped : IsScopedFunction calls take
take_is_scoped = (((omega arith), (omega arith)), tt)

user_is_scoped : IsScopedFunction calls user
unfolding table
user_is_scoped = (
  ((refl, tt), tt),
  (
    ((refl, tt), tt),
    (
      tt,
      (
        (((tt, (tt, (tt, (tt, tt)))), zero_and_one), ((omega arith), ((omega arith), ((omega arith), ((omega arith), tt))))),
        (
          (tt, (((omega arith), tt), ((omega arith), (tt, (((refl, (omega arith)), ((omega arith), tt)), tt))))),
          (
            ((omega arith), (lib_asks_well, (tt, (((omega arith), (omega arith)), tt)))),
            tt,
          ),
        ),
      ),
    ),
  ),
)

two_is_scoped : IsScoped lib_shape lib_makes two
two_is_scoped = record { bodies = each; main = user; main_there = refl; main_parameters = refl; main_result = refl }
  where
    each : (i : ℕ) (k : Function) → slice_get two.functions i ≡ Some k → IsScopedFunction calls k
    each zero k e = let r : take ≡ k = cc in subst (λ (x : Function). IsScopedFunction calls x) r take_is_scoped
    each (suc zero) k e = let r : user ≡ k = cc in subst (λ (x : Function). IsScopedFunction calls x) r user_is_scoped
    each (suc (suc i)) k e = absurd (cc)

-- take(v, v, x, x) hands one container to two parameters
handed_twice : (n : Counts) → InExpr calls n (call_of_take 0 0) → ⊥
handed_twice n h = absurd (let q : 0 ≡ 1 = h.0.1 0 1 0 refl refl in cc)
