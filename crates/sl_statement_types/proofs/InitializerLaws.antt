-- What containers are made from, by the code's lists.
use Rattle.std.proofs.Common.{◌≡◌, ℕ, suc, arith, Bool, true, false, ◌&&◌, not, List, [], ◌∷◌, length, Option, Some, None, refl, sym, ap, ◌∙◌}
use Rattle.std.specs.Prelude.{is_none, is_some, option_map, ◌==◌}
use Rattle.std.specs.List.{list_all}
use Rattle.std.proofs.lemmas.Bool.Decides.{nat_tests}
use Rattle.sl_base.specs.declared.form.Form.{Form}
use Rattle.sl_syntax.specs.declared.tree.expr.Expr.{Expr as Code}
use Rattle.sl_syntax.specs.Tree as s
use Rattle.sl_syntax.specs.TreeView.{expr_of, exprs_of}
use Rattle.sl_typing.specs.declared.scope.Scope.{Scope}
use Rattle.sl_typing.specs.Arguments.{is_listed}
use Rattle.sl_typing.specs.Candidates.{Found, has_row, is_constructor_of, list_constructor}
use Rattle.sl_typing.specs.Contexts.{Context}
use Rattle.sl_typing.specs.StatementFaults.{has_no_constructor, wrong_initializer}
use Rattle.sl_typing.specs.TypeOf.{type_of, types_of}
use Rattle.sl_expr_types.proofs.LastLaws.{size-exprs_of}

-- a constructor from so many arguments
pub counted : (form : Form) (xs : List Code) → has_no_constructor form (s.arguments (exprs_of xs)) ≡ not (has_row (is_constructor_of form (length xs)))
counted form xs = ap (λ (n : ℕ). not (has_row (is_constructor_of form n))) (size-exprs_of xs)

-- the elements of a list one by one
all_listed : (g : Scope) (xs : List Code) → list_all is_listed (types_of g (exprs_of xs)) ≡ list_all (λ x. is_listed (type_of g (expr_of x))) xs
unfolding types_of
all_listed g [] = refl
all_listed g (x ∷ xs) = ap (λ (b : Bool). is_listed (type_of g (expr_of x)) && b) (all_listed g xs)

pub wrong_list : (g : Context) (form : Form) (equal : Bool) (xs : List Code)
    → wrong_initializer g form (s.braces equal (exprs_of xs)) ≡ not (list_all (λ x. is_listed (type_of g.scope (expr_of x))) xs)
wrong_list g form equal xs = ap not (all_listed g.scope xs)

-- what has an element isn't empty
some_length : (n : ℕ) → (suc n == 0) ≡ false
some_length n = grind (arith, nat_tests)

-- a list without elements is that of an empty container
pub no_list : (form : Form) (equal : Bool) (xs : List Code) (found : Option Found) → found ≡ list_constructor form
    → (not (length xs == 0) && is_none found) ≡ has_no_constructor form (s.braces equal (exprs_of xs))
no_list form equal [] found e = refl
no_list form equal (x ∷ xs) found e = rw (some_length (length xs), e) refl

-- nothing is there where nothing comes of it
none_mapped : {A B : Type 0} (f : A → B) (o : Option A) → is_none o ≡ is_none (option_map f o)
none_mapped f None = refl
none_mapped f (Some x) = refl

-- a test that says so
none_told : {A : Type 0} (b : Bool) (o : Option A) → is_some o ≡ not b → b ≡ is_none o
none_told true o e = sym (ap not e)
none_told false o e = sym (ap not e)

-- a test says whether nothing comes of what may be there
pub none_comes : {A B : Type 0} (f : A → B) (b : Bool) (o : Option A) (p : Option B) → is_some o ≡ not b → option_map f o ≡ p → b ≡ is_none p
none_comes f b o p told comes = none_told b o told ∙ none_mapped f o ∙ ap is_none comes
