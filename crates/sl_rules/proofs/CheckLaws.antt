-- A node's own rules, variant by variant.
use Rattle.std.proofs.Common.{◌≡◌, refl, ℕ, ◌+◌, ◌==◌, Bool, false, not, ◌&&◌, ◌||◌, codes, ap, ◌∙◌, Option, Some, None, List, length}
use Rattle.std.specs.Prelude.{is_some, is_none}
use Rattle.std.specs.Str.{bytes_eq}
use Rattle.sl_base.specs.declared.limits.TheConstants.{SITES}
use Rattle.sl_base.specs.declared.place.Place.{Place}
use Rattle.sl_rules.specs.declared.checks.Checks.{Checks}
use Rattle.sl_rules.specs.Means.Checks.{broken_by, checks_of}
use Rattle.sl_rules.specs.Means.Operators.{is_weak_prefix, is_weak_postfix}
use Rattle.sl_syntax.specs.declared.operator.BinaryOperator.{BinaryOperator}
use Rattle.sl_syntax.specs.declared.operator.PostfixOperator.{PostfixOperator}
use Rattle.sl_syntax.specs.declared.operator.PostfixOperator.TheVariants as o
use Rattle.sl_syntax.specs.declared.operator.PrefixOperator.{PrefixOperator}
use Rattle.sl_syntax.specs.declared.operator.PrefixOperator.TheVariants as p
use Rattle.sl_syntax.specs.declared.operator.Selector.{Selector}
use Rattle.sl_expr_types.specs.Capped.{capped}
use Rattle.sl_expr_types.proofs.SiteLaws.{capped-SITES}
use Rattle.sl_rules.proofs.ArgumentLaws.{size_exprs_of}
use Rattle.sl_syntax.specs.TreeView.{exprs_of}
use Rattle.sl_syntax.specs.declared.tree.expr.Expr.{Expr as ExprCode}
use Rattle.sl_syntax.specs.declared.tree.identifier.Identifier.{Identifier}
use Rattle.sl_syntax.specs.Tree as s
use Rattle.sl_syntax.specs.Tree.{Expr, Exprs}
use Rattle.sl_typing.specs.declared.scope.FunctionHead.{FunctionHead}
use Rattle.sl_typing.specs.declared.scope.Scope.{Scope}
use Rattle.sl_typing.specs.declared.standing.Standing.{Standing}
use Rattle.sl_typing.specs.Candidates.{has_algorithm}
use Rattle.sl_typing.specs.Faults.{own_faults}
use Rattle.sl_typing.specs.Looks.{place_of, is_plain}
use Rattle.sl_typing.specs.Order.{order_matters, parameters_of, subscript_changes}
use Rattle.sl_typing.specs.Rules.{no_such_call, writes_to_const, is_alias, calls_main, is_weaker, is_lone_appender, is_site_too_many}
use Rattle.sl_typing.specs.Rules.{takes_others, has_no_member, has_no_subscript, is_const_element, hands_const, call_hands_const, call_aliases}
use Rattle.sl_typing.specs.Rules.{member_writes_const, algorithm_writes_const, is_step, some_twice, bound_names, is_main_name, is_weak_binary}
use Rattle.sl_typing.specs.Rules.{algorithm_is_weak, is_as_output, is_unknown_variable}
use Rattle.sl_typing.specs.Scopes.{type_of_name, variable_named, function_named}
use Rattle.sl_typing.specs.Sites.{is_site, site_count, at_word, is_member_site, is_subscript_site}
use Rattle.sl_typing.specs.TypeOf.{size, appends, type_of, types_of}
use Rattle.sl_typing.specs.Types.{is_number, is_container, is_const_container}
use Rattle.sl_typing.specs.WrongType.{wrong_type, is_entry, is_before_part, wrong_prefix, wrong_step, fits_binary}
use Rattle.sl_typing.specs.WrongType.{fits_algorithm, fit_parameters, fits_call, fits_selector}

-- a node's own faults are those that its tests find
pub own-checks : (g : Scope) (n : ℕ) (how : Standing) (e : Expr) → own_faults g n how e ≡ broken_by (checks_of g n how e) (place_of e)
unfolding own_faults broken_by checks_of
own-checks g n how e = refl

-- no test but these
abbrev pub checks : Bool → Bool → Bool → Bool → Checks
checks no_call wrong writes weaker = record {
  no_such_call = no_call;
  wrong_type = wrong;
  writes_to_const = writes;
  is_alias = false;
  order_matters = false;
  calls_main = false;
  is_weaker = weaker;
  is_lone_appender = false;
  is_site_too_many = false;
}

pub checks-name : (g : Scope) (n : ℕ) (how : Standing) (x : Identifier)
    → checks_of g n how (s.name x) ≡ checks false (is_entry (type_of_name g x.name) && not (is_before_part how)) false false
unfolding checks_of no_such_call wrong_type writes_to_const is_alias order_matters calls_main is_weaker is_lone_appender is_site_too_many is_site
checks-name g n how x = refl

fits_known : (g : Scope) (f : Option FunctionHead) (xs : Exprs) → fits_call g f xs ≡ fit_parameters g (parameters_of f) xs
fits_known g None xs = refl
fits_known g (Some h) xs = refl

hands_known : (g : Scope) (f : Option FunctionHead) (xs : Exprs) → call_hands_const g f xs ≡ hands_const g (parameters_of f) xs
hands_known g None xs = refl
hands_known g (Some h) xs = refl

aliases_known : (f : Option FunctionHead) (xs : Exprs) → call_aliases f xs ≡ some_twice (bound_names (parameters_of f) xs)
aliases_known None xs = refl
aliases_known (Some h) xs = refl

not_none : {A : Type 0} (o : Option A) → not (is_none o) ≡ is_some o
not_none None = refl
not_none (Some x) = refl

pub checks-call : (g : Scope) (n : ℕ) (how : Standing) (f : Identifier) (xs : Exprs)
    → checks_of g n how (s.call f xs)
    ≡ record {
      no_such_call = not (is_unknown_variable g f.name) || takes_others (function_named g f.name) (size xs);
      wrong_type = not (fit_parameters g (parameters_of (function_named g f.name)) xs);
      writes_to_const = hands_const g (parameters_of (function_named g f.name)) xs;
      is_alias = some_twice (bound_names (parameters_of (function_named g f.name)) xs);
      order_matters = order_matters g (s.call f xs);
      calls_main = is_main_name f.name;
      is_weaker = false;
      is_lone_appender = false;
      is_site_too_many = false;
    }
unfolding checks_of no_such_call wrong_type writes_to_const is_alias calls_main is_weaker is_lone_appender is_site_too_many is_site
checks-call g n how f xs =
    let h = function_named g f.name in
    rw (← fits_known g h xs, ← hands_known g h xs, ← aliases_known h xs, not_none (variable_named g f.name)) refl

pub checks-library_call : (g : Scope) (n : ℕ) (how : Standing) (f : Identifier) (xs : Exprs)
    → checks_of g n how (s.library_call f xs)
    ≡ record {
      no_such_call = not (has_algorithm f.name (size xs));
      wrong_type = not (fits_algorithm g f.name xs);
      writes_to_const = algorithm_writes_const (appends f.name xs) f.name (types_of g xs);
      is_alias = false;
      order_matters = order_matters g (s.library_call f xs);
      calls_main = false;
      is_weaker = algorithm_is_weak (appends f.name xs) f.name (types_of g xs);
      is_lone_appender = bytes_eq f.name (codes "back_inserter") && not (is_as_output how);
      is_site_too_many = appends f.name xs && (n == SITES);
    }
unfolding checks_of no_such_call wrong_type writes_to_const is_alias calls_main is_weaker is_lone_appender is_site_too_many is_site at_word
checks-library_call g n how f xs = refl

weaker-prefix : (g : Scope) (op : PrefixOperator) (at : Place) (x : Expr) → is_weaker g (s.prefix op at x) ≡ is_weak_prefix op (type_of g x)
unfolding is_weaker
weaker-prefix g p.Not at x = refl
weaker-prefix g p.Negate at x = refl
weaker-prefix g p.Dereference at x = refl
weaker-prefix g p.Increment at x = refl
weaker-prefix g p.Decrement at x = refl

weaker-postfix : (g : Scope) (x : Expr) (op : PostfixOperator) (at : Place) → is_weaker g (s.postfix x op at) ≡ is_weak_postfix op (type_of g x)
unfolding is_weaker
weaker-postfix g x o.Increment at = refl
weaker-postfix g x o.Decrement at = refl

pub checks-prefix : (g : Scope) (n : ℕ) (how : Standing) (op : PrefixOperator) (at : Place) (x : Expr)
    → checks_of g n how (s.prefix op at x)
    ≡ checks false (wrong_prefix g op x) (is_step op && is_const_element (type_of g x)) (is_weak_prefix op (type_of g x))
unfolding checks_of no_such_call wrong_type writes_to_const is_alias order_matters calls_main is_lone_appender is_site_too_many is_site
checks-prefix g n how op at x = rw (← weaker-prefix g op at x) refl

pub checks-binary : (g : Scope) (n : ℕ) (how : Standing) (x : Expr) (op : BinaryOperator) (at : Place) (y : Expr)
    → checks_of g n how (s.binary x op at y)
    ≡ record {
      no_such_call = false;
      wrong_type = not (fits_binary op (type_of g x) (type_of g y));
      writes_to_const = false;
      is_alias = false;
      order_matters = order_matters g (s.binary x op at y);
      calls_main = false;
      is_weaker = is_weak_binary op (type_of g x);
      is_lone_appender = false;
      is_site_too_many = false;
    }
unfolding checks_of no_such_call wrong_type writes_to_const is_alias calls_main is_weaker is_lone_appender is_site_too_many is_site
checks-binary g n how x op at y = refl

pub checks-postfix : (g : Scope) (n : ℕ) (how : Standing) (x : Expr) (op : PostfixOperator) (at : Place)
    → checks_of g n how (s.postfix x op at)
    ≡ checks false (wrong_step g x) (is_const_element (type_of g x)) (is_weak_postfix op (type_of g x))
unfolding checks_of no_such_call wrong_type writes_to_const is_alias order_matters calls_main is_lone_appender is_site_too_many is_site
checks-postfix g n how x op at = rw (← weaker-postfix g x op at) refl

pub checks-index : (g : Scope) (n : ℕ) (how : Standing) (x : Expr) (at : Place) (y : Expr)
    → checks_of g n how (s.index x at y)
    ≡ record {
      no_such_call = has_no_subscript (type_of g x);
      wrong_type = not (is_container (type_of g x) && is_number (type_of g y));
      writes_to_const = is_const_container (type_of g x) && subscript_changes (type_of g x);
      is_alias = false;
      order_matters = false;
      calls_main = false;
      is_weaker = false;
      is_lone_appender = false;
      is_site_too_many = is_subscript_site (type_of g x) && (n + site_count g x == SITES);
    }
unfolding checks_of no_such_call wrong_type writes_to_const is_alias order_matters calls_main is_weaker is_lone_appender is_site_too_many is_site at_word
checks-index g n how x at y = refl

pub checks-member_call : (g : Scope) (n : ℕ) (how : Standing) (x : Expr) (f : Identifier) (xs : Exprs)
    → checks_of g n how (s.member_call x f xs)
    ≡ record {
      no_such_call = is_plain x && has_no_member (type_of g x) f.name (size xs);
      wrong_type = wrong_type g how (s.member_call x f xs);
      writes_to_const = member_writes_const (type_of g x) f.name (types_of g xs);
      is_alias = false;
      order_matters = order_matters g (s.member_call x f xs);
      calls_main = false;
      is_weaker = false;
      is_lone_appender = false;
      is_site_too_many = is_site g (s.member_call x f xs) && (n + site_count g x == SITES);
    }
unfolding checks_of no_such_call writes_to_const is_alias calls_main is_weaker is_lone_appender is_site_too_many at_word
checks-member_call g n how x f xs = refl

pub checks-member : (g : Scope) (n : ℕ) (how : Standing) (x : Expr) (selector : Selector) (at : Place) (f : Identifier)
    → checks_of g n how (s.member x selector at f) ≡ checks false (not (fits_selector selector x (type_of g x) f.name)) false false
unfolding checks_of no_such_call wrong_type writes_to_const is_alias order_matters calls_main is_weaker is_lone_appender is_site_too_many is_site
checks-member g n how x selector at f = refl

-- a member call is a site by its object and its name
pub site-member_call : (g : Scope) (x : Expr) (f : Identifier) (xs : List ExprCode)
    → is_site g (s.member_call x f (exprs_of xs)) ≡ (is_plain x && is_member_site (type_of g x) f.name (length xs))
unfolding is_site
site-member_call g x f xs = ap (λ n. is_plain x && is_member_site (type_of g x) f.name n) (size_exprs_of xs)

-- whether a number of sites is the last one, also as far as it counts
pub last-number : (number n : ℕ) → number ≡ capped n → (number == SITES) ≡ (n == SITES)
last-number number n e = ap (λ m. m == SITES) e ∙ capped-SITES n

pub ruleset call_site = (site-member_call)

pub ruleset variants = (
  size_exprs_of,
  last-number,
  checks-name,
  checks-call,
  checks-library_call,
  checks-prefix,
  checks-binary,
  checks-postfix,
  checks-index,
  checks-member_call,
  checks-member,
)
