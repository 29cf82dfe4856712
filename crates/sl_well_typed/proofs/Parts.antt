-- What breaks no rule: neither do its parts, and at each node each rule is kept.
use Rattle.std.proofs.Common.{◌≡◌, ℕ, ◌+◌, Bool, true, false, List, [], ◌∷◌, ◌++◌, refl}
use Rattle.sl_base.specs.declared.place.Place.{Place}
use Rattle.sl_syntax.specs.declared.operator.BinaryOperator.{BinaryOperator}
use Rattle.sl_syntax.specs.declared.operator.PostfixOperator.{PostfixOperator}
use Rattle.sl_syntax.specs.declared.operator.PrefixOperator.{PrefixOperator}
use Rattle.sl_syntax.specs.declared.operator.Selector.{Selector}
use Rattle.sl_syntax.specs.declared.tree.identifier.Identifier.{Identifier}
use Rattle.sl_syntax.specs.Tree as s
use Rattle.sl_syntax.specs.Tree.{Expr, Exprs}
use Rattle.sl_typing.specs.declared.fault.Fault.{Fault}
use Rattle.sl_typing.specs.declared.rules.TheConstants as rule
use Rattle.sl_typing.specs.declared.scope.Scope.{Scope}
use Rattle.sl_typing.specs.declared.standing.Standing.{Standing}
use Rattle.sl_typing.specs.declared.standing.Standing.TheVariants as standing
use Rattle.sl_typing.specs.Looks.{place_of}
use Rattle.sl_typing.specs.Sites.{site_count, inside}
use Rattle.sl_typing.specs.Order.{order_matters}
use Rattle.sl_typing.specs.WrongType.{wrong_type}
use Rattle.sl_typing.specs.Rules.{is_unknown_variable, is_unknown_function, no_such_call, writes_to_const, is_alias, calls_main, is_weaker}
use Rattle.sl_typing.specs.Rules.{is_lone_appender, is_site_too_many}
use Rattle.sl_typing.specs.Faults.{broken, own_faults, last_standing, standing_before, part_standing, faults, faults_of_all}

-- where two lists have nothing, neither has anything
pub none_in_both : (xs ys : List Fault) → xs ++ ys ≡ [] → (xs ≡ []) × (ys ≡ [])
none_in_both [] ys h = (refl, h)
none_in_both (x ∷ xs) ys h = absurd cc

-- where three have nothing, none has anything
pub none_in_three : (xs ys zs : List Fault) → xs ++ ys ++ zs ≡ [] → (xs ≡ []) × (ys ≡ []) × (zs ≡ [])
none_in_three xs ys zs h =
    let last = none_in_both (xs ++ ys) zs h in let first = none_in_both xs ys last.0 in (first.0, first.1, last.1)

-- a rule that isn't broken
pub unbroken : (test : Bool) (at : Place) (number : ℕ) → broken test at number ≡ [] → test ≡ false
unbroken true at number h = absurd cc
unbroken false at number h = refl

-- a node that stands so keeps each rule
pub record Keeps (g : Scope) (n : ℕ) (how : Standing) (e : Expr) : Type 0 where
  pub calls : no_such_call g e ≡ false
  pub types : wrong_type g how e ≡ false
  pub constness : writes_to_const g e ≡ false
  pub aliases : is_alias g e ≡ false
  pub order : order_matters g e ≡ false
  pub main : calls_main e ≡ false
  pub iterators : is_weaker g e ≡ false
  pub appenders : is_lone_appender how e ≡ false
  pub sites : is_site_too_many g n e ≡ false

-- a node that breaks none of its own rules keeps each
pub own_kept : (g : Scope) (n : ℕ) (how : Standing) (e : Expr) → own_faults g n how e ≡ [] → Keeps g n how e
unfolding own_faults
own_kept g n how e h =
    let p = place_of e in
    let f1 = broken (no_such_call g e) p rule.NO_SUCH_CALL in
    let f2 = broken (wrong_type g how e) p rule.WRONG_TYPE in
    let f3 = broken (writes_to_const g e) p rule.WRITE_TO_CONST in
    let f4 = broken (is_alias g e) p rule.ALIAS in
    let f5 = broken (order_matters g e) p rule.ORDER_OF_EFFECTS in
    let f6 = broken (calls_main e) p rule.NO_MAIN in
    let f7 = broken (is_weaker g e) p rule.WEAKER_ITERATOR in
    let f8 = broken (is_lone_appender how e) p rule.APPENDER in
    let f9 = broken (is_site_too_many g n e) p rule.TOO_MANY_SITES in
    let h9 = none_in_both (f1 ++ f2 ++ f3 ++ f4 ++ f5 ++ f6 ++ f7 ++ f8) f9 h in
    let h8 = none_in_both (f1 ++ f2 ++ f3 ++ f4 ++ f5 ++ f6 ++ f7) f8 h9.0 in
    let h7 = none_in_both (f1 ++ f2 ++ f3 ++ f4 ++ f5 ++ f6) f7 h8.0 in
    let h6 = none_in_both (f1 ++ f2 ++ f3 ++ f4 ++ f5) f6 h7.0 in
    let h5 = none_in_both (f1 ++ f2 ++ f3 ++ f4) f5 h6.0 in
    let h4 = none_in_both (f1 ++ f2 ++ f3) f4 h5.0 in
    let h3 = none_in_both (f1 ++ f2) f3 h4.0 in
    let h2 = none_in_both f1 f2 h3.0 in record {
      calls = unbroken (no_such_call g e) p rule.NO_SUCH_CALL h2.0;
      types = unbroken (wrong_type g how e) p rule.WRONG_TYPE h2.1;
      constness = unbroken (writes_to_const g e) p rule.WRITE_TO_CONST h3.1;
      aliases = unbroken (is_alias g e) p rule.ALIAS h4.1;
      order = unbroken (order_matters g e) p rule.ORDER_OF_EFFECTS h5.1;
      main = unbroken (calls_main e) p rule.NO_MAIN h6.1;
      iterators = unbroken (is_weaker g e) p rule.WEAKER_ITERATOR h7.1;
      appenders = unbroken (is_lone_appender how e) p rule.APPENDER h8.1;
      sites = unbroken (is_site_too_many g n e) p rule.TOO_MANY_SITES h9.1;
    }

-- a name
pub name_kept : (g : Scope) (n : ℕ) (how : Standing) (x : Identifier) → faults g n how (s.name x) ≡ []
    → (is_unknown_variable g x.name ≡ false) × Keeps g n how (s.name x)
unfolding faults
name_kept g n how x h =
    let both = none_in_both (broken (is_unknown_variable g x.name) x.place rule.UNKNOWN_NAME) (own_faults g n how (s.name x)) h in
    (unbroken (is_unknown_variable g x.name) x.place rule.UNKNOWN_NAME both.0, own_kept g n how (s.name x) both.1)

-- a call of the program's own
pub call_kept : (g : Scope) (n : ℕ) (how : Standing) (f : Identifier) (xs : Exprs) → faults g n how (s.call f xs) ≡ []
    → (is_unknown_function g f.name ≡ false) × (faults_of_all g n standing.Plain xs ≡ []) × Keeps g n how (s.call f xs)
unfolding faults faults_of_all
call_kept g n how f xs h =
    let all = none_in_three (broken (is_unknown_function g f.name) f.place rule.UNKNOWN_NAME) (faults_of_all g n standing.Plain xs)
    (own_faults g n how (s.call f xs)) h in
    (unbroken (is_unknown_function g f.name) f.place rule.UNKNOWN_NAME all.0, all.1, own_kept g n how (s.call f xs) all.2)

-- a call of an algorithm
pub library_call_kept : (g : Scope) (n : ℕ) (how : Standing) (f : Identifier) (xs : Exprs) → faults g n how (s.library_call f xs) ≡ []
    → (faults_of_all g (inside g n (s.library_call f xs)) (last_standing f.name xs) xs ≡ []) × Keeps g n how (s.library_call f xs)
unfolding faults faults_of_all
library_call_kept g n how f xs h =
    let both = none_in_both (faults_of_all g (inside g n (s.library_call f xs)) (last_standing f.name xs) xs)
    (own_faults g n how (s.library_call f xs)) h in
    (both.0, own_kept g n how (s.library_call f xs) both.1)

-- what stands in parentheses
pub parentheses_kept : (g : Scope) (n : ℕ) (how : Standing) (at : Place) (x : Expr) → faults g n how (s.parentheses at x) ≡ []
    → faults g n standing.Plain x ≡ []
unfolding faults
parentheses_kept g n how at x h = h

-- an operator before its operand
pub prefix_kept : (g : Scope) (n : ℕ) (how : Standing) (op : PrefixOperator) (at : Place) (x : Expr) → faults g n how (s.prefix op at x) ≡ []
    → (faults g n standing.Plain x ≡ []) × Keeps g n how (s.prefix op at x)
unfolding faults
prefix_kept g n how op at x h =
    let both = none_in_both (faults g n standing.Plain x) (own_faults g n how (s.prefix op at x)) h in
    (both.0, own_kept g n how (s.prefix op at x) both.1)

-- an operator between its operands
pub binary_kept : (g : Scope) (n : ℕ) (how : Standing) (x : Expr) (op : BinaryOperator) (at : Place) (y : Expr)
    → faults g n how (s.binary x op at y) ≡ []
    → (faults g n standing.Plain x ≡ []) × (faults g (n + site_count g x) standing.Plain y ≡ []) × Keeps g n how (s.binary x op at y)
unfolding faults
binary_kept g n how x op at y h =
    let all = none_in_three (faults g n standing.Plain x) (faults g (n + site_count g x) standing.Plain y) (own_faults g n how (s.binary x op at y)) h in
    (all.0, all.1, own_kept g n how (s.binary x op at y) all.2)

-- an operator behind its operand
pub postfix_kept : (g : Scope) (n : ℕ) (how : Standing) (x : Expr) (op : PostfixOperator) (at : Place) → faults g n how (s.postfix x op at) ≡ []
    → (faults g n standing.Plain x ≡ []) × Keeps g n how (s.postfix x op at)
unfolding faults
postfix_kept g n how x op at h =
    let both = none_in_both (faults g n standing.Plain x) (own_faults g n how (s.postfix x op at)) h in
    (both.0, own_kept g n how (s.postfix x op at) both.1)

-- `[ ]`
pub index_kept : (g : Scope) (n : ℕ) (how : Standing) (x : Expr) (at : Place) (y : Expr) → faults g n how (s.index x at y) ≡ []
    → (faults g n standing.Plain x ≡ []) × (faults g (inside g n (s.index x at y)) standing.Plain y ≡ []) × Keeps g n how (s.index x at y)
unfolding faults
index_kept g n how x at y h =
    let all = none_in_three (faults g n standing.Plain x) (faults g (inside g n (s.index x at y)) standing.Plain y)
    (own_faults g n how (s.index x at y)) h in
    (all.0, all.1, own_kept g n how (s.index x at y) all.2)

-- a member call
pub member_call_kept : (g : Scope) (n : ℕ) (how : Standing) (x : Expr) (f : Identifier) (xs : Exprs) → faults g n how (s.member_call x f xs) ≡ []
    → (faults g n standing.Plain x ≡ []) × (faults_of_all g (inside g n (s.member_call x f xs)) standing.Plain xs ≡ [])
    × Keeps g n how (s.member_call x f xs)
unfolding faults faults_of_all
member_call_kept g n how x f xs h =
    let all = none_in_three (faults g n standing.Plain x) (faults_of_all g (inside g n (s.member_call x f xs)) standing.Plain xs)
    (own_faults g n how (s.member_call x f xs)) h in
    (all.0, all.1, own_kept g n how (s.member_call x f xs) all.2)

-- a piece `.x` or `->x`
pub member_kept : (g : Scope) (n : ℕ) (how : Standing) (x : Expr) (l : Selector) (at : Place) (f : Identifier)
    → faults g n how (s.member x l at f) ≡ [] → (faults g n (part_standing l f.name) x ≡ []) × Keeps g n how (s.member x l at f)
unfolding faults
member_kept g n how x l at f h =
    let both = none_in_both (faults g n (part_standing l f.name) x) (own_faults g n how (s.member x l at f)) h in
    (both.0, own_kept g n how (s.member x l at f) both.1)

-- arguments
pub arguments_kept : (g : Scope) (n : ℕ) (last : Standing) (x : Expr) (xs : Exprs) → faults_of_all g n last (s.with x xs) ≡ []
    → (faults g n (standing_before xs last) x ≡ []) × (faults_of_all g (n + site_count g x) last xs ≡ [])
unfolding faults faults_of_all
arguments_kept g n last x xs h = none_in_both (faults g n (standing_before xs last) x) (faults_of_all g (n + site_count g x) last xs) h
