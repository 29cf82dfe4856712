-- The first fault of an expression, variant by variant: that of its parts, and else of the node itself.
use Rattle.std.proofs.Common.{◌≡◌, refl, ℕ, ◌+◌, ap, ◌∙◌, ◌++◌, Option, None}
use Rattle.std.specs.Option.{option_or}
use Rattle.sl_base.specs.declared.place.Place.{Place}
use Rattle.sl_syntax.specs.declared.operator.BinaryOperator.{BinaryOperator}
use Rattle.sl_syntax.specs.declared.operator.PostfixOperator.{PostfixOperator}
use Rattle.sl_syntax.specs.declared.operator.PrefixOperator.{PrefixOperator}
use Rattle.sl_syntax.specs.declared.operator.Selector.{Selector}
use Rattle.sl_syntax.specs.declared.tree.identifier.Identifier.{Identifier}
use Rattle.sl_syntax.specs.Tree as s
use Rattle.sl_syntax.specs.Tree.{Expr, Exprs}
use Rattle.sl_typing.specs.declared.fault.Fault.{Fault}
use Rattle.sl_typing.specs.declared.rules.TheConstants as rule
use Rattle.sl_typing.specs.declared.scope.Scope.{Scope}
use Rattle.sl_typing.specs.declared.standing.Standing.{Standing}
use Rattle.sl_typing.specs.declared.standing.Standing.TheVariants as standing
use Rattle.sl_typing.specs.Faults.{broken, own_faults, faults, faults_of_all, last_standing, standing_before, part_standing}
use Rattle.sl_typing.specs.Rules.{is_unknown_variable, is_unknown_function}
use Rattle.sl_typing.specs.Sites.{site_count, inside}
use Rattle.sl_typing.specs.Typing.{first_of}
use Rattle.sl_rules.proofs.FirstLaws.{first_of_append}

-- the first fault of an expression, of expressions, and of a node itself
abbrev pub first_fault : Scope → ℕ → Standing → Expr → Option Fault
first_fault g n how e = first_of (faults g n how e)

abbrev pub first_of_all : Scope → ℕ → Standing → Exprs → Option Fault
first_of_all g n last xs = first_of (faults_of_all g n last xs)

abbrev pub own_fault : Scope → ℕ → Standing → Expr → Option Fault
own_fault g n how e = first_of (own_faults g n how e)

pub fault-number : (g : Scope) (n : ℕ) (how : Standing) (at : Place) (m : ℕ) → first_fault g n how (s.number at m) ≡ None
unfolding faults
fault-number g n how at m = refl

pub fault-truth : (g : Scope) (n : ℕ) (how : Standing) (at : Place) (x : _) → first_fault g n how (s.truth at x) ≡ None
unfolding faults
fault-truth g n how at x = refl

pub fault-name : (g : Scope) (n : ℕ) (how : Standing) (x : Identifier)
    → first_fault g n how (s.name x)
    ≡ option_or (first_of (broken (is_unknown_variable g x.name) x.place rule.UNKNOWN_NAME)) (own_fault g n how (s.name x))
unfolding faults
fault-name g n how x = first_of_append (broken (is_unknown_variable g x.name) x.place rule.UNKNOWN_NAME) (own_faults g n how (s.name x))

pub fault-call : (g : Scope) (n : ℕ) (how : Standing) (f : Identifier) (xs : Exprs)
    → first_fault g n how (s.call f xs)
    ≡ option_or (option_or (first_of (broken (is_unknown_function g f.name) f.place rule.UNKNOWN_NAME)) (first_of_all g n standing.Plain xs))
    (own_fault g n how (s.call f xs))
unfolding faults
fault-call g n how f xs =
    let unknown = broken (is_unknown_function g f.name) f.place rule.UNKNOWN_NAME in
    let inner = faults_of_all g n standing.Plain xs in
    let own = own_faults g n how (s.call f xs) in
    first_of_append (unknown ++ inner) own ∙ ap (λ (x : Option Fault). option_or x (first_of own)) (first_of_append unknown inner)

pub fault-library_call : (g : Scope) (n : ℕ) (how : Standing) (f : Identifier) (xs : Exprs)
    → first_fault g n how (s.library_call f xs)
    ≡ option_or (first_of_all g (inside g n (s.library_call f xs)) (last_standing f.name xs) xs) (own_fault g n how (s.library_call f xs))
unfolding faults
fault-library_call g n how f xs =
    first_of_append (faults_of_all g (inside g n (s.library_call f xs)) (last_standing f.name xs) xs) (own_faults g n how (s.library_call f xs))

pub fault-parentheses : (g : Scope) (n : ℕ) (how : Standing) (at : Place) (x : Expr)
    → first_fault g n how (s.parentheses at x) ≡ first_fault g n standing.Plain x
unfolding faults
fault-parentheses g n how at x = refl

pub fault-prefix : (g : Scope) (n : ℕ) (how : Standing) (op : PrefixOperator) (at : Place) (x : Expr)
    → first_fault g n how (s.prefix op at x) ≡ option_or (first_fault g n standing.Plain x) (own_fault g n how (s.prefix op at x))
unfolding faults
fault-prefix g n how op at x = first_of_append (faults g n standing.Plain x) (own_faults g n how (s.prefix op at x))

pub fault-binary : (g : Scope) (n : ℕ) (how : Standing) (x : Expr) (op : BinaryOperator) (at : Place) (y : Expr)
    → first_fault g n how (s.binary x op at y)
    ≡ option_or (option_or (first_fault g n standing.Plain x) (first_fault g (n + site_count g x) standing.Plain y))
    (own_fault g n how (s.binary x op at y))
unfolding faults
fault-binary g n how x op at y =
    let first = faults g n standing.Plain x in
    let second = faults g (n + site_count g x) standing.Plain y in
    let own = own_faults g n how (s.binary x op at y) in
    first_of_append (first ++ second) own ∙ ap (λ (z : Option Fault). option_or z (first_of own)) (first_of_append first second)

pub fault-postfix : (g : Scope) (n : ℕ) (how : Standing) (x : Expr) (op : PostfixOperator) (at : Place)
    → first_fault g n how (s.postfix x op at) ≡ option_or (first_fault g n standing.Plain x) (own_fault g n how (s.postfix x op at))
unfolding faults
fault-postfix g n how x op at = first_of_append (faults g n standing.Plain x) (own_faults g n how (s.postfix x op at))

pub fault-index : (g : Scope) (n : ℕ) (how : Standing) (x : Expr) (at : Place) (y : Expr)
    → first_fault g n how (s.index x at y)
    ≡ option_or (option_or (first_fault g n standing.Plain x) (first_fault g (inside g n (s.index x at y)) standing.Plain y))
    (own_fault g n how (s.index x at y))
unfolding faults
fault-index g n how x at y =
    let first = faults g n standing.Plain x in
    let second = faults g (inside g n (s.index x at y)) standing.Plain y in
    let own = own_faults g n how (s.index x at y) in
    first_of_append (first ++ second) own ∙ ap (λ (z : Option Fault). option_or z (first_of own)) (first_of_append first second)

pub fault-member_call : (g : Scope) (n : ℕ) (how : Standing) (x : Expr) (f : Identifier) (xs : Exprs)
    → first_fault g n how (s.member_call x f xs)
    ≡ option_or (option_or (first_fault g n standing.Plain x) (first_of_all g (inside g n (s.member_call x f xs)) standing.Plain xs))
    (own_fault g n how (s.member_call x f xs))
unfolding faults
fault-member_call g n how x f xs =
    let first = faults g n standing.Plain x in
    let second = faults_of_all g (inside g n (s.member_call x f xs)) standing.Plain xs in
    let own = own_faults g n how (s.member_call x f xs) in
    first_of_append (first ++ second) own ∙ ap (λ (z : Option Fault). option_or z (first_of own)) (first_of_append first second)

pub fault-member : (g : Scope) (n : ℕ) (how : Standing) (x : Expr) (selector : Selector) (at : Place) (f : Identifier)
    → first_fault g n how (s.member x selector at f)
    ≡ option_or (first_fault g n (part_standing selector f.name) x) (own_fault g n how (s.member x selector at f))
unfolding faults
fault-member g n how x selector at f =
    first_of_append (faults g n (part_standing selector f.name) x) (own_faults g n how (s.member x selector at f))

pub fault-none : (g : Scope) (n : ℕ) (last : Standing) → first_of_all g n last s.none ≡ None
unfolding faults_of_all
fault-none g n last = refl

pub fault-with : (g : Scope) (n : ℕ) (last : Standing) (x : Expr) (xs : Exprs)
    → first_of_all g n last (s.with x xs)
    ≡ option_or (first_fault g n (standing_before xs last) x) (first_of_all g (n + site_count g x) last xs)
unfolding faults_of_all
fault-with g n last x xs = first_of_append (faults g n (standing_before xs last) x) (faults_of_all g (n + site_count g x) last xs)
