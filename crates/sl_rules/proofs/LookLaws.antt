-- What a look at a node finds, variant by variant, from the looks at its parts.
use Rattle.std.proofs.Common.{◌≡◌, refl, ℕ, ◌+◌, Bool, length, Option, None, ap, sym, ◌∙◌}
use Rattle.std.specs.Option.{option_or}
use Rattle.std.proofs.lemmas.List.{length-append}
use Rattle.sl_base.specs.declared.place.Place.{Place}
use Rattle.sl_base.specs.declared.scalar.Scalar.TheVariants as t
use Rattle.sl_expr_types.specs.Capped.{capped}
use Rattle.sl_expr_types.proofs.CountLaws.{count-none}
use Rattle.sl_expr_types.proofs.SiteLaws.{capped-+}
use Rattle.sl_rules.specs.declared.look.Look.{Look}
use Rattle.sl_rules.specs.Looks.{IsLook}
use Rattle.sl_rules.proofs.CappedLaws.{faults-same, all-same}
use Rattle.sl_rules.proofs.FaultLaws.{first_fault, first_of_all, own_fault, fault-name}
use Rattle.sl_rules.proofs.FaultLaws.{fault-prefix, fault-binary, fault-postfix, fault-member}
use Rattle.sl_syntax.specs.declared.operator.BinaryOperator.{BinaryOperator}
use Rattle.sl_syntax.specs.declared.operator.PostfixOperator.{PostfixOperator}
use Rattle.sl_syntax.specs.declared.operator.PrefixOperator.{PrefixOperator}
use Rattle.sl_syntax.specs.declared.operator.Selector.{Selector}
use Rattle.sl_syntax.specs.declared.tree.identifier.Identifier.{Identifier}
use Rattle.sl_syntax.specs.Tree as s
use Rattle.sl_syntax.specs.Tree.{Expr, Exprs}
use Rattle.sl_typing.specs.declared.expr_type.ExprType.{ExprType}
use Rattle.sl_typing.specs.declared.expr_type.ExprType.TheVariants as types
use Rattle.sl_typing.specs.declared.fault.Fault.{Fault}
use Rattle.sl_typing.specs.declared.rules.TheConstants as rule
use Rattle.sl_typing.specs.declared.scope.Scope.{Scope}
use Rattle.sl_typing.specs.declared.standing.Standing.{Standing}
use Rattle.sl_typing.specs.declared.standing.Standing.TheVariants as standing
use Rattle.sl_typing.specs.Faults.{broken, faults, part_standing}
use Rattle.sl_typing.specs.Rules.{is_unknown_variable}
use Rattle.sl_typing.specs.Scopes.{type_of_name}
use Rattle.sl_typing.specs.Sites.{sites_in, site_count}
use Rattle.sl_typing.specs.TypeOf.{is_first, type_of, type_of_use, prefix_type, binary_type}
use Rattle.sl_typing.specs.TypeOf.{selected_type}
use Rattle.sl_typing.specs.Types.{value_type}
use Rattle.sl_typing.specs.Typing.{first_of}

-- ## Leaves

pub look-number : (g : Scope) (n : ℕ) (how : Standing) (at : Place) (m : ℕ)
    → IsLook g n how (s.number at m) (record { fault = None; expr_type = types.Scalar t.Int; sites = 0 })
unfolding faults type_of site_count sites_in
look-number g n how at m = record { fault = refl; expr_type = refl; sites = sym count-none }

pub look-truth : (g : Scope) (n : ℕ) (how : Standing) (at : Place) (x : Bool)
    → IsLook g n how (s.truth at x) (record { fault = None; expr_type = types.Scalar t.Bool; sites = 0 })
unfolding faults type_of site_count sites_in
look-truth g n how at x = record { fault = refl; expr_type = refl; sites = sym count-none }

type-name : (g : Scope) (x : Identifier) → type_of g (s.name x) ≡ type_of_use (type_of_name g x.name)
unfolding type_of
type-name g x = refl

count-name : (g : Scope) (x : Identifier) → capped (site_count g (s.name x)) ≡ 0
unfolding site_count sites_in
count-name g x = count-none

pub look-name : (g : Scope) (n : ℕ) (how : Standing) (x : Identifier) (fault : Option Fault) (u : ExprType)
    → fault ≡ option_or (first_of (broken (is_unknown_variable g x.name) x.place rule.UNKNOWN_NAME)) (own_fault g n how (s.name x))
    → u ≡ type_of_use (type_of_name g x.name)
    → IsLook g n how (s.name x) (record { fault = fault; expr_type = u; sites = 0 })
look-name g n how x fault u f e =
    record { fault = f ∙ sym (fault-name g n how x); expr_type = e ∙ sym (type-name g x); sites = sym (count-name g x) }

-- ## One part

-- a node with one part, which has its sites
one_part : (g : Scope) (n : ℕ) (how inner : Standing) (e x : Expr) (own : Look) (fault : Option Fault) (u : ExprType) → IsLook g n inner x own
    → first_fault g n how e ≡ option_or (first_fault g n inner x) (own_fault g n how e)
    → site_count g e ≡ site_count g x
    → fault ≡ option_or own.fault (own_fault g n how e)
    → u ≡ type_of g e
    → IsLook g n how e (record { fault = fault; expr_type = u; sites = own.sites })
one_part g n how inner e x own fault u l law count f t = record {
  fault = f ∙ ap (λ (o : Option Fault). option_or o (own_fault g n how e)) l.fault ∙ sym law;
  expr_type = t;
  sites = l.sites ∙ ap capped (sym count);
}

type-prefix : (g : Scope) (op : PrefixOperator) (at : Place) (x : Expr) → type_of g (s.prefix op at x) ≡ prefix_type op (type_of g x)
unfolding type_of
type-prefix g op at x = refl

count-prefix : (g : Scope) (op : PrefixOperator) (at : Place) (x : Expr) → site_count g (s.prefix op at x) ≡ site_count g x
unfolding site_count sites_in
count-prefix g op at x = refl

pub look-prefix : (g : Scope) (n : ℕ) (how : Standing) (op : PrefixOperator) (at : Place) (x : Expr) (own : Look) (fault : Option Fault) (u : ExprType)
    → IsLook g n standing.Plain x own
    → fault ≡ option_or own.fault (own_fault g n how (s.prefix op at x))
    → u ≡ prefix_type op own.expr_type
    → IsLook g n how (s.prefix op at x) (record { fault = fault; expr_type = u; sites = own.sites })
look-prefix g n how op at x own fault u l f t =
    one_part g n how standing.Plain (s.prefix op at x) x own fault u l (fault-prefix g n how op at x) (count-prefix g op at x) f
    (t ∙ ap (prefix_type op) l.expr_type ∙ sym (type-prefix g op at x))

type-postfix : (g : Scope) (x : Expr) (op : PostfixOperator) (at : Place) → type_of g (s.postfix x op at) ≡ value_type (type_of g x)
unfolding type_of
type-postfix g x op at = refl

count-postfix : (g : Scope) (x : Expr) (op : PostfixOperator) (at : Place) → site_count g (s.postfix x op at) ≡ site_count g x
unfolding site_count sites_in
count-postfix g x op at = refl

pub look-postfix : (g : Scope) (n : ℕ) (how : Standing) (x : Expr) (op : PostfixOperator) (at : Place) (own : Look) (fault : Option Fault) (u : ExprType)
    → IsLook g n standing.Plain x own
    → fault ≡ option_or own.fault (own_fault g n how (s.postfix x op at))
    → u ≡ value_type own.expr_type
    → IsLook g n how (s.postfix x op at) (record { fault = fault; expr_type = u; sites = own.sites })
look-postfix g n how x op at own fault u l f t =
    one_part g n how standing.Plain (s.postfix x op at) x own fault u l (fault-postfix g n how x op at) (count-postfix g x op at) f
    (t ∙ ap value_type l.expr_type ∙ sym (type-postfix g x op at))

type-member : (g : Scope) (x : Expr) (selector : Selector) (at : Place) (f : Identifier)
    → type_of g (s.member x selector at f) ≡ selected_type selector (type_of g x) (is_first f.name)
unfolding type_of
type-member g x selector at f = refl

count-member : (g : Scope) (x : Expr) (selector : Selector) (at : Place) (f : Identifier) → site_count g (s.member x selector at f) ≡ site_count g x
unfolding site_count sites_in
count-member g x selector at f = refl

pub look-member : (g : Scope) (n : ℕ) (how : Standing) (x : Expr) (selector : Selector) (at : Place) (f : Identifier) (own : Look) (fault : Option Fault)
    (u : ExprType)
    → IsLook g n (part_standing selector f.name) x own
    → fault ≡ option_or own.fault (own_fault g n how (s.member x selector at f))
    → u ≡ selected_type selector own.expr_type (is_first f.name)
    → IsLook g n how (s.member x selector at f) (record { fault = fault; expr_type = u; sites = own.sites })
look-member g n how x selector at f own fault u l e t =
    one_part g n how (part_standing selector f.name) (s.member x selector at f) x own fault u l (fault-member g n how x selector at f)
    (count-member g x selector at f) e
    (t ∙ ap (λ v. selected_type selector v (is_first f.name)) l.expr_type ∙ sym (type-member g x selector at f))

pub look-parentheses : (g : Scope) (n : ℕ) (how : Standing) (at : Place) (x : Expr) (own : Look)
    → IsLook g n standing.Plain x own
    → IsLook g n how (s.parentheses at x) own
unfolding faults type_of site_count sites_in
look-parentheses g n how at x own l = record { fault = l.fault; expr_type = l.expr_type; sites = l.sites }

-- ## Two parts

-- two faults of parts, and that of the node behind them
pub behind_two : (a b c d own : Option Fault) → a ≡ c → b ≡ d → option_or (option_or a b) own ≡ option_or (option_or c d) own
behind_two a b c d own p q = cc

-- numbers of sites that count alike
pub moved : (g : Scope) (m k : ℕ) (how : Standing) (x : Expr) → capped m ≡ capped k → first_fault g m how x ≡ first_fault g k how x
moved g m k how x h = ap first_of (faults-same g m k how x h)

pub moved_all : (g : Scope) (m k : ℕ) (last : Standing) (xs : Exprs) → capped m ≡ capped k → first_of_all g m last xs ≡ first_of_all g k last xs
moved_all g m k last xs h = ap first_of (all-same g m k last xs h)

type-binary : (g : Scope) (x : Expr) (op : BinaryOperator) (at : Place) (y : Expr)
    → type_of g (s.binary x op at y) ≡ binary_type op (type_of g x) (type_of g y)
unfolding type_of
type-binary g x op at y = refl

count-binary : (g : Scope) (x : Expr) (op : BinaryOperator) (at : Place) (y : Expr)
    → capped (site_count g (s.binary x op at y)) ≡ capped (capped (site_count g x) + capped (site_count g y))
unfolding site_count sites_in
count-binary g x op at y =
    ap capped (length-append (sites_in g x) (sites_in g y)) ∙ capped-+ (length (sites_in g x)) (length (sites_in g y))

pub look-binary : (g : Scope) (n m : ℕ) (how : Standing) (x : Expr) (op : BinaryOperator) (at : Place) (y : Expr) (left right : Look)
    (fault : Option Fault) (u : ExprType) (k : ℕ)
    → IsLook g n standing.Plain x left
    → capped m ≡ capped (n + site_count g x)
    → IsLook g m standing.Plain y right
    → fault ≡ option_or (option_or left.fault right.fault) (own_fault g n how (s.binary x op at y))
    → u ≡ binary_type op left.expr_type right.expr_type
    → k ≡ capped (left.sites + right.sites)
    → IsLook g n how (s.binary x op at y) (record { fault = fault; expr_type = u; sites = k })
look-binary g n m how x op at y left right fault u k l e r f t c = record {
  fault =
      f
      ∙ behind_two left.fault right.fault _ _ (own_fault g n how (s.binary x op at y)) l.fault (r.fault ∙ moved g m (n + site_count g x) standing.Plain y e)
      ∙ sym (fault-binary g n how x op at y);
  expr_type =
      t ∙ ap (λ v. binary_type op v right.expr_type) l.expr_type ∙ ap (binary_type op (type_of g x)) r.expr_type ∙ sym (type-binary g x op at y);
  sites =
      c
      ∙ ap (λ i. capped (i + right.sites)) l.sites
      ∙ ap (λ i. capped (capped (site_count g x) + i)) r.sites
      ∙ sym (count-binary g x op at y);
}
