-- The rules that an expression breaks, each with its place, in the order in which they are tried: the parts of a node before the node, in the order of
-- the text, and at one node by ascending number. Whether what is called is known is tried at its name, before the arguments.
use Rattle.std.specs.Prelude.{ℕ, ◌+◌, Bool, List, [], ◌∷◌, ◌++◌, if◌then◌else◌}
use Rattle.sl_base.specs.declared.place.Place.{Place}
use Rattle.sl_syntax.specs.declared.operator.Selector.{Selector}
use Rattle.sl_syntax.specs.declared.operator.Selector.TheVariants as l
use Rattle.sl_syntax.specs.Tree as s
use Rattle.sl_syntax.specs.Tree.{Expr, Exprs}
use Rattle.sl_typing.specs.declared.fault.Fault.{Fault}
use Rattle.sl_typing.specs.declared.rules.TheConstants as rule
use Rattle.sl_typing.specs.declared.scope.Scope.{Scope}
use Rattle.sl_typing.specs.declared.standing.Standing.{Standing}
use Rattle.sl_typing.specs.declared.standing.Standing.TheVariants as standing
use Rattle.sl_typing.specs.Candidates.{has_output}
use Rattle.sl_typing.specs.TypeOf.{size, are_none, is_part_name}
use Rattle.sl_typing.specs.Looks.{place_of}
use Rattle.sl_typing.specs.Sites.{site_count, inside}
use Rattle.sl_typing.specs.Order.{order_matters}
use Rattle.sl_typing.specs.WrongType.{wrong_type}
use Rattle.sl_typing.specs.Rules.{is_unknown_variable, is_unknown_function, no_such_call, writes_to_const, is_alias, calls_main, is_weaker, is_lone_appender}
use Rattle.sl_typing.specs.Rules.{is_site_too_many}

-- this rule is broken here, if the test says so
abbrev pub broken : Bool → Place → ℕ → List Fault
broken test at rule = if test then record { place = at; rule = rule } ∷ [] else []

-- a node's own rules, by their numbers, where it stands so and n sites stand before it
unfoldable pub own_faults : Scope → ℕ → Standing → Expr → List Fault
own_faults g n how e =
    broken (no_such_call g e) (place_of e) rule.NO_SUCH_CALL
    ++ broken (wrong_type g how e) (place_of e) rule.WRONG_TYPE
    ++ broken (writes_to_const g e) (place_of e) rule.WRITE_TO_CONST
    ++ broken (is_alias g e) (place_of e) rule.ALIAS
    ++ broken (order_matters g e) (place_of e) rule.ORDER_OF_EFFECTS
    ++ broken (calls_main e) (place_of e) rule.NO_MAIN
    ++ broken (is_weaker g e) (place_of e) rule.WEAKER_ITERATOR
    ++ broken (is_lone_appender how e) (place_of e) rule.APPENDER
    ++ broken (is_site_too_many g n e) (place_of e) rule.TOO_MANY_SITES

-- how the last argument of an algorithm stands: as an output, where it has one
abbrev pub last_standing : List ℕ → Exprs → Standing
last_standing name xs = if has_output name (size xs) then standing.Output else standing.Plain

-- how an argument stands that this many follow: as the last one does, or plainly
abbrev pub standing_before : Exprs → Standing → Standing
standing_before xs last = if are_none xs then last else standing.Plain

-- how an expression stands before `.x` or `->x`
abbrev pub part_standing : Selector → List ℕ → Standing
part_standing l.Dot name = if is_part_name name then standing.Pair else standing.Plain
part_standing l.Arrow name = standing.Plain

unfoldable mutual
  -- the rules that an expression breaks, in their order, where it stands so and n sites stand before it
  pub faults : Scope → ℕ → Standing → Expr → List Fault
  faults g n how (s.number at m) = []
  faults g n how (s.truth at x) = []
  faults g n how (s.name x) = broken (is_unknown_variable g x.name) x.place rule.UNKNOWN_NAME ++ own_faults g n how (s.name x)
  faults g n how (s.call f xs) =
      broken (is_unknown_function g f.name) f.place rule.UNKNOWN_NAME
      ++ faults_of_all g n standing.Plain xs ++ own_faults g n how (s.call f xs)
  faults g n how (s.library_call f xs) =
      faults_of_all g (inside g n (s.library_call f xs)) (last_standing f.name xs) xs ++ own_faults g n how (s.library_call f xs)
  faults g n how (s.parentheses at x) = faults g n standing.Plain x
  faults g n how (s.prefix op at x) = faults g n standing.Plain x ++ own_faults g n how (s.prefix op at x)
  faults g n how (s.binary x op at y) =
      faults g n standing.Plain x ++ faults g (n + site_count g x) standing.Plain y ++ own_faults g n how (s.binary x op at y)
  faults g n how (s.postfix x op at) = faults g n standing.Plain x ++ own_faults g n how (s.postfix x op at)
  faults g n how (s.index x at y) =
      faults g n standing.Plain x ++ faults g (inside g n (s.index x at y)) standing.Plain y ++ own_faults g n how (s.index x at y)
  faults g n how (s.member_call x f xs) =
      faults g n standing.Plain x ++ faults_of_all g (inside g n (s.member_call x f xs)) standing.Plain xs
      ++ own_faults g n how (s.member_call x f xs)
  faults g n how (s.member x selector at f) =
      faults g n (part_standing selector f.name) x ++ own_faults g n how (s.member x selector at f)

  -- those of arguments, of which the last stands so
  pub faults_of_all : Scope → ℕ → Standing → Exprs → List Fault
  faults_of_all g n last s.none = []
  faults_of_all g n last (s.with x xs) = faults g n (standing_before xs last) x ++ faults_of_all g (n + site_count g x) last xs
