-- A node's own rules, each as a test.
use Rattle.std.specs.Prelude.{ℕ, List, ◌++◌}
use Rattle.sl_base.specs.declared.place.Place.{Place}
use Rattle.sl_rules.specs.declared.checks.Checks.{Checks}
use Rattle.sl_syntax.specs.Tree.{Expr}
use Rattle.sl_typing.specs.declared.fault.Fault.{Fault}
use Rattle.sl_typing.specs.declared.rules.TheConstants as rule
use Rattle.sl_typing.specs.declared.scope.Scope.{Scope}
use Rattle.sl_typing.specs.declared.standing.Standing.{Standing}
use Rattle.sl_typing.specs.Faults.{broken}
use Rattle.sl_typing.specs.Order.{order_matters}
use Rattle.sl_typing.specs.Rules.{no_such_call, writes_to_const, is_alias, calls_main, is_weaker, is_lone_appender, is_site_too_many}
use Rattle.sl_typing.specs.WrongType.{wrong_type}

-- the rules that the tests find broken, by their numbers, at this place
unfoldable pub broken_by : Checks → Place → List Fault
broken_by x at =
    broken x.no_such_call at rule.NO_SUCH_CALL
    ++ broken x.wrong_type at rule.WRONG_TYPE
    ++ broken x.writes_to_const at rule.WRITE_TO_CONST
    ++ broken x.is_alias at rule.ALIAS
    ++ broken x.order_matters at rule.ORDER_OF_EFFECTS
    ++ broken x.calls_main at rule.NO_MAIN
    ++ broken x.is_weaker at rule.WEAKER_ITERATOR
    ++ broken x.is_lone_appender at rule.APPENDER
    ++ broken x.is_site_too_many at rule.TOO_MANY_SITES

-- the tests of a node
unfoldable pub checks_of : Scope → ℕ → Standing → Expr → Checks
checks_of g n how e = record {
  no_such_call = no_such_call g e;
  wrong_type = wrong_type g how e;
  writes_to_const = writes_to_const g e;
  is_alias = is_alias g e;
  order_matters = order_matters g e;
  calls_main = calls_main e;
  is_weaker = is_weaker g e;
  is_lone_appender = is_lone_appender how e;
  is_site_too_many = is_site_too_many g n e;
}
