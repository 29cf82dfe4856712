-- What is tested, where a statement has begun.
use Rattle.std.proofs.Common.{◌≡◌, refl}
use Rattle.sl_base.specs.declared.place.Place.{Place}
use Rattle.sl_syntax.specs.Tree as s
use Rattle.sl_syntax.specs.Tree.{Cond}
use Rattle.sl_typing.specs.Contexts.{Context, started, started_loop}
use Rattle.sl_typing.specs.StatementFaults.{wrong_cond}

pub wrong_cond-started : (g : Context) (k : Cond) → wrong_cond (started g) k ≡ wrong_cond g k
wrong_cond-started g (s.tests_read r) = refl
wrong_cond-started g (s.tests_no_read at r) = refl
wrong_cond-started g (s.tests e) = refl

pub wrong_cond-started_loop : (g : Context) (at : Place) (k : Cond) → wrong_cond (started_loop at g) k ≡ wrong_cond g k
wrong_cond-started_loop g at (s.tests_read r) = refl
wrong_cond-started_loop g at (s.tests_no_read at' r) = refl
wrong_cond-started_loop g at (s.tests e) = refl

pub ruleset cond_laws = (wrong_cond-started, wrong_cond-started_loop)
