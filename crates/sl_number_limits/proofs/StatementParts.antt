-- At each part of a statement that breaks no rule all numbers are within the limits: a lemma for each place.
use Rattle.std.proofs.Common.{◌≡◌, ℕ, ◌+◌, ◌≤◌, false, [], Option, arith}
use Rattle.std.specs.Prelude.{◌==◌}
use Rattle.std.proofs.lemmas.Bool.Decides.{nat_tests}
use Rattle.sl_base.specs.declared.limits.TheConstants.{STATEMENTS}
use Rattle.sl_base.specs.declared.place.Place.{Place}
use Rattle.sl_syntax.specs.declared.tree.element.Element.{Element}
use Rattle.sl_syntax.specs.declared.tree.identifier.Identifier.{Identifier}
use Rattle.sl_syntax.specs.Tree as s
use Rattle.sl_syntax.specs.Tree.{Expr, Declaration, Effect, Cond, First, Stmt, Item, Items}
use Rattle.sl_typing.specs.declared.rules.TheConstants as rule
use Rattle.sl_typing.specs.Scopes.{type_of_name}
use Rattle.sl_typing.specs.Contexts.{Context, declare, enter, started, started_loop}
use Rattle.sl_typing.specs.Ranges.{element_type}
use Rattle.sl_typing.specs.Flow.{behind_cond, behind_last, at_test, at_last, in_for, behind_hidden, in_range, in_while}
use Rattle.sl_typing.specs.StatementFaults.{statement_faults, declaration_place}
use Rattle.sl_typing.specs.StatementFaults.{stmt_faults, item_faults}
use Rattle.sl_number_limits.specs.Fits.{Fits, HasRoom}
use Rattle.sl_number_limits.proofs.PartFaults.{choice_condition, choice_begins, choice_else_condition, choice_else_begins, while_condition}
use Rattle.sl_number_limits.proofs.PartFaults.{while_begins}
use Rattle.sl_number_limits.proofs.PartFaults.{for_first, for_test, for_last, for_begins, range_hidden, range_variable, range_begins}
use Rattle.sl_number_limits.proofs.PartFaults.{return_begins, effect_begins, declaration_begins}
use Rattle.sl_number_limits.proofs.Lists.{not_broken}
use Rattle.sl_number_limits.proofs.ContextLaws.{started_fits, started_loop_fits, started_loop_has_room, enter_fits, enter_has_room}
use Rattle.sl_number_limits.proofs.ContextLaws.{looping_fits, declare_fits}
use Rattle.sl_number_limits.proofs.HiddenLaws.{hidden_fits, room_behind_hidden}
use Rattle.sl_number_limits.proofs.Declarations.{none_passed}
use Rattle.sl_number_limits.proofs.Effects.{cond_fits, first_fits, test_fits, last_fits}

one_more : (n : ℕ) → (n == STATEMENTS) ≡ false → n ≤ STATEMENTS → n + 1 ≤ STATEMENTS
one_more n e h = grind (arith, nat_tests)

-- a statement that begins is within the limit
pub one_more_statement : (g : Context) (at : Place) → Fits g → statement_faults g at ≡ [] → g.statements + 1 ≤ STATEMENTS
one_more_statement g at f none = one_more g.statements (not_broken (g.statements == STATEMENTS) at rule.TOO_MANY_STATEMENTS none) f.statements

-- where it begins, and where a loop's head begins
pub at_start : (g : Context) (at : Place) → Fits g → statement_faults g at ≡ [] → Fits (started g)
at_start g at f none = started_fits g f (one_more_statement g at f none)

pub at_loop : (g : Context) (at : Place) → Fits g → statement_faults g at ≡ [] → Fits (started_loop at g)
at_loop g at f none = started_loop_fits at g f (one_more_statement g at f none)

pub at_head : (g : Context) (at : Place) → Fits g → statement_faults g at ≡ [] → Fits (enter (started_loop at g))
at_head g at f none = enter_fits (started_loop at g) (at_loop g at f none)

pub head_has_room : (g : Context) (at : Place) → Fits g → HasRoom 1 (enter (started_loop at g))
head_has_room g at f = enter_has_room 1 (started_loop at g) (started_loop_has_room at g f)

-- at the condition of a choice, and in its branch
pub at_choice : (g : Context) (at : Place) (k : Cond) (a : Stmt) → Fits g → stmt_faults g (s.choice at k a) ≡ [] → Fits (started g)
at_choice g at k a f none = at_start g at f (choice_begins g at k a none)

pub in_choice : (g : Context) (at : Place) (k : Cond) (a : Stmt) → Fits g → stmt_faults g (s.choice at k a) ≡ []
    → Fits (behind_cond (started g) k)
in_choice g at k a f none = cond_fits (started g) k (at_choice g at k a f none) (choice_condition g at k a none)

-- the same of a choice with two branches
pub at_choice_else : (g : Context) (at : Place) (k : Cond) (a b : Stmt) → Fits g → stmt_faults g (s.choice_else at k a b) ≡ [] → Fits (started g)
at_choice_else g at k a b f none = at_start g at f (choice_else_begins g at k a b none)

pub in_choice_else : (g : Context) (at : Place) (k : Cond) (a b : Stmt) → Fits g → stmt_faults g (s.choice_else at k a b) ≡ []
    → Fits (behind_cond (started g) k)
in_choice_else g at k a b f none = cond_fits (started g) k (at_choice_else g at k a b f none) (choice_else_condition g at k a b none)

-- at the condition of a `while`, and in its body
pub at_while : (g : Context) (at : Place) (k : Cond) (a : Stmt) → Fits g → stmt_faults g (s.while at k a) ≡ [] → Fits (started_loop at g)
at_while g at k a f none = at_loop g at f (while_begins g at k a none)

pub in_while_fits : (g : Context) (at : Place) (k : Cond) (a : Stmt) → Fits g → stmt_faults g (s.while at k a) ≡ [] → Fits (in_while g at k)
in_while_fits g at k a f none =
    looping_fits (behind_cond (started_loop at g) k) (cond_fits (started_loop at g) k (at_while g at k a f none) (while_condition g at k a none))

-- at the first part of a `for`, at its condition, at its last part and in its body
pub at_for : (g : Context) (at : Place) (first : Option First) (k : Option Cond) (last : Option Effect) (a : Stmt) → Fits g
    → stmt_faults g (s.for at first k last a) ≡ [] → Fits (enter (started_loop at g))
at_for g at first k last a f none = at_head g at f (for_begins g at first k last a none)

pub at_test_fits : (g : Context) (at : Place) (first : Option First) (k : Option Cond) (last : Option Effect) (a : Stmt) → Fits g
    → stmt_faults g (s.for at first k last a) ≡ [] → Fits (at_test g at first)
at_test_fits g at first k last a f none =
    first_fits (enter (started_loop at g)) first (at_for g at first k last a f none) (head_has_room g at f) (for_first g at first k last a none)

pub at_last_fits : (g : Context) (at : Place) (first : Option First) (k : Option Cond) (last : Option Effect) (a : Stmt) → Fits g
    → stmt_faults g (s.for at first k last a) ≡ [] → Fits (at_last g at first k)
at_last_fits g at first k last a f none =
    test_fits (at_test g at first) k (at_test_fits g at first k last a f none) (for_test g at first k last a none)

pub in_for_fits : (g : Context) (at : Place) (first : Option First) (k : Option Cond) (last : Option Effect) (a : Stmt) → Fits g
    → stmt_faults g (s.for at first k last a) ≡ [] → Fits (in_for g at first k last)
in_for_fits g at first k last a f none =
    looping_fits (behind_last (at_last g at first k) last)
    (last_fits (at_last g at first k) last (at_last_fits g at first k last a f none) (for_last g at first k last a none))

-- behind the hidden iterators of a range-for, and in its body
pub behind_hidden_fits : (g : Context) (at : Place) (how : Element) (x over : Identifier) (a : Stmt) → Fits g
    → stmt_faults g (s.range_for at how x over a) ≡ [] → Fits (behind_hidden g at over)
behind_hidden_fits g at how x over a f none =
    let h = at_head g at f (range_begins g at how x over a none) in
    hidden_fits over.name (enter (started_loop at g)).scope (enter (started_loop at g)) h.scope.counts h
    (none_passed (enter (started_loop at g)) (behind_hidden g at over) at (range_hidden g at how x over a none))

pub in_range_fits : (g : Context) (at : Place) (how : Element) (x over : Identifier) (a : Stmt) → Fits g
    → stmt_faults g (s.range_for at how x over a) ≡ [] → Fits (in_range g at how x over)
in_range_fits g at how x over a f none =
    let u = element_type how (type_of_name g.scope over.name) in
    let h = behind_hidden_fits g at how x over a f none in
    looping_fits (declare x u (behind_hidden g at over))
    (declare_fits x u (behind_hidden g at over).scope (behind_hidden g at over) h.scope.counts h
    (room_behind_hidden 1 (type_of_name g.scope over.name) (enter (started_loop at g)) (head_has_room g at f))
    (none_passed (behind_hidden g at over) (in_range g at how x over) x.place (range_variable g at how x over a none)))

-- at the value that is given back, and at an effect
pub at_value : (g : Context) (at : Place) (value : Option Expr) → Fits g → stmt_faults g (s.gives_back at value) ≡ [] → Fits (started g)
at_value g at value f none = at_start g at f (return_begins g at value none)

pub at_effect : (g : Context) (at : Place) (w : Effect) → Fits g → stmt_faults g (s.does at w) ≡ [] → Fits (started g)
at_effect g at w f none = at_start g at f (effect_begins g at w none)

-- at a declaration
pub at_declaration : (g : Context) (d : Declaration) → Fits g → item_faults g (s.declares d) ≡ [] → Fits (started g)
at_declaration g d f none = at_start g (declaration_place d) f (declaration_begins g d none)
