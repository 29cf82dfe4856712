-- The parts of a statement, of items, of functions and of a program that break no rule break none: a lemma for each part.
use Rattle.std.proofs.Common.{◌≡◌, List, [], ◌∷◌, Option}
use Rattle.sl_base.specs.declared.place.Place.{Place}
use Rattle.sl_syntax.specs.declared.tree.element.Element.{Element}
use Rattle.sl_syntax.specs.declared.tree.identifier.Identifier.{Identifier}
use Rattle.sl_syntax.specs.Tree as s
use Rattle.sl_syntax.specs.Tree.{Expr, Declaration, Effect, Cond, First, Stmt, Item, Items, Function}
use Rattle.sl_typing.specs.Contexts.{Context, enter, started, started_loop}
use Rattle.sl_typing.specs.Sites.{declares_container}
use Rattle.sl_typing.specs.Flow.{behind_cond, behind_hidden, at_test, at_last, in_for, in_range, in_while, after, after_item, after_items}
use Rattle.sl_typing.specs.Flow.{before_parameters}
use Rattle.sl_typing.specs.Flow.{in_function, at_brace, after_function}
use Rattle.sl_typing.specs.StatementFaults.{value_faults, effect_faults, cond_faults, declaration_faults, first_faults, test_faults, last_faults}
use Rattle.sl_typing.specs.StatementFaults.{name_faults, site_faults, limit_faults, statement_faults, declaration_place, stmt_faults, item_faults}
use Rattle.sl_typing.specs.StatementFaults.{items_faults}
use Rattle.sl_typing.specs.ProgramFaults.{parameter_faults, function_faults, functions_faults}
use Rattle.sl_number_limits.proofs.Lists.{parts}

-- a block
pub block_items : (g : Context) (at : Place) (items : Items) (close : Place) → stmt_faults g (s.block at items close) ≡ []
    → items_faults (enter g) items ≡ []
unfolding stmt_faults item_faults items_faults
block_items g at items close none = search parts

pub block_brace : (g : Context) (at : Place) (items : Items) (close : Place) → stmt_faults g (s.block at items close) ≡ []
    → site_faults (after_items (enter g) items) (declares_container items) close ≡ []
unfolding stmt_faults item_faults items_faults
block_brace g at items close none = search parts

-- a choice
pub choice_condition : (g : Context) (at : Place) (k : Cond) (a : Stmt) → stmt_faults g (s.choice at k a) ≡ [] → cond_faults (started g) k ≡ []
unfolding stmt_faults item_faults items_faults
choice_condition g at k a none = search parts

pub choice_body : (g : Context) (at : Place) (k : Cond) (a : Stmt) → stmt_faults g (s.choice at k a) ≡ []
    → stmt_faults (behind_cond (started g) k) a ≡ []
unfolding stmt_faults item_faults items_faults
choice_body g at k a none = search parts

pub choice_begins : (g : Context) (at : Place) (k : Cond) (a : Stmt) → stmt_faults g (s.choice at k a) ≡ [] → statement_faults g at ≡ []
unfolding stmt_faults item_faults items_faults
choice_begins g at k a none = search parts

-- a choice with two branches
pub choice_else_condition : (g : Context) (at : Place) (k : Cond) (a b : Stmt) → stmt_faults g (s.choice_else at k a b) ≡ []
    → cond_faults (started g) k ≡ []
unfolding stmt_faults item_faults items_faults
choice_else_condition g at k a b none = search parts

pub choice_else_body : (g : Context) (at : Place) (k : Cond) (a b : Stmt) → stmt_faults g (s.choice_else at k a b) ≡ []
    → stmt_faults (behind_cond (started g) k) a ≡ []
unfolding stmt_faults item_faults items_faults
choice_else_body g at k a b none = search parts

pub else_body : (g : Context) (at : Place) (k : Cond) (a b : Stmt) → stmt_faults g (s.choice_else at k a b) ≡ []
    → stmt_faults (after (behind_cond (started g) k) a) b ≡ []
unfolding stmt_faults item_faults items_faults
else_body g at k a b none = search parts

pub choice_else_begins : (g : Context) (at : Place) (k : Cond) (a b : Stmt) → stmt_faults g (s.choice_else at k a b) ≡ []
    → statement_faults g at ≡ []
unfolding stmt_faults item_faults items_faults
choice_else_begins g at k a b none = search parts

-- a `while`
pub while_condition : (g : Context) (at : Place) (k : Cond) (a : Stmt) → stmt_faults g (s.while at k a) ≡ []
    → cond_faults (started_loop at g) k ≡ []
unfolding stmt_faults item_faults items_faults
while_condition g at k a none = search parts

pub while_body : (g : Context) (at : Place) (k : Cond) (a : Stmt) → stmt_faults g (s.while at k a) ≡ [] → stmt_faults (in_while g at k) a ≡ []
unfolding stmt_faults item_faults items_faults
while_body g at k a none = search parts

pub while_begins : (g : Context) (at : Place) (k : Cond) (a : Stmt) → stmt_faults g (s.while at k a) ≡ [] → statement_faults g at ≡ []
unfolding stmt_faults item_faults items_faults
while_begins g at k a none = search parts

-- a `for`
pub for_first : (g : Context) (at : Place) (first : Option First) (k : Option Cond) (last : Option Effect) (a : Stmt)
    → stmt_faults g (s.for at first k last a) ≡ []
    → first_faults (enter (started_loop at g)) first ≡ []
unfolding stmt_faults item_faults items_faults
for_first g at first k last a none = search parts

pub for_test : (g : Context) (at : Place) (first : Option First) (k : Option Cond) (last : Option Effect) (a : Stmt)
    → stmt_faults g (s.for at first k last a) ≡ []
    → test_faults (at_test g at first) k ≡ []
unfolding stmt_faults item_faults items_faults
for_test g at first k last a none = search parts

pub for_last : (g : Context) (at : Place) (first : Option First) (k : Option Cond) (last : Option Effect) (a : Stmt)
    → stmt_faults g (s.for at first k last a) ≡ []
    → last_faults (at_last g at first k) last ≡ []
unfolding stmt_faults item_faults items_faults
for_last g at first k last a none = search parts

pub for_body : (g : Context) (at : Place) (first : Option First) (k : Option Cond) (last : Option Effect) (a : Stmt)
    → stmt_faults g (s.for at first k last a) ≡ []
    → stmt_faults (in_for g at first k last) a ≡ []
unfolding stmt_faults item_faults items_faults
for_body g at first k last a none = search parts

pub for_begins : (g : Context) (at : Place) (first : Option First) (k : Option Cond) (last : Option Effect) (a : Stmt)
    → stmt_faults g (s.for at first k last a) ≡ []
    → statement_faults g at ≡ []
unfolding stmt_faults item_faults items_faults
for_begins g at first k last a none = search parts

-- a range-for
pub range_container : (g : Context) (at : Place) (how : Element) (x over : Identifier) (a : Stmt) → stmt_faults g (s.range_for at how x over a) ≡ []
    → name_faults g over ≡ []
unfolding stmt_faults item_faults items_faults
range_container g at how x over a none = search parts

pub range_body : (g : Context) (at : Place) (how : Element) (x over : Identifier) (a : Stmt) → stmt_faults g (s.range_for at how x over a) ≡ []
    → stmt_faults (in_range g at how x over) a ≡ []
unfolding stmt_faults item_faults items_faults
range_body g at how x over a none = search parts

pub range_hidden : (g : Context) (at : Place) (how : Element) (x over : Identifier) (a : Stmt) → stmt_faults g (s.range_for at how x over a) ≡ []
    → limit_faults (enter (started_loop at g)) (behind_hidden g at over) at ≡ []
unfolding stmt_faults item_faults items_faults
range_hidden g at how x over a none = search parts

pub range_variable : (g : Context) (at : Place) (how : Element) (x over : Identifier) (a : Stmt) → stmt_faults g (s.range_for at how x over a) ≡ []
    → limit_faults (behind_hidden g at over) (in_range g at how x over) x.place ≡ []
unfolding stmt_faults item_faults items_faults
range_variable g at how x over a none = search parts

pub range_begins : (g : Context) (at : Place) (how : Element) (x over : Identifier) (a : Stmt) → stmt_faults g (s.range_for at how x over a) ≡ []
    → statement_faults g at ≡ []
unfolding stmt_faults item_faults items_faults
range_begins g at how x over a none = search parts

-- a jump
pub break_begins : (g : Context) (at : Place) → stmt_faults g (s.break at) ≡ [] → statement_faults g at ≡ []
unfolding stmt_faults item_faults items_faults
break_begins g at none = search parts

pub continue_begins : (g : Context) (at : Place) → stmt_faults g (s.continue at) ≡ [] → statement_faults g at ≡ []
unfolding stmt_faults item_faults items_faults
continue_begins g at none = search parts

-- a value that is given back
pub given_value : (g : Context) (at : Place) (value : Option Expr) → stmt_faults g (s.gives_back at value) ≡ []
    → value_faults (started g) value ≡ []
unfolding stmt_faults item_faults items_faults
given_value g at value none = search parts

pub return_begins : (g : Context) (at : Place) (value : Option Expr) → stmt_faults g (s.gives_back at value) ≡ [] → statement_faults g at ≡ []
unfolding stmt_faults item_faults items_faults
return_begins g at value none = search parts

-- an effect
pub done_effect : (g : Context) (at : Place) (w : Effect) → stmt_faults g (s.does at w) ≡ [] → effect_faults (started g) w ≡ []
unfolding stmt_faults item_faults items_faults
done_effect g at w none = search parts

pub effect_begins : (g : Context) (at : Place) (w : Effect) → stmt_faults g (s.does at w) ≡ [] → statement_faults g at ≡ []
unfolding stmt_faults item_faults items_faults
effect_begins g at w none = search parts

-- an item of a block
pub declared : (g : Context) (d : Declaration) → item_faults g (s.declares d) ≡ [] → declaration_faults (started g) d ≡ []
unfolding stmt_faults item_faults items_faults
declared g d none = search parts

pub declaration_begins : (g : Context) (d : Declaration) → item_faults g (s.declares d) ≡ [] → statement_faults g (declaration_place d) ≡ []
unfolding stmt_faults item_faults items_faults
declaration_begins g d none = search parts

pub stated : (g : Context) (a : Stmt) → item_faults g (s.states a) ≡ [] → stmt_faults g a ≡ []
unfolding stmt_faults item_faults items_faults
stated g a none = search parts

-- items
pub first_item : (g : Context) (i : Item) (rest : Items) → items_faults g (s.followed i rest) ≡ [] → item_faults g i ≡ []
unfolding stmt_faults item_faults items_faults
first_item g i rest none = search parts

pub other_items : (g : Context) (i : Item) (rest : Items) → items_faults g (s.followed i rest) ≡ [] → items_faults (after_item g i) rest ≡ []
unfolding stmt_faults item_faults items_faults
other_items g i rest none = search parts

-- a function
pub function_parameters : (g : Context) (f : Function) → function_faults g f ≡ [] → parameter_faults (before_parameters g f) 0 f.params ≡ []
function_parameters g f none = search parts

pub function_items : (g : Context) (f : Function) → function_faults g f ≡ [] → items_faults (in_function g f) f.items ≡ []
function_items g f none = search parts

pub function_brace : (g : Context) (f : Function) → function_faults g f ≡ [] → site_faults (at_brace g f) (declares_container f.items) f.closes ≡ []
function_brace g f none = search parts

-- functions
pub first_function : (g : Context) (f : Function) (fs : List Function) → functions_faults g (f ∷ fs) ≡ [] → function_faults g f ≡ []
first_function g f fs none = search parts

pub other_functions : (g : Context) (f : Function) (fs : List Function) → functions_faults g (f ∷ fs) ≡ []
    → functions_faults (after_function g f) fs ≡ []
other_functions g f fs none = search parts
