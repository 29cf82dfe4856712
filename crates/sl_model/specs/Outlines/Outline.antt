-- What an outline of a text is, and one that is open at places: lists of facts for the heads of its loops and for the entries and exits of
-- its functions. The fact rules carry them from each to the next, and give what each node needs that isn't open; and each form that has a
-- need of the library has a rule, or it is open.
--
-- Restates no section of ISO/IEC 14882:2017.
-- Chosen here: the list at the entry of `main` is empty; an exit's list speaks of parameters by reference alone. A function that nothing
-- calls may begin with any list.
use Rattle.std.specs.Prelude.{ℕ, ◌+◌, ◌==◌, Bool, true, false, not, ◌&&◌, ◌||◌, List, [], ◌∷◌, Some, IsTrue}
use Rattle.sl_syntax.specs.Typed.{Function, Typed}
use Rattle.sl_model.specs.Outlines.Facts.{Fact, given_by}
use Rattle.sl_model.specs.Outlines.FactOperands.{FactScope, table_row}
use Rattle.sl_model.specs.Outlines.FactSteps.{Given, Places, Heads, meet, covers}
use Rattle.sl_model.specs.Outlines.FactsOfExpressions.{expression, left_side, stepped, operands}
use Rattle.sl_model.specs.Outlines.FactScopes.{no_scope, after_parameters, speaks, all_of_references}
use Rattle.sl_model.specs.Outlines.RangeUses.{leaves_in, leaves_in_left, leaves_in_all, leaves_in_stmt, leaves_in_stmts}
use Rattle.sl_model.specs.Outlines.Carry.{carry, carry_all}

-- a list is empty
abbrev pub is_empty_list : List Fact → Bool
is_empty_list [] = true
is_empty_list (f ∷ l) = false

-- what is in scope at the start of a function's body
abbrev pub at_entry : Typed → Function → FactScope
at_entry p f = after_parameters f.parameters (no_scope p)

-- the lists of a function with its number speak of what they may, and each form in it has a rule, or its place is open
abbrev pub function_allowed : Typed → Places → Heads → ℕ → Function → Bool
function_allowed p o h n f =
    speaks (at_entry p f) (h.entries n) && (speaks (at_entry p f) (h.exits n)
    && (all_of_references f.parameters (h.exits n) && (carry (at_entry p f) f.body).allowed o h))

-- what is given at the start of a function
abbrev pub entry_given : Heads → ℕ → Given
entry_given h n = Some (given_by (h.entries n))

-- from its entry's list a function's body is carried to its exit's list
abbrev pub function_carries : Typed → Places → Heads → ℕ → Function → Bool
function_carries p o h n f =
    let body = carry (at_entry p f) f.body in
    let ways = body.gives o h (entry_given h n) in
    body.needs o h (entry_given h n) && covers (meet ways.next ways.returned) (Some (h.exits n))

-- functions from a number on, of a text whose `main` has a number
abbrev pub functions_carry : Typed → Places → Heads → ℕ → List Function → Bool
functions_carry p o h n [] = true
functions_carry p o h n (f ∷ fs) =
    (not (n == p.main) || is_empty_list (h.entries n))
    && (function_allowed p o h n f && (function_carries p o h n f && functions_carry p o h (n + 1) fs))

-- the lists are an outline of the text that is open at these places
unfoldable pub is_outline : Typed → Places → Heads → Bool
unfolding table_row expression left_side stepped operands leaves_in leaves_in_left leaves_in_all leaves_in_stmt leaves_in_stmts carry carry_all
is_outline p o h = functions_carry p o h 0 p.functions

-- no place
abbrev pub nowhere : Places
nowhere at = false

-- these lists are an outline of the text that is open at these places
abbrev pub OpenOutline : Typed → Places → Heads → Type 0
OpenOutline p o h = IsTrue (is_outline p o h)

-- these lists are an outline of the text
abbrev pub Outline : Typed → Heads → Type 0
Outline p h = OpenOutline p nowhere h
