-- When a program is typed, and as what; and where it first breaks a rule.
use Rattle.std.specs.Prelude.{◌≡◌, ℕ, ◌+◌, List, [], ◌∷◌, map, Option, Some, None, if◌then◌else◌}
use Rattle.sl_syntax.specs.SubsetView.{constants_of}
use Rattle.sl_syntax.specs.Tree.{Function, Program}
use Rattle.sl_syntax.specs.Typed as t
use Rattle.sl_typing.specs.declared.fault.Fault.{Fault}
use Rattle.sl_typing.specs.Scopes.{parameter_kind, result_kind}
use Rattle.sl_typing.specs.Contexts.{Context}
use Rattle.sl_typing.specs.Flow.{in_function, at_brace, after_function, after_functions, after, after_item, after_items}
use Rattle.sl_typing.specs.StatementNumbering.{brace_number, typed_items, typed_stmt, typed_item}
use Rattle.sl_typing.specs.Literals.{literals_of_program, literals, literals_of_all, literals_of_stmt, literals_of_item, literals_of_items}
use Rattle.sl_typing.specs.ProgramFaults.{is_main, start, program_faults}
use Rattle.sl_typing.specs.Candidates.{first_row, has_row}
use Rattle.sl_typing.specs.TypeOf.{type_of, types_of}
use Rattle.sl_typing.specs.Sites.{is_site, own_site, sites_in, sites_in_all, site_count, at_word, inside, site_number}
use Rattle.sl_typing.specs.Numbering.{typed, operands}

-- a function before which this is known
abbrev pub typed_function : Context → Function → t.Function
typed_function g f = record {
  name = f.name.name;
  parameters = map parameter_kind f.params;
  result = result_kind f.result;
  variables = (at_brace g f).variables;
  body = t.block (brace_number (in_function g f) f.items) (typed_items (in_function g f) f.items);
  close = f.closes;
}

-- functions
abbrev pub typed_functions : Context → List Function → List t.Function
typed_functions g [] = []
typed_functions g (f ∷ fs) = typed_function g f ∷ typed_functions (after_function g f) fs

-- the number of `main`
abbrev pub main_number : List Function → ℕ
main_number [] = 0
main_number (f ∷ fs) = if is_main f then 0 else main_number fs + 1

-- a program that breaks no rule, with its variables, functions, rows, sites, loops and names as numbers
unfoldable pub typed_program : Program → t.Typed
unfolding first_row has_row type_of types_of is_site own_site sites_in sites_in_all site_count at_word inside site_number after after_item
    after_items typed operands typed_stmt typed_item typed_items literals literals_of_all literals_of_stmt literals_of_item literals_of_items
typed_program p = record {
  functions = typed_functions start p;
  main = main_number p;
  sites = (after_functions start p).sites;
  loops = (after_functions start p).loops;
  names = (after_functions start p).names;
  constants = constants_of (literals_of_program p);
}

-- the program breaks no rule, and this is what it is
pub record Typed (p : Program) (u : t.Typed) : Type 0 where
  pub breaks_none : program_faults p ≡ []
  pub is_it : u ≡ typed_program p

-- the first fault, if there is one
abbrev pub first_of : List Fault → Option Fault
first_of [] = None
first_of (x ∷ xs) = Some x

-- this is the first rule that the program breaks, with its place
abbrev pub FirstBroken : Program → Fault → Type 0
FirstBroken p x = first_of (program_faults p) ≡ Some x
