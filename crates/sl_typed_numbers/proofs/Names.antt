-- The nodes of a text that breaks no rule pass what its statements' nodes pass; so the names that they tell are there.
use Rattle.std.proofs.Common.{◌≡◌, ℕ, ◌≤◌, Bool, true, List, [], ◌∷◌, length, None, refl, sym, subst, arith}
use Rattle.std.specs.Prelude.{flat_map}
use Rattle.std.proofs.Math.Nat.{le_trans}
use Rattle.sl_syntax.specs.Tree.{Function, Program}
use Rattle.sl_syntax.specs.Typed as t
use Rattle.sl_typing.specs.Contexts.{Context}
use Rattle.sl_typing.specs.Flow.{in_function, after_function, after_functions}
use Rattle.sl_typing.specs.ProgramFaults.{functions_faults, start}
use Rattle.sl_typing.specs.Rules.{is_unknown_variable}
use Rattle.sl_typing.specs.declared.rules.TheConstants as rule
use Rattle.sl_typing.specs.Numbering.{told}
use Rattle.sl_typing.specs.StatementNumbering.{told_in, typed_items}
use Rattle.sl_typing.specs.Typing as typing
use Rattle.sl_typing.specs.Typing.{typed_function, typed_functions, typed_program}
use Rattle.sl_model.specs.Typing.WellTypedNodes.{Node, nodes_in_stmt, nodes_in_stmts}
use Rattle.sl_model.specs.Typing.WellTypedNumbers.{tells_names}
use Rattle.sl_model.specs.Typing.WellTyped.{has_names}
use Rattle.sl_number_limits.specs.Fits.{Fits, FitsScope}
use Rattle.sl_number_limits.proofs.Lists.{not_broken}
use Rattle.sl_number_limits.proofs.PartFaults.{first_function, other_functions, function_items}
use Rattle.sl_number_limits.proofs.ScopeLaws.{scope_stays}
use Rattle.sl_number_limits.proofs.Lasting.{brace_lasts}
use Rattle.sl_number_limits.proofs.Functions.{in_function_fits, after_function_fits, start_fits}
use Rattle.sl_number_limits.proofs.Programs.{functions_break_none}
use Rattle.sl_typed_numbers.proofs.Nodes.{AllPass, first_passes, both_pass}
use Rattle.sl_typed_numbers.proofs.Told.{two_told, trimmed_are, used_is_name, names_pass, initializer_told}
use Rattle.sl_typed_numbers.proofs.StatementNodes.{Stands, PassesText, items_pass}

-- functions
pub functions_pass : (ok : Node → Bool) (names : ℕ) → PassesText ok names → (g : Context) (fs : List Function) → Fits g
    → functions_faults g fs ≡ [] → length (after_functions g fs).names ≤ names
    → AllPass ok (flat_map (λ (f : t.Function). nodes_in_stmt f.body) (typed_functions g fs))
unfolding nodes_in_stmt nodes_in_stmts
functions_pass ok names p g [] f none few = refl
functions_pass ok names p g (w ∷ ws) f none few =
    let mine = first_function g w ws none in
    let body = nodes_in_stmts (typed_items (in_function g w) w.items) in
    both_pass ok (nodes_in_stmt (typed_function g w).body)
    (flat_map (λ (k : t.Function). nodes_in_stmt k.body) (typed_functions (after_function g w) ws))
    (both_pass ok body _
    (items_pass ok names p (in_function g w) w.items (in_function_fits g w f mine) (function_items g w mine)
    (le_trans (brace_lasts g w ws).names few))
    (first_passes ok _ [] (p.braces (in_function g w) w.items) refl))
    (functions_pass ok names p (after_function g w) ws (after_function_fits g w f mine) (other_functions g w ws none) few)

-- what names mean at a place is among the names of the text
scope_stands : (names : ℕ) (g : Context) → Stands names g → FitsScope names g.scope
scope_stands names g st = scope_stays (length g.names) names g.scope st.few st.fits.scope

-- the nodes of statements tell names that are there
names_pass_text : (names : ℕ) → PassesText (tells_names names) names
names_pass_text names = record {
  expressions = λ g st. names_pass names g.scope (scope_stands names g st);
  loops = λ n. refl;
  variables = λ kind. refl;
  braces = λ g items. refl;
  ranges = λ g st at over none. used_is_name g.scope over.name names (scope_stands names g st)
      (not_broken (is_unknown_variable g.scope over.name) over.place rule.UNKNOWN_NAME none);
  assignments = λ g st x at y access form f k es none is found.
      trimmed_are names (told g.scope x ∷ told g.scope y ∷ []) (two_told g.scope x y names (scope_stands names g st));
  makings = λ g st form at made es. trimmed_are names (None ∷ told_in g made) (initializer_told g made names (scope_stands names g st));
}

-- what is typed tells names that are there
pub names_stand : (p : Program) (u : t.Typed) → typing.Typed p u → has_names u ≡ true
unfolding has_names typed_program
names_stand p u h =
    let names = length (after_functions start p).names in
    subst (λ (v : t.Typed). has_names v ≡ true) (sym h.is_it)
    (functions_pass (tells_names names) names (names_pass_text names) start p start_fits (functions_break_none p h.breaks_none) (omega arith))
