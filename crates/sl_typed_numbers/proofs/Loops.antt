-- The loops of a function are numbered in the order of the text.
use Rattle.std.proofs.Common.{◌≡◌, ℕ, suc, ◌≤◌, true, List, [], ◌∷◌, ◌++◌, length, length-append, refl, sym, ◌∙◌, ap, arith}
use Rattle.std.specs.List.{filter_map}
use Rattle.std.proofs.lemmas.List.{append-nil}
use Rattle.sl_base.specs.declared.place.Place.{Place}
use Rattle.sl_syntax.specs.declared.tree.function.Param.{Param}
use Rattle.sl_syntax.specs.Tree as s
use Rattle.sl_syntax.specs.Tree.{Declaration, Function}
use Rattle.sl_syntax.specs.Typed as t
use Rattle.sl_syntax.specs.declared.typed.variable.VariableKind.{VariableKind}
use Rattle.sl_typing.specs.declared.expr_type.ExprType.{ExprType}
use Rattle.sl_typing.specs.declared.expr_type.ExprType.TheVariants as types
use Rattle.sl_typing.specs.Scopes.{parameter_kind, name_of_parameter, type_of_kind, type_of_name}
use Rattle.sl_typing.specs.Contexts.{Context, declare, declare_parameters, with_hidden, enter, started_loop}
use Rattle.sl_typing.specs.Flow.{before_parameters, behind_declaration, after_function, after_items}
use Rattle.sl_typing.specs.ProgramFaults.{function_faults}
use Rattle.sl_typing.specs.StatementNumbering.{typed_declaration}
use Rattle.sl_typing.specs.Typing.{typed_function}
use Rattle.sl_model.specs.Typing.WellTypedNodes.{Node, a_variable, nodes_in, nodes_in_operands, nodes_in_declaration, nodes_in_stmt}
use Rattle.sl_model.specs.Typing.WellTypedNumbers.{loop_in, are_numbers_of}
use Rattle.sl_typed_numbers.proofs.Silent.{Skips, silent, silent_operands, two_silent}
use Rattle.sl_typed_numbers.proofs.Counting.{Counts, NoneKnown, function_adds}
use Rattle.sl_typed_numbers.proofs.Kept.{Keeps, kept, value_keeps, initializer_keeps, effect_adds_none, cond_adds_none, value_adds_none}
use Rattle.sl_typed_numbers.proofs.Upto.{upto, added_are_numbers}

-- the numbers of the loops before a place
abbrev pub loops_before : Context → List ℕ
loops_before g = upto (length g.loops)

-- no expression is a loop
skips : Skips ℕ loop_in
skips = record {
  literals = λ z. refl;
  calls = λ h es. refl;
  own_calls = λ k es. refl;
  operators = λ d e. refl;
  steps = λ x. refl;
  uses = λ at name. refl;
}

-- nor does a site change them
keeps : Keeps ℕ loops_before
keeps places g = refl

-- nor is a declaration one
with_variable_last : (xs : List Node) (kind : VariableKind) → filter_map loop_in xs ≡ [] → filter_map loop_in (xs ++ a_variable kind ∷ []) ≡ []
with_variable_last xs kind h = two_silent ℕ loop_in xs (a_variable kind ∷ []) h refl

declaration_silent : (d : t.Declaration) → filter_map loop_in (nodes_in_declaration d) ≡ []
declaration_silent (t.unset_scalar type) = refl
declaration_silent (t.set_scalar type e) = with_variable_last (nodes_in e) _ (silent ℕ loop_in skips e)
declaration_silent (t.set_iterator e) = with_variable_last (nodes_in e) _ (silent ℕ loop_in skips e)
declaration_silent (t.binds_reference h es) = with_variable_last (nodes_in_operands es) _ (silent_operands ℕ loop_in skips es)
declaration_silent (t.makes form h es) = with_variable_last (nodes_in_operands es) _ (silent_operands ℕ loop_in skips es)

declaration_keeps : (g : Context) (d : Declaration) → loops_before (behind_declaration g d) ≡ loops_before g
declaration_keeps g (s.declares_scalar at type x v) = value_keeps ℕ loops_before keeps g v
declaration_keeps g (s.declares_auto at x e) = refl
declaration_keeps g (s.declares_reference head x e) = refl
declaration_keeps g (s.declares_container ct x made) = initializer_keeps ℕ loops_before keeps g made

-- one loop more
one_more : (xs : List Place) (at : Place) → upto (length (xs ++ at ∷ [])) ≡ upto (length xs) ++ length xs ∷ []
one_more xs at = let e : length (xs ++ at ∷ []) ≡ suc (length xs) = omega (arith, length-append xs (at ∷ [])) in ap upto e

-- hidden iterators are none
hidden_keeps : (u : ExprType) (h : Context) → loops_before (with_hidden u h) ≡ loops_before h
hidden_keeps (types.Container access form) h = refl
hidden_keeps u h = refl

-- the loops of each part of a text
counts : Counts ℕ loop_in loops_before NoneKnown
counts = record {
  conditions = λ g k w none. cond_adds_none ℕ loop_in loops_before skips keeps g k;
  effects = λ g e w none. effect_adds_none ℕ loop_in loops_before skips keeps g e;
  declarations = λ g d w none. kept ℕ loop_in (loops_before g) (loops_before (behind_declaration g d)) (nodes_in_declaration (typed_declaration g d))
      (declaration_keeps g d) (declaration_silent (typed_declaration g d));
  returns = λ g v w none. value_adds_none ℕ loop_in loops_before skips keeps g v;
  begins = λ g. refl;
  enters = λ g. refl;
  leaves = λ g h. refl;
  stays = λ g. refl;
  loops = λ at g. one_more g.loops at;
  braces = λ g items close. sym (append-nil (loops_before (after_items g items)));
  ranges = λ g at how x over may.
      hidden_keeps (type_of_name g.scope over.name) (enter (started_loop at g)) ∙ sym (append-nil (loops_before (started_loop at g)));
}

-- parameters are none
parameters_keep : (g : Context) (qs : List Param) → loops_before (declare_parameters qs g) ≡ loops_before g
parameters_keep g [] = refl
parameters_keep g (q ∷ qs) = parameters_keep (declare (name_of_parameter q) (type_of_kind (parameter_kind q)) g) qs

-- those of a function, where the text has so many
pub loops_are_numbered : (limit : ℕ) (g : Context) (f : Function) → function_faults g f ≡ [] → length (after_function g f).loops ≤ limit
    → are_numbers_of limit (filter_map loop_in (nodes_in_stmt (typed_function g f).body)) ≡ true
loops_are_numbered limit g f none few =
    let xs = filter_map loop_in (nodes_in_stmt (typed_function g f).body) in
    let same = parameters_keep (before_parameters g f) f.params in
    added_are_numbers (length g.loops) (length (after_function g f).loops) limit xs
    (function_adds ℕ loop_in loops_before NoneKnown counts g f tt none ∙ ap (λ (l : List ℕ). l ++ xs) same) few
