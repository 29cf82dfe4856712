-- In what is typed no variable is bound to two references of a call.
use Rattle.std.proofs.Common.{◌≡◌, ℕ, Bool, true, false, List, [], ◌∷◌, Option, None, refl, sym, subst}
use Rattle.std.specs.Prelude.{if◌then◌else◌, codes}
use Rattle.std.specs.List.{list_all}
use Rattle.std.specs.Str.{bytes_eq}
use Rattle.sl_base.specs.declared.place.Place.{Place}
use Rattle.sl_syntax.specs.declared.typed.callee.Callee.TheVariants as callees
use Rattle.sl_syntax.specs.Tree as s
use Rattle.sl_syntax.specs.Typed as t
use Rattle.sl_syntax.specs.Typed.{Operands}
use Rattle.sl_typing.specs.Candidates.{Found}
use Rattle.sl_typing.specs.Numbering.{number_in, ways, told_all, head, first_operand, other_operands, operands}
use Rattle.sl_typing.specs.Sites.{site_number, inside}
use Rattle.sl_typing.specs.TypeOf.{appends}
use Rattle.sl_model.specs.Typing.WellTypedNodes.{a_call}
use Rattle.sl_syntax.specs.Tree.{Program}
use Rattle.sl_syntax.specs.Typed.{Function, Typed}
use Rattle.sl_typing.specs.Typing as typing
use Rattle.sl_typing.specs.Typing.{typed_program}
use Rattle.sl_typing.specs.ProgramFaults.{start}
use Rattle.sl_typing.specs.Typing.{typed_functions}
use Rattle.sl_model.specs.Typing.WellTyped.{has_no_alias}
use Rattle.sl_model.specs.Typing.WellTypedOrder.{binds_apart}
use Rattle.sl_well_typed.proofs.Functions.{program_kept}
use Rattle.sl_typed_order.proofs.Alias.{call_binds_apart}
use Rattle.sl_typed_order.proofs.Kept.{algorithm_node, IsKept}
use Rattle.sl_typed_order.proofs.Programs.{program_holds}

-- a call of an algorithm binds nothing
algorithm_apart : (x : Found) (append : Bool) (name : List ℕ) (at : Place) (site : Option ℕ) (names : List (Option ℕ)) (es : Operands)
    → list_all binds_apart (algorithm_node x append name at site names es) ≡ true
algorithm_apart x append name at site names es = by_names (bytes_eq name (codes "back_inserter")) (bytes_eq name (codes "advance")) append
  where
    by_names : (inserts advances adds : Bool)
        → list_all binds_apart (if inserts then [] else if advances
        then a_call (head (callees.Row x.number) at site None names) (t.with (t.iterator (number_in (first_operand es))) (other_operands es)) ∷ []
        else if adds then a_call (head (callees.Appends x.number) at site None names) es ∷ []
        else a_call (head (callees.Row x.number) at site None names) es ∷ []) ≡ true
    by_names true advances adds = refl
    by_names false true adds = refl
    by_names false false true = refl
    by_names false false false = refl

-- the test is passed by each node
apart_kept : (fs : List Function) → IsKept fs binds_apart
apart_kept fs = record {
  literals = λ z. refl;
  steps = λ l. refl;
  uses = λ at n. refl;
  loops = λ n. refl;
  ranges = λ at n. refl;
  variables = λ k. refl;
  braces = λ site b. refl;
  lone_rows = λ n at site object names e. refl;
  lone_operators = λ o at names e. refl;
  moves = λ op at names n e. refl;
  operators = λ g n how x op at y sound none ordered c. refl;
  pairs = λ g n how x op at y sound none ordered o names w plain. refl;
  own_calls = λ g n how f xs sound none. call_binds_apart g sound.numbered n how f xs none;
  algorithms = λ g n how f xs sound none x e.
      algorithm_apart x (appends f.name xs) f.name f.place (site_number g n (s.library_call f xs)) (None ∷ told_all g xs)
      (operands g (inside g n (s.library_call f xs)) (ways x.row.letters) xs);
  members = λ g n how x f xs sound none r e. refl;
  makers = λ g ct x value sound none. refl;
}

-- what is typed has no alias
pub typed_has_no_alias : (p : Program) (u : Typed) → typing.Typed p u → has_no_alias u ≡ true
unfolding has_no_alias typed_program
typed_has_no_alias p u h =
    subst (λ (v : Typed). has_no_alias v ≡ true) (sym h.is_it)
    (program_holds p binds_apart (apart_kept (typed_functions start p)) (program_kept p h.breaks_none).0)
