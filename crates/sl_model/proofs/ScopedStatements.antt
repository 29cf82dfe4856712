-- A typed statement uses what is in scope, and gives back what is due.
use Rattle.std.proofs.Common.{◌≡◌, ℕ, Bool, true, false, ◌&&◌, List, [], ◌∷◌, ◌++◌, Option, Some, None, refl, subst, sym}
use Rattle.std.specs.Prelude.{flat_map}
use Rattle.std.specs.List.{list_all}
use Rattle.sl_base.specs.declared.scalar.Scalar.TheVariants as t
use Rattle.sl_syntax.specs.declared.typed.parameter.ParameterKind.{ParameterKind}
use Rattle.sl_syntax.specs.declared.typed.parameter.ParameterKind.TheVariants as parameters
use Rattle.sl_syntax.specs.Typed.{Expr, element, Cond, read, not_read, test, always, Printed, text, endline, number, Effect, reads}
use Rattle.sl_syntax.specs.Typed.{prints, evaluates, assigns, updates, moves_to, Declaration, unset_scalar, set_scalar, set_iterator, binds_reference}
use Rattle.sl_syntax.specs.Typed.{makes, First, no_first, declares_first, does_first, Stmt, block, declares, choice, choice_else, while, for}
use Rattle.sl_syntax.specs.Typed.{range_for, break, continue, gives_back, does, Stmts, no_more, followed, Typed}
use Rattle.sl_typing.specs.declared.expr_type.ExprType.{ExprType}
use Rattle.sl_typing.specs.declared.expr_type.ExprType.TheVariants as types
use Rattle.sl_typing.specs.Types.{has_type, is_scalar, is_number, is_written, is_iterator, same_iterators}
use Rattle.sl_model.specs.Runs.Good.{AreBelow}
use Rattle.sl_model.specs.LibraryCalls.Values.{a_stamp}
use Rattle.sl_model.specs.Typing.Shapes.{Gift, a_value, shape_of_result, gift_of}
use Rattle.sl_model.specs.Typing.Scoped.{Counts, HasObject, InExpr, InCond, InPrinted, InPrint, InEffect, InDeclaration, InFirst, InLast, AsksWell, IsPart}
use Rattle.sl_model.specs.Typing.Scoped.{GivesBack, InStmt, InStmts}
use Rattle.sl_model.specs.Typing.WellTypedScopes.{Scope, is_within, variable_type, works_in}
use Rattle.sl_model.specs.Typing.WellTypedExpressions.{goes_to, type_given, type_of, type_of_left, types_of}
use Rattle.sl_model.specs.Typing.WellTypedNodes.{nodes_in, nodes_in_left, nodes_in_operands, nodes_in_value, nodes_in_cond, nodes_in_printed}
use Rattle.sl_model.specs.Typing.WellTypedNodes.{nodes_in_effect, nodes_in_last, nodes_in_declaration, nodes_in_first, nodes_in_stmt, nodes_in_stmts}
use Rattle.sl_model.specs.Typing.WellTypedStatements.{assigns_others, may_stand_alone, is_written_left, takes, are_ints, is_typed_cond, is_typed_item}
use Rattle.sl_model.specs.Typing.WellTypedStatements.{is_typed_effect, is_typed_last, is_typed_declaration, behind, is_typed_first, behind_first}
use Rattle.sl_model.specs.Typing.WellTypedStatements.{may_go_over, in_range, is_typed_return, is_typed_stmt, are_typed_stmts}
use Rattle.sl_model.proofs.Passing.{first_of_both, second_of_both, three_parts, five_parts, passes_at}
use Rattle.sl_model.proofs.TypedNumbers.{variable_is_there}
use Rattle.sl_model.proofs.TypedOperands.{typed_by, second_iterator_typed}
use Rattle.sl_model.proofs.TypedCalls.{first_iterator_typed, making_known}
use Rattle.sl_model.proofs.TypedExpressions.{no_type_goes}
use Rattle.sl_model.proofs.TypedStatements.{no_type_taken}
use Rattle.sl_model.proofs.TypedUses.{nothing_gone_over}
use Rattle.sl_model.proofs.ScopedCalls.{making_makes}
use Rattle.sl_model.proofs.ScopedGifts.{lib_signature, scope_counts, KnowsText, HasGift, expression_gift}
use Rattle.sl_model.proofs.ScopedExpressions.{AreFree, free_before, free_behind, expression-scoped, left-scoped, operands-scoped}
use Rattle.sl_model.proofs.ScopedScopes.{behind_counts, first_counts, range_counts, behind_known, first_known, range_known}

-- an expression whose type passes a test uses what is in scope
passing-scoped : (p : Typed) (g : Scope) (e : Expr) (passes : ExprType → Bool) → passes types.Wrong ≡ false → KnowsText p g → AreFree (nodes_in e)
    → passes (type_of g e) ≡ true → InExpr (lib_signature p) (scope_counts g) e
passing-scoped p g e passes n k free h = expression-scoped p g e k free (typed_by passes n (type_of g e) h)

-- ints are in scope
ints_scoped : (g : Scope) (xs : List ℕ) → are_ints g xs ≡ true → AreBelow xs (scope_counts g).scalars
ints_scoped g xs h i x e = variable_is_there g.scalars x (typed_by (is_scalar t.Int) refl (variable_type g.scalars x)
    (passes_at (λ y. is_scalar t.Int (variable_type g.scalars y)) xs i x h e))

-- a typed condition uses what is in scope
cond-scoped : (p : Typed) (g : Scope) (c : Cond) → KnowsText p g → AreFree (nodes_in_cond c) → is_typed_cond g c ≡ true
    → InCond (lib_signature p) (scope_counts g) c
cond-scoped p g (read xs) k n h = ints_scoped g xs h
cond-scoped p g (not_read xs) k n h = ints_scoped g xs h
cond-scoped p g (test e) k n h = passing-scoped p g e is_number refl k n h
cond-scoped p g always k n h = tt

-- so does an item of a print
item-scoped : (p : Typed) (g : Scope) (item : Printed) → KnowsText p g → AreFree (nodes_in_printed item) → is_typed_item g item ≡ true
    → InPrinted (lib_signature p) (scope_counts g) item
item-scoped p g (text bytes) k n h = tt
item-scoped p g endline k n h = tt
item-scoped p g (number e) k n h = passing-scoped p g e is_number refl k n h

-- so does a print
print-scoped : (p : Typed) (g : Scope) (items : List Printed) → KnowsText p g → AreFree (flat_map nodes_in_printed items)
    → list_all (is_typed_item g) items ≡ true → InPrint (lib_signature p) (scope_counts g) items
print-scoped p g [] k n h = tt
print-scoped p g (item ∷ items) k n h = (
  item-scoped p g item k (free_before (nodes_in_printed item) (flat_map nodes_in_printed items) n)
      (first_of_both (is_typed_item g item) (list_all (is_typed_item g) items) h),
  print-scoped p g items k (free_behind (nodes_in_printed item) (flat_map nodes_in_printed items) n)
      (second_of_both (is_typed_item g item) (list_all (is_typed_item g) items) h),
)

-- an iterator gives a stamp
iterator_given : (u : ExprType) (gift : Gift) → HasGift u gift → is_iterator u ≡ true → gift ≡ a_value a_stamp
iterator_given (types.Iterator b x) gift e h = e
iterator_given u gift e h = absurd cc

-- the second of two iterators of one type is one
pub second_is_iterator : (u v : ExprType) → same_iterators u v ≡ true → is_iterator v ≡ true
second_is_iterator (types.Iterator b x) (types.Iterator c y) h = refl
second_is_iterator u v h = absurd cc

-- an expression that is an iterator gives a stamp
stamp_given : (p : Typed) (g : Scope) (e : Expr) → KnowsText p g → is_iterator (type_of g e) ≡ true
    → gift_of (lib_signature p) e ≡ a_value a_stamp
stamp_given p g e k h = iterator_given (type_of g e) (gift_of (lib_signature p) e)
    (expression_gift p g e k (typed_by is_iterator refl (type_of g e) h)) h

-- a typed effect uses what is in scope
effect-scoped : (p : Typed) (g : Scope) (w : Effect) → KnowsText p g → AreFree (nodes_in_effect w) → is_typed_effect g w ≡ true
    → InEffect (lib_signature p) (scope_counts g) w
effect-scoped p g (reads xs) k n h = ints_scoped g xs h
effect-scoped p g (prints items) k n h = print-scoped p g items k n h
effect-scoped p g (evaluates e) k n h =
    passing-scoped p g e may_stand_alone refl k n (first_of_both (may_stand_alone (type_of g e)) (assigns_others g e) h)
effect-scoped p g (assigns l e) k n h = (
  passing-scoped p g e (takes (type_of_left g l)) (no_type_taken (type_of_left g l)) k (free_behind (nodes_in_left l) (nodes_in e) n) h,
  left-scoped p g l k (free_before (nodes_in_left l) (nodes_in e) n) (typed_by (λ u. takes u (type_of g e)) refl (type_of_left g l) h),
)
effect-scoped p g (updates op s r at l e) k n h =
    let both = first_of_both (is_written_left g r l && works_in r s) (is_scalar s (type_of g e)) h in
    let left = first_of_both (is_written_left g r l) (works_in r s) both in
    let number = first_of_both (is_scalar r (type_of_left g l)) (is_written (type_of_left g l)) left in (
      passing-scoped p g e (is_scalar s) refl k (free_behind (nodes_in_left l) (nodes_in e) n)
          (second_of_both (is_written_left g r l && works_in r s) (is_scalar s (type_of g e)) h),
      left-scoped p g l k (free_before (nodes_in_left l) (nodes_in e) n) (typed_by (is_scalar r) refl (type_of_left g l) number),
    )
effect-scoped p g (moves_to x e) k n h = (
  variable_is_there g.iterators x (first_iterator_typed (variable_type g.iterators x) (type_of g e) h),
  (
    stamp_given p g e k (second_is_iterator (variable_type g.iterators x) (type_of g e) h),
    expression-scoped p g e k n (second_iterator_typed (variable_type g.iterators x) (type_of g e) h),
  ),
)

-- so does the last part of a `for`
last-scoped : (p : Typed) (g : Scope) (last : Option Effect) → KnowsText p g → AreFree (nodes_in_last last) → is_typed_last g last ≡ true
    → InLast (lib_signature p) (scope_counts g) last
last-scoped p g None k n h = tt
last-scoped p g (Some w) k n h = effect-scoped p g w k n h

-- so does a declaration
declaration-scoped : (p : Typed) (g : Scope) (d : Declaration) → KnowsText p g → AreFree (nodes_in_declaration d) → is_typed_declaration g d ≡ true
    → InDeclaration (lib_signature p) (scope_counts g) d
unfolding nodes_in_left
declaration-scoped p g (unset_scalar s) k n h = tt
declaration-scoped p g (set_scalar s e) k n h = passing-scoped p g e (is_scalar s) refl k (free_before (nodes_in e) _ n) h
declaration-scoped p g (set_iterator e) k n h =
    (stamp_given p g e k h, passing-scoped p g e is_iterator refl k (free_before (nodes_in e) _ n) h)
declaration-scoped p g (binds_reference c ops) k n h = left-scoped p g (element c ops) k (free_before (nodes_in_operands ops) _ n) h
declaration-scoped p g (makes form c ops) k n h =
    let made = making_makes form c.callee c.object (types_of g ops) h in
    let known = making_known form c.callee c.object (types_of g ops) h in (
      (made.0, subst (HasObject (scope_counts g)) (sym made.1) tt),
      operands-scoped p g ops k (free_before (nodes_in_operands ops) _ n) known.0,
    )

-- so does the first part of a `for`
first-scoped : (p : Typed) (g : Scope) (head : First) → KnowsText p g → AreFree (nodes_in_first head) → is_typed_first g head ≡ true
    → InFirst (lib_signature p) (scope_counts g) head
first-scoped p g no_first k n h = tt
first-scoped p g (declares_first (set_scalar s e)) k n h = declaration-scoped p g (set_scalar s e) k n h
first-scoped p g (declares_first (set_iterator e)) k n h = declaration-scoped p g (set_iterator e) k n h
first-scoped p g (declares_first d) k n h = absurd cc
first-scoped p g (does_first w) k n h = effect-scoped p g w k n h

-- what is given back has the shape that is due
return_given : (k : ParameterKind) (u : ExprType) (gift : Gift) → HasGift u gift → has_type (type_given (Some k)) ≡ true → goes_to k u ≡ true
    → gift ≡ a_value (shape_of_result (Some k))
return_given (parameters.Value s) (types.Scalar r) gift e t h = e
return_given (parameters.Value s) (types.Element w) gift e t h = e
return_given (parameters.Value s) u gift e t h = absurd cc
return_given (parameters.Iterator b x) (types.Iterator c y) gift e t h = e
return_given (parameters.Iterator b x) u gift e t h = absurd cc
return_given k u gift e t h = absurd cc

-- a typed `return` gives back what is due
return-scoped : (p : Typed) (g : Scope) (k : Option ParameterKind) (value : Option Expr) → KnowsText p g → has_type (type_given k) ≡ true
    → AreFree (nodes_in_value value) → is_typed_return g k value ≡ true
    → GivesBack (lib_signature p) (scope_counts g) (shape_of_result k) value
return-scoped p g None None know given n h = refl
return-scoped p g (Some k) None know given n h = absurd cc
return-scoped p g None (Some e) know given n h = absurd cc
return-scoped p g (Some k) (Some e) know given n h = let typed = typed_by (goes_to k) (no_type_goes k) (type_of g e) h in (
  return_given k (type_of g e) (gift_of (lib_signature p) e) (expression_gift p g e know typed) given h,
  expression-scoped p g e know n typed,
)

-- what a range-for asks by itself is well asked of the library
asks_well : (p : Typed) → AsksWell (lib_signature p)
asks_well p = record { tests = refl; reads_one = refl; steps = refl; element_read = refl; stamp_stepped = refl }

-- a typed statement is no declaration
typed_is_part : (g : Scope) (k : Option ParameterKind) (inside : Bool) (b : Stmt) → is_typed_stmt g k inside b ≡ true → IsPart b
unfolding is_typed_stmt
typed_is_part g k inside (declares d) h = absurd cc
typed_is_part g k inside b h = tt

mutual
  unfolding is_typed_stmt are_typed_stmts nodes_in_stmt nodes_in_stmts

  -- a typed statement uses what is in scope
  pub statement-scoped : (p : Typed) (g : Scope) (k : Option ParameterKind) (inside : Bool) (b : Stmt) → KnowsText p g
      → has_type (type_given k) ≡ true → AreFree (nodes_in_stmt b) → is_typed_stmt g k inside b ≡ true
      → InStmt (lib_signature p) (shape_of_result k) (scope_counts g) b
  statement-scoped p g k inside (block site all) know given n h =
      statements-scoped p g k inside all know given (free_before (nodes_in_stmts all) _ n) h
  statement-scoped p g k inside (declares d) know given n h = absurd cc
  statement-scoped p g k inside (choice c b) know given n h =
      let typed = second_of_both (is_typed_cond g c) (is_typed_stmt g k inside b) h in (
        cond-scoped p g c know (free_before (nodes_in_cond c) (nodes_in_stmt b) n) (first_of_both (is_typed_cond g c) (is_typed_stmt g k inside b) h),
        (
          typed_is_part g k inside b typed,
          statement-scoped p g k inside b know given (free_behind (nodes_in_cond c) (nodes_in_stmt b) n) typed,
        ),
      )
  statement-scoped p g k inside (choice_else c b d) know given n h =
      let parts = three_parts (is_typed_cond g c) (is_typed_stmt g k inside b) (is_typed_stmt g k inside d) h in
      let both = free_behind (nodes_in_cond c) (nodes_in_stmt b ++ nodes_in_stmt d) n in (
        cond-scoped p g c know (free_before (nodes_in_cond c) (nodes_in_stmt b ++ nodes_in_stmt d) n) parts.0,
        (
          (
            typed_is_part g k inside b parts.1,
            statement-scoped p g k inside b know given (free_before (nodes_in_stmt b) (nodes_in_stmt d) both) parts.1,
          ),
          (
            typed_is_part g k inside d parts.2,
            statement-scoped p g k inside d know given (free_behind (nodes_in_stmt b) (nodes_in_stmt d) both) parts.2,
          ),
        ),
      )
  statement-scoped p g k inside (while l c b) know given n h =
      let typed = second_of_both (is_typed_cond g c) (is_typed_stmt g k true b) h in (
        cond-scoped p g c know (free_before (nodes_in_cond c) (nodes_in_stmt b) n) (first_of_both (is_typed_cond g c) (is_typed_stmt g k true b) h),
        (
          typed_is_part g k true b typed,
          statement-scoped p g k true b know given (free_behind (nodes_in_cond c) (nodes_in_stmt b) n) typed,
        ),
      )
  statement-scoped p g k inside (for l head c last b) know given n h =
      let r = behind_first head g in let known = first_known p head g know in let same = first_counts head g in
      let parts = five_parts (is_typed_first g head) (is_within r) (is_typed_cond r c) (is_typed_last r last) (is_typed_stmt r k true b) h in
      let behind_head = free_behind (nodes_in_first head) (nodes_in_cond c ++ (nodes_in_last last ++ nodes_in_stmt b)) n in
      let behind_cond = free_behind (nodes_in_cond c) (nodes_in_last last ++ nodes_in_stmt b) behind_head in (
        first-scoped p g head know (free_before (nodes_in_first head) (nodes_in_cond c ++ (nodes_in_last last ++ nodes_in_stmt b)) n) parts.0,
        (
          subst (λ (counts : Counts). InCond (lib_signature p) counts c) same
              (cond-scoped p r c known (free_before (nodes_in_cond c) (nodes_in_last last ++ nodes_in_stmt b) behind_head) parts.2),
          (
            subst (λ (counts : Counts). InLast (lib_signature p) counts last) same
                (last-scoped p r last known (free_before (nodes_in_last last) (nodes_in_stmt b) behind_cond) parts.3),
            (
              typed_is_part r k true b parts.4,
              subst (λ (counts : Counts). InStmt (lib_signature p) (shape_of_result k) counts b) same
                  (statement-scoped p r k true b known given (free_behind (nodes_in_last last) (nodes_in_stmt b) behind_cond) parts.4),
            ),
          ),
        ),
      )
  statement-scoped p g k inside (range_for l how x at name b) know given n h =
      let u = variable_type g.containers x in let r = in_range how u g in
      let parts = three_parts (may_go_over how u) (is_within r) (is_typed_stmt r k true b) h in (
        variable_is_there g.containers x (typed_by (may_go_over how) (nothing_gone_over how) u parts.0),
        (
          asks_well p,
          (
            typed_is_part r k true b parts.2,
            subst (λ (counts : Counts). InStmt (lib_signature p) (shape_of_result k) counts b) (range_counts how u g parts.0)
                (statement-scoped p r k true b (range_known p how u g parts.0 know) given n parts.2),
          ),
        ),
      )
  statement-scoped p g k inside break know given n h = tt
  statement-scoped p g k inside continue know given n h = tt
  statement-scoped p g k inside (gives_back value) know given n h = return-scoped p g k value know given n h
  statement-scoped p g k inside (does w) know given n h = effect-scoped p g w know n h

  -- so do statements in turn
  pub statements-scoped : (p : Typed) (g : Scope) (k : Option ParameterKind) (inside : Bool) (all : Stmts) → KnowsText p g
      → has_type (type_given k) ≡ true → AreFree (nodes_in_stmts all) → are_typed_stmts g k inside all ≡ true
      → InStmts (lib_signature p) (shape_of_result k) (scope_counts g) all
  statements-scoped p g k inside no_more know given n h = tt
  statements-scoped p g k inside (followed (declares d) rest) know given n h =
      let r = behind d g in
      let parts = three_parts (is_typed_declaration g d) (is_within r) (are_typed_stmts r k inside rest) h in (
        declaration-scoped p g d know (free_before (nodes_in_declaration d) (nodes_in_stmts rest) n) parts.0,
        subst (λ (counts : Counts). InStmts (lib_signature p) (shape_of_result k) counts rest) (behind_counts d g)
            (statements-scoped p r k inside rest (behind_known p d g know) given
            (free_behind (nodes_in_declaration d) (nodes_in_stmts rest) n) parts.2),
      )
  statements-scoped p g k inside (followed b rest) know given n h = (
    statement-scoped p g k inside b know given (free_before (nodes_in_stmt b) (nodes_in_stmts rest) n)
        (first_of_both (is_typed_stmt g k inside b) (are_typed_stmts g k inside rest) h),
    statements-scoped p g k inside rest know given (free_behind (nodes_in_stmt b) (nodes_in_stmts rest) n)
        (second_of_both (is_typed_stmt g k inside b) (are_typed_stmts g k inside rest) h),
  )
