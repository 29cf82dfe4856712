-- What is within the limits stays within them while sites, variables and statements come, and scopes begin and end.
use Rattle.std.proofs.Common.{◌≡◌, ℕ, ◌+◌, ◌≤◌, List, [], ◌∷◌, length, length-append, false, Some, ap, arith}
use Rattle.std.specs.List.{All}
use Rattle.std.proofs.Math.Nat.{lt_of_lt_of_le}
use Rattle.std.proofs.lemmas.List.Elements.{All-push, All-weaker}
use Rattle.sl_base.specs.declared.limits.TheConstants.{SITES, STATEMENTS}
use Rattle.sl_base.specs.declared.place.Place.{Place}
use Rattle.sl_syntax.specs.declared.tree.identifier.Identifier.{Identifier}
use Rattle.sl_syntax.specs.declared.typed.variable.Variable.{Variable}
use Rattle.sl_typing.specs.declared.expr_type.ExprType.{ExprType}
use Rattle.sl_typing.specs.declared.scope.FunctionHead.{FunctionHead}
use Rattle.sl_typing.specs.declared.scope.Scope.{Scope}
use Rattle.sl_typing.specs.Scopes.{passes_some_limit}
use Rattle.sl_typing.specs.Contexts.{Context, variable_kind, declare, with_name, position, enter, leave, looping, started, started_loop}
use Rattle.sl_typing.specs.Contexts.{with_sites}
use Rattle.sl_number_limits.specs.Fits.{IsLabelled, Fits, HasRoom}
use Rattle.sl_number_limits.proofs.Positions.{label_below, names_stay, one_more_name}
use Rattle.sl_number_limits.proofs.ScopeLaws.{AllCounted, counts_stay, variable_fits, scope_stays}
use Rattle.sl_number_limits.proofs.Growth.{Grows}

-- sites come
pub sites_come : (places : List Place) (g : Context) → Fits g → length g.sites + length places ≤ SITES → Fits (with_sites places g)
sites_come places g f h = record {
  scope = f.scope;
  sites = let e = length-append g.sites places in omega arith;
  statements = f.statements;
  loops = f.loops;
  names = f.names;
  declared = f.declared;
  labels = f.labels;
}

-- sites take no room
pub room_behind_sites : (more : ℕ) (places : List Place) (g : Context) → HasRoom more g → HasRoom more (with_sites places g)
room_behind_sites more places g r = record { for_names = r.for_names; for_variables = r.for_variables }

-- names of variables are among more names
pub labels_stay : (names more : ℕ) → names ≤ more → (vs : List Variable) → All (IsLabelled names) vs → All (IsLabelled more) vs
labels_stay names more h = All-weaker (IsLabelled names) (IsLabelled more) (λ v l. lt_of_lt_of_le l h)

-- a variable is declared where there is room for it, and no limit is passed since some place before
pub declare_fits : (x : Identifier) (type : ExprType) (before : Scope) (g : Context) → AllCounted before → Fits g → HasRoom 1 g
    → passes_some_limit before (declare x type g).scope ≡ false → Fits (declare x type g)
declare_fits x type before g all f r none =
    let names = with_name x.name g.names in
    let one = one_more_name x.name g.names in
    record {
      scope = variable_fits (length g.names) (length names) (Some x.name) (position x.name names) type g.scope f.scope (names_stay x.name g.names)
          (label_below x.name g.names) (counts_stay before (declare x type g).scope none all);
      sites = f.sites;
      statements = f.statements;
      loops = f.loops;
      names = omega arith;
      declared = omega (arith, length-append {A = Variable});
      labels = All-push (IsLabelled (length names)) g.variables
          (record { kind = variable_kind type; name = position x.name names; place = x.place })
          (labels_stay (length g.names) (length names) (names_stay x.name g.names) g.variables f.labels) (label_below x.name g.names);
    }

-- a variable takes room for one
pub room_behind_variable : (more : ℕ) (x : Identifier) (type : ExprType) (g : Context) → HasRoom (more + 1) g → HasRoom more (declare x type g)
room_behind_variable more x type g r =
    let one = one_more_name x.name g.names in
    record { for_names = omega arith; for_variables = omega (arith, length-append {A = Variable}) }

-- a statement begins
pub started_fits : (g : Context) → Fits g → g.statements + 1 ≤ STATEMENTS → Fits (started g)
started_fits g f h = record {
  scope = f.scope;
  sites = f.sites;
  statements = h;
  loops = omega arith;
  names = omega arith;
  declared = omega arith;
  labels = f.labels;
}

-- it has room for what it declares
pub started_has_room : (g : Context) → Fits g → HasRoom 1 (started g)
started_has_room g f = record { for_names = omega arith; for_variables = omega arith }

-- a loop begins
pub started_loop_fits : (at : Place) (g : Context) → Fits g → g.statements + 1 ≤ STATEMENTS → Fits (started_loop at g)
started_loop_fits at g f h = record {
  scope = f.scope;
  sites = f.sites;
  statements = h;
  loops = let e = length-append g.loops (at ∷ []) in omega arith;
  names = omega arith;
  declared = omega arith;
  labels = f.labels;
}

pub started_loop_has_room : (at : Place) (g : Context) → Fits g → HasRoom 1 (started_loop at g)
started_loop_has_room at g f = record { for_names = omega arith; for_variables = omega arith }

-- a scope begins
pub enter_fits : (g : Context) → Fits g → Fits (enter g)
enter_fits g f = record {
  scope = record { counts = f.scope.counts; variables = f.scope.variables; total = f.scope.total; functions = f.scope.functions };
  sites = f.sites;
  statements = f.statements;
  loops = f.loops;
  names = f.names;
  declared = f.declared;
  labels = f.labels;
}

pub enter_has_room : (more : ℕ) (g : Context) → HasRoom more g → HasRoom more (enter g)
enter_has_room more g r = record { for_names = r.for_names; for_variables = r.for_variables }

-- a loop's body begins
pub looping_fits : (g : Context) → Fits g → Fits (looping g)
looping_fits g f = record {
  scope = record { counts = f.scope.counts; variables = f.scope.variables; total = f.scope.total; functions = f.scope.functions };
  sites = f.sites;
  statements = f.statements;
  loops = f.loops;
  names = f.names;
  declared = f.declared;
  labels = f.labels;
}

-- a scope ends
pub leave_fits : (g h : Context) → Fits g → Fits h → Grows g h → Fits (leave g h)
leave_fits g h f k a =
    let same = ap (λ (fs : List FunctionHead). length fs) a.functions in
    record {
      scope = scope_stays (length g.names) (length h.names) g.scope a.names f.scope;
      sites = k.sites;
      statements = k.statements;
      loops = k.loops;
      names = omega arith;
      declared = omega arith;
      labels = k.labels;
    }
