-- The bound state of a call: that in which the function's body starts. Its parameters have taken their operands, and nothing else is in scope.
--
-- Restates ISO/IEC 14882:2017, [expr.call] (each parameter is initialised with its operand), [dcl.init] (a number and an iterator are
-- copied) and [dcl.init.ref] (a reference has the location of its operand).
use Rattle.std.specs.Prelude.{List, [], ◌∷◌, ◌++◌, Some}
use Rattle.sl_syntax.specs.declared.typed.parameter.ParameterKind.{ParameterKind}
use Rattle.sl_syntax.specs.declared.typed.parameter.ParameterKind.TheVariants as parameter
use Rattle.sl_model.specs.LibraryCalls.Values.{Value, number, iterator, scalar_at, container_at}
use Rattle.sl_model.specs.Runs.State.{State, Frame, new_scalar, new_iterator, new_container}

-- no variable is in scope
abbrev pub no_frame : Frame
no_frame = record { scalars = []; conts = []; iters = [] }

-- a parameter takes its operand: a number or an iterator is copied, a reference has the operand's location
abbrev pub bind_one : ParameterKind → Value → State → State
bind_one (parameter.Value ty) (number z) s = new_scalar ty (Some z) s
bind_one k (scalar_at l) s = record s { frame = record s.frame { scalars = s.frame.scalars ++ l ∷ [] } }
bind_one k (container_at l) s = new_container l s
bind_one k (iterator stamp) s = new_iterator stamp s
bind_one k v s = s

-- the parameters in turn
abbrev pub bind_all : List ParameterKind → List Value → State → State
bind_all (k ∷ ks) (v ∷ vs) s = bind_all ks vs (bind_one k v s)
bind_all ks vs s = s

-- the state in which a body starts whose function has these parameters
abbrev pub bound : List ParameterKind → List Value → State → State
bound ks vs s = bind_all ks vs (record s { frame = no_frame })
