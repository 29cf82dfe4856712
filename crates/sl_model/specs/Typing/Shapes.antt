-- What shape of value each expression gives, as far as its text says it: a number, an iterator, or a variable itself.
--
-- Restates ISO/IEC 14882:2017, [basic.types] (a type says which values there are), [basic.lval] (an expression gives a value, or
-- stands for a variable), [dcl.fct] (what a function takes and gives), [basic.start.main] (`main` gives a number) and
-- [iterator.requirements.general].
-- Chosen here: types are told apart as far as their values are, so all types of numbers have one shape. For a call of the
-- library, the shape goes by what is called, and so does whether it makes a container.
use Rattle.std.specs.Prelude.{◌≡◌, ℕ, Bool, true, false, List, [], ◌∷◌, ◌++◌, Option, Some, None, slice_get}
use Rattle.sl_syntax.specs.declared.typed.callee.Callee.{Callee}
use Rattle.sl_syntax.specs.declared.typed.parameter.ParameterKind.{ParameterKind}
use Rattle.sl_syntax.specs.declared.typed.parameter.ParameterKind.TheVariants as parameter
use Rattle.sl_syntax.specs.Typed.{Expr, iterator as iterator_held, move, call, own_call, first, second, container, handed_scalar, Operands, none, with}
use Rattle.sl_syntax.specs.Typed.{Function, Typed}
use Rattle.sl_model.specs.LibraryCalls.Values.{Value, nothing, number, iterator, pair, two, scalar_at, container_at, element_at}
use Rattle.sl_model.specs.Runs.State.{Frame}
use Rattle.sl_model.specs.LibraryCalls.Rows.{Object, new_one, Row, row_of}
pub use Rattle.sl_model.specs.LibraryCalls.Values.{Shape, no_value, a_number, a_stamp, a_pair, two_stamps, an_element}

-- what an expression gives: a value of a shape, or a variable by its number
pub data Gift : Type 0 where
  a_value : Shape → Gift
  the_scalar : ℕ → Gift
  the_container : ℕ → Gift

-- what is known of the calls in a text: the shape that a call of the library gives, whether it makes a container, and the
-- text's functions
pub record Signature : Type 0 where
  pub shape : Callee → Shape
  pub makes : Callee → Bool
  pub functions : List Function

-- a value has a shape
abbrev pub HasShape : Shape → Value → Type 0
HasShape no_value nothing = Unit {0}
HasShape a_number (number z) = Unit {0}
HasShape a_stamp (iterator stamp) = Unit {0}
HasShape a_pair (pair stamp b) = Unit {0}
HasShape two_stamps (two stamp other) = Unit {0}
HasShape an_element (element_at j k part) = Unit {0}
HasShape shape v = ⊥

-- a value is what was to be given, where the variables are as a frame says
abbrev pub IsGiven : Frame → Gift → Value → Type 0
IsGiven f (a_value shape) v = HasShape shape v
IsGiven f (the_scalar x) (scalar_at l) = slice_get f.scalars x ≡ Some l
IsGiven f (the_container x) (container_at l) = slice_get f.conts x ≡ Some l
IsGiven f gift v = ⊥

-- the shape of what a function gives
abbrev pub shape_of_result : Option ParameterKind → Shape
shape_of_result (Some (parameter.Value ty)) = a_number
shape_of_result (Some (parameter.Iterator b form)) = a_stamp
shape_of_result k = no_value

-- the shape of what one of these functions gives
abbrev pub shape_of_call : List Function → ℕ → Shape
shape_of_call functions f = elim (slice_get functions f) [ None ↦ no_value | Some h ↦ shape_of_result h.result ]

-- the shape of the second part of what is given
abbrev pub shape_of_second : Gift → Shape
shape_of_second (a_value two_stamps) = a_stamp
shape_of_second gift = a_number

-- what an expression gives
abbrev pub gift_of : Signature → Expr → Gift
gift_of g (iterator_held x) = a_value a_stamp
gift_of g (move x it h ops) = a_value a_stamp
gift_of g (call h ops) = a_value (g.shape h.callee)
gift_of g (own_call f at ops) = a_value (shape_of_call g.functions f)
gift_of g (first at a) = a_value a_stamp
gift_of g (second at a) = a_value (shape_of_second (gift_of g a))
gift_of g (container x) = the_container x
gift_of g (handed_scalar x) = the_scalar x
gift_of g a = a_value a_number

-- what is given has two parts
abbrev pub HasParts : Gift → Type 0
HasParts (a_value a_pair) = Unit {0}
HasParts (a_value two_stamps) = Unit {0}
HasParts gift = ⊥

-- what operands give
abbrev pub gifts_of : Signature → Operands → List Gift
gifts_of g none = []
gifts_of g (with a rest) = gift_of g a ∷ gifts_of g rest

-- what is given suits a parameter
abbrev pub Suits : ParameterKind → Gift → Type 0
Suits (parameter.Value ty) (a_value a_number) = Unit {0}
Suits (parameter.Reference ty) (the_scalar x) = Unit {0}
Suits (parameter.Container access form) (the_container x) = Unit {0}
Suits (parameter.Iterator b form) (a_value a_stamp) = Unit {0}
Suits k gift = ⊥

-- each of the operands suits its parameter, and there are as many
abbrev pub AllSuit : List ParameterKind → List Gift → Type 0
AllSuit [] [] = Unit {0}
AllSuit (k ∷ ks) (gift ∷ gifts) = Suits k gift × AllSuit ks gifts
AllSuit ks gifts = ⊥

-- the number of a container, where that is what is given
abbrev pub container_in : Gift → List ℕ
container_in (the_container x) = x ∷ []
container_in gift = []

-- the numbers of the containers among these
abbrev pub containers_in : List Gift → List ℕ
containers_in [] = []
containers_in (gift ∷ gifts) = container_in gift ++ containers_in gifts

-- the shape of what a row gives, if it is there
abbrev pub shape_of_row : Option Row → Shape
shape_of_row None = no_value
shape_of_row (Some r) = r.shape

-- an object is a new container
abbrev pub is_new_one : Object → Bool
is_new_one (new_one form) = true
is_new_one object = false

-- a row, if it is there, makes a container
abbrev pub row_makes : Option Row → Bool
row_makes None = false
row_makes (Some r) = is_new_one r.object

-- the shape of what a call of the library gives
abbrev pub lib_shape : Callee → Shape
lib_shape callee = shape_of_row (row_of callee)

-- a call of the library makes a container
abbrev pub lib_makes : Callee → Bool
lib_makes callee = row_makes (row_of callee)

-- what is known of the calls in a text
abbrev pub signature_of : (Callee → Shape) → (Callee → Bool) → Typed → Signature
signature_of shape makes p = record { shape = shape; makes = makes; functions = p.functions }
