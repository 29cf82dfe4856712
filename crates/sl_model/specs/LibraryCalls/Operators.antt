-- The operators of iterators: what they need and what they give. Their object is the container of the first operand.
--
-- Restates ISO/IEC 14882:2017, [iterator.requirements.general], [input.iterators] (`*a`, `a->m`, `++`, `==`), [bidirectional.iterators]
-- (`--`) and [random.access.iterators] (`+`, `-`, `+=`, `-=`, `<` and its like).
-- Chosen here: `+=`, `-=`, `++` and `--` give the moved iterator, which the variable takes; two iterators that are compared have to
-- stand in one container.
use Rattle.std.specs.Prelude.{ℕ, List, [], ◌∷◌, ◌++◌, ℤ, pos, neg_ℤ, negsuc, Option, Some, None, codes}
use Rattle.sl_base.specs.declared.failures.TheConstants.{INVALID_ITERATOR, OUT_OF_RANGE}
use Rattle.sl_syntax.specs.declared.operator.Comparison.{Comparison}
use Rattle.sl_syntax.specs.declared.operator.Comparison.TheVariants as c
use Rattle.sl_syntax.specs.declared.typed.operator.Operator.{Operator}
use Rattle.sl_syntax.specs.declared.typed.operator.Operator.TheVariants as operators
use Rattle.sl_model.specs.Memory.Containers.{Memory, cont_at, size, key_part, value_part}
use Rattle.sl_model.specs.Memory.Forms.{step_of}
use Rattle.sl_model.specs.Numbers.{truth, compared}
use Rattle.sl_model.specs.LibraryCalls.Operands.{Sort, a_number, an_iterator}
use Rattle.sl_model.specs.LibraryCalls.Situation.{Situation, place_of, index, difference_of}
use Rattle.sl_model.specs.LibraryCalls.Needs.{invalid_fails, dereference_fails, one_container_fails}
use Rattle.sl_model.specs.LibraryCalls.Actions.{Answer, gives_number, gives_element}
use Rattle.sl_model.specs.LibraryCalls.SearchAlgorithms.{distance_of, stepped}

-- how far `++`, `--`, `+ n`, `- n`, `+= n` and `-= n` move the first operand
abbrev pub steps_by : Operator → Situation → ℤ
steps_by operators.Decrement s = negsuc 0
steps_by operators.Add s = difference_of s 2
steps_by operators.AddAssign s = difference_of s 2
steps_by operators.Subtract s = neg_ℤ (difference_of s 2)
steps_by operators.SubtractAssign s = neg_ℤ (difference_of s 2)
steps_by o s = pos 1

-- an iterator that has to be moved so far
abbrev pub step_fails : Memory → Option (ℕ × ℕ) → ℤ → List (ℕ × ℕ)
step_fails m None n = (INVALID_ITERATOR, 1) ∷ []
step_fails m (Some p) n = elim (step_of (size (cont_at m p.0)) p.1 n) [ None ↦ (OUT_OF_RANGE, 1) ∷ [] | Some k ↦ [] ]

-- both operands have to stand in one container
abbrev pub pair_fails : Option (ℕ × ℕ) → Option (ℕ × ℕ) → List (ℕ × ℕ)
pair_fails p q = invalid_fails p 1 ++ (invalid_fails q 2 ++ one_container_fails p q 1)

-- the kinds and arguments at which an operator's needs fail
abbrev pub operator_failures : Operator → Situation → List (ℕ × ℕ)
operator_failures operators.Dereference s = dereference_fails s.memory (place_of s 1) 1
operator_failures operators.ArrowFirst s = dereference_fails s.memory (place_of s 1) 1
operator_failures operators.ArrowSecond s = dereference_fails s.memory (place_of s 1) 1
operator_failures operators.Difference s = pair_fails (place_of s 1) (place_of s 2)
operator_failures (operators.Compare c) s = pair_fails (place_of s 1) (place_of s 2)
operator_failures o s = step_fails s.memory (place_of s 1) (steps_by o s)

-- what an operator gives
abbrev pub operator_answer : Operator → Situation → Answer
operator_answer operators.Dereference s = gives_element s.object (index s 1) key_part
operator_answer operators.ArrowFirst s = gives_element s.object (index s 1) key_part
operator_answer operators.ArrowSecond s = gives_element s.object (index s 1) value_part
operator_answer operators.Difference s = gives_number (distance_of (index s 2) (index s 1))
operator_answer (operators.Compare c) s = gives_number (truth (compared c (pos (index s 1)) (pos (index s 2))))
operator_answer o s = stepped s (steps_by o s)

-- the sorts of an operator's operands
abbrev pub operator_sorts : Operator → List Sort
operator_sorts operators.Add = an_iterator ∷ a_number ∷ []
operator_sorts operators.AddAssign = an_iterator ∷ a_number ∷ []
operator_sorts operators.Subtract = an_iterator ∷ a_number ∷ []
operator_sorts operators.SubtractAssign = an_iterator ∷ a_number ∷ []
operator_sorts operators.Difference = an_iterator ∷ an_iterator ∷ []
operator_sorts (operators.Compare c) = an_iterator ∷ an_iterator ∷ []
operator_sorts o = an_iterator ∷ []

-- the words of a comparison
abbrev pub comparison_name : Comparison → List ℕ
comparison_name c.Equal = codes "=="
comparison_name c.NotEqual = codes "!="
comparison_name c.Less = codes "<"
comparison_name c.LessEqual = codes "<="
comparison_name c.Greater = codes ">"
comparison_name c.GreaterEqual = codes ">="

-- the words of an operator, as a trap tells them
abbrev pub operator_name : Operator → List ℕ
operator_name operators.Dereference = codes "*"
operator_name operators.ArrowFirst = codes "->"
operator_name operators.ArrowSecond = codes "->"
operator_name operators.Increment = codes "++"
operator_name operators.Decrement = codes "--"
operator_name operators.Add = codes "+"
operator_name operators.Subtract = codes "-"
operator_name operators.AddAssign = codes "+="
operator_name operators.SubtractAssign = codes "-="
operator_name operators.Difference = codes "-"
operator_name (operators.Compare c) = comparison_name c
