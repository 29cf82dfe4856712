-- The fact rule of each call of the library, by its row, and what a call that has no rule drops. `t` numbers the fresh variable that
-- takes the call's value; its operands are read as those behind it.
--
-- Restates ISO/IEC 14882:2017, [container.requirements.general], [sequence.reqmts], [associative.reqmts], [unord.req], [list.ops],
-- [alg.nonmodifying], [alg.sorting], [numeric.ops], [iterator.operations] and [back.inserter], as far as they say what is changed.
-- Chosen here: which forms have a rule: `look_up`, `scan`, `search_sorted`, and those of FactsOfIterators and FactsOfContainers.
use Rattle.std.specs.Prelude.{ℕ, ◌+◌, ◌==◌, Bool, true, false, ◌&&◌, List, [], ◌∷◌, map, Option, Some, None, if◌then◌else◌}
use Rattle.std.specs.List.{list_any, list_all}
use Rattle.sl_base.specs.declared.form.Form.{Form}
use Rattle.sl_base.specs.declared.form.Form.TheVariants as f
use Rattle.sl_specs.specs.declared.call.Call.{Call}
use Rattle.sl_specs.specs.declared.call.Call.TheVariants as c
use Rattle.sl_specs.specs.declared.letter.Letter.{Letter}
use Rattle.sl_specs.specs.declared.letter.Letter.TheVariants as a
use Rattle.sl_specs.specs.declared.need.Need.{Need}
use Rattle.sl_specs.specs.Rows.{Row}
use Rattle.sl_specs.specs.Table.{same_call}
use Rattle.sl_syntax.specs.declared.typed.callee.Callee.TheVariants as callees
use Rattle.sl_syntax.specs.declared.typed.head.Head.{Head}
use Rattle.sl_syntax.specs.Typed.{Operands, none, with}
use Rattle.sl_model.specs.Outlines.Facts.{Facts, inside, sorted}
use Rattle.sl_model.specs.Outlines.FactRules.{FactRule, freely, no_rule, drop_container, drop_containers}
use Rattle.sl_model.specs.Outlines.FactRules.{drop_written}
use Rattle.sl_model.specs.Outlines.FactOperands.{FactScope, container_count, fresh_iterator, form_at, table_row, iterator_of, operand_at}
use Rattle.sl_model.specs.Outlines.FactOperands.{operand_count, container_operands, WrittenRange, range_of, whole_of, more_than_size}
use Rattle.sl_model.specs.Outlines.FactsOfIterators.{begin, end, found, step_forward, step_back}
use Rattle.sl_model.specs.Outlines.FactsOfContainers.{push, pop, clear, reserve_more, sort}
use Rattle.sl_model.specs.Outlines.FactsOfContainers.{insert_key, append_copy, swapped}

-- there are needs
abbrev pub has_needs : List Need → Bool
has_needs [] = false
has_needs (n ∷ ns) = true

-- the letter is a container that the call changes
abbrev pub is_changed : Letter → Bool
is_changed a.ChangedContainer = true
is_changed l = false

-- the containers that a member call on x may change
abbrev pub changed_by : Row → ℕ → Operands → List ℕ
changed_by r x ops = if r.changes then x ∷ (if list_any is_changed r.letters then container_operands ops else []) else []

-- a member call that has no rule
abbrev pub other_member : Row → ℕ → Operands → FactRule
other_member r x ops = no_rule (has_needs r.needs) (drop_containers (changed_by r x ops))

-- one element is taken, and no position
abbrev pub takes_element : List Letter → Bool
takes_element (a.Element ∷ []) = true
takes_element ls = false

-- `look_up`, `x.find(e)`, `x.lower_bound(e)` and `x.upper_bound(e)`: the result is inside
abbrev pub look_up : ℕ → ℕ → FactRule
look_up x to = freely (found x to)

-- `x.reserve(e)`: of a vector, with a literal more than the size
abbrev pub reserve : FactScope → ℕ → Form → Row → Operands → FactRule
reserve s x f.Vector r (with e none) =
    elim (more_than_size x e) [ None ↦ other_member r x (with e none) | Some k ↦ reserve_more s.text.constants x k ]
reserve s x form r ops = other_member r x ops

-- `x.swap(y)`
abbrev pub swap : ℕ → Row → Operands → FactRule
swap x r ops = elim (container_operands ops) [ [] ↦ other_member r x ops | y ∷ ys ↦ freely (swapped x y) ]

-- a member call on x of a form, by its name
abbrev pub member_rule : FactScope → ℕ → ℕ → Form → Row → Operands → Call → FactRule
member_rule s t x form r ops c.Begin = begin x (fresh_iterator s t)
member_rule s t x form r ops c.End = end x (fresh_iterator s t)
member_rule s t x form r ops c.PushBack = push s.text.constants x form
member_rule s t x form r ops c.PushFront = push s.text.constants x form
member_rule s t x form r ops c.PopBack = pop s.text.constants x
member_rule s t x form r ops c.PopFront = pop s.text.constants x
member_rule s t x form r ops c.Insert = if takes_element r.letters then insert_key s.text.constants x form else other_member r x ops
member_rule s t x form r ops c.Emplace = insert_key s.text.constants x form
member_rule s t x form r ops c.Clear = clear s.text.constants x
member_rule s t x form r ops c.Reserve = reserve s x form r ops
member_rule s t x form r ops c.Swap = swap x r ops
member_rule s t x form r ops c.Find = look_up x (fresh_iterator s t)
member_rule s t x form r ops c.LowerBound = look_up x (fresh_iterator s t)
member_rule s t x form r ops c.UpperBound = look_up x (fresh_iterator s t)
member_rule s t x form r ops c.Sort = sort s.text.constants x form
member_rule s t x form r ops name = other_member r x ops

-- the iterators that stand for one side of a range are inside its container
abbrev pub is_range : WrittenRange → Facts → Bool
is_range w F = list_all (λ it. F (inside it w.over)) w.bounds

-- the elements of a container of this form ascend by themselves, or are known to
abbrev pub is_ascending : ℕ → Option Form → Facts → Bool
is_ascending x (Some f.Set) F = true
is_ascending x (Some f.MultiSet) F = true
is_ascending x form F = F (sorted x)

-- a call that changes nothing and gives an iterator, or none, where its needs are given
abbrev pub searches : (Facts → Bool) → (Facts → Facts) → FactRule
searches needs rule = record { has_rule = true; needs = needs; gives = λ lax F. if needs F then rule F else F }

-- where an algorithm's operands that it writes through stand
abbrev pub written_operands : Call → List ℕ
written_operands c.Sort = 0 ∷ 1 ∷ []
written_operands c.Fill = 0 ∷ 1 ∷ []
written_operands c.Reverse = 0 ∷ 1 ∷ []
written_operands c.Unique = 0 ∷ 1 ∷ []
written_operands c.Remove = 0 ∷ 1 ∷ []
written_operands c.Copy = 2 ∷ []
written_operands c.Merge = 4 ∷ []
written_operands c.SetUnion = 4 ∷ []
written_operands c.SetIntersection = 4 ∷ []
written_operands c.SetDifference = 4 ∷ []
written_operands name = []

-- the iterator that has the facts of an operand at a place
abbrev pub iterator_at : FactScope → ℕ → Operands → ℕ → ℕ
iterator_at s t ops n = elim (operand_at n ops) [ None ↦ fresh_iterator s (t + n) | Some e ↦ iterator_of s (t + n) e ]

-- an algorithm that has no rule; t numbers its first operand
abbrev pub other_algorithm : FactScope → ℕ → Operands → Call → FactRule
other_algorithm s t ops name = elim (written_operands name) [
  | [] ↦ no_rule true (λ F. F)
  | n ∷ ns ↦ no_rule true (drop_written (container_count s) (map (iterator_at s t ops) (n ∷ ns)))
]

-- `scan`: a range of x is read
abbrev pub scan : FactScope → ℕ → Operands → Call → (ℕ → Facts → Facts) → FactRule
scan s t ops name rule =
    elim (range_of s t ops) [ None ↦ other_algorithm s t ops name | Some w ↦ searches (is_range w) (rule w.over) ]

-- `search_sorted`: a range of x, whose elements ascend, is searched
abbrev pub search_sorted : FactScope → ℕ → Operands → Call → (ℕ → Facts → Facts) → FactRule
search_sorted s t ops name rule = elim (range_of s t ops) [
  | None ↦ other_algorithm s t ops name
  | Some w ↦ searches (λ F. is_range w F && is_ascending w.over (form_at s w.over) F) (rule w.over)
]

-- what gives no iterator
abbrev pub finds_none : ℕ → Facts → Facts
finds_none x F = F

-- what gives an iterator inside the container
abbrev pub finds : ℕ → ℕ → Facts → Facts
finds to x F = found x to F

-- `sort`, of all elements of a container
abbrev pub sort_all : FactScope → ℕ → Operands → FactRule
sort_all s t ops = elim (whole_of ops) [ None ↦ other_algorithm s t ops c.Sort | Some x ↦ sort s.text.constants x f.Vector ]

-- `std::next(it)` or `std::prev(it)`, without a number
abbrev pub steps : FactScope → ℕ → Operands → Call → (ℕ → FactRule) → FactRule
steps s t ops name rule = if operand_count ops == 1 then rule (iterator_at s t ops 0) else other_algorithm s t ops name

-- an algorithm, by its name
abbrev pub algorithm_rule : FactScope → ℕ → Operands → Call → FactRule
algorithm_rule s t ops c.Find = scan s (t + 1) ops c.Find (finds (fresh_iterator s t))
algorithm_rule s t ops c.MinElement = scan s (t + 1) ops c.MinElement (finds (fresh_iterator s t))
algorithm_rule s t ops c.MaxElement = scan s (t + 1) ops c.MaxElement (finds (fresh_iterator s t))
algorithm_rule s t ops c.Count = scan s (t + 1) ops c.Count finds_none
algorithm_rule s t ops c.Accumulate = scan s (t + 1) ops c.Accumulate finds_none
algorithm_rule s t ops c.LowerBound = search_sorted s (t + 1) ops c.LowerBound (finds (fresh_iterator s t))
algorithm_rule s t ops c.UpperBound = search_sorted s (t + 1) ops c.UpperBound (finds (fresh_iterator s t))
algorithm_rule s t ops c.BinarySearch = search_sorted s (t + 1) ops c.BinarySearch finds_none
algorithm_rule s t ops c.Sort = sort_all s (t + 1) ops
algorithm_rule s t ops c.Next = steps s (t + 1) ops c.Next (λ it. step_forward (container_count s) it (fresh_iterator s t))
algorithm_rule s t ops c.Prev = steps s (t + 1) ops c.Prev (λ it. step_back (container_count s) it (fresh_iterator s t))
algorithm_rule s t ops name = other_algorithm s (t + 1) ops name

-- `append_copy`, a range of another container than x is copied to the end of x
abbrev pub appends_range : FactScope → Option WrittenRange → ℕ → FactRule
appends_range s None x = no_rule true (drop_container x)
appends_range s (Some w) x = elim (form_at s x) [
  | None ↦ no_rule true (drop_container x)
  | Some form ↦ if w.over == x then no_rule true (drop_container x) else append_copy s.text.constants (is_range w) x form
]

-- an algorithm whose output appends to a container: `std::copy` alone has a rule
abbrev pub appends_rule : FactScope → ℕ → Operands → Call → FactRule
appends_rule s t ops name = elim (container_operands ops) [
  | [] ↦ no_rule true (λ F. F)
  | x ∷ xs ↦ if same_call name c.Copy then appends_range s (range_of s t ops) x else no_rule true (drop_container x)
]

-- a call of a row
abbrev pub row_rule : FactScope → ℕ → Operands → Option ℕ → Row → Option Form → FactRule
row_rule s t ops object r None = algorithm_rule s t ops r.call
row_rule s t ops None r (Some form) = no_rule true (λ F. F)
row_rule s t ops (Some x) r (Some form) = member_rule s t x form r ops r.call

-- a call that gives no element and moves no variable
abbrev pub call_rule : FactScope → ℕ → Head → Operands → FactRule
call_rule s t h ops = elim (table_row h.callee) [
  | None ↦ no_rule true (λ F. F)
  | Some r ↦ elim h.callee [
    | callees.Row n ↦ row_rule s t ops h.object r r.form
    | callees.Appends n ↦ appends_rule s (t + 1) ops r.call
    | callees.Operator o ↦ no_rule true (λ F. F)
    | callees.Hidden o ↦ no_rule true (λ F. F)
  ]
]
