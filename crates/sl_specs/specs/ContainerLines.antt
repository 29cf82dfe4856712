-- The calls of containers but for multisets and multimaps, a line for a call with one list of arguments.
--
-- Restates ISO/IEC 14882:2017, [container.requirements.general] (`X()`, `X(a)`, `a = b`, `begin`, `end`, `size`, `empty`, `swap`), [sequence.reqmts]
-- (`X(n, t)`, `X(i, j)`, `front` and the like, `insert`, `erase`, `clear`, `assign`), [vector.capacity], [vector.modifiers], [deque.capacity],
-- [deque.modifiers], [list.capacity], [list.modifiers], [list.ops], [associative.reqmts], [unord.req], [map.access] and [unord.map.elem]: the operands of a call, what it gives, what it requires and what it invalidates.
-- Chosen here: which calls there are; `resize` of a vector or deque and `reserve` of a hash form have classes of their own.
use Rattle.std.specs.Prelude.{List, [], ◌∷◌, ◌++◌}
use Rattle.sl_base.specs.declared.form.Form.TheVariants as f
use Rattle.sl_base.specs.declared.scalar.Scalar.TheVariants as scalar
use Rattle.sl_specs.specs.declared.call.Call.TheVariants as c
use Rattle.sl_specs.specs.declared.letter.Letter.TheVariants as a
use Rattle.sl_specs.specs.declared.return_type.ReturnType.TheVariants as g
use Rattle.sl_specs.specs.declared.need.Need.TheVariants as n
use Rattle.sl_specs.specs.declared.class.Class.TheVariants as k
use Rattle.sl_specs.specs.Rows.{Line, line, on, only, changing, keeping}
use Rattle.sl_specs.specs.Forms.{every_form, sequences, indexed, keyed, ordered, maps, sets, hashed}

-- each line has its needs, its forms and their classes by the letters that are printed for them
abbrev pub container_lines : List Line
container_lines =
    -- constructor(): all: -
    line c.Constructor [] g.Nothing keeping [] (on every_form k.Nothing) ∷
    -- constructor(list): vector, deque, list, set, unordered_set: -
    line c.Constructor (a.InitializerList ∷ []) g.Nothing keeping [] (on (sequences ++ sets) k.Nothing) ∷
    -- constructor(c): all: -
    line c.Constructor (a.Container ∷ []) g.Nothing keeping [] (on every_form k.Nothing) ∷
    -- constructor(n): vector, deque, list: -
    line c.Constructor (a.Count ∷ []) g.Nothing keeping [] (on sequences k.Nothing) ∷
    -- constructor(n, x): vector, deque, list: -
    line c.Constructor (a.Count ∷ a.Element ∷ []) g.Nothing keeping [] (on sequences k.Nothing) ∷
    -- constructor(f, l), needs R1: vector, deque, list, set, unordered_set: -
    line c.Constructor (a.IntRange ∷ []) g.Nothing keeping (n.OneRange ∷ []) (on (sequences ++ sets) k.Nothing) ∷
    -- =(c): all: AE
    line c.Assignment (a.Container ∷ []) g.Nothing changing [] (on every_form k.AllAndEnd) ∷
    -- begin(): all: -
    line c.Begin [] g.Iterator keeping [] (on every_form k.Nothing) ∷
    -- end(): all: -
    line c.End [] g.Iterator keeping [] (on every_form k.Nothing) ∷
    -- size(): all: -
    line c.Size [] (g.Number scalar.Size) keeping [] (on every_form k.Nothing) ∷
    -- empty(): all: -
    line c.Empty [] (g.Number scalar.Bool) keeping [] (on every_form k.Nothing) ∷
    -- front(), needs N: vector, deque, list: -
    line c.Front [] g.Element keeping (n.NotEmpty ∷ []) (on sequences k.Nothing) ∷
    -- back(), needs N: vector, deque, list: -
    line c.Back [] g.Element keeping (n.NotEmpty ∷ []) (on sequences k.Nothing) ∷
    -- at(n): vector, deque: -
    line c.At (a.Count ∷ []) g.Element keeping [] (on indexed k.Nothing) ∷
    -- at(k): map, unordered_map: -
    line c.At (a.Key ∷ []) g.Element keeping [] (on maps k.Nothing) ∷
    -- [](n), needs I: vector, deque: -
    line c.Subscript (a.Count ∷ []) g.Element keeping (n.IndexInSize ∷ []) (on indexed k.Nothing) ∷
    -- [](k): map: -; unordered_map: H1
    line c.Subscript (a.Key ∷ []) g.Element changing [] (only f.Map k.Nothing ++ only f.HashMap k.HashInsert) ∷
    -- push_back(x): vector: V1; deque: D1; list: -
    line c.PushBack (a.Element ∷ []) g.Nothing changing [] (only f.Vector k.VectorInsert ++ only f.Deque k.DequeInsert ++ only f.List k.Nothing) ∷
    -- push_front(x): deque: D1; list: -
    line c.PushFront (a.Element ∷ []) g.Nothing changing [] (only f.Deque k.DequeInsert ++ only f.List k.Nothing) ∷
    -- pop_back(), needs N: vector: V2; deque: D2; list: E1
    line c.PopBack [] g.Nothing changing (n.NotEmpty ∷ []) (only f.Vector k.VectorErase ++ only f.Deque k.DequeErase ++ only f.List k.ErasedOnly) ∷
    -- pop_front(), needs N: deque: D2; list: E1
    line c.PopFront [] g.Nothing changing (n.NotEmpty ∷ []) (only f.Deque k.DequeErase ++ only f.List k.ErasedOnly) ∷
    -- insert(p, x), needs P: vector: V1; deque: D1; list: -
    line c.Insert (a.Position ∷ a.Element ∷ []) g.Iterator changing (n.PositionInObject ∷ [])
    (only f.Vector k.VectorInsert ++ only f.Deque k.DequeInsert ++ only f.List k.Nothing) ∷
    -- insert(p, n, x), needs P: vector: V1; deque: D1; list: -
    line c.Insert (a.Position ∷ a.Count ∷ a.Element ∷ []) g.Iterator changing (n.PositionInObject ∷ [])
    (only f.Vector k.VectorInsert ++ only f.Deque k.DequeInsert ++ only f.List k.Nothing) ∷
    -- insert(p, f, l), needs P O: vector: V1; deque: D1; list: -
    line c.Insert (a.Position ∷ a.IntRange ∷ []) g.Iterator changing (n.PositionInObject ∷ n.ForeignRange ∷ [])
    (only f.Vector k.VectorInsert ++ only f.Deque k.DequeInsert ++ only f.List k.Nothing) ∷
    -- insert(x): set: -; unordered_set: H1
    line c.Insert (a.Element ∷ []) g.IteratorAndBool changing [] (only f.Set k.Nothing ++ only f.HashSet k.HashInsert) ∷
    -- insert(f, l), needs O: set: -; unordered_set: H1
    line c.Insert (a.IntRange ∷ []) g.Nothing changing (n.ForeignRange ∷ []) (only f.Set k.Nothing ++ only f.HashSet k.HashInsert) ∷
    -- emplace(k, x): map: -; unordered_map: H1
    line c.Emplace (a.Key ∷ a.Element ∷ []) g.IteratorAndBool changing [] (only f.Map k.Nothing ++ only f.HashMap k.HashInsert) ∷
    -- erase(p), needs Q: vector: V2; deque: D2; list, set, map, unordered_set, unordered_map: E1
    line c.Erase (a.Position ∷ []) g.Iterator changing (n.ErasablePosition ∷ [])
    (only f.Vector k.VectorErase ++ only f.Deque k.DequeErase ++ on (f.List ∷ keyed) k.ErasedOnly) ∷
    -- erase(f, l), needs R: vector: V2; deque: D2; list, set, map, unordered_set, unordered_map: E1
    line c.Erase (a.OwnRange ∷ []) g.Iterator changing (n.RangeInObject ∷ [])
    (only f.Vector k.VectorErase ++ only f.Deque k.DequeErase ++ on (f.List ∷ keyed) k.ErasedOnly) ∷
    -- erase(k): set, map, unordered_set, unordered_map: E1
    line c.Erase (a.Key ∷ []) (g.Number scalar.Size) changing [] (on keyed k.ErasedOnly) ∷
    -- clear(): vector, deque, unordered_set, unordered_map: AE; list, set, map: E1
    line c.Clear [] g.Nothing changing [] (on (indexed ++ hashed) k.AllAndEnd ++ on (f.List ∷ ordered) k.ErasedOnly) ∷
    -- resize(n): vector: VR; deque: DR; list: E1
    line c.Resize (a.Count ∷ []) g.Nothing changing [] (only f.Vector k.VectorResize ++ only f.Deque k.DequeResize ++ only f.List k.ErasedOnly) ∷
    -- resize(n, x): vector: VR; deque: DR; list: E1
    line c.Resize (a.Count ∷ a.Element ∷ []) g.Nothing changing []
    (only f.Vector k.VectorResize ++ only f.Deque k.DequeResize ++ only f.List k.ErasedOnly) ∷
    -- assign(n, x): vector, deque, list: AE
    line c.Assign (a.Count ∷ a.Element ∷ []) g.Nothing changing [] (on sequences k.AllAndEnd) ∷
    -- reserve(n): vector: V3; unordered_set, unordered_map: HR
    line c.Reserve (a.Count ∷ []) g.Nothing changing [] (only f.Vector k.VectorReserve ++ on hashed k.HashReserve) ∷
    -- swap(c): all: SW
    line c.Swap (a.ChangedContainer ∷ []) g.Nothing changing [] (on every_form k.Swap) ∷
    -- find(k): set, map, unordered_set, unordered_map: -
    line c.Find (a.Key ∷ []) g.Iterator keeping [] (on keyed k.Nothing) ∷
    -- count(k): set, map, unordered_set, unordered_map: -
    line c.Count (a.Key ∷ []) (g.Number scalar.Size) keeping [] (on keyed k.Nothing) ∷
    -- lower_bound(k): set, map: -
    line c.LowerBound (a.Key ∷ []) g.Iterator keeping [] (on ordered k.Nothing) ∷
    -- upper_bound(k): set, map: -
    line c.UpperBound (a.Key ∷ []) g.Iterator keeping [] (on ordered k.Nothing) ∷
    -- sort(): list: -
    line c.Sort [] g.Nothing changing [] (only f.List k.Nothing) ∷
    -- reverse(): list: -
    line c.Reverse [] g.Nothing changing [] (only f.List k.Nothing) ∷
    -- unique(): list: E1
    line c.Unique [] g.Nothing changing [] (only f.List k.ErasedOnly) ∷
    -- remove(x): list: E1
    line c.Remove (a.Element ∷ []) g.Nothing changing [] (only f.List k.ErasedOnly) ∷
    -- merge(c), needs S: list: -
    line c.Merge (a.ChangedContainer ∷ []) g.Nothing changing (n.BothSorted ∷ []) (only f.List k.Nothing) ∷
    -- splice(p, c), needs P M: list: -
    line c.Splice (a.Position ∷ a.ChangedContainer ∷ []) g.Nothing changing (n.PositionInObject ∷ n.OtherContainer ∷ []) (only f.List k.Nothing) ∷
    -- splice(p, c, i), needs P J: list: -
    line c.Splice (a.Position ∷ a.ChangedContainer ∷ a.SplicedPosition ∷ []) g.Nothing changing (n.PositionInObject ∷ n.SplicedElement ∷ [])
    (only f.List k.Nothing) ∷
    -- splice(p, c, f, l), needs P T: list: -
    line c.Splice (a.Position ∷ a.ChangedContainer ∷ a.OwnRange ∷ []) g.Nothing changing (n.PositionInObject ∷ n.SplicedRange ∷ [])
    (only f.List k.Nothing) ∷
    []
