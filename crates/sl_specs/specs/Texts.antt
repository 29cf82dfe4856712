-- The words that the lines of the table are written with. No standard says any of them but the names of forms and calls; the letters for needs,
-- classes and arguments are chosen here.
use Rattle.std.specs.Prelude.{ℕ, List, codes}
use Rattle.sl_base.specs.declared.form.Form.{Form}
use Rattle.sl_base.specs.declared.form.Form.TheVariants as f
use Rattle.sl_specs.specs.declared.call.Call.{Call}
use Rattle.sl_specs.specs.declared.call.Call.TheVariants as c
use Rattle.sl_specs.specs.declared.letter.Letter.{Letter}
use Rattle.sl_specs.specs.declared.letter.Letter.TheVariants as a
use Rattle.sl_specs.specs.declared.need.Need.{Need}
use Rattle.sl_specs.specs.declared.need.Need.TheVariants as n
use Rattle.sl_specs.specs.declared.class.Class.{Class}
use Rattle.sl_specs.specs.declared.class.Class.TheVariants as k

-- a form's class, without its `std::`
abbrev pub form_text : Form → List ℕ
form_text f.Vector = codes "vector"
form_text f.Deque = codes "deque"
form_text f.List = codes "list"
form_text f.Set = codes "set"
form_text f.Map = codes "map"
form_text f.HashSet = codes "unordered_set"
form_text f.HashMap = codes "unordered_map"
form_text f.MultiSet = codes "multiset"
form_text f.MultiMap = codes "multimap"

-- the name of a call
abbrev pub call_text : Call → List ℕ
call_text c.Constructor = codes "constructor"
call_text c.Assignment = codes "="
call_text c.Begin = codes "begin"
call_text c.End = codes "end"
call_text c.Size = codes "size"
call_text c.Empty = codes "empty"
call_text c.Front = codes "front"
call_text c.Back = codes "back"
call_text c.At = codes "at"
call_text c.Subscript = codes "[]"
call_text c.PushBack = codes "push_back"
call_text c.PushFront = codes "push_front"
call_text c.PopBack = codes "pop_back"
call_text c.PopFront = codes "pop_front"
call_text c.Insert = codes "insert"
call_text c.Emplace = codes "emplace"
call_text c.Erase = codes "erase"
call_text c.Clear = codes "clear"
call_text c.Resize = codes "resize"
call_text c.Assign = codes "assign"
call_text c.Reserve = codes "reserve"
call_text c.Swap = codes "swap"
call_text c.Find = codes "find"
call_text c.Count = codes "count"
call_text c.LowerBound = codes "lower_bound"
call_text c.UpperBound = codes "upper_bound"
call_text c.Sort = codes "sort"
call_text c.Reverse = codes "reverse"
call_text c.Unique = codes "unique"
call_text c.Remove = codes "remove"
call_text c.Merge = codes "merge"
call_text c.Splice = codes "splice"
call_text c.EqualRange = codes "equal_range"
call_text c.BinarySearch = codes "binary_search"
call_text c.Includes = codes "includes"
call_text c.SetUnion = codes "set_union"
call_text c.SetIntersection = codes "set_intersection"
call_text c.SetDifference = codes "set_difference"
call_text c.Copy = codes "copy"
call_text c.Fill = codes "fill"
call_text c.Accumulate = codes "accumulate"
call_text c.Distance = codes "distance"
call_text c.Advance = codes "advance"
call_text c.Next = codes "next"
call_text c.Prev = codes "prev"
call_text c.MinElement = codes "min_element"
call_text c.MaxElement = codes "max_element"
call_text c.BackInserter = codes "back_inserter"

-- an argument, or the two of a range
abbrev pub letter_text : Letter → List ℕ
letter_text a.Position = codes "p"
letter_text a.SplicedPosition = codes "i"
letter_text a.OwnRange = codes "f, l"
letter_text a.IntRange = codes "f, l"
letter_text a.SecondIntRange = codes "f2, l2"
letter_text a.WrittenRange = codes "f, l"
letter_text a.RandomAccessRange = codes "f, l"
letter_text a.AnyRange = codes "f, l"
letter_text a.Count = codes "n"
letter_text a.Element = codes "x"
letter_text a.Key = codes "k"
letter_text a.InitializerList = codes "list"
letter_text a.Container = codes "c"
letter_text a.ChangedContainer = codes "c"
letter_text a.AppendedContainer = codes "c"
letter_text a.Int = codes "x"
letter_text a.Output = codes "o"
letter_text a.IteratorVariable = codes "it"
letter_text a.Iterator = codes "it"
letter_text a.BidirectionalIterator = codes "it"
letter_text a.Distance = codes "n"
letter_text a.OptionalDistance = codes "n"

-- a need
abbrev pub need_text : Need → List ℕ
need_text n.PositionInObject = codes "P"
need_text n.ErasablePosition = codes "Q"
need_text n.RangeInObject = codes "R"
need_text n.OneRange = codes "R1"
need_text n.ForeignRange = codes "O"
need_text n.NotEmpty = codes "N"
need_text n.IndexInSize = codes "I"
need_text n.OtherContainer = codes "M"
need_text n.SplicedElement = codes "J"
need_text n.SplicedRange = codes "T"
need_text n.BothSorted = codes "S"
need_text n.PartitionedBelow = codes "PB"
need_text n.PartitionedAbove = codes "PU"
need_text n.RangesSorted = codes "SO"
need_text n.OutputFits = codes "OU"
need_text n.Movable = codes "MV"

-- what is invalidated
abbrev pub class_text : Class → List ℕ
class_text k.Nothing = codes "-"
class_text k.VectorInsert = codes "V1"
class_text k.VectorErase = codes "V2"
class_text k.VectorReserve = codes "V3"
class_text k.VectorResize = codes "VR"
class_text k.DequeResize = codes "DR"
class_text k.DequeInsert = codes "D1"
class_text k.DequeErase = codes "D2"
class_text k.ErasedOnly = codes "E1"
class_text k.HashInsert = codes "H1"
class_text k.HashReserve = codes "HR"
class_text k.AllAndEnd = codes "AE"
class_text k.Swap = codes "SW"
