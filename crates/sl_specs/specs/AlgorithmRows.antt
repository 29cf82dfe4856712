-- The algorithms, a row each, with the longest list of arguments that is taken.
--
-- Restates ISO/IEC 14882:2017, [alg.nonmodifying], [alg.modifying.operations], [alg.sorting], [numeric.ops], [iterator.operations] and
-- [back.inserter]: the operands of a call, what it gives and what it requires.
-- Chosen here: which algorithms there are, and that an `x` is an int. An algorithm invalidates nothing by itself; one that writes to an appender
-- invalidates as `push_back` does. The need of `distance` is that of forward iterators; two random access ones may stand in either order.
use Rattle.std.specs.Prelude.{List, [], ◌∷◌, None}
use Rattle.sl_base.specs.declared.scalar.Scalar.TheVariants as scalar
use Rattle.sl_specs.specs.declared.call.Call.{Call}
use Rattle.sl_specs.specs.declared.call.Call.TheVariants as c
use Rattle.sl_specs.specs.declared.letter.Letter.{Letter}
use Rattle.sl_specs.specs.declared.letter.Letter.TheVariants as a
use Rattle.sl_specs.specs.declared.return_type.ReturnType.{ReturnType}
use Rattle.sl_specs.specs.declared.return_type.ReturnType.TheVariants as g
use Rattle.sl_specs.specs.declared.need.Need.{Need}
use Rattle.sl_specs.specs.declared.need.Need.TheVariants as n
use Rattle.sl_specs.specs.declared.class.Class.TheVariants as k
use Rattle.sl_specs.specs.Rows.{Row, row_of, line, keeping}

-- the row of an algorithm
abbrev pub algorithm : Call → List Letter → ReturnType → List Need → Row
algorithm call letters gives needs = row_of None (line call letters gives keeping needs []) k.Nothing

-- each row has its needs by the letters that are printed for them
abbrev pub algorithm_rows : List Row
algorithm_rows =
    -- find(f, l, x), needs R1
    algorithm c.Find (a.IntRange ∷ a.Int ∷ []) g.FirstArgument (n.OneRange ∷ []) ∷
    -- count(f, l, x), needs R1
    algorithm c.Count (a.IntRange ∷ a.Int ∷ []) (g.Number scalar.Diff) (n.OneRange ∷ []) ∷
    -- sort(f, l), needs R1
    algorithm c.Sort (a.RandomAccessRange ∷ []) g.Nothing (n.OneRange ∷ []) ∷
    -- lower_bound(f, l, x), needs R1 PB
    algorithm c.LowerBound (a.IntRange ∷ a.Int ∷ []) g.FirstArgument (n.OneRange ∷ n.PartitionedBelow ∷ []) ∷
    -- upper_bound(f, l, x), needs R1 PU
    algorithm c.UpperBound (a.IntRange ∷ a.Int ∷ []) g.FirstArgument (n.OneRange ∷ n.PartitionedAbove ∷ []) ∷
    -- binary_search(f, l, x), needs R1 PB PU
    algorithm c.BinarySearch (a.IntRange ∷ a.Int ∷ []) (g.Number scalar.Bool) (n.OneRange ∷ n.PartitionedBelow ∷ n.PartitionedAbove ∷ []) ∷
    -- merge(f, l, f2, l2, o), needs R1 SO OU
    algorithm c.Merge (a.IntRange ∷ a.SecondIntRange ∷ a.Output ∷ []) g.Output (n.OneRange ∷ n.RangesSorted ∷ n.OutputFits ∷ []) ∷
    -- includes(f, l, f2, l2), needs R1 SO
    algorithm c.Includes (a.IntRange ∷ a.SecondIntRange ∷ []) (g.Number scalar.Bool) (n.OneRange ∷ n.RangesSorted ∷ []) ∷
    -- set_union(f, l, f2, l2, o), needs R1 SO OU
    algorithm c.SetUnion (a.IntRange ∷ a.SecondIntRange ∷ a.Output ∷ []) g.Output (n.OneRange ∷ n.RangesSorted ∷ n.OutputFits ∷ []) ∷
    -- set_intersection(f, l, f2, l2, o), needs R1 SO OU
    algorithm c.SetIntersection (a.IntRange ∷ a.SecondIntRange ∷ a.Output ∷ []) g.Output (n.OneRange ∷ n.RangesSorted ∷ n.OutputFits ∷ []) ∷
    -- set_difference(f, l, f2, l2, o), needs R1 SO OU
    algorithm c.SetDifference (a.IntRange ∷ a.SecondIntRange ∷ a.Output ∷ []) g.Output (n.OneRange ∷ n.RangesSorted ∷ n.OutputFits ∷ []) ∷
    -- copy(f, l, o), needs R1 OU
    algorithm c.Copy (a.IntRange ∷ a.Output ∷ []) g.Output (n.OneRange ∷ n.OutputFits ∷ []) ∷
    -- fill(f, l, x), needs R1
    algorithm c.Fill (a.WrittenRange ∷ a.Int ∷ []) g.Nothing (n.OneRange ∷ []) ∷
    -- reverse(f, l), needs R1
    algorithm c.Reverse (a.WrittenRange ∷ []) g.Nothing (n.OneRange ∷ []) ∷
    -- unique(f, l), needs R1
    algorithm c.Unique (a.WrittenRange ∷ []) g.FirstArgument (n.OneRange ∷ []) ∷
    -- remove(f, l, x), needs R1
    algorithm c.Remove (a.WrittenRange ∷ a.Int ∷ []) g.FirstArgument (n.OneRange ∷ []) ∷
    -- accumulate(f, l, x), needs R1
    algorithm c.Accumulate (a.IntRange ∷ a.Int ∷ []) (g.Number scalar.Int) (n.OneRange ∷ []) ∷
    -- distance(f, l), needs R1
    algorithm c.Distance (a.AnyRange ∷ []) (g.Number scalar.Diff) (n.OneRange ∷ []) ∷
    -- advance(it, n), needs MV
    algorithm c.Advance (a.IteratorVariable ∷ a.Distance ∷ []) g.Nothing (n.Movable ∷ []) ∷
    -- next(it, n), needs MV
    algorithm c.Next (a.Iterator ∷ a.OptionalDistance ∷ []) g.FirstArgument (n.Movable ∷ []) ∷
    -- prev(it, n), needs MV
    algorithm c.Prev (a.BidirectionalIterator ∷ a.OptionalDistance ∷ []) g.FirstArgument (n.Movable ∷ []) ∷
    -- min_element(f, l), needs R1
    algorithm c.MinElement (a.IntRange ∷ []) g.FirstArgument (n.OneRange ∷ []) ∷
    -- max_element(f, l), needs R1
    algorithm c.MaxElement (a.IntRange ∷ []) g.FirstArgument (n.OneRange ∷ []) ∷
    -- back_inserter(c)
    algorithm c.BackInserter (a.AppendedContainer ∷ []) g.Appender [] ∷
    []
