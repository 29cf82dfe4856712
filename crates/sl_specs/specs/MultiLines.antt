-- The calls of multisets and multimaps, a line for a call with one list of arguments.
--
-- Restates ISO/IEC 14882:2017, [container.requirements.general], [associative.reqmts] (`a_eq.insert(t)`, `a_eq.emplace(args)`, `a.equal_range(k)`),
-- [multiset] and [multimap].
-- Chosen here: which calls there are.
use Rattle.std.specs.Prelude.{List, [], ◌∷◌}
use Rattle.sl_base.specs.declared.form.Form.TheVariants as f
use Rattle.sl_base.specs.declared.scalar.Scalar.TheVariants as scalar
use Rattle.sl_specs.specs.declared.call.Call.TheVariants as c
use Rattle.sl_specs.specs.declared.letter.Letter.TheVariants as a
use Rattle.sl_specs.specs.declared.return_type.ReturnType.TheVariants as g
use Rattle.sl_specs.specs.declared.need.Need.TheVariants as n
use Rattle.sl_specs.specs.declared.class.Class.TheVariants as k
use Rattle.sl_specs.specs.Rows.{Line, line, on, only, changing, keeping}
use Rattle.sl_specs.specs.Forms.{both}

-- each line has its needs, its forms and their classes by the letters that are printed for them
abbrev pub multi_lines : List Line
multi_lines =
    -- constructor(): all: -
    line c.Constructor [] g.Nothing keeping [] (on both k.Nothing) ∷
    -- constructor(c): all: -
    line c.Constructor (a.Container ∷ []) g.Nothing keeping [] (on both k.Nothing) ∷
    -- constructor(list): multiset: -
    line c.Constructor (a.InitializerList ∷ []) g.Nothing keeping [] (only f.MultiSet k.Nothing) ∷
    -- constructor(f, l), needs R1: multiset: -
    line c.Constructor (a.IntRange ∷ []) g.Nothing keeping (n.OneRange ∷ []) (only f.MultiSet k.Nothing) ∷
    -- =(c): all: AE
    line c.Assignment (a.Container ∷ []) g.Nothing changing [] (on both k.AllAndEnd) ∷
    -- begin(): all: -
    line c.Begin [] g.Iterator keeping [] (on both k.Nothing) ∷
    -- end(): all: -
    line c.End [] g.Iterator keeping [] (on both k.Nothing) ∷
    -- size(): all: -
    line c.Size [] (g.Number scalar.Size) keeping [] (on both k.Nothing) ∷
    -- empty(): all: -
    line c.Empty [] (g.Number scalar.Bool) keeping [] (on both k.Nothing) ∷
    -- insert(x): multiset: -
    line c.Insert (a.Element ∷ []) g.Iterator changing [] (only f.MultiSet k.Nothing) ∷
    -- insert(f, l), needs O: multiset: -
    line c.Insert (a.IntRange ∷ []) g.Nothing changing (n.ForeignRange ∷ []) (only f.MultiSet k.Nothing) ∷
    -- emplace(k, x): multimap: -
    line c.Emplace (a.Key ∷ a.Element ∷ []) g.Iterator changing [] (only f.MultiMap k.Nothing) ∷
    -- erase(p), needs Q: all: E1
    line c.Erase (a.Position ∷ []) g.Iterator changing (n.ErasablePosition ∷ []) (on both k.ErasedOnly) ∷
    -- erase(f, l), needs R: all: E1
    line c.Erase (a.OwnRange ∷ []) g.Iterator changing (n.RangeInObject ∷ []) (on both k.ErasedOnly) ∷
    -- erase(k): all: E1
    line c.Erase (a.Key ∷ []) (g.Number scalar.Size) changing [] (on both k.ErasedOnly) ∷
    -- clear(): all: E1
    line c.Clear [] g.Nothing changing [] (on both k.ErasedOnly) ∷
    -- swap(c): all: SW
    line c.Swap (a.ChangedContainer ∷ []) g.Nothing changing [] (on both k.Swap) ∷
    -- find(k): all: -
    line c.Find (a.Key ∷ []) g.Iterator keeping [] (on both k.Nothing) ∷
    -- count(k): all: -
    line c.Count (a.Key ∷ []) (g.Number scalar.Size) keeping [] (on both k.Nothing) ∷
    -- lower_bound(k): all: -
    line c.LowerBound (a.Key ∷ []) g.Iterator keeping [] (on both k.Nothing) ∷
    -- upper_bound(k): all: -
    line c.UpperBound (a.Key ∷ []) g.Iterator keeping [] (on both k.Nothing) ∷
    -- equal_range(k): all: -
    line c.EqualRange (a.Key ∷ []) g.IteratorPair keeping [] (on both k.Nothing) ∷
    []
