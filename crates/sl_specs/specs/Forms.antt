-- The forms of containers, in groups. ISO/IEC 14882:2017, [sequences], [associative], [unord].
use Rattle.std.specs.Prelude.{Bool, List, [], ◌∷◌, Option, Some, None, true, false}
use denote.Enum.Bare.{sameb}
use Rattle.sl_base.specs.contracts.form.Form.{the_type}
use Rattle.sl_base.specs.declared.form.Form.{Form}
use Rattle.sl_base.specs.declared.form.Form.TheVariants as f

-- two forms are one
abbrev pub same_form : Form → Form → Bool
same_form = sameb the_type

-- the same where an algorithm has none
abbrev pub same_object : Option Form → Option Form → Bool
same_object None None = true
same_object (Some x) (Some y) = same_form x y
same_object x y = false

-- all but multiset and multimap
abbrev pub every_form : List Form
every_form = f.Vector ∷ f.Deque ∷ f.List ∷ f.Set ∷ f.Map ∷ f.HashSet ∷ f.HashMap ∷ []

-- those whose elements stand where they are put
abbrev pub sequences : List Form
sequences = f.Vector ∷ f.Deque ∷ f.List ∷ []

-- those with random access
abbrev pub indexed : List Form
indexed = f.Vector ∷ f.Deque ∷ []

-- those with keys
abbrev pub keyed : List Form
keyed = f.Set ∷ f.Map ∷ f.HashSet ∷ f.HashMap ∷ []

-- those with keys in order
abbrev pub ordered : List Form
ordered = f.Set ∷ f.Map ∷ []

-- those with keys and values
abbrev pub maps : List Form
maps = f.Map ∷ f.HashMap ∷ []

-- those with keys alone
abbrev pub sets : List Form
sets = f.Set ∷ f.HashSet ∷ []

-- those without an order
abbrev pub hashed : List Form
hashed = f.HashSet ∷ f.HashMap ∷ []

-- those that hold equal keys
abbrev pub both : List Form
both = f.MultiSet ∷ f.MultiMap ∷ []

-- its order is a hash order
abbrev pub is_hash : Form → Bool
is_hash f.HashSet = true
is_hash f.HashMap = true
is_hash form = false

-- its elements are known by keys, and stand where these put them
abbrev pub is_keyed : Form → Bool
is_keyed f.Vector = false
is_keyed f.Deque = false
is_keyed f.List = false
is_keyed form = true

-- its iterators are random access iterators
abbrev pub is_random_access : Form → Bool
is_random_access f.Vector = true
is_random_access f.Deque = true
is_random_access form = false
