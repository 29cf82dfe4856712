-- The items of a block one by one.
use Rattle.std.specs.Prelude.{Bool, true, false}
use Rattle.sl_syntax.specs.Tree as s
use Rattle.sl_syntax.specs.Tree.{Item}

-- an item declares a container
abbrev pub is_container_item : Item → Bool
is_container_item (s.declares (s.declares_container ct x value)) = true
is_container_item i = false
