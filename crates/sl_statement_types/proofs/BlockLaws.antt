-- A block declares a container where one of its items does.
use Rattle.std.proofs.Common.{◌≡◌, List, [], ◌∷◌, refl}
use Rattle.std.specs.Prelude.{◌||◌}
use Rattle.std.specs.List.{list_any}
use Rattle.sl_syntax.specs.declared.tree.statement.Item.{Item as Code}
use Rattle.sl_syntax.specs.Tree as s
use Rattle.sl_syntax.specs.Tree.{Item, Items, items_from}
use Rattle.sl_syntax.specs.TreeView.{item_of, items_of}
use Rattle.sl_typing.specs.Sites.{declares_container}
use Rattle.sl_statement_types.specs.Means.Blocks.{is_container_item}

-- an item says it, or is looked past
first_item : (i : Item) (is : Items) → declares_container (s.followed i is) ≡ (is_container_item i || declares_container is)
first_item (s.declares (s.declares_container ct x value)) is = refl
first_item (s.declares (s.declares_scalar at type x value)) is = refl
first_item (s.declares (s.declares_auto at x value)) is = refl
first_item (s.declares (s.declares_reference head x value)) is = refl
first_item (s.states a) is = refl

pub any_declares : (is : List Code) → declares_container (items_of is) ≡ list_any (λ i. is_container_item (item_of i)) is
any_declares [] = refl
any_declares (i ∷ is) = rw (first_item (item_of i) (items_of is), any_declares is) refl
