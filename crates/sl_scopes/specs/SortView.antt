-- The sorts of variables, as typing counts them.
use Rattle.sl_scopes.specs.declared.sorts.Sort.{Sort}
use Rattle.sl_scopes.specs.declared.sorts.Sort.TheVariants as of
use Rattle.sl_typing.specs.Scopes as typing

abbrev pub sort_seen : Sort → typing.Sort
sort_seen of.Scalars = typing.scalars
sort_seen of.Containers = typing.containers
sort_seen of.Iterators = typing.iterators
