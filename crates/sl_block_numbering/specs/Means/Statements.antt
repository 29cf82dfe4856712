-- The definitions that the functions on statements open.
pub use Rattle.sl_typing.specs.Flow.{after, after_item, after_items}
pub use Rattle.sl_typing.specs.StatementFaults.{stmt_faults, item_faults, items_faults}
pub use Rattle.sl_typing.specs.StatementNumbering.{typed_stmt, typed_item, typed_items}
