pub mod SortView
