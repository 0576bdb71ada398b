pub mod Climbing
pub mod DenseLaws
pub mod Notebook
pub mod PivotRows
pub mod Same
pub mod Walking
pub mod Ways
