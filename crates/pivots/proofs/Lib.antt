pub mod PivotTables
