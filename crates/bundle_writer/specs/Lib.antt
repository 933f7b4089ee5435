-- Inner: rows that are lent, as settings and as the table's entries.
pub mod Inner
