-- The edition of the library for hosts: it rises whenever a record, an argument or a count at the C edge changes.
use Rattle.std.specs.Prelude.{ℕ}

abbrev pub edition : ℕ
edition = 5
