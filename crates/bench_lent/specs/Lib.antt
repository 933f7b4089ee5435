-- What a reader has to believe of the lent bench: how lent records are a bench, and what each call promises of it. What its parts promise is Inner.
pub mod Lent
pub mod Inner
