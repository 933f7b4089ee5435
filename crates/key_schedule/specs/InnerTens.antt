-- Inner: the ten words of five rounds: as the first two of those rounds give them, and as the ten words that stand twenty or forty before do.
-- Two rounds after a round, V is its U and U is its V updated; ten rounds after it, V is its U updated twice and U is its V updated three times;
-- twenty rounds after it, each is updated five times.
use Rattle.std.specs.Prelude.{cond, List, [], ◌∷◌, ℕ, eqb, length, take, drop}
use Rattle.published.specs.Bytes.{from_bytes}
use Rattle.round_words.specs.Arranged.{arranged}
use Rattle.key_schedule.specs.declared.Four.{Four}
use Rattle.key_schedule.specs.InnerUpdate.{updated, later}

-- V and U of five rounds
pub record Ten : Type 0 where
  pub v0 : ℕ
  pub u0 : ℕ
  pub v1 : ℕ
  pub u1 : ℕ
  pub v2 : ℕ
  pub u2 : ℕ
  pub v3 : ℕ
  pub u3 : ℕ
  pub v4 : ℕ
  pub u4 : ℕ

-- V and U of the first two rounds
unfoldable pub first_words : List ℕ → Four
first_words key =
    record {
      v0 = from_bytes (take 4 (drop 12 key));
      u0 = from_bytes (take 4 (drop 4 key));
      v1 = from_bytes (take 4 (drop 8 key));
      u1 = from_bytes (take 4 (drop 0 key));
    }

-- the same of any key: one of another length has four zero words
unfoldable pub key_words : List ℕ → Four
key_words key = cond (eqb (length key) 16) (first_words key) (record { v0 = 0; u0 = 0; v1 = 0; u1 = 0 })

-- the words of five rounds, each kept in its round's arrangement, from V and U of the first two
unfoldable pub five_rounds : Four → Ten
five_rounds w =
    record {
      v0 = arranged 1 w.v0;
      u0 = arranged 1 w.u0;
      v1 = arranged 2 w.v1;
      u1 = arranged 2 w.u1;
      v2 = arranged 3 w.u0;
      u2 = arranged 3 (updated w.v0);
      v3 = arranged 4 w.u1;
      u3 = arranged 4 (updated w.v1);
      v4 = arranged 5 (updated w.v0);
      u4 = arranged 5 (updated w.u0);
    }

-- V and U of the two rounds that come five rounds after two
unfoldable pub five_later : Four → Four
five_later w = record { v0 = updated w.v1; u0 = updated w.u1; v1 = updated w.u0; u1 = updated (updated w.v0) }

-- the words of five rounds from those that stand twenty before
unfoldable pub ten_later : Ten → Ten
ten_later t =
    record {
      v0 = later 1 2 t.u0;
      u0 = later 1 3 t.v0;
      v1 = later 2 2 t.u1;
      u1 = later 2 3 t.v1;
      v2 = later 3 2 t.u2;
      u2 = later 3 3 t.v2;
      v3 = later 4 2 t.u3;
      u3 = later 4 3 t.v3;
      v4 = later 5 2 t.u4;
      u4 = later 5 3 t.v4;
    }

-- the words of five rounds from those that stand forty before
unfoldable pub ten_further : Ten → Ten
ten_further t =
    record {
      v0 = later 1 5 t.v0;
      u0 = later 1 5 t.u0;
      v1 = later 2 5 t.v1;
      u1 = later 2 5 t.u1;
      v2 = later 3 5 t.v2;
      u2 = later 3 5 t.u2;
      v3 = later 4 5 t.v3;
      u3 = later 4 5 t.u3;
      v4 = later 5 5 t.v4;
      u4 = later 5 5 t.u4;
    }

-- ten words as a list
abbrev pub words_of : Ten → List ℕ
words_of t = t.v0 ∷ t.u0 ∷ t.v1 ∷ t.u1 ∷ t.v2 ∷ t.u2 ∷ t.v3 ∷ t.u3 ∷ t.v4 ∷ t.u4 ∷ []
