-- Inner: the words of ten rounds, two in each number: in the low halves those of five rounds, in the high halves those of the five rounds after them.
use Rattle.std.specs.Prelude.{List, ◌++◌, ℕ}
use Rattle.key_schedule.specs.declared.Twenty.{Twenty}
use Rattle.key_schedule.specs.InnerHalves.{low_of, high_of, joined}
use Rattle.key_schedule.specs.InnerTens.{Ten, words_of}

-- f of each of the ten numbers
abbrev pub ten_by : (ℕ → ℕ) → Twenty → Ten
ten_by f t =
    record {
      v0 = f t.v0;
      u0 = f t.u0;
      v1 = f t.v1;
      u1 = f t.u1;
      v2 = f t.v2;
      u2 = f t.u2;
      v3 = f t.v3;
      u3 = f t.u3;
      v4 = f t.v4;
      u4 = f t.u4;
    }

abbrev pub low_ten : Twenty → Ten
low_ten t = ten_by low_of t

abbrev pub high_ten : Twenty → Ten
high_ten t = ten_by high_of t

abbrev pub joined_tens : Ten → Ten → Twenty
joined_tens s t =
    record {
      v0 = joined s.v0 t.v0;
      u0 = joined s.u0 t.u0;
      v1 = joined s.v1 t.v1;
      u1 = joined s.u1 t.u1;
      v2 = joined s.v2 t.v2;
      u2 = joined s.u2 t.u2;
      v3 = joined s.v3 t.v3;
      u3 = joined s.u3 t.u3;
      v4 = joined s.v4 t.v4;
      u4 = joined s.u4 t.u4;
    }

-- f of each ten
abbrev pub in_both_tens : (Ten → Ten) → Twenty → Twenty
in_both_tens f t = joined_tens (f (low_ten t)) (f (high_ten t))

-- the twenty words in their order
abbrev pub words_in : Twenty → List ℕ
words_in t = words_of (low_ten t) ++ words_of (high_ten t)
