-- What the theorems of the bundle say of a list and its bytes.
use Rattle.std.specs.Prelude.{◌≡◌, true, List, ℕ, ◌<◌}
use Rattle.bundle_format.specs.Format.{Setting, encode, good_list}
use Rattle.bundle_format.specs.Reader.{rows_of, read_code, tell_in, meant, held}

-- some bytes are the encoding of one list in one edition, and of no other list or edition
pub record Encodes (key : List ℕ) (edition : ℕ) (ss : List Setting) (b : List ℕ) : Type 0 where
  pub good : good_list edition ss ≡ true
  pub bytes : b ≡ encode key edition ss
  pub only : (e : ℕ) (ts : List Setting) → e < 65536 → good_list e ts ≡ true → b ≡ encode key e ts → (e ≡ edition) × (ts ≡ ss)

-- a reader accepts them, and answers exactly a list, for every id
pub record Answers (reader : ℕ) (key : List ℕ) (ss : List Setting) (b : List ℕ) : Type 0 where
  pub accepts : read_code reader key b ≡ 0
  pub answers : (id : ℕ) → meant b (tell_in reader id (rows_of b)) ≡ held id ss
