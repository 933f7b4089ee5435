-- What a writer of an edition takes and gives. A list is lent as rows of four numbers (id, kind, must-know, length), and the bodies one after the other in a pool.
use Rattle.std.specs.Prelude.{◌≡◌, Bool, ◌&&◌, List, [], ◌∷◌, ◌++◌, ℕ, zero, suc, ◌+◌, ◌/◌, ◌%◌, eqb, leb, length, take, drop, get_or}
use Rattle.answers.specs.Numbers.{DONE, BAD_KEY_LENGTH, BAD_LIST, SHORT_OUTPUT}
use Rattle.answers.specs.Order.{unless, if_done}
use Rattle.bundle_format.specs.Format.{Setting, good_list, total_of, encode}

-- the list that n rows and a pool are
unfoldable pub list_from : (n : ℕ) (rows pool : List ℕ) → List Setting
list_from zero rows pool = []
list_from (suc n) rows pool =
    record { id = get_or rows 0 0; kind = get_or rows 1 0; must = get_or rows 2 0; body = take (get_or rows 3 0) pool } ∷ list_from n (drop 4 rows) (drop (get_or rows 3 0) pool)

abbrev pub list_of : (rows pool : List ℕ) → List Setting
list_of rows pool = list_from (length rows / 4) rows pool

-- how many bytes n rows say that they have
unfoldable pub sizes : (n : ℕ) (rows : List ℕ) → ℕ
sizes zero rows = 0
sizes (suc n) rows = get_or rows 3 0 + sizes n (drop 4 rows)

-- 24: no whole rows, a pool that is not as long as they say, or a list that no bundle of the edition holds
unfoldable pub good_rows : (edition : ℕ) (rows pool : List ℕ) → Bool
good_rows edition rows pool = eqb (length rows % 4) 0 && eqb (sizes (length rows / 4) rows) (length pool) && good_list edition (list_of rows pool)

-- the writer's number: 1, 24, 25
unfoldable pub write_code : (edition : ℕ) (key rows pool : List ℕ) (room : ℕ) → ℕ
write_code edition key rows pool room =
    unless (eqb (length key) 16) BAD_KEY_LENGTH
    (unless (good_rows edition rows pool) BAD_LIST
    (unless (leb (total_of (list_of rows pool)) room) SHORT_OUTPUT DONE))

-- The number, the total told, and what the output holds: the bundle, and past it what stood there; after a refusal what stood there, and 0 told.
pub record Writes (edition : ℕ) (key rows pool out : List ℕ) (r total : ℕ) (e : List ℕ) : Type 0 where
  pub is : r ≡ write_code edition key rows pool (length out)
  pub tells : total ≡ if_done (write_code edition key rows pool (length out)) (total_of (list_of rows pool)) 0
  pub leaves : e ≡ if_done (write_code edition key rows pool (length out)) (encode key edition (list_of rows pool) ++ drop (total_of (list_of rows pool)) out) out
