-- A line read: its letter, its key and its block.
use Rattle.std.specs.Prelude.{◌≡◌, true, false, List, ℕ, get_or, Option, Result, MatchOption, MatchResult}
use Rattle.text.specs.Hex.{bytes_of}
use Rattle.line_answers.specs.declared.Letter.{Letter}
use Rattle.line_answers.specs.declared.Letter.TheVariants.{Encrypt, Decrypt, OneRound, Pack, PlainEncrypt, PlainDecrypt}
use Rattle.line_answers.specs.declared.NoLetter.{NoLetter}
use Rattle.line_answers.specs.declared.Request.{Request}
use Rattle.line_answers.specs.Line.{is_letter, is_good, key_text, block_text}

-- the byte that stands for a letter
abbrev pub code_of : Letter → ℕ
code_of Encrypt = 69
code_of Decrypt = 68
code_of OneRound = 82
code_of Pack = 80
code_of PlainEncrypt = 70
code_of PlainDecrypt = 71

-- the letter that a byte stands for, if it stands for one
abbrev pub Names : ℕ → Result Letter NoLetter → Type 0
Names c r = MatchResult r (λ letter. (c ≡ code_of letter) × (is_letter c ≡ true)) (λ _. is_letter c ≡ false)

-- what a line asks, if it is good
pub record AsksOf (line : List ℕ) (q : Request) : Type 0 where
  pub good : is_good line ≡ true
  pub letter : get_or line 0 0 ≡ code_of q.letter
  pub key : q.key ≡ bytes_of (key_text line)
  pub block : q.block ≡ bytes_of (block_text line)

abbrev pub Asks : List ℕ → Option Request → Type 0
Asks line r = MatchOption r (is_good line ≡ false) (AsksOf line)
