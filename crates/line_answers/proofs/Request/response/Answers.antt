-- `Request::response` calls the cipher by the letter and writes what it left.
use mathlib.Core.Path.{◌≡◌, refl, ap, ◌∙◌}
use mathlib.Core.List.{List, []}
use Prim.Native.Nat.{ℕ}
use lib.ListN.{length}
use borrow.Author.Rules.{rules}
use Rattle.primitives.specs.declared.State.{State}
use Rattle.primitives.specs.Packed.{state_of}
use Rattle.packing.proofs.Inverse.{packed-block}
use Rattle.text.specs.Hex.{hex_of}
use Rattle.text.specs.Written.{written}
use Rattle.line_answers.specs.Line.{words_text, packed_text, response}
use Rattle.line_answers.proofs.Responses.{leaves, encrypts, decrypts}
use Rattle.line_answers.proofs.Request.response.Goals as goal
use Rattle.line_answers.proofs.Request.response.Goals.{in-Encrypt, in-Decrypt, in-OneRound, in-PlainEncrypt, in-PlainDecrypt}

pub returns-in-Pack : goal.returns-in-Pack
unfolding response packed_text state_of
returns-in-Pack c =
    let block : List ℕ = c.args.self.block in
    let long : length block ≡ 16 = search rules in
    rw c.in-Pack.is
    (c.words_text.ensures
    ∙ ap (λ (t : State). written (words_text t.s0 t.s1 t.s2 t.s3)) (c.packing.ensures ∙ packed-block 0 block refl long))

pub returns : goal.returns
unfolding response
returns c =
    let key : List ℕ = c.args.self.key in
    let block : List ℕ = c.args.self.block in
    let k : length key ≡ 16 = search rules in
    let b : length block ≡ 16 = search rules in
    let shows : c.push_hex.new.self ≡ written (hex_of c.match-self.block) = c.push_hex.ensures [] c.empty-t.ensures in
    elim c.match-self.branch [
      | in-Encrypt w ↦ rw w.in-Encrypt.is (shows ∙ ap (λ (x : List ℕ). written (hex_of x)) (w.block-is ∙ leaves key block k b (encrypts key block w.encrypt_by_key.ensures)))
      | in-Decrypt w ↦ rw w.in-Decrypt.is (shows ∙ ap (λ (x : List ℕ). written (hex_of x)) (w.block-is ∙ leaves key block k b (decrypts key block w.decrypt_by_key.ensures)))
      | in-OneRound w ↦ rw w.in-OneRound.is (shows ∙ ap (λ (x : List ℕ). written (hex_of x)) (w.block-is ∙ leaves key block k b w.one_round.ensures))
      | in-PlainEncrypt w ↦ rw w.in-PlainEncrypt.is (shows ∙ ap (λ (x : List ℕ). written (hex_of x)) (w.block-is ∙ leaves key block k b w.encrypt_by_key-in-PlainEncrypt.ensures))
      | in-PlainDecrypt w ↦ rw w.in-PlainDecrypt.is (shows ∙ ap (λ (x : List ℕ). written (hex_of x)) (w.block-is ∙ leaves key block k b w.decrypt_by_key-in-PlainDecrypt.ensures))
    ]
