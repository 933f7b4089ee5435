-- `counter::Stream::new_bytes`: whole blocks, and the start of one more.
use Rattle.counter.proofs.Leaving.{new_is}
use Rattle.counter.proofs.Stream.new_bytes.Goals as goal

pub returns : goal.returns
returns c =
    let s = c.args.self.now in
    new_is s.words s.nonce s.counter s.block c.args.output.now c.key_blocks.new.output c.last_bytes.result c.last_bytes.new.output
    c.key_blocks.auto.output c.key_blocks.ensures c.last_bytes.ensures
