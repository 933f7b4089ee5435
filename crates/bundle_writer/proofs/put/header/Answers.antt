-- `bundle_writer::put::header`, byte by byte.
use Rattle.bundle_writer.proofs.Stored.{header-digits}
use Rattle.bundle_writer.proofs.put.header.Goals as goal

pub returns : goal.returns
returns c = rw (c.to_be_bytes.ensures, c.to_be_bytes-2.ensures, c.to_be_bytes-3.ensures) (header-digits c.args.edition c.args.count c.args.total)
