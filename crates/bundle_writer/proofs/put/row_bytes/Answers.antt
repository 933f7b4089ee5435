-- `bundle_writer::put::row_bytes`, byte by byte.
use Rattle.bundle_writer.proofs.Stored.{row-digits}
use Rattle.bundle_writer.proofs.put.row_bytes.Goals as goal

pub returns : goal.returns
returns c = rw (c.to_be_bytes.ensures, c.to_be_bytes-2.ensures, c.to_be_bytes-3.ensures, c.to_be_bytes-4.ensures, c.to_be_bytes-5.ensures) (row-digits c.args.row)
