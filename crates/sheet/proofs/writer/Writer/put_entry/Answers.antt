use Rattle.std.proofs.Common.{rules}
use Rattle.sheet.specs.Layout.{mask_width}
use Rattle.sheet.proofs.Numbers.{mask_bytes}
use Rattle.sheet.proofs.writer.Writer.put_entry.Goals as goal

pub returns : goal.returns
unfolding mask_width
returns c = record { put = rw (mask_bytes c.args.mask c.to_be_bytes.result c.to_be_bytes.ensures) at c.put.ensures; held = search rules }
