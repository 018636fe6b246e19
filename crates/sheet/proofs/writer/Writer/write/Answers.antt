use Rattle.std.proofs.Common.{rules}
use Rattle.sheet.specs.Layout.{word_width}
use Rattle.sheet.proofs.Numbers.{word_bytes}
use Rattle.sheet.proofs.writer.Writer.write.Goals as goal

pub returns-in-Head : goal.returns-in-Head
unfolding word_width
returns-in-Head c =
    let p = rw (word_bytes c.in-Head.kinds c.to_be_bytes.result c.to_be_bytes.ensures) at c.put.ensures in
    rw c.in-Head.is (record { value = p.value; place = p.place; out = p.out; whole = p.whole; held = search rules })
