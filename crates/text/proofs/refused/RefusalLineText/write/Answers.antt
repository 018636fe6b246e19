use Rattle.std.proofs.Common.{◌<◌, ◌^◌, length, arith, rules}
use Rattle.text.specs.Lines.{refused_line}
use Rattle.text.specs.Pens.{Puts}
use Rattle.text.proofs.Puts.{puts_join, put_in_front}
use Rattle.text.proofs.Lengths.{refused-most}
use Rattle.text.proofs.refused.RefusalLineText.write.Goals as goal

pub returns : goal.returns
returns c =
    let text = refused_line c.args.self.now.number c.args.self.now.position in
    let short : length text < 2 ^ 64 = omega (arith, refused-most c.args.self.now.number c.args.self.now.position (omega arith) (omega arith)) in
    let puts : Puts text c.new-pen.result c.put-3.new.self =
    puts_join c.put.ensures (puts_join c.number.ensures (puts_join c.put-2.ensures (puts_join c.decimal.ensures c.put-3.ensures))) in
    put_in_front c.new-pen.ensures.place c.new-pen.ensures.output short puts (search rules)
