use Rattle.std.proofs.Common.{◌<◌, ◌^◌, length, arith, rules}
use Rattle.board.specs.Model.{board, model}
use Rattle.text.specs.Lines.{listing}
use Rattle.text.proofs.Puts.{put_in_front}
use Rattle.text.proofs.Lengths.{longest}
use Rattle.text.proofs.listing.DomainsText.write.Goals as goal

pub returns : goal.returns
returns c =
    let d = c.args.self.now in
    let short : length (listing (board d) (model d)) < 2 ^ 64 = omega (arith, longest.most (board d) (model d) d.sized.0.1 d.sized.2.0) in
    put_in_front c.new-pen.ensures.place c.new-pen.ensures.output short c.listing.ensures (search rules)
