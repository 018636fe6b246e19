use Rattle.std.proofs.Common.{MatchResult, IsErrAnd, ◌≡◌, Ok, rules}
use Rattle.sheet.specs.Steps.{turned}
use Rattle.sheet.proofs.Whole.{placed, walked, lessened}
use Rattle.sheet.proofs.reader.Reader.next.Goals as goal

pub returns : goal.returns
returns c =
    let x = c.args.self.now in
    let y = c.advance.new.self in
    let a = c.advance.result in
    let b = c.map_err.result in
    let p : MatchResult a (λ o. b ≡ Ok o) (λ e. IsErrAnd b (λ f. f ≡ record { cause = e; position = x.at })) = search rules in
    let v = placed x.at (turned x) a b p c.advance.ensures.value in
    let m = c.advance.ensures.moved in
    record { value = v; moved = m; whole = walked x y _ v m; less = lessened x y _ v m; kept = search rules }
