use Rattle.std.proofs.Common.{◌≡◌, ◌+◌, ◌/◌, ◌%◌, ◌<◌, [], ◌∷◌, ◌++◌, length, get_or, None, Ok, sym, refl, ap, ◌∙◌, arith, length-append}
use Rattle.std.proofs.lemmas.Result.{err_from_is_err_and}
use Rattle.sheet.specs.Layout.{framed}
use Rattle.sheet.specs.Kinds.{code_of}
use Rattle.sheet.specs.Steps.{laid}
use Rattle.sheet.proofs.Records.{size_small}
use Rattle.sheet.proofs.Outputs.{laid-record, no_room, room, putting-by, puts}
use Rattle.sheet.proofs.writer.Writer.put.Goals as goal

pub returns-in_err-check : goal.returns-in_err-check
returns-in_err-check c =
    let x = c.args.self.now in
    let k = code_of c.args.kind in
    let f = c.args.front.now in
    let b = c.args.back.now in
    let p = err_from_is_err_and c.from_residual.result c.from_residual.ensures.1 in
    rw (p.1, p.2) (puts (k ∷ (f ++ b)) b x x _ _ (putting-by k f b _ _ x.place x.out.now refl c.in_err-check.ensures) refl refl refl)

pub returns-then-self-len : goal.returns-then-self-len
returns-then-self-len c =
    let x = c.args.self.now in
    let k = code_of c.args.kind in
    let f = c.args.front.now in
    let b = c.args.back.now in
    let h : length x.out.now < x.place + length (framed (k ∷ (f ++ b))) = omega (arith, length-append f b, x.within) in
    puts (k ∷ (f ++ b)) b x x _ _ (sym (no_room (framed (k ∷ (f ++ b))) x.out.now x.place h) ∙ putting-by k f b _ None x.place x.out.now refl c.in_ok-check.ensures) refl refl refl

pub overflow_cast-len : goal.overflow_cast-len
overflow_cast-len c =
    let s = size_small (code_of c.args.kind) (1 + length c.args.front.now + length c.args.back.now) c.args.back.now (sym c.in_ok-check.ensures) in
    omega (arith, s)

pub returns : goal.returns
returns c =
    let x = c.args.self.now in
    let k = code_of c.args.kind in
    let f = c.args.front.now in
    let b = c.args.back.now in
    let bytes = c.to_be_bytes.result in
    let s = size_small k (1 + length f + length b) b (sym c.in_ok-check.ensures) in
    let l : length (k ∷ (f ++ b)) ≡ 1 + length f + length b = omega (arith, length-append f b) in
    let h₀ = ap (λ t. get_or t 0 0) c.to_be_bytes.ensures in
    let h₁ = ap (λ t. get_or t 1 0) c.to_be_bytes.ensures in
    let hi : get_or bytes 0 0 ≡ length (k ∷ (f ++ b)) / 256 = omega (arith, s, l, h₀) in
    let lo : get_or bytes 1 0 ≡ length (k ∷ (f ++ b)) % 256 = omega (arith, s, l, h₁) in
    let n = x.place + 2 + (1 + length f + length b) in
    let o = laid-record x.out.now f b x.place (get_or bytes 0 0) (get_or bytes 1 0) k c.lay.new.self.out.now c.lay-2.new.self.out.now c.lay-3.new.self.out.now (omega (arith, x.within)) hi lo (c.lay.ensures.out ∙ ap (λ m. laid x.out.now x.place (get_or bytes 0 0 ∷ get_or bytes 1 0 ∷ m ∷ [])) c.from.ensures)
    (c.lay-2.ensures.out ∙ ap (λ m. laid c.lay.new.self.out.now m f) c.lay.ensures.place) (c.lay-3.ensures.out ∙ ap (λ m. laid c.lay-2.new.self.out.now m b) (omega arith)) in
    puts (k ∷ (f ++ b)) b x c.lay-3.new.self _ (Ok n) (sym (room (framed (k ∷ (f ++ b))) x.out.now x.place n (omega (arith, l)) (omega (arith, x.within))) ∙ putting-by k f b _ None x.place x.out.now refl c.in_ok-check.ensures) refl (omega arith) o
