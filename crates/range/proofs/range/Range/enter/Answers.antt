use Rattle.std.proofs.Common.{◌≡◌, ap, ◌∙◌, subst}
use lib.Bits.{bit_or}
use Rattle.model.specs.Board.{Board}
use Rattle.model.specs.Entries.{claim, narrow}
use Rattle.board.specs.Model.{board, model}
use Rattle.board.proofs.Shapes.{is-kept, some}
use Rattle.range.specs.Entered.{Confined}
use Rattle.range.proofs.Entering.{entered, kept_on}
use Rattle.range.proofs.range.Range.enter.Goals as goal

pub returns-clause-model : goal.returns-clause-model
returns-clause-model c =
    let d = c.args.d.now in
    let v = c.args.verdict.now in
    let was = c.args.was.now in
    let s = c.args.self.now.s in
    let t = c.args.self.now.t in
    let wide = bit_or was.claimed v.near in
    let d₁ = c.limit_all-limited.new.d in
    let d₂ = c.confine-s_cut.new.d in
    let d₃ = c.claim-s_raised.new.self in
    let d₄ = c.confine-t_cut.new.d in
    let d₅ = c.claim-t_raised.new.self in
    let e₁ = c.limit_all-limited.ensures in
    let e₂ = c.confine-s_cut.ensures in
    let e₃ = c.claim-s_raised.ensures in
    let e₄ = c.confine-t_cut.ensures in
    let e₅ = c.claim-t_raised.ensures in
    let b₁ : board d₁ ≡ board d = e₁.board in
    let b₂ : board d₂ ≡ board d = e₂.board ∙ b₁ in
    let b₃ : board d₃ ≡ board d = e₃.board ∙ b₂ in
    let b₄ : board d₄ ≡ board d = e₄.board ∙ b₃ in
    let b₅ : board d₅ ≡ board d = e₅.board ∙ b₄ in (
      c.sure-single.result,
      c.sure-single.ensures,
      entered (board d) (some d) s t was.sensors v.keep v.bound wide c.sure-single.result (model d) (model d₁) (model d₂) (model d₃) (model d₄) (model d₅)
          (is-kept d) (kept_on d₁ (board d) b₁) (kept_on d₂ (board d) b₂) (kept_on d₃ (board d) b₃) (kept_on d₄ (board d) b₄) (kept_on d₅ (board d) b₅)
          e₁.model (subst (λ (b : Board). Confined b s was.sensors (model d₁) (model d₂)) b₁ e₂.model)
          (e₃.model ∙ ap (λ (b : Board). narrow b (claim s v.bound) (model d₂)) b₂)
          (subst (λ (b : Board). Confined b t wide (model d₃) (model d₄)) b₃ e₄.model)
          (e₅.model ∙ ap (λ (b : Board). narrow b (claim t c.sure-single.result) (model d₄)) b₄),
    )
