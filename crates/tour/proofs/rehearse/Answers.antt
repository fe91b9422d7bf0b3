use Rattle.std.proofs.Common.{◌≡◌, sym, ap, subst}
use Rattle.tour.specs.Tour.{Reached}
use Rattle.tour.proofs.Reaching.{reached_begun, reached_more, made_engine}
use Rattle.tour.proofs.rehearse.Goals as goal

pub returns : goal.returns
returns g c =
    let o = g.F.Field.ops in
    let size = g.F.NumberedField.size in
    let given = g.C.Code.code c.args.code in
    let code = g.C.Code.code c.in_ok-engine.engine.code in
    let m₀ = g.S.Store.meaning c.args.store.now in
    let m₁ = g.S.Store.meaning c.make.new.store in
    let m₂ = g.S.Store.meaning c.serve-set.new.store in
    let m₃ = g.S.Store.meaning c.serve-lost.new.store in
    let m₄ = g.S.Store.meaning c.serve-mended.new.store in
    let same : code ≡ given = ap (λ x. g.C.Code.code x.code) (made_engine size given m₀ c.in_ok-engine.engine (record { code = c.args.code }) c.in_ok-engine.ensures.answer) in
    let begun = subst (λ n. Reached o size n m₀ m₁) (sym same) (reached_begun o size given m₀ m₁ c.in_ok-engine.ensures.begun) in
    let set = reached_more o size code m₀ m₁ m₂ _ begun c.serve-set.ensures.history in
    let lost = reached_more o size code m₀ m₂ m₃ _ set c.serve-lost.ensures.history in
    let mended = reached_more o size code m₀ m₃ m₄ _ lost c.serve-mended.ensures.history in
    subst (λ n. Reached o size n m₀ m₄) same mended
