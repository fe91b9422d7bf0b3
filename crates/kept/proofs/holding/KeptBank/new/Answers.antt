use Rattle.std.proofs.Common.{◌≡◌, ℕ, ◌<◌, min, refl, ap, arith}
use Rattle.bank.specs.declared.cell.Cell.{Cell}
use Rattle.bank.specs.Cells.{bare, cell}
use Rattle.store.proofs.Lay.{laid_blank}
use Rattle.kept.proofs.holding.KeptBank.new.Goals as goal

pub returns : goal.returns
returns g c =
    let xs = c.resize.new.self.items in
    let each : (k : ℕ) → k < 2976 → cell xs k ≡ bare = λ k l. c.in_ok-resize.ensures.by_index.1 k bare refl (omega (arith, c.new-cells.ensures.len)) l in
    laid_blank 32 93 1000 (λ k. (cell xs k).symbol) (λ k. min (cell xs k).meter 1000)
    (λ k l. ap (λ (y : Cell _). y.symbol) (each k l))
    (λ k l. ap (λ (y : Cell _). min y.meter 1000) (each k l))
