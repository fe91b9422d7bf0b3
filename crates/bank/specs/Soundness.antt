-- Every memory bank means a sound store, whatever its cells hold.
use Rattle.std.specs.Prelude.{min}
use Rattle.std.proofs.Common.{arith}
use Rattle.store.specs.Meaning.{Sound}
use Rattle.store.proofs.Lay.{laid_sound}
use Rattle.bank.specs.declared.bank.Bank.{Bank}
use Rattle.bank.specs.Banks.{means, whole}
use Rattle.bank.specs.Cells.{cell}

pub bank_sound : {F : Type 0} (b : Bank F) → Sound (means b)
bank_sound b = laid_sound b.shape.rows b.shape.nodes 1000 (λ k. (cell (whole b) k).symbol) (λ k. min (cell (whole b) k).meter 1000) b.shape.somerows b.shape.fewrows b.shape.somenodes b.shape.fewnodes (omega arith) (omega arith) (λ k. omega arith)
