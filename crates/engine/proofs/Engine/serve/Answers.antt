use Rattle.std.proofs.Common.{length, Ok, Err, refl, ap}
use Rattle.std.proofs.lemmas.Result.{err_from_is_err_and}
use Rattle.calls.specs.History.{asked, mapped, found_answer}
use Rattle.calls.specs.declared.call.Answer.TheVariants.{Counted, Fetched, Cleared}
use Rattle.engine.proofs.Serving.{mapped_err, serves_set, serves_put, serves_fetch, serves_lose, serves_refresh, serves_mend}
use Rattle.engine.proofs.Engine.serve.Goals as goal

pub returns-in_err-set-in-Set : goal.returns-in_err-set-in-Set
returns-in_err-set-in-Set g c =
    let p = err_from_is_err_and c.from_residual.result c.from_residual.ensures.1 in
    let t = serves_set g.F.Field.ops g.F.NumberedField.size (g.C.Code.code c.args.self.now.code) (g.met.C.Code.lawful c.args.self.now.code) (asked c.args.call) (length c.args.memory.now) c.from_residual.result (g.S.Store.meaning c.args.store.now) (g.S.Store.meaning c.set.new.store) c.args.memory.now c.args.memory.now c.in-Set.symbols.now (Err c.in_err-set-in-Set.field-0.0) (ap asked c.in-Set.is) (mapped_err Counted c.from_residual.result p.0 c.in_err-set-in-Set.field-0.0 p.1 p.2) c.in_err-set-in-Set.ensures refl in
    record { step = t.step; history = t.history; memory = t.kept }

pub returns-in_ok-set-in-Set : goal.returns-in_ok-set-in-Set
unfolding mapped found_answer
returns-in_ok-set-in-Set g c =
    let t = serves_set g.F.Field.ops g.F.NumberedField.size (g.C.Code.code c.args.self.now.code) (g.met.C.Code.lawful c.args.self.now.code) (asked c.args.call) (length c.args.memory.now) (Ok (Counted c.in_ok-set-in-Set.field-0)) (g.S.Store.meaning c.args.store.now) (g.S.Store.meaning c.set.new.store) c.args.memory.now c.args.memory.now c.in-Set.symbols.now (Ok c.in_ok-set-in-Set.field-0) (ap asked c.in-Set.is) refl c.in_ok-set-in-Set.ensures refl in
    record { step = t.step; history = t.history; memory = t.kept }

pub returns-in_err-put-in-Put : goal.returns-in_err-put-in-Put
returns-in_err-put-in-Put g c =
    let p = err_from_is_err_and c.from_residual-in_err-put-in-Put.result c.from_residual-in_err-put-in-Put.ensures.1 in
    let t = serves_put g.F.Field.ops g.F.NumberedField.size (g.C.Code.code c.args.self.now.code) (g.met.C.Code.lawful c.args.self.now.code) (asked c.args.call) (length c.args.memory.now) c.from_residual-in_err-put-in-Put.result (g.S.Store.meaning c.args.store.now) (g.S.Store.meaning c.put.new.store) c.args.memory.now c.args.memory.now c.in-Put.row c.in-Put.column c.in-Put.x (Err c.in_err-put-in-Put.field-0.0) (ap asked c.in-Put.is) (mapped_err Counted c.from_residual-in_err-put-in-Put.result p.0 c.in_err-put-in-Put.field-0.0 p.1 p.2) c.in_err-put-in-Put.ensures refl in
    record { step = t.step; history = t.history; memory = t.kept }

pub returns-in_ok-put-in-Put : goal.returns-in_ok-put-in-Put
unfolding mapped found_answer
returns-in_ok-put-in-Put g c =
    let t = serves_put g.F.Field.ops g.F.NumberedField.size (g.C.Code.code c.args.self.now.code) (g.met.C.Code.lawful c.args.self.now.code) (asked c.args.call) (length c.args.memory.now) (Ok (Counted c.in_ok-put-in-Put.field-0)) (g.S.Store.meaning c.args.store.now) (g.S.Store.meaning c.put.new.store) c.args.memory.now c.args.memory.now c.in-Put.row c.in-Put.column c.in-Put.x (Ok c.in_ok-put-in-Put.field-0) (ap asked c.in-Put.is) refl c.in_ok-put-in-Put.ensures refl in
    record { step = t.step; history = t.history; memory = t.kept }

pub returns-in_err-found-in-Fetch : goal.returns-in_err-found-in-Fetch
returns-in_err-found-in-Fetch g c =
    let p = err_from_is_err_and c.from_residual-in_err-found-in-Fetch.result c.from_residual-in_err-found-in-Fetch.ensures.1 in
    let t = serves_fetch g.F.Field.ops g.F.NumberedField.size (g.C.Code.code c.args.self.now.code) (g.met.C.Code.lawful c.args.self.now.code) (asked c.args.call) (length c.args.memory.now) c.from_residual-in_err-found-in-Fetch.result (g.S.Store.meaning c.args.store.now) (g.S.Store.meaning c.fetch.new.store) c.args.memory.now c.fetch.new.memory c.in-Fetch.row c.in-Fetch.column (Err c.in_err-found-in-Fetch.field-0.0) (ap asked c.in-Fetch.is) (mapped_err found_answer c.from_residual-in_err-found-in-Fetch.result p.0 c.in_err-found-in-Fetch.field-0.0 p.1 p.2) c.in_err-found-in-Fetch.ensures.done c.in_err-found-in-Fetch.ensures.memory in
    record { step = t.step; history = t.history; memory = t.kept }

pub returns-in_ok-found-in-Fetch : goal.returns-in_ok-found-in-Fetch
unfolding mapped found_answer
returns-in_ok-found-in-Fetch g c =
    let t = serves_fetch g.F.Field.ops g.F.NumberedField.size (g.C.Code.code c.args.self.now.code) (g.met.C.Code.lawful c.args.self.now.code) (asked c.args.call) (length c.args.memory.now) (Ok (Fetched c.in_ok-found-in-Fetch.found.count c.in_ok-found-in-Fetch.found.symbol)) (g.S.Store.meaning c.args.store.now) (g.S.Store.meaning c.fetch.new.store) c.args.memory.now c.fetch.new.memory c.in-Fetch.row c.in-Fetch.column (Ok c.in_ok-found-in-Fetch.found) (ap asked c.in-Fetch.is) refl c.in_ok-found-in-Fetch.ensures.done c.in_ok-found-in-Fetch.ensures.memory in
    record { step = t.step; history = t.history; memory = t.kept }

pub returns-in_err-lose-in-Lose : goal.returns-in_err-lose-in-Lose
returns-in_err-lose-in-Lose g c =
    let p = err_from_is_err_and c.from_residual-in_err-lose-in-Lose.result c.from_residual-in_err-lose-in-Lose.ensures.1 in
    let t = serves_lose g.F.Field.ops g.F.NumberedField.size (g.C.Code.code c.args.self.now.code) (g.met.C.Code.lawful c.args.self.now.code) (asked c.args.call) (length c.args.memory.now) c.from_residual-in_err-lose-in-Lose.result (g.S.Store.meaning c.args.store.now) (g.S.Store.meaning c.lose.new.store) c.args.memory.now c.args.memory.now c.in-Lose.node (Err c.in_err-lose-in-Lose.field-0.0) (ap asked c.in-Lose.is) (mapped_err Cleared c.from_residual-in_err-lose-in-Lose.result p.0 c.in_err-lose-in-Lose.field-0.0 p.1 p.2) c.in_err-lose-in-Lose.ensures refl in
    record { step = t.step; history = t.history; memory = t.kept }

pub returns-in_ok-lose-in-Lose : goal.returns-in_ok-lose-in-Lose
unfolding mapped found_answer
returns-in_ok-lose-in-Lose g c =
    let t = serves_lose g.F.Field.ops g.F.NumberedField.size (g.C.Code.code c.args.self.now.code) (g.met.C.Code.lawful c.args.self.now.code) (asked c.args.call) (length c.args.memory.now) (Ok (Cleared c.in_ok-lose-in-Lose.field-0)) (g.S.Store.meaning c.args.store.now) (g.S.Store.meaning c.lose.new.store) c.args.memory.now c.args.memory.now c.in-Lose.node (Ok c.in_ok-lose-in-Lose.field-0) (ap asked c.in-Lose.is) refl c.in_ok-lose-in-Lose.ensures refl in
    record { step = t.step; history = t.history; memory = t.kept }

pub returns-in_err-refresh-in-Refresh : goal.returns-in_err-refresh-in-Refresh
returns-in_err-refresh-in-Refresh g c =
    let p = err_from_is_err_and c.from_residual-in_err-refresh-in-Refresh.result c.from_residual-in_err-refresh-in-Refresh.ensures.1 in
    let t = serves_refresh g.F.Field.ops g.F.NumberedField.size (g.C.Code.code c.args.self.now.code) (g.met.C.Code.lawful c.args.self.now.code) (asked c.args.call) (length c.args.memory.now) c.from_residual-in_err-refresh-in-Refresh.result (g.S.Store.meaning c.args.store.now) (g.S.Store.meaning c.refresh.new.store) c.args.memory.now c.args.memory.now c.in-Refresh.node (Err c.in_err-refresh-in-Refresh.field-0.0) (ap asked c.in-Refresh.is) (mapped_err Cleared c.from_residual-in_err-refresh-in-Refresh.result p.0 c.in_err-refresh-in-Refresh.field-0.0 p.1 p.2) c.in_err-refresh-in-Refresh.ensures refl in
    record { step = t.step; history = t.history; memory = t.kept }

pub returns-in_ok-refresh-in-Refresh : goal.returns-in_ok-refresh-in-Refresh
unfolding mapped found_answer
returns-in_ok-refresh-in-Refresh g c =
    let t = serves_refresh g.F.Field.ops g.F.NumberedField.size (g.C.Code.code c.args.self.now.code) (g.met.C.Code.lawful c.args.self.now.code) (asked c.args.call) (length c.args.memory.now) (Ok (Cleared c.in_ok-refresh-in-Refresh.field-0)) (g.S.Store.meaning c.args.store.now) (g.S.Store.meaning c.refresh.new.store) c.args.memory.now c.args.memory.now c.in-Refresh.node (Ok c.in_ok-refresh-in-Refresh.field-0) (ap asked c.in-Refresh.is) refl c.in_ok-refresh-in-Refresh.ensures refl in
    record { step = t.step; history = t.history; memory = t.kept }

pub returns-in_err-mend-in-Mend : goal.returns-in_err-mend-in-Mend
returns-in_err-mend-in-Mend g c =
    let p = err_from_is_err_and c.from_residual-in_err-mend-in-Mend.result c.from_residual-in_err-mend-in-Mend.ensures.1 in
    let t = serves_mend g.F.Field.ops g.F.NumberedField.size (g.C.Code.code c.args.self.now.code) (g.met.C.Code.lawful c.args.self.now.code) (asked c.args.call) (length c.args.memory.now) c.from_residual-in_err-mend-in-Mend.result (g.S.Store.meaning c.args.store.now) (g.S.Store.meaning c.mend.new.store) c.args.memory.now c.mend.new.memory c.in-Mend.node (Err c.in_err-mend-in-Mend.field-0.0) (ap asked c.in-Mend.is) (mapped_err Counted c.from_residual-in_err-mend-in-Mend.result p.0 c.in_err-mend-in-Mend.field-0.0 p.1 p.2) c.in_err-mend-in-Mend.ensures.done c.in_err-mend-in-Mend.ensures.memory in
    record { step = t.step; history = t.history; memory = t.kept }

pub returns-in_ok-mend-in-Mend : goal.returns-in_ok-mend-in-Mend
unfolding mapped found_answer
returns-in_ok-mend-in-Mend g c =
    let t = serves_mend g.F.Field.ops g.F.NumberedField.size (g.C.Code.code c.args.self.now.code) (g.met.C.Code.lawful c.args.self.now.code) (asked c.args.call) (length c.args.memory.now) (Ok (Counted c.in_ok-mend-in-Mend.field-0)) (g.S.Store.meaning c.args.store.now) (g.S.Store.meaning c.mend.new.store) c.args.memory.now c.mend.new.memory c.in-Mend.node (Ok c.in_ok-mend-in-Mend.field-0) (ap asked c.in-Mend.is) refl c.in_ok-mend-in-Mend.ensures.done c.in_ok-mend-in-Mend.ensures.memory in
    record { step = t.step; history = t.history; memory = t.kept }
