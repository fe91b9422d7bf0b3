use Rattle.tour.specs.Tour.{Onward}
use Rattle.tour.proofs.run.Given as goal

abbrev pub invariant-loop-call : goal.invariant-loop-call
invariant-loop-call g l = Onward g.F.Field.ops g.F.NumberedField.size (g.C.Code.code l.engine.code) l.yielded (g.S.Store.meaning l.initial.store) (g.S.Store.meaning l.store)
