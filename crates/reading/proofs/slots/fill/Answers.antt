use Rattle.std.proofs.Common.{◌<◌, length, ◌∙◌, arith, rules}
use Rattle.sheet.specs.Places.{sheet_of}
use Rattle.calls.specs.Reading.{blank_record}
use Rattle.reading.proofs.Gathering.{filled_none, filled_skip, filled_read, filled_all, filled_table, slot_in, slot_other, slot_same, readable, count_below, whole_more, raised_sheet}
use Rattle.reading.proofs.slots.fill.Goals as goal

pub loop-entry-init : goal.loop-entry-init
loop-entry-init g c = record { whole = search rules; filled = filled_none g.F.Field.ops.zero (g.S.Store.meaning c.args.store.now) (g.P.ReadPlan.slot c.args.plan.now) c.args.memory.now c.requires.vacant }

pub bounds-memory-slot : goal.bounds-memory-slot
bounds-memory-slot g c = slot_in c.loop-entry.yielded (g.met.S.Store.sound c.args.store.now).few_rows c.requires.clear c.requires.slots c.loop-entry.auto.memory c.loop-entry.invariant.whole c.in-Some.ensures.steps c.loop-entry.invariant.filled c.slot-slot.result c.slot-slot.ensures

pub offset_bounds-memory-slot : goal.offset_bounds-memory-slot
offset_bounds-memory-slot g c = let l : c.slot-slot.result < length c.args.memory.now = omega (arith, slot_in c.loop-entry.yielded (g.met.S.Store.sound c.args.store.now).few_rows c.requires.clear c.requires.slots c.loop-entry.auto.memory c.loop-entry.invariant.whole c.in-Some.ensures.steps c.loop-entry.invariant.filled c.slot-slot.result c.slot-slot.ensures, c.loop-entry.auto.memory) in search rules

pub read_place-symbol-requires : goal.read_place-symbol-requires
read_place-symbol-requires g c = readable c.loop-entry.yielded (g.met.S.Store.sound c.args.store.now).few_rows c.requires.clear c.requires.slots c.loop-entry.auto.memory c.loop-entry.invariant.whole c.in-Some.ensures.steps c.loop-entry.invariant.filled (slot_other c.loop-entry.memory c.slot-slot.result c.index-memory-slot.result (blank_record g.F.Field.ops.zero) c.in-Some.entry.place (slot_in c.loop-entry.yielded (g.met.S.Store.sound c.args.store.now).few_rows c.requires.clear c.requires.slots c.loop-entry.auto.memory c.loop-entry.invariant.whole c.in-Some.ensures.steps c.loop-entry.invariant.filled c.slot-slot.result c.slot-slot.ensures) c.index-memory-slot.is c.slot-slot.ensures c.if-ne.ensures)

pub bounds-memory-slot-then-ne : goal.bounds-memory-slot-then-ne
bounds-memory-slot-then-ne g c = slot_in c.loop-entry.yielded (g.met.S.Store.sound c.args.store.now).few_rows c.requires.clear c.requires.slots c.loop-entry.auto.memory c.loop-entry.invariant.whole c.in-Some.ensures.steps c.loop-entry.invariant.filled c.slot-slot.result c.slot-slot.ensures

pub offset_bounds-memory-slot-then-ne : goal.offset_bounds-memory-slot-then-ne
offset_bounds-memory-slot-then-ne g c = let l : c.slot-slot.result < length c.args.memory.now = omega (arith, slot_in c.loop-entry.yielded (g.met.S.Store.sound c.args.store.now).few_rows c.requires.clear c.requires.slots c.loop-entry.auto.memory c.loop-entry.invariant.whole c.in-Some.ensures.steps c.loop-entry.invariant.filled c.slot-slot.result c.slot-slot.ensures, c.loop-entry.auto.memory) in search rules

pub overflow_add-count : goal.overflow_add-count
overflow_add-count g c = search (rules, count_below c.loop-entry.yielded (g.met.S.Store.sound c.args.store.now).few_rows c.requires.clear c.requires.slots c.loop-entry.auto.memory c.loop-entry.invariant.whole c.in-Some.ensures.steps c.loop-entry.invariant.filled, c.of-entry-items.ensures.few)

pub loop-entry-preserved-then-ne : goal.loop-entry-preserved-then-ne
loop-entry-preserved-then-ne g c =
    record {
      whole = whole_more c.loop-entry.yielded (g.met.S.Store.sound c.args.store.now).few_rows c.requires.clear c.requires.slots c.loop-entry.auto.memory c.loop-entry.invariant.whole c.in-Some.ensures.steps c.loop-entry.invariant.filled;
      filled = filled_read c.loop-entry.yielded (g.met.S.Store.sound c.args.store.now).few_rows c.requires.clear c.requires.slots c.loop-entry.auto.memory c.loop-entry.invariant.whole c.in-Some.ensures.steps c.loop-entry.invariant.filled (slot_other c.loop-entry.memory c.slot-slot.result c.index-memory-slot.result (blank_record g.F.Field.ops.zero) c.in-Some.entry.place (slot_in c.loop-entry.yielded (g.met.S.Store.sound c.args.store.now).few_rows c.requires.clear c.requires.slots c.loop-entry.auto.memory c.loop-entry.invariant.whole c.in-Some.ensures.steps c.loop-entry.invariant.filled c.slot-slot.result c.slot-slot.ensures) c.index-memory-slot.is c.slot-slot.ensures c.if-ne.ensures) (g.S.Store.meaning c.read_place-symbol.new.store) c.read_place-symbol.result c.read_place-symbol.ensures.answer c.read_place-symbol.ensures.leaves c.slot-slot.result c.slot-slot.ensures;
    }

pub loop-entry-preserved : goal.loop-entry-preserved
loop-entry-preserved g c = record { whole = whole_more c.loop-entry.yielded (g.met.S.Store.sound c.args.store.now).few_rows c.requires.clear c.requires.slots c.loop-entry.auto.memory c.loop-entry.invariant.whole c.in-Some.ensures.steps c.loop-entry.invariant.filled; filled = filled_skip c.loop-entry.yielded (g.met.S.Store.sound c.args.store.now).few_rows c.requires.clear c.requires.slots c.loop-entry.auto.memory c.loop-entry.invariant.whole c.in-Some.ensures.steps c.loop-entry.invariant.filled (slot_same c.loop-entry.memory c.slot-slot.result c.index-memory-slot.result (blank_record g.F.Field.ops.zero) c.in-Some.entry.place (slot_in c.loop-entry.yielded (g.met.S.Store.sound c.args.store.now).few_rows c.requires.clear c.requires.slots c.loop-entry.auto.memory c.loop-entry.invariant.whole c.in-Some.ensures.steps c.loop-entry.invariant.filled c.slot-slot.result c.slot-slot.ensures) c.index-memory-slot.is c.slot-slot.ensures c.if-ne.ensures) }

pub returns : goal.returns
unfolding sheet_of
returns g c =
    let z = g.F.Field.ops.zero in
    let m₀ = g.S.Store.meaning c.args.store.now in
    let f = filled_all c.loop-entry.yielded c.loop-entry.invariant.whole c.in-None.ensures.steps.0 c.loop-entry.invariant.filled in
    record { count = f.counted; leaves = f.leaves ∙ raised_sheet m₀ _; table = filled_table z m₀ (g.P.ReadPlan.slot c.args.plan.now) _ _ _ _ f }
