use Rattle.std.proofs.Common.{sym, subst}
use Rattle.code.specs.Codes.{Slotted}
use Rattle.reading.proofs.slots.gather.Goals as goal

pub fill-requires : goal.fill-requires
fill-requires g c =
    record {
      clear = c.requires.clear;
      slots = subst (λ n. Slotted (g.P.Listing.entries c.args.plan.now) (g.P.ReadPlan.slot c.args.plan.now) n) (sym c.vacate.auto.memory) c.requires.slots;
      vacant = c.vacate.ensures;
    }
