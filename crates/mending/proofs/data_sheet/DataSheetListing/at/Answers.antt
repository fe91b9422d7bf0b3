use Rattle.std.proofs.Common.{◌≡◌, ℕ, ◌+◌, ◌-◌, get_or, refl, ◌∙◌, ap₂, arith}
use Rattle.array.specs.declared.parameters.Parameters.{Parameters}
use Rattle.sheet.specs.declared.place.Entry.{Entry}
use Rattle.sheet.specs.declared.place.Part.{Part}
use Rattle.sheet.specs.declared.place.Part.TheVariants.{First, Second, Third}
use Rattle.array.specs.Layout.{skip, step_node}
use Rattle.sheet.specs.Places.{at}
use Rattle.array.specs.Sheet.{entries}
use Rattle.array.proofs.Indexed.{At, at_read, row_at, piggyback_at, local_at, far_within, far_read}
use Rattle.mending.proofs.data_sheet.DataSheetListing.at.Goals as goal
use Rattle.mending.proofs.data_sheet.DataSheetListing.at.Goals.{then-t-shape, else-t-shape}

abbrev own : Part → ℕ → ℕ → Entry
own part j m = record { part = part; place = at j m }

-- an entry of row j, from its part and node
read : (s : Parameters) (j i : ℕ) (part part' : Part) (m m' : ℕ) → At (entries s j) i (own part' j m') → part ≡ part' → m ≡ m' → own part j m ≡ get_or (entries s j) i (own part j m)
read s j i part part' m m' h p q = ap₂ (λ part m. own part j m) p q ∙ at_read (entries s j) i (own part' j m') (own part j m) h

pub returns-then-i-shape : goal.returns-then-i-shape
returns-then-i-shape c =
    let s = c.args.self.now.parameters in
    let j = c.args.self.now.node in
    read s j c.args.i First First c.skip.result (skip j c.args.i) (row_at s j c.args.i c.if-i-shape.true) refl c.skip.ensures

pub returns-then-i-head : goal.returns-then-i-head
returns-then-i-head c =
    let s = c.args.self.now.parameters in
    let j = c.args.self.now.node in
    let i = c.args.i in
    let t = i - s.k + 1 in
    elim c.if-t-shape.branch [
      | then-t-shape w ↦ read s j i c.if-t-shape.part Second c.step_node.result (step_node s t) (piggyback_at s j i t (omega arith) (omega arith) (omega arith)) w.part-is c.step_node.ensures
      | else-t-shape w ↦ read s j i c.if-t-shape.part Third c.step_node.result (step_node s t) (local_at s j i t (omega arith) (omega arith) (omega arith)) w.part-is c.step_node.ensures
    ]

pub far_place-requires : goal.far_place-requires
far_place-requires c =
    far_within c.args.self.now.parameters c.args.self.now.node c.args.i c.steps.result c.steps-2.result c.far_width-width.result c.steps.ensures c.steps-2.ensures c.far_width-width.ensures c.if-i-head.false c.requires

pub returns : goal.returns
returns c =
    far_read c.args.self.now.parameters c.args.self.now.node c.args.i c.steps.result c.steps-2.result c.far_width-width.result c.steps.ensures c.steps-2.ensures c.far_width-width.ensures c.if-i-head.false c.requires c.far_place.result c.far_place.ensures
