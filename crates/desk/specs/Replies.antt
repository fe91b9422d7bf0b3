-- How answers and faults of an engine become replies. Assumes nothing.
use Rattle.std.specs.Prelude.{Ok, Err, Result}
use Rattle.store.specs.declared.fault.Cause.{Cause}
use Rattle.store.specs.declared.fault.Cause as cause
use Rattle.store.specs.declared.fault.StoreFault.{StoreFault}
use Rattle.calls.specs.declared.call.Reason.{Reason}
use Rattle.calls.specs.declared.call.Reason as reason
use Rattle.calls.specs.declared.call.CallFault.{CallFault}
use Rattle.calls.specs.declared.call.Answer.{Answer}
use Rattle.calls.specs.declared.call.Answer as answer
use Rattle.array.specs.declared.fault.ParameterFault.{ParameterFault}
use Rattle.array.specs.declared.fault.ParameterFault as parameter
use Rattle.repair.specs.declared.fault.MakeFault.{MakeFault}
use Rattle.repair.specs.declared.fault.MakeFault.TheVariants.{Unfit}
use Rattle.repair.specs.declared.fault.MakeFault as makefault
use Rattle.answers.specs.declared.decline.Decline.{Decline}
use Rattle.answers.specs.declared.decline.Decline.TheVariants.{DataNodes, ClassANodes, Piggybacks, ClassBNodes, SmallField, SmallStore, OutOfRange, WrongLength, ShortMemory, NotLost, Blank, Worn}
use Rattle.answers.specs.declared.reply.Accepted.TheVariants.{Counted, Cleared, Fetched}
use Rattle.answers.specs.Lines.{Reply}
use Rattle.sheet.specs.declared.place.Place.{Place}

abbrev pub place_of : StoreFault → Place
place_of f = record { row = f.row; node = f.node }

-- a place on the sheet that the store declines: 41 blank, 42 worn, with the place
abbrev pub sheet_decline : StoreFault → Cause → Decline
sheet_decline f cause.TheVariants.OffStore = SmallStore
sheet_decline f cause.TheVariants.Blank = Blank (place_of f)
sheet_decline f cause.TheVariants.Worn = Worn (place_of f)

abbrev pub reason_decline : Reason → Decline
reason_decline reason.TheVariants.SmallField = SmallField
reason_decline reason.TheVariants.SmallStore = SmallStore
reason_decline reason.TheVariants.OutOfRange = OutOfRange
reason_decline reason.TheVariants.WrongLength = WrongLength
reason_decline reason.TheVariants.ShortMemory = ShortMemory
reason_decline reason.TheVariants.NotLost = NotLost
reason_decline (reason.TheVariants.Sheet s) = sheet_decline s.fault s.fault.cause

-- the decline of a call's fault
abbrev pub fault_decline : CallFault → Decline
fault_decline f = reason_decline f.reason

abbrev pub parameter_decline : ParameterFault → Decline
parameter_decline parameter.TheVariants.DataNodes = DataNodes
parameter_decline parameter.TheVariants.ClassA = ClassANodes
parameter_decline parameter.TheVariants.Piggybacks = Piggybacks
parameter_decline parameter.TheVariants.ClassB = ClassBNodes
parameter_decline parameter.TheVariants.SmallField = SmallField

-- the decline of a make
abbrev pub make_decline : MakeFault → Decline
make_decline (Unfit f) = parameter_decline f
make_decline makefault.TheVariants.SmallStore = SmallStore

-- the reply to a call
abbrev pub reply_of : {F : Type 0} → Result (Answer F) CallFault → Reply F
reply_of (Ok (answer.TheVariants.Counted count)) = Ok (Counted count)
reply_of (Ok (answer.TheVariants.Fetched count symbol)) = Ok (Fetched count symbol)
reply_of (Ok (answer.TheVariants.Cleared sum)) = Ok (Cleared sum)
reply_of (Err fault) = Err (fault_decline fault)
