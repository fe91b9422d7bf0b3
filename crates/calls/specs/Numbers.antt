-- The numbers of the faults of calls. Assumes nothing.
use Rattle.std.specs.Prelude.{ℕ}
use Rattle.store.specs.declared.fault.Cause.{Cause}
use Rattle.store.specs.declared.fault.Cause.TheVariants.{OffStore, Blank, Worn}
use Rattle.calls.specs.declared.call.Reason.{Reason}
use Rattle.calls.specs.declared.call.Reason.TheVariants.{SmallField, SmallStore, OutOfRange, WrongLength, ShortMemory, NotLost, Sheet}
use Rattle.calls.specs.declared.call.CallFault.{CallFault}

-- a place on the sheet is blank, or worn; one off the store would be a store too small
abbrev pub sheet_number : Cause → ℕ
sheet_number OffStore = 16
sheet_number Blank = 41
sheet_number Worn = 42

abbrev pub reason_number : Reason → ℕ
reason_number SmallField = 15
reason_number SmallStore = 16
reason_number OutOfRange = 17
reason_number WrongLength = 18
reason_number ShortMemory = 19
reason_number NotLost = 40
reason_number (Sheet f) = sheet_number f.fault.cause

abbrev pub fault_number : CallFault → ℕ
fault_number f = reason_number f.reason
