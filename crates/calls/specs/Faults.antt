-- How a fault of the store becomes the fault of a sheet, and this the fault of a call. Assumes nothing.
use Rattle.store.specs.declared.fault.StoreFault.{StoreFault}
use Rattle.sheet.specs.declared.place.Part.{Part}
use Rattle.sheet.specs.declared.place.Part.TheVariants.{First}
use Rattle.calls.specs.declared.call.CallName.{CallName}
use Rattle.calls.specs.declared.call.CallName.TheVariants.{Fetch}
use Rattle.calls.specs.declared.call.SheetFault.{SheetFault}
use Rattle.calls.specs.declared.call.CallFault.{CallFault}
use Rattle.calls.specs.declared.call.Reason.TheVariants.{Sheet}

-- the fault of a sheet for a call, in a part, by the fault of the store
abbrev pub sheet_fault : CallName → Part → StoreFault → SheetFault
sheet_fault call part fault = record { call = call; part = part; fault = fault }

-- the fault of a sheet before its call and part are named
abbrev pub unnamed : StoreFault → SheetFault
unnamed fault = sheet_fault Fetch First fault

-- the fault of a call by the fault of its sheet
abbrev pub call_fault : SheetFault → CallFault
call_fault f = record { call = f.call; reason = Sheet f }
