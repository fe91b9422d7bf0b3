use Rattle.row_text.proofs.fault.InputFaultDisplay.fmt.Goals as goal

pub returns-in-NoSymbol-clause-writes : goal.returns-in-NoSymbol-clause-writes
returns-in-NoSymbol-clause-writes g c = rw c.in-NoSymbol.is c.write-in-NoSymbol.ensures.writes
