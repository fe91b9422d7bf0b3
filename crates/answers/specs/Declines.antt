-- The numbers of declines, and the places that they name. Assumes nothing.
use Rattle.std.specs.Prelude.{ℕ, Some, None, Option}
use Rattle.lines.specs.declared.line.LineFault as fault
use Rattle.lines.specs.declared.line.LineFault.{LineFault}
use Rattle.sheet.specs.declared.place.Place.{Place}
use Rattle.answers.specs.declared.decline.Decline.{Decline}
use Rattle.answers.specs.declared.decline.Decline.TheVariants.{StoreBounds, DataNodes, ClassANodes, Piggybacks, ClassBNodes, SmallField, SmallStore, OutOfRange, WrongLength, ShortMemory, TooLong, UnknownCall, WordCount, Malformed, NotSymbol, NotLost, Blank, Worn, AlreadyMade, NotMade}

abbrev pub number_of : Decline → ℕ
number_of StoreBounds = 10
number_of DataNodes = 11
number_of ClassANodes = 12
number_of Piggybacks = 13
number_of ClassBNodes = 14
number_of SmallField = 15
number_of SmallStore = 16
number_of OutOfRange = 17
number_of WrongLength = 18
number_of ShortMemory = 19
number_of TooLong = 20
number_of UnknownCall = 21
number_of WordCount = 22
number_of Malformed = 23
number_of NotSymbol = 24
number_of NotLost = 40
number_of (Blank p) = 41
number_of (Worn p) = 42
number_of AlreadyMade = 43
number_of NotMade = 44

-- only 41 and 42 name a place
abbrev pub place_of : Decline → Option Place
place_of StoreBounds = None
place_of DataNodes = None
place_of ClassANodes = None
place_of Piggybacks = None
place_of ClassBNodes = None
place_of SmallField = None
place_of SmallStore = None
place_of OutOfRange = None
place_of WrongLength = None
place_of ShortMemory = None
place_of TooLong = None
place_of UnknownCall = None
place_of WordCount = None
place_of Malformed = None
place_of NotSymbol = None
place_of NotLost = None
place_of (Blank p) = Some p
place_of (Worn p) = Some p
place_of AlreadyMade = None
place_of NotMade = None

-- the decline of a line that breaks a rule
abbrev pub line_decline : LineFault → Decline
line_decline fault.TheVariants.TooLong = TooLong
line_decline fault.TheVariants.UnknownCall = UnknownCall
line_decline fault.TheVariants.WordCount = WordCount
line_decline fault.TheVariants.Malformed = Malformed
