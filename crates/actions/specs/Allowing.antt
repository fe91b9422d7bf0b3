-- What a check answers, by the reason for which it declines. Assumes nothing.
use Rattle.std.specs.Prelude.{Some, None, Ok, Err, Option, Result}
use Rattle.calls.specs.declared.call.Reason.{Reason}

unfoldable pub allowed : Option Reason → Result (Unit {0}) Reason
allowed None = Ok tt
allowed (Some reason) = Err reason
