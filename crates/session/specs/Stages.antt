-- Which requests a session admits: 43 declines a make after an accepted make, 44 another call before one. Assumes nothing.
use Rattle.std.specs.Prelude.{Bool, true, false, Ok, Err, Result}
use Rattle.answers.specs.declared.decline.Decline.{Decline}
use Rattle.answers.specs.declared.decline.Decline.TheVariants.{AlreadyMade, NotMade}
use Rattle.requests.specs.declared.request.Request.{Request}
use Rattle.requests.specs.declared.request.Request.TheVariants.{Make, Set, Put, Fetch, Lose, Refresh, Mend}
use Rattle.session.specs.declared.stage.Stage.{Stage}
use Rattle.session.specs.declared.stage.Stage.TheVariants.{New, Made}

abbrev pub makes : Request → Bool
makes (Make field store k a tau b) = true
makes (Set symbols) = false
makes (Put row node symbol) = false
makes (Fetch row node) = false
makes (Lose node) = false
makes (Refresh node) = false
makes (Mend node) = false

abbrev admitted_by : Stage → Bool → Result (Unit {0}) Decline
admitted_by New true = Ok tt
admitted_by New false = Err NotMade
admitted_by Made true = Err AlreadyMade
admitted_by Made false = Ok tt

abbrev pub admitted : Stage → Request → Result (Unit {0}) Decline
admitted stage request = admitted_by stage (makes request)
