-- The moments at which a scheduler can start.
use Rattle.std.specs.Prelude.{◌≤◌, IfSome}
use Rattle.check_states.specs.declared.times.TheConstants.{LAST_MOMENT}
use Rattle.nagsched_protocol.specs.declared.start.Start.{Start}
use Rattle.nagsched_protocol.specs.declared.start.Start.TheVariants as start

-- the moment that is given, if there is one, is at most the last at which a scheduler can start
abbrev pub CanStart : Start → Type 0
CanStart (start.Fresh moment) = moment ≤ LAST_MOMENT
CanStart (start.Resumed moment) = IfSome moment (λ m. m ≤ LAST_MOMENT)
