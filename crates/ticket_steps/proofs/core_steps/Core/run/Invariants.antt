use Rattle.std.proofs.Common.{take}
use Rattle.ticket_steps.specs.Cores.{core_state_of, core_draws, HasSameOpening}
use Rattle.ticket_steps.specs.Faults.{LeadsBy}
use Rattle.ticket_steps.proofs.core_steps.Core.run.Given as goal

abbrev pub invariant-loop-place : goal.invariant-loop-place
invariant-loop-place g l =
    LeadsBy g.K.Kept (core_draws l.initial.self) (core_state_of l.initial.self) (take l.place l.events) (core_state_of l.self) × HasSameOpening l.initial.self l.self
