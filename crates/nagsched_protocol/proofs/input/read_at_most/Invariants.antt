use Rattle.std.proofs.Common.{◌≡◌, length, ◌≤◌, ◌-◌, vec_len}
use Rattle.std.specs.Io.KnownBytes.{Consumes}
use Rattle.nagsched_protocol.specs.declared.input.TheConstants.{CHUNK}
use Rattle.nagsched_protocol.proofs.input.read_at_most.Given as goal

abbrev pub invariant-loop-chunk : goal.invariant-loop-chunk
invariant-loop-chunk g l =
    Consumes (g.R.Read.remaining l.initial.reader) (g.R.Read.remaining l.reader) l.input.items
    × (vec_len l.input ≤ l.most) × (length l.chunk ≡ CHUNK)

abbrev pub decreases-loop-chunk : goal.decreases-loop-chunk
decreases-loop-chunk g l = l.most - vec_len l.input
