use Rattle.std.proofs.Common.{◌≡◌, None, length, option_map}
use Rattle.json.specs.Reads.{token_of}
use Rattle.nagsched_protocol.specs.Explanation.{last_good, stops}
use Rattle.nagsched_protocol.proofs.explanation.last_good.Given as goal

abbrev pub invariant-loop-token : goal.invariant-loop-token
invariant-loop-token l =
    (last_good None l.initial.reader ≡ last_good (option_map token_of l.last) l.reader) × (stops l.initial.reader ≡ stops l.reader)

abbrev pub decreases-loop-token : goal.decreases-loop-token
decreases-loop-token l = length l.reader
