use Rattle.nagsched_protocol.proofs.LiveLaws.{passes}
use Rattle.nagsched_protocol.proofs.laws.live_skips_refused_lines.Goals as goal

pub returns : goal.returns
returns c = passes
