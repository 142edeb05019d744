use Rattle.setup_diagnostics.proofs.FeedLemmas.{pushed_to}
use Rattle.setup_diagnostics.proofs.line.Line.push_char.Goals as goal

pub invariant_of-self : goal.invariant_of-self
invariant_of-self c = pushed_to _ _ _ _ c.push.ensures.bytes c.self.invariant c.requires
