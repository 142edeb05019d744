use Rattle.setup_diagnostics.proofs.KindLemmas.{member_read, required_is_there}
use Rattle.setup_diagnostics.proofs.laws.members_are_read_by_their_kinds.Goals as goal

pub returns-clause-required : goal.returns-clause-required
returns-clause-required c = required_is_there

pub returns-clause-read : goal.returns-clause-read
returns-clause-read c = member_read
