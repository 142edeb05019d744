use Rattle.nagsched_protocol.proofs.LiveLaws.{given_start, start_replaced}
use Rattle.nagsched_protocol.proofs.laws.given_start_replaces_the_saved_one.Goals as goal

pub returns-clause-given : goal.returns-clause-given
returns-clause-given c = given_start

pub returns-clause-saved : goal.returns-clause-saved
returns-clause-saved c = start_replaced
