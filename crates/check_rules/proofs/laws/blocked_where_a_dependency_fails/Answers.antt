use Rattle.check_rules.proofs.BlockedLaws.{alone, blocked_where}
use Rattle.check_rules.proofs.laws.blocked_where_a_dependency_fails.Goals as goal

pub returns-clause-blocked : goal.returns-clause-blocked
returns-clause-blocked c = λ setup standings acyclic one_list_each object. blocked_where setup standings acyclic one_list_each object

pub returns-clause-alone : goal.returns-clause-alone
returns-clause-alone c = λ setup standings answer acyclic one_list_each is object. alone setup standings answer acyclic one_list_each is object
