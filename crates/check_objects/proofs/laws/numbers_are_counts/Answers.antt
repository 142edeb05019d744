use Rattle.check_objects.proofs.CountLaws.{host_counted, service_counted}
use Rattle.check_objects.proofs.laws.numbers_are_counts.Goals as goal

pub returns-clause-hosts : goal.returns-clause-hosts
returns-clause-hosts c = host_counted

pub returns-clause-services : goal.returns-clause-services
returns-clause-services c = service_counted
