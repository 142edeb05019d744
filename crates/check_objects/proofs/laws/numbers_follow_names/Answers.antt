use Rattle.check_objects.proofs.NumberLaws.{every_host, every_service, apart_hosts_ascend, apart_services_ascend}
use Rattle.setup_reader.proofs.FaultlessLemmas.{once}
use Rattle.check_objects.proofs.laws.numbers_follow_names.Goals as goal

pub returns-clause-hosts : goal.returns-clause-hosts
returns-clause-hosts c = λ d. every_host d.hosts

pub returns-clause-names_ascend : goal.returns-clause-names_ascend
returns-clause-names_ascend c = λ d apart. apart_hosts_ascend d.hosts apart

pub returns-clause-services : goal.returns-clause-services
returns-clause-services c = λ d. every_service d.services

pub returns-clause-pairs_ascend : goal.returns-clause-pairs_ascend
returns-clause-pairs_ascend c = λ d apart. apart_services_ascend d.services apart

pub returns-clause-apart : goal.returns-clause-apart
returns-clause-apart c = once
