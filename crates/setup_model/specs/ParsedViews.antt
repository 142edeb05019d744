-- The parsed setup of the code, as the definitions see them.
use Rattle.std.specs.Prelude.{ℕ, List, map}
use Rattle.std.specs.Borrow.{Bor}
use Rattle.setup_model.specs.declared.parsed_setup.ParsedHost.{ParsedHost}
use Rattle.setup_model.specs.declared.parsed_setup.ParsedService.{ParsedService}
use Rattle.setup_model.specs.declared.parsed_setup.ParsedDependency.{ParsedDependency}
use Rattle.setup_model.specs.declared.parsed_setup.ParsedSetup.{ParsedSetup}
use Rattle.setup_model.specs.Text.{text}
use Rattle.setup_model.specs.ParsedSetup as spec

abbrev pub host : ParsedHost → spec.ParsedHost
host h = record { name = h.name.now; parents = map text h.parents.now; check = h.check }

abbrev pub service : ParsedService → spec.ParsedService
service s = record { host = s.host.now; description = s.description.now; check = s.check }

abbrev pub dependency : ParsedDependency → spec.ParsedDependency
dependency d = record { dependent = d.dependent.now; master = d.master.now; criteria = d.criteria; inherits = d.inherits }

abbrev pub parsed_view : ParsedSetup → spec.ParsedSetup
parsed_view d = record {
  options = d.options;
  hosts = map host d.hosts.items;
  services = map service d.services.items;
  service_dependencies = map dependency d.service_dependencies.items;
  host_dependencies = map dependency d.host_dependencies.items;
}

-- the texts that references point to
abbrev pub texts : List (Bor (List ℕ)) → List (List ℕ)
texts names = map (λ name. name.now) names
