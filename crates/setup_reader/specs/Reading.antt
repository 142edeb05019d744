-- The parsed setup of a document, from its tree; or the document's first fault of shape, by the table of members.
use Rattle.std.specs.Prelude.{List, [], ◌∷◌, map, Option, Some, None, unwrap_or, Result, Ok, Err}
use Rattle.serde_json.specs.Data.{Data, Items, no_items, item}
use Rattle.serde_json.specs.Find.{get, as_array}
use Rattle.setup_model.specs.declared.parsed_setup.Object.{Object}
use Rattle.setup_model.specs.declared.options.Options.{Options}
use Rattle.setup_model.specs.declared.options.DelayMethod.{DelayMethod}
use Rattle.setup_model.specs.declared.options.DelayMethod.TheVariants as method
use Rattle.setup_model.specs.declared.options.InterleaveFactor.{InterleaveFactor}
use Rattle.setup_model.specs.declared.options.InterleaveFactor.TheVariants as factor
use Rattle.setup_model.specs.declared.place.Part.{Part}
use Rattle.setup_model.specs.declared.place.Part.TheVariants as part
use Rattle.setup_model.specs.Agreement.{◌>>=◌, each}
use Rattle.setup_model.specs.Fault as fault
use Rattle.setup_model.specs.Fault.{Fault}
use Rattle.setup_model.specs.Member.{Row}
use Rattle.setup_model.specs.Members as members
use Rattle.setup_model.specs.Members.{item_members}
use Rattle.setup_model.specs.ParsedSetup.{ParsedHost, ParsedService, ParsedDependency, ParsedSetup}
use Rattle.setup_model.specs.Place.{document_place, options_place, list_place, item_place}
use Rattle.setup_reader.specs.Criteria.{criteria_in}
use Rattle.setup_reader.specs.JsonTree.{member_value, number_at, switch_at, text_at, texts_at, ◌>=>◌}
use Rattle.setup_reader.specs.Shapes.{shape_test}
use Rattle.setup_reader.specs.Values.{delay_method, interleave_factor}

-- ---- lists

-- the values of an array
abbrev pub values_of : Items → List Data
values_of no_items = []
values_of (item d ds) = d ∷ values_of ds

-- each of these values of a part has the shape that the members give it; otherwise the fault of the first that hasn't
abbrev pub items_test : Part → List Row → List Data → Result (Unit {0}) Fault
items_test p ms ds = each (λ i d. shape_test (item_place p i) ms d) ds

-- the items of an array; another value is refused
abbrev pub array_items : Part → Option Items → Result (List Data) Fault
array_items p None = Err (fault.shape (list_place p) fault.no_array)
array_items p (Some items) = items_test p (item_members p) (values_of items) >>= λ _. Ok (values_of items)

-- the items of a part of the document; a part that is absent has none
abbrev pub part_items : Part → Option Data → Result (List Data) Fault
part_items p None = Ok []
part_items p (Some d) = array_items p (as_array d)

-- ---- hosts and services

-- how an object is checked
unfoldable pub check_of : Data → Object
check_of d = record {
  check_interval = number_at members.check_interval (Some d);
  retry_interval = number_at members.retry_interval (Some d);
  max_check_attempts = number_at members.max_check_attempts (Some d);
  enabled = switch_at members.enabled (Some d);
}

abbrev pub host_of : Data → ParsedHost
host_of d = record { name = text_at members.host_name.name d; parents = texts_at members.parents.name d; check = check_of d }

abbrev pub service_of : Data → ParsedService
service_of d = record { host = text_at members.service_host.name d; description = text_at members.description.name d; check = check_of d }

-- ---- dependencies

abbrev pub dependency_of : Data → ParsedDependency
dependency_of d = record {
  dependent = text_at members.dependent.name d;
  master = text_at members.master.name d;
  criteria = criteria_in (text_at members.criteria_name d);
  inherits = switch_at members.inherits_parent (Some d);
}

-- ---- options

-- the delay that a member of the options gives; smart without one
abbrev pub delay_at : Row → Option Data → DelayMethod
delay_at m value = unwrap_or (member_value m.name value >=> delay_method) method.Smart

-- the factor that a member of the options gives; smart without one
abbrev pub factor_at : Row → Option Data → InterleaveFactor
factor_at m value = unwrap_or (member_value m.name value >=> interleave_factor) factor.Smart

-- the options of the member `options`, which can be absent; an option that it doesn't name has its default
unfoldable pub options_of : Option Data → Options
options_of value = record {
  interval_length = number_at members.interval_length value;
  service_inter_check_delay_method = delay_at members.service_inter_check_delay_method value;
  max_service_check_spread = number_at members.max_service_check_spread value;
  service_interleave_factor = factor_at members.service_interleave_factor value;
  host_inter_check_delay_method = delay_at members.host_inter_check_delay_method value;
  max_host_check_spread = number_at members.max_host_check_spread value;
  max_concurrent_checks = number_at members.max_concurrent_checks value;
  soft_state_dependencies = switch_at members.soft_state_dependencies value;
  use_aggressive_host_checking = switch_at members.use_aggressive_host_checking value;
  low_service_flap_threshold = number_at members.low_service_flap_threshold value;
  high_service_flap_threshold = number_at members.high_service_flap_threshold value;
  low_host_flap_threshold = number_at members.low_host_flap_threshold value;
  high_host_flap_threshold = number_at members.high_host_flap_threshold value;
}

-- options that are absent have the right shape
abbrev pub options_test : Option Data → Result (Unit {0}) Fault
options_test None = Ok tt
options_test (Some d) = shape_test options_place members.option_members d

-- ---- the document

-- The document itself is tested first, then its options, hosts, services, and the dependencies between services and
-- between hosts.
unfoldable pub parsed_setup : Data → Result ParsedSetup Fault
parsed_setup d =
    shape_test document_place members.document_members d >>= λ _.
    (options_test (get members.options.name d) >>= λ _.
    (part_items part.Hosts (get members.hosts.name d) >>= λ hosts.
    (part_items part.Services (get members.services.name d) >>= λ services.
    (part_items part.ServiceDependencies (get members.service_dependencies.name d) >>= λ service_dependencies.
    (part_items part.HostDependencies (get members.host_dependencies.name d) >>= λ host_dependencies.
    Ok (record {
      options = options_of (get members.options.name d);
      hosts = map host_of hosts;
      services = map service_of services;
      service_dependencies = map dependency_of service_dependencies;
      host_dependencies = map dependency_of host_dependencies;
    }))))))
