-- The members that each sort of object of a setup document can have.
use Rattle.std.specs.Prelude.{ℕ, true, false, List, [], ◌∷◌, Some, None, codes}
use Rattle.setup_model.specs.declared.member.DefaultValue.{DefaultValue}
use Rattle.setup_model.specs.declared.member.DefaultValue.TheVariants as default
use Rattle.setup_model.specs.declared.member.Kind.{Kind}
use Rattle.setup_model.specs.declared.member.Kind.TheVariants as kind
use Rattle.setup_model.specs.declared.place.Part.{Part}
use Rattle.setup_model.specs.declared.place.Part.TheVariants as part
use Rattle.setup_model.specs.Member.{Row}

-- a required member: an object without it is refused
abbrev pub required_member : List ℕ → Kind → Row
required_member name kind = record { name = name; kind = kind; default = None }

-- a member that has a default
abbrev pub optional_member : List ℕ → Kind → DefaultValue → Row
optional_member name kind default = record { name = name; kind = kind; default = Some default }

-- ---- the document

abbrev pub options : Row
options = optional_member (codes "options") (kind.Part part.Options) default.Empty

abbrev pub hosts : Row
hosts = optional_member (codes "hosts") (kind.Part part.Hosts) default.Empty

abbrev pub services : Row
services = optional_member (codes "services") (kind.Part part.Services) default.Empty

abbrev pub service_dependencies : Row
service_dependencies = optional_member (codes "service_dependencies") (kind.Part part.ServiceDependencies) default.Empty

abbrev pub host_dependencies : Row
host_dependencies = optional_member (codes "host_dependencies") (kind.Part part.HostDependencies) default.Empty

abbrev pub document_members : List Row
document_members = options ∷ hosts ∷ services ∷ service_dependencies ∷ host_dependencies ∷ []

-- ---- the options

-- a second to a day
abbrev pub interval_length : Row
interval_length = optional_member (codes "interval_length") (kind.Number 1 86400) (default.Number 60)

abbrev pub service_inter_check_delay_method : Row
service_inter_check_delay_method = optional_member (codes "service_inter_check_delay_method") kind.Delay default.Smart

-- a minute to a year
abbrev pub max_service_check_spread : Row
max_service_check_spread = optional_member (codes "max_service_check_spread") (kind.Number 1 525600) (default.Number 30)

abbrev pub service_interleave_factor : Row
service_interleave_factor = optional_member (codes "service_interleave_factor") kind.Factor default.Smart

abbrev pub host_inter_check_delay_method : Row
host_inter_check_delay_method = optional_member (codes "host_inter_check_delay_method") kind.Delay default.Smart

abbrev pub max_host_check_spread : Row
max_host_check_spread = optional_member (codes "max_host_check_spread") (kind.Number 1 525600) (default.Number 30)

abbrev pub max_concurrent_checks : Row
max_concurrent_checks = optional_member (codes "max_concurrent_checks") (kind.Number 0 1000000) (default.Number 0)

abbrev pub soft_state_dependencies : Row
soft_state_dependencies = optional_member (codes "soft_state_dependencies") kind.Switch (default.Switch false)

abbrev pub use_aggressive_host_checking : Row
use_aggressive_host_checking = optional_member (codes "use_aggressive_host_checking") kind.Switch (default.Switch false)

abbrev pub low_service_flap_threshold : Row
low_service_flap_threshold = optional_member (codes "low_service_flap_threshold") (kind.Number 0 100) (default.Number 20)

abbrev pub high_service_flap_threshold : Row
high_service_flap_threshold = optional_member (codes "high_service_flap_threshold") (kind.Number 0 100) (default.Number 30)

abbrev pub low_host_flap_threshold : Row
low_host_flap_threshold = optional_member (codes "low_host_flap_threshold") (kind.Number 0 100) (default.Number 20)

abbrev pub high_host_flap_threshold : Row
high_host_flap_threshold = optional_member (codes "high_host_flap_threshold") (kind.Number 0 100) (default.Number 30)

abbrev pub option_members : List Row
option_members =
    interval_length ∷ service_inter_check_delay_method ∷ max_service_check_spread ∷ service_interleave_factor
    ∷ host_inter_check_delay_method ∷ max_host_check_spread ∷ max_concurrent_checks ∷ soft_state_dependencies ∷ use_aggressive_host_checking
    ∷ low_service_flap_threshold ∷ high_service_flap_threshold ∷ low_host_flap_threshold ∷ high_host_flap_threshold ∷ []

-- ---- hosts and services

-- the name of a host
abbrev pub host_name : Row
host_name = required_member (codes "name") kind.Text

abbrev pub parents : Row
parents = optional_member (codes "parents") kind.Texts default.Empty

-- the host of a service
abbrev pub service_host : Row
service_host = required_member (codes "host") kind.Text

abbrev pub description : Row
description = required_member (codes "description") kind.Text

-- at most a year of minutes
abbrev pub check_interval : Row
check_interval = optional_member (codes "check_interval") (kind.Number 0 525600) (default.Number 5)

abbrev pub retry_interval : Row
retry_interval = optional_member (codes "retry_interval") (kind.Number 0 525600) (default.Number 1)

abbrev pub max_check_attempts : Row
max_check_attempts = required_member (codes "max_check_attempts") (kind.Number 1 255)

abbrev pub enabled : Row
enabled = optional_member (codes "enabled") kind.Switch (default.Switch true)

abbrev pub host_members : List Row
host_members = host_name ∷ parents ∷ check_interval ∷ retry_interval ∷ max_check_attempts ∷ enabled ∷ []

abbrev pub service_members : List Row
service_members = service_host ∷ description ∷ check_interval ∷ retry_interval ∷ max_check_attempts ∷ enabled ∷ []

-- ---- dependencies

abbrev pub dependent : Row
dependent = required_member (codes "dependent") kind.Text

abbrev pub master : Row
master = required_member (codes "master") kind.Text

abbrev pub criteria_name : List ℕ
criteria_name = codes "criteria"

-- the criteria of a dependency, of letters that a service or a host can have
abbrev pub criteria : Kind → Row
criteria letters = required_member criteria_name letters

abbrev pub inherits_parent : Row
inherits_parent = optional_member (codes "inherits_parent") kind.Switch (default.Switch false)

-- the members of a dependency whose criteria are of this kind
abbrev pub dependency_members : Kind → List Row
dependency_members letters = dependent ∷ master ∷ criteria letters ∷ inherits_parent ∷ []

-- ---- by place

-- the name of a part: that of its member of the document
abbrev pub part_name : Part → List ℕ
part_name part.Document = codes "document"
part_name part.Options = options.name
part_name part.Hosts = hosts.name
part_name part.Services = services.name
part_name part.ServiceDependencies = service_dependencies.name
part_name part.HostDependencies = host_dependencies.name

-- the members of an item of this part's list
abbrev pub item_members : Part → List Row
item_members part.Document = []
item_members part.Options = []
item_members part.Hosts = host_members
item_members part.Services = service_members
item_members part.ServiceDependencies = dependency_members kind.ServiceLetters
item_members part.HostDependencies = dependency_members kind.HostLetters
