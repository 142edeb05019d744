-- What slices of parsed items give past their ends.
use Rattle.std.proofs.Common.{[], false}
use Rattle.setup_model.specs.declared.parsed_setup.Object.{Object}
use Rattle.setup_model.specs.declared.parsed_setup.ParsedDependency.{ParsedDependency}
use Rattle.setup_model.specs.declared.parsed_setup.ParsedHost.{ParsedHost}
use Rattle.setup_model.specs.declared.parsed_setup.ParsedService.{ParsedService}

abbrev pub no_check : Object
no_check = record { check_interval = 0; retry_interval = 0; max_check_attempts = 0; enabled = false }

abbrev pub no_host : ParsedHost
no_host = record { name = record { ref_ptr = (0, 0); now = [] }; parents = record { ref_ptr = (0, 0); now = [] }; check = no_check }

abbrev pub no_service : ParsedService
no_service = record { host = record { ref_ptr = (0, 0); now = [] }; description = record { ref_ptr = (0, 0); now = [] }; check = no_check }

abbrev pub no_dependency : ParsedDependency
no_dependency = record {
  dependent = record { ref_ptr = (0, 0); now = [] };
  master = record { ref_ptr = (0, 0); now = [] };
  criteria = record { ok = false; warning = false; unknown = false; critical = false; down = false; pending = false; none = false };
  inherits = false;
}
