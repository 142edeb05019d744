-- The setup of the code, as contracts see it.
use Rattle.std.specs.Prelude.{map}
use Rattle.check_objects.specs.Configuration.{Configuration, IsSetup, masters_of}
use Rattle.setup_order.specs.Orders.{IsOrder}
use Rattle.check_objects.specs.Entries.{host_entry, service_entry}
use Rattle.check_objects.specs.declared.setup.Setup.TheInside.{Inside}

abbrev pub configuration_of : Inside → Configuration
configuration_of s =
    record {
      options = s.options;
      hosts = map host_entry s.hosts.entries;
      services = map service_entry s.services.entries;
      dependencies = map
          (λ list. list.items) s.dependencies.items;
    }

-- a setup, and an order that agrees with its dependencies
pub record IsWellFormed (s : Inside) : Type 0 where
  pub setup : IsSetup (configuration_of s)
  pub order : IsOrder (masters_of (configuration_of s)) s.order.items
