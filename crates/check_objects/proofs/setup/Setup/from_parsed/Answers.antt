use Rattle.std.proofs.Common.{◌≡◌, ◌≤◌, ◌++◌, List, sym, ap, subst, ◌∙◌, length, map, refl, Ok, arith}
use Rattle.std.proofs.lemmas.List.{length-map}
use Rattle.setup_model.specs.declared.dependency.Dependency.{Dependency}
use Rattle.setup_model.specs.declared.parsed_setup.ParsedHost.{ParsedHost}
use Rattle.setup_model.specs.ParsedSetup.{ParsedSetup}
use Rattle.setup_model.specs.ParsedViews.{parsed_view, host}
use Rattle.setup_reader.specs.Verification.{verification}
use Rattle.setup_reader.proofs.FaultlessLemmas.{faultless, once}
use Rattle.check_objects.specs.Configuration.{Host, Service, IsSetup, objects_of, named_host, named_service}
use Rattle.check_objects.specs.Numbering.{configuration, configuration_of_objects, dependencies_by_number}
use Rattle.check_objects.proofs.EndLemmas.{host_ends, names_apart, service_ends}
use Rattle.check_objects.proofs.CycleLemmas.{acyclic_masters, acyclic_setup}
use Rattle.check_objects.proofs.SetupLemmas.{configuration_is_setup, few_numbered, parted_from}
use Rattle.check_objects.proofs.setup.Setup.from_parsed.Goals as goal

-- ---- what was numbered is what the definitions number

same_objects : (ds : ParsedSetup) (hosts : List Host) (services : List Service) → hosts ≡ (configuration_of_objects ds).hosts → services ≡ (configuration_of_objects ds).services
    → map named_host hosts ++ map named_service services ≡ objects_of (configuration_of_objects ds)
same_objects ds hosts services h s = λ i. map named_host (h i) ++ map named_service (s i)

same_lists : (ds : ParsedSetup) (hosts : List Host) (services : List Service) (lists : List (List Dependency)) → hosts ≡ (configuration_of_objects ds).hosts
    → services ≡ (configuration_of_objects ds).services → lists ≡ dependencies_by_number (map named_host hosts ++ map named_service services) ds
    → lists ≡ (configuration ds).dependencies
same_lists ds hosts services lists h s e = e ∙ ap (λ o. dependencies_by_number o ds) (same_objects ds hosts services h s)

few_parsed : (ds : ParsedSetup) (hosts : List ParsedHost) → ds.hosts ≡ map host hosts → verification ds ≡ Ok tt → length hosts ≤ 4096
few_parsed ds hosts same e = omega (arith, (faultless ds e).bounded, ap length same, length-map hosts host)

same_setup : (ds : ParsedSetup) (hosts : List Host) (services : List Service) (lists : List (List Dependency)) → hosts ≡ (configuration ds).hosts
    → services ≡ (configuration ds).services → lists ≡ (configuration ds).dependencies
    → configuration ds ≡ record { options = ds.options; hosts = hosts; services = services; dependencies = lists }
same_setup ds hosts services lists h s l =
    λ i. record { options = ds.options; hosts = sym h i; services = sym s i; dependencies = sym l i }

-- ---- the answers

pub number_objects-requires-clause-bounded : goal.number_objects-requires-clause-bounded
number_objects-requires-clause-bounded c = few_parsed (parsed_view c.args.parsed.now) c.args.parsed.now.hosts.items refl c.requires.faultless

pub number_objects-requires-clause-names : goal.number_objects-requires-clause-names
number_objects-requires-clause-names c = (once (parsed_view c.args.parsed.now) c.requires.faultless).0

pub number_objects-requires-clause-keys : goal.number_objects-requires-clause-keys
number_objects-requires-clause-keys c = (once (parsed_view c.args.parsed.now) c.requires.faultless).1

pub number_objects-requires-clause-without_semicolon : goal.number_objects-requires-clause-without_semicolon
number_objects-requires-clause-without_semicolon c =
    let ds = parsed_view c.args.parsed.now in
    parted_from ds (faultless ds c.requires.faultless)

pub list_dependencies-requires-clause-bounded : goal.list_dependencies-requires-clause-bounded
list_dependencies-requires-clause-bounded c =
    let ds = parsed_view c.args.parsed.now in
    let objects = same_objects ds _ _ c.in_ok-hosts.ensures.hosts c.in_ok-hosts.ensures.services in
    subst (λ o. length o ≤ 4096) (sym objects) (few_numbered ds c.requires.faultless)

pub list_dependencies-requires-clause-apart : goal.list_dependencies-requires-clause-apart
list_dependencies-requires-clause-apart c =
    names_apart (parsed_view c.args.parsed.now) c.requires.faultless _ _ c.in_ok-hosts.ensures.hosts c.in_ok-hosts.ensures.services

pub list_dependencies-requires-clause-of_services : goal.list_dependencies-requires-clause-of_services
list_dependencies-requires-clause-of_services c =
    service_ends (parsed_view c.args.parsed.now) c.requires.faultless _ _ c.in_ok-hosts.ensures.hosts c.in_ok-hosts.ensures.services

pub list_dependencies-requires-clause-of_hosts : goal.list_dependencies-requires-clause-of_hosts
list_dependencies-requires-clause-of_hosts c =
    host_ends (parsed_view c.args.parsed.now) c.requires.faultless _ c.in_ok-hosts.ensures.hosts

pub order_without_cycles-requires-clause-dependencies : goal.order_without_cycles-requires-clause-dependencies
order_without_cycles-requires-clause-dependencies c =
    ap (map (λ list. list.items)) c.deref.ensures.value
    ∙ same_lists (parsed_view c.args.parsed.now) _ _ _ c.in_ok-hosts.ensures.hosts c.in_ok-hosts.ensures.services c.in_ok-dependencies.ensures

pub invariant_of-result : goal.invariant_of-result
invariant_of-result c =
    let ds = parsed_view c.args.parsed.now in
    let hosts = c.in_ok-hosts.ensures.hosts in
    let services = c.in_ok-hosts.ensures.services in
    let lists = same_lists ds _ _ _ hosts services c.in_ok-dependencies.ensures in
    let free = acyclic_masters ds _ _ (ap (map (λ list. list.items)) c.deref.ensures.value ∙ lists) c.in_ok-order.ensures.order in
    record {
      setup =
          subst IsSetup (same_setup ds _ _ _ hosts services lists)
          (configuration_is_setup ds c.requires.faultless free c.in_ok-order.ensures.acyclic);
      order = rw (← c.deref.ensures.value) c.in_ok-order.ensures.order;
    }

pub returns-clause-setup : goal.returns-clause-setup
returns-clause-setup c =
    let ds = parsed_view c.args.parsed.now in
    let hosts = c.in_ok-hosts.ensures.hosts in
    let services = c.in_ok-hosts.ensures.services in
    let lists = same_lists ds _ _ _ hosts services c.in_ok-dependencies.ensures in
    let free = acyclic_masters ds _ _ (ap (map (λ list. list.items)) c.deref.ensures.value ∙ lists) c.in_ok-order.ensures.order in
    acyclic_setup (configuration ds) free c.in_ok-order.ensures.acyclic ∙ ap Ok (same_setup ds _ _ _ hosts services lists)
