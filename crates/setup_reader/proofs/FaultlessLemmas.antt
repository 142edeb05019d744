-- What the tests say of a parsed setup that passed them: few objects, names, links to what is there, no key twice.
use Rattle.std.proofs.Common.{◌≡◌, ℕ, ◌+◌, ◌<◌, ◌≤◌, Bool, true, false, cond, List, map, length, Option, Some}
use Rattle.std.proofs.Common.{None, bytes_eq, refl, sym, ap, ◌∙◌, Result, Ok, Err, option_map, arith}
use Rattle.std.specs.Prelude.{is_none, nat_lt}
use Rattle.std.specs.List.{list_all}
use Rattle.std.proofs.lemmas.Bool.Decides.{nat_tests}
use Rattle.setup_model.specs.declared.fault.Count.{Count}
use Rattle.setup_model.specs.declared.fault.Count.TheVariants as count
use Rattle.setup_model.specs.declared.fault.NameFault.{NameFault}
use Rattle.setup_model.specs.declared.place.Part.TheVariants as part
use Rattle.setup_model.specs.ParsedSetup.{ParsedSetup}
use Rattle.setup_model.specs.Agreement.{◌>>=◌, each, ok_unless}
use Rattle.setup_model.specs.Fault as fault
use Rattle.setup_model.specs.Fault.{Fault}
use Rattle.setup_model.specs.Name.{is_name, name_fault}
use Rattle.setup_model.specs.Place.{host_place, service_place}
use Rattle.setup_model.specs.Ends.{full_names, is_known, dependencies_test, dependency_list_test}
use Rattle.setup_model.specs.Keys.{names_of, key_of, is_same_key, first_equal_index, first_repeat}
use Rattle.setup_model.proofs.NameLemmas.{is_name_without_fault}
use Rattle.setup_model.proofs.RefusalLemmas.{all_by_position, all_of_each, ends_known, first_ok, have_known_ends, nowhere, rest_ok, still_ok}
use Rattle.setup_reader.specs.Verification.{count_test, item_counts_test, description_test, host_name_test, host_range_test, setup_names_test, options_test}
use Rattle.setup_reader.specs.Verification.{setup_ranges_test}
use Rattle.setup_reader.specs.Verification.{service_range_test, distinct_host_names, u64_or_max, verification, service_host_test, service_hosts_test}
use Rattle.setup_reader.specs.Verification.{links_test, parents_test, host_parents_test}
use Rattle.setup_reader.specs.Verification.{distinct_hosts_test, distinct_services_test, option_ranges_test, parent_count}
use Rattle.setup_reader.proofs.VerificationLemmas.{few_in_word}

-- ---- one test

at_most_by : (b : Bool) (what : Count) (most n : ℕ) → nat_lt most n ≡ b → count_test what most n ≡ Ok tt → n ≤ most
at_most_by true what most n e passed =
    let refused : count_test what most n ≡ Err (fault.too_many what n) = ap (λ b. cond b (Err (fault.too_many what n)) (Ok tt)) e in cc
at_most_by false what most n e passed = grind (arith, nat_tests, e)

-- there are few of these
bounded : (what : Count) (most n : ℕ) → most < 18446744073709551615 → count_test what most (u64_or_max n) ≡ Ok tt → n ≤ most
bounded what most n small passed = few_in_word n most small (at_most_by (nat_lt most (u64_or_max n)) what most (u64_or_max n) refl passed)

no_fault : (see : NameFault → Fault) (o : Option NameFault) → ok_unless (option_map see o) ≡ Ok tt → is_none o ≡ true
no_fault see None e = refl
no_fault see (Some w) e = cc

-- a text with no fault as a name is one
named_by : (see : NameFault → Fault) (name : List ℕ) → ok_unless (option_map see (name_fault name)) ≡ Ok tt → is_name name ≡ true
named_by see name e = sym (is_name_without_fault name) ∙ no_fault see (name_fault name) e

known_by : (b : Bool) (w : Fault) (r : Result (Unit {0}) Fault) → r ≡ cond b (Ok tt) (Err w) → r ≡ Ok tt → b ≡ true
known_by true w r is e = refl
known_by false w r is e = let refused : Err w ≡ Ok tt = sym is ∙ e in cc

-- ---- a document without a fault

-- what the tests say of a document that passed them
pub record IsFaultless (ds : ParsedSetup) : Type 0 where
  pub bounded : length ds.hosts + length ds.services ≤ 4096
  pub parents_bounded : parent_count ds.hosts ≤ 16384
  pub dependencies_bounded : length ds.service_dependencies + length ds.host_dependencies ≤ 16384
  pub described : list_all (λ s. is_name s.description) ds.services ≡ true
  pub named : list_all (λ h. is_name h.name) ds.hosts ≡ true
  pub names_once : first_repeat bytes_eq (names_of ds.hosts) ≡ None
  pub keys_once : first_repeat is_same_key (map key_of ds.services) ≡ None
  pub parented : list_all (λ h. list_all (is_known (names_of ds.hosts)) h.parents) ds.hosts ≡ true
  pub known : list_all (λ s. is_known (names_of ds.hosts) s.host) ds.services ≡ true
  pub service_ends : have_known_ends (full_names ds.services) ds.service_dependencies ≡ true
  pub host_ends : have_known_ends (names_of ds.hosts) ds.host_dependencies ≡ true
  pub options : option_ranges_test ds.options ≡ Ok tt
  pub host_numbers : each host_range_test ds.hosts ≡ Ok tt
  pub service_numbers : each service_range_test ds.services ≡ Ok tt

-- the names were let through, and what follows them passed
after_names : {A B : Type 0} (r : Result (Unit {0}) Fault) (x : A) (f : A → Result B Fault) (y : B) → ((r >>= λ _. Ok x) >>= f) ≡ Ok y → (r ≡ Ok tt) × (f x ≡ Ok y)
after_names (Ok u) x f y e = (refl, e)
after_names (Err z) x f y e = cc

pub faultless : (ds : ParsedSetup) → verification ds ≡ Ok tt → IsFaultless ds
unfolding verification
faultless ds e =
    let names = names_of ds.hosts in
    let ranges = setup_ranges_test ds.options ds.hosts ds.services in
    let links = λ (ns : List (List ℕ)). links_test ns ds >>= λ _. ranges in
    let keys = λ (ns : List (List ℕ)). distinct_services_test ds.services >>= λ _. links ns in
    let all_names = λ (u : Unit {0}). setup_names_test ds.hosts ds.services >>= λ _. (distinct_host_names ds.hosts >>= keys) in
    let counted = first_ok (item_counts_test ds) all_names tt e in
    let objects = count_test count.Objects 4096 (u64_or_max (length ds.hosts + length ds.services)) in
    let parents = count_test count.Parents 16384 (u64_or_max (parent_count ds.hosts)) in
    let dependencies = count_test count.Dependencies 16384 (u64_or_max (length ds.service_dependencies + length ds.host_dependencies)) in
    let then_counted = rest_ok objects (λ _. parents >>= λ _. dependencies) tt counted in
    let after_counts = rest_ok (item_counts_test ds) all_names tt e in
    let good = first_ok (setup_names_test ds.hosts ds.services) (λ _. distinct_host_names ds.hosts >>= keys) tt after_counts in
    let hosts = after_names (distinct_hosts_test ds.hosts) names keys tt (rest_ok (setup_names_test ds.hosts ds.services) (λ _. distinct_host_names ds.hosts >>= keys) tt after_counts) in
    let services = first_ok (distinct_services_test ds.services) (λ _. links names) tt hosts.1 in
    let after_keys = rest_ok (distinct_services_test ds.services) (λ _. links names) tt hosts.1 in
    let linked = first_ok (links_test names ds) (λ _. ranges) tt after_keys in
    let ranged = rest_ok (links_test names ds) (λ _. ranges) tt after_keys in
    let both = dependencies_test (full_names ds.services) names ds in
    let parented = first_ok (parents_test names ds.hosts) (λ _. service_hosts_test names ds.services >>= λ _. both) tt linked in
    let after_parents = rest_ok (parents_test names ds.hosts) (λ _. service_hosts_test names ds.services >>= λ _. both) tt linked in
    let hosted = first_ok (service_hosts_test names ds.services) (λ _. both) tt after_parents in
    let ended = rest_ok (service_hosts_test names ds.services) (λ _. both) tt after_parents in
    let of_services = dependency_list_test part.ServiceDependencies (full_names ds.services) names ds.service_dependencies in
    let of_hosts = dependency_list_test part.HostDependencies names (full_names ds.services) ds.host_dependencies in
    let after_options = rest_ok (options_test ds.options) (λ _. each host_range_test ds.hosts >>= λ _. each service_range_test ds.services) tt ranged in
    record {
      bounded = bounded count.Objects 4096 (length ds.hosts + length ds.services) (omega arith) (first_ok objects (λ _. parents >>= λ _. dependencies) tt counted);
      parents_bounded = bounded count.Parents 16384 (parent_count ds.hosts) (omega arith) (first_ok parents (λ _. dependencies) tt then_counted);
      dependencies_bounded =
          bounded count.Dependencies 16384 (length ds.service_dependencies + length ds.host_dependencies) (omega arith)
          (rest_ok parents (λ _. dependencies) tt then_counted);
      described =
          all_of_each description_test (λ s. is_name s.description) (λ i s passed. named_by (fault.bad_name (service_place i)) s.description passed) 0 ds.services
          (rest_ok (each host_name_test ds.hosts) (λ _. each description_test ds.services) tt good);
      named =
          all_of_each host_name_test (λ h. is_name h.name) (λ i h passed. named_by (fault.bad_name (host_place i)) h.name passed) 0 ds.hosts
          (first_ok (each host_name_test ds.hosts) (λ _. each description_test ds.services) tt good);
      names_once = nowhere (λ i. fault.duplicate (host_place i) (first_equal_index bytes_eq names i)) (first_repeat bytes_eq names) hosts.0;
      keys_once =
          nowhere (λ i. fault.duplicate (service_place i) (first_equal_index is_same_key (map key_of ds.services) i)) (first_repeat is_same_key (map key_of ds.services)) services;
      parented =
          all_of_each (host_parents_test names) (λ h. list_all (is_known names) h.parents)
          (λ i h passed. all_by_position (is_known names) h.parents (nowhere (fault.unknown_parent i) _ passed)) 0 ds.hosts parented;
      known =
          all_of_each (service_host_test names) (λ s. is_known names s.host) (λ i s passed. known_by (is_known names s.host) (fault.unknown_host i) (service_host_test names i s) refl passed) 0
          ds.services hosted;
      service_ends = ends_known part.ServiceDependencies (full_names ds.services) names ds.service_dependencies (first_ok of_services (λ _. of_hosts) tt ended);
      host_ends = ends_known part.HostDependencies names (full_names ds.services) ds.host_dependencies (rest_ok of_services (λ _. of_hosts) tt ended);
      options =
          still_ok _ (option_ranges_test ds.options)
          (first_ok (options_test ds.options) (λ _. each host_range_test ds.hosts >>= λ _. each service_range_test ds.services) tt ranged);
      host_numbers = first_ok (each host_range_test ds.hosts) (λ _. each service_range_test ds.services) tt after_options;
      service_numbers = rest_ok (each host_range_test ds.hosts) (λ _. each service_range_test ds.services) tt after_options;
    }

-- no key occurs twice
pub once : (d : ParsedSetup) → verification d ≡ Ok tt → (first_repeat bytes_eq (names_of d.hosts) ≡ None) × (first_repeat is_same_key (map key_of d.services) ≡ None)
once d e = let f = faultless d e in (f.names_once, f.keys_once)
