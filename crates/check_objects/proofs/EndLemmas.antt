-- The names of the code's maps are those of the document, so that the ends of dependencies may be looked up among them.
use Rattle.std.proofs.Common.{◌≡◌, ℕ, Bool, true, false, List, map, String, Global, bytes_eq, string_bytes, sym, ap, ◌∙◌, ◌&&◌, Ok}
use Rattle.std.specs.List.{list_any, list_all}
use Rattle.std.proofs.lemmas.Slice.Eq.{bytes_eq-Decides}
use Rattle.setup_model.specs.ParsedSetup.{ParsedDependency, ParsedSetup, ParsedService}
use Rattle.setup_model.specs.Ends.{is_known, full_names}
use Rattle.setup_model.specs.Keys.{names_of, key_of}
use Rattle.setup_model.specs.Name.{full_name}
use Rattle.setup_model.proofs.ListLemmas.{list_any-map}
use Rattle.setup_reader.specs.Verification.{verification}
use Rattle.setup_reader.proofs.FaultlessLemmas.{faultless}
use Rattle.setup_model.proofs.RefusalLemmas.{have_known_ends}
use Rattle.check_objects.specs.declared.object_index.Host.{Host}
use Rattle.check_objects.specs.declared.object_index.Service.{Service}
use Rattle.check_objects.specs.Configuration as spec
use Rattle.check_objects.specs.Entries.{host_entry, service_entry, names_in}
use Rattle.check_objects.specs.Numbering.{configuration, numbered_host, hosts_in_order, names_in_order}
use Rattle.check_objects.proofs.NameLemmas.{found, no_host_has}
use Rattle.check_objects.proofs.NumberedLemmas.{known_in_order, full_name_in_order}
use Rattle.check_objects.proofs.SetupLemmas.{parted_hosts}

-- ---- one name

host_entry_known : (entries : List (String Global × Host)) (hosts : List spec.Host) → map host_entry entries ≡ hosts → (name : List ℕ)
    → is_known (names_in entries) name ≡ list_any (λ h. bytes_eq name h.name) hosts
host_entry_known entries hosts are name =
    list_any-map (bytes_eq name) (λ e. string_bytes e.0) entries ∙ sym (list_any-map (λ h. bytes_eq name h.name) host_entry entries)
    ∙ ap (list_any (λ h. bytes_eq name h.name)) are

service_entry_known : (entries : List (String Global × Service)) (services : List spec.Service) → map service_entry entries ≡ services → (name : List ℕ)
    → is_known (names_in entries) name ≡ list_any (λ s. bytes_eq name s.name) services
service_entry_known entries services are name =
    list_any-map (bytes_eq name) (λ e. string_bytes e.0) entries ∙ sym (list_any-map (λ s. bytes_eq name s.name) service_entry entries)
    ∙ ap (list_any (λ s. bytes_eq name s.name)) are

known_ends_alike : (names others : List (List ℕ)) → ((name : List ℕ) → is_known names name ≡ is_known others name) → (ds : List ParsedDependency)
    → have_known_ends others ds ≡ have_known_ends names ds
known_ends_alike names others same ds =
    let alike : is_known others ≡ is_known names = λ i name. sym (same name) i in
    ap (λ (known : List ℕ → Bool). list_all (λ d. known d.dependent && known d.master) ds) alike

module _ (ds : ParsedSetup) (e : verification ds ≡ Ok tt) (hosts : List (String Global × Host)) (hosts_are : map host_entry hosts ≡ (configuration ds).hosts) where
  -- a name is in the map of hosts where it is a host's of the document
  pub host_known : (name : List ℕ) → is_known (names_in hosts) name ≡ is_known (names_of ds.hosts) name
  host_known name =
      let hs = hosts_in_order ds.hosts in
      host_entry_known hosts (configuration ds).hosts hosts_are name
      ∙ list_any-map (λ h. bytes_eq name h.name) (numbered_host (names_in_order ds.hosts)) hs ∙ sym (list_any-map (bytes_eq name) (λ h. h.name) hs)
      ∙ sym (known_in_order ds.hosts name)

  pub host_ends : have_known_ends (names_in hosts) ds.host_dependencies ≡ true
  host_ends = known_ends_alike (names_of ds.hosts) (names_in hosts) (λ name. sym (host_known name)) ds.host_dependencies ∙ (faultless ds e).host_ends

module _ (ds : ParsedSetup) (e : verification ds ≡ Ok tt) (hosts : List (String Global × Host)) (services : List (String Global × Service))
    (hosts_are : map host_entry hosts ≡ (configuration ds).hosts) (services_are : map service_entry services ≡ (configuration ds).services) where
  -- a name is in the map of services where it is a full name of the document
  pub service_known : (name : List ℕ) → is_known (names_in services) name ≡ is_known (full_names ds.services) name
  service_known name =
      service_entry_known services (configuration ds).services services_are name
      ∙ full_name_in_order ds.services (names_in_order ds.hosts) name

  -- no name is in both maps
  pub names_apart : (name : List ℕ) → is_known (names_in services) name ≡ true → is_known (names_in hosts) name ≡ false
  names_apart name known =
      let of = found (λ (s : ParsedService). bytes_eq name (full_name (key_of s))) ds.services
      (sym (list_any-map (bytes_eq name) (λ s. full_name (key_of s)) ds.services) ∙ sym (service_known name) ∙ known) in
      host_entry_known hosts (configuration ds).hosts hosts_are name
      ∙ no_host_has (λ h. h.name) name (key_of of.item) (configuration ds).hosts
      ((bytes_eq-Decides name (full_name (key_of of.item))).0 of.passes) (parted_hosts ds e)

  -- the ends of dependencies are in the maps, since they are in the document
  pub service_ends : have_known_ends (names_in services) ds.service_dependencies ≡ true
  service_ends =
      known_ends_alike (full_names ds.services) (names_in services) (λ name. sym (service_known name)) ds.service_dependencies ∙ (faultless ds e).service_ends
