-- How long a full name is at most.
use Rattle.std.proofs.Common.{◌≡◌, ℕ, get_or, ◌+◌, ◌<◌, ◌≤◌, Bool, true, List, [], ◌∷◌, map, length, Some, None, Option, ap, ◌∙◌, refl, arith}
use Rattle.std.specs.Prelude.{nat_lt, nat_le, unwrap_or, option_map, slice_get}
use Rattle.std.specs.List.{list_all}
use Rattle.std.proofs.lemmas.Bool.{ltb-true}
use Rattle.std.proofs.lemmas.Bool.Decides.{nat_tests}
use Rattle.std.proofs.lemmas.List.{length-append}
use Rattle.std.proofs.lemmas.List.Folds.{list_all-append, list_all-map}
use Rattle.std.proofs.lemmas.List.Sums.{AllPass-from_list_all, list_all-from_AllPass}
use Rattle.setup_model.specs.Name.{full_name, is_name}
use Rattle.check_objects.specs.Configuration.{Configuration, Service, IsSetup, NamedObject, host_count, name_of, named_host, named_service, objects_of, pair_of}
use Rattle.check_objects.proofs.NameLemmas.{all_passes, item_at, name_of_host}
use Rattle.check_saved_state.proofs.RangeLemmas.{short_name}

abbrev is_short : List ℕ → Bool
is_short name = nat_le (length name) 511

is_short_by : (name : List ℕ) → length name ≤ 511 → is_short name ≡ true
is_short_by name h = grind (arith, nat_tests, h)

-- a host's name has at most 255 bytes
host_few : (c : Configuration) (n : ℕ) → IsSetup c → n < host_count c → length (name_of c n) ≤ 255
host_few c n is below =
    let i = item_at c.hosts n below in
    let bounded = short_name i.item.name (all_passes (λ h. is_name h.name) c.hosts n i.item is.host_names i.at) in
    rw (name_of_host c n i.item i.at) bounded

-- so a service's has at most 511, with a semicolon and its description
service_few : (c : Configuration) (s : Service) → IsSetup c → nat_lt s.host (length c.hosts) ≡ true → is_name s.description ≡ true
    → s.name ≡ full_name (pair_of c s) → length s.name ≤ 511
service_few c s is hosts_in_range described named =
    let host = host_few c s.host is (ltb-true s.host (length c.hosts) hosts_in_range) in
    let description = short_name s.description described in
    let parts : length (full_name (pair_of c s)) ≡ length (name_of c s.host) + length (59 ∷ s.description) =
    length-append (name_of c s.host) (59 ∷ s.description) in
    omega (arith, host, description, parts, ap length named)

hosts_short : (c : Configuration) → IsSetup c → list_all (λ h. is_short h.name) c.hosts ≡ true
hosts_short c is =
    list_all-from_AllPass (λ h. is_short h.name) c.hosts (λ k d below.
    let bounded = short_name (get_or c.hosts k d).name (AllPass-from_list_all (λ h. is_name h.name) c.hosts is.host_names k d below) in
    is_short_by (get_or c.hosts k d).name (omega (arith, bounded)))

services_short : (c : Configuration) → IsSetup c → list_all (λ s. is_short s.name) c.services ≡ true
services_short c is =
    list_all-from_AllPass (λ s. is_short s.name) c.services (λ k d below.
    is_short_by (get_or c.services k d).name (service_few c (get_or c.services k d) is
    (AllPass-from_list_all (λ s. nat_lt s.host (length c.hosts)) c.services is.hosts_in_range k d below)
    (AllPass-from_list_all (λ s. is_name s.description) c.services is.descriptions k d below)
    (is.full_names k d below)))

objects_short : (c : Configuration) → IsSetup c → list_all (λ o. is_short o.name) (objects_of c) ≡ true
objects_short c is =
    let hosts = list_all-map (λ o. is_short o.name) named_host c.hosts ∙ hosts_short c is in
    let services = list_all-map (λ o. is_short o.name) named_service c.services ∙ services_short c is in
    list_all-append (λ o. is_short o.name) (map named_host c.hosts) (map named_service c.services) ∙ rw (hosts, services) refl

short_by : (c : Configuration) (n : ℕ) (found : Option NamedObject) → IsSetup c → slice_get (objects_of c) n ≡ found
    → length (unwrap_or (option_map (λ o. o.name) found) []) ≤ 511
short_by c n None is at = omega arith
short_by c n (Some o) is at =
    let short = all_passes (λ o. is_short o.name) (objects_of c) n o (objects_short c is) at in
    grind (arith, nat_tests, short)

-- the full name of an object has at most 511 bytes, and no name of what isn't there
pub name_short : (c : Configuration) (n : ℕ) → IsSetup c → length (name_of c n) ≤ 511
name_short c n is = short_by c n (slice_get (objects_of c) n) is refl
