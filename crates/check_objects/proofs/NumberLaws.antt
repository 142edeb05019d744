-- The hosts and services of a document in order: all of them, in ascending order where no key comes twice.
use Rattle.std.proofs.Common.{◌≡◌, ℕ, ◌≤◌, ◌&&◌, true, List, map, None, bytes_eq, refl, sym, ap, ◌∙◌, length, Bor, Ordering, Less, Equal, Greater, is_eq, arith}
use Rattle.std.specs.Cmp.{IsTotalOrder}
use Rattle.std.specs.List.{list_all}
use Rattle.std.specs.List.Sorted.{IsPermutation, IsStrictlySortedBy}
use Rattle.std.specs.Ordering.{ordering_then}
use Rattle.std.proofs.lemmas.Cmp.{nat_list_cmp_total, on_total, then_total}
use Rattle.std.proofs.lemmas.List.{length-map}
use Rattle.std.proofs.lemmas.List.Sorted.{length_permutation}
use Rattle.std.proofs.lemmas.Map.Text.{is_eq-slice_cmp}
use Rattle.setup_model.specs.ParsedSetup.{ParsedHost, ParsedService}
use Rattle.setup_model.specs.Keys.{names_of, first_repeat, is_same_key, key_of}
use Rattle.setup_model.specs.ParsedViews.{texts}
use Rattle.check_objects.specs.Numbering.{hosts_in_order, services_in_order}
use Rattle.setup_model.specs.Name.{is_host_name, text_order, pair_order}
use Rattle.check_objects.proofs.NameLemmas.{all_moved}
use Rattle.check_objects.proofs.SortLemmas.{AreOnce, all_in_order, in_order_ascends, once_where_apart}

-- ---- texts and pairs of texts

pub texts_total : IsTotalOrder text_order
texts_total = nat_list_cmp_total

pub pairs_total : IsTotalOrder pair_order
pairs_total = then_total (on_total (λ p. p.0) nat_list_cmp_total) (on_total (λ p. p.1) nat_list_cmp_total)

texts_agree : (a b : List ℕ) → bytes_eq a b ≡ is_eq (text_order a b)
texts_agree a b = sym (is_eq-slice_cmp a b)

is_eq-then : (a b : Ordering) → is_eq (ordering_then a b) ≡ (is_eq a && is_eq b)
is_eq-then Less b = refl
is_eq-then Equal b = refl
is_eq-then Greater b = refl

pairs_agree : (p q : List ℕ × List ℕ) → is_same_key p q ≡ is_eq (pair_order p q)
pairs_agree p q =
    ap (λ b. b && bytes_eq p.1 q.1) (texts_agree p.0 q.0) ∙ ap (λ b. is_eq (text_order p.0 q.0) && b) (texts_agree p.1 q.1)
    ∙ sym (is_eq-then (text_order p.0 q.0) (text_order p.1 q.1))

-- ---- hosts and services

pub names_once : (hosts : List ParsedHost) → first_repeat bytes_eq (names_of hosts) ≡ None → AreOnce text_order texts_total (names_of hosts)
names_once hosts apart = once_where_apart text_order texts_total bytes_eq texts_agree (names_of hosts) apart

pub pairs_once : (services : List ParsedService) → first_repeat is_same_key (map key_of services) ≡ None → AreOnce pair_order pairs_total (map key_of services)
pairs_once services apart = once_where_apart pair_order pairs_total is_same_key pairs_agree (map key_of services) apart

pub every_host : (hosts : List ParsedHost) → IsPermutation hosts (hosts_in_order hosts)
every_host hosts = all_in_order text_order texts_total (λ h. h.name) hosts

pub every_service : (services : List ParsedService) → IsPermutation services (services_in_order services)
every_service services = all_in_order pair_order pairs_total key_of services

pub apart_hosts_ascend : (hosts : List ParsedHost) → first_repeat bytes_eq (names_of hosts) ≡ None
    → IsStrictlySortedBy text_order (names_of (hosts_in_order hosts))
apart_hosts_ascend hosts apart = in_order_ascends text_order texts_total (λ h. h.name) hosts (names_once hosts apart)

pub apart_services_ascend : (services : List ParsedService) → first_repeat is_same_key (map key_of services) ≡ None
    → IsStrictlySortedBy pair_order (map key_of (services_in_order services))
apart_services_ascend services apart = in_order_ascends pair_order pairs_total key_of services (pairs_once services apart)

-- ---- counts and names, in order

-- as many hosts in order as there are
pub hosts_counted : (hosts : List ParsedHost) → length (hosts_in_order hosts) ≡ length hosts
hosts_counted hosts = length_permutation hosts (hosts_in_order hosts) (every_host hosts)

-- as many services in order as there are
pub services_counted : (services : List ParsedService) → length (services_in_order services) ≡ length services
services_counted services = length_permutation services (services_in_order services) (every_service services)

-- where no service's host has a semicolon in its name, none in order has
pub parted_in_order : (services : List ParsedService) → list_all (λ s. is_host_name s.host) services ≡ true
    → list_all (λ s. is_host_name s.host) (services_in_order services) ≡ true
parted_in_order services = all_moved (λ s. is_host_name s.host) services (services_in_order services) (every_service services)

-- the names of few hosts are few
pub few_names : (keys : List (Bor (List ℕ))) (hosts ordered : List ParsedHost) → texts keys ≡ names_of hosts → hosts ≡ ordered → length ordered ≤ 4096
    → length keys ≤ 4096
few_names keys hosts ordered e o h = omega (arith, length-map keys (λ k. k.now), ap length e, length-map hosts (λ x. x.name), ap length o)
