use Rattle.std.proofs.Common.{◌≤◌, List, sym, ap, subst, ◌∙◌, bytes_eq, length, map, arith}
use Rattle.std.proofs.lemmas.List.{length-map}
use Rattle.std.specs.List.{list_all}
use Rattle.std.specs.List.Sorted.{IsStrictlySortedBy}
use Rattle.setup_model.specs.declared.parsed_setup.ParsedHost.{ParsedHost}
use Rattle.setup_model.specs.ParsedViews.{host, service}
use Rattle.check_objects.specs.Numbering.{numbered_host, numbered_service, hosts_in_order, services_in_order}
use Rattle.setup_model.specs.Name.{is_host_name, pair_order, text_order}
use Rattle.setup_model.specs.Keys.{first_repeat, names_of, is_same_key, key_of}
use Rattle.check_objects.proofs.NumberLaws.{apart_hosts_ascend, apart_services_ascend, few_names, hosts_counted, parted_in_order}
use Rattle.check_objects.proofs.object_index.number_objects.Goals as goal

few_in_order : (hosts : List ParsedHost) → length hosts ≤ 4096 → length (hosts_in_order (map host hosts)) ≤ 4096
few_in_order hosts bounded = omega (arith, bounded, hosts_counted (map host hosts), length-map hosts host)

pub sort_hosts-requires : goal.sort_hosts-requires
sort_hosts-requires c = record { distinct = ap (λ l. first_repeat bytes_eq (names_of (map host l))) c.deref.ensures.value ∙ c.requires.names }

pub sort_services-requires : goal.sort_services-requires
sort_services-requires c = record { distinct = ap (λ l. first_repeat is_same_key (map key_of (map service l))) c.deref-2.ensures.value ∙ c.requires.keys }

pub number_names-requires : goal.number_names-requires
number_names-requires c =
    let order = ap (map host) c.deref-3.ensures.value ∙ c.in_ok-hosts.ensures ∙ ap (λ l. hosts_in_order (map host l)) c.deref.ensures.value in
    subst (λ l. IsStrictlySortedBy text_order (names_of l)) (sym order) (apart_hosts_ascend (map host c.args.parsed.now.hosts.items) c.requires.names)

pub index_hosts-requires-clause-bounded : goal.index_hosts-requires-clause-bounded
index_hosts-requires-clause-bounded c =
    let order = ap (map host) c.deref-3.ensures.value ∙ c.in_ok-hosts.ensures ∙ ap (λ l. hosts_in_order (map host l)) c.deref.ensures.value in
    few_names c.in_ok-names.names.keys _ _ c.in_ok-names.ensures order (few_in_order c.args.parsed.now.hosts.items c.requires.bounded)

pub index_hosts-requires-clause-ascending : goal.index_hosts-requires-clause-ascending
index_hosts-requires-clause-ascending c =
    let order = ap (map host) c.deref-4.ensures.value ∙ c.in_ok-hosts.ensures ∙ ap (λ l. hosts_in_order (map host l)) c.deref.ensures.value in
    subst (λ l. IsStrictlySortedBy text_order (names_of l)) (sym order) (apart_hosts_ascend (map host c.args.parsed.now.hosts.items) c.requires.names)

pub index_services-requires-clause-bounded : goal.index_services-requires-clause-bounded
index_services-requires-clause-bounded c =
    let order = ap (map host) c.deref-3.ensures.value ∙ c.in_ok-hosts.ensures ∙ ap (λ l. hosts_in_order (map host l)) c.deref.ensures.value in
    few_names c.in_ok-names.names.keys _ _ c.in_ok-names.ensures order (few_in_order c.args.parsed.now.hosts.items c.requires.bounded)

pub index_services-requires-clause-ascending : goal.index_services-requires-clause-ascending
index_services-requires-clause-ascending c =
    let order = ap (map service) c.deref-5.ensures.value ∙ c.in_ok-services.ensures ∙ ap (λ l. services_in_order (map service l)) c.deref-2.ensures.value in
    subst (λ l. IsStrictlySortedBy pair_order (map key_of l)) (sym order) (apart_services_ascend (map service c.args.parsed.now.services.items) c.requires.keys)

pub index_services-requires-clause-without_semicolon : goal.index_services-requires-clause-without_semicolon
index_services-requires-clause-without_semicolon c =
    let order = ap (map service) c.deref-5.ensures.value ∙ c.in_ok-services.ensures ∙ ap (λ l. services_in_order (map service l)) c.deref-2.ensures.value in
    ap (list_all (λ s. is_host_name s.host)) order ∙ parted_in_order (map service c.args.parsed.now.services.items) c.requires.without_semicolon

pub returns-clause-hosts : goal.returns-clause-hosts
returns-clause-hosts c =
    let order = c.in_ok-hosts.ensures ∙ ap (λ l. hosts_in_order (map host l)) c.deref.ensures.value in
    let names = c.in_ok-names.ensures ∙ ap (λ l. names_of (map host l)) c.deref-3.ensures.value ∙ ap names_of order in
    let hosts = ap (map host) c.deref-4.ensures.value ∙ order in
    c.in_ok-hosts-2.ensures ∙ (λ i. map (numbered_host (names i)) (hosts i))

pub returns-clause-services : goal.returns-clause-services
returns-clause-services c =
    let host_order = c.in_ok-hosts.ensures ∙ ap (λ l. hosts_in_order (map host l)) c.deref.ensures.value in
    let names = c.in_ok-names.ensures ∙ ap (λ l. names_of (map host l)) c.deref-3.ensures.value ∙ ap names_of host_order in
    let order = ap (map service) c.deref-5.ensures.value ∙ c.in_ok-services.ensures ∙ ap (λ l. services_in_order (map service l)) c.deref-2.ensures.value in
    c.in_ok-services-2.ensures ∙ (λ i. map (numbered_service (names i)) (order i))
