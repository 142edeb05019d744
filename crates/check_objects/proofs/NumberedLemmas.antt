-- Hosts, services and dependencies by number keep their names, and a dependency is between objects of one sort.
use Rattle.std.proofs.Common.{◌≡◌, ℕ, ◌+◌, ◌==◌, Bool, true, false, cond, List, [], ◌∷◌, ◌++◌, map, length, Some, None}
use Rattle.std.proofs.Common.{option_map, bytes_eq, refl, sym, ap, ◌∙◌, arith}
use Rattle.std.specs.Prelude.{nat_lt, unwrap_or, slice_get, sum_by}
use Rattle.std.specs.List.{AllByRecursion, flat_map, list_any, list_all, position, filter, range_with_len}
use Rattle.std.proofs.lemmas.Bool.{eqb-true}
use Rattle.std.proofs.lemmas.Bool.Decides.{nat_tests}
use Rattle.std.proofs.lemmas.List.{length-append, length-map}
use Rattle.std.proofs.lemmas.List.Sorted.{IsPermutation-map, length_permutation, list_any-IsPermutation, sum_by-IsPermutation}
use Rattle.std.proofs.lemmas.List.Sums.{sum_by-cons}
use Rattle.std.proofs.lemmas.Option.{slice_get-map}
use Rattle.std.proofs.lemmas.Slice.Eq.{bytes_eq-Decides}
use Rattle.setup_model.specs.declared.dependency.Dependency.{Dependency}
use Rattle.check_objects.specs.Configuration.{Configuration, Host, Service, NamedObject, named_host, named_service, host_count, number_by_name, name_of}
use Rattle.check_objects.specs.Configuration.{pair_of}
use Rattle.setup_model.specs.Name.{full_name, is_host_name}
use Rattle.setup_model.specs.ParsedSetup.{ParsedHost, ParsedService, ParsedDependency}
use Rattle.setup_model.specs.Ends.{full_names, has_known_ends, is_known}
use Rattle.setup_model.specs.Keys.{names_of, key_of}
use Rattle.check_objects.specs.Numbering.{dependencies_among, dependency_lists, hosts_in_order, index_of_name, names_in_order, numbered_dependency}
use Rattle.check_objects.specs.Numbering.{numbered_host}
use Rattle.check_objects.specs.Numbering.{numbered_service, services_in_order}
use Rattle.setup_model.proofs.ListLemmas.{list_any-map, position-map, sum_by-map, position-front, position-back}
use Rattle.check_objects.proofs.BucketLemmas.{bucket, buckets, in_buckets}
use Rattle.check_objects.proofs.NumberLaws.{every_host, every_service}
use Rattle.setup_order.proofs.TestLemmas.{and_first, and_second}
use Rattle.check_objects.proofs.NameLemmas.{found, nowhere, no_host_has, name_of_host}

pub host_names_are : (ns : List (List ℕ)) (hs : List ParsedHost) → map (λ h. h.name) (map (numbered_host ns) hs) ≡ names_of hs
host_names_are ns [] = refl
host_names_are ns (h ∷ hs) = ap (λ l. h.name ∷ l) (host_names_are ns hs)

-- ---- services and their hosts

module _ (c : Configuration) (ns : List (List ℕ)) (hs : List ParsedHost) (are : c.hosts ≡ map (numbered_host ns) hs) where
  -- the host with the number of a name has that name
  pub host_named : (name : List ℕ) → is_known (names_of hs) name ≡ true → name_of c (index_of_name (names_of hs) name) ≡ name
  host_named name known =
      let f = found (λ (h : ParsedHost). bytes_eq name h.name) hs (sym (list_any-map (bytes_eq name) (λ h. h.name) hs) ∙ known) in
      let number : index_of_name (names_of hs) name ≡ f.index = ap (λ o. unwrap_or o 0) (position-map (bytes_eq name) (λ h. h.name) hs ∙ f.place) in
      let at : slice_get c.hosts f.index ≡ Some (numbered_host ns f.item) = ap
      (λ l. slice_get l f.index) are ∙ slice_get-map (numbered_host ns) hs f.index ∙ ap (option_map (numbered_host ns)) f.at in
      ap (name_of c) number ∙ name_of_host c f.index (numbered_host ns f.item) at ∙ sym ((bytes_eq-Decides name f.item.name).0 f.passes)

  pub pairs_are : (ss : List ParsedService) → list_all (λ s. is_known (names_of hs) s.host) ss ≡ true
      → map (pair_of c) (map (numbered_service (names_of hs)) ss) ≡ map key_of ss
  pairs_are [] known = refl
  pairs_are (s ∷ ss) known =
      let host = host_named s.host (and_first _ _ known) in
      let more = pairs_are ss (and_second _ _ known) in
      λ i. (host i, s.description) ∷ more i

  pub full_names_are : (ss : List ParsedService) → list_all (λ s. is_known (names_of hs) s.host) ss ≡ true
      → AllByRecursion (λ s. s.name ≡ full_name (pair_of c s)) (map (numbered_service (names_of hs)) ss)
  full_names_are [] known = tt
  full_names_are (s ∷ ss) known =
      let host = host_named s.host (and_first _ _ known) in
      ((λ i. full_name (sym host i, s.description)), full_names_are ss (and_second _ _ known))

-- ---- the names of a document among those in order

-- a name is a host's of the document where it is one's of those in order
pub known_in_order : (hosts : List ParsedHost) (name : List ℕ) → is_known (names_of hosts) name ≡ is_known (names_in_order hosts) name
known_in_order hosts name =
    list_any-IsPermutation (bytes_eq name) (names_of hosts) (names_in_order hosts)
    (IsPermutation-map (λ (h : ParsedHost). h.name) hosts (hosts_in_order hosts) (every_host hosts))

-- a full name is a service's of those in order where it is one's of the document
pub full_name_in_order : (services : List ParsedService) (ns : List (List ℕ)) (name : List ℕ)
    → list_any (λ s. bytes_eq name s.name) (map (numbered_service ns) (services_in_order services)) ≡ is_known (full_names services) name
full_name_in_order services ns name =
    list_any-map (λ s. bytes_eq name s.name) (numbered_service ns) (services_in_order services)
    ∙ sym (list_any-IsPermutation (λ (s : ParsedService). bytes_eq name (full_name (key_of s))) services (services_in_order services) (every_service services))
    ∙ sym (list_any-map (bytes_eq name) (λ s. full_name (key_of s)) services)

-- ---- counts

-- as many parents by number as by name
pub parents_counted : (hosts : List ParsedHost) (ns : List (List ℕ))
    → sum_by (λ h. length h.parents) (map (numbered_host ns) (hosts_in_order hosts)) ≡ sum_by (λ h. length h.parents) hosts
parents_counted hosts ns =
    let sizes : (λ (h : ParsedHost). length (map (index_of_name ns) h.parents)) ≡ (λ h. length h.parents) = λ i h. length-map h.parents (index_of_name ns) i in
    sum_by-map (λ h. length h.parents) (numbered_host ns) (hosts_in_order hosts) ∙ ap (λ f. sum_by f (hosts_in_order hosts)) sizes
    ∙ sum_by-IsPermutation (λ (h : ParsedHost). length h.parents) hosts (hosts_in_order hosts) (every_host hosts)

lists_joined : (ds : List (ℕ × Dependency)) (ns : List ℕ)
    → sum_by (λ l. length l) (map (dependencies_among ds) ns) ≡ length (flat_map (bucket (λ d. d.0) ds) ns)
lists_joined ds [] = refl
lists_joined ds (n ∷ ns) =
    let here = bucket (λ d. d.0) ds n in
    omega (
      arith,
      sum_by-cons (λ l. length l) (dependencies_among ds n) (map (dependencies_among ds) ns),
      length-map here (λ d. d.1),
      lists_joined ds ns,
      length-append here (flat_map (bucket (λ d. d.0) ds) ns),
    )

-- each dependency is listed once
pub listed_once : (count : ℕ) (ds : List (ℕ × Dependency)) → list_all (λ d. nat_lt d.0 count) ds ≡ true
    → sum_by (λ l. length l) (dependency_lists count ds) ≡ length ds
listed_once count ds below =
    lists_joined ds (range_with_len 0 count)
    ∙ length_permutation ds (buckets (λ d. d.0) ds 0 count) (in_buckets (λ d. d.0) count ds below)

-- ---- both ends of a dependency

past : (n k : ℕ) → nat_lt (n + k) n ≡ false
past n k = grind (arith, nat_tests)

module _ (c : Configuration) where
  -- a host's name has a host's number
  pub host_end : (name : List ℕ) → is_known (map (λ h. h.name) c.hosts) name ≡ true → nat_lt (unwrap_or (number_by_name c name) 0) (host_count c) ≡ true
  host_end name known =
      let f = found (λ (h : Host). bytes_eq name h.name) c.hosts (sym (list_any-map (bytes_eq name) (λ h. h.name) c.hosts) ∙ known) in
      let place = position-front (λ o. bytes_eq name o.name) (map named_host c.hosts) (map named_service c.services) f.index
      (position-map (λ o. bytes_eq name o.name) named_host c.hosts ∙ f.place) in
      let below = f.below in
      ap (λ o. nat_lt (unwrap_or o 0) (host_count c)) place ∙ grind (arith, nat_tests, below)

  -- a service's full name has a service's number
  pub service_end : (name : List ℕ) (key : List ℕ × List ℕ) → name ≡ full_name key → list_all (λ h. is_host_name h.name) c.hosts ≡ true
      → list_any (λ s. bytes_eq name s.name) c.services ≡ true
      → nat_lt (unwrap_or (number_by_name c name) 0) (host_count c) ≡ false
  service_end name key is good known =
      let f = found (λ (s : Service). bytes_eq name s.name) c.services known in
      let no_host : position (λ o. bytes_eq name o.name) (map named_host c.hosts) ≡ None =
      position-map (λ o. bytes_eq name o.name) named_host c.hosts ∙ nowhere (λ (h : Host). bytes_eq name h.name) c.hosts
      (no_host_has (λ h. h.name) name key c.hosts is good) in
      let place : number_by_name c name ≡ Some (host_count c + f.index) =
      position-back (λ o. bytes_eq name o.name) (map named_host c.hosts) (map named_service c.services) no_host
      ∙ ap (option_map (λ k. length (map named_host c.hosts) + k)) (position-map (λ o. bytes_eq name o.name) named_service c.services ∙ f.place)
      ∙ ap (λ k. Some (k + f.index)) (length-map c.hosts named_host) in
      ap (λ o. nat_lt (unwrap_or o 0) (host_count c)) place ∙ past (host_count c) f.index

-- both numbers are below this one, or neither is
abbrev pub AreAlike : ℕ → ℕ × Dependency → Type 0
AreAlike n d = nat_lt d.1.master n ≡ nat_lt d.0 n

-- where the ends of each dependency are among names whose numbers are all below n, or all aren't, the numbers are alike
pub ends_alike : (objects : List NamedObject) (names : List (List ℕ)) (n : ℕ) (b : Bool)
    → ((name : List ℕ) → is_known names name ≡ true → nat_lt (unwrap_or (position (λ o. bytes_eq name o.name) objects) 0) n ≡ b)
    → (ds : List ParsedDependency) → list_all (has_known_ends names) ds ≡ true
    → AllByRecursion (AreAlike n) (map (numbered_dependency objects) ds)
ends_alike objects names n b number [] h = tt
ends_alike objects names n b number (d ∷ ds) h =
    let here = and_first _ _ h in
    (number d.master (and_second _ _ here) ∙ sym (number d.dependent (and_first _ _ here)), ends_alike objects names n b number ds (and_second _ _ h))

pub both_hold : {A : Type 0} (P : A → Type 0) (xs ys : List A) → AllByRecursion P xs → AllByRecursion P ys → AllByRecursion P (xs ++ ys)
both_hold P [] ys h k = k
both_hold P (x ∷ xs) ys h k = (h.0, both_hold P xs ys h.1 k)

alike_among_by : (n object : ℕ) (b : Bool) (d : ℕ × Dependency) (rest : List (ℕ × Dependency)) → (d.0 == object) ≡ b → AreAlike n d
    → AllByRecursion (λ x. nat_lt x.master n ≡ nat_lt object n) (map (λ x. x.1) rest)
    → AllByRecursion (λ x. nat_lt x.master n ≡ nat_lt object n) (map (λ x. x.1) (cond b (d ∷ rest) rest))
alike_among_by n object true d rest e h more = (h ∙ ap (λ k. nat_lt k n) (eqb-true d.0 object e), more)
alike_among_by n object false d rest e h more = more

-- an object's dependencies are on objects of its sort
pub alike_among : (n object : ℕ) (ds : List (ℕ × Dependency)) → AllByRecursion (AreAlike n) ds
    → AllByRecursion (λ x. nat_lt x.master n ≡ nat_lt object n) (dependencies_among ds object)
alike_among n object [] h = tt
alike_among n object (d ∷ ds) h = alike_among_by n object (d.0 == object) d (filter (λ x. x.0 == object) ds) refl h.0 (alike_among n object ds h.1)
