-- Cycles of a document without a fault: the names of their objects, which are all of one sort.
use Rattle.std.proofs.Common.{◌≡◌, ℕ, zero, suc, ◌+◌, ◌<◌, ◌==◌, true, List, ◌++◌, drop, get_or, map, take, length, String, Global, refl, sym, ap, subst, ◌∙◌}
use Rattle.std.proofs.Common.{Ok, cond, [], ◌∷◌, arith}
use Rattle.std.specs.Prelude.{nat_lt, slice_index_or}
use Rattle.std.proofs.lemmas.Bool.{eqb-true}
use Rattle.std.proofs.lemmas.List.{drop-map, length-append, length-map, map-append, take-map}
use Rattle.std.proofs.lemmas.Option.{get_or_from_slice_get, unwrap_or-slice_get}
use Rattle.setup_model.specs.declared.dependency.Dependency.{Dependency}
use Rattle.setup_model.specs.declared.place.Part.TheVariants as part
use Rattle.setup_model.specs.ParsedSetup.{ParsedSetup}
use Rattle.setup_model.proofs.ListLemmas.{list_any-map}
use Rattle.setup_reader.specs.Verification.{verification}
use Rattle.setup_reader.proofs.VerificationLemmas.{get_or_same}
use Rattle.check_objects.specs.declared.object_index.Host.{Host}
use Rattle.check_objects.specs.declared.object_index.Service.{Service}
use Rattle.check_objects.specs.Configuration.{Configuration, dependencies_of, host_count, masters_in, masters_of, named_host, named_service, object_count}
use Rattle.check_objects.specs.Configuration.{objects_of, parents_by_host}
use Rattle.check_objects.specs.Entries.{host_entry, objects_in, service_entry}
use Rattle.check_objects.specs.Numbering.{configuration}
use Rattle.check_objects.proofs.NameLemmas.{found}
use Rattle.setup_order.specs.Cycles.{links_of}
use Rattle.setup_order.specs.Results.{successor, IsCycle}
use Rattle.setup_order.specs.Orders.{is_among}
use Rattle.check_objects.specs.Cycles.{name_among, part_at, IsNamedCycle, IsNamedFromLeast}
use Rattle.check_objects.proofs.SetupLemmas.{has_lists, sorts_alike}

-- ---- names

-- names of numbers that are rotated are those of the rotated numbers
pub rotated_names : {N : Type 0} (text : N → List ℕ) (name : ℕ → List ℕ) (numbers : List ℕ) (old new : List N) (place : ℕ) → map text old ≡ map name numbers
    → new ≡ drop place old ++ take place old → map text new ≡ map name (drop place numbers ++ take place numbers)
rotated_names text name numbers old new place same turned =
    ap (map text) turned ∙ map-append text (drop place old) (take place old)
    ∙ (λ i. sym (drop-map text place old) i ++ sym (take-map text place old) i)
    ∙ ap (λ l. drop place l ++ take place l) same
    ∙ (λ i. drop-map name place numbers i ++ take-map name place numbers i)
    ∙ sym (map-append name (drop place numbers) (take place numbers))

module _ (c : Configuration) (hosts : List (String Global × Host)) (services : List (String Global × Service))
    (hosts_are : map host_entry hosts ≡ c.hosts) (services_are : map service_entry services ≡ c.services) where
  pub objects_are : objects_in hosts services ≡ objects_of c
  objects_are = λ i. map named_host (hosts_are i) ++ map named_service (services_are i)

  pub host_count_is : length hosts ≡ host_count c
  host_count_is = sym (length-map hosts host_entry) ∙ ap length hosts_are

  -- the hosts of a cycle of parents are objects
  pub hosts_within : (numbers : List ℕ) → IsCycle (parents_by_host c) numbers → (i : ℕ) → i < length numbers
      → get_or numbers i 0 < length (objects_in hosts services)
  hosts_within numbers cycle i h =
      omega (
        arith,
        cycle.within i h,
        length-map c.hosts (λ x. x.parents),
        length-append (map named_host c.hosts) (map named_service c.services),
        length-map c.hosts named_host,
        ap length objects_are,
      )

  -- a cycle of numbers, told by the names of the objects
  abbrev pub named_cycle : (links : List (List ℕ)) (numbers : List ℕ) (names : List (List ℕ)) → IsCycle links numbers
      → IsNamedFromLeast (name_among (objects_in hosts services)) numbers names → IsNamedCycle c links names
  named_cycle links numbers names cycle told = record {
    numbers = numbers;
    is = cycle;
    told = subst (λ objects. IsNamedFromLeast (name_among objects) numbers names) objects_are told;
  }

-- ---- all objects of a cycle are of one sort

links_at : (ls : List (List Dependency)) (n : ℕ) → slice_index_or (map masters_in ls) n [] ≡ masters_in (slice_index_or ls n [])
links_at [] n = refl
links_at (ds ∷ ls) zero = refl
links_at (ds ∷ ls) (suc n) = links_at ls n

follows_at : (numbers : List ℕ) (i : ℕ) → suc i < length numbers → successor numbers i ≡ get_or numbers (suc i) 0
follows_at numbers i h =
    let one : i + 1 ≡ suc i = omega arith in
    unwrap_or-slice_get numbers (i + 1) (get_or numbers 0 0) ∙ get_or_same numbers (i + 1) (get_or numbers 0 0) 0 (omega (arith, h))
    ∙ ap (λ k. get_or numbers k 0) one

module _ (ds : ParsedSetup) (e : verification ds ≡ Ok tt) where
  pub cycle_below : (numbers : List ℕ) → IsCycle (masters_of (configuration ds)) numbers → (i : ℕ) → i < length numbers
      → get_or numbers i 0 < object_count (configuration ds)
  cycle_below numbers cycle i h =
      omega (arith, cycle.within i h, length-map (configuration ds).dependencies masters_in, (has_lists ds e).one_list_each)

  one_sort : (n m : ℕ) → n < object_count (configuration ds) → is_among (links_of (masters_of (configuration ds)) n) m ≡ true
      → nat_lt m (host_count (configuration ds)) ≡ nat_lt n (host_count (configuration ds))
  one_sort n m below among =
      let conf = configuration ds in
      let ls = dependencies_of conf n in
      let f = found (λ (d : Dependency). d.master == m) ls
      (sym (list_any-map (λ o. o == m) (λ (d : Dependency). d.master) ls) ∙ ap (λ l. is_among l m) (sym (links_at conf.dependencies n)) ∙ among) in
      let alike = sorts_alike ds e n below f.index f.item f.below in
      let same : (get_or ls f.index f.item).master ≡ m =
      ap (λ (d : Dependency). d.master) (get_or_from_slice_get ls f.index f.item f.item f.at) ∙ eqb-true f.item.master m f.passes in
      ap (λ k. nat_lt k (host_count conf)) (sym same) ∙ alike

  same_sort : (numbers : List ℕ) → IsCycle (masters_of (configuration ds)) numbers → (i : ℕ) → i < length numbers
      → nat_lt (get_or numbers i 0) (host_count (configuration ds)) ≡ nat_lt (get_or numbers 0 0) (host_count (configuration ds))
  same_sort numbers cycle zero h = refl
  same_sort numbers cycle (suc i) h =
      let before : i < length numbers = omega (arith, h) in
      one_sort (get_or numbers i 0) (get_or numbers (suc i) 0) (cycle_below numbers cycle i before)
      (ap (is_among (links_of (masters_of (configuration ds)) (get_or numbers i 0))) (sym (follows_at numbers i h)) ∙ cycle.linked i before)
      ∙ same_sort numbers cycle i before

  -- all objects of a cycle of dependencies are in the part of the first
  pub same_part : (numbers : List ℕ) → IsCycle (masters_of (configuration ds)) numbers → (i : ℕ) → i < length numbers
      → part_at (host_count (configuration ds)) (get_or numbers i 0) ≡ part_at (host_count (configuration ds)) (get_or numbers 0 0)
  same_part numbers cycle i h = ap (λ b. cond b part.Hosts part.Services) (same_sort numbers cycle i h)
