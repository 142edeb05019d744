-- The links of a document without a fault, by number and back by name.
use Rattle.std.proofs.Common.{◌≡◌, ℕ, ◌<◌, ◌==◌, ◌&&◌, Bool, true, false, cond, List, [], ◌∷◌, map, option_map, bytes_eq, refl, sym, ap, subst, ◌∙◌}
use Rattle.std.proofs.Common.{Ok, arith}
use Rattle.std.specs.Prelude.{nat_lt, unwrap_or}
use Rattle.std.specs.List.{list_any, list_all, filter}
use Rattle.std.specs.List.Sorted.{IsPermutation}
use Rattle.std.proofs.lemmas.Bool.{eqb-true, eq-eqb}
use Rattle.std.proofs.lemmas.List.Folds.{list_any-append, list_all-append}
use Rattle.std.proofs.lemmas.List.Sorted.{IsPermutation-map}
use Rattle.std.proofs.lemmas.Slice.Eq.{bytes_eq-Decides}
use Rattle.check_objects.specs.Configuration.{Configuration, named_host, named_service, objects_of, object_count, number_by_name, name_of}
use Rattle.setup_model.specs.ParsedSetup.{ParsedSetup, ParsedHost, ParsedDependency}
use Rattle.setup_model.specs.Ends.{full_names, has_known_ends, is_known}
use Rattle.setup_reader.specs.Verification.{verification}
use Rattle.setup_model.specs.Keys.{names_of}
use Rattle.check_objects.specs.Links.{named_parents, named_dependency, named_dependencies, all_named_dependencies}
use Rattle.check_objects.specs.Numbering.{index_of_name, numbered_host, numbered_dependency, all_dependencies, dependencies_among}
use Rattle.check_objects.specs.Numbering.{hosts_in_order, names_in_order, configuration}
use Rattle.std.proofs.lemmas.List.Folds.{list_all-map}
use Rattle.setup_model.proofs.ListLemmas.{list_any-map}
use Rattle.check_objects.proofs.BucketLemmas.{bucket, in_buckets, joined_same}
use Rattle.setup_order.proofs.TestLemmas.{and_first, and_second, and_both, or_second, or_first}
use Rattle.check_objects.proofs.DependencyLemmas.{list_of_object}
use Rattle.check_objects.proofs.NameLemmas.{HasNames, found, name_leads_back, all_moved}
use Rattle.check_objects.proofs.NumberedLemmas.{host_names_are, host_named, known_in_order, full_name_in_order}
use Rattle.check_objects.proofs.NumberLaws.{every_host}
use Rattle.setup_reader.proofs.FaultlessLemmas.{faultless}
use Rattle.check_objects.proofs.SetupLemmas.{names_of_document, dependents_within}

-- ---- names of objects

-- some object has this name
abbrev pub is_object : Configuration → List ℕ → Bool
is_object c name = list_any (λ o. bytes_eq name o.name) (objects_of c)

-- the number that dependencies are listed under
abbrev pub number_or_none : Configuration → List ℕ → ℕ
number_or_none c name = unwrap_or (number_by_name c name) 0

-- the object with a name's number has the name
pub back_to_name : (c : Configuration) (name : List ℕ) → is_object c name ≡ true → name_of c (number_or_none c name) ≡ name
back_to_name c name known =
    let f = found (λ o. bytes_eq name o.name) (objects_of c) known in
    ap (λ o. name_of c (unwrap_or o 0)) f.place ∙ ap (λ o. unwrap_or (option_map (λ x. x.name) o) []) f.at
    ∙ sym ((bytes_eq-Decides name f.item.name).0 f.passes)

same_by : (a b : Bool) → (a ≡ true → b ≡ true) → (b ≡ true → a ≡ true) → a ≡ b
same_by true b f g = sym (f refl)
same_by false true f g = g refl
same_by false false f g = refl

-- whose number it is, has the name
pub number_is_name : (c : Configuration) → HasNames c → (name : List ℕ) (n : ℕ) → n < object_count c → is_object c name ≡ true
    → (number_or_none c name == n) ≡ bytes_eq name (name_of c n)
number_is_name c names name n below known = same_by (number_or_none c name == n) (bytes_eq name (name_of c n))
    (λ e. (bytes_eq-Decides name (name_of c n)).1 (sym (back_to_name c name known) ∙ ap (name_of c) (eqb-true (number_or_none c name) n e)))
    (λ e. eq-eqb (number_or_none c name) n (ap (number_or_none c) ((bytes_eq-Decides name (name_of c n)).0 e)
    ∙ ap (λ o. unwrap_or o 0) (name_leads_back c names n below)))

host_is_object : (ds : ParsedSetup) → verification ds ≡ Ok tt → (name : List ℕ) → is_known (names_of ds.hosts) name ≡ true → is_object (configuration ds) name ≡ true
host_is_object ds e name known =
    let c = configuration ds in
    let hs = hosts_in_order ds.hosts in
    let ns = names_in_order ds.hosts in
    let there : list_any (λ o. bytes_eq name o.name) (map named_host c.hosts) ≡ true =
    list_any-map (λ o. bytes_eq name o.name) named_host c.hosts ∙ sym (list_any-map (bytes_eq name) (λ h. h.name) c.hosts)
    ∙ ap (λ l. is_known l name) (host_names_are ns hs) ∙ sym (known_in_order ds.hosts name) ∙ known in
    list_any-append (λ o. bytes_eq name o.name) (map named_host c.hosts) (map named_service c.services) ∙ or_first _ _ there

service_is_object : (ds : ParsedSetup) → verification ds ≡ Ok tt → (name : List ℕ) → is_known (full_names ds.services) name ≡ true
    → is_object (configuration ds) name ≡ true
service_is_object ds e name known =
    let c = configuration ds in
    let there : list_any (λ o. bytes_eq name o.name) (map named_service c.services) ≡ true =
    list_any-map (λ o. bytes_eq name o.name) named_service c.services
    ∙ full_name_in_order ds.services (names_in_order ds.hosts) name ∙ known in
    list_any-append (λ o. bytes_eq name o.name) (map named_host c.hosts) (map named_service c.services) ∙ or_second _ _ there

-- both ends of the dependency are objects
abbrev pub has_ends : Configuration → ParsedDependency → Bool
has_ends c d = is_object c d.dependent && is_object c d.master

ends_are_objects : (c : Configuration) (names : List (List ℕ)) → ((name : List ℕ) → is_known names name ≡ true → is_object c name ≡ true)
    → (ds : List ParsedDependency) → list_all (has_known_ends names) ds ≡ true → list_all (has_ends c) ds ≡ true
ends_are_objects c names known [] h = refl
ends_are_objects c names known (d ∷ ds) h =
    let here = and_first _ _ h in
    and_both _ _ (and_both _ _ (known d.dependent (and_first _ _ here)) (known d.master (and_second _ _ here)))
    (ends_are_objects c names known ds (and_second _ _ h))

pub all_have_ends : (ds : ParsedSetup) → verification ds ≡ Ok tt → list_all (has_ends (configuration ds)) (all_dependencies ds) ≡ true
all_have_ends ds e =
    let c = configuration ds in
    let f = faultless ds e in
    list_all-append (has_ends c) ds.service_dependencies ds.host_dependencies
    ∙ and_both _ _ (ends_are_objects c (full_names ds.services) (service_is_object ds e) ds.service_dependencies f.service_ends)
    (ends_are_objects c (names_of ds.hosts) (host_is_object ds e) ds.host_dependencies f.host_ends)

-- ---- dependencies

module _ (c : Configuration) where
  there_and_back : (d : ParsedDependency) (n : ℕ) → has_ends c d ≡ true → number_or_none c d.dependent ≡ n
      → named_dependency c n (numbered_dependency (objects_of c) d).1 ≡ d
  there_and_back d n h is =
      let dependent = ap (name_of c) (sym is) ∙ back_to_name c d.dependent (and_first _ _ h) in
      let master = back_to_name c d.master (and_second _ _ h) in
      λ i. record { dependent = dependent i; master = master i; criteria = d.criteria; inherits = d.inherits }

  listed_by : (d : ParsedDependency) (ds : List ParsedDependency) (n : ℕ) (b : Bool) → (number_or_none c d.dependent == n) ≡ b → has_ends c d ≡ true
      → map (named_dependency c n) (dependencies_among (map (numbered_dependency (objects_of c)) ds) n) ≡ filter (λ x. number_or_none c x.dependent == n) ds
      → map (named_dependency c n) (map (λ x. x.1)
      (cond b (numbered_dependency (objects_of c) d ∷ filter (λ x. x.0 == n) (map (numbered_dependency (objects_of c)) ds))
      (filter (λ x. x.0 == n) (map (numbered_dependency (objects_of c)) ds))))
      ≡ cond b (d ∷ filter (λ x. number_or_none c x.dependent == n) ds) (filter (λ x. number_or_none c x.dependent == n) ds)
  listed_by d ds n true e h more = let here = there_and_back d n h (eqb-true (number_or_none c d.dependent) n e) in λ i. here i ∷ more i
  listed_by d ds n false e h more = more

  pub listed_back : (n : ℕ) (ds : List ParsedDependency) → list_all (has_ends c) ds ≡ true
      → map (named_dependency c n) (dependencies_among (map (numbered_dependency (objects_of c)) ds) n) ≡ filter (λ x. number_or_none c x.dependent == n) ds
  listed_back n [] h = refl
  listed_back n (d ∷ ds) h = listed_by d ds n (number_or_none c d.dependent == n) refl (and_first _ _ h) (listed_back n ds (and_second _ _ h))

  pub by_name : HasNames c → (n : ℕ) → n < object_count c → (ds : List ParsedDependency) → list_all (has_ends c) ds ≡ true
      → filter (λ x. number_or_none c x.dependent == n) ds ≡ filter (λ x. bytes_eq x.dependent (name_of c n)) ds
  by_name names n below [] h = refl
  by_name names n below (d ∷ ds) h =
      let test = number_is_name c names d.dependent n below (and_first _ _ (and_first _ _ h)) in
      let more = by_name names n below ds (and_second _ _ h) in
      λ i. cond (test i) (d ∷ more i) (more i)

named_at : (ds : ParsedSetup) → verification ds ≡ Ok tt → (n : ℕ) → n < object_count (configuration ds)
    → named_dependencies (configuration ds) n ≡ filter (λ x. number_or_none (configuration ds) x.dependent == n) (all_dependencies ds)
named_at ds e n below =
    let c = configuration ds in
    ap (map (named_dependency c n)) (list_of_object (object_count c) n (map (numbered_dependency (objects_of c)) (all_dependencies ds)) below)
    ∙ listed_back c n (all_dependencies ds) (all_have_ends ds e)

-- the dependencies of an object are those of the document with its name, in the same order
pub dependencies_by_name : (ds : ParsedSetup) (n : ℕ) → verification ds ≡ Ok tt → n < object_count (configuration ds)
    → named_dependencies (configuration ds) n ≡ filter (λ d. bytes_eq d.dependent (name_of (configuration ds) n)) (all_dependencies ds)
dependencies_by_name ds n e below =
    named_at ds e n below ∙ by_name (configuration ds) (names_of_document ds e) n below (all_dependencies ds) (all_have_ends ds e)

-- and all of them are the document's
pub dependencies_together : (ds : ParsedSetup) → verification ds ≡ Ok tt → IsPermutation (all_dependencies ds) (all_named_dependencies (configuration ds))
dependencies_together ds e =
    let c = configuration ds in
    let number = λ (d : ParsedDependency). number_or_none c d.dependent in
    let below : list_all (λ d. nat_lt (number d) (object_count c)) (all_dependencies ds) ≡ true =
    sym (list_all-map (λ d. nat_lt d.0 (object_count c)) (numbered_dependency (objects_of c)) (all_dependencies ds)) ∙ dependents_within ds e in
    subst (IsPermutation (all_dependencies ds)) (joined_same (bucket number (all_dependencies ds)) (named_dependencies c) 0 (object_count c)
    (λ k low high. sym (named_at ds e k (omega (arith, high)))))
    (in_buckets number (object_count c) (all_dependencies ds) below)

-- ---- parents

parents_named : (c : Configuration) (hs : List ParsedHost) → c.hosts ≡ map (numbered_host (names_of hs)) hs → (ps : List (List ℕ))
    → list_all (is_known (names_of hs)) ps ≡ true → map (name_of c) (map (index_of_name (names_of hs)) ps) ≡ ps
parents_named c hs are [] h = refl
parents_named c hs are (p ∷ ps) h =
    let here = host_named c (names_of hs) hs are p (and_first _ _ h) in
    let more = parents_named c hs are ps (and_second _ _ h) in
    λ i. here i ∷ more i

hosts_named : (c : Configuration) (all : List ParsedHost) → c.hosts ≡ map (numbered_host (names_of all)) all → (hs : List ParsedHost)
    → list_all (λ h. list_all (is_known (names_of all)) h.parents) hs ≡ true
    → map (named_parents c) (map (numbered_host (names_of all)) hs) ≡ map (λ h. (h.name, h.parents)) hs
hosts_named c all are [] known = refl
hosts_named c all are (h ∷ hs) known =
    let here = parents_named c all are h.parents (and_first _ _ known) in
    let more = hosts_named c all are hs (and_second _ _ known) in
    λ i. (h.name, here i) ∷ more i

-- the hosts and their parents are the document's
pub parents_together : (ds : ParsedSetup) → verification ds ≡ Ok tt
    → IsPermutation (map (λ h. (h.name, h.parents)) ds.hosts) (map (named_parents (configuration ds)) (configuration ds).hosts)
parents_together ds e =
    let hs = hosts_in_order ds.hosts in
    let agree : is_known (names_of hs) ≡ is_known (names_of ds.hosts) = λ i name. sym (known_in_order ds.hosts name) i in
    let known : list_all (λ h. list_all (is_known (names_of hs)) h.parents) hs ≡ true =
    all_moved (λ (h : ParsedHost). list_all (is_known (names_of hs)) h.parents) ds.hosts hs (every_host ds.hosts)
    (ap (λ k. list_all (λ h. list_all k h.parents) ds.hosts) agree ∙ (faultless ds e).parented) in
    subst (IsPermutation (map (λ h. (h.name, h.parents)) ds.hosts)) (sym (hosts_named (configuration ds) hs refl hs known))
    (IsPermutation-map (λ (h : ParsedHost). (h.name, h.parents)) ds.hosts hs (every_host ds.hosts))
