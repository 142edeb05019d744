-- Objects found by number and by name, in the code's two maps.
use Rattle.std.proofs.Common.{◌≡◌, ℕ, zero, suc, ◌+◌, ◌-◌, ◌≤◌, List, [], ◌∷◌, ◌++◌, map}
use Rattle.std.proofs.Common.{length, Some, None, option_map, String, Global, string_bytes, bytes_eq, sym, ap, ◌∙◌, arith}
use Rattle.std.specs.Prelude.{slice_get}
use Rattle.std.specs.List.{position}
use Rattle.std.specs.Map.{keys_of}
use Rattle.std.proofs.lemmas.List.{length-map}
use Rattle.std.proofs.lemmas.Option.{slice_get-map}
use Rattle.check_objects.specs.declared.object_index.Host.{Host}
use Rattle.check_objects.specs.declared.object_index.Service.{Service}
use Rattle.check_objects.specs.Configuration.{NamedObject, named_host, named_service}
use Rattle.check_objects.specs.Entries.{host_entry, service_entry}
use Rattle.setup_model.proofs.ListLemmas.{position-map, position-front, position-back}

-- ---- two lists, one behind the other

pub slice_get-front : {A : Type 0} (xs ys : List A) (i : ℕ) (x : A) → slice_get xs i ≡ Some x → slice_get (xs ++ ys) i ≡ Some x
slice_get-front [] ys i x e = cc
slice_get-front (z ∷ xs) ys zero x e = e
slice_get-front (z ∷ xs) ys (suc i) x e = slice_get-front xs ys i x e

pub slice_get-back : {A : Type 0} (xs ys : List A) (i j : ℕ) → i ≡ length xs + j → slice_get (xs ++ ys) i ≡ slice_get ys j
slice_get-back [] ys i j e = ap (slice_get ys) (let h : i ≡ j = omega arith in h)
slice_get-back (z ∷ xs) ys zero j e = absurd (omega arith)
slice_get-back (z ∷ xs) ys (suc i) j e = slice_get-back xs ys i j (omega arith)

-- ---- the objects of the two maps

module _ (hosts : List (String Global × Host)) (services : List (String Global × Service)) where
  abbrev pub objects : List NamedObject
  objects = map named_host (map host_entry hosts) ++ map named_service (map service_entry services)

  pub object_front : (n : ℕ) (e : String Global × Host) → slice_get hosts n ≡ Some e → slice_get objects n ≡ Some (named_host (host_entry e))
  object_front n e at =
      slice_get-front (map named_host (map host_entry hosts)) (map named_service (map service_entry services)) n (named_host (host_entry e))
      (slice_get-map named_host (map host_entry hosts) n ∙ ap (option_map named_host) (slice_get-map host_entry hosts n ∙ ap (option_map host_entry) at))

  hosts_length : length (map named_host (map host_entry hosts)) ≡ length hosts
  hosts_length = length-map (map host_entry hosts) named_host ∙ length-map hosts host_entry

  pub object_back : (n : ℕ) (e : String Global × Service) → length hosts ≤ n → slice_get services (n - length hosts) ≡ Some e
      → slice_get objects n ≡ Some (named_service (service_entry e))
  object_back n e past at =
      slice_get-back (map named_host (map host_entry hosts)) (map named_service (map service_entry services)) n (n - length hosts) (omega (arith, hosts_length))
      ∙ slice_get-map named_service (map service_entry services) (n - length hosts) ∙ ap (option_map named_service)
      (slice_get-map service_entry services (n - length hosts) ∙ ap (option_map service_entry) at)

  host_place : (name : List ℕ)
      → position (λ n. bytes_eq name n.name) (map named_host (map host_entry hosts)) ≡ position (λ k. bytes_eq name (string_bytes k)) (keys_of hosts)
  host_place name =
      position-map (λ n. bytes_eq name n.name) named_host (map host_entry hosts) ∙ position-map (λ h. bytes_eq name h.name) host_entry hosts
      ∙ sym (position-map (λ k. bytes_eq name (string_bytes k)) (λ e. e.0) hosts)

  service_place : (name : List ℕ)
      → position (λ n. bytes_eq name n.name) (map named_service (map service_entry services))
      ≡ position (λ k. bytes_eq name (string_bytes k)) (keys_of services)
  service_place name =
      position-map (λ n. bytes_eq name n.name) named_service (map service_entry services) ∙ position-map (λ h. bytes_eq name h.name) service_entry services
      ∙ sym (position-map (λ k. bytes_eq name (string_bytes k)) (λ e. e.0) services)

  pub number_front : (name : List ℕ) (i : ℕ) → Some i ≡ position (λ k. bytes_eq name (string_bytes k)) (keys_of hosts)
      → Some i ≡ position (λ n. bytes_eq name n.name) objects
  number_front name i e =
      sym (position-front (λ n. bytes_eq name n.name) (map named_host (map host_entry hosts)) (map named_service (map service_entry services)) i
      (host_place name ∙ sym e))

  pub number_back : (name : List ℕ) → None ≡ position (λ k. bytes_eq name (string_bytes k)) (keys_of hosts)
      → option_map (λ j. length hosts + j) (position (λ k. bytes_eq name (string_bytes k)) (keys_of services)) ≡ position (λ n. bytes_eq name n.name) objects
  number_back name e =
      ap (option_map (λ j. length hosts + j)) (sym (service_place name))
      ∙ ap (λ l. option_map (λ j. l + j) (position (λ n. bytes_eq name n.name) (map named_service (map service_entry services)))) (sym hosts_length)
      ∙ sym (position-back (λ n. bytes_eq name n.name) (map named_host (map host_entry hosts)) (map named_service (map service_entry services))
      (host_place name ∙ sym e))
