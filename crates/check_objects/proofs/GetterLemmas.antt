-- What the getters of a setup give: items at a place, dependencies by number, links host by host.
use Rattle.std.proofs.Common.{◌≡◌, ℕ, zero, suc, get_or, ◌+◌, ◌<◌, true, List, [], ◌∷◌, ◌++◌, map, take}
use Rattle.std.proofs.Common.{length, Some, String, Global, refl, sym, ap, ◌∙◌, arith}
use Rattle.std.specs.Prelude.{nat_lt, slice_get, All, slice_index_or}
use Rattle.std.specs.List.{list_all}
use Rattle.std.proofs.lemmas.List.{length-map, map-append, get_or-map}
use Rattle.std.proofs.lemmas.List.Elements.{All-weaker}
use Rattle.std.proofs.lemmas.Bool.{ltb-true}
use Rattle.std.proofs.lemmas.List.Sums.{AllPass-from_list_all}
use Rattle.setup_model.specs.declared.dependency.Dependency.{Dependency}
use Rattle.check_objects.specs.declared.object_index.Host.{Host}
use Rattle.check_objects.specs.Configuration.{Configuration, IsSetup, masters_in, dependencies_of, object_count}
use Rattle.check_objects.specs.Entries.{host_entry}
use Rattle.setup_order.proofs.TestLemmas.{both_true}
use Rattle.std.proofs.lemmas.List.Folds.{list_all-map}

-- ---- dependencies

masters_at : (n : ℕ) (lists : List (List Dependency)) (k : ℕ) → list_all (λ ls. list_all (λ l. nat_lt l n) ls) (map masters_in lists) ≡ true
    → list_all (λ d. nat_lt d.master n) (slice_index_or lists k []) ≡ true
masters_at n [] k h = refl
masters_at n (ds ∷ lists) zero h = sym (list_all-map (λ l. nat_lt l n) (λ d. d.master) ds) ∙ (both_true _ _ h).0
masters_at n (ds ∷ lists) (suc k) h = masters_at n lists k (both_true _ _ h).1

-- the masters of an object are objects
pub setup_masters_below : (c : Configuration) (k : ℕ) → IsSetup c → All (λ d. d.master < object_count c) (dependencies_of c k)
setup_masters_below c k is =
    let n = object_count c in
    All-weaker (λ d. nat_lt d.master n ≡ true) (λ d. d.master < n) (λ d e. ltb-true d.master n e) (dependencies_of c k)
    (AllPass-from_list_all (λ d. nat_lt d.master n) (dependencies_of c k) (masters_at n c.dependencies k is.masters_in_range))

pub dependencies_at : {L : Type 0} (items : L → List Dependency) (lists : List L) (c : Configuration) (k : ℕ) (list : L) → IsSetup c
    → map items lists ≡ c.dependencies → k < object_count c → list ≡ get_or lists k list → items list ≡ dependencies_of c k
dependencies_at items lists c k list is are below at =
    let within : k < length lists = omega (arith, below, is.one_list_each, ap length are, length-map lists items) in
    ap items at ∙ sym (get_or-map items lists k list [] within) ∙ ap (λ ls. slice_index_or ls k []) are

-- ---- links, host by host

suc_one : (i : ℕ) → suc i + 1 ≡ suc (i + 1)
suc_one i = omega arith

take_next : {A : Type 0} (xs : List A) (i : ℕ) (x : A) → slice_get xs i ≡ Some x → take (i + 1) xs ≡ take i xs ++ x ∷ []
take_next [] i x e = cc
take_next (y ∷ xs) zero x e = let same : y ≡ x = cc in ap (λ z. z ∷ []) same
take_next (y ∷ xs) (suc i) x e = ap (λ k. take k (y ∷ xs)) (suc_one i) ∙ ap (λ l. y ∷ l) (take_next xs i x e)

pub links_next : {L : Type 0} (items : L → List ℕ) (old new : List L) (link : L) (hosts : List (String Global × Host)) (i : ℕ) (e : String Global × Host)
    → map items old ≡ map (λ h. h.parents) (map host_entry (take i hosts)) → new ≡ old ++ link ∷ [] → slice_get hosts i ≡ Some e
    → items link ≡ e.1.parents.items
    → map items new ≡ map (λ h. h.parents) (map host_entry (take (i + 1) hosts))
links_next items old new link hosts i e so_far grew at same =
    ap (map items) grew ∙ map-append items old (link ∷ []) ∙ ap
    (λ l. l ++ items link ∷ []) so_far ∙ ap (λ x. map (λ h. h.parents) (map host_entry (take i hosts)) ++ x ∷ []) same
    ∙ sym (map-append (λ h. h.parents) (map host_entry (take i hosts)) (host_entry e ∷ []))
    ∙ ap (map (λ h. h.parents)) (sym (map-append host_entry (take i hosts) (e ∷ [])))
    ∙ ap (λ l. map (λ h. h.parents) (map host_entry l)) (sym (take_next hosts i e at))
