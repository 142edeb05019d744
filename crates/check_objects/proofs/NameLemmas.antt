-- Full names lead to numbers and back: names that ascend are different, and a service's name has a semicolon.
use Rattle.std.proofs.Common.{◌≡◌, ℕ, zero, suc, get_or, ◌+◌, ◌-◌, ◌<◌, ◌==◌, ◌&&◌, ◌||◌, not, Bool, true, false, List, [], ◌∷◌, ◌++◌, map, take, drop}
use Rattle.std.proofs.Common.{length, Some, None, option_map, bytes_eq, refl, sym, ap, subst, ◌∙◌, Less, inl, inr, arith}
use Rattle.std.specs.Prelude.{nat_lt, unwrap_or, slice_get, All}
use Rattle.std.specs.List.{AllByRecursion, list_any, list_all, position}
use Rattle.std.specs.List.Sorted.{IsPermutation, IsStrictlySortedBy}
use Rattle.std.proofs.lemmas.Bool.{cases_lt, or_parts}
use Rattle.std.proofs.lemmas.Bool.Decides.{nat_tests}
use Rattle.std.proofs.lemmas.List.{length-map, length-append}
use Rattle.std.proofs.lemmas.List.Elements.{recursion_from_All}
use Rattle.std.proofs.lemmas.List.Sorted.{All-permutation}
use Rattle.std.proofs.lemmas.List.Sums.{AllPass-from_list_all, list_all-from_AllPass}
use Rattle.std.proofs.lemmas.Option.{slice_get-map}
use Rattle.std.proofs.lemmas.Slice.Eq.{bytes_eq-Decides}
use Rattle.check_objects.specs.Configuration.{Configuration, Host, Service, IsSetup, named_host, named_service, object_count, host_count, number_by_name}
use Rattle.check_objects.specs.Configuration.{name_of, pair_of}
use Rattle.setup_model.specs.Name.{full_name, is_name, is_name_byte, text_order, pair_order, is_host_name}
use Rattle.setup_model.proofs.ListLemmas.{position-map, position-front, position-back, one_found, one_missed}
use Rattle.check_objects.proofs.ObjectLemmas.{slice_get-front, slice_get-back}
use Rattle.check_objects.proofs.NumberingLemmas.{new_by_order, texts_apart, names_apart, all_good}
use Rattle.setup_order.proofs.TestLemmas.{and_first, and_second, and_both}

-- ---- places

-- where nothing passes, there is no place
pub nowhere : {A : Type 0} (p : A → Bool) (xs : List A) → list_any p xs ≡ false → position p xs ≡ None
nowhere p [] e = refl
nowhere p (x ∷ xs) e =
    let b = or_parts (p x) (list_any p xs) e in
    position-back p (x ∷ []) xs (one_missed p x b.0) ∙ ap (option_map (λ j. 1 + j)) (nowhere p xs b.1)

one_more : (n : ℕ) → 1 + n ≡ suc n
one_more n = omega arith

-- the place of an element before which nothing passes
pub first_at : {A : Type 0} (p : A → Bool) (xs : List A) (n : ℕ) (x : A) → slice_get xs n ≡ Some x → p x ≡ true → list_any p (take n xs) ≡ false
    → position p xs ≡ Some n
first_at p [] n x at e new = cc
first_at p (y ∷ xs) zero x at e new = let same : y ≡ x = cc in position-front p (y ∷ []) xs 0 (one_found p y (ap p same ∙ e))
first_at p (y ∷ xs) (suc n) x at e new =
    let b = or_parts (p y) (list_any p (take n xs)) new in
    position-back p (y ∷ []) xs (one_missed p y b.0) ∙ ap (option_map (λ j. 1 + j)) (first_at p xs n x at e b.1) ∙ ap Some (one_more n)

-- an element that passes, and its place
pub record Found {A : Type 0} (p : A → Bool) (xs : List A) : Type 0 where
  pub index : ℕ
  pub item : A
  pub place : position p xs ≡ Some index
  pub at : slice_get xs index ≡ Some item
  pub passes : p item ≡ true
  pub below : index < length xs

found_by : {A : Type 0} (p : A → Bool) (x : A) (xs : List A) (b : Bool) → p x ≡ b → (b || list_any p xs) ≡ true
    → (list_any p xs ≡ true → Found p xs) → Found p (x ∷ xs)
found_by p x xs true e h more =
    record { index = 0; item = x; place = position-front p (x ∷ []) xs 0 (one_found p x e); at = refl; passes = e; below = omega arith }
found_by p x xs false e h more =
    let f = more h in
    record {
      index = suc f.index;
      item = f.item;
      place = position-back p (x ∷ []) xs (one_missed p x e) ∙ ap (option_map (λ j. 1 + j)) f.place ∙ ap Some (one_more f.index);
      at = f.at;
      passes = f.passes;
      below = omega (arith, f.below);
    }

pub found : {A : Type 0} (p : A → Bool) (xs : List A) → list_any p xs ≡ true → Found p xs
found p [] h = cc
found p (x ∷ xs) h = found_by p x xs (p x) refl h (found p xs)

-- the element at a place, and the list about it
pub record Item {A : Type 0} (xs : List A) (n : ℕ) : Type 0 where
  pub item : A
  pub at : slice_get xs n ≡ Some item
  pub split : xs ≡ take n xs ++ item ∷ drop (suc n) xs

pub item_at : {A : Type 0} (xs : List A) (n : ℕ) → n < length xs → Item xs n
item_at [] n h = absurd (omega arith)
item_at (x ∷ xs) zero h = record { item = x; at = refl; split = refl }
item_at (x ∷ xs) (suc n) h = let i = item_at xs n (omega (arith, h)) in record { item = i.item; at = i.at; split = ap (λ l. x ∷ l) i.split }

pub all_holds : {A : Type 0} (P : A → Type 0) (xs : List A) (n : ℕ) (x : A) → AllByRecursion P xs → slice_get xs n ≡ Some x → P x
all_holds P [] n x all at = cc
all_holds P (y ∷ xs) zero x all at = let same : y ≡ x = cc in subst P same all.0
all_holds P (y ∷ xs) (suc n) x all at = all_holds P xs n x all.1 at

pub all_passes : {A : Type 0} (p : A → Bool) (xs : List A) (n : ℕ) (x : A) → list_all p xs ≡ true → slice_get xs n ≡ Some x → p x ≡ true
all_passes p [] n x all at = cc
all_passes p (y ∷ xs) zero x all at = let same : y ≡ x = cc in ap p (sym same) ∙ and_first (p y) (list_all p xs) all
all_passes p (y ∷ xs) (suc n) x all at = all_passes p xs n x (and_second (p y) (list_all p xs) all) at

-- what is true of a list's elements is true in any order
pub all_moved : {A : Type 0} (p : A → Bool) (xs ys : List A) → IsPermutation xs ys → list_all p xs ≡ true → list_all p ys ≡ true
all_moved p xs ys moved all = list_all-from_AllPass p ys (All-permutation (λ x. p x ≡ true) xs ys moved (AllPass-from_list_all p xs all))

-- ---- names

pub same_text : (a : List ℕ) → bytes_eq a a ≡ true
same_text a = (bytes_eq-Decides a a).1 refl

semicolon_free : (bytes : List ℕ) → list_all is_name_byte bytes ≡ true → is_host_name bytes ≡ true
semicolon_free [] h = refl
semicolon_free (b ∷ bytes) h =
    and_both _ _ (and_second _ _ (and_first (is_name_byte b) (list_all is_name_byte bytes) h))
    (semicolon_free bytes (and_second (is_name_byte b) (list_all is_name_byte bytes) h))

-- a name has no semicolon
pub parted_name : (name : List ℕ) → is_name name ≡ true → is_host_name name ≡ true
parted_name name h = semicolon_free name (and_second _ _ (and_second _ _ h))

not_semicolon_by : (y : ℕ) (b : Bool) → (y == 59) ≡ b → not b ≡ true → (59 == y) ≡ false
not_semicolon_by y true e h = cc
not_semicolon_by y false e h = grind (arith, nat_tests, e)

never_both : (a b : Bool) → b ≡ false → (a && b) ≡ false
never_both true b e = e
never_both false b e = refl

-- a service's name is no host's
pub apart_from_hosts : (a b name : List ℕ) → is_host_name name ≡ true → bytes_eq (full_name (a, b)) name ≡ false
apart_from_hosts [] b [] h = refl
apart_from_hosts [] b (y ∷ name) h = rw (not_semicolon_by y (y == 59) refl (and_first _ (is_host_name name) h)) refl
apart_from_hosts (x ∷ a) b [] h = refl
apart_from_hosts (x ∷ a) b (y ∷ name) h = never_both (x == y) _ (apart_from_hosts a b name (and_second _ (is_host_name name) h))

pub no_host_has : {A : Type 0} (name : A → List ℕ) (text : List ℕ) (key : List ℕ × List ℕ) (xs : List A) → text ≡ full_name key
    → list_all (λ x. is_host_name (name x)) xs ≡ true → list_any (λ x. bytes_eq text (name x)) xs ≡ false
no_host_has name text key [] e h = refl
no_host_has name text key (x ∷ xs) e h =
    let here : bytes_eq text (name x) ≡ false = ap (λ t. bytes_eq t (name x)) e ∙ apart_from_hosts key.0 key.1 (name x) (and_first _ _ h) in
    rw here (no_host_has name text key xs e (and_second _ _ h))

-- ---- the names of objects

pub name_of_host : (c : Configuration) (n : ℕ) (h : Host) → slice_get c.hosts n ≡ Some h → name_of c n ≡ h.name
name_of_host c n h at =
    ap (λ o. unwrap_or (option_map (λ x. x.name) o) [])
    (slice_get-front (map named_host c.hosts) (map named_service c.services) n (named_host h)
    (slice_get-map named_host c.hosts n ∙ ap (option_map named_host) at))

pub name_of_service : (c : Configuration) (j : ℕ) (s : Service) → slice_get c.services j ≡ Some s → name_of c (host_count c + j) ≡ s.name
name_of_service c j s at =
    let n = host_count c + j in
    ap (λ o. unwrap_or (option_map (λ x. x.name) o) [])
    (slice_get-back (map named_host c.hosts) (map named_service c.services) n j (omega (arith, length-map c.hosts named_host))
    ∙ slice_get-map named_service c.services j ∙ ap (option_map named_service) at)

-- what makes the names of a configuration different
pub record HasNames (c : Configuration) : Type 0 where
  pub host_names : list_all (λ h. is_name h.name) c.hosts ≡ true
  pub full_names : All (λ s. s.name ≡ full_name (pair_of c s)) c.services
  pub hosts_ascend : IsStrictlySortedBy text_order (map (λ h. h.name) c.hosts)
  pub services_ascend : IsStrictlySortedBy pair_order (map (pair_of c) c.services)
  pub hosts_in_range : list_all (λ s. nat_lt s.host (length c.hosts)) c.services ≡ true

pub names_of_setup : (c : Configuration) → IsSetup c → HasNames c
names_of_setup c is =
    record { host_names = is.host_names; full_names = is.full_names; hosts_ascend = is.hosts_ascend; services_ascend = is.services_ascend; hosts_in_range = is.hosts_in_range }

good_hosts : (c : Configuration) → HasNames c → list_all (λ h. is_host_name h.name) c.hosts ≡ true
good_hosts c is =
    list_all-from_AllPass (λ h. is_host_name h.name) c.hosts (λ k d below. parted_name (get_or c.hosts k d).name
    (AllPass-from_list_all (λ h. is_name h.name) c.hosts is.host_names k d below))

module _ (c : Configuration) (is : HasNames c) where
  host_number : (n : ℕ) → n < host_count c → number_by_name c (name_of c n) ≡ Some n
  host_number n below =
      let i = item_at c.hosts n below in
      let h = i.item in
      let sorted = subst (λ l. IsStrictlySortedBy text_order (map (λ x. x.name) l)) i.split is.hosts_ascend in
      let new : list_any (λ x. bytes_eq h.name x.name) (take n c.hosts) ≡ false =
      new_by_order text_order (λ x. x.name) (λ x. x.name) (λ x. true) (λ x y p q less. texts_apart x.name y.name less) (take n c.hosts) h
      (drop (suc n) c.hosts) sorted (all_good (take n c.hosts ++ h ∷ drop (suc n) c.hosts)) in
      let place : position (λ o. bytes_eq h.name o.name) (map named_host c.hosts) ≡ Some n =
      position-map (λ o. bytes_eq h.name o.name) named_host c.hosts ∙ first_at (λ x. bytes_eq h.name x.name) c.hosts n h i.at (same_text h.name) new in
      ap (number_by_name c) (name_of_host c n h i.at) ∙ position-front (λ o. bytes_eq h.name o.name) (map named_host c.hosts) (map named_service c.services) n place

  host_of_service : (s : Service) → nat_lt s.host (length c.hosts) ≡ true → is_host_name (pair_of c s).0 ≡ true
  host_of_service s below =
      let i = item_at c.hosts s.host (grind (arith, nat_tests, below)) in
      ap is_host_name (name_of_host c s.host i.item i.at) ∙ parted_name i.item.name (all_passes (λ h. is_name h.name) c.hosts s.host i.item is.host_names i.at)

  -- the host of the service is named, and the service itself after it
  is_named : Service → Bool
  is_named s = is_host_name (pair_of c s).0 && bytes_eq s.name (full_name (pair_of c s))

  all_named : (ss : List Service) → list_all (λ s. nat_lt s.host (length c.hosts)) ss ≡ true
      → AllByRecursion (λ s. s.name ≡ full_name (pair_of c s)) ss → list_all is_named ss ≡ true
  unfolding is_named
  all_named [] h k = refl
  all_named (s ∷ ss) h k =
      let named : bytes_eq s.name (full_name (pair_of c s)) ≡ true = (bytes_eq-Decides s.name (full_name (pair_of c s))).1 k.0 in
      and_both _ _ (and_both _ _ (host_of_service s (and_first _ _ h)) named) (all_named ss (and_second _ _ h) k.1)

  named_after : (s : Service) → is_named s ≡ true → s.name ≡ full_name (pair_of c s)
  unfolding is_named
  named_after s h = (bytes_eq-Decides s.name (full_name (pair_of c s))).0 (and_second (is_host_name (pair_of c s).0) _ h)

  services_apart : (s t : Service) → is_named s ≡ true → is_named t ≡ true → pair_order (pair_of c s) (pair_of c t) ≡ Less → bytes_eq t.name s.name ≡ false
  unfolding is_named
  services_apart s t p q less =
      ap (λ a. bytes_eq a s.name) (named_after t q) ∙ ap (bytes_eq (full_name (pair_of c t))) (named_after s p)
      ∙ names_apart (pair_of c s) (pair_of c t) (and_first _ _ p) (and_first _ _ q) less

  service_number : (j : ℕ) → j < length c.services → number_by_name c (name_of c (host_count c + j)) ≡ Some (host_count c + j)
  service_number j below =
      let i = item_at c.services j below in
      let s = i.item in
      let named = recursion_from_All (λ t. t.name ≡ full_name (pair_of c t)) c.services is.full_names in
      let good : list_all is_named (take j c.services ++ s ∷ drop (suc j) c.services) ≡ true = ap (list_all is_named) (sym i.split)
      ∙ all_named c.services is.hosts_in_range named in
      let sorted = subst (λ l. IsStrictlySortedBy pair_order (map (pair_of c) l)) i.split is.services_ascend in
      let new : list_any (λ x. bytes_eq s.name x.name) (take j c.services) ≡ false =
      new_by_order pair_order (pair_of c) (λ x. x.name) is_named services_apart (take j c.services) s (drop (suc j) c.services) sorted good in
      let place : position (λ o. bytes_eq s.name o.name) (map named_service c.services) ≡ Some j =
      position-map (λ o. bytes_eq s.name o.name) named_service c.services ∙ first_at (λ x. bytes_eq s.name x.name) c.services j s i.at (same_text s.name) new in
      let no_host : position (λ o. bytes_eq s.name o.name) (map named_host c.hosts) ≡ None =
      position-map (λ o. bytes_eq s.name o.name) named_host c.hosts
      ∙ nowhere (λ h. bytes_eq s.name h.name) c.hosts (no_host_has (λ h. h.name) s.name (pair_of c s) c.hosts
      (all_holds (λ t. t.name ≡ full_name (pair_of c t)) c.services j s named i.at) (good_hosts c is)) in
      ap (number_by_name c) (name_of_service c j s i.at)
      ∙ position-back (λ o. bytes_eq s.name o.name) (map named_host c.hosts) (map named_service c.services) no_host
      ∙ ap (option_map (λ k. length (map named_host c.hosts) + k)) place
      ∙ ap (λ k. Some (k + j)) (length-map c.hosts named_host)

  -- the name of an object leads back to it
  pub name_leads_back : (n : ℕ) → n < object_count c → number_by_name c (name_of c n) ≡ Some n
  name_leads_back n below = elim (cases_lt n (host_count c)) [
    | inl l ↦ host_number n l
    | inr l ↦ let j = n - host_count c in
        let whole : n ≡ host_count c + j = omega (arith, l) in
        let within : j < length c.services = omega (
          arith,
          l,
          below,
          length-append (map named_host c.hosts)
              (map named_service c.services),
          length-map c.hosts named_host,
          length-map c.services named_service,
        ) in
        ap (λ k. number_by_name c (name_of c k)) whole ∙ service_number j within ∙ ap Some (sym whole)
  ]
