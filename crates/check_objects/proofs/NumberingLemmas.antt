-- Objects put in the order of their names.
use Rattle.std.proofs.Common.{◌≡◌, ℕ, ◌+◌, ◌<◌, ◌==◌, ◌&&◌, not, Bool, true, false, List, [], ◌∷◌, ◌++◌, map, take, drop, get_or, length, String, Global}
use Rattle.std.proofs.lemmas.Bool.{or_parts}
use Rattle.std.proofs.Common.{string_bytes, bytes_eq, refl, sym, ap, subst, ◌∙◌, Ordering, Less, Equal, Greater, nat_cmp, is_eq}
use Rattle.std.proofs.Common.{arith}
use Rattle.std.proofs.lemmas.Bool.Decides.{nat_tests}
use Rattle.std.proofs.lemmas.Cmp.{nat_list_cmp_total}
use Rattle.std.proofs.lemmas.List.{map-append, take-append-drop, take_more}
use Rattle.std.proofs.lemmas.Map.Text.{is_eq-slice_cmp}
use Rattle.std.specs.Cmp.Lexicographic.{slice_cmp}
use Rattle.std.specs.List.{AllByRecursion, list_any, list_all}
use Rattle.std.specs.List.Sorted.{IsStrictlySortedBy}
use Rattle.std.specs.String.{string_eq}
use Rattle.indexmap.specs.IndexMap.{insert_entry as insert_entry_by}
use Rattle.std.specs.Ordering.{ordering_reverse, ordering_then}
use Rattle.check_objects.specs.Entries.{description_in}
use Rattle.setup_order.proofs.TestLemmas.{both_true, not_true}
use Rattle.setup_model.proofs.ListLemmas.{dropped_at}
use Rattle.setup_model.specs.Name.{full_name, is_host_name, text_order, pair_order}

-- ---- a list that a loop makes of another, item by item

pub seen_next : {A B C D : Type 0} (see : D → C) (one : B → C) (view : A → B) (old new : List D) (z : D) (xs : List A) (i : ℕ) (none item : A)
    → map see old ≡ map one (map view (take i xs)) → i < length xs → item ≡ get_or xs i none → new ≡ old ++ z ∷ [] → see z ≡ one (view item)
    → map see new ≡ map one (map view (take (i + 1) xs))
seen_next see one view old new z xs i none item so_far below is grew same =
    ap (map see) grew ∙ map-append see old (z ∷ []) ∙ (λ j. so_far j ++ same j ∷ [])
    ∙ sym (map-append one (map view (take i xs)) (view item ∷ []))
    ∙ ap (map one) (sym (map-append view (take i xs) (item ∷ [])))
    ∙ ap (λ l. map one (map view l)) (ap (λ x. take i xs ++ x ∷ []) is ∙ sym (take_more xs i none below))

-- a full name's description stands behind its first semicolon
pub description_behind : (host description : List ℕ) → is_host_name host ≡ true → description_in (full_name (host, description)) ≡ description
description_behind [] description h = refl
description_behind (b ∷ host) description h =
    let other : (b == 59) ≡ false = not_true (b == 59) (both_true (not (b == 59)) (is_host_name host) h).0 in
    rw other (description_behind host description (both_true (not (b == 59)) (is_host_name host) h).1)

pub all_good : {E : Type 0} (xs : List E) → list_all (λ x. true) xs ≡ true
all_good [] = refl
all_good (x ∷ xs) = all_good xs

-- ---- keys that rise: each has a text that none before it has

module _ {K E : Type 0} (order : K → K → Ordering) (key : E → K) (text : E → List ℕ) (good : E → Bool)
    (apart : (x e : E) → good x ≡ true → good e ≡ true → order (key x) (key e) ≡ Less → bytes_eq (text e) (text x) ≡ false) where
  below_later : (x : E) (done : List E) (e : E) (more : List E) → AllByRecursion (λ y. order (key x) y ≡ Less) (map key (done ++ e ∷ more))
      → order (key x) (key e) ≡ Less
  below_later x [] e more h = h.0
  below_later x (y ∷ done) e more h = below_later x done e more h.1

  good_later : (done : List E) (e : E) (more : List E) → list_all good (done ++ e ∷ more) ≡ true → good e ≡ true
  good_later [] e more h = (both_true (good e) (list_all good more) h).0
  good_later (x ∷ done) e more h = good_later done e more (both_true (good x) (list_all good (done ++ e ∷ more)) h).1

  pub new_by_order : (done : List E) (e : E) (more : List E) → IsStrictlySortedBy order (map key (done ++ e ∷ more))
      → list_all good (done ++ e ∷ more) ≡ true → list_any (λ x. bytes_eq (text e) (text x)) done ≡ false
  unfolding IsStrictlySortedBy
  new_by_order [] e more h g = refl
  new_by_order (x ∷ done) e more h g =
      let b = both_true (good x) (list_all good (done ++ e ∷ more)) g in
      rw (apart x e b.0 (good_later done e more b.1) (below_later x done e more h.0)) (new_by_order done e more h.1 b.1)

  -- the item of this number in an ascending list has a text that none before it has
  pub new_at : {D : Type 0} (view : D → E) (ds : List D) (i : ℕ) (none item : D) → i < length ds → item ≡ get_or ds i none
      → IsStrictlySortedBy order (map key (map view ds)) → list_all good (map view ds) ≡ true
      → list_any (λ x. bytes_eq (text (view item)) (text x)) (map view (take i ds)) ≡ false
  new_at view ds i none item below is sorted fine =
      let split : ds ≡ take i ds ++ item ∷ drop (i + 1) ds = sym (take-append-drop i ds) ∙ ap (λ l. take i ds ++ l)
      (dropped_at ds i none below ∙ ap (λ x. x ∷ drop (i + 1) ds) (sym is)) in
      let whole = ap (map view) split ∙ map-append view (take i ds) (item ∷ drop (i + 1) ds) in
      new_by_order (map view (take i ds)) (view item) (map view (drop (i + 1) ds)) (subst (λ l. IsStrictlySortedBy order (map key l)) whole sorted)
      (ap (list_all good) (sym whole) ∙ fine)

-- texts that rise are different
pub texts_apart : (a b : List ℕ) → text_order a b ≡ Less → bytes_eq b a ≡ false
texts_apart a b less =
    let above : slice_cmp nat_cmp b a ≡ Greater = nat_list_cmp_total.antisymm b a ∙ ap ordering_reverse less in
    sym (is_eq-slice_cmp b a) ∙ ap is_eq above

pairs_by : (first second : Ordering) (a b : Bool) → ordering_then first second ≡ Less → (first ≡ Less → a ≡ false) → (second ≡ Less → b ≡ false)
    → (a && b) ≡ false
pairs_by Less second a b e f g = rw (f refl) refl
pairs_by Equal second true b e f g = g e
pairs_by Equal second false b e f g = refl
pairs_by Greater second a b e f g = cc

not_semicolon : (y : ℕ) → not (y == 59) ≡ true → (59 == y) ≡ false
not_semicolon y e = let f : (y == 59) ≡ false = not_true (y == 59) e in grind (arith, nat_tests, f)

and_assoc : (a b c : Bool) → ((a && b) && c) ≡ (a && (b && c))
and_assoc true b c = refl
and_assoc false b c = refl

-- full names are the same where both parts are, since no host's name has a semicolon
full_same : (a b d e : List ℕ) → is_host_name a ≡ true → is_host_name b ≡ true → bytes_eq (full_name (a, d)) (full_name (b, e)) ≡ (bytes_eq a b && bytes_eq d e)
full_same [] [] d e p q = refl
full_same [] (y ∷ b) d e p q = let other : (59 == y) ≡ false = not_semicolon y (both_true (not (y == 59)) (is_host_name b) q).0 in rw other refl
full_same (x ∷ a) [] d e p q = let other : (x == 59) ≡ false = not_true (x == 59) (both_true (not (x == 59)) (is_host_name a) p).0 in rw other refl
full_same (x ∷ a) (y ∷ b) d e p q =
    ap (λ t. (x == y) && t) (full_same a b d e (both_true (not (x == 59)) (is_host_name a) p).1 (both_true (not (y == 59)) (is_host_name b) q).1)
    ∙ sym (and_assoc (x == y) (bytes_eq a b) (bytes_eq d e))

-- full names of pairs that rise are different
pub names_apart : (a b : List ℕ × List ℕ) → is_host_name a.0 ≡ true → is_host_name b.0 ≡ true → pair_order a b ≡ Less
    → bytes_eq (full_name b) (full_name a) ≡ false
names_apart a b p q less =
    full_same b.0 a.0 b.1 a.1 q p
    ∙ pairs_by (text_order a.0 b.0) (text_order a.1 b.1) (bytes_eq b.0 a.0) (bytes_eq b.1 a.1) less (texts_apart a.0 b.0) (texts_apart a.1 b.1)

-- ---- maps that grow at their end

pub insert_new : {X : Type 0} (es : List (String Global × X)) (k : String Global) (v : X)
    → list_any (λ e. bytes_eq (string_bytes k) (string_bytes e.0)) es ≡ false → insert_entry_by string_eq es k v ≡ es ++ (k, v) ∷ []
insert_new [] k v new = refl
insert_new (e ∷ es) k v new =
    let b = or_parts (bytes_eq (string_bytes k) (string_bytes e.0)) (list_any (λ e. bytes_eq (string_bytes k) (string_bytes e.0)) es) new in
    rw b.0 (ap (λ l. e ∷ l) (insert_new es k v b.1))

pub map_twice : {A B C : Type 0} (f : B → C) (g : A → B) (xs : List A) → map (λ x. f (g x)) xs ≡ map f (map g xs)
map_twice f g [] = refl
map_twice f g (x ∷ xs) = ap (λ l. f (g x) ∷ l) (map_twice f g xs)
