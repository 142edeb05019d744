-- Items in the order of their keys: they are all there, and where no key occurs twice they are the only ascending list of these items.
use Rattle.std.proofs.Common.{◌≡◌, ℕ, zero, suc, get_or, ◌+◌, ◌<◌, ◌≤◌, Bool, true, false, cond, List, [], ◌∷◌, ◌++◌, map, length, Option, Some, None, refl}
use Rattle.std.proofs.Common.{sym}
use Rattle.std.proofs.Common.{ap, subst, ◌∙◌, append_assoc, append-nil, Ordering, Less, Equal, Greater, is_eq, arith}
use Rattle.std.specs.Prelude.{All}
use Rattle.std.specs.Cmp.{IsStrictWeakOrder, IsTotalOrder}
use Rattle.std.specs.List.{AllByRecursion, list_any, count_by, range_with_len}
use Rattle.std.specs.List.Sorted.{IsPermutation, IsSortedBy, IsStrictlySortedBy}
use Rattle.std.specs.Ordering.{is_lt, ordering_reverse}
use Rattle.std.proofs.lemmas.Bool.{or_parts}
use Rattle.std.proofs.lemmas.Cmp.{tied_itself}
use Rattle.std.proofs.lemmas.List.{ext_get_or, get_or_default, length-map, get_or-map}
use Rattle.std.proofs.lemmas.List.Elements.{All-cons, All-from_recursion, All-nil}
use Rattle.std.proofs.lemmas.List.FromFn.{get_or-range_with_len}
use Rattle.std.proofs.lemmas.List.Sorted.{All-permutation, IsPermutation-refl, IsPermutation-sym, IsPermutation-trans, IsPermutation-cons, IsPermutation-middle}
use Rattle.std.proofs.lemmas.List.Sorted.{IsPermutation-map, IsPermutation-to_front, length_permutation, ranks_by, sorted_far, sum_by-IsPermutation}
use Rattle.std.proofs.lemmas.List.Sums.{sum_by-cons}
use Rattle.setup_model.specs.Keys.{first_repeat}
use Rattle.setup_model.proofs.RepeatLemmas.{first_repeat_is, repeat_after}
use Rattle.check_objects.specs.Numbering.{in_order, put_in_order, smaller_count}

shifted : (a n : ℕ) → map (λ k. 1 + k) (range_with_len a n) ≡ range_with_len (1 + a) n
shifted a zero = refl
shifted a (suc n) = ap (λ l. (1 + a) ∷ l) (shifted (a + 1) n ∙ ap (λ k. range_with_len k n) (let e : 1 + (a + 1) ≡ (1 + a) + 1 = omega arith in e))

counted : {A : Type 0} (p : A → Bool) (x : A) (xs : List A) (b : Bool) → p x ≡ b → count_by p (x ∷ xs) ≡ cond b 1 0 + count_by p xs
counted p x xs b e = sum_by-cons (λ y. cond (p y) 1 0) x xs ∙ ap (λ c. cond c 1 0 + count_by p xs) e

no_repeat : {X : Type 0} (b : Bool) (i : X) (later : Option X) → cond b (Some i) later ≡ None → (b ≡ false) × (later ≡ None)
no_repeat true i later e = cc
no_repeat false i later e = (refl, e)

is_eq-back : (o : Ordering) → is_eq (ordering_reverse o) ≡ is_eq o
is_eq-back Less = refl
is_eq-back Equal = refl
is_eq-back Greater = refl

less_by : (o back : Ordering) → back ≡ ordering_reverse o → is_lt back ≡ false → is_eq o ≡ false → o ≡ Less
less_by Less back e not_less apart = refl
less_by Equal back e not_less apart = cc
less_by Greater back e not_less apart = let less : is_lt back ≡ true = ap is_lt e in cc

apart_by : (b : Bool) (n m : ℕ) → n ≡ cond b 1 0 + m → n ≡ 0 → b ≡ false
apart_by true n m e none = absurd (omega (arith, e, none))
apart_by false n m e none = refl

module _ {K : Type 0} (order : K → K → Ordering) (total : IsTotalOrder order) where
  -- ---- the place of a key in an ascending list

  greater : (x y : K) → order x y ≡ Less → is_lt (order y x) ≡ false
  greater x y h = ap is_lt (total.antisymm y x ∙ ap ordering_reverse h)

  none_smaller : (x : K) (ys : List K) → AllByRecursion (λ y. order x y ≡ Less) ys → smaller_count order ys x ≡ 0
  none_smaller x [] h = refl
  none_smaller x (y ∷ ys) h = counted (λ k. is_lt (order k x)) y ys false (greater x y h.0) ∙ (let e = none_smaller x ys h.1 in omega (arith, e))

  raised : (k : K) (all ys : List K) → AllByRecursion (λ y. order k y ≡ Less) ys
      → map (smaller_count order (k ∷ all)) ys ≡ map (λ n. 1 + n) (map (smaller_count order all) ys)
  raised k all [] h = refl
  raised k all (y ∷ ys) h =
      let here : smaller_count order (k ∷ all) y ≡ 1 + smaller_count order all y = counted (λ x. is_lt (order x y)) k all true (ap is_lt h.0) in
      let more = raised k all ys h.1 in
      λ i. here i ∷ more i

  -- the keys by their numbers are 0, 1, 2 and on
  pub ranks : (ks : List K) → IsStrictlySortedBy order ks → map (smaller_count order ks) ks ≡ range_with_len 0 (length ks)
  unfolding IsStrictlySortedBy
  ranks [] s = refl
  ranks (k ∷ ks) s =
      let here : smaller_count order (k ∷ ks) k ≡ 0 = counted
      (λ x. is_lt (order x k)) k ks false (ap is_lt (tied_itself total k)) ∙ (let e = none_smaller k ks s.0 in omega (arith, e)) in
      let more = raised k ks ks s.0 ∙ ap (map (λ n. 1 + n)) (ranks ks s.1) ∙ shifted 0 (length ks) in
      λ i. here i ∷ more i

  -- the key at a place has that many smaller ones
  pub rank_at : (ks : List K) (n : ℕ) (d : K) → IsStrictlySortedBy order ks → n < length ks → smaller_count order ks (get_or ks n d) ≡ n
  rank_at ks n d s below =
      sym (get_or-map (smaller_count order ks) ks n d 0 below) ∙ ap
      (λ l. get_or l n 0) (ranks ks s) ∙ get_or-range_with_len 0 (length ks) n 0 below ∙ (let e : 0 + n ≡ n = omega arith in e)

  -- ---- keys that occur once

  -- how many of these keys equal a key
  abbrev times : List K → K → ℕ
  times ks k = count_by (λ q. is_eq (order k q)) ks

  -- no key occurs twice
  abbrev pub AreOnce : List K → Type 0
  AreOnce ks = All (λ k. times ks k ≡ 1) ks

  pub once_moved : (ks qs : List K) → IsPermutation ks qs → AreOnce ks → AreOnce qs
  once_moved ks qs moved once =
      λ i d below. sum_by-IsPermutation (λ q. cond (is_eq (order (get_or qs i d) q)) 1 0) ks qs moved
      ∙ All-permutation (λ k. times ks k ≡ 1) ks qs moved once i d below

  apart_back : (k q : K) → is_eq (order k q) ≡ false → is_eq (order q k) ≡ false
  apart_back k q e = ap is_eq (total.antisymm q k) ∙ is_eq-back (order k q) ∙ e

  none_equal : (k : K) (ks : List K) → list_any (λ q. is_eq (order k q)) ks ≡ false → (times ks k ≡ 0) × AllByRecursion (λ q. is_eq (order k q) ≡ false) ks
  none_equal k [] e = (refl, tt)
  none_equal k (q ∷ ks) e =
      let parts = or_parts (is_eq (order k q)) (list_any (λ x. is_eq (order k x)) ks) e in
      let more = none_equal k ks parts.1 in
      (omega (arith, counted (λ x. is_eq (order k x)) q ks false parts.0, more.0), (parts.0, more.1))

  once_more : (k : K) (ks : List K) → list_any (λ q. is_eq (order k q)) ks ≡ false → AreOnce ks → AreOnce (k ∷ ks)
  once_more k ks new once =
      let none = none_equal k ks new in
      All-cons (λ q. times (k ∷ ks) q ≡ 1) k ks (omega (arith, counted (λ x. is_eq (order k x)) k ks true (ap is_eq (tied_itself total k)), none.0))
      (λ i d below.
      let q = get_or ks i d in
      let apart = apart_back k q (All-from_recursion (λ x. is_eq (order k x) ≡ false) ks none.1 i d below) in
      omega (arith, counted (λ x. is_eq (order q x)) k ks false apart, once i d below))

  module _ (same : K → K → Bool) (agree : (a b : K) → same a b ≡ is_eq (order a b)) where
    once_after : (before : List K) (i : ℕ) (ks : List K) → repeat_after same before i ks ≡ None → AreOnce before → AreOnce (before ++ ks)
    once_after before i [] e once = subst AreOnce (sym (append-nil before)) once
    once_after before i (k ∷ ks) e once =
        let first = no_repeat (list_any (same k) before) i (repeat_after same (before ++ k ∷ []) (i + 1) ks) e in
        let agrees : (λ q. is_eq (order k q)) ≡ same k = λ j q. sym (agree k q) j in
        let one_more = once_more k before (ap (λ p. list_any p before) agrees ∙ first.0) once in
        subst AreOnce (append_assoc before (k ∷ []) ks) (once_after (before ++ k ∷ []) (i + 1) ks first.1
        (once_moved (k ∷ before) (before ++ k ∷ []) (IsPermutation-sym (before ++ k ∷ []) (k ∷ before) (IsPermutation-to_front before k)) one_more))

    -- where no key repeats an earlier one, none occurs twice
    pub once_where_apart : (ks : List K) → first_repeat same ks ≡ None → AreOnce ks
    once_where_apart ks e = once_after [] 0 ks (sym (first_repeat_is same ks) ∙ e) (All-nil (λ k. times [] k ≡ 1))

  -- ---- keys that rise

  -- no key is less than one before it
  abbrev Rises : List K → Type 0
  Rises [] = Unit {0}
  Rises (k ∷ ks) = AllByRecursion (λ q. is_lt (order q k) ≡ false) ks × Rises ks

  all_less : (k : K) (ks : List K) → AllByRecursion (λ q. is_lt (order q k) ≡ false) ks → times ks k ≡ 0 → AllByRecursion (λ q. order k q ≡ Less) ks
  all_less k [] above none = tt
  all_less k (q ∷ ks) above none =
      let size = counted (λ x. is_eq (order k x)) q ks (is_eq (order k q)) refl in
      let apart = apart_by (is_eq (order k q)) (times (q ∷ ks) k) (times ks k) size none in
      let later : times ks k ≡ 0 = omega (arith, size, none) in
      (less_by (order k q) (order q k) (total.antisymm q k) above.0 apart, all_less k ks above.1 later)

  strict : (ks : List K) → Rises ks → AreOnce ks → IsStrictlySortedBy order ks
  unfolding IsStrictlySortedBy
  strict [] up once = tt
  strict (k ∷ ks) up once =
      let none : times ks k ≡ 0 = omega (arith, counted (λ x. is_eq (order k x)) k ks true (ap is_eq (tied_itself total k)), once 0 k (omega arith)) in
      let below = all_less k ks up.0 none in (
        below,
        strict ks up.1 (λ i d h.
            let q = get_or ks i d in
            let apart = apart_back k q (ap is_eq (All-from_recursion (λ x. order k x ≡ Less) ks below i d h)) in
            omega (arith, counted (λ x. is_eq (order q x)) k ks false apart, once (suc i) d (omega (arith, h)))),
      )

  ranks_of : IsStrictWeakOrder (λ x y. is_lt (order x y))
  ranks_of = ranks_by total (λ k. k)

  above_more : (x y : K) (ks : List K) → is_lt (order y x) ≡ false → AllByRecursion (λ q. is_lt (order q y) ≡ false) ks
      → AllByRecursion (λ q. is_lt (order q x) ≡ false) ks
  above_more x y [] e all = tt
  above_more x y (k ∷ ks) e all = (ranks_of.chain k y x all.0 e, above_more x y ks e all.1)

  -- ---- items with keys

  module _ {A : Type 0} (key : A → K) where
    put_all_by : (x y : A) (ys : List A) (b : Bool) → IsPermutation (x ∷ ys) (put_in_order order key x ys)
        → IsPermutation (x ∷ y ∷ ys) (cond b (y ∷ put_in_order order key x ys) (x ∷ y ∷ ys))
    put_all_by x y ys false more = IsPermutation-refl (x ∷ y ∷ ys)
    put_all_by x y ys true more =
        IsPermutation-trans (x ∷ y ∷ ys) (y ∷ x ∷ ys) (y ∷ put_in_order order key x ys)
        (IsPermutation-sym (y ∷ x ∷ ys) (x ∷ y ∷ ys) (IsPermutation-middle (y ∷ []) x ys))
        (IsPermutation-cons y (x ∷ ys) (put_in_order order key x ys) more)

    put_all : (x : A) (ys : List A) → IsPermutation (x ∷ ys) (put_in_order order key x ys)
    put_all x [] = IsPermutation-refl (x ∷ [])
    put_all x (y ∷ ys) = put_all_by x y ys (is_lt (order (key y) (key x))) (put_all x ys)

    -- the items in order are all of them
    pub all_in_order : (xs : List A) → IsPermutation xs (in_order order key xs)
    all_in_order [] = IsPermutation-refl []
    all_in_order (x ∷ xs) =
        IsPermutation-trans (x ∷ xs) (x ∷ in_order order key xs) (in_order order key (x ∷ xs))
        (IsPermutation-cons x xs (in_order order key xs) (all_in_order xs)) (put_all x (in_order order key xs))

    put_above_by : (k : K) (x y : A) (ys : List A) (b : Bool) → is_lt (order (key x) k) ≡ false → AllByRecursion (λ q. is_lt (order q k) ≡ false) (map key (y ∷ ys))
        → AllByRecursion (λ q. is_lt (order q k) ≡ false) (map key (put_in_order order key x ys))
        → AllByRecursion (λ q. is_lt (order q k) ≡ false) (map key (cond b (y ∷ put_in_order order key x ys) (x ∷ y ∷ ys)))
    put_above_by k x y ys true h all more = (all.0, more)
    put_above_by k x y ys false h all more = (h, all)

    put_above : (k : K) (x : A) (ys : List A) → is_lt (order (key x) k) ≡ false → AllByRecursion (λ q. is_lt (order q k) ≡ false) (map key ys)
        → AllByRecursion (λ q. is_lt (order q k) ≡ false) (map key (put_in_order order key x ys))
    put_above k x [] h all = (h, tt)
    put_above k x (y ∷ ys) h all = put_above_by k x y ys (is_lt (order (key y) (key x))) h all (put_above k x ys h all.1)

    put_rises_by : (x y : A) (ys : List A) (b : Bool) → is_lt (order (key y) (key x)) ≡ b → Rises (map key (y ∷ ys)) → Rises (map key (put_in_order order key x ys))
        → Rises (map key (cond b (y ∷ put_in_order order key x ys) (x ∷ y ∷ ys)))
    put_rises_by x y ys true e up more = (put_above (key y) x ys (ranks_of.one_way (key y) (key x) e) up.0, more)
    put_rises_by x y ys false e up more = ((e, above_more (key x) (key y) (map key ys) e up.0), up)

    put_rises : (x : A) (ys : List A) → Rises (map key ys) → Rises (map key (put_in_order order key x ys))
    put_rises x [] up = (tt, tt)
    put_rises x (y ∷ ys) up = put_rises_by x y ys (is_lt (order (key y) (key x))) refl up (put_rises x ys up.1)

    in_order_rises : (xs : List A) → Rises (map key (in_order order key xs))
    in_order_rises [] = tt
    in_order_rises (x ∷ xs) = put_rises x (in_order order key xs) (in_order_rises xs)

    -- where no key occurs twice, the items in order ascend
    pub in_order_ascends : (xs : List A) → AreOnce (map key xs) → IsStrictlySortedBy order (map key (in_order order key xs))
    in_order_ascends xs once =
        strict (map key (in_order order key xs)) (in_order_rises xs)
        (once_moved (map key xs) (map key (in_order order key xs)) (IsPermutation-map key xs (in_order order key xs) (all_in_order xs)) once)

    rank_of_item : (xs : List A) (i : ℕ) (d : A) → IsStrictlySortedBy order (map key xs) → i < length xs
        → smaller_count order (map key xs) (key (get_or xs i d)) ≡ i
    rank_of_item xs i d up below =
        ap (smaller_count order (map key xs)) (sym (get_or-map key xs i d (key d) below))
        ∙ rank_at (map key xs) i (key d) up (omega (arith, below, length-map xs key))

    same_items : (xs ys : List A) (d : A) → IsPermutation xs ys → IsStrictlySortedBy order (map key xs) → IsStrictlySortedBy order (map key ys) → xs ≡ ys
    same_items xs ys d moved up also_up =
        let rank = λ (x : A). smaller_count order (map key xs) (key x) in
        let placed = All-permutation (λ x. get_or xs (rank x) d ≡ x) xs ys moved
        (λ i e below. ap (λ n. get_or xs n d) (rank_of_item xs i e up below) ∙ get_or_default xs i d e below) in
        let size = length_permutation xs ys moved in
        ext_get_or d xs ys (sym size) (λ i h.
        let below : i < length ys = omega (arith, h, size) in
        let counts = sum_by-IsPermutation (λ q. cond (is_lt (order q (key (get_or ys i d)))) 1 0) (map key xs) (map key ys) (IsPermutation-map key xs ys moved) in
        let here : rank (get_or ys i d) ≡ i = sym counts ∙ rank_of_item ys i d also_up below in
        ap (λ n. get_or xs n d) (sym here) ∙ placed i d below)

    -- two ascending lists of the same items are one
    only_list : (xs ys : List A) → IsPermutation xs ys → IsStrictlySortedBy order (map key xs) → IsStrictlySortedBy order (map key ys) → xs ≡ ys
    only_list [] [] moved up also_up = refl
    only_list [] (y ∷ ys) moved up also_up = absurd (omega (arith, length_permutation [] (y ∷ ys) moved))
    only_list (x ∷ xs) ys moved up also_up = same_items (x ∷ xs) ys x moved up also_up

    module _ {D : Type 0} (view : D → A) where
      above_from : (x : D) (ds : List D) → ((j : ℕ) → j < length ds → is_lt (order (key (view (get_or ds j x))) (key (view x))) ≡ false)
          → AllByRecursion (λ q. is_lt (order q (key (view x))) ≡ false) (map key (map view ds))
      above_from x [] h = tt
      above_from x (d ∷ ds) h = (h 0 (omega arith), above_from x ds (λ j below. h (suc j) (omega (arith, below))))

      rises_from : (ds : List D) → ((i j : ℕ) (d : D) → i ≤ j → j < length ds → is_lt (order (key (view (get_or ds j d))) (key (view (get_or ds i d)))) ≡ false)
          → Rises (map key (map view ds))
      rises_from [] h = tt
      rises_from (d ∷ ds) h = (
        above_from d ds (λ j below. h 0 (suc j) d (omega arith) (omega (arith, below))),
        rises_from ds (λ i j e low below. h (suc i) (suc j) e (omega (arith, low)) (omega (arith, below))),
      )

      -- what a sort makes of items whose keys occur once is the items in order
      pub sorted_is_in_order : (ds sorted : List D) → AreOnce (map key (map view ds)) → IsPermutation ds sorted
          → IsSortedBy (λ x y. is_lt (order (key (view x)) (key (view y)))) sorted → map view sorted ≡ in_order order key (map view ds)
      sorted_is_in_order ds sorted once moved up =
          let xs = map view ds in
          let ys = map view sorted in
          let there = IsPermutation-map view ds sorted moved in
          let far = sorted_far (λ x y. is_lt (order (key (view x)) (key (view y)))) (ranks_by total (λ d. key (view d))) sorted up in
          only_list ys (in_order order key xs) (IsPermutation-trans ys xs (in_order order key xs) (IsPermutation-sym xs ys there) (all_in_order xs))
          (strict (map key ys) (rises_from sorted far) (once_moved (map key xs) (map key ys) (IsPermutation-map key xs ys there) once)) (in_order_ascends xs once)
