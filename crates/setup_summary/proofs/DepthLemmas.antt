-- The depths of objects, and the longest chain by them.
use Rattle.std.proofs.Common.{◌≡◌, ℕ, zero, suc, ◌+◌, ◌<◌, ◌≤◌, ◌==◌, ◌⊎◌, inl, inr, Bool, true, false, List, [], ◌∷◌, ◌++◌, length, take, get_or, refl, sym}
use Rattle.std.proofs.Common.{◌∙◌, arith}
use Rattle.std.proofs.Common.{append_assoc, append-nil, replicate}
use Rattle.std.specs.Prelude.{nat_lt, slice_set}
use Rattle.std.specs.List.{list_any, list_all}
use Rattle.std.proofs.lemmas.Bool.{cases_lt, cases_eq, eqb-true}
use Rattle.std.proofs.lemmas.List.{get_or-set_same, get_or-set_other, length-set, length-replicate}
use Rattle.setup_order.specs.Cycles.{links_of, deep, any_below, has_cycle}
use Rattle.setup_order.specs.Orders.{is_among, is_topological, IsOrder}
use Rattle.setup_order.proofs.TestLemmas.{or_first, or_second, or_cases, and_first, and_second, and_both}
use Rattle.setup_order.proofs.ChainLemmas.{deep_less, some_below, among_times, all_among}
use Rattle.setup_summary.specs.Chains.{has_chain, greatest_up_to, longest_chain, depth_at, depth_over, greatest_of, IsDepth, HasDepths}

-- ---- chains of some length have all shorter ones

deep_by : (links : List (List ℕ)) (j k o : ℕ) → (j < k) ⊎ (k ≤ j) → j ≤ k → (deep links o k ≡ true → (j < k) → deep links o j ≡ true) → deep links o k ≡ true
    → deep links o j ≡ true
deep_by links j k o (inl l) h f e = f e l
deep_by links j k o (inr g) h f e = let same : j ≡ k = omega arith in rw same e

deep_shorter : (links : List (List ℕ)) (j k o : ℕ) → j ≤ k → deep links o k ≡ true → deep links o j ≡ true
deep_shorter links j zero o h e = let same : j ≡ 0 = omega arith in rw same refl
deep_shorter links j (suc k) o h e =
    deep_by links j (suc k) o (cases_lt j (suc k)) h (λ d l. deep_shorter links j k o (omega arith) (deep_less links k o d)) e

pub shallow_by : (b : Bool) → (b ≡ true → false ≡ true) → b ≡ false
shallow_by true f = sym (f refl)
shallow_by false f = refl

pub shallow_longer : (links : List (List ℕ)) (j k o : ℕ) → j ≤ k → deep links o j ≡ false → deep links o k ≡ false
shallow_longer links j k o h e = shallow_by (deep links o k) (λ d. sym e ∙ deep_shorter links j k o h d)

-- ---- the depth of an object by those of its links

none_deeper : (links : List (List ℕ)) (placed depths ls : List ℕ) (m : ℕ)
    → ((o : ℕ) → is_among placed o ≡ true → IsDepth links o (depth_at depths o)) → list_all (is_among placed) ls ≡ true
    → depth_over depths ls ≤ m → list_any (λ l. deep links l m) ls ≡ false
none_deeper links placed depths [] m known h d = refl
none_deeper links placed depths (l ∷ ls) m known h d =
    let here = (known l (and_first _ _ h)).none_longer in
    let first : deep links l m ≡ false = shallow_longer links (suc (depth_at depths l)) m l (omega arith) here in
    let rest : list_any (λ x. deep links x m) ls ≡ false = none_deeper links placed depths ls m known (and_second _ _ h) (omega arith) in
    rw (first, rest) refl

some_deep : (links : List (List ℕ)) (placed depths ls : List ℕ) (m : ℕ)
    → ((o : ℕ) → is_among placed o ≡ true → IsDepth links o (depth_at depths o)) → list_all (is_among placed) ls ≡ true
    → depth_over depths ls ≡ suc m → list_any (λ l. deep links l m) ls ≡ true
some_deep links placed depths [] m known h d = absurd (omega (arith, d))
some_deep links placed depths (l ∷ ls) m known h d =
    elim (cases_lt (depth_at depths l + 1) (depth_over depths ls)) [
      | inl below ↦ or_second (deep links l m) _ (some_deep links placed depths ls m known (and_second _ _ h) (omega (arith, d, below)))
      | inr above ↦
          let same : depth_at depths l ≡ m = omega (arith, d, above) in
          or_first (deep links l m) _ (rw (← same) (known l (and_first _ _ h)).chain)
    ]

chain_by : (links : List (List ℕ)) (o d : ℕ) → ((m : ℕ) → d ≡ suc m → list_any (λ l. deep links l m) (links_of links o) ≡ true) → deep links o d ≡ true
chain_by links o zero f = refl
chain_by links o (suc m) f = f m refl

depth_is : (links : List (List ℕ)) (placed depths : List ℕ) (o : ℕ)
    → ((o : ℕ) → is_among placed o ≡ true → IsDepth links o (depth_at depths o)) → list_all (is_among placed) (links_of links o) ≡ true
    → IsDepth links o (depth_over depths (links_of links o))
depth_is links placed depths o known h =
    let d = depth_over depths (links_of links o) in
    record {
      chain = chain_by links o d (λ m e. some_deep links placed depths (links_of links o) m known h e);
      none_longer = none_deeper links placed depths (links_of links o) d known h (omega arith);
    }

-- ---- depths as far as an order has come

pub record KnowsDepths (links : List (List ℕ)) (placed depths : List ℕ) : Type 0 where
  pub size : length depths ≡ length links
  pub known : (o : ℕ) → is_among placed o ≡ true → IsDepth links o (depth_at depths o)
  pub bounded : (o : ℕ) → depth_at depths o ≤ length placed

among-append : (xs ys : List ℕ) (y : ℕ) → is_among (xs ++ ys) y ≡ true → (is_among xs y ≡ true) ⊎ (is_among ys y ≡ true)
among-append [] ys y h = inr h
among-append (x ∷ xs) ys y h = elim (or_cases (x == y) (is_among (xs ++ ys) y) h) [
  | inl e ↦ inl (or_first (x == y) (is_among xs y) e)
  | inr e ↦ elim (among-append xs ys y e) [
    | inl a ↦ inl (or_second (x == y) (is_among xs y) a)
    | inr b ↦ inr b
  ]
]

among_one : (x y : ℕ) → is_among (x ∷ []) y ≡ true → x ≡ y
among_one x y h = elim (or_cases (x == y) false h) [
  | inl e ↦ eqb-true x y e
  | inr e ↦ cc
]

-- the links of the next object of an order lead to those before it
pub links_placed : (links : List (List ℕ)) (placed os : List ℕ) (i : ℕ) (d : ℕ) → is_topological links placed os ≡ true → i < length os
    → list_all (is_among (placed ++ take i os)) (links_of links (get_or os i d)) ≡ true
links_placed links placed [] i d h l = absurd (omega arith)
links_placed links placed (o ∷ os) zero d h l = rw append-nil (and_first _ _ h)
links_placed links placed (o ∷ os) (suc i) d h l =
    rw (← append_assoc placed (o ∷ []) (take i os)) (links_placed links (placed ++ o ∷ []) os i d (and_second _ _ h) (omega arith))

over_few : (depths ls : List ℕ) (n : ℕ) → ((o : ℕ) → depth_at depths o ≤ n) → depth_over depths ls ≤ n + 1
over_few depths [] n h = omega arith
over_few depths (l ∷ ls) n h = let a = h l in let b = over_few depths ls n h in omega (arith, a, b)

length_push : (xs : List ℕ) (x : ℕ) → length (xs ++ x ∷ []) ≡ length xs + 1
length_push [] x = refl
length_push (y ∷ xs) x = let e = length_push xs x in omega (arith, e)

-- one object more
pub knows_more : (links : List (List ℕ)) (placed depths : List ℕ) (o : ℕ) → KnowsDepths links placed depths → o < length links
    → list_all (is_among placed) (links_of links o) ≡ true
    → KnowsDepths links (placed ++ o ∷ []) (slice_set depths o (depth_over depths (links_of links o)))
knows_more links placed depths o knows within h =
    let v = depth_over depths (links_of links o) in
    let here : IsDepth links o v = depth_is links placed depths o knows.known h in
    let bounded : v ≤ length placed + 1 = over_few depths (links_of links o) (length placed) knows.bounded in
    let same : depth_at (slice_set depths o v) o ≡ v = get_or-set_same depths o v 0 (omega (arith, knows.size, within)) in
    record {
      size = length-set depths o v ∙ knows.size;
      known = λ p among. elim (cases_eq p o) [
        | inl e ↦ rw (e, same) here
        | inr n ↦ rw (get_or-set_other depths o p v 0 n) (elim (among-append placed (o ∷ []) p among) [
          | inl a ↦ knows.known p a
          | inr b ↦ absurd (n (sym (among_one o p b)))
        ])
      ];
      bounded = λ p. elim (cases_eq p o) [
        | inl e ↦ rw (e, same, length_push placed o) bounded
        | inr n ↦ rw (get_or-set_other depths o p v 0 n, length_push placed o) (let k = knows.bounded p in omega (arith, k))
      ];
    }

-- ---- the greatest depth

pub greatest_is : (p : ℕ → Bool) (m n : ℕ) → m ≤ n → (m ≡ 0) ⊎ (p m ≡ true) → ((k : ℕ) → m < k → k ≤ n → p k ≡ false) → greatest_up_to p n ≡ m
greatest_is p m zero h at above = omega arith
greatest_is p m (suc n) h at above = elim (cases_lt m (suc n)) [
  | inl l ↦ rw (above (suc n) l (omega arith)) (greatest_is p m n (omega arith) at (λ k a b. above k a (omega arith)))
  | inr g ↦
      let same : m ≡ suc n = omega arith in
      elim at [
        | inl z ↦ absurd (omega (arith, z, same))
        | inr e ↦ let top : p (suc n) ≡ true = rw (← same) e in rw top (sym same)
      ]
]

greatest_top : (p : ℕ → Bool) (n : ℕ) → p n ≡ true → greatest_up_to p n ≡ n
greatest_top p zero e = refl
greatest_top p (suc n) e = rw e refl

greatest_at : (ds : List ℕ) → 0 < greatest_of ds → (o : ℕ) × (o < length ds) × (depth_at ds o ≡ greatest_of ds)
greatest_at [] h = absurd (omega arith)
greatest_at (d ∷ ds) h = elim (cases_lt d (greatest_of ds)) [
  | inl l ↦
      let r = greatest_at ds (omega arith) in
      let e : depth_at ds r.0 ≡ greatest_of ds = r.2 in
      let below : r.0 < length ds = r.1 in
      (suc r.0, omega arith, omega (arith, e))
  | inr g ↦ (0, omega arith, omega arith)
]

greatest_above : (ds : List ℕ) (o : ℕ) → depth_at ds o ≤ greatest_of ds
greatest_above [] o = omega arith
greatest_above (d ∷ ds) zero = omega arith
greatest_above (d ∷ ds) (suc o) = let h = greatest_above ds o in omega (arith, h)

greatest_few : (ds : List ℕ) (n : ℕ) → ((o : ℕ) → depth_at ds o ≤ n) → greatest_of ds ≤ n
greatest_few [] n h = omega arith
greatest_few (d ∷ ds) n h = let a = h 0 in let b = greatest_few ds n (λ o. h (suc o)) in omega (arith, a, b)

pub none_below : (p : ℕ → Bool) (n : ℕ) → ((k : ℕ) → k < n → p k ≡ false) → any_below p n ≡ false
none_below p zero f = refl
none_below p (suc n) f = rw (none_below p n (λ k h. f k (omega arith)), f n (omega arith)) refl

-- ---- the longest chain

-- with the depth of each object known, the greatest of them is the longest chain
pub longest_by_depths : (links : List (List ℕ)) (depths : List ℕ) → HasDepths links depths → greatest_of depths ≡ longest_chain links
unfolding longest_chain
longest_by_depths links depths has =
    let m = greatest_of depths in
    let at : (m ≡ 0) ⊎ (has_chain links m ≡ true) = elim (cases_lt 0 m) [
      | inl l ↦
          let r = greatest_at depths l in
          let below : r.0 < length links = let b : r.0 < length depths = r.1 in omega (arith, b, has.size) in
          let chain : deep links r.0 m ≡ true = rw (← r.2) (has.each r.0 below).chain in
          inr (some_below (λ o. deep links o m) (length links) r.0 below chain)
      | inr g ↦ inl (omega arith)
    ] in
    sym (greatest_is (has_chain links) m (length links) (greatest_few depths (length links) has.bounded) at (λ k above within.
    none_below (λ o. deep links o k) (length links) (λ o l.
    let most = greatest_above depths o in
    shallow_longer links (suc (depth_at depths o)) k o (omega (arith, most, above)) (has.each o l).none_longer)))

-- a chain that leads back continues as far as is asked
pub longest_in_cycle : (links : List (List ℕ)) → has_cycle links ≡ true → length links ≡ longest_chain links
unfolding has_cycle longest_chain
longest_in_cycle links e = sym (greatest_top (has_chain links) (length links) e)

-- ---- along a whole order

zeros : (n o : ℕ) → depth_at (replicate n 0) o ≤ 0
zeros zero o = omega arith
zeros (suc n) zero = omega arith
zeros (suc n) (suc o) = zeros n o

pub knows_none : (links : List (List ℕ)) (depths : List ℕ) → depths ≡ replicate (length links) 0 → KnowsDepths links [] depths
knows_none links depths e = rw e record {
  size = length-replicate (length links) 0;
  known = λ o h. cc;
  bounded = λ o. zeros (length links) o;
}

pub knows_all : (links : List (List ℕ)) (order depths : List ℕ) → IsOrder links order → KnowsDepths links order depths → HasDepths links depths
knows_all links order depths is knows = record {
  size = knows.size;
  each = λ o below.
      let once = is.each_once o below in
      knows.known o (among_times order o (omega arith));
  bounded = λ o. let k = knows.bounded o in omega (arith, k, is.size);
}

all_below : (xs ls : List ℕ) (n : ℕ) → list_all (λ x. nat_lt x n) xs ≡ true → list_all (is_among xs) ls ≡ true → list_all (λ l. nat_lt l n) ls ≡ true
all_below xs [] n h a = refl
all_below xs (l ∷ ls) n h a = and_both _ _ (all_among (λ x. nat_lt x n) xs l h (and_first _ _ a)) (all_below xs ls n h (and_second _ _ a))

all_taken : (p : ℕ → Bool) (i : ℕ) (xs : List ℕ) → list_all p xs ≡ true → list_all p (take i xs) ≡ true
all_taken p zero xs h = refl
all_taken p (suc i) [] h = refl
all_taken p (suc i) (x ∷ xs) h = and_both (p x) _ (and_first _ _ h) (all_taken p i xs (and_second _ _ h))

-- the links of an object of an order lead to objects
pub all_placed_below : (links : List (List ℕ)) (order : List ℕ) (i d : ℕ) → IsOrder links order → i < length order
    → list_all (λ l. nat_lt l (length links)) (links_of links (get_or order i d)) ≡ true
all_placed_below links order i d is h =
    all_below (take i order) (links_of links (get_or order i d)) (length links)
    (all_taken (λ x. nat_lt x (length links)) i order is.within)
    (links_placed links [] order i d is.after_links h)
