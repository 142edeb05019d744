-- Who links to whom.
use Rattle.std.proofs.Common.{◌≡◌, ℕ, zero, suc, ◌+◌, ◌<◌, ◌≤◌, ◌==◌, Bool, true, false, cond, List, [], ◌∷◌, ◌++◌, length, take, map, get_or, refl, sym}
use Rattle.std.proofs.Common.{ap, ◌∙◌, arith, inl, inr}
use Rattle.std.specs.Prelude.{nat_lt, replicate}
use Rattle.std.specs.List.{list_all}
use Rattle.std.proofs.Math.ListN.{set}
use Rattle.std.proofs.lemmas.Bool.{eq-eqb, ne_eqb, cases_eq, cases_lt}
use Rattle.std.proofs.lemmas.Bool.Decides.{nat_tests}
use Rattle.std.proofs.lemmas.List.{take_more, length-map, get_or-set_same, get_or-set_other, length-set, get_or-replicate, length-replicate}
use Rattle.std.proofs.lemmas.List.{get_or_past, length-take}
use Rattle.std.proofs.lemmas.List.{get_or_append_left, get_or-take, take_all, get_or-map, map-set}
use Rattle.std.proofs.lemmas.List.Folds.{list_all-append}
use Rattle.setup_order.specs.Cycles.{links_of, are_within}
use Rattle.setup_order.specs.Orders.{occurrences}
use Rattle.setup_order.specs.Growth.{AddsDependent, HasDependents}
use Rattle.setup_order.proofs.TestLemmas.{and_first, and_second, and_both}
use Rattle.setup_order.proofs.ChainLemmas.{links_within}
use Rattle.setup_order.proofs.GrowthLemmas.{times-append, times-same, times-other, below_at}

-- ---- one object added to the lists of those that it links to

within_set : (n : ℕ) (lists : List (List ℕ)) (place : ℕ) (ls : List ℕ) → are_within n lists ≡ true → list_all (λ l. nat_lt l n) ls ≡ true
    → are_within n (set lists place ls) ≡ true
within_set n [] place ls h k = refl
within_set n (xs ∷ lists) zero ls h k = and_both _ _ k (and_second _ _ h)
within_set n (xs ∷ lists) (suc place) ls h k = and_both _ _ (and_first _ _ h) (within_set n lists place ls (and_second _ _ h) k)

within_push : (n object : ℕ) (ls : List ℕ) → object < n → list_all (λ l. nat_lt l n) ls ≡ true → list_all (λ l. nat_lt l n) (ls ++ object ∷ []) ≡ true
within_push n object ls h k =
    rw (list_all-append (λ l. nat_lt l n) ls (object ∷ [])) (and_both _ _ k
    (and_both _ _ (let t : nat_lt object n ≡ true = grind (arith, nat_tests, h) in t) refl))

times_pushed : (other object : ℕ) (ls : List ℕ) → occurrences other (ls ++ object ∷ []) ≡ occurrences other ls + cond (other == object) 1 0
times_pushed other object ls = elim (cases_eq other object) [
  | inl e ↦ rw (e, times-append object ls (object ∷ []), times-same object, eq-eqb object object refl) refl
  | inr n ↦ rw (times-append other ls (object ∷ []), times-other other object (λ x. n (sym x)), ne_eqb other object n) refl
]

cond_plus : (b : Bool) (t x y : ℕ) → x ≡ t + cond b y 0 → x + cond b 1 0 ≡ t + cond b (y + 1) 0
cond_plus true t x y e = omega arith
cond_plus false t x y e = omega arith

cond_same : (b : Bool) (t x y z : ℕ) → z ≡ y → x ≡ t + cond b y 0 → x ≡ t + cond b z 0
cond_same b t x y z q e = rw q e

pub adds_more : (object : ℕ) (done : List ℕ) (old mid new : List (List ℕ)) (link : ℕ) → AddsDependent object done old mid → link < length old
    → new ≡ set mid link (links_of mid link ++ object ∷ [])
    → AddsDependent object (done ++ link ∷ []) old new
adds_more object done old mid new link a h is = rw is (record {
  size = length-set mid link (links_of mid link ++ object ∷ []) ∙ a.size;
  counts = λ at other l. elim (cases_eq at link) [
    | inl e ↦ rw (
      e,
      get_or-set_same mid link (links_of mid link ++ object ∷ []) [] (rw a.size h),
      times_pushed other object
          (links_of mid link),
      times-append link done (link ∷ []),
      times-same link,
    )
        (cond_plus (other == object) (occurrences other (links_of old link)) (occurrences other (links_of mid link)) (occurrences link done) (a.counts link other h))
    | inr n ↦ rw (get_or-set_other mid link at (links_of mid link ++ object ∷ []) [] n)
        (cond_same (other == object) (occurrences other (links_of old at)) (occurrences other (links_of mid at)) (occurrences at done) (occurrences at (done ++ link ∷ []))
        (times-append at done (link ∷ []) ∙ ap (λ k. occurrences at done + k) (times-other at link (λ x. n (sym x)))
        ∙ (let z : occurrences at done + 0 ≡ occurrences at done = omega arith in z))
        (a.counts at other l))
  ];
  within =
      λ n o w. let mids = a.within n o w in within_set n mid link (links_of mid link ++ object ∷ []) mids
      (within_push n object (links_of mid link) o (links_within n mid link mids));
})

-- ---- the dependents of all objects

times_nothing : (n link other : ℕ) → link < n → occurrences other (links_of (replicate n []) link) ≡ 0
times_nothing n link other h = ap (occurrences other) (get_or-replicate {A = List ℕ} n link [] [] h)

get_or-take_past : (links : List (List ℕ)) (k i : ℕ) → k ≤ i → links_of (take k links) i ≡ []
get_or-take_past links k i h = get_or_past (take k links) i [] (let e = length-take k links in omega arith)

-- before the first object
pub dependents_none : (n : ℕ) (links lists : List (List ℕ)) → lists ≡ replicate n [] → are_within n lists ≡ true → HasDependents n (take 0 links) lists
dependents_none n links lists is w = record {
  size = rw is (length-replicate n []);
  counts = λ link object h. rw is (times_nothing n link object h) ∙ sym (ap (occurrences link) (get_or-take_past links 0 object (omega arith)));
  within = w;
}

pub replicate_within : (n k : ℕ) → are_within n (replicate k []) ≡ true
replicate_within n zero = refl
replicate_within n (suc k) = replicate_within n k

take_before : (links : List (List ℕ)) (k i : ℕ) → i < k → k < length links → links_of (take (k + 1) links) i ≡ links_of (take k links) i
take_before links k i h l =
    let e = take_more links k [] l in rw e (get_or_append_left (take k links) (links_of links k ∷ []) [] i (let t = length-take k links in omega arith))

take_here : (links : List (List ℕ)) (k : ℕ) → k < length links → links_of (take (k + 1) links) k ≡ links_of links k
take_here links k h = get_or-take (k + 1) links k [] (omega arith)

counts_next : (links old new : List (List ℕ)) (k link object n : ℕ) → k < length links
    → occurrences object (links_of new link) ≡ occurrences object (links_of old link) + cond (object == k) (occurrences link (links_of links k)) 0
    → occurrences object (links_of old link) ≡ occurrences link (links_of (take k links) object)
    → occurrences object (links_of new link) ≡ occurrences link (links_of (take (k + 1) links) object)
counts_next links old new k link object n h a b = elim (cases_eq object k) [
  | inl e ↦ (
      let past : links_of (take k links) object ≡ [] = get_or-take_past links k object (omega arith) in
      let before : occurrences object (links_of old link) ≡ 0 = b ∙ ap (occurrences link) past in
      let same : links_of (take (k + 1) links) object ≡ links_of links k = ap (links_of (take (k + 1) links)) e ∙ take_here links k h in
      let added : cond (object == k) (occurrences link (links_of links k)) 0 ≡ occurrences link (links_of links k) = rw (eq-eqb object k e) refl in
      rw same (omega (arith, a, added, before)))
  | inr f ↦ elim (cases_lt object k) [
    | inl l ↦ (
        let same : links_of (take (k + 1) links) object ≡ links_of (take k links) object = take_before links k object l h in
        let added : cond (object == k) (occurrences link (links_of links k)) 0 ≡ 0 = rw (ne_eqb object k f) refl in
        rw same (omega (arith, a, added, b)))
    | inr l ↦ (
        let past : links_of (take k links) object ≡ [] = get_or-take_past links k object l in
        let later : links_of (take (k + 1) links) object ≡ [] = get_or-take_past links (k + 1) object (omega arith) in
        let before : occurrences object (links_of old link) ≡ 0 = b ∙ ap (occurrences link) past in
        let added : cond (object == k) (occurrences link (links_of links k)) 0 ≡ 0 = rw (ne_eqb object k f) refl in
        rw later (omega (arith, a, added, before)))
  ]
]

-- one more object's links were looked at
pub dependents_next : (n k : ℕ) (links old new : List (List ℕ)) → k < length links → n ≡ length links → HasDependents n (take k links) old
    → AddsDependent k (links_of links k) old new → HasDependents n (take (k + 1) links) new
dependents_next n k links old new h is d a = record {
  size = a.size ∙ d.size;
  counts = λ link object l. counts_next links old new k link object n h (a.counts link object (rw d.size l)) (d.counts link object l);
  within = a.within n (omega arith) d.within;
}

pub dependents_all : (n : ℕ) (links dependents : List (List ℕ)) → length links ≤ n → HasDependents n (take n links) dependents
    → HasDependents n links dependents
dependents_all n links dependents h d = rw (← take_all n links h) d

-- ---- lists in a vector

pub push_in : {X Y : Type 0} (f : X → List Y) (xs : List X) (i : ℕ) (object : Y) (v w d : X) → i < length xs → w ≡ get_or xs i d → f v ≡ f w ++ object ∷ []
    → map f (set xs i v) ≡ set (map f xs) i (get_or (map f xs) i [] ++ object ∷ [])
push_in f xs i object v w d h e p = map-set f xs i v ∙ ap (set (map f xs) i) (p ∙ ap (λ l. l ++ object ∷ []) (ap f e ∙ sym (get_or-map f xs i d [] h)))

pub adds_next : (object n j d : ℕ) (links : List ℕ) (old mid new : List (List ℕ)) → AddsDependent object (take j links) old mid → j < length links
    → list_all (λ link. nat_lt link n) links ≡ true → n ≡ length old
    → new ≡ set mid (get_or links j d) (links_of mid (get_or links j d) ++ object ∷ []) → AddsDependent object (take (j + 1) links) old new
adds_next object n j d links old mid new a h all e is =
    let below = below_at n links j d h all in
    rw (take_more links j d h) (adds_more object (take j links) old mid new (get_or links j d) a (omega arith) is)

-- the list at a place of a vector of lists
pub list_at : {X : Type 0} (f : X → List ℕ) (xs : List X) (i : ℕ) (w d : X) → i < length xs → w ≡ get_or xs i d → f w ≡ links_of (map f xs) i
list_at f xs i w d h e = ap f e ∙ sym (get_or-map f xs i d [] h)

-- the dependents of one object, in a vector of lists
pub dependents_at : {X : Type 0} (f : X → List ℕ) (n : ℕ) (links : List (List ℕ)) (xs : List X) (i : ℕ) (w : X)
    → HasDependents n links (map f xs) → i < n → w ≡ get_or xs i w → f w ≡ links_of (map f xs) i
dependents_at f n links xs i w d h e = list_at f xs i w w (omega (arith, h, d.size, length-map xs f)) e

pub all_below_same : (n m : ℕ) (xs : List ℕ) → n ≡ m → list_all (λ x. nat_lt x n) xs ≡ true → list_all (λ x. nat_lt x m) xs ≡ true
all_below_same n m xs e h = rw (← e) h
