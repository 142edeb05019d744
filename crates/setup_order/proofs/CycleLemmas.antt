-- A chain of as many links as there are objects passes one of them twice, and who leads back to itself has chains of every length.
use Rattle.std.proofs.Common.{◌≡◌, ℕ, zero, suc, ◌+◌, ◌<◌, ◌≤◌, ◌==◌, ◌&&◌, ◌||◌, Bool, true, false, not, cond, List, [], ◌∷◌, length, refl, sym, ap, ◌∙◌}
use Rattle.std.proofs.Common.{arith, inl, inr}
use Rattle.std.specs.Prelude.{nat_lt}
use Rattle.std.specs.List.{list_any, list_all, filter}
use Rattle.std.proofs.lemmas.Bool.{eqb-true, eq-eqb, cases_lt}
use Rattle.std.proofs.lemmas.Bool.Decides.{nat_tests}
use Rattle.setup_order.specs.Cycles.{are_within, links_of, deep, any_below, has_cycle, has_path, IsOnCycle, IsCyclic}
use Rattle.setup_order.specs.Orders.{is_among, occurrences}
use Rattle.setup_order.proofs.TestLemmas.{and_first, and_second, and_both, or_second, any_weaker, or_cases, is_below, below_is}
use Rattle.setup_order.proofs.ChainLemmas.{all_among, among_times, some_below, links_within}

-- ---- from a way back to a cycle

chains_on : (links : List (List ℕ)) (object back : ℕ) → has_path links (suc back) object object ≡ true → (j o k : ℕ)
    → has_path links (suc k) o object ≡ true → deep links o j ≡ true
chains_on links object back h zero o k e = refl
chains_on links object back h (suc j) o zero e =
    any_weaker (λ l. l == object) (λ l. deep links l j) (λ l x. ap (λ m. deep links m j) (eqb-true l object x)
    ∙ chains_on links object back h j object back h) (links_of links o) e
chains_on links object back h (suc j) o (suc k) e =
    any_weaker (λ l. has_path links (suc k) l object) (λ l. deep links l j) (λ l x. chains_on links object back h j l k x) (links_of links o) e

pub back_is_cycle : (links : List (List ℕ)) (object : ℕ) → object < length links → IsOnCycle links object → has_cycle links ≡ true
unfolding has_cycle
back_is_cycle links object below back =
    some_below (λ o. deep links o (length links)) (length links) object below (chains_on links object back.0 back.1 (length links) object back.0 back.1)

-- ---- chains

abbrev pub is_chain : List (List ℕ) → ℕ → List ℕ → Bool
is_chain links o [] = true
is_chain links o (m ∷ ms) = is_among (links_of links o) m && is_chain links m ms

record Witness (p : ℕ → Bool) (xs : List ℕ) : Type 0 where
  item : ℕ
  among : is_among xs item ≡ true
  passes : p item ≡ true

witness_by : (p : ℕ → Bool) (x : ℕ) (xs : List ℕ) (b : Bool) → p x ≡ b → (b || list_any p xs) ≡ true → (list_any p xs ≡ true → Witness p xs)
    → Witness p (x ∷ xs)
witness_by p x xs true e h more = record { item = x; among = rw (eq-eqb x x refl) refl; passes = e }
witness_by p x xs false e h more = let w = more h in record { item = w.item; among = or_second (x == w.item) _ w.among; passes = w.passes }

witness : (p : ℕ → Bool) (xs : List ℕ) → list_any p xs ≡ true → Witness p xs
witness p [] h = cc
witness p (x ∷ xs) h = witness_by p x xs (p x) refl h (witness p xs)

record Chain (links : List (List ℕ)) (n o k : ℕ) : Type 0 where
  objects : List ℕ
  size : length objects ≡ k
  linked : is_chain links o objects ≡ true
  within : list_all (λ m. nat_lt m n) objects ≡ true

chain_of : (links : List (List ℕ)) (n : ℕ) → are_within n links ≡ true → (k o : ℕ) → deep links o k ≡ true → Chain links n o k
chain_of links n h zero o e = record { objects = []; size = refl; linked = refl; within = refl }
chain_of links n h (suc k) o e =
    let w = witness (λ l. deep links l k) (links_of links o) e in
    let c = chain_of links n h k w.item w.passes in
    record {
      objects = w.item ∷ c.objects;
      size = omega (arith, c.size);
      linked = and_both _ _ w.among c.linked;
      within = and_both _ _ (all_among (λ l. nat_lt l n) (links_of links o) w.item (links_within n links o h) w.among) c.within;
    }

-- ---- more places than numbers

abbrev pub others : ℕ → List ℕ → List ℕ
others n xs = filter (λ x. not (x == n)) xs

others_counted_by : (n x : ℕ) (xs : List ℕ) (b : Bool) → length xs ≡ length (others n xs) + occurrences n xs
    → suc (length xs) ≡ length (cond (not b) (x ∷ others n xs) (others n xs)) + (cond b 1 0 + occurrences n xs)
others_counted_by n x xs true e = omega (arith, e)
others_counted_by n x xs false e = omega (arith, e)

others_counted : (n : ℕ) (xs : List ℕ) → length xs ≡ length (others n xs) + occurrences n xs
others_counted n [] = refl
others_counted n (x ∷ xs) = others_counted_by n x xs (x == n) (others_counted n xs)

times_fewer_by : (n y x : ℕ) (xs : List ℕ) (b : Bool) → occurrences y (others n xs) ≤ occurrences y xs
    → occurrences y (cond b (x ∷ others n xs) (others n xs)) ≤ cond (x == y) 1 0 + occurrences y xs
times_fewer_by n y x xs true h = omega (arith, h)
times_fewer_by n y x xs false h = omega (arith, h)

times_fewer : (n y : ℕ) (xs : List ℕ) → occurrences y (others n xs) ≤ occurrences y xs
times_fewer n y [] = omega arith
times_fewer n y (x ∷ xs) = times_fewer_by n y x xs (not (x == n)) (times_fewer n y xs)

below_by : (n x : ℕ) (b : Bool) → (x == n) ≡ b → nat_lt x (suc n) ≡ true → not b ≡ true → nat_lt x n ≡ true
below_by n x true e h k = cc
below_by n x false e h k = grind (arith, nat_tests, e, h)

others_below_by : (n x : ℕ) (xs : List ℕ) (b : Bool) → (x == n) ≡ b → nat_lt x (suc n) ≡ true → list_all (λ y. nat_lt y n) (others n xs) ≡ true
    → list_all (λ y. nat_lt y n) (cond (not b) (x ∷ others n xs) (others n xs)) ≡ true
others_below_by n x xs true e h more = more
others_below_by n x xs false e h more = and_both _ _ (below_by n x false e h refl) more

others_below : (n : ℕ) (xs : List ℕ) → list_all (λ x. nat_lt x (suc n)) xs ≡ true → list_all (λ x. nat_lt x n) (others n xs) ≡ true
others_below n [] h = refl
others_below n (x ∷ xs) h = others_below_by n x xs (x == n) refl (and_first _ _ h) (others_below n xs (and_second _ _ h))

nothing_below : (x : ℕ) → nat_lt x 0 ≡ true → ⊥
nothing_below x h = grind (arith, nat_tests, h)

-- of more numbers below n than n, one comes twice
pigeon : (n : ℕ) (xs : List ℕ) → list_all (λ x. nat_lt x n) xs ≡ true → n < length xs → (x : ℕ) × (1 < occurrences x xs)
pigeon zero [] h l = absurd (omega (arith, l))
pigeon zero (x ∷ xs) h l = absurd (nothing_below x (and_first _ (list_all (λ y. nat_lt y 0) xs) h))
pigeon (suc n) xs h l = elim (cases_lt 1 (occurrences n xs)) [
  | inl twice ↦ (n, twice)
  | inr once ↦ let p = pigeon n (others n xs) (others_below n xs h)
      (omega (arith, l, once, others_counted n xs)) in (p.0, omega (arith, p.1, times_fewer n p.0 xs))
]

-- ---- from a chain that passes an object twice to the way back

some_among_by : (p : ℕ → Bool) (x m : ℕ) (xs : List ℕ) (b : Bool) → (x == m) ≡ b → (b || is_among xs m) ≡ true → p m ≡ true
    → (is_among xs m ≡ true → list_any p xs ≡ true) → (p x || list_any p xs) ≡ true
some_among_by p x m xs true e h k more = rw (ap p (eqb-true x m e) ∙ k) refl
some_among_by p x m xs false e h k more = or_second (p x) _ (more h)

some_among : (p : ℕ → Bool) (xs : List ℕ) (m : ℕ) → is_among xs m ≡ true → p m ≡ true → list_any p xs ≡ true
some_among p [] m h k = cc
some_among p (x ∷ xs) m h k = some_among_by p x m xs (x == m) refl h k (λ e. some_among p xs m e k)

reached_by : (links : List (List ℕ)) (o x m : ℕ) (n : ℕ) (b : Bool) → (m == x) ≡ b → is_among (links_of links o) m ≡ true → 0 < cond b 1 0 + n
    → (0 < n → (k : ℕ) × (has_path links (suc k) m x ≡ true)) → (k : ℕ) × (has_path links (suc k) o x ≡ true)
reached_by links o x m n true e linked h more = (0, ap (is_among (links_of links o)) (sym (eqb-true m x e)) ∙ linked)
reached_by links o x m n false e linked h more =
    let later = more (omega (arith, h)) in (suc later.0, some_among (λ l. has_path links (suc later.0) l x) (links_of links o) m linked later.1)

reached : (links : List (List ℕ)) (x o : ℕ) (ms : List ℕ) → is_chain links o ms ≡ true → 0 < occurrences x ms → (k : ℕ) × (has_path links (suc k) o x ≡ true)
reached links x o [] c h = absurd (omega (arith, h))
reached links x o (m ∷ ms) c h = reached_by links o x m (occurrences x ms) (m == x) refl (and_first _ _ c) h (reached links x m ms (and_second _ _ c))

looped_by : (links : List (List ℕ)) (x o : ℕ) (ms : List ℕ) (b : Bool) → (o == x) ≡ b → is_chain links o ms ≡ true → 1 < cond b 1 0 + occurrences x ms
    → (1 < occurrences x ms → IsOnCycle links x) → IsOnCycle links x
looped_by links x o ms true e c h more =
    let r = reached links x o ms c (omega (arith, h)) in (r.0, ap (λ y. has_path links (suc r.0) y x) (sym (eqb-true o x e)) ∙ r.1)
looped_by links x o ms false e c h more = more (omega (arith, h))

looped : (links : List (List ℕ)) (x o : ℕ) (ms : List ℕ) → is_chain links o ms ≡ true → 1 < occurrences x (o ∷ ms) → IsOnCycle links x
looped links x o [] c h = looped_by links x o [] (o == x) refl c h (λ l. absurd (omega (arith, l)))
looped links x o (m ∷ ms) c h = looped_by links x o (m ∷ ms) (o == x) refl c h (looped links x m ms (and_second _ _ c))

below_witness : (p : ℕ → Bool) (n : ℕ) → any_below p n ≡ true → (k : ℕ) × (k < n) × (p k ≡ true)
below_witness p zero h = cc
below_witness p (suc n) h = elim (or_cases (any_below p n) (p n) h) [
  | inl e ↦ let w = below_witness p n e in (w.0, omega (arith, w.1), w.2)
  | inr e ↦ (n, omega arith, e)
]

pub cycle_leads_back : (links : List (List ℕ)) → are_within (length links) links ≡ true → has_cycle links ≡ true → IsCyclic links
unfolding has_cycle
cycle_leads_back links within cyclic =
    let n = length links in
    let first = below_witness (λ o. deep links o n) n cyclic in
    let c = chain_of links n within n first.0 first.2 in
    let all : list_all (λ m. nat_lt m n) (first.0 ∷ c.objects) ≡ true = and_both _ _ (below_is first.0 n first.1) c.within in
    let twice = pigeon n (first.0 ∷ c.objects) all (omega (arith, c.size)) in (
      twice.0,
      is_below twice.0 n (all_among (λ m. nat_lt m n) (first.0 ∷ c.objects) twice.0 all
          (among_times (first.0 ∷ c.objects) twice.0 (omega (arith, twice.1)))),
      looped links twice.0 first.0 c.objects c.linked twice.1,
    )
