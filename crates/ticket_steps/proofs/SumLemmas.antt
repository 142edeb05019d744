-- Sums over lists that change at one place, and counts of numbers.
use Rattle.std.proofs.Common.{◌≡◌, ℕ, zero, suc, ◌+◌, ◌-◌, ◌<◌, ◌≤◌, ◌≢◌, List, [], ◌∷◌, ◌++◌, length, set, take, drop, sym, refl, ap, ◌∙◌, arith, Bool}
use Rattle.std.proofs.Common.{cond, eq-eqb, ne_eqb, lt-ltb, le-ltb}
use mathlib.Core.Logic.{dite}
use native.Mathlib.Decide.{ℕ_discrete, dec_le}
use mathlib.Core.Option.{some, some-injective, some-ne-none}
use lib.ListN.{get_elem?}
use Rattle.ticket_steps.specs.Sums.{total, occurrences, once_below, numbers_from}

abbrev pub one_if : Bool → ℕ
one_if b = cond b 1 0

module _ {A : Type 0} where
  module _ (g : A → ℕ) where
    pub total-append : (l m : List A) → total g (l ++ m) ≡ total g l + total g m
    total-append [] m = omega arith
    total-append (x ∷ xs) m = omega (arith, total-append xs m)

    pub total-set : (l : List A) (j : ℕ) (v w : A) → get_elem? l j ≡ some v → total g (set l j w) + g v ≡ total g l + g w
    total-set [] j v w e = absurd (some-ne-none v (sym e))
    total-set (x ∷ xs) zero v w e = omega (arith, ap g (some-injective x v e))
    total-set (x ∷ xs) (suc j) v w e = omega (arith, total-set xs j v w e)

    pub term_le : (l : List A) (j : ℕ) (v : A) → get_elem? l j ≡ some v → g v ≤ total g l
    term_le [] j v e = absurd (some-ne-none v (sym e))
    term_le (x ∷ xs) zero v e = omega (arith, ap g (some-injective x v e))
    term_le (x ∷ xs) (suc j) v e = omega (arith, term_le xs j v e)

    pub terms_le : (l : List A) (j k : ℕ) (v u : A) → k ≢ j → get_elem? l j ≡ some v → get_elem? l k ≡ some u → g v + g u ≤ total g l
    terms_le [] j k v u n e d = absurd (some-ne-none v (sym e))
    terms_le (x ∷ xs) zero zero v u n e d = absurd (n refl)
    terms_le (x ∷ xs) zero (suc k) v u n e d = omega (arith, ap g (some-injective x v e), term_le xs k u d)
    terms_le (x ∷ xs) (suc j) zero v u n e d = omega (arith, ap g (some-injective x u d), term_le xs j v e)
    terms_le (x ∷ xs) (suc j) (suc k) v u n e d = omega (arith, terms_le xs j k v u (λ h. n (ap suc h)) e d)

    pub no_term : (l : List A) → ((k : ℕ) (u : A) → get_elem? l k ≡ some u → g u ≡ 0) → total g l ≡ 0
    no_term [] h = refl
    no_term (x ∷ xs) h = omega (arith, h zero x refl, no_term xs (λ k u d. h (suc k) u d))

    -- no other place counts
    pub only_term : (l : List A) (j : ℕ) (v : A) → get_elem? l j ≡ some v → ((k : ℕ) (u : A) → k ≢ j → get_elem? l k ≡ some u → g u ≡ 0) → total g l ≡ g v
    only_term [] j v e h = absurd (some-ne-none v (sym e))
    only_term (x ∷ xs) zero v e h = omega (arith, ap g (some-injective x v e), no_term xs (λ k u d. h (suc k) u (λ i. omega arith) d))
    only_term (x ∷ xs) (suc j) v e h = omega (arith, h zero x (λ i. omega arith) refl, only_term xs j v e (λ k u n d. h (suc k) u (λ i. n (omega arith)) d))

  -- a sum above 0 has a place that counts
  pub some_term : (g : A → ℕ) (l : List A) → 0 < total g l → (k : ℕ) × (u : A) × (get_elem? l k ≡ some u) × (0 < g u)
  some_term g [] h = absurd (omega (arith, h))
  some_term g (x ∷ xs) h = dite (dec_le (suc 0) (g x)) (λ here. (zero, x, refl, omega (arith, here)))
      (λ none. let found = some_term g xs (omega (arith, h, none)) in (suc found.0, found.1, found.2, found.3))

  -- a sum that is no greater at any place, and less at one
  pub sums_le : (f g : A → ℕ) (l : List A) → ((k : ℕ) (u : A) → get_elem? l k ≡ some u → f u ≤ g u) → total f l ≤ total g l
  sums_le f g [] h = omega arith
  sums_le f g (x ∷ xs) h = omega (arith, h zero x refl, sums_le f g xs (λ k u d. h (suc k) u d))

  pub sums_lt : (f g : A → ℕ) (l : List A) (j : ℕ) (v : A) → get_elem? l j ≡ some v → f v < g v
      → ((k : ℕ) (u : A) → get_elem? l k ≡ some u → f u ≤ g u) → total f l < total g l
  sums_lt f g [] j v e lt h = absurd (some-ne-none v (sym e))
  sums_lt f g (x ∷ xs) zero v e lt h = omega (arith, ap f (some-injective x v e), ap g (some-injective x v e), sums_le f g xs (λ k u d. h (suc k) u d))
  sums_lt f g (x ∷ xs) (suc j) v e lt h = omega (arith, h zero x refl, sums_lt f g xs j v e lt (λ k u d. h (suc k) u d))

pub occurrences-same : (n : ℕ) (xs : List ℕ) → occurrences n (n ∷ xs) ≡ 1 + occurrences n xs
occurrences-same n xs = ap (λ (b : Bool). one_if b + occurrences n xs) (eq-eqb n n refl)

pub occurrences-other : (n x : ℕ) (xs : List ℕ) → n ≢ x → occurrences n (x ∷ xs) ≡ occurrences n xs
occurrences-other n x xs ne = omega (arith, ap (λ (b : Bool). one_if b) (ne_eqb n x ne))

pub times_le : (n : ℕ) (xs : List ℕ) → occurrences n xs ≤ length xs
times_le n [] = omega arith
times_le n (x ∷ xs) =
    dite (ℕ_discrete n x) (λ e. omega (arith, ap (λ (b : Bool). one_if b) (eq-eqb n x e), times_le n xs))
    (λ ne. omega (arith, occurrences-other n x xs ne, times_le n xs))

pub occurrences-append : (n : ℕ) (xs ys : List ℕ) → occurrences n (xs ++ ys) ≡ occurrences n xs + occurrences n ys
occurrences-append n [] ys = omega arith
occurrences-append n (x ∷ xs) ys = omega (arith, occurrences-append n xs ys)

pub below_yes : (x n : ℕ) → x < n → once_below x n ≡ 1
below_yes x n h = ap (λ (b : Bool). one_if b) (lt-ltb x n h)

pub below_no : (x n : ℕ) → n ≤ x → once_below x n ≡ 0
below_no x n h = ap (λ (b : Bool). one_if b) (le-ltb x n h)

pub below_more : (x n : ℕ) → once_below x n + occurrences x (n ∷ []) ≡ once_below x (n + 1)
below_more x n = dite (ℕ_discrete x n)
    (λ e. omega (arith, below_no x n (omega arith), below_yes x (n + 1) (omega arith), ap (λ (b : Bool). one_if b) (eq-eqb x n e)))
    (λ ne. dite (dec_le x n)
    (λ le. omega (arith, below_yes x n (omega (arith, ne)), below_yes x (n + 1) (omega arith), occurrences-other x n [] ne))
    (λ gt. omega (arith, below_no x n (omega arith), below_no x (n + 1) (omega (arith, ne)), occurrences-other x n [] ne)))

-- only the number a is below b and not below a
pub below_gap : (x a b : ℕ) → a ≤ b → once_below x a ≤ once_below x b
below_gap x a b le =
    dite (dec_le (suc x) a) (λ lt. omega (arith, below_yes x a (omega arith), below_yes x b (omega arith))) (λ ge. omega (arith, below_no x a (omega arith)))

pub below_le : (x n : ℕ) → once_below x n ≤ 1
below_le x n = dite (dec_le (suc x) n) (λ lt. omega (arith, below_yes x n (omega arith))) (λ ge. omega (arith, below_no x n (omega arith)))

-- t is not below a and is below b, so a is below b
pub between : (t a b : ℕ) → once_below t a < once_below t b → a < b
between t a b h = dite (dec_le (suc a) b) (λ lt. lt) (λ ge. absurd (omega (arith, below_gap t b a (omega arith))))

pub length-numbers_from : (n k : ℕ) → length (numbers_from n k) ≡ k
length-numbers_from n zero = refl
length-numbers_from n (suc k) = omega (arith, length-numbers_from (n + 1) k)

pub numbers_from_first : (n k : ℕ) → 0 < k → 0 < occurrences n (numbers_from n k)
numbers_from_first n zero h = absurd (omega arith)
numbers_from_first n (suc k) h = omega (arith, occurrences-same n (numbers_from (n + 1) k))

pub numbers_from_below : (p n k : ℕ) → occurrences p (numbers_from n k) + once_below p n ≡ once_below p (n + k)
numbers_from_below p n zero = let d : n + zero ≡ n = omega arith in omega (arith, ap (once_below p) d)
numbers_from_below p n (suc k) = let d : n + suc k ≡ n + 1 + k = omega arith in omega (arith, ap (once_below p) d, numbers_from_below p (n + 1) k, below_more p n)

pub occurrences-take-drop : (n k : ℕ) (xs : List ℕ) → occurrences n (take k xs) + occurrences n (drop k xs) ≡ occurrences n xs
occurrences-take-drop n zero xs = omega arith
occurrences-take-drop n (suc k) [] = omega arith
occurrences-take-drop n (suc k) (x ∷ xs) = omega (arith, occurrences-take-drop n k xs)

pub take-numbers_from : (n k j : ℕ) → k ≤ j → take k (numbers_from n j) ≡ numbers_from n k
take-numbers_from n zero j h = refl
take-numbers_from n (suc k) zero h = absurd (omega arith)
take-numbers_from n (suc k) (suc j) h = ap (λ (l : List ℕ). n ∷ l) (take-numbers_from (n + 1) k j (omega arith))

pub drop-numbers_from : (n k j : ℕ) → k ≤ j → drop k (numbers_from n j) ≡ numbers_from (n + k) (j - k)
drop-numbers_from n zero j h = let e : n + zero ≡ n = omega arith in let d : j - zero ≡ j = omega arith in λ i. numbers_from (sym e i) (sym d i)
drop-numbers_from n (suc k) zero h = absurd (omega arith)
drop-numbers_from n (suc k) (suc j) h =
    let e : n + 1 + k ≡ n + suc k = omega arith in let d : j - k ≡ suc j - suc k = omega arith in drop-numbers_from (n + 1) k j (omega arith)
    ∙ (λ i. numbers_from (e i) (d i))

-- one number more
pub numbers_from_more : (n k : ℕ) → numbers_from n (k + 1) ≡ numbers_from n k ++ (n + k) ∷ []
numbers_from_more n zero = let e : n ≡ n + zero = omega arith in ap (λ (x : ℕ). x ∷ []) e
numbers_from_more n (suc k) =
    let e : n + 1 + k ≡ n + suc k = omega arith in
    let d : suc k + 1 ≡ suc (k + 1) = omega arith in
    ap (numbers_from n) d ∙ ap (λ (l : List ℕ). n ∷ l) (numbers_from_more (n + 1) k ∙ ap (λ (x : ℕ). numbers_from (n + 1) k ++ x ∷ []) e)

-- the last number of a range is one of its numbers
pub numbers_from_last : (n k : ℕ) → 0 < occurrences (n + k) (numbers_from n (k + 1))
numbers_from_last n k = omega (arith, ap (occurrences (n + k)) (numbers_from_more n k), occurrences-append (n + k) (numbers_from n k) ((n + k) ∷ []), occurrences-same (n + k) [])
