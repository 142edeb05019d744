-- Counts of visits, position by position and remainder by remainder.
use Rattle.std.proofs.Common.{◌≡◌, ◌≢◌, ℕ, zero, suc, ◌+◌, ◌%◌, ◌<◌, ◌≤◌, ◌==◌, ◌&&◌, ◌||◌, Bool, true, false, cond, List, [], ◌∷◌, length, take, get_or}
use Rattle.std.proofs.Common.{replicate, sum, refl, sym, ap, ◌∙◌, arith, inl, inr}
use Rattle.std.specs.Prelude.{nat_lt, count_by}
use Rattle.std.specs.List.{enumerate_from}
use Rattle.std.proofs.lemmas.Bool.{eqb-true, eq-eqb, ne_eqb, cases_lt, cases_eq}
use Rattle.std.proofs.lemmas.Bool.Decides.{nat_tests}
use Rattle.std.proofs.lemmas.List.{get_or-set_same, get_or-set_other, length-set, get_or-replicate, length-replicate, take_more, take_all}
use Rattle.std.proofs.Math.ListN.{set}
use Rattle.std.proofs.lemmas.List.Sums.{sum_by-cons, sum_by_push}
use Rattle.setup_model.specs.declared.parsed_setup.Object.{Object}
use Rattle.check_spread.specs.Spread.{is_scheduled, is_visited_before}
use Rattle.check_spread.specs.Visits.{visit_count, count_at, HasCounts, has_less_remainder, sums_before}

-- ---- tests of positions

-- positions with this remainder
abbrev pub has_remainder : ℕ → ℕ → ℕ → Bool
has_remainder factor remainder position = position % factor == remainder

-- positions with this remainder before this one
abbrev pub has_remainder_before : ℕ → ℕ → ℕ → ℕ → Bool
has_remainder_before factor end remainder position = position % factor == remainder && nat_lt position end

-- positions that are visited before those with this remainder from this end on
abbrev pub is_visited_earlier : ℕ → ℕ → ℕ → ℕ → Bool
is_visited_earlier factor end remainder position = is_visited_before factor remainder end position

-- ---- counts of one test

abbrev one : Bool → ℕ
one b = cond b 1 0

visits-cons : (t : ℕ → Bool) (i : ℕ) (x : Object) (xs : List Object) → visit_count t i (x ∷ xs) ≡ one (is_scheduled x && t i) + visit_count t (i + 1) xs
visits-cons t i x xs = sum_by-cons (λ p. cond (is_scheduled p.1 && t p.0) 1 0) (i, x) (enumerate_from (i + 1) xs)

-- tests that agree at the positions of the list count the same
pub visits_same : (t u : ℕ → Bool) (i : ℕ) (xs : List Object) → ((j : ℕ) → i ≤ j → j < i + length xs → t j ≡ u j) → visit_count t i xs ≡ visit_count u i xs
visits_same t u i [] h = refl
visits_same t u i (x ∷ xs) h =
    visits-cons t i x xs
    ∙ ap (λ b. one (is_scheduled x && b) + visit_count t (i + 1) xs) (h i (omega arith) (omega arith))
    ∙ ap (λ n. one (is_scheduled x && u i) + n) (visits_same t u (i + 1) xs (λ j l m. h j (omega arith) (omega arith)))
    ∙ sym (visits-cons u i x xs)

one_by : (s a b c : Bool) → one a ≡ one b + one c → one (s && a) ≡ one (s && b) + one (s && c)
one_by true a b c h = h
one_by false a b c h = refl

-- a test that counts one position more
pub visits_one : (t u : ℕ → Bool) (b : Bool) (p i k : ℕ) (xs : List Object) (d : Object) → p ≡ i + k → k < length xs → ((j : ℕ) → j ≢ p → t j ≡ u j)
    → one (u p) ≡ one (t p) + one b
    → visit_count u i xs ≡ visit_count t i xs + one (is_scheduled (get_or xs k d) && b)
visits_one t u b p i k [] d e l h o = absurd (omega arith)
visits_one t u b p i zero (x ∷ xs) d e l h o =
    let at : p ≡ i = omega arith in
    let here : one (is_scheduled x && u i) ≡ one (is_scheduled x && t i) + one (is_scheduled x && b) = rw at at (one_by (is_scheduled x) (u p) (t p) b o) in
    let rest : visit_count u (i + 1) xs ≡ visit_count t (i + 1) xs = sym (visits_same t u (i + 1) xs (λ j m n. h j (λ s. absurd (omega arith)))) in
    let a = visits-cons u i x xs in
    let c = visits-cons t i x xs in
    omega (arith, a, c, here, rest)
visits_one t u b p i (suc k) (x ∷ xs) d e l h o =
    let here : one (is_scheduled x && u i) ≡ one (is_scheduled x && t i) = ap (λ a. one (is_scheduled x && a)) (sym (h i (λ s. absurd (omega arith)))) in
    let rest = visits_one t u b p (i + 1) k xs d (omega arith) (omega arith) h o in
    let a = visits-cons u i x xs in
    let c = visits-cons t i x xs in
    omega (arith, a, c, here, rest)

none_by : (s : Bool) → one (s && false) ≡ 0
none_by true = refl
none_by false = refl

-- a test that nothing passes
pub visits_none : (t : ℕ → Bool) (i : ℕ) (xs : List Object) → ((j : ℕ) → t j ≡ false) → visit_count t i xs ≡ 0
visits_none t i [] h = refl
visits_none t i (x ∷ xs) h =
    let here : one (is_scheduled x && t i) ≡ 0 = rw (h i) (none_by (is_scheduled x)) in
    let rest = visits_none t (i + 1) xs h in
    let a = visits-cons t i x xs in
    omega (arith, a, here, rest)

one_few : (b : Bool) → one b ≤ 1
one_few true = omega arith
one_few false = omega arith

-- no more are counted than there are
pub visits_few : (t : ℕ → Bool) (i : ℕ) (xs : List Object) → visit_count t i xs ≤ length xs
visits_few t i [] = omega arith
visits_few t i (x ∷ xs) =
    let rest = visits_few t (i + 1) xs in
    let a = visits-cons t i x xs in
    let b = one_few (is_scheduled x && t i) in
    omega (arith, a, b, rest)

two_by : (s a b c : Bool) → one a + one b ≡ one c → one (s && a) + one (s && b) ≡ one (s && c)
two_by true a b c h = h
two_by false a b c h = refl

-- a test that is either of two
pub visits_either : (t u v : ℕ → Bool) (i : ℕ) (xs : List Object) → ((j : ℕ) → one (t j) + one (u j) ≡ one (v j))
    → visit_count t i xs + visit_count u i xs ≡ visit_count v i xs
visits_either t u v i [] h = refl
visits_either t u v i (x ∷ xs) h =
    let rest = visits_either t u v (i + 1) xs h in
    let here = two_by (is_scheduled x) (t i) (u i) (v i) (h i) in
    let a = visits-cons t i x xs in
    let b = visits-cons u i x xs in
    let c = visits-cons v i x xs in
    omega (arith, a, b, c, here, rest)

-- ---- counts by remainder

-- the counts after a scheduled object at position p, where the tests differ only there
pub counts_add : (t u : ℕ → ℕ → Bool) (factor p : ℕ) (xs : List Object) (d : Object) (counts : List ℕ) → 0 < factor → p % factor < factor
    → p < length xs → is_scheduled (get_or xs p d) ≡ true
    → ((r j : ℕ) → j ≢ p → t r j ≡ u r j) → ((r : ℕ) → one (u r p) ≡ one (t r p) + one (p % factor == r))
    → HasCounts t factor xs counts → HasCounts u factor xs (set counts (p % factor) (count_at counts (p % factor) + 1))
counts_add t u factor p xs d counts f w l s same more has = record {
  size = length-set counts (p % factor) (count_at counts (p % factor) + 1) ∙ has.size;
  at = λ r h.
      let step = visits_one (t r) (u r) (p % factor == r) p 0 p xs d (omega arith) l (same r) (more r) in
      let was = has.at r h in
      elim (cases_eq (p % factor) r) [
        | inl e ↦
            let b : one (is_scheduled (get_or xs p d) && (p % factor == r)) ≡ 1 = rw (s, eq-eqb (p % factor) r e) refl in
            let new : count_at (set counts (p % factor) (count_at counts (p % factor) + 1)) r ≡ count_at counts r + 1 = rw e
            (get_or-set_same counts r (count_at counts r + 1) 0 (omega (arith, has.size))) in
            omega (arith, step, was, b, new)
        | inr n ↦
            let b : one (is_scheduled (get_or xs p d) && (p % factor == r)) ≡ 0 = rw (s, ne_eqb (p % factor) r n) refl in
            let new : count_at (set counts (p % factor) (count_at counts (p % factor) + 1)) r ≡ count_at counts r = get_or-set_other counts
            (p % factor) r (count_at counts (p % factor) + 1) 0 (λ e. n (sym e)) in
            omega (arith, step, was, b, new)
      ];
}

-- the counts after an object that isn't scheduled
pub counts_skip : (t u : ℕ → ℕ → Bool) (factor p : ℕ) (xs : List Object) (d : Object) (counts : List ℕ) → p < length xs → is_scheduled (get_or xs p d) ≡ false
    → ((r j : ℕ) → j ≢ p → t r j ≡ u r j) → ((r : ℕ) → one (u r p) ≡ one (t r p) + one (p % factor == r))
    → HasCounts t factor xs counts → HasCounts u factor xs counts
counts_skip t u factor p xs d counts l s same more has = record {
  size = has.size;
  at = λ r h.
      let step = visits_one (t r) (u r) (p % factor == r) p 0 p xs d (omega arith) l (same r) (more r) in
      let none : one (is_scheduled (get_or xs p d) && (p % factor == r)) ≡ 0 = rw s refl in
      has.at r h ∙ (omega (arith, step, none));
}

-- ---- the tests

less_next : (j p : ℕ) → j ≢ p → nat_lt j p ≡ nat_lt j (p + 1)
less_next j p h = elim (cases_lt j p) [
  | inl l ↦ let a : nat_lt j p ≡ true = grind (arith, nat_tests) in let b : nat_lt j (p + 1) ≡ true = grind (arith, nat_tests) in a ∙ sym b
  | inr g ↦ elim (cases_eq j p) [
    | inl e ↦ absurd (h e)
    | inr n ↦ let a : nat_lt j p ≡ false = grind (arith, nat_tests) in let l : p < j = omega (arith, g, n) in let b : nat_lt j (p + 1) ≡ false = grind
        (arith, nat_tests) in a ∙ sym b
  ]
]

not_less_itself : (p : ℕ) → nat_lt p p ≡ false
not_less_itself p = grind (arith, nat_tests)

less_one_more : (p : ℕ) → nat_lt p (p + 1) ≡ true
less_one_more p = grind (arith, nat_tests)

-- counting by remainder goes on to the next position
pub remainder_same : (factor p r j : ℕ) → j ≢ p → has_remainder_before factor p r j ≡ has_remainder_before factor (p + 1) r j
remainder_same factor p r j h = ap (λ b. j % factor == r && b) (less_next j p h)

remainder_more_by : (b : Bool) → one (b && true) ≡ one (b && false) + one b
remainder_more_by true = refl
remainder_more_by false = refl

pub remainder_more : (factor p r : ℕ) → one (has_remainder_before factor (p + 1) r p) ≡ one (has_remainder_before factor p r p) + one (p % factor == r)
remainder_more factor p r = rw (not_less_itself p, less_one_more p) (remainder_more_by (p % factor == r))

pub earlier_same : (factor p r j : ℕ) → j ≢ p → is_visited_earlier factor p r j ≡ is_visited_earlier factor (p + 1) r j
earlier_same factor p r j h = ap (λ b. nat_lt (j % factor) r || (j % factor == r && b)) (less_next j p h)

earlier_more_by : (a b : Bool) → (b ≡ true → a ≡ false) → one (a || (b && true)) ≡ one (a || (b && false)) + one b
earlier_more_by true true h = let e = h refl in cc
earlier_more_by true false h = refl
earlier_more_by false true h = refl
earlier_more_by false false h = refl

same_not_less : (a b : ℕ) → (a == b) ≡ true → nat_lt a b ≡ false
same_not_less a b h = rw (eqb-true a b h) (not_less_itself b)

pub earlier_more : (factor p r : ℕ) → one (is_visited_earlier factor (p + 1) r p) ≡ one (is_visited_earlier factor p r p) + one (p % factor == r)
earlier_more factor p r = rw (not_less_itself p, less_one_more p) (earlier_more_by (nat_lt (p % factor) r) (p % factor == r) (same_not_less (p % factor) r))

-- ---- the beginning and the end of the counting

false_second : (b : Bool) → (b && false) ≡ false
false_second true = refl
false_second false = refl

nothing_below : (j : ℕ) → nat_lt j 0 ≡ false
nothing_below j = grind (arith, nat_tests)

pub counts_first : (factor : ℕ) (xs : List Object) (counts : List ℕ) → counts ≡ replicate factor 0 → HasCounts (has_remainder_before factor 0) factor xs counts
counts_first factor xs counts e = record {
  size = rw e (length-replicate factor 0);
  at =
      λ r h. rw e (get_or-replicate factor r 0 0 h)
      ∙ sym (visits_none (has_remainder_before factor 0 r) 0 xs (λ j. rw (nothing_below j) (false_second (j % factor == r))));
}

true_second : (b : Bool) → (b && true) ≡ b
true_second true = refl
true_second false = refl

pub counts_all : (factor n : ℕ) (xs : List Object) (counts : List ℕ) → n ≡ length xs → HasCounts (has_remainder_before factor n) factor xs counts
    → HasCounts (has_remainder factor) factor xs counts
counts_all factor n xs counts e has = record {
  size = has.size;
  at =
      λ r h. has.at r h
      ∙ visits_same (has_remainder_before factor n r) (has_remainder factor r) 0 xs
      (λ j l m. let below : nat_lt j n ≡ true = (let k : j < n = omega (arith, e) in grind (arith, nat_tests)) in rw below (true_second (j % factor == r)));
}

-- ---- the ranks at which the remainders begin

sums_at : (start : ℕ) (counts : List ℕ) (r : ℕ) → r < length counts → count_at (sums_before start counts) r ≡ start + sum (take r counts)
sums_at start [] r h = absurd (omega arith)
sums_at start (c ∷ cs) zero h = omega arith
sums_at start (c ∷ cs) (suc r) h =
    let again = sums_at (start + c) cs r (omega arith) in
    let first : sum (c ∷ take r cs) ≡ c + sum (take r cs) = sum_by-cons (λ x. x) c (take r cs) in
    again ∙ (omega (arith, first))

length-sums_before : (start : ℕ) (counts : List ℕ) → length (sums_before start counts) ≡ length counts
length-sums_before start [] = refl
length-sums_before start (c ∷ cs) = ap suc (length-sums_before (start + c) cs)

less_or_same : (j r : ℕ) → one (nat_lt j r) + one (j == r) ≡ one (nat_lt j (r + 1))
less_or_same j r = elim (cases_lt j r) [
  | inl l ↦ let a : nat_lt j r ≡ true = grind (arith, nat_tests) in let b : nat_lt j (r + 1) ≡ true = grind
      (arith, nat_tests) in rw (a, b, ne_eqb j r (λ e. absurd (omega (arith, e, l)))) refl
  | inr g ↦ elim (cases_eq j r) [
    | inl e ↦ rw (e, not_less_itself r, less_one_more r, eq-eqb r r refl) refl
    | inr n ↦ let m : r < j = omega (arith, g, n) in let a : nat_lt j r ≡ false = grind (arith, nat_tests) in let b : nat_lt j (r + 1) ≡ false = grind
        (arith, nat_tests) in rw (a, b, ne_eqb j r n) refl
  ]
]

sum_more : (counts : List ℕ) (r : ℕ) → r < length counts → sum (take (r + 1) counts) ≡ sum (take r counts) + count_at counts r
sum_more counts r h = ap sum (take_more counts r 0 h) ∙ sum_by_push (λ x. x) (take r counts) (get_or counts r 0)

one_more : (r : ℕ) → suc r ≡ r + 1
one_more r = omega arith

-- the counts of the first r remainders add up to those with a smaller one
sums_less : (factor : ℕ) (xs : List Object) (counts : List ℕ) → HasCounts (has_remainder factor) factor xs counts → (r : ℕ) → r ≤ factor
    → sum (take r counts) ≡ visit_count (has_less_remainder factor r) 0 xs
sums_less factor xs counts has zero h = sym (visits_none (has_less_remainder factor 0) 0 xs (λ j. nothing_below (j % factor)))
sums_less factor xs counts has (suc r) h =
    let before = sums_less factor xs counts has r (omega arith) in
    let more = sum_more counts r (omega (arith, has.size)) in
    let here = has.at r (omega arith) in
    let either = visits_either (has_less_remainder factor r) (has_remainder factor r) (has_less_remainder factor (r + 1)) 0 xs
    (λ j. less_or_same (j % factor) r) in
    rw (one_more r) (more ∙ (let sums : sum (take r counts) + count_at counts r ≡ visit_count (has_less_remainder factor r) 0 xs + visit_count
    (has_remainder factor r) 0 xs = omega (arith, before, here) in sums) ∙ either)

pub few_in_all : (factor : ℕ) (xs : List Object) (counts : List ℕ) → HasCounts (has_remainder factor) factor xs counts → sum counts ≤ length xs
few_in_all factor xs counts has =
    let all = sums_less factor xs counts has factor (omega arith) in
    let whole : sum (take factor counts) ≡ sum counts = ap sum (take_all factor counts (omega (arith, has.size))) in
    let bounded = visits_few (has_less_remainder factor factor) 0 xs in
    omega (arith, all, whole, bounded)

pub ranks_first : (factor : ℕ) (xs : List Object) (counts ranks : List ℕ) → HasCounts (has_remainder factor) factor xs counts
    → ranks ≡ sums_before 0 counts → HasCounts (has_less_remainder factor) factor xs ranks
ranks_first factor xs counts ranks has e = record {
  size = rw e (length-sums_before 0 counts ∙ has.size);
  at = λ r h. rw e (sums_at 0 counts r (omega (arith, has.size)) ∙ (let s = sums_less factor xs counts has r (omega arith) in omega (arith, s)));
}

-- ---- the rank of one of them

count-cons : (x : Object) (xs : List Object) → count_by is_scheduled (x ∷ xs) ≡ one (is_scheduled x) + count_by is_scheduled xs
count-cons x xs = sum_by-cons (λ y. cond (is_scheduled y) 1 0) x xs

one_less : (s t : Bool) → one (s && t) ≤ one s
one_less true true = omega arith
one_less true false = omega arith
one_less false t = omega arith

visits_most : (t : ℕ → Bool) (i : ℕ) (xs : List Object) → visit_count t i xs ≤ count_by is_scheduled xs
visits_most t i [] = omega arith
visits_most t i (x ∷ xs) =
    let rest = visits_most t (i + 1) xs in
    let a = visits-cons t i x xs in
    let b = count-cons x xs in
    let c = one_less (is_scheduled x) (t i) in
    omega (arith, a, b, c, rest)

-- where a scheduled one isn't counted, fewer are counted than are scheduled
visits_less : (t : ℕ → Bool) (i k : ℕ) (xs : List Object) (d : Object) → k < length xs → is_scheduled (get_or xs k d) ≡ true → t (i + k) ≡ false
    → visit_count t i xs < count_by is_scheduled xs
visits_less t i k [] d h s e = absurd (omega arith)
visits_less t i zero (x ∷ xs) d h s e =
    let rest = visits_most t (i + 1) xs in
    let a = visits-cons t i x xs in
    let b = count-cons x xs in
    let at : i + 0 ≡ i = omega arith in
    let none : one (is_scheduled x && t i) ≡ 0 = rw (← at, e) (none_by (is_scheduled x)) in
    let some : one (is_scheduled x) ≡ 1 = ap one s in
    omega (arith, a, b, none, some, rest)
visits_less t i (suc k) (x ∷ xs) d h s e =
    let at : i + 1 + k ≡ i + suc k = omega arith in
    let rest = visits_less t (i + 1) k xs d (omega arith) s (rw at e) in
    let a = visits-cons t i x xs in
    let b = count-cons x xs in
    let c = one_less (is_scheduled x) (t i) in
    omega (arith, a, b, c, rest)

-- the rank of a scheduled object is less than how many are scheduled
pub rank_less : (factor p : ℕ) (xs : List Object) (d : Object) → p < length xs → is_scheduled (get_or xs p d) ≡ true
    → visit_count (is_visited_earlier factor p (p % factor)) 0 xs < count_by is_scheduled xs
rank_less factor p xs d h s =
    let not_less : nat_lt (p % factor) (p % factor) ≡ false = not_less_itself (p % factor) in
    let not_itself : is_visited_earlier factor p (p % factor) p ≡ false = rw (not_less, not_less_itself p) (false_second (p % factor == p % factor)) in
    let at : 0 + p ≡ p = omega arith in
    visits_less (is_visited_earlier factor p (p % factor)) 0 p xs d h s (rw at not_itself)
