-- A list put into buckets by number: together they are the list.
use Rattle.std.proofs.Common.{◌≡◌, ℕ, zero, suc, ◌+◌, ◌<◌, ◌≤◌, ◌==◌, Bool, true, false, List, [], ◌∷◌, ◌++◌, refl, sym, ap, subst, arith}
use Rattle.std.specs.Prelude.{nat_lt}
use Rattle.std.specs.List.{list_all, filter, flat_map, range_with_len}
use Rattle.std.specs.List.Sorted.{IsPermutation}
use Rattle.std.proofs.lemmas.Bool.Decides.{nat_tests}
use Rattle.std.proofs.lemmas.List.Sorted.{IsPermutation-refl, IsPermutation-sym, IsPermutation-trans, IsPermutation-cons, IsPermutation-middle}
use Rattle.std.proofs.lemmas.List.Sorted.{IsPermutation-append_right}
use Rattle.setup_order.proofs.TestLemmas.{and_first, and_second}

module _ {A : Type 0} (number : A → ℕ) where
  abbrev pub bucket : List A → ℕ → List A
  bucket xs k = filter (λ x. number x == k) xs

  abbrev pub buckets : List A → ℕ → ℕ → List A
  buckets xs a n = flat_map (bucket xs) (range_with_len a n)

  bucket_other : (x : A) (xs : List A) (k : ℕ) → (number x == k) ≡ false → bucket (x ∷ xs) k ≡ bucket xs k
  bucket_other x xs k e = rw e refl

  bucket_same : (x : A) (xs : List A) (k : ℕ) → (number x == k) ≡ true → bucket (x ∷ xs) k ≡ x ∷ bucket xs k
  bucket_same x xs k e = rw e refl

  bucket_passed : (x : A) (xs : List A) (a n : ℕ) → number x < a → buckets (x ∷ xs) a n ≡ buckets xs a n
  bucket_passed x xs a zero h = refl
  bucket_passed x xs a (suc n) h =
      let other : (number x == a) ≡ false = grind (arith, nat_tests, h) in
      let here = bucket_other x xs a other in
      let more = bucket_passed x xs (a + 1) n (omega (arith, h)) in
      λ i. here i ++ more i

  bucket_insert_by : (x : A) (xs : List A) (a n : ℕ) (b : Bool) → (number x == a) ≡ b → a ≤ number x → number x < a + suc n
      → (a + 1 ≤ number x → number x < (a + 1) + n → IsPermutation (x ∷ buckets xs (a + 1) n) (buckets (x ∷ xs) (a + 1) n))
      → IsPermutation (x ∷ buckets xs a (suc n)) (buckets (x ∷ xs) a (suc n))
  bucket_insert_by x xs a n true e low high more =
      let below : number x < a + 1 = grind (arith, nat_tests, e) in
      let here = bucket_same x xs a e in
      let later = bucket_passed x xs (a + 1) n below in
      let same : buckets (x ∷ xs) a (suc n) ≡ x ∷ buckets xs a (suc n) = λ i. here i ++ later i in
      subst (IsPermutation (x ∷ buckets xs a (suc n))) (sym same) (IsPermutation-refl (x ∷ buckets xs a (suc n)))
  bucket_insert_by x xs a n false e low high more =
      let above : a + 1 ≤ number x = grind (arith, nat_tests, e, low) in
      let front = bucket xs a in
      let same : buckets (x ∷ xs) a (suc n) ≡ front ++ buckets (x ∷ xs) (a + 1) n = ap (λ l. l ++ buckets (x ∷ xs) (a + 1) n) (bucket_other x xs a e) in
      subst (IsPermutation (x ∷ buckets xs a (suc n))) (sym same)
      (IsPermutation-trans (x ∷ (front ++ buckets xs (a + 1) n)) (front ++ x ∷ buckets xs (a + 1) n) (front ++ buckets (x ∷ xs) (a + 1) n)
      (IsPermutation-sym (front ++ x ∷ buckets xs (a + 1) n) (x ∷ (front ++ buckets xs (a + 1) n)) (IsPermutation-middle front x (buckets xs (a + 1) n)))
      (IsPermutation-append_right front (x ∷ buckets xs (a + 1) n) (buckets (x ∷ xs) (a + 1) n) (more above (omega (arith, high)))))

  bucket_insert : (x : A) (xs : List A) (a n : ℕ) → a ≤ number x → number x < a + n → IsPermutation (x ∷ buckets xs a n) (buckets (x ∷ xs) a n)
  bucket_insert x xs a zero low high = absurd (omega (arith, low, high))
  bucket_insert x xs a (suc n) low high = bucket_insert_by x xs a n (number x == a) refl low high (bucket_insert x xs (a + 1) n)

  none_in : (a n : ℕ) → buckets [] a n ≡ []
  none_in a zero = refl
  none_in a (suc n) = none_in (a + 1) n

  -- where every number is below n, the n buckets are all
  pub in_buckets : (n : ℕ) (xs : List A) → list_all (λ x. nat_lt (number x) n) xs ≡ true → IsPermutation xs (buckets xs 0 n)
  in_buckets n [] h = subst (IsPermutation []) (sym (none_in 0 n)) (IsPermutation-refl [])
  in_buckets n (x ∷ xs) h =
      let below = and_first (nat_lt (number x) n) _ h in
      let high : number x < 0 + n = grind (arith, nat_tests, below) in
      IsPermutation-trans (x ∷ xs) (x ∷ buckets xs 0 n) (buckets (x ∷ xs) 0 n)
      (IsPermutation-cons x xs (buckets xs 0 n) (in_buckets n xs (and_second (nat_lt (number x) n) _ h)))
      (bucket_insert x xs 0 n (omega arith) high)

-- lists that agree on a range are together the same
pub joined_same : {B : Type 0} (f g : ℕ → List B) (a n : ℕ) → ((k : ℕ) → a ≤ k → k < a + n → f k ≡ g k)
    → flat_map f (range_with_len a n) ≡ flat_map g (range_with_len a n)
joined_same f g a zero agree = refl
joined_same f g a (suc n) agree =
    let here = agree a (omega arith) (omega arith) in
    let more = joined_same f g (a + 1) n (λ k low high. agree k (omega (arith, low)) (omega (arith, high))) in
    λ i. here i ++ more i
