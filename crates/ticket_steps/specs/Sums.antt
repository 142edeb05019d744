-- Sums and counts over lists.
use Rattle.std.specs.Prelude.{ℕ, ◌+◌, List, [], ◌∷◌, cond, ◌==◌, nat_lt, zero, suc}

-- the sum of a number of each element
abbrev pub total : {A : Type 0} → (A → ℕ) → List A → ℕ
total f [] = 0
total f (x ∷ xs) = f x + total f xs

-- how often n occurs in a list
abbrev pub occurrences : ℕ → List ℕ → ℕ
occurrences n [] = 0
occurrences n (x ∷ xs) = cond (n == x) 1 0 + occurrences n xs

-- 1 if x is below n, otherwise 0
abbrev pub once_below : ℕ → ℕ → ℕ
once_below x n = cond (nat_lt x n) 1 0

-- the numbers from n on, this many
abbrev pub numbers_from : ℕ → ℕ → List ℕ
numbers_from n zero = []
numbers_from n (suc k) = n ∷ numbers_from (n + 1) k
