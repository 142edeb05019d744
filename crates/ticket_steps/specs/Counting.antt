-- The sequential step of the counter book.
use Rattle.std.specs.Prelude.{◌≡◌, ℕ, zero, suc, ◌+◌, ◌%◌, ◌^◌, ◌<◌, List, [], ◌∷◌, Option, Some, None, slice_index, slice_set}
use Rattle.std.proofs.Common.{refl, ap, subst, arith}

-- a call is added to the sum, modulo 2^64; the reply is the new sum
abbrev pub counter_step : ℕ → ℕ → ℕ × ℕ
counter_step sum call = let next = (sum + call) % 2 ^ 64 in (next, next)

-- the board has one word, the sum
abbrev pub sum_board : ℕ → List ℕ
sum_board sum = sum % 2 ^ 64 ∷ []

-- a call is posted there, except for one that adds nothing
abbrev pub sum_slot : ℕ → ℕ → Option ℕ
sum_slot sum zero = None
sum_slot sum (suc n) = Some 0

-- the place of a call is that of the one word
pub sum_within : (sum call place : ℕ) → sum_slot sum call ≡ Some place → place < 1
sum_within sum zero place is = let no : None ≡ Some place = is in absurd (cc)
sum_within sum (suc n) place is = let at : Some 0 ≡ Some place = is in let here : 0 ≡ place = cc in omega (arith, here)

-- a call that adds nothing leaves the word as it was
pub sum_unposted : (sum call : ℕ) → sum_slot sum call ≡ None → sum_board (counter_step sum call).0 ≡ sum_board sum
sum_unposted sum zero is = let same : ((sum + 0) % 2 ^ 64) % 2 ^ 64 ≡ sum % 2 ^ 64 = omega arith in ap (λ (n : ℕ). n ∷ []) same
sum_unposted sum (suc n) is = let no : Some zero ≡ None = is in absurd (cc)

-- every other call changes no other word
pub sum_posted : (sum call place : ℕ) → sum_slot sum call ≡ Some place
    → sum_board (counter_step sum call).0 ≡ slice_set (sum_board sum) place (slice_index (sum_board (counter_step sum call).0) place)
sum_posted sum zero place is = let no : None ≡ Some place = is in absurd (cc)
sum_posted sum (suc n) place is =
    let at : Some 0 ≡ Some place = is in
    let here : 0 ≡ place = cc in
    let next = (counter_step sum (suc n)).0 in
    subst (λ (i : ℕ). sum_board next ≡ slice_set (sum_board sum) i (slice_index (sum_board next) i)) here refl
