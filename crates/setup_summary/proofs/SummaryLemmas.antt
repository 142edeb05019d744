-- How many parents the hosts of a setup have.
use Rattle.std.proofs.Common.{◌≡◌, ℕ, zero, suc, ◌+◌, ◌<◌, ◌≤◌, ◌⊎◌, inl, inr, List, [], ◌∷◌, length, take, get_or, option_map, refl, ap, ◌∙◌, arith}
use Rattle.std.specs.Prelude.{slice_get, unwrap_or, sum_by}
use Rattle.std.proofs.lemmas.Bool.{cases_lt}
use Rattle.std.proofs.lemmas.List.{take_all}
use Rattle.std.proofs.lemmas.List.Sums.{sum_by-cons, sum_by_more}
use Rattle.check_objects.specs.Configuration.{Host}

-- the parents of the host with this number; none where there is no such host
abbrev pub parents_in : List Host → ℕ → List ℕ
parents_in hs n = unwrap_or (option_map (λ h. h.parents) (slice_get hs n)) []

parents_at : (hs : List Host) (n : ℕ) (d : Host) → n < length hs → (get_or hs n d).parents ≡ parents_in hs n
parents_at [] n d h = absurd (omega arith)
parents_at (x ∷ xs) zero d h = refl
parents_at (x ∷ xs) (suc n) d h = parents_at xs n d (omega arith)

parents_past : (hs : List Host) (n : ℕ) → length hs ≤ n → length (parents_in hs n) ≡ 0
parents_past [] n h = refl
parents_past (x ∷ xs) zero h = absurd (omega arith)
parents_past (x ∷ xs) (suc n) h = parents_past xs n (omega arith)

parents_more_by : (hs : List Host) (n : ℕ) → (n < length hs) ⊎ (length hs ≤ n)
    → sum_by (λ h. length h.parents) (take (n + 1) hs) ≡ sum_by (λ h. length h.parents) (take n hs) + length (parents_in hs n)
parents_more_by [] n (inl h) = absurd (omega arith)
parents_more_by (d ∷ hs) n (inl h) =
    sum_by_more (λ x. length x.parents) (d ∷ hs) n d h
    ∙ ap (λ k. sum_by (λ x. length x.parents) (take n (d ∷ hs)) + k) (ap length (parents_at (d ∷ hs) n d h))
parents_more_by hs n (inr h) =
    let a = ap (λ l. sum_by (λ (x : Host). length x.parents) l) (take_all n hs h) in
    let b = ap (λ l. sum_by (λ (x : Host). length x.parents) l) (take_all (n + 1) hs (omega arith)) in
    let none = parents_past hs n h in
    omega (arith, a, b, none)

-- one host more
pub parents_more : (hs : List Host) (n : ℕ)
    → sum_by (λ h. length h.parents) (take (n + 1) hs) ≡ sum_by (λ h. length h.parents) (take n hs) + length (parents_in hs n)
parents_more hs n = parents_more_by hs n (cases_lt n (length hs))

-- the first hosts have no more parents than all
pub parents_few : (hs : List Host) (n : ℕ) → sum_by (λ h. length h.parents) (take n hs) ≤ sum_by (λ h. length h.parents) hs
parents_few [] zero = omega arith
parents_few [] (suc n) = omega arith
parents_few (x ∷ xs) zero = omega arith
parents_few (x ∷ xs) (suc n) =
    let a = sum_by-cons (λ (h : Host). length h.parents) x (take n xs) in
    let b = sum_by-cons (λ (h : Host). length h.parents) x xs in
    let h = parents_few xs n in
    omega (arith, a, b, h)
