-- Tests that pass, of numbers and of lists.
use Rattle.std.proofs.Common.{◌≡◌, ℕ, ◌<◌, ◌&&◌, ◌||◌, Bool, true, false, not, List, [], ◌∷◌, refl, arith, inl, inr, ◌⊎◌}
use Rattle.std.specs.Prelude.{nat_lt}
use Rattle.std.specs.List.{list_any, list_all}
use Rattle.std.proofs.lemmas.Bool.Decides.{nat_tests}

pub is_below : (x n : ℕ) → nat_lt x n ≡ true → x < n
is_below x n h = grind (arith, nat_tests, h)

pub below_is : (x n : ℕ) → x < n → nat_lt x n ≡ true
below_is x n h = grind (arith, nat_tests, h)

pub or_first : (a b : Bool) → a ≡ true → (a || b) ≡ true
or_first true b h = refl
or_first false b h = cc

pub or_second : (a b : Bool) → b ≡ true → (a || b) ≡ true
or_second true b h = refl
or_second false b h = h

pub or_cases : (a b : Bool) → (a || b) ≡ true → (a ≡ true) ⊎ (b ≡ true)
or_cases true b h = inl refl
or_cases false b h = inr h

pub and_first : (a b : Bool) → (a && b) ≡ true → a ≡ true
and_first true b h = refl
and_first false b h = h

pub and_second : (a b : Bool) → (a && b) ≡ true → b ≡ true
and_second true b h = h
and_second false b h = cc

pub and_both : (a b : Bool) → a ≡ true → b ≡ true → (a && b) ≡ true
and_both a b h k = rw (h, k) refl

pub both_true : (a b : Bool) → (a && b) ≡ true → (a ≡ true) × (b ≡ true)
both_true a b h = (and_first a b h, and_second a b h)

pub not_true : (a : Bool) → not a ≡ true → a ≡ false
not_true true h = cc
not_true false h = refl

any_weaker_by : (p q : ℕ → Bool) (a b : Bool) (xs : List ℕ) → (a ≡ true → b ≡ true) → (list_any p xs ≡ true → list_any q xs ≡ true)
    → (a || list_any p xs) ≡ true → (b || list_any q xs) ≡ true
any_weaker_by p q true b xs f g h = or_first b _ (f refl)
any_weaker_by p q false b xs f g h = or_second b _ (g h)

-- a test that is weaker passes too
pub any_weaker : (p q : ℕ → Bool) → ((x : ℕ) → p x ≡ true → q x ≡ true) → (xs : List ℕ) → list_any p xs ≡ true → list_any q xs ≡ true
any_weaker p q f [] h = h
any_weaker p q f (x ∷ xs) h = any_weaker_by p q (p x) (q x) xs (f x) (any_weaker p q f xs) h

pub all_weaker : {A : Type 0} (p q : A → Bool) → ((x : A) → p x ≡ true → q x ≡ true) → (xs : List A) → list_all p xs ≡ true → list_all q xs ≡ true
all_weaker p q f [] h = refl
all_weaker p q f (x ∷ xs) h = and_both (q x) _ (f x (and_first (p x) _ h)) (all_weaker p q f xs (and_second (p x) _ h))
