-- Laws of one place changed in a list, and of what is true at each place.
use Rattle.std.proofs.Common.{◌≡◌, ◌≢◌, ℕ, zero, suc, ◌<◌, ◌≤◌, Bool, true, List, [], ◌∷◌, length, get_or, set, Some, None, refl, ap}
use Rattle.std.proofs.Common.{subst, arith}
use Rattle.std.specs.Prelude.{slice_get}
use Rattle.std.specs.List.{list_all}
use Rattle.std.proofs.lemmas.Bool.{and_parts, and_from}
use Rattle.check_sched.specs.Step.{update_at}

pub length-update_at : {X : Type 0} (n : ℕ) (f : X → X) (xs : List X) → length (update_at n f xs) ≡ length xs
length-update_at n f [] = refl
length-update_at zero f (x ∷ xs) = refl
length-update_at (suc n) f (x ∷ xs) = ap suc (length-update_at n f xs)

-- what is read at another place than the one that changed
pub update_at_apart : {X : Type 0} (n k : ℕ) (f : X → X) (xs : List X) → n ≢ k → slice_get (update_at n f xs) k ≡ slice_get xs k
update_at_apart n k f [] h = refl
update_at_apart zero zero f (x ∷ xs) h = absurd (h refl)
update_at_apart zero (suc k) f (x ∷ xs) h = refl
update_at_apart (suc n) zero f (x ∷ xs) h = refl
update_at_apart (suc n) (suc k) f (x ∷ xs) h = update_at_apart n k f xs (λ e. h (ap suc e))

-- a place that stays as it is
pub update_at_still : {X : Type 0} (n : ℕ) (f : X → X) (xs : List X) → ((x : X) → slice_get xs n ≡ Some x → f x ≡ x) → update_at n f xs ≡ xs
update_at_still n f [] h = refl
update_at_still zero f (x ∷ xs) h = ap (λ y. y ∷ xs) (h x refl)
update_at_still (suc n) f (x ∷ xs) h = ap (λ l. x ∷ l) (update_at_still n f xs h)

-- what was put in a place is what is read there
pub update_at_read : {X : Type 0} (n : ℕ) (y x : X) (xs : List X) → slice_get (update_at n (λ before. y) xs) n ≡ Some x → y ≡ x
update_at_read n y x [] e = cc
update_at_read zero y x (z ∷ xs) e = cc
update_at_read (suc n) y x (z ∷ xs) e = update_at_read n y x xs e

pub set_is_update : {X : Type 0} (n : ℕ) (f : X → X) (xs : List X) (d y : X) → n < length xs → y ≡ f (get_or xs n d) → set xs n y ≡ update_at n f xs
set_is_update n f [] d y h e = absurd (omega arith)
set_is_update zero f (x ∷ xs) d y h e = ap (λ z. z ∷ xs) e
set_is_update (suc n) f (x ∷ xs) d y h e = ap (λ l. x ∷ l) (set_is_update n f xs d y (omega arith) e)

-- a test that each passes, and that what is put in the place passes
pub all-update_at : {X : Type 0} (p : X → Bool) (n : ℕ) (f : X → X) (xs : List X) → list_all p xs ≡ true → ((x : X) → p x ≡ true → p (f x) ≡ true)
    → list_all p (update_at n f xs) ≡ true
all-update_at p n f [] e h = refl
all-update_at p zero f (x ∷ xs) e h = let b = and_parts (p x) (list_all p xs) e in and_from (p (f x)) (list_all p xs) (h x b.0) b.1
all-update_at p (suc n) f (x ∷ xs) e h = let b = and_parts (p x) (list_all p xs) e in and_from (p x) _ b.0 (all-update_at p n f xs b.1 h)

-- the same of what is put in the place of the one that stands there
pub all-update_at_place : {X : Type 0} (p : X → Bool) (n : ℕ) (f : X → X) (xs : List X) → list_all p xs ≡ true
    → ((x : X) → slice_get xs n ≡ Some x → p x ≡ true → p (f x) ≡ true) → list_all p (update_at n f xs) ≡ true
all-update_at_place p n f [] e h = refl
all-update_at_place p zero f (x ∷ xs) e h = let b = and_parts (p x) (list_all p xs) e in and_from (p (f x)) (list_all p xs) (h x refl b.0) b.1
all-update_at_place p (suc n) f (x ∷ xs) e h =
    let b = and_parts (p x) (list_all p xs) e in and_from (p x) _ b.0 (all-update_at_place p n f xs b.1 h)

-- what is true of each, by its place, and of what one becomes
pub each-changed_at : {X : Type 0} (P : ℕ → X → Type 0) (n : ℕ) (f : X → X) (xs : List X) → ((k : ℕ) (x : X) → slice_get xs k ≡ Some x → P k x)
    → ((x : X) → P n x → P n (f x)) → (k : ℕ) (x : X) → slice_get (update_at n f xs) k ≡ Some x → P k x
each-changed_at P n f [] each new k x e = each k x e
each-changed_at P zero f (z ∷ xs) each new zero x e = let same : f z ≡ x = cc in subst (λ w. P 0 w) same (new z (each 0 z refl))
each-changed_at P zero f (z ∷ xs) each new (suc k) x e = each (suc k) x e
each-changed_at P (suc n) f (z ∷ xs) each new zero x e = each zero x e
each-changed_at P (suc n) f (z ∷ xs) each new (suc k) x e = each-changed_at (λ j w. P (suc j) w) n f xs (λ j w g. each (suc j) w g) new k x e

-- what is true of each, by its place, and of what is put in one place
pub each-update_at : {X : Type 0} (P : ℕ → X → Type 0) (n : ℕ) (y : X) (xs : List X) → ((k : ℕ) (x : X) → slice_get xs k ≡ Some x → P k x) → P n y
    → (k : ℕ) (x : X) → slice_get (update_at n (λ before. y) xs) k ≡ Some x → P k x
each-update_at P n y [] each new k x e = each k x e
each-update_at P zero y (z ∷ xs) each new zero x e = let same : y ≡ x = cc in subst (λ w. P 0 w) same new
each-update_at P zero y (z ∷ xs) each new (suc k) x e = each (suc k) x e
each-update_at P (suc n) y (z ∷ xs) each new zero x e = each zero x e
each-update_at P (suc n) y (z ∷ xs) each new (suc k) x e = each-update_at (λ j w. P (suc j) w) n y xs (λ j w f. each (suc j) w f) new k x e

-- ---- places

-- a place with nothing at it is past the end
pub none_there : {X : Type 0} (xs : List X) (n : ℕ) → slice_get xs n ≡ None → length xs ≤ n
none_there [] n e = omega arith
none_there (x ∷ xs) zero e = cc
none_there (x ∷ xs) (suc n) e = let more = none_there xs n e in omega (arith, more)
