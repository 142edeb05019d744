-- A name with no semicolon, and one that a semicolon parts.
use Rattle.std.proofs.Common.{◌≡◌, suc, ◌+◌, ◌&&◌, Bool, true, false, cond, List, [], ◌∷◌, length, refl, arith}
use Rattle.std.specs.List.{list_all, prefix_len}

all_by : {A : Type 0} (p : A → Bool) (x : A) (xs : List A) (b : Bool) → (prefix_len p xs ≡ length xs → list_all p xs ≡ true)
    → cond b (1 + prefix_len p xs) 0 ≡ suc (length xs) → (b && list_all p xs) ≡ true
all_by p x xs true more e = more (omega arith)
all_by p x xs false more e = absurd (omega arith)

-- where the elements before the first that fails are all of them, all pass
pub all_by_prefix : {A : Type 0} (p : A → Bool) (xs : List A) → prefix_len p xs ≡ length xs → list_all p xs ≡ true
all_by_prefix p [] e = refl
all_by_prefix p (x ∷ xs) e = all_by p x xs (p x) (all_by_prefix p xs) e
