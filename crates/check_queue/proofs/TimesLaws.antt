-- From the times of a queue to their pairs.
use Rattle.std.proofs.Common.{◌≡◌, ℕ, zero, suc, ◌+◌, Bool, true, false, List, [], ◌∷◌, Option, Some, None, refl, ◌∙◌, arith}
use Rattle.std.specs.Prelude.{slice_index_or}
use Rattle.std.specs.List.{list_all, list_any}
use Rattle.std.proofs.lemmas.Bool.{and_from, not_from_false, or_left, or_right}
use Rattle.check_queue.specs.Order.{is_before}
use Rattle.check_queue.specs.Times.{pairs_from, pairs_of}
use Rattle.check_queue.proofs.LeastLaws.{Pair, IsLeast, is_no_later, is_same, is_same_itself}

-- the time of a number
abbrev pub time_at : List (Option ℕ) → ℕ → Option ℕ
time_at times number = slice_index_or times number None

-- what each time passes with its number, each pair passes
all_from : (p : Pair → Bool) (k : ℕ) (times : List (Option ℕ)) → ((j n t : ℕ) → n ≡ k + j → time_at times j ≡ Some t → p (t, n) ≡ true)
    → list_all p (pairs_from k times) ≡ true
all_from p k [] h = refl
all_from p k (None ∷ ts) h = all_from p (k + 1) ts (λ j n t e f. h (suc j) n t (omega arith) f)
all_from p k (Some s ∷ ts) h = and_from _ _ (h 0 k s (omega arith) refl) (all_from p (k + 1) ts (λ j n t e f. h (suc j) n t (omega arith) f))

-- a number that has a time is among the pairs
any_from : (p : Pair → Bool) (k : ℕ) (times : List (Option ℕ)) (j n t : ℕ) → n ≡ k + j → time_at times j ≡ Some t → p (t, n) ≡ true
    → list_any p (pairs_from k times) ≡ true
any_from p k [] j n t e f h = cc
any_from p k (None ∷ ts) zero n t e f h = cc
any_from p k (None ∷ ts) (suc j) n t e f h = any_from p (k + 1) ts j n t (omega arith) f h
any_from p k (Some s ∷ ts) zero n t e f h = or_left _ _ (let a : s ≡ t = cc in let b : k ≡ n = omega arith in (λ i. p (a i, b i)) ∙ h)
any_from p k (Some s ∷ ts) (suc j) n t e f h = or_right _ _ (any_from p (k + 1) ts j n t (omega arith) f h)

-- a number with its time, before which no other comes, is the least pair
pub least_by_times : (c : Pair) (times : List (Option ℕ)) → time_at times c.1 ≡ Some c.0
    → ((k t : ℕ) → time_at times k ≡ Some t → is_before (t, k) c ≡ false) → IsLeast c (pairs_of times)
least_by_times c times e h = record {
  among = any_from (is_same c) 0 times c.1 c.1 c.0 (omega arith) e (is_same_itself c);
  first = all_from (is_no_later c) 0 times (λ j n t f g. not_from_false _ (h n t (let s : j ≡ n = omega arith in rw (← s) g)));
}

-- where no number has a time there is no pair
pub none_by_times : (k : ℕ) (times : List (Option ℕ)) → ((j : ℕ) → time_at times j ≡ None) → pairs_from k times ≡ []
none_by_times k [] h = refl
none_by_times k (None ∷ ts) h = none_by_times (k + 1) ts (λ j. h (suc j))
none_by_times k (Some t ∷ ts) h = let e = h 0 in cc
