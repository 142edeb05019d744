-- The code finds a repeat by one key after another. The first key that is the same as an earlier one is at the least place whose key stands before it.
use Rattle.std.proofs.Common.{◌≡◌, ℕ, suc, ◌+◌, Bool, true, false, cond, List, [], ◌∷◌, ◌++◌, length, take, Option, Some, None, option_map, refl, sym, ap}
use Rattle.std.proofs.Common.{◌∙◌, append_assoc, arith}
use Rattle.std.specs.Prelude.{slice_get, unwrap_or}
use Rattle.std.specs.List.{list_any, position, range_with_len}
use Rattle.setup_model.specs.Keys.{is_repeat_at, first_repeat}
use Rattle.setup_model.proofs.ListLemmas.{position-front, position-back, one_found, one_missed}

-- the first key, counted from i on, that is the same as one before it
abbrev pub repeat_after : {K : Type 0} → (K → K → Bool) → List K → ℕ → List K → Option ℕ
repeat_after same before i [] = None
repeat_after same before i (key ∷ keys) = cond (list_any (same key) before) (Some i) (repeat_after same (before ++ key ∷ []) (i + 1) keys)

next_at : {K : Type 0} (before : List K) (key : K) (keys : List K) (i : ℕ) → i ≡ length before → slice_get (before ++ key ∷ keys) i ≡ Some key
next_at [] key keys i e = ap (slice_get (key ∷ keys)) e
next_at (x ∷ before) key keys i e = ap (slice_get (x ∷ (before ++ key ∷ keys))) e ∙ next_at before key keys (length before) refl

front_of : {K : Type 0} (before more : List K) (i : ℕ) → i ≡ length before → take i (before ++ more) ≡ before
front_of [] more i e = ap (λ k. take k more) e
front_of (x ∷ before) more i e = ap (λ k. take k (x ∷ (before ++ more))) e ∙ ap (λ l. x ∷ l) (front_of before more (length before) refl)

stands_by : {K : Type 0} (same : K → K → Bool) (before : List K) (key : K) (keys : List K) (i : ℕ) → i ≡ length before
    → is_repeat_at same (before ++ key ∷ keys) i ≡ list_any (same key) before
stands_by same before key keys i e =
    ap (λ o. unwrap_or (option_map (λ k. list_any (same k) (take i (before ++ key ∷ keys))) o) false) (next_at before key keys i e)
    ∙ ap (list_any (same key)) (front_of before (key ∷ keys) i e)

counted_on : (i : ℕ) (o : Option ℕ) → option_map (λ j. (i + 1) + j) o ≡ option_map (λ j. i + j) (option_map (λ j. 1 + j) o)
counted_on i None = refl
counted_on i (Some j) = ap Some (omega arith)

last_counted : (before : ℕ) (i : ℕ) → i ≡ before → i + 1 ≡ suc before
last_counted before i e = omega (arith, e)

length_more : {K : Type 0} (before : List K) (key : K) → length (before ++ key ∷ []) ≡ suc (length before)
length_more [] key = refl
length_more (x ∷ before) key = ap suc (length_more before key)

zero_more : (i : ℕ) → i + 0 ≡ i
zero_more i = omega arith

repeats_by : {K : Type 0} (same : K → K → Bool) (before : List K) (i : ℕ) (key : K) (keys : List K) (b : Bool) → i ≡ length before
    → list_any (same key) before ≡ b
    → repeat_after same (before ++ key ∷ []) (i + 1) keys ≡ option_map
    (λ j. (i + 1) + j) (position (is_repeat_at same ((before ++ key ∷ []) ++ keys)) (range_with_len (i + 1) (length keys)))
    → cond b (Some i) (repeat_after same (before ++ key ∷ []) (i + 1) keys) ≡ option_map
    (λ j. i + j) (position (is_repeat_at same (before ++ key ∷ keys)) (range_with_len i (suc (length keys))))
repeats_by same before i key keys true e there more =
    let p = is_repeat_at same (before ++ key ∷ keys) in
    ap Some (sym (zero_more i)) ∙ ap (option_map (λ j. i + j)) (sym
    (position-front p (i ∷ []) (range_with_len (i + 1) (length keys)) 0 (one_found p i (stands_by same before key keys i e ∙ there))))
repeats_by same before i key keys false e there more =
    let p = is_repeat_at same (before ++ key ∷ keys) in
    more ∙ ap (λ l. option_map (λ j. (i + 1) + j) (position (is_repeat_at same l) (range_with_len (i + 1) (length keys))))
    (append_assoc before (key ∷ []) keys)
    ∙ counted_on i (position p (range_with_len (i + 1) (length keys)))
    ∙ ap (option_map (λ j. i + j))
    (sym (position-back p (i ∷ []) (range_with_len (i + 1) (length keys)) (one_missed p i (stands_by same before key keys i e ∙ there))))

repeats_from : {K : Type 0} (same : K → K → Bool) (before : List K) (i : ℕ) (keys : List K) → i ≡ length before
    → repeat_after same before i keys ≡ option_map (λ j. i + j) (position (is_repeat_at same (before ++ keys)) (range_with_len i (length keys)))
repeats_from same before i [] e = refl
repeats_from same before i (key ∷ keys) e =
    repeats_by same before i key keys (list_any (same key) before) e refl
    (repeats_from same (before ++ key ∷ []) (i + 1) keys (last_counted (length before) i e ∙ sym (length_more before key)))

from_zero : (o : Option ℕ) → option_map (λ j. 0 + j) o ≡ o
from_zero None = refl
from_zero (Some j) = ap Some (omega arith)

pub first_repeat_is : {K : Type 0} (same : K → K → Bool) (keys : List K) → first_repeat same keys ≡ repeat_after same [] 0 keys
first_repeat_is same keys = sym (repeats_from same [] 0 keys refl ∙ from_zero (position (is_repeat_at same keys) (range_with_len 0 (length keys))))
