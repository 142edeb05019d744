-- Searches over lists that are mapped, that grow, and of which one stands behind the other.
use Rattle.std.proofs.Common.{◌≡◌, ℕ, sym, ◌∙◌, ◌+◌, ◌<◌, ◌==◌, not, Bool, true, false, cond, ◌||◌, List, [], ◌∷◌, ◌++◌, map, take, drop, length, get_or}
use Rattle.std.proofs.Common.{refl, ap}
use Rattle.std.proofs.Common.{Option, Some, None, option_map, arith}
use Rattle.std.specs.Prelude.{nat_lt}
use Rattle.std.specs.List.{sum_by, list_any, position, position_or_len, prefix_len}
use Rattle.std.proofs.lemmas.Bool.Decides.{nat_tests}
use Rattle.std.proofs.lemmas.Grind.{common_steps}
use Rattle.std.proofs.lemmas.List.{length-map, length-append, map-append, take_more}
use Rattle.std.proofs.lemmas.List.Folds.{prefix_len-append}
use Rattle.std.proofs.lemmas.List.Sums.{sum_by-cons, prefix_len-le-length}

prefix_len-map : {A B : Type 0} (p : B → Bool) (f : A → B) (xs : List A) → prefix_len p (map f xs) ≡ prefix_len (λ x. p (f x)) xs
prefix_len-map p f [] = refl
prefix_len-map p f (x ∷ xs) = ap (λ n. cond (p (f x)) (1 + n) 0) (prefix_len-map p f xs)

pub position-map : {A B : Type 0} (p : B → Bool) (f : A → B) (xs : List A) → position p (map f xs) ≡ position (λ x. p (f x)) xs
position-map p f xs = rw (prefix_len-map (λ x. not (p x)) f xs, length-map xs f) refl

pub list_any-map : {A B : Type 0} (p : B → Bool) (f : A → B) (xs : List A) → list_any p (map f xs) ≡ list_any (λ x. p (f x)) xs
list_any-map p f [] = refl
list_any-map p f (x ∷ xs) = ap (λ b. p (f x) || b) (list_any-map p f xs)

-- two tests that agree find the same place
pub position-same : {A : Type 0} (p q : A → Bool) → ((x : A) → p x ≡ q x) → (xs : List A) → position p xs ≡ position q xs
position-same p q agree xs = let e : p ≡ q = λ i x. agree x i in ap (λ t. position t xs) e

pub sum_by-map : {A B : Type 0} (f : B → ℕ) (g : A → B) (xs : List A) → sum_by f (map g xs) ≡ sum_by (λ x. f (g x)) xs
sum_by-map f g [] = refl
sum_by-map f g (x ∷ xs) = sum_by-cons f (g x) (map g xs) ∙ ap (λ n. f (g x) + n) (sum_by-map f g xs) ∙ sym (sum_by-cons (λ y. f (g y)) x xs)

-- ---- two lists, one behind the other

found : (b : Bool) (a i : ℕ) → cond b (Some a) None ≡ Some i → (b ≡ true) × (a ≡ i)
found true a i e = (refl, cc)
found false a i e = cc

pub missed : (b : Bool) (a : ℕ) → cond b (Some a) None ≡ None → b ≡ false
missed true a e = cc
missed false a e = refl

abbrev pub first_of : ℕ → ℕ → Option ℕ
first_of a n = cond (nat_lt a n) (Some a) None

pub position-front : {A : Type 0} (p : A → Bool) (xs ys : List A) (i : ℕ) → position p xs ≡ Some i → position p (xs ++ ys) ≡ Some i
position-front p xs ys i e =
    let a = position_or_len p xs in
    let f = found (nat_lt a (length xs)) a i e in
    let below : nat_lt a (length xs) ≡ true = f.0 in
    let apart : (a == length xs) ≡ false = grind (arith, nat_tests, below) in
    let here : position_or_len p (xs ++ ys) ≡ a = prefix_len-append (λ x. not (p x)) xs ys ∙ ap (λ b. cond b (length xs + position_or_len p ys) a) apart in
    let within : nat_lt a (length (xs ++ ys)) ≡ true = ap (nat_lt a) (length-append xs ys) ∙ grind (arith, nat_tests, below) in
    ap (λ k. first_of k (length (xs ++ ys))) here ∙ ap (λ b. cond b (Some a) None) within ∙ ap Some f.1

shifted_by : (b : Bool) (n c : ℕ) → cond b (Some (n + c)) None ≡ option_map (λ j. n + j) (cond b (Some c) None)
shifted_by true n c = refl
shifted_by false n c = refl

shifted_test_by : (n c m : ℕ) (b : Bool) → nat_lt c m ≡ b → nat_lt (n + c) (n + m) ≡ b
shifted_test_by n c m true e = grind (arith, nat_tests, e)
shifted_test_by n c m false e = grind (arith, nat_tests, e)

shifted_test : (n c m : ℕ) → nat_lt (n + c) (n + m) ≡ nat_lt c m
shifted_test n c m = shifted_test_by n c m (nat_lt c m) refl

pub position-back : {A : Type 0} (p : A → Bool) (xs ys : List A) → position p xs ≡ None
    → position p (xs ++ ys) ≡ option_map (λ j. length xs + j) (position p ys)
position-back p xs ys e =
    let a = position_or_len p xs in
    let c = position_or_len p ys in
    let past : nat_lt a (length xs) ≡ false = missed (nat_lt a (length xs)) a e in
    let low = prefix_len-le-length (λ x. not (p x)) xs in
    let same : (a == length xs) ≡ true = grind (arith, nat_tests, past, low) in
    let here : position_or_len p (xs ++ ys) ≡ length xs + c = prefix_len-append (λ x. not (p x)) xs ys ∙ ap (λ b. cond b (length xs + c) a) same in
    let test : nat_lt (length xs + c) (length (xs ++ ys)) ≡ nat_lt c (length ys) = ap (nat_lt (length xs + c)) (length-append xs ys) ∙ shifted_test
    (length xs) c (length ys) in
    ap (λ k. first_of k (length (xs ++ ys))) here ∙ ap (λ b. cond b (Some (length xs + c)) None) test ∙ shifted_by (nat_lt c (length ys)) (length xs) c

pub one_found : {A : Type 0} (p : A → Bool) (x : A) → p x ≡ true → position p (x ∷ []) ≡ Some 0
one_found p x e = rw e refl

pub one_missed : {A : Type 0} (p : A → Bool) (x : A) → p x ≡ false → position p (x ∷ []) ≡ None
one_missed p x e = rw e refl

-- ---- a list read item by item

pub dropped_at : {A : Type 0} (xs : List A) (i : ℕ) (none : A) → i < length xs → drop i xs ≡ get_or xs i none ∷ drop (i + 1) xs
dropped_at xs i none below = grind (arith, common_steps)

pub dropped_as : {A : Type 0} (xs : List A) (i : ℕ) (x : A) → i < length xs → x ≡ get_or xs i x → drop i xs ≡ x ∷ drop (i + 1) xs
dropped_as xs i x below is = grind (arith, common_steps, is)

pub mapped_next : {A B : Type 0} (f : A → B) (xs : List A) (i : ℕ) (x : A) → i < length xs → x ≡ get_or xs i x
    → map f (take (i + 1) xs) ≡ map f (take i xs) ++ f x ∷ []
mapped_next f xs i x h e = ap (map f) (take_more xs i x h ∙ ap (λ y. take i xs ++ y ∷ []) (sym e)) ∙ map-append f (take i xs) (x ∷ [])

-- the keys with one more, where it is new
pub one_key_more : {A : Type 0} (known : Bool) (keys new : List A) (key : A) → new ≡ cond known keys (keys ++ key ∷ []) → known ≡ false → new ≡ keys ++ key ∷ []
one_key_more known keys new key e f = e ∙ ap (λ b. cond b keys (keys ++ key ∷ [])) f
