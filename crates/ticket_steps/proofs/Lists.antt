-- Lists read by `get_elem?`, and lists of words that are copied one by one.
use Rattle.std.proofs.Common.{◌≡◌, ℕ, zero, suc, ◌<◌, ◌≤◌, ◌≢◌, ◌⊎◌, List, [], ◌∷◌, ◌++◌, length, get_or, set, sym, refl, ap, ◌∙◌, inl, inr, ⊎_elim, arith}
use Rattle.std.proofs.Common.{◌+◌, take, add-one}
use Rattle.std.proofs.Math.Seq.{take-suc, take-length}
use Rattle.std.proofs.lemmas.List.{length-take-le}
use mathlib.Core.Option.{some, some-injective, some-ne-none}
use lib.ListN.{get_elem?}

module _ {A : Type 0} where
  pub at_set : (l : List A) (i j : ℕ) (a b : A) → get_elem? (set l i a) j ≡ some b → ((j ≡ i) × (a ≡ b)) ⊎ ((j ≢ i) × (get_elem? l j ≡ some b))
  at_set [] i j a b e = absurd (some-ne-none b (sym e))
  at_set (x ∷ xs) zero zero a b e = inl (refl, some-injective a b e)
  at_set (x ∷ xs) zero (suc j) a b e = inr ((λ h. omega arith), e)
  at_set (x ∷ xs) (suc i) zero a b e = inr ((λ h. omega arith), e)
  at_set (x ∷ xs) (suc i) (suc j) a b e = ⊎_elim (λ t. inl (ap suc t.0, t.1)) (λ t. let n = t.0 in inr ((λ h. n (omega arith)), t.1)) (at_set xs i j a b e)

  -- an element that was read at an index stands there
  pub at_index : (l : List A) (i : ℕ) (a : A) → i < length l → a ≡ get_or l i a → get_elem? l i ≡ some a
  at_index [] i a h e = absurd (omega arith)
  at_index (x ∷ xs) zero a h e = ap some (sym e)
  at_index (x ∷ xs) (suc i) a h e = at_index xs i a (omega arith) e

  pub at_within : (l : List A) (i : ℕ) (a : A) → get_elem? l i ≡ some a → i < length l
  at_within [] i a e = absurd (some-ne-none a (sym e))
  at_within (x ∷ xs) zero a e = omega arith
  at_within (x ∷ xs) (suc i) a e = omega (arith, at_within xs i a e)

  -- what is read at an index where an element stands is that element
  pub read_at : (l : List A) (i : ℕ) (a d : A) → get_elem? l i ≡ some a → get_or l i d ≡ a
  read_at [] i a d e = absurd (some-ne-none a (sym e))
  read_at (x ∷ xs) zero a d e = some-injective x a e
  read_at (x ∷ xs) (suc i) a d e = read_at xs i a d e

  pub at_same : (l : List A) (i : ℕ) (a b : A) → get_elem? l i ≡ some a → get_elem? l i ≡ some b → a ≡ b
  at_same l i a b e d = some-injective a b (sym e ∙ d)

  pub set_here : (l : List A) (i : ℕ) (a : A) → i < length l → get_elem? (set l i a) i ≡ some a
  set_here [] i a h = absurd (omega arith)
  set_here (x ∷ xs) zero a h = refl
  set_here (x ∷ xs) (suc i) a h = set_here xs i a (omega arith)

  pub set_else : (l : List A) (i j : ℕ) (a : A) → j ≢ i → get_elem? (set l i a) j ≡ get_elem? l j
  set_else [] i j a n = refl
  set_else (x ∷ xs) zero zero a n = absurd (n refl)
  set_else (x ∷ xs) zero (suc j) a n = refl
  set_else (x ∷ xs) (suc i) zero a n = refl
  set_else (x ∷ xs) (suc i) (suc j) a n = set_else xs i j a (λ e. n (ap suc e))

  pub set_again : (l : List A) (i : ℕ) (a : A) → get_elem? l i ≡ some a → set l i a ≡ l
  set_again [] i a e = refl
  set_again (x ∷ xs) zero a e = λ k. sym (some-injective x a e) k ∷ xs
  set_again (x ∷ xs) (suc i) a e = λ k. x ∷ set_again xs i a e k

  pub at_snoc : (l : List A) (a b : A) (j : ℕ) → get_elem? (l ++ a ∷ []) j ≡ some b → (get_elem? l j ≡ some b) ⊎ (a ≡ b)
  at_snoc [] a b zero e = inr (some-injective a b e)
  at_snoc [] a b (suc j) e = absurd (some-ne-none b (sym e))
  at_snoc (x ∷ xs) a b zero e = inl e
  at_snoc (x ∷ xs) a b (suc j) e = at_snoc xs a b j e

  pub at_front : (l m : List A) (a : A) (j : ℕ) → get_elem? l j ≡ some a → get_elem? (l ++ m) j ≡ some a
  at_front [] m a j e = absurd (some-ne-none a (sym e))
  at_front (x ∷ xs) m a zero e = e
  at_front (x ∷ xs) m a (suc j) e = at_front xs m a j e

  pub at_middle : (l m : List A) (a : A) → get_elem? (l ++ a ∷ m) (length l) ≡ some a
  at_middle [] m a = refl
  at_middle (x ∷ xs) m a = at_middle xs m a

  -- of two cuts of a list, the later one has all that is before the earlier one, and the element there
  pub later_cut : (l m l' m' : List A) (a a' : A) → l ++ a ∷ m ≡ l' ++ a' ∷ m' → length l < length l' → (rest : List A) × (l' ≡ l ++ a ∷ rest)
  later_cut l m [] m' a a' e h = absurd (omega (arith, h))
  later_cut [] m (y ∷ ys) m' a a' e h = let first : a ≡ y = cc in (ys, λ i. sym first i ∷ ys)
  later_cut (x ∷ xs) m (y ∷ ys) m' a a' e h =
      let first : x ≡ y = cc in
      let rest : xs ++ a ∷ m ≡ ys ++ a' ∷ m' = cc in
      let cut = later_cut xs m ys m' a a' rest (omega (arith, h)) in (cut.0, λ i. sym first i ∷ cut.1 i)

  pub same_cut : (l m l' m' : List A) (a a' : A) → l ++ a ∷ m ≡ l' ++ a' ∷ m' → length l' ≤ length l → (rest : List A) × (l ≡ l' ++ rest)
  same_cut l m [] m' a a' e h = (l, refl)
  same_cut [] m (y ∷ ys) m' a a' e h = absurd (omega (arith, h))
  same_cut (x ∷ xs) m (y ∷ ys) m' a a' e h =
      let first : x ≡ y = cc in
      let rest : xs ++ a ∷ m ≡ ys ++ a' ∷ m' = cc in
      let cut = same_cut xs m ys m' a a' rest (omega (arith, h)) in (cut.0, λ i. first i ∷ cut.1 i)

  -- writes at two places, in the other order
  pub set_swap : (l : List A) (i j : ℕ) (a b : A) → i ≢ j → set (set l i a) j b ≡ set (set l j b) i a
  set_swap [] i j a b n = refl
  set_swap (x ∷ xs) zero zero a b n = absurd (n refl)
  set_swap (x ∷ xs) zero (suc j) a b n = refl
  set_swap (x ∷ xs) (suc i) zero a b n = refl
  set_swap (x ∷ xs) (suc i) (suc j) a b n = ap (λ (l : List A). x ∷ l) (set_swap xs i j a b (λ e. n (ap suc e)))

-- the words of a list, copied up to a place
module _ (words : List ℕ) (place count : ℕ) (all : count ≡ length words) where
  pub length-copied : place < count → length (take place words) ≡ place
  length-copied less = length-take-le place words (omega (arith, all, less))

  -- with the word at the place they are those up to the next one
  pub copied-next : {word : ℕ} → place < count → word ≡ get_or words place 0 → take place words ++ word ∷ [] ≡ take (place + 1) words
  copied-next less is =
      ap (λ (n : ℕ). take place words ++ n ∷ []) is ∙ sym (rw add-one (take-suc words place 0 (omega (arith, all, less))))

  -- at the end they are all
  pub copied-all : place ≡ count → take place words ≡ words
  copied-all end = ap (λ (n : ℕ). take n words) (end ∙ all) ∙ take-length words
