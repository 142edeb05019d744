-- The entries of one number in a history that grows, and a history counted by its numbers.
use Rattle.std.proofs.Common.{◌≡◌, ℕ, ◌+◌, ◌<◌, ◌≤◌, ◌≢◌, List, [], ◌∷◌, ◌++◌, length, sym, refl, ap, ◌∙◌, arith, Bool, true, false, ◌==◌, cond, ne_eqb, eq-eqb}
use Rattle.std.specs.List.{sum_by}
use Rattle.std.proofs.lemmas.List.{append-nil}
use Rattle.std.proofs.lemmas.List.Sums.{sum_by-cons}
use mathlib.Core.Logic.{dite}
use native.Mathlib.Decide.{ℕ_discrete, dec_le}
use Rattle.ticket_steps.specs.declared.books.Entry.{Entry}
use Rattle.ticket_steps.specs.History.{of}
use Rattle.ticket_steps.specs.Sums.{numbers_from, occurrences}
use Rattle.ticket_steps.proofs.SumLemmas.{below_no, below_yes, numbers_from_below}

zeros : (numbers : List ℕ) → sum_by (λ p. 0) numbers ≡ 0
zeros [] = refl
zeros (p ∷ ps) = let more = zeros ps in let all = sum_by-cons (λ (q : ℕ). 0) p ps in omega (arith, more, all)

module _ {C R : Type 0} where
  abbrev put : Entry C R → List (Entry C R) → Bool → List (Entry C R)
  put e es b = cond b (e ∷ es) es

  pub of-yes : (p : ℕ) (e : Entry C R) (es : List (Entry C R)) → e.pass ≡ p → of p (e ∷ es) ≡ e ∷ of p es
  of-yes p e es h = ap (put e (of p es)) (eq-eqb e.pass p h)

  pub of-no : (p : ℕ) (e : Entry C R) (es : List (Entry C R)) → e.pass ≢ p → of p (e ∷ es) ≡ of p es
  of-no p e es h = ap (put e (of p es)) (ne_eqb e.pass p h)

  pub of-append : (p : ℕ) (xs ys : List (Entry C R)) → of p (xs ++ ys) ≡ of p xs ++ of p ys
  of-append p [] ys = refl
  of-append p (e ∷ es) ys = dite (ℕ_discrete e.pass p)
      (λ h. of-yes p e (es ++ ys) h
      ∙ (ap (λ (l : List (Entry C R)). e ∷ l) (of-append p es ys) ∙ sym (ap (λ (l : List (Entry C R)). l ++ of p ys) (of-yes p e es h))))
      (λ h. of-no p e (es ++ ys) h ∙ (of-append p es ys ∙ sym (ap (λ (l : List (Entry C R)). l ++ of p ys) (of-no p e es h))))

  pub of-other : (p : ℕ) (xs : List (Entry C R)) (e : Entry C R) → e.pass ≢ p → of p (xs ++ e ∷ []) ≡ of p xs
  of-other p xs e h = of-append p xs (e ∷ []) ∙ (ap (λ (l : List (Entry C R)). of p xs ++ l) (of-no p e [] h) ∙ append-nil (of p xs))

  -- how many entries a number has
  abbrev count_of : List (Entry C R) → ℕ → ℕ
  count_of es p = length (of p es)

  put-length : (e : Entry C R) (es : List (Entry C R)) (same : Bool) → length (put e es same) ≡ cond same 1 0 + length es
  put-length e es true = omega arith
  put-length e es false = omega arith

  -- one entry more counts once for each place where its number stands
  counts-cons : (e : Entry C R) (es : List (Entry C R)) (numbers : List ℕ)
      → sum_by (count_of (e ∷ es)) numbers ≡ occurrences e.pass numbers + sum_by (count_of es) numbers
  counts-cons e es [] = refl
  counts-cons e es (p ∷ ps) =
      let here : count_of (e ∷ es) p ≡ cond (e.pass == p) 1 0 + count_of es p = put-length e (of p es) (e.pass == p) in
      let more = counts-cons e es ps in
      let all = sum_by-cons (count_of (e ∷ es)) p ps in
      let rest = sum_by-cons (count_of es) p ps in
      omega (arith, here, more, all, rest)

  put-nil : (e : Entry C R) (es : List (Entry C R)) (same : Bool) → put e es same ≡ [] → (same ≡ false) × (es ≡ [])
  put-nil e es true h = cc
  put-nil e es false h = (refl, h)

  -- the number of an entry is below n, where no number from n on has an entry
  below : (n : ℕ) (e : Entry C R) (es : List (Entry C R)) → ((p : ℕ) → n ≤ p → of p (e ∷ es) ≡ []) → e.pass < n
  below n e es none = dite (dec_le n e.pass)
      (λ le.
      let other = (put-nil e (of e.pass es) (e.pass == e.pass) (none e.pass le)).0 in
      let clash : true ≡ false = sym (eq-eqb e.pass e.pass refl) ∙ other in
      absurd (cc))
      (λ gt. omega (arith, gt))

  -- A history all of whose numbers are below n is as long as the histories of the numbers together.
  pub of-lengths : (n : ℕ) (es : List (Entry C R)) → ((p : ℕ) → n ≤ p → of p es ≡ []) → length es ≡ sum_by (λ p. length (of p es)) (numbers_from 0 n)
  of-lengths n [] none = sym (zeros (numbers_from 0 n))
  of-lengths n (e ∷ es) none =
      let more = of-lengths n es (λ p le. (put-nil e (of p es) (e.pass == p) (none p le)).1) in
      let once = numbers_from_below e.pass 0 n in
      let start = below_no e.pass 0 (omega arith) in
      let within = below_yes e.pass (0 + n) (let lt = below n e es none in omega (arith, lt)) in
      let all = counts-cons e es (numbers_from 0 n) in
      omega (arith, more, once, start, within, all)
