-- The earliest of some limits, as far as a loop has read them.
use Rattle.std.proofs.Common.{◌≡◌, ℕ, ◌+◌, ◌<◌, ◌≤◌, ◌⊎◌, inl, inr, List, get_or, length, refl, arith}
use Rattle.std.specs.Prelude.{Any, min}
use Rattle.std.proofs.Math.Nat.{min-eq_left, min-eq_right}
use Rattle.std.proofs.lemmas.Bool.{cases_lt}
use Rattle.std.proofs.lemmas.List.{get_or_default}

below_le : (a b : ℕ) → b < a → b ≤ a
below_le a b h = omega (arith, h)

module _ {X : Type 0} (limit : X → ℕ) (xs : List X) (until : ℕ) where
  -- no later than the first of them, and one of them or the time that was given
  abbrev pub IsEarliest : ℕ → ℕ → Type 0
  IsEarliest count least =
      (least ≤ until) × ((k : ℕ) (d : X) → k < count → least ≤ limit (get_or xs k d)) × ((least ≡ until) ⊎ Any (λ x. least ≡ limit x) xs)

  pub earliest_next : (count least : ℕ) (d : X) → count < length xs → IsEarliest count least → IsEarliest (count + 1) (min least (limit (get_or xs count d)))
  earliest_next count least d l is = elim (cases_lt (limit (get_or xs count d)) least) [
    | inl below ↦ rw (min-eq_right (below_le least (limit (get_or xs count d)) below)) (
      (let a = is.0 in omega (arith, a, below)),
      λ k e m. elim (cases_lt k count) [
        | inl before ↦ let b = is.1 k e before in omega (arith, b, below)
        | inr here ↦ let same : k ≡ count = omega (arith, here, m) in rw (same, get_or_default xs count e d l) (omega arith)
      ],
      inr (count, get_or xs count d, l, get_or_default xs count (get_or xs count d) d l, refl),
    )
    | inr above ↦ rw (min-eq_left above) (
      is.0,
      λ k e m. elim (cases_lt k count) [
        | inl before ↦ is.1 k e before
        | inr here ↦ let same : k ≡ count = omega (arith, here, m) in rw (same, get_or_default xs count e d l) above
      ],
      is.2,
    )
  ]
