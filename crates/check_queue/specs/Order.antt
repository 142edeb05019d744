-- Pairs of a time and a number, their order, and the least of some pairs.
use Rattle.std.specs.Prelude.{ℕ, Bool, not, ◌&&◌, ◌||◌, ◌==◌, List, find, Option, nat_lt}
use Rattle.std.specs.List.{list_all}

-- whether c comes before d: its time is less, or the times are equal and its number is less
abbrev pub is_before : ℕ × ℕ → ℕ × ℕ → Bool
is_before c d = nat_lt c.0 d.0 || (c.0 == d.0 && nat_lt c.1 d.1)

-- the first member that has no member before it; None if there is no member
unfoldable pub least : List (ℕ × ℕ) → Option (ℕ × ℕ)
least pairs = find (λ c. list_all (λ d. not (is_before d c)) pairs) pairs
