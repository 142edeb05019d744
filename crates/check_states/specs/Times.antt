-- Times, of which some may be missing.
use Rattle.std.specs.Prelude.{ℕ, min, Option, Some, None}

-- The time that pick chooses of two, or the only one.
abbrev pub choice_of : (ℕ → ℕ → ℕ) → Option ℕ → Option ℕ → Option ℕ
choice_of pick None other = other
choice_of pick (Some one) None = Some one
choice_of pick (Some one) (Some other) = Some (pick one other)

-- the earlier of two times, or the only one
abbrev pub earlier : Option ℕ → Option ℕ → Option ℕ
earlier one other = choice_of min one other
