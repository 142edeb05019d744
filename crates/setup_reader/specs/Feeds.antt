-- Texts that are one line.
use Rattle.std.specs.Prelude.{◌≢◌, ℕ, List}
use Rattle.std.specs.List.{AllByRecursion}

-- no byte is a line feed (10)
abbrev pub HasNoLineFeed : List ℕ → Type 0
HasNoLineFeed line = AllByRecursion (λ b. b ≢ 10) line
