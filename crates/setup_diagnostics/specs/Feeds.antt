-- Texts that are one line.
use Rattle.std.specs.Prelude.{◌≢◌, ◌==◌, ℕ, Bool, List, All}
use Rattle.std.specs.List.{list_any}

-- no byte is a line feed
abbrev pub HasNoLineFeed : List ℕ → Type 0
HasNoLineFeed bytes = All (λ b. b ≢ 10) bytes

-- whether a byte is a line feed
abbrev pub has_line_feed : List ℕ → Bool
has_line_feed bytes = list_any (λ b. b == 10) bytes
