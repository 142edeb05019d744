-- The name that is nearest to a word.
use Rattle.std.specs.Prelude.{ℕ, ◌<◌, ◌≤◌, List, Option, Some, None, All, Contains, length, nat_eq}
use Rattle.std.specs.Str.{chars}
use Rattle.strsim.specs.Edits.{levenshtein_row}
use Rattle.clap.specs.Words.{Text}

-- the number of characters that are inserted, deleted or replaced between a word and a name
abbrev pub edits : Text → Text → ℕ
edits word name = levenshtein_row nat_eq (chars word) (chars name) (length (chars name))

-- one of these names is at most two edits away, and none is nearer; or all are further away
abbrev pub IsNearest : Text → List Text → Option Text → Type 0
IsNearest word names None = All (λ name. 2 < edits word name) names
IsNearest word names (Some near) = Contains names near × (edits word near ≤ 2) × All (λ name. edits word near ≤ edits word name) names
