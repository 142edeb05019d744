-- The bytes that are read of an input, and its lines.
use Rattle.std.specs.Prelude.{◌≡◌, ◌≢◌, ℕ, ◌==◌, List, [], ◌∷◌, Option, if◌then◌else◌}
use Rattle.std.specs.Io.KnownBytes.{Consumes, IsAtEnd}
use Rattle.std.specs.List.{AllByRecursion, join_with_byte}
use Rattle.setup_reader.specs.Feeds.{HasNoLineFeed}

-- these bytes were read: at least one, unless the reader had none
abbrev pub HasStartedReadingBy : Option (List ℕ) → Option (List ℕ) → List ℕ → Type 0
HasStartedReadingBy had left bytes_read = Consumes had left bytes_read × (bytes_read ≡ [] → IsAtEnd left)

-- a byte was read, unless the reader had none
abbrev pub HasStartedReading : Option (List ℕ) → Option (List ℕ) → Type 0
HasStartedReading had left = (bytes_read : List ℕ) × HasStartedReadingBy had left bytes_read

-- the bytes without the line feed (byte 10) at their end, if they end with one
abbrev pub without_last_feed : List ℕ → List ℕ
without_last_feed [] = []
without_last_feed (b ∷ []) = if b == 10 then [] else b ∷ []
without_last_feed (b ∷ c ∷ bs) = b ∷ without_last_feed (c ∷ bs)

-- These are the lines of the input. No line has a line feed. Joined by line feeds they are the input, except for one line feed at its end. An empty
-- input has no line, and any other input has at least one.
pub record AreLines (input : List ℕ) (lines : List (List ℕ)) : Type 0 where
  pub feedless : AllByRecursion HasNoLineFeed lines
  pub joined : join_with_byte 10 lines ≡ without_last_feed input
  pub none : input ≡ [] → lines ≡ []
  pub some : input ≢ [] → lines ≢ []

-- the lines, with the byte b put before the first line
abbrev pub onto_first : ℕ → List (List ℕ) → List (List ℕ)
onto_first b [] = (b ∷ []) ∷ []
onto_first b (line ∷ lines) = (b ∷ line) ∷ lines

-- The lines of the bytes, each without its line feed. The last line needs none, and a line feed at the end begins no further line. These are the lines
-- in the sense of `AreLines`, and no others are, as `Lines::new` says.
abbrev pub lines_of : List ℕ → List (List ℕ)
lines_of [] = []
lines_of (b ∷ bs) = if b == 10 then [] ∷ lines_of bs else onto_first b (lines_of bs)

-- the bytes before the first line feed, or all bytes without one
abbrev pub first_line_of : List ℕ → List ℕ
first_line_of [] = []
first_line_of (b ∷ bs) = if b == 10 then [] else b ∷ first_line_of bs
