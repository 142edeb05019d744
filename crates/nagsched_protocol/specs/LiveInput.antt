-- An input that is taken line by line as it comes.
use Rattle.std.specs.Prelude.{◌≡◌, ℕ, ◌+◌, ◌<◌, ◌≤◌, ◌==◌, Bool, true, false, List, [], ◌∷◌, length, take, Option, Some, None, Result, Ok, if◌then◌else◌}
use Rattle.nagsched_protocol.specs.declared.line_reader.TheConstants.{READ_BYTES}
use Rattle.nagsched_protocol.specs.Input.{first_line_of}
use Rattle.serde_json.specs.Data.{Items}
use Rattle.setup_model.specs.Agreement.{◌>>=◌}
use Rattle.nagsched_protocol.specs.declared.refusal.InputRefusal.{InputRefusal}
use Rattle.nagsched_protocol.specs.declared.refusal.LineFault.{LineFault}
use Rattle.nagsched_protocol.specs.Line.{command_of, is_blank}

-- whether a line feed (byte 10) is among the bytes
abbrev pub has_feed : List ℕ → Bool
has_feed [] = false
has_feed (b ∷ bs) = if b == 10 then true else has_feed bs

-- the bytes after the first line feed, or nothing without one
abbrev pub rest_after_line : List ℕ → List ℕ
rest_after_line [] = []
rest_after_line (b ∷ bs) = if b == 10 then bs else rest_after_line bs

-- the kept part of a line: the limit, at most that many first bytes, and whether all of the line is blank
pub record LinePrefix : Type 0 where
  pub most : ℕ
  pub bytes : List ℕ
  pub blank : Bool

-- The kept part of a line: at most this many bytes from its beginning, and whether all of the line is blank.
abbrev pub prefix_of : ℕ → List ℕ → LinePrefix
prefix_of most line = record { most = most; bytes = take most line; blank = is_blank line }

-- the meaning of the line with number n: nothing if it is blank, otherwise a command, or why it is refused
abbrev pub line_meaning_by : {K : Type 0} → (List ℕ → Items → Result K LineFault) → ℕ → List ℕ → Result (Option K) InputRefusal
line_meaning_by meaning n line = if is_blank line then Ok None else (command_of meaning n line >>= λ command. Ok (Some command))

-- The first line of these bytes was taken, with its line feed, and at most `most` bytes of it are kept. The fields are the kept part of the line, the
-- bytes left after the line, and whether it has a line feed. If it has no line feed, `end` holds.
pub record TookLine (most : ℕ) (bytes : List ℕ) (line : LinePrefix) (rest : List ℕ) (end : Type 0) (whole : Bool) : Type 0 where
  pub line_is : line ≡ prefix_of most (first_line_of bytes)
  pub rest_is : rest ≡ rest_after_line bytes
  pub whole_is : whole ≡ has_feed bytes
  pub ended : whole ≡ false → end

-- The bytes that a reader gave for a line, if at most `most` bytes of the line are kept. They are fewer than `most` and the bytes of one read together,
-- and at most the bytes of one read come after the line. This bounds the bytes and doesn't count the reads. It doesn't exclude that a reader is asked
-- again after the line feed, for the rest of those bytes.
pub record IsBoundedReading (most : ℕ) (bytes_read : List ℕ) : Type 0 where
  pub at_the_bound : length bytes_read < most + READ_BYTES
  pub at_the_feed : length bytes_read ≤ length (first_line_of bytes_read) + READ_BYTES
