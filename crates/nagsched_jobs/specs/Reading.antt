-- The bytes that a check reads of its input.
use Rattle.std.specs.Prelude.{ℕ, ◌≡◌, ◌≢◌, ◌==◌, ◌&&◌, ◌+◌, nat_lt, Bool, List, Option, Result, IfErr, IfOk, IfSome, length, take, if◌then◌else◌}
use Rattle.std.specs.Global.{Vec}
use Rattle.nagsched_protocol.specs.declared.drive_error.DriveError.{DriveError}
use Rattle.nagsched_protocol.specs.declared.drive_error.DriveError.TheVariants as faults
use Rattle.nagsched_protocol.specs.declared.input.TheConstants.{MAX_READ_BYTES}
use Rattle.nagsched_protocol.specs.declared.start.Start.{Start}
use Rattle.nagsched_protocol.specs.declared.start.Start.TheVariants as start
use Rattle.nagsched_protocol.specs.Input.{HasStartedReading, HasStartedReadingBy, without_last_feed}
use Rattle.nagsched_jobs.specs.declared.reading.TheConstants.{MAX_DOCUMENT_INPUT}

-- Bytes that don't show yet whether their document is too long. They are one more than a document may have, and the last one is a line feed. If the
-- input ends after this line feed, the line feed isn't part of the document.
abbrev pub is_full_with_feed : List ℕ → Bool
is_full_with_feed read = (length read == MAX_DOCUMENT_INPUT) && nat_lt (length (without_last_feed read)) MAX_DOCUMENT_INPUT

-- the bytes that are read of an input: at most one more than a document may have, and after a line feed there one byte more
abbrev pub document_input_of : List ℕ → List ℕ
document_input_of input = take (if is_full_with_feed (take MAX_DOCUMENT_INPUT input) then MAX_DOCUMENT_INPUT + 1 else MAX_DOCUMENT_INPUT) input

-- the bytes that a check reads of its input: of a document alone, or of the input of a run that starts from a saved state
abbrev pub check_input_of : Start → List ℕ → List ℕ
check_input_of (start.Fresh moment) input = document_input_of input
check_input_of (start.Resumed moment) input = take MAX_READ_BYTES input

-- What comes of reading a part of an input: the bytes of the part, what was consumed of the input, and the errors that are possible.
pub record ReadsPart (part : List ℕ → List ℕ) (before after : Option (List ℕ)) (result : Result (Vec ℕ) DriveError) : Type 0 where
  pub all : IfOk result (λ input. IfSome before (λ bytes. input.items ≡ part bytes))
  pub left : IfOk result (λ input. HasStartedReadingBy before after input.items)
  pub errors : IfErr result (λ e. e ≢ faults.Write)
  -- out of memory only if a byte was read, or if the reader had none
  pub memory : IfErr result (λ e. e ≡ faults.Memory → HasStartedReading before after)
