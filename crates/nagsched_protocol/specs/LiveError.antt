-- Errors of a conversation's own functions: what they say about the bytes that were read, and the errors that a caller gets for them.
use Rattle.std.specs.Prelude.{ℕ, ◌≡◌, ◌⊎◌, ◌-◌, ◌^◌, ◌≤◌, List, Result, Ok, Err, length, ⊤}
use Rattle.nagsched_protocol.specs.declared.drive_error.DriveError.{DriveError}
use Rattle.nagsched_protocol.specs.declared.drive_error.DriveError.TheVariants as drive
use Rattle.nagsched_protocol.specs.declared.live_error.LiveError.{LiveError}
use Rattle.nagsched_protocol.specs.declared.live_error.LiveError.TheVariants as live

-- the same error is reported for a fault of the reader and for both kinds of spent loops
abbrev pub drive_error_of : LiveError → DriveError
drive_error_of (live.Reader fault) = drive.Read
drive_error_of live.Writer = drive.Write
drive_error_of live.Memory = drive.Memory
drive_error_of live.LinesSpent = drive.Read
drive_error_of live.ReadsSpent = drive.Read

-- a result with its error reported like this
abbrev pub drive_result_of : {T : Type 0} → Result T LiveError → Result T DriveError
drive_result_of (Ok x) = Ok x
drive_result_of (Err e) = Err (drive_error_of e)

-- the result of a function that only writes, which meets no fault of a reader and spends no loop
abbrev pub IsWriteResult : {T : Type 0} → Result T LiveError → Result T DriveError → Type 0
IsWriteResult (Ok x) written = written ≡ Ok x
IsWriteResult (Err e) written = (written ≡ Err (drive_error_of e)) × ((e ≡ live.Writer) ⊎ (e ≡ live.Memory))

-- the reader's fault, or out of memory
abbrev pub IsInputError : LiveError → Type 0
IsInputError (live.Reader fault) = ⊤
IsInputError live.Memory = ⊤
IsInputError e = ⊥

-- Reads are spent only if each of 2^64 - 1 reads gave something: at least as many bytes were given. No other loop is spent, and the writer didn't fail.
abbrev pub IsReadingError : List ℕ → LiveError → Type 0
IsReadingError bytes_read live.ReadsSpent = 2 ^ 64 - 1 ≤ length bytes_read
IsReadingError bytes_read e = IsInputError e

-- the same if the writer is flushed before each read
abbrev pub IsLineReadingError : List ℕ → LiveError → Type 0
IsLineReadingError bytes_read live.Writer = ⊤
IsLineReadingError bytes_read e = IsReadingError bytes_read e

-- one of the loops is spent
abbrev pub IsSpent : LiveError → Type 0
IsSpent live.LinesSpent = ⊤
IsSpent live.ReadsSpent = ⊤
IsSpent e = ⊥
