-- How a check from a reader to a writer ends, with or without a fault.
use Rattle.std.specs.Prelude.{ℕ, ◌≡◌, List, Result, IfErr, OnOk}
use Rattle.std.specs.Io.KnownBytes.{Consumes}
use Rattle.nagsched_protocol.specs.declared.drive_error.DriveError.{DriveError}
use Rattle.nagsched_protocol.specs.declared.drive_error.DriveError.TheVariants as errors
use Rattle.nagsched_protocol.specs.declared.start.Start.{Start}
use Rattle.nagsched_protocol.specs.declared.start.Start.TheVariants as start
use Rattle.nagsched_protocol.specs.Input.{HasStartedReading, without_last_feed}
use Rattle.nagsched_protocol.specs.declared.outcome.Outcome.{Outcome}
use Rattle.nagsched_protocol.specs.Streams.{IsInput}
use Rattle.nagsched_protocol.specs.Streams.{Streams}
use Rattle.nagsched_jobs.specs.Check.{HasPrinted, IsLineReport, IsDocumentReport}
use Rattle.nagsched_jobs.specs.CheckResumed.{IsResumedReport}

-- The text for an input, by how a scheduler starts. For a fresh scheduler the input is a document, except for one line feed at its end. For a scheduler
-- that continues, the first two lines of the input are a document and a saved state.
abbrev pub IsReportFrom : Start → List ℕ → List ℕ → Outcome → Type 0
IsReportFrom (start.Fresh moment) input = IsDocumentReport moment (without_last_feed input)
IsReportFrom (start.Resumed moment) input = IsResumedReport moment input

-- the text for a setup that is to be written on one line
abbrev pub IsSetupLineReport : List ℕ → List ℕ → Outcome → Type 0
IsSetupLineReport input = IsLineReport (without_last_feed input)

-- How a check ended. `Can` says which texts and outcomes are possible for an input, and `reads` gives the part of it that is read. Even if the reader
-- and the writer aren't known, there is one input for which all this holds.
pub record CheckEnded (Can : List ℕ → List ℕ → Outcome → Type 0) (reads : List ℕ → List ℕ) (ended : Result Outcome DriveError) (io : Streams) : Type 0 where
  pub input : List ℕ
  pub is_input : IsInput io.had input
  pub report : HasPrinted (Can input) ended io.held io.holds
  pub read : OnOk ended (Consumes io.had io.left (reads input))
  -- out of memory only if a byte was read, or if the reader had none
  pub memory : IfErr ended (λ e. e ≡ errors.Memory → HasStartedReading io.had io.left)
