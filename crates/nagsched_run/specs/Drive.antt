-- How a run from a reader to a writer ends, with or without a fault.
use Rattle.std.specs.Prelude.{ℕ, ◌≡◌, ◌⊎◌, List, Option, Result, IfErr, IfOk, OnErr, OnOk}
use Rattle.std.specs.Io.KnownBytes.{Appends, Keeps}
use Rattle.nagsched_protocol.specs.declared.drive_error.DriveError.{DriveError}
use Rattle.nagsched_protocol.specs.declared.drive_error.DriveError.TheVariants as errors
use Rattle.nagsched_protocol.specs.declared.start.Start.{Start}
use Rattle.nagsched_protocol.specs.Notes.{note_of}
use Rattle.nagsched_protocol.specs.Script.{script_of}
use Rattle.nagsched_protocol.specs.Output.{WroteFront, WroteShort}
use Rattle.nagsched_protocol.specs.Text.{text}
use Rattle.nagsched_protocol.specs.declared.outcome.Outcome.{Outcome}
use Rattle.nagsched_protocol.specs.Streams.{HasRead, IsInput, Streams, outcome_by}

-- whether a run on the input makes its calls or refuses it
unfoldable pub outcome_of : Start → List ℕ → Outcome
outcome_of how input = outcome_by (script_of how input)

-- what a run on the input notes
unfoldable pub run_note : Start → List ℕ → List ℕ
run_note how input = note_of input (script_of how input)

-- The part of a text that an error leaves. After a fault of the reader nothing was written, and after a fault of the writer a prefix of the text. Out
-- of memory, nothing was written, or whole lines of the text that aren't all of it.
abbrev pub LeavesRun : DriveError → Option (List ℕ) → Option (List ℕ) → List ℕ → Type 0
LeavesRun errors.Read held holds text = Keeps held holds
LeavesRun errors.Write held holds text = WroteFront held holds text
LeavesRun errors.Memory held holds text = WroteShort held holds text

-- How a run ended, by how its scheduler starts. Even if the reader and the writer aren't known, there is one input for which all this holds.
pub record RunEnded (how : Start) (ended : Result Outcome DriveError) (io : Streams) : Type 0 where
  pub input : List ℕ
  pub is_input : IsInput io.had input
  -- without an error it ran or refused the input, wrote its text, and read the input to its end or to the limit
  pub outcome_is : IfOk ended (λ outcome. outcome ≡ outcome_of how input)
  pub written : OnOk ended (Appends io.held io.holds (text how input))
  pub read : OnOk ended (HasRead io.had io.left input)
  -- the part of the text that an error leaves; nothing, unless the input was read to its end or to the limit
  pub fault : IfErr ended (λ e. LeavesRun e io.held io.holds (text how input))
  pub unread : OnErr ended (Keeps io.held io.holds ⊎ HasRead io.had io.left input)
