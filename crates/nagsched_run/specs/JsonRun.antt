-- How a run whose answers are JSON objects ends.
use Rattle.std.specs.Prelude.{ℕ, ◌≡◌, ◌⊎◌, List, Option, Result, Ok, Err, IfErr, IfOk, OnErr, OnOk}
use Rattle.std.specs.Io.KnownBytes.{Appends, Keeps}
use Rattle.nagsched_protocol.specs.declared.answer_form.AnswerForm.TheVariants as forms
use Rattle.nagsched_protocol.specs.declared.drive_error.DriveError.{DriveError}
use Rattle.nagsched_protocol.specs.declared.outcome.Outcome.{Outcome}
use Rattle.nagsched_protocol.specs.declared.refusal.InputRefusal.{InputRefusal}
use Rattle.nagsched_protocol.specs.declared.start.Start.{Start}
use Rattle.nagsched_protocol.specs.Forms.{refusal_text}
use Rattle.nagsched_protocol.specs.LiveText.{live_text}
use Rattle.nagsched_protocol.specs.Script.{refused_bytes, requests_of}
use Rattle.nagsched_protocol.specs.Streams.{HasRead, IsInput, Streams, outcome_by}
use Rattle.nagsched_protocol.specs.Notes.{note_of}
use Rattle.nagsched_run.specs.Live.{LeavesText}

-- the text of a run in JSON: the object of the first refusal, or that of a conversation on the same input
abbrev pub text_by : Start → List ℕ → Result (Unit {0}) InputRefusal → List ℕ
text_by how input (Ok u) = live_text forms.Json how input
text_by how input (Err why) = refusal_text forms.Json (refused_bytes input why) why

unfoldable pub json_run_text : Start → List ℕ → List ℕ
json_run_text how input = text_by how input (requests_of how input)

unfoldable pub json_outcome : Start → List ℕ → Outcome
json_outcome how input = outcome_by (requests_of how input)

unfoldable pub json_run_note : Start → List ℕ → List ℕ
json_run_note how input = note_of input (requests_of how input)

-- all of the text was written, or the part that an error leaves
abbrev pub IsJsonText : {T : Type 0} → Result T DriveError → Option (List ℕ) → Option (List ℕ) → List ℕ → Type 0
IsJsonText (Ok x) held holds text = Appends held holds text
IsJsonText (Err e) held holds text = LeavesText e held holds text

-- How a run ended, by how its scheduler starts. Even if the reader and the writer aren't known, there is one input for which all this holds.
pub record JsonRunEnded (how : Start) (ended : Result Outcome DriveError) (io : Streams) : Type 0 where
  pub input : List ℕ
  pub is_input : IsInput io.had input
  -- without an error it ran or refused the input, wrote its text, and read the input to its end or to the limit
  pub outcome_is : IfOk ended (λ outcome. outcome ≡ json_outcome how input)
  pub written : OnOk ended (Appends io.held io.holds (json_run_text how input))
  pub read : OnOk ended (HasRead io.had io.left input)
  -- the part of the text that an error leaves; nothing, unless the input was read to its end or to the limit
  pub fault : IfErr ended (λ e. LeavesText e io.held io.holds (json_run_text how input))
  pub unread : OnErr ended (Keeps io.held io.holds ⊎ HasRead io.had io.left input)
