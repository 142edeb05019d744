-- The effects of a session, and how it ends.
use Rattle.std.specs.Prelude.{ℕ, ◌≡◌, ◌⊎◌, List, [], Option, Some, OnOk, Result, Ok, Err, codes, string_bytes}
use Rattle.std.specs.Io.KnownBytes.{Appends}
use Rattle.clap.specs.Words.{Text, fault_of}
use Rattle.nagsched_protocol.specs.declared.answer_form.AnswerForm.{AnswerForm}
use Rattle.nagsched_protocol.specs.declared.answer_form.AnswerForm.TheVariants as forms
use Rattle.nagsched_protocol.specs.declared.drive_error.DriveError.{DriveError}
use Rattle.nagsched_protocol.specs.declared.drive_error.DriveError.TheVariants as errors
use Rattle.nagsched_protocol.specs.declared.outcome.Outcome.{Outcome}
use Rattle.nagsched_protocol.specs.declared.outcome.Outcome.TheVariants as outcome
use Rattle.nagsched_protocol.specs.declared.start.Start.{Start}
use Rattle.setup_model.specs.Members.{document_members}
use Rattle.setup_diagnostics.specs.Schema.{NamesAll}
use Rattle.nagsched_cli.specs.declared.session.Ending.{Ending}
use Rattle.nagsched_cli.specs.declared.session.Ending.TheVariants as ending
use Rattle.nagsched_cli.specs.declared.arguments.Job.{Job}
use Rattle.nagsched_cli.specs.declared.arguments.Job.TheVariants as job
use Rattle.nagsched_cli.specs.declared.arguments.WordsError.{WordsError}
use Rattle.nagsched_cli.specs.declared.arguments.WordsError.TheVariants as words_error
use Rattle.nagsched_jobs.specs.CheckEnded.{CheckEnded, IsSetupLineReport, IsReportFrom}
use Rattle.nagsched_jobs.specs.Reading.{check_input_of, document_input_of}
use Rattle.nagsched_jobs.specs.Drill.{DrillEnded, drill_note}
use Rattle.nagsched_run.specs.Drive.{RunEnded, run_note}
use Rattle.nagsched_run.specs.JsonRun.{JsonRunEnded, json_run_note}
use Rattle.nagsched_run.specs.Live.{ConversationEnded}
use Rattle.nagsched_protocol.specs.Streams.{Streams}
use Rattle.nagsched_protocol.specs.Output.{WroteFront}
use Rattle.nagsched_cli.specs.Arguments.{AsksText, IsRefused, requested_job, program}

-- The output of a job that is to write this text: all of it, after a fault of the writer a prefix of it, and out of memory nothing.
abbrev pub IsJobTextOutput : List ℕ → Result Outcome DriveError → Option (List ℕ) → Option (List ℕ) → Type 0
IsJobTextOutput text (Ok ended) held holds = (ended ≡ outcome.Ran) × Appends held holds text
IsJobTextOutput text (Err errors.Write) held holds = WroteFront held holds text
IsJobTextOutput text (Err errors.Memory) held holds = holds ≡ held
IsJobTextOutput text (Err errors.Read) held holds = ⊥

-- the output is a schema that names every member of a setup; out of memory it is nothing
abbrev pub IsSchemaOutput : Result Outcome DriveError → Option (List ℕ) → Option (List ℕ) → Type 0
IsSchemaOutput (Err errors.Memory) held holds = holds ≡ held
IsSchemaOutput ended held holds = (schema : List ℕ) × NamesAll document_members schema × IsJobTextOutput schema ended held holds

-- the effects of writing a schema: nothing was read
abbrev pub SchemaEnded : Result Outcome DriveError → Streams → Type 0
SchemaEnded ended io = (io.left ≡ io.had) × IsSchemaOutput ended io.held io.holds

-- The effects of a run in this form, and what it noted: the note on its input, unless an error ended it.
abbrev pub RunNoted : AnswerForm → Start → Result Outcome DriveError → Streams → List ℕ → Type 0
RunNoted forms.Json how ended io noted = (run : JsonRunEnded how ended io) × OnOk ended (noted ≡ json_run_note how run.input)
RunNoted form how ended io noted = (run : RunEnded how ended io) × OnOk ended (noted ≡ run_note how run.input)

-- the same of a drill
abbrev pub DrillNoted : ℕ → ℕ → ℕ → Result Outcome DriveError → Streams → List ℕ → Type 0
DrillNoted start workers room ended io noted = (drill : DrillEnded start workers room ended io) × OnOk ended (noted ≡ drill_note drill.input)

-- nothing was noted, unless an error ended the job
abbrev pub IsSilent : Result Outcome DriveError → List ℕ → Type 0
IsSilent ended noted = OnOk ended (noted ≡ [])

-- The effects of a job that ended like this, with or without a fault, and what it noted. The function of the job states them. Only a run and a drill have
-- a note.
abbrev pub JobEnded : Job → Result Outcome DriveError → Streams → List ℕ → Type 0
JobEnded (job.Run how form) ended io noted = RunNoted form how ended io noted
JobEnded (job.Live how form) ended io noted = ConversationEnded form how ended io × IsSilent ended noted
JobEnded (job.Check how) ended io noted = CheckEnded (IsReportFrom how) (check_input_of how) ended io × IsSilent ended noted
JobEnded job.SetupLine ended io noted = CheckEnded IsSetupLineReport document_input_of ended io × IsSilent ended noted
JobEnded (job.Drill start workers room) ended io noted = DrillNoted start workers room ended io noted
JobEnded job.Schema ended io noted = SchemaEnded ended io × IsSilent ended noted

-- arguments in which `clap` finds no fault, and which ask for this job
abbrev pub Asks : List Text → Job → Type 0
Asks words request = (fault_of program words ≡ []) × (requested_job words ≡ Some request)

-- The output for arguments that ask for no job, by how that ended and by the bytes that the writer held and holds. It is the text of the help or the
-- version that they ask for, or the line that refuses them. After a fault of the writer it is a prefix of this text. Out of memory it is nothing.
abbrev pub IsWordsOutput : WordsError → Result Ending DriveError → Option (List ℕ) → Option (List ℕ) → Type 0
IsWordsOutput (words_error.Help text) (Ok ending.Helped) held holds = Appends held holds (string_bytes text)
IsWordsOutput (words_error.Help text) (Err errors.Write) held holds = WroteFront held holds (string_bytes text)
IsWordsOutput words_error.Refused (Ok ending.RefusedWords) held holds = Appends held holds (codes "refused words\n")
IsWordsOutput words_error.Refused (Err errors.Write) held holds = WroteFront held holds (codes "refused words\n")
IsWordsOutput words_error.Memory (Err errors.Memory) held holds = holds ≡ held
IsWordsOutput e ended held holds = ⊥

-- The effects of a session that ended without an error, by its arguments, and what it noted. It did the job that they ask for. Or it read and noted
-- nothing: they ask for help or the version, or are refused, and it wrote the text for that.
abbrev pub SessionEnded : List Text → Ending → Streams → List ℕ → Type 0
SessionEnded words (ending.RunEnded outcome) io noted = (request : Job) × Asks words request × JobEnded request (Ok outcome) io noted
SessionEnded words ending.Helped io noted =
    (text : List ℕ) × AsksText words text × (io.left ≡ io.had) × Appends io.held io.holds text × (noted ≡ [])
SessionEnded words ending.RefusedWords io noted =
    IsRefused words × (io.left ≡ io.had) × Appends io.held io.holds (codes "refused words\n") × (noted ≡ [])

-- The output that an error leaves before any job. Out of memory the writer is as it was. After a fault of the writer the output is a prefix of the
-- help, of the version or of the line that refuses the arguments. The error isn't a fault of the reader.
abbrev pub WordsFailed : List Text → DriveError → Option (List ℕ) → Option (List ℕ) → Type 0
WordsFailed words errors.Read held holds = ⊥
WordsFailed words errors.Write held holds = ((text : List ℕ) × AsksText words text × WroteFront held holds text)
    ⊎ (IsRefused words × WroteFront held holds (codes "refused words\n"))
WordsFailed words errors.Memory held holds = holds ≡ held

-- The effects of a session that an error ended. They are those of the job that the arguments ask for, after this error. Or the reader wasn't read, and
-- the output is that of an error before any job.
abbrev pub SessionFailed : List Text → DriveError → Streams → List ℕ → Type 0
SessionFailed words e io noted = ((request : Job) × Asks words request × JobEnded request (Err e) io noted)
    ⊎ ((io.left ≡ io.had) × WordsFailed words e io.held io.holds)

-- the effects of a session, by how it ended, and what it noted
abbrev pub SessionEnds : List Text → Result Ending DriveError → Streams → List ℕ → Type 0
SessionEnds words (Ok ending) io noted = SessionEnded words ending io noted
SessionEnds words (Err e) io noted = SessionFailed words e io noted

-- The exit status. 0: done, or the help or the version was printed. 1: the input was refused. 2: the arguments were refused. 3: a fault of the reader
-- or the writer. 4: out of memory.
abbrev pub exit_status : Result Ending DriveError → ℕ
exit_status (Ok (ending.RunEnded outcome.Ran)) = 0
exit_status (Ok ending.Helped) = 0
exit_status (Ok (ending.RunEnded outcome.Refused)) = 1
exit_status (Ok ending.RefusedWords) = 2
exit_status (Err errors.Read) = 3
exit_status (Err errors.Write) = 3
exit_status (Err errors.Memory) = 4
