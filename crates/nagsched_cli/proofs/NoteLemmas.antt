-- What a session notes.
use Rattle.std.proofs.Common.{◌≡◌, ◌⊎◌, ℕ, List, [], Option, Result, Ok, Err, refl, sym, append-nil, inl, inr}
use Rattle.std.specs.Prelude.{OnOk, String, string_bytes}
use Rattle.std.specs.declared.alloc.Global.{Global}
use Rattle.clap.specs.Words.{Text}
use Rattle.clap.proofs.BuiltLemmas.{on_ok_always}
use Rattle.nagsched_protocol.specs.declared.answer_form.AnswerForm.{AnswerForm}
use Rattle.nagsched_protocol.specs.declared.answer_form.AnswerForm.TheVariants as forms
use Rattle.nagsched_protocol.specs.declared.drive_error.DriveError.{DriveError}
use Rattle.nagsched_protocol.specs.declared.drive_error.DriveError.TheVariants as errors
use Rattle.nagsched_protocol.specs.declared.outcome.Outcome.{Outcome}
use Rattle.nagsched_protocol.specs.declared.start.Start.{Start}
use Rattle.nagsched_protocol.specs.Streams.{Streams, streams}
use Rattle.nagsched_protocol.specs.Notes.{IsNote}
use Rattle.nagsched_run.specs.Drive.{RunEnded, run_note}
use Rattle.nagsched_cli.specs.Arguments.{Explains}
use Rattle.nagsched_cli.specs.Session.{IsSilent, IsWordsOutput, RunNoted, SessionEnds}
use Rattle.nagsched_cli.specs.declared.arguments.WordsError.{WordsError}
use Rattle.nagsched_cli.specs.declared.arguments.WordsError.TheVariants as words_error
use Rattle.nagsched_cli.specs.declared.session.Ending.{Ending}
use Rattle.nagsched_cli.specs.declared.session.Ending.TheVariants as ending

-- nothing was appended to a note that is as it was
same_note : (note : String Global) → IsNote note note []
same_note note = sym (append-nil (string_bytes note))

-- a job that left the note as it was
pub noting_nothing : {Done : Type 0} (r : Result Outcome DriveError) (note : String Global) → Done
    → (noted : List ℕ) × OnOk r (IsNote note note noted) × (Done × IsSilent r noted)
noting_nothing r note done = ([], on_ok_always r (same_note note), (done, on_ok_always r refl))

-- a run that left this note
pub noting : {Run : Type 0} (r : Result Outcome DriveError) (old new : String Global) (note_of : Run → List ℕ)
    → (run : Run) × OnOk r (IsNote old new (note_of run))
    → (noted : List ℕ) × OnOk r (IsNote old new noted) × ((run : Run) × OnOk r (noted ≡ note_of run))
noting r old new note_of (run, note) = (note_of run, note, (run, on_ok_always r refl))

-- the same of a run in words
pub noting_words : (form : AnswerForm) (how : Start) (r : Result Outcome DriveError) (io : Streams) (old new : String Global)
    → (form ≡ forms.Words) ⊎ (form ≡ forms.Explained)
    → (run : RunEnded how r io) × OnOk r (IsNote old new (run_note how run.input))
    → (noted : List ℕ) × OnOk r (IsNote old new noted) × RunNoted form how r io noted
noting_words form how r io old new (inl is) run = rw is (noting r old new (λ (it : RunEnded how r io). run_note how it.input) run)
noting_words form how r io old new (inr is) run = rw is (noting r old new (λ (it : RunEnded how r io). run_note how it.input) run)

-- a session without a job, which left the note as it was
pub no_job : (words : List Text) (e : WordsError) (r : Result Ending DriveError) (had held holds : Option (List ℕ)) (note : String Global)
    → Explains words e → IsWordsOutput e r held holds
    → (noted : List ℕ) × OnOk r (IsNote note note noted) × SessionEnds words r (streams had had held holds) noted
no_job words (words_error.Help text) (Ok ending.Helped) had held holds note asks wrote = ([], same_note note, (string_bytes text, asks, refl, wrote, refl))
no_job words (words_error.Help text) (Err errors.Write) had held holds note asks wrote = ([], tt, inr (refl, inl (string_bytes text, asks, wrote)))
no_job words words_error.Refused (Ok ending.RefusedWords) had held holds note refused wrote = ([], same_note note, (refused, refl, wrote, refl))
no_job words words_error.Refused (Err errors.Write) had held holds note refused wrote = ([], tt, inr (refl, inr (refused, wrote)))
no_job words words_error.Memory (Err errors.Memory) had held holds note h wrote = ([], tt, inr (refl, wrote))
no_job words (words_error.Help text) (Ok (ending.RunEnded o)) had held holds note h wrote = absurd wrote
no_job words (words_error.Help text) (Ok ending.RefusedWords) had held holds note h wrote = absurd wrote
no_job words (words_error.Help text) (Err errors.Read) had held holds note h wrote = absurd wrote
no_job words (words_error.Help text) (Err errors.Memory) had held holds note h wrote = absurd wrote
no_job words words_error.Refused (Ok (ending.RunEnded o)) had held holds note h wrote = absurd wrote
no_job words words_error.Refused (Ok ending.Helped) had held holds note h wrote = absurd wrote
no_job words words_error.Refused (Err errors.Read) had held holds note h wrote = absurd wrote
no_job words words_error.Refused (Err errors.Memory) had held holds note h wrote = absurd wrote
no_job words words_error.Memory (Ok (ending.RunEnded o)) had held holds note h wrote = absurd wrote
no_job words words_error.Memory (Ok ending.Helped) had held holds note h wrote = absurd wrote
no_job words words_error.Memory (Ok ending.RefusedWords) had held holds note h wrote = absurd wrote
no_job words words_error.Memory (Err errors.Read) had held holds note h wrote = absurd wrote
no_job words words_error.Memory (Err errors.Write) had held holds note h wrote = absurd wrote
