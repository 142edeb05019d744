-- A whole run, and what its faults leave.
use Rattle.std.proofs.Common.{◌≡◌, ◌≢◌, ℕ, List, [], ◌++◌, take, Option, None, Result, Ok, Err, refl, subst, ap, ◌∙◌, String}
use Rattle.std.proofs.Common.{inl, inr}
use Rattle.std.specs.Prelude.{IfSome, IsErrAnd, string_bytes}
use Rattle.std.specs.declared.alloc.Global.{Global}
use Rattle.setup_model.specs.Agreement.{◌>>=◌, IsExpectedError}
use Rattle.std.specs.Io.KnownBytes.{Appends, Keeps, Consumes}
use Rattle.nagsched_protocol.specs.declared.drive_error.DriveError.{DriveError}
use Rattle.nagsched_protocol.specs.declared.drive_error.DriveError.TheVariants as errors
use Rattle.nagsched_protocol.specs.declared.input.TheConstants.{MAX_READ_BYTES}
use Rattle.nagsched_protocol.specs.declared.refusal.InputRefusal.TheVariants as refusals
use Rattle.nagsched_protocol.specs.declared.refusal.LineFault.TheVariants as line_fault
use Rattle.nagsched_protocol.specs.declared.start.Start.{Start}
use Rattle.nagsched_protocol.specs.declared.answer_form.AnswerForm.TheVariants as forms
use Rattle.nagsched_protocol.specs.declared.refusal.InputRefusal.{InputRefusal}
use Rattle.nagsched_protocol.specs.declared.refusal.ScriptError.{ScriptError}
use Rattle.nagsched_protocol.specs.declared.refusal.ScriptError.TheVariants as script_errors
use Rattle.nagsched_protocol.specs.Agreement.{refusal}
use Rattle.nagsched_protocol.specs.Forms.{refusal_text}
use Rattle.nagsched_protocol.specs.Notes.{IsNote}
use Rattle.nagsched_protocol.specs.Script.{Script, beginning_of, refused_bytes, script_from, script_of}
use Rattle.nagsched_protocol.specs.Text.{refusal_line, script_text, text}
use Rattle.nagsched_protocol.specs.Written.{IsLineWritten, IsTextWritten, LeftOfText}
use Rattle.nagsched_protocol.proofs.NoteLemmas.{line_text, memory_text, note_of_read}
use Rattle.nagsched_protocol.proofs.OutputLemmas.{Appends-Keeps, front_all}
use Rattle.nagsched_protocol.proofs.WrittenLemmas.{Keeps-same}
use Rattle.nagsched_protocol.specs.declared.outcome.Outcome.{Outcome}
use Rattle.nagsched_protocol.specs.Streams.{outcome_by, streams}
use Rattle.nagsched_protocol.proofs.ReadLemmas.{IsOfRead, input_of, input_of-is, input_of-says, refused_past_limit, read_input, read_part_agrees}
use Rattle.nagsched_run.specs.Drive.{RunEnded, LeavesRun, outcome_of, run_note}

script_take : (how : Start) → IsOfRead (script_of how)
unfolding script_of
script_take how = read_part_agrees (script_of how) (Err (refusals.Line line_fault.TooLong 0)) (refused_past_limit _)

pub text_take : (how : Start) → IsOfRead (text how)
unfolding text
text_take how bytes = ap script_text (script_take how bytes)

pub outcome_take : (how : Start) → IsOfRead (outcome_of how)
unfolding outcome_of
outcome_take how bytes = ap outcome_by (script_take how bytes)

note_take : (how : Start) → IsOfRead (run_note how)
unfolding run_note script_of
note_take how = note_of_read (script_of how) (refused_past_limit (λ input. beginning_of how input >>= script_from))

-- ---- a refused input

pub refused_text_written : {T : Type 0} (error : ScriptError) (input : List ℕ) (script : Result Script InputRefusal) (r : Result T DriveError) (old new : Option (List ℕ))
    → IsExpectedError (refusal error) script
    → IfSome (refusal error) (λ why. IsLineWritten r old new (refusal_text forms.Words (refused_bytes input why) why))
    → (refusal error ≡ None → IsErrAnd r (λ e. e ≡ errors.Memory) × (new ≡ old)) → IsTextWritten r old new (script_text script)
refused_text_written script_errors.Memory input script r old new is wrote memory = memory_text r old new (script_text script) (memory refl)
refused_text_written (script_errors.Refused why) input script r old new is wrote memory = rw is (line_text r old new (refusal_line why) wrote)

-- ---- errors

leaves_unread : (e : DriveError) (held : Option (List ℕ)) (text : List ℕ) → e ≢ errors.Write → LeavesRun e held held text
leaves_unread errors.Read held text n = Keeps-same held
leaves_unread errors.Write held text n = absurd (n refl)
leaves_unread errors.Memory held text n = inl (Keeps-same held)

leaves_left : (e : DriveError) (held holds : Option (List ℕ)) (text : List ℕ) → LeftOfText e held holds text → LeavesRun e held holds text
leaves_left errors.Read held holds text h = absurd h
leaves_left errors.Write held holds text h = h
leaves_left errors.Memory held holds text h = h

-- ---- how a run ends

-- the input couldn't be read
pub unread_run : (how : Start) (e : DriveError) (had left held : Option (List ℕ)) → e ≢ errors.Write → RunEnded how (Err e) (streams had left held held)
unread_run how e had left held n = record {
  input = input_of had [];
  is_input = input_of-is had [];
  outcome_is = tt;
  written = tt;
  read = tt;
  fault = leaves_unread e held (text how (input_of had [])) n;
  unread = inl (Keeps-same held);
}

-- the text couldn't be written, or there was no memory
pub cut_run : (how : Start) (e : DriveError) (had left held holds : Option (List ℕ)) (input : List ℕ)
    → IfSome had (λ bytes. input ≡ take MAX_READ_BYTES bytes) → Consumes had left input
    → LeftOfText e held holds (text how input) → RunEnded how (Err e) (streams had left held holds)
cut_run how e had left held holds input all c h = record {
  input = input_of had input;
  is_input = input_of-is had input;
  outcome_is = tt;
  written = tt;
  read = tt;
  fault = subst (LeavesRun e held holds) (input_of-says (text how) (text_take how) had input all) (leaves_left e held holds (text how input) h);
  unread = inr (read_input had left input all c);
}

-- the flush failed
pub unflushed_run : (how : Start) (e : DriveError) (had left held mid holds : Option (List ℕ)) (input : List ℕ) → e ≡ errors.Write
    → IfSome had (λ bytes. input ≡ take MAX_READ_BYTES bytes) → Consumes had left input
    → Appends held mid (text how input) → Keeps mid holds → RunEnded how (Err e) (streams had left held holds)
unflushed_run how e had left held mid holds input is_write all c wrote kept =
    rw is_write
    (cut_run how errors.Write had left held holds input all c
    (front_all held holds (text how input) (Appends-Keeps held mid holds (text how input) wrote kept)))

-- all was written
abbrev pub flushed_run : (how : Start) (had left held mid holds : Option (List ℕ)) (bytes_read : Outcome) (input : List ℕ)
    → IfSome had (λ bytes. input ≡ take MAX_READ_BYTES bytes) → Consumes had left input
    → Appends held mid (text how input) → Keeps mid holds → bytes_read ≡ outcome_of how input
    → RunEnded how (Ok bytes_read) (streams had left held holds)
flushed_run how had left held mid holds bytes_read input all c wrote kept is = record {
  input = input_of had input;
  is_input = input_of-is had input;
  outcome_is = is ∙ input_of-says (outcome_of how) (outcome_take how) had input all;
  written = subst (Appends held holds) (input_of-says (text how) (text_take how) had input all)
      (Appends-Keeps held mid holds (text how input) wrote kept);
  read = read_input had left input all c;
  fault = tt;
  unread = tt;
}

-- the same with the note
pub flushed_noted : (how : Start) (had left held mid holds : Option (List ℕ)) (bytes_read : Outcome) (input : List ℕ) (before after : String Global)
    → IfSome had (λ bytes. input ≡ take MAX_READ_BYTES bytes) → Consumes had left input
    → Appends held mid (text how input) → Keeps mid holds → bytes_read ≡ outcome_of how input → IsNote before after (run_note how input)
    → (run : RunEnded how (Ok bytes_read) (streams had left held holds)) × IsNote before after (run_note how run.input)
flushed_noted how had left held mid holds bytes_read input before after all c wrote kept is noted = (
  flushed_run how had left held mid holds bytes_read input all c wrote kept is,
  noted ∙ ap (λ l. string_bytes before ++ l) (input_of-says (run_note how) (note_take how) had input all),
)
