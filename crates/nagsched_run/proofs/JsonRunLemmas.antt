-- A whole run whose answers are JSON objects, and what its faults leave.
use Rattle.std.proofs.Common.{◌≡◌, ◌≢◌, ℕ, Bool, true, false, cond, List, [], take, Option, Some, None, Result, Ok, Err, refl, sym, subst, ap, ◌∙◌, ◌++◌}
use Rattle.std.proofs.Common.{length, inl, inr, String}
use Rattle.std.specs.Prelude.{IfOk, IfSome, IsErrAnd, OnOk, nat_lt, string_bytes}
use Rattle.std.specs.declared.alloc.Global.{Global}
use Rattle.std.specs.Io.KnownBytes.{Appends, Keeps, Consumes}
use Rattle.check_objects.specs.Configuration.{Configuration}
use Rattle.check_objects.specs.Setup.{setup_of}
use Rattle.check_saved_state.specs.Saved.{Saved}
use Rattle.check_saved_state.specs.Text.{saved_of_text}
use Rattle.setup_model.specs.Agreement.{◌>>=◌, IsExpectedError}
use Rattle.nagsched_protocol.specs.declared.answer_form.AnswerForm.TheVariants as forms
use Rattle.nagsched_protocol.specs.declared.drive_error.DriveError.{DriveError}
use Rattle.nagsched_protocol.specs.declared.drive_error.DriveError.TheVariants as errors
use Rattle.nagsched_protocol.specs.declared.input.TheConstants.{MAX_READ_BYTES}
use Rattle.nagsched_protocol.specs.declared.outcome.Outcome.{Outcome}
use Rattle.nagsched_protocol.specs.declared.outcome.Outcome.TheVariants as outcomes
use Rattle.nagsched_protocol.specs.declared.refusal.InputRefusal.{InputRefusal}
use Rattle.nagsched_protocol.specs.declared.refusal.InputRefusal.TheVariants as refusals
use Rattle.nagsched_protocol.specs.declared.refusal.LineFault.TheVariants as line_fault
use Rattle.nagsched_protocol.specs.declared.refusal.ScriptError.{ScriptError}
use Rattle.nagsched_protocol.specs.declared.refusal.ScriptError.TheVariants as script_errors
use Rattle.nagsched_protocol.specs.declared.script.TheConstants.{MAX_INPUT_BYTES}
use Rattle.nagsched_protocol.specs.declared.start.Start.{Start}
use Rattle.nagsched_protocol.specs.declared.start.Start.TheVariants as start
use Rattle.nagsched_protocol.specs.Agreement.{refusal}
use Rattle.nagsched_protocol.specs.Forms.{refusal_text}
use Rattle.nagsched_protocol.specs.Input.{first_line_of, lines_of}
use Rattle.nagsched_protocol.specs.LiveInput.{rest_after_line}
use Rattle.nagsched_protocol.specs.LiveText.{live_text}
use Rattle.nagsched_protocol.specs.Notes.{IsNote}
use Rattle.nagsched_protocol.specs.Script.{beginning_of, beginning_over, refused_bytes, requests_in, requests_of, requests_over, state_after_resume_at}
use Rattle.nagsched_protocol.specs.Script.{with_saved_refusal, with_setup_refusal}
use Rattle.nagsched_protocol.proofs.LiveLaws.{begun}
use Rattle.nagsched_protocol.specs.Streams.{outcome_by, streams}
use Rattle.nagsched_protocol.specs.Written.{IsLineWritten}
use Rattle.nagsched_protocol.proofs.NoteLemmas.{no_line, note_of_read}
use Rattle.nagsched_protocol.proofs.OutputLemmas.{Appends-Keeps}
use Rattle.nagsched_protocol.proofs.ReadLemmas.{IsOfRead, input_of, input_of-is, input_of-says, refused_past_limit, read_input, read_part_agrees}
use Rattle.nagsched_protocol.proofs.WrittenLemmas.{Keeps-same}
use Rattle.nagsched_run.specs.JsonRun.{IsJsonText, JsonRunEnded, json_outcome, json_run_note, json_run_text, text_by}
use Rattle.nagsched_run.specs.Live.{ConversationEnded, LeavesText}
use Rattle.nagsched_run.proofs.LiveLemmas.{leaves_all, leaves_kept, leaves_left}

-- ---- what is read of an input says all

abbrev tests_of : Start → List ℕ → Result (Unit {0}) InputRefusal
tests_of how input = with_setup_refusal (setup_of (first_line_of input)) >>= λ c. requests_over how c (rest_after_line input)

pub text_take : (how : Start) → IsOfRead (json_run_text how)
unfolding json_run_text requests_of
text_take how = read_part_agrees (json_run_text how) (refusal_text forms.Json [] (refusals.Line line_fault.TooLong 0)) (λ bytes h.
    ap (text_by how bytes) (refused_past_limit (tests_of how) bytes h) ∙ ap (λ line. refusal_text forms.Json line (refusals.Line line_fault.TooLong 0)) (no_line (lines_of bytes)))

pub outcome_take : (how : Start) → IsOfRead (json_outcome how)
unfolding json_outcome requests_of
outcome_take how = read_part_agrees (json_outcome how) outcomes.Refused (λ bytes h. ap outcome_by (refused_past_limit (tests_of how) bytes h))

note_take : (how : Start) → IsOfRead (json_run_note how)
unfolding json_run_note requests_of
note_take how = note_of_read (requests_of how) (refused_past_limit (tests_of how))

-- ---- a conversation over an input whose lines were tested

saved_begun : (moment : Option ℕ) (c : Configuration) (bytes : List ℕ) (saved : Result Saved InputRefusal)
    → (saved >>= λ s. requests_in 3 c bytes) ≡ Ok tt → outcome_by (saved >>= λ s. Ok (begun (state_after_resume_at c s moment) 3 bytes)) ≡ outcomes.Ran
saved_begun moment c bytes (Ok s) e = refl
saved_begun moment c bytes (Err why) e = cc

over_begun : (how : Start) (c : Configuration) (bytes : List ℕ) → requests_over how c bytes ≡ Ok tt → outcome_by (beginning_over how c bytes) ≡ outcomes.Ran
over_begun (start.Fresh moment) c bytes e = refl
over_begun (start.Resumed moment) c bytes e = saved_begun moment c (rest_after_line bytes) (with_saved_refusal (saved_of_text (first_line_of bytes))) e

setup_begun : (how : Start) (setup : Result Configuration InputRefusal) (bytes : List ℕ) → (setup >>= λ c. requests_over how c bytes) ≡ Ok tt
    → outcome_by (setup >>= λ c. beginning_over how c bytes) ≡ outcomes.Ran
setup_begun how (Ok c) bytes e = over_begun how c bytes e
setup_begun how (Err why) bytes e = cc

within : (long : Bool) (r : Result (Unit {0}) InputRefusal) → cond long (Err (refusals.Line line_fault.TooLong 0)) r ≡ Ok tt → r ≡ Ok tt
within true r e = cc
within false r e = e

tested_begun : (how : Start) (input : List ℕ) → requests_of how input ≡ Ok tt → outcome_by (beginning_of how input) ≡ outcomes.Ran
unfolding requests_of
tested_begun how input e =
    setup_begun how (with_setup_refusal (setup_of (first_line_of input))) (rest_after_line input)
    (within (nat_lt MAX_INPUT_BYTES (length input)) (with_setup_refusal (setup_of (first_line_of input)) >>= λ c. requests_over how c (rest_after_line input)) e)

pub talked_text : (how : Start) (r : Result Outcome DriveError) (input : List ℕ) (left held holds : Option (List ℕ)) → requests_of how input ≡ Ok tt
    → ConversationEnded forms.Json how r (streams (Some input) left held holds) → IsJsonText r held holds (json_run_text how input)
unfolding json_run_text
talked_text how (Ok o) input left held holds tested e = rw tested (subst (λ i. Appends held holds (live_text forms.Json how i)) e.is_input e.written)
talked_text how (Err x) input left held holds tested e = rw tested (subst (λ i. LeavesText x held holds (live_text forms.Json how i)) e.is_input e.fault)

pub talked_outcome : (how : Start) (r : Result Outcome DriveError) (input : List ℕ) (left held holds : Option (List ℕ)) → requests_of how input ≡ Ok tt
    → ConversationEnded forms.Json how r (streams (Some input) left held holds) → IfOk r (λ o. o ≡ json_outcome how input)
unfolding json_outcome
talked_outcome how (Ok o) input left held holds tested e =
    e.outcome_is ∙ ap (λ i. outcome_by (beginning_of how i)) e.is_input ∙ tested_begun how input tested ∙ sym (ap outcome_by tested)
talked_outcome how (Err x) input left held holds tested e = tt

-- ---- a refused input

line_json : {T : Type 0} (r : Result T DriveError) (old new : Option (List ℕ)) (line : List ℕ) → IsLineWritten r old new line → IsJsonText r old new line
line_json (Ok x) old new line h = h
line_json (Err e) old new line h = leaves_left e old new line h

memory_json : {T : Type 0} (r : Result T DriveError) (old new : Option (List ℕ)) (text : List ℕ) → IsErrAnd r (λ e. e ≡ errors.Memory) × (new ≡ old)
    → IsJsonText r old new text
memory_json (Ok x) old new text h = absurd h.0
memory_json (Err e) old new text h = rw (h.0, h.1) (leaves_kept errors.Memory old old text (Keeps-same old))

pub refused_json : {T : Type 0} (how : Start) (error : ScriptError) (input : List ℕ) (tested : Result (Unit {0}) InputRefusal) (r : Result T DriveError)
    (old new : Option (List ℕ)) → IsExpectedError (refusal error) tested
    → IfSome (refusal error) (λ why. IsLineWritten r old new (refusal_text forms.Json (refused_bytes input why) why))
    → (refusal error ≡ None → IsErrAnd r (λ e. e ≡ errors.Memory) × (new ≡ old)) → IsJsonText r old new (text_by how input tested)
refused_json how script_errors.Memory input tested r old new is wrote memory = memory_json r old new (text_by how input tested) (memory refl)
refused_json how (script_errors.Refused why) input tested r old new is wrote memory =
    rw is (line_json r old new (refusal_text forms.Json (refused_bytes input why) why) wrote)

-- ---- how a run ends

-- the input couldn't be read
pub unread_run : (how : Start) (e : DriveError) (had left held : Option (List ℕ)) → JsonRunEnded how (Err e) (streams had left held held)
unread_run how e had left held = record {
  input = input_of had [];
  is_input = input_of-is had [];
  outcome_is = tt;
  written = tt;
  read = tt;
  fault = leaves_kept e held held (json_run_text how (input_of had [])) (Keeps-same held);
  unread = inl (Keeps-same held);
}

-- the text couldn't be written, or there was no memory
pub cut_run : (how : Start) (e : DriveError) (had left held holds : Option (List ℕ)) (input : List ℕ)
    → IfSome had (λ bytes. input ≡ take MAX_READ_BYTES bytes) → Consumes had left input
    → LeavesText e held holds (json_run_text how input) → JsonRunEnded how (Err e) (streams had left held holds)
cut_run how e had left held holds input all c h = record {
  input = input_of had input;
  is_input = input_of-is had input;
  outcome_is = tt;
  written = tt;
  read = tt;
  fault = subst (LeavesText e held holds) (input_of-says (json_run_text how) (text_take how) had input all) h;
  unread = inr (read_input had left input all c);
}

-- the flush failed
pub unflushed_run : (how : Start) (e : DriveError) (had left held mid holds : Option (List ℕ)) (input : List ℕ) → e ≡ errors.Write
    → IfSome had (λ bytes. input ≡ take MAX_READ_BYTES bytes) → Consumes had left input
    → Appends held mid (json_run_text how input) → Keeps mid holds → JsonRunEnded how (Err e) (streams had left held holds)
unflushed_run how e had left held mid holds input is_write all c wrote kept =
    rw is_write (cut_run how errors.Write had left held holds input all c (leaves_all held mid holds (json_run_text how input) wrote kept))

-- all was written
abbrev pub flushed_run : (how : Start) (had left held mid holds : Option (List ℕ)) (o : Outcome) (input : List ℕ)
    → IfSome had (λ bytes. input ≡ take MAX_READ_BYTES bytes) → Consumes had left input
    → Appends held mid (json_run_text how input) → Keeps mid holds → o ≡ json_outcome how input → JsonRunEnded how (Ok o) (streams had left held holds)
flushed_run how had left held mid holds o input all c wrote kept is = record {
  input = input_of had input;
  is_input = input_of-is had input;
  outcome_is = is ∙ input_of-says (json_outcome how) (outcome_take how) had input all;
  written = subst (Appends held holds) (input_of-says (json_run_text how) (text_take how) had input all)
      (Appends-Keeps held mid holds (json_run_text how input) wrote kept);
  read = read_input had left input all c;
  fault = tt;
  unread = tt;
}

-- the same with the note
pub flushed_noted : (how : Start) (had left held mid holds : Option (List ℕ)) (o : Outcome) (input : List ℕ) (before after : String Global)
    → IfSome had (λ bytes. input ≡ take MAX_READ_BYTES bytes) → Consumes had left input
    → Appends held mid (json_run_text how input) → Keeps mid holds → o ≡ json_outcome how input → IsNote before after (json_run_note how input)
    → (run : JsonRunEnded how (Ok o) (streams had left held holds)) × IsNote before after (json_run_note how run.input)
flushed_noted how had left held mid holds o input before after all c wrote kept is noted = (
  flushed_run how had left held mid holds o input all c wrote kept is,
  noted ∙ ap (λ l. string_bytes before ++ l) (input_of-says (json_run_note how) (note_take how) had input all),
)
