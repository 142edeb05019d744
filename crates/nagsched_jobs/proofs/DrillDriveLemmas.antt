-- A whole drill, and what its faults leave.
use Rattle.std.proofs.Common.{◌≡◌, ◌≢◌, ℕ, List, [], ◌++◌, take, Option, Some, None, Result, Ok, Err, refl, ap, ◌∙◌, inl, inr, ◌⊎◌, String}
use Rattle.std.specs.Prelude.{IfSome, IsErrAnd, string_bytes}
use Rattle.std.specs.declared.alloc.Global.{Global}
use Rattle.std.specs.Io.KnownBytes.{Keeps, Consumes}
use Rattle.ticket_steps.specs.declared.books.Entry.{Entry}
use Rattle.check_sched.specs.declared.call.Call.{Call}
use Rattle.check_sched.specs.declared.call.Reply.{Reply}
use Rattle.nagsched_protocol.specs.declared.input.TheConstants.{MAX_READ_BYTES}
use Rattle.nagsched_protocol.specs.declared.drive_error.DriveError.{DriveError}
use Rattle.nagsched_protocol.specs.declared.drive_error.DriveError.TheVariants as errors
use Rattle.nagsched_protocol.specs.declared.outcome.Outcome.{Outcome}
use Rattle.nagsched_jobs.specs.Drill.{DrillEnded, IsDrill, IsDrillWritten, IsTextOf, LeavesDrill, WroteDrill, WroteDrillFront, WroteDrillShort, drill_note}
use Rattle.nagsched_jobs.specs.Drill.{drill_outcome}
use Rattle.nagsched_protocol.specs.DrillScript.{DrillScript, drill_script_of}
use Rattle.setup_model.specs.Agreement.{IsExpectedError}
use Rattle.nagsched_protocol.specs.declared.answer_form.AnswerForm.TheVariants as forms
use Rattle.nagsched_protocol.specs.declared.refusal.InputRefusal.{InputRefusal}
use Rattle.nagsched_protocol.specs.declared.refusal.ScriptError.{ScriptError}
use Rattle.nagsched_protocol.specs.declared.refusal.ScriptError.TheVariants as script_errors
use Rattle.nagsched_protocol.specs.Agreement.{refusal}
use Rattle.nagsched_protocol.specs.Forms.{refusal_text}
use Rattle.nagsched_protocol.specs.Notes.{IsNote}
use Rattle.nagsched_protocol.specs.Script.{refused_bytes}
use Rattle.nagsched_protocol.specs.Streams.{HasRead, outcome_by, streams}
use Rattle.nagsched_protocol.specs.Text.{drill_text, refusal_line}
use Rattle.nagsched_protocol.specs.Written.{IsLineWritten, IsTextWritten}
use Rattle.nagsched_protocol.proofs.NoteLemmas.{line_text, note_of_read}
use Rattle.nagsched_protocol.proofs.ReadLemmas.{IsOfRead, drill_script_take, has_read, input_of, input_of-is, input_of-says, refused_past_limit}
use Rattle.nagsched_protocol.proofs.WrittenLemmas.{Keeps-same}
use Rattle.nagsched_protocol.proofs.OutputLemmas.{Appends-Keeps, front_all}

-- the text of a history of the input's script
pub text_of_drill : (start workers room : ℕ) (input : List ℕ) (s : DrillScript) (history : List (Entry Call Reply)) (refused : ℕ) → drill_script_of input ≡ Ok s
    → IsDrill s start workers room history refused → IsTextOf start workers room input (drill_text s.setup history refused)
text_of_drill start workers room input s history refused e d = rw e (record { history = history; refused = refused; drill = d; text_is = refl })

-- the line of the input's refusal
pub refusal_of_drill : (start workers room : ℕ) (input : List ℕ) (r : InputRefusal) → drill_script_of input ≡ Err r
    → IsTextOf start workers room input (refusal_line r)
refusal_of_drill start workers room input r e = rw e refl

-- such a text was written, or an error left this of it
pub wrote_drill : (r : Result Outcome DriveError) (start workers room : ℕ) (input text : List ℕ) (held holds : Option (List ℕ))
    → IsTextOf start workers room input text → IsTextWritten r held holds text → IsDrillWritten start workers room input r held holds
wrote_drill (Ok x) start workers room input text held holds is h =
    record { written = record { text = text; is_text = is; written = h }; front = tt; kind = tt; short = tt }
wrote_drill (Err errors.Read) start workers room input text held holds is h = absurd h
wrote_drill (Err errors.Write) start workers room input text held holds is h =
    record { written = tt; front = inr (record { text = text; is_text = is; written = h }); kind = λ q. cc; short = λ q. cc }
wrote_drill (Err errors.Memory) start workers room input text held holds is (inl kept) =
    record { written = tt; front = inl kept; kind = λ q. cc; short = λ q. inl kept }
wrote_drill (Err errors.Memory) start workers room input text held holds is (inr w) = record {
  written = tt;
  front = inr (record { text = text; is_text = is; written = (w.0, w.2.0) });
  kind = λ q. cc;
  short = λ q. inr (record { text = text; is_text = is; rest = w.0; is_missing = w.1; written = w.2 });
}

-- out of memory before anything was written
pub wrote_none : (e : DriveError) (start workers room : ℕ) (input : List ℕ) (held : Option (List ℕ)) → e ≡ errors.Memory
    → IsDrillWritten start workers room input (Err e) held held
wrote_none e start workers room input held is =
    rw is (record { written = tt; front = inl (Keeps-same held); kind = λ q. cc; short = λ q. inl (Keeps-same held) })

none_by : (r : Result Outcome DriveError) (start workers room : ℕ) (input : List ℕ) (held holds : Option (List ℕ))
    → IsErrAnd r (λ e. e ≡ errors.Memory) × (holds ≡ held) → IsDrillWritten start workers room input r held holds
none_by (Ok x) start workers room input held holds h = absurd h.0
none_by (Err e) start workers room input held holds h = rw h.1 (wrote_none e start workers room input held h.0)

-- a refusal was written
pub refused_drill : (error : ScriptError) (start workers room : ℕ) (input : List ℕ) (r : Result Outcome DriveError) (held holds : Option (List ℕ))
    → IsExpectedError (refusal error) (drill_script_of input)
    → IfSome (refusal error) (λ why. IsLineWritten r held holds (refusal_text forms.Words (refused_bytes input why) why))
    → (refusal error ≡ None → IsErrAnd r (λ e. e ≡ errors.Memory) × (holds ≡ held)) → IsDrillWritten start workers room input r held holds
refused_drill script_errors.Memory start workers room input r held holds is wrote memory = none_by r start workers room input held holds (memory refl)
refused_drill (script_errors.Refused why) start workers room input r held holds is wrote memory =
    wrote_drill r start workers room input (refusal_line why) held holds (refusal_of_drill start workers room input why is)
    (line_text r held holds (refusal_line why) wrote)

-- ---- the input of a drill, whatever is known of its reader

drill_note_take : IsOfRead drill_note
unfolding drill_note drill_script_of
drill_note_take = note_of_read drill_script_of (refused_past_limit _)

left_of : (had left : Option (List ℕ)) (read : List ℕ) → IfSome had (λ bytes. read ≡ take MAX_READ_BYTES bytes) → Consumes had left read
    → IfSome had (HasRead had left)
left_of None left read all c = tt
left_of (Some bytes) left read all c = has_read left read bytes all c

input_of-script : (had : Option (List ℕ)) (read : List ℕ) → IfSome had (λ bytes. read ≡ take MAX_READ_BYTES bytes)
    → drill_script_of read ≡ drill_script_of (input_of had read)
input_of-script None read all = refl
input_of-script (Some bytes) read all = ap drill_script_of all ∙ drill_script_take bytes

text_of_read : (start workers room : ℕ) (had : Option (List ℕ)) (read text : List ℕ) → IfSome had (λ bytes. read ≡ take MAX_READ_BYTES bytes)
    → IsTextOf start workers room read text → IsTextOf start workers room (input_of had read) text
text_of_read start workers room had read text all t = rw (input_of-script had read all) at t

-- ---- whole drills

-- an error ended the drill before anything was written
pub unread_drill : (e : DriveError) (start workers room : ℕ) (had left held : Option (List ℕ)) → e ≢ errors.Write
    → DrillEnded start workers room (Err e) (streams had left held held)
unread_drill e start workers room had left held n =
    record { input = input_of had []; is_input = input_of-is had []; outcome_is = tt; written = tt; read = tt; fault = leaves e n }
  where
    leaves : (e : DriveError) → e ≢ errors.Write → LeavesDrill e start workers room (input_of had []) (streams had left held held)
    leaves errors.Read n = Keeps-same held
    leaves errors.Write n = absurd (n refl)
    leaves errors.Memory n = inl (Keeps-same held)

module _ (start workers room : ℕ) (had left held : Option (List ℕ)) (read : List ℕ) (all : IfSome had (λ bytes. read ≡ take MAX_READ_BYTES bytes))
    (consumed : Consumes had left read) where
  front_left : (holds : Option (List ℕ)) → Keeps held holds ⊎ WroteDrillFront start workers room read held holds
      → LeavesDrill errors.Write start workers room (input_of had read) (streams had left held holds)
  front_left holds (inl kept) = inl kept
  front_left holds (inr w) =
      inr (
        left_of had left read all consumed,
        record { text = w.text; is_text = text_of_read start workers room had read w.text all w.is_text; written = w.written },
      )

  part_left : (holds : Option (List ℕ)) → WroteDrillShort start workers room read held holds
      → LeavesDrill errors.Memory start workers room (input_of had read) (streams had left held holds)
  part_left holds (inl kept) = inl kept
  part_left holds (inr w) =
      inr (
        left_of had left read all consumed,
        record {
          text = w.text;
          is_text = text_of_read start workers room had read w.text all w.is_text;
          rest = w.rest;
          is_missing = w.is_missing;
          written = w.written;
        },
      )

  ended_by : (e : DriveError) (holds : Option (List ℕ)) → LeavesDrill e start workers room (input_of had read) (streams had left held holds)
      → DrillEnded start workers room (Err e) (streams had left held holds)
  ended_by e holds leaves =
      record { input = input_of had read; is_input = input_of-is had read; outcome_is = tt; written = tt; read = tt; fault = leaves }

  -- an error ended it when its input had been read
  pub cut_drill : (e : DriveError) (holds : Option (List ℕ)) → IsDrillWritten start workers room read (Err e) held holds
      → DrillEnded start workers room (Err e) (streams had left held holds)
  cut_drill errors.Read holds w = absurd (w.kind refl)
  cut_drill errors.Write holds w = ended_by errors.Write holds (front_left holds w.front)
  cut_drill errors.Memory holds w = ended_by errors.Memory holds (part_left holds (w.short refl))

  -- it came to its flush, which failed
  pub unflushed_drill : (e : DriveError) (mid holds : Option (List ℕ)) → WroteDrill start workers room read held mid → Keeps mid holds → e ≡ errors.Write
      → DrillEnded start workers room (Err e) (streams had left held holds)
  unflushed_drill e mid holds w kept is =
      let front : WroteDrillFront start workers room read held holds =
      record { text = w.text; is_text = w.is_text; written = front_all held holds w.text (Appends-Keeps held mid holds w.text w.written kept) } in
      rw is (ended_by errors.Write holds (front_left holds (inr front)))

  -- it came to its end
  abbrev flushed_drill : (given : Outcome) (mid holds : Option (List ℕ)) → WroteDrill start workers room read held mid → Keeps mid holds
      → given ≡ drill_outcome read → DrillEnded start workers room (Ok given) (streams had left held holds)
  flushed_drill given mid holds w kept is = record {
    input = input_of had read;
    is_input = input_of-is had read;
    outcome_is = is ∙ ap outcome_by (input_of-script had read all);
    written = record {
      text = w.text;
      is_text = text_of_read start workers room had read w.text all w.is_text;
      written = Appends-Keeps held mid holds w.text w.written kept;
    };
    read = left_of had left read all consumed;
    fault = tt;
  }

  -- the same with the note
  pub noted_drill : (given : Outcome) (mid holds : Option (List ℕ)) (before after : String Global) → WroteDrill start workers room read held mid
      → Keeps mid holds → given ≡ drill_outcome read → IsNote before after (drill_note read)
      → (drill : DrillEnded start workers room (Ok given) (streams had left held holds)) × IsNote before after (drill_note drill.input)
  noted_drill given mid holds before after w kept is noted = (
    flushed_drill given mid holds w kept is,
    noted ∙ ap (λ l. string_bytes before ++ l) (input_of-says drill_note drill_note_take had read all),
  )
