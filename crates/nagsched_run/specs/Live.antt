-- How a conversation from a reader to a writer ends, with or without a fault.
use Rattle.std.specs.Prelude.{ℕ, Bool, false, ◌≡◌, ◌⊎◌, ◌+◌, ◌-◌, ◌^◌, ◌≤◌, length, ⊤, List, [], ◌++◌, Option, Result, Ok, Err, IfOk, IfErr, OnOk}
use Rattle.std.specs.Io.KnownBytes.{Appends, Consumes, IsAtEnd}
use Rattle.check_objects.specs.Configuration.{Configuration}
use Rattle.check_objects.specs.Setup.{setup_of}
use Rattle.setup_model.specs.declared.error.LoadError.{LoadError}
use Rattle.check_saved_state.specs.Saved.{Saved}
use Rattle.check_saved_state.specs.Text.{saved_of_text}
use Rattle.check_sched.specs.State.{State}
use Rattle.nagsched_protocol.specs.declared.answer_form.AnswerForm.{AnswerForm}
use Rattle.nagsched_protocol.specs.declared.drive_error.DriveError.{DriveError}
use Rattle.nagsched_protocol.specs.declared.drive_error.DriveError.TheVariants as errors
use Rattle.nagsched_protocol.specs.declared.line_reader.TheConstants.{SAVED_PREFIX_BYTES, SETUP_PREFIX_BYTES}
use Rattle.nagsched_protocol.specs.declared.live_error.LiveError.{LiveError}
use Rattle.nagsched_protocol.specs.declared.live_error.LiveError.TheVariants as live
use Rattle.nagsched_protocol.specs.declared.refusal.InputRefusal.{InputRefusal}
use Rattle.nagsched_protocol.specs.declared.start.Start.{Start}
use Rattle.nagsched_protocol.specs.Input.{first_line_of, lines_of}
use Rattle.nagsched_protocol.specs.LiveError.{IsSpent, drive_error_of}
use Rattle.nagsched_protocol.specs.LiveInput.{IsBoundedReading, rest_after_line, has_feed}
use Rattle.nagsched_protocol.specs.Script.{Beginning, beginning_of, beginning_over, with_saved_refusal}
use Rattle.nagsched_protocol.specs.LiveText.{line_answer, answers_from, answers_over, live_text, line_meaning, state_after_line}
use Rattle.nagsched_protocol.specs.Output.{AreWholeLines, WroteFront}
use Rattle.nagsched_protocol.specs.declared.outcome.Outcome.{Outcome}
use Rattle.nagsched_protocol.specs.Streams.{IsInput, outcome_by}
use Rattle.nagsched_protocol.specs.Streams.{Streams}

-- ---- a whole conversation

-- the writer took whole lines from the beginning of the text, and no more
pub record WroteLines (old new : Option (List ℕ)) (text : List ℕ) : Type 0 where
  pub front : List ℕ
  pub rest : List ℕ
  pub parts : text ≡ front ++ rest
  pub appended : Appends old new front
  pub whole : AreWholeLines front

-- The part of a text that an error leaves: a prefix of it was written, and whole lines of it when out of memory.
abbrev pub LeavesText : DriveError → Option (List ℕ) → Option (List ℕ) → List ℕ → Type 0
LeavesText errors.Memory held holds text = WroteLines held holds text
LeavesText e held holds text = WroteFront held holds text

-- whether a conversation on the input answers its lines, or refuses its setup or its saved state
abbrev pub live_outcome : Start → List ℕ → Outcome
live_outcome how input = outcome_by (beginning_of how input)

-- The bytes that were read for this beginning: all of them or, if the beginning is refused, no more than show the refusal. `after` gives the part of
-- the bytes read that comes after the setup document.
abbrev pub ReadOver : (List ℕ → List ℕ) → Result Beginning InputRefusal → Option (List ℕ) → Option (List ℕ) → List ℕ → Type 0
ReadOver after (Ok b) had left bytes = Consumes had left bytes
ReadOver after (Err e) had left bytes = (bytes_read : List ℕ) × Consumes had left bytes_read × IsBoundedReading SAVED_PREFIX_BYTES (after bytes_read)

-- the same for an input with this setup
abbrev pub ReadBy : Start → Result Configuration LoadError → Option (List ℕ) → Option (List ℕ) → List ℕ → Type 0
ReadBy how (Ok c) had left input = ReadOver rest_after_line (beginning_over how c (rest_after_line input)) had left input
ReadBy how (Err e) had left input = (bytes_read : List ℕ) × Consumes had left bytes_read × IsBoundedReading SETUP_PREFIX_BYTES bytes_read

-- The bytes that were read: the input to its end or, if its setup or its saved state is refused, no more than show the refusal.
abbrev pub HasReadLive : Start → Option (List ℕ) → Option (List ℕ) → List ℕ → Type 0
HasReadLive how had left input = ReadBy how (setup_of (first_line_of input)) had left input

-- How a conversation ended, by the form of its answers and how its scheduler starts. Even if the reader and the writer aren't known, there is one input for which all this holds.
pub record ConversationEnded (form : AnswerForm) (how : Start) (ended : Result Outcome DriveError) (io : Streams) : Type 0 where
  pub input : List ℕ
  pub is_input : IsInput io.had input
  -- without an error it answered the lines or refused the input, wrote its text, and read as much as that needs
  pub outcome_is : IfOk ended (λ outcome. outcome ≡ live_outcome how input)
  pub written : OnOk ended (Appends io.held io.holds (live_text form how input))
  pub read : OnOk ended (HasReadLive how io.had io.left input)
  -- the part of the text that an error leaves
  pub fault : IfErr ended (λ e. LeavesText e io.held io.holds (live_text form how input))

-- ---- the lines of a conversation

-- The first line of these bytes was taken as a document, and at most `most` bytes of it are kept. The fields say whether lines may follow, which bytes
-- are in the buffer now, and why no more came.
pub record HasTakenDocument (most : ℕ) (bytes : List ℕ) (follow : Bool) (buffered : List ℕ) (left : Option (List ℕ)) : Type 0 where
  pub follows : follow ≡ has_feed bytes
  pub buffer_is : buffered ≡ rest_after_line bytes
  pub ended : follow ≡ false → IsAtEnd left ⊎ (most ≤ length bytes)

-- The next line was answered, from the bytes in the buffer and the bytes that were given. The fields say whether lines may follow, which bytes are in
-- the buffer now, the scheduler's state, and the output.
pub record HasAnsweredLine (form : AnswerForm) (s : State) (number : ℕ) (bytes : List ℕ) (more : Bool) (left : Option (List ℕ)) (after : State)
    (buffered : List ℕ)
    (held holds : Option (List ℕ)) : Type 0 where
  pub follows : more ≡ has_feed bytes
  pub ended : more ≡ false → IsAtEnd left
  pub buffer_is : buffered ≡ rest_after_line bytes
  pub state_is : after ≡ state_after_line s (line_meaning form s.setup number (first_line_of bytes))
  pub wrote : Appends held holds (line_answer form s number (first_line_of bytes) (line_meaning form s.setup number (first_line_of bytes)))

-- The next line couldn't be taken or answered. Some bytes come, and a prefix of the answers to the lines of all bytes was written.
abbrev pub LineFailed : AnswerForm → State → ℕ → List ℕ → Option (List ℕ) → Option (List ℕ) → Option (List ℕ) → DriveError → Type 0
LineFailed form s number buffered had held holds e =
    (coming : List ℕ) × IsInput had coming × LeavesText e held holds (answers_from form s number (lines_of (buffered ++ coming)))

-- This many lines were answered, from the line with the number `begins` on, and each from its beginning to its line feed. They are the beginning of the
-- bytes in the buffer and the bytes that were given.
pub record HasAnsweredLines (form : AnswerForm) (count begins : ℕ) (first : State) (buffered : List ℕ) (io : Streams) : Type 0 where
  pub bytes_read : List ℕ
  pub front : List ℕ
  pub rest : List ℕ
  pub consumed : Consumes io.had io.left bytes_read
  pub parts : buffered ++ bytes_read ≡ front ++ rest
  pub lines : length (lines_of front) ≡ count
  pub whole : AreWholeLines front
  pub answered : Appends io.held io.holds (answers_from form first begins (lines_of front))

-- at least this many bytes were given
abbrev pub HasReadAtLeast : ℕ → Option (List ℕ) → Option (List ℕ) → Type 0
HasReadAtLeast count had left = (bytes_read : List ℕ) × Consumes had left bytes_read × (count ≤ length bytes_read)

-- The work after which a loop is spent. A loop over lines has answered as many lines as can have numbers, from the first line's number on. A loop over
-- reads was given at least 2^64 - 1 bytes.
abbrev pub IsSpentAfterLines : AnswerForm → ℕ → State → List ℕ → Streams → LiveError → Type 0
IsSpentAfterLines form begins first buffered io live.LinesSpent = HasAnsweredLines form (2 ^ 64 - 1 - begins) begins first buffered io
IsSpentAfterLines form begins first buffered io live.ReadsSpent = HasReadAtLeast (2 ^ 64 - 1) io.had io.left
IsSpentAfterLines form begins first buffered io e = ⊤

-- a loop of a conversation is spent only after at least 2^64 - 3 bytes
abbrev pub IsSpentAfterInput : Option (List ℕ) → Option (List ℕ) → LiveError → Type 0
IsSpentAfterInput had left e = IsSpent e → HasReadAtLeast (2 ^ 64 - 3) had left

-- How the answering of lines ended, from the line with the number `begins` on, with these bytes in the buffer. Some bytes came. The answers to the
-- lines of all bytes together were written, or after an error a prefix of these answers.
abbrev pub AnsweringEnded : {T : Type 0} → AnswerForm → ℕ → State → List ℕ → Streams → Result T LiveError → Type 0
AnsweringEnded form begins first buffered io ended =
    (coming : List ℕ) × IsInput io.had coming × OnOk ended (Consumes io.had io.left coming)
    × OnOk ended (Appends io.held io.holds (answers_from form first begins (lines_of (buffered ++ coming))))
    × IfErr ended (λ e. LeavesText (drive_error_of e) io.held io.holds (answers_from form first begins (lines_of (buffered ++ coming))))

-- ---- what comes after the setup document

-- the saved state that these bytes begin with, or its refusal
abbrev pub saved_at_start : List ℕ → Result Saved InputRefusal
saved_at_start bytes = with_saved_refusal (saved_of_text (first_line_of bytes))

-- How a conversation ended after a setup, with these bytes in the buffer. Some bytes came, and none if nothing may follow. For all bytes together it
-- answered the lines or refused the saved state, and wrote its text. After an error it wrote a prefix of this text.
pub record IsContinuation (form : AnswerForm) (how : Start) (c : Configuration) (may_follow : Bool) (buffered : List ℕ)
    (ended : Result Outcome LiveError) (io : Streams) : Type 0 where
  pub coming : List ℕ
  pub is_input : IsInput io.had coming
  pub short : may_follow ≡ false → coming ≡ []
  pub outcome_is : IfOk ended (λ outcome. outcome ≡ outcome_by (beginning_over how c (buffered ++ coming)))
  pub written : OnOk ended (Appends io.held io.holds (answers_over form (beginning_over how c (buffered ++ coming))))
  pub read : OnOk ended (ReadOver (λ bytes_read. buffered ++ bytes_read) (beginning_over how c (buffered ++ coming)) io.had io.left coming)
  pub fault : IfErr ended (λ e. LeavesText (drive_error_of e) io.held io.holds (answers_over form (beginning_over how c (buffered ++ coming))))

-- at least this many bytes were in the buffer or were given
abbrev pub HasHadAtLeast : ℕ → List ℕ → Option (List ℕ) → Option (List ℕ) → Type 0
HasHadAtLeast count buffered had left = (bytes_read : List ℕ) × Consumes had left bytes_read × (count ≤ length buffered + length bytes_read)

-- a loop after a setup is spent only if at least 2^64 - 3 bytes followed the setup
abbrev pub IsSpentAfterSetup : List ℕ → Option (List ℕ) → Option (List ℕ) → LiveError → Type 0
IsSpentAfterSetup buffered had left e = IsSpent e → HasHadAtLeast (2 ^ 64 - 3) buffered had left
