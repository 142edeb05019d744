-- The note of a job, and a refused input.
use Rattle.std.proofs.Common.{◌≡◌, ℕ, ◌<◌, List, [], ◌∷◌, length, Option, None, Result, Ok, Err, refl, sym, ap, ◌∙◌, append-nil, inl, String}
use Rattle.std.specs.Prelude.{IfOk, IfSome, IsErrAnd, OnOk, string_bytes}
use Rattle.std.specs.declared.alloc.Global.{Global}
use Rattle.setup_model.specs.Agreement.{IsExpectedError}
use Rattle.nagsched_protocol.specs.declared.drive_error.DriveError.{DriveError}
use Rattle.nagsched_protocol.specs.declared.drive_error.DriveError.TheVariants as errors
use Rattle.nagsched_protocol.specs.declared.outcome.Outcome.{Outcome}
use Rattle.nagsched_protocol.specs.declared.outcome.Outcome.TheVariants as outcomes
use Rattle.nagsched_protocol.specs.declared.refusal.InputRefusal.{InputRefusal}
use Rattle.nagsched_protocol.specs.declared.refusal.InputRefusal.TheVariants as refusals
use Rattle.nagsched_protocol.specs.declared.refusal.LineFault.TheVariants as line_fault
use Rattle.nagsched_protocol.specs.declared.refusal.ScriptError.{ScriptError}
use Rattle.nagsched_protocol.specs.declared.refusal.ScriptError.TheVariants as script_errors
use Rattle.nagsched_protocol.specs.declared.script.TheConstants.{MAX_INPUT_BYTES}
use Rattle.nagsched_protocol.specs.Agreement.{refusal}
use Rattle.nagsched_protocol.specs.Explanation.{sentence}
use Rattle.nagsched_protocol.specs.Input.{lines_of}
use Rattle.nagsched_protocol.specs.Notes.{IsNote, note_of}
use Rattle.nagsched_protocol.specs.Script.{line_at, refused_bytes}
use Rattle.nagsched_protocol.specs.Streams.{outcome_by}
use Rattle.nagsched_protocol.specs.Written.{IsLineWritten, IsTextWritten}
use Rattle.nagsched_protocol.proofs.ReadLemmas.{IsOfRead, read_part_agrees}
use Rattle.nagsched_protocol.proofs.WrittenLemmas.{Keeps-same, text_line}

-- ---- what is read of an input notes all

pub no_line : (lines : List (List ℕ)) → line_at 0 lines ≡ []
no_line [] = refl
no_line (line ∷ lines) = refl

-- the note of an input is that of as much of it as is read, if every input that is too long is refused for that
pub note_of_read : {A : Type 0} (says : List ℕ → Result A InputRefusal)
    → ((bytes : List ℕ) → MAX_INPUT_BYTES < length bytes → says bytes ≡ Err (refusals.Line line_fault.TooLong 0)) → IsOfRead (λ input. note_of input (says input))
note_of_read says long = read_part_agrees (λ input. note_of input (says input)) (sentence [] (refusals.Line line_fault.TooLong 0)) (λ bytes h.
    ap (note_of bytes) (long bytes h) ∙ ap (λ line. sentence line (refusals.Line line_fault.TooLong 0)) (no_line (lines_of bytes)))

-- ---- a refused input

pub line_text : {T : Type 0} (r : Result T DriveError) (old new : Option (List ℕ)) (line : List ℕ) → IsLineWritten r old new line → IsTextWritten r old new line
line_text (Ok x) old new line h = h
line_text (Err e) old new line h = text_line e old new line h

pub memory_text : {T : Type 0} (r : Result T DriveError) (old new : Option (List ℕ)) (text : List ℕ) → IsErrAnd r (λ e. e ≡ errors.Memory) × (new ≡ old)
    → IsTextWritten r old new text
memory_text (Ok x) old new text h = absurd h.0
memory_text (Err e) old new text h = rw (h.0, h.1) (inl (Keeps-same old))

memory_ended : {T : Type 0} (P : Type 0) (r : Result T DriveError) → IsErrAnd r (λ e. e ≡ errors.Memory) → OnOk r P
memory_ended P (Ok x) h = absurd h
memory_ended P (Err e) h = tt

pub refused_noted : {T A : Type 0} {h : Option (List ℕ)} (error : ScriptError) (input : List ℕ) (script : Result A InputRefusal) (r : Result T DriveError)
    (new : Option (List ℕ)) (before after : String Global) → IsExpectedError (refusal error) script
    → IfSome (refusal error) (λ why. OnOk r (IsNote before after (sentence (refused_bytes input why) why)))
    → (refusal error ≡ None → IsErrAnd r (λ e. e ≡ errors.Memory) × (new ≡ h)) → OnOk r (IsNote before after (note_of input script))
refused_noted script_errors.Memory input script r new before after is noted memory = memory_ended (IsNote before after (note_of input script)) r (memory refl).0
refused_noted (script_errors.Refused why) input script r new before after is noted memory = rw is noted

memory_outcome : (r : Result Outcome DriveError) (o : Outcome) → IsErrAnd r (λ e. e ≡ errors.Memory) → IfOk r (λ x. x ≡ o)
memory_outcome (Ok x) o h = absurd h
memory_outcome (Err e) o h = tt

pub refused_outcome : {A : Type 0} {h : Option (List ℕ)} (error : ScriptError) (script : Result A InputRefusal) (r : Result Outcome DriveError) (new : Option (List ℕ))
    → IsExpectedError (refusal error) script → IfOk r (λ o. o ≡ outcomes.Refused)
    → (refusal error ≡ None → IsErrAnd r (λ e. e ≡ errors.Memory) × (new ≡ h)) → IfOk r (λ o. o ≡ outcome_by script)
refused_outcome script_errors.Memory script r new is refused memory = memory_outcome r (outcome_by script) (memory refl).0
refused_outcome (script_errors.Refused why) script r new is refused memory = rw is refused

pub nothing_noted : {T A : Type 0} (r : Result T DriveError) (input : List ℕ) (note : String Global) (script : Result A InputRefusal) (x : A) → script ≡ Ok x
    → OnOk r (IsNote note note (note_of input script))
nothing_noted (Ok y) input note script x is = rw is (sym (append-nil (string_bytes note)))
nothing_noted (Err e) input note script x is = tt
