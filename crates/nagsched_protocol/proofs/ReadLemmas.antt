-- The input of a job, whatever is known of its reader, and what is said of as much of it as is read.
use Rattle.std.proofs.Common.{◌≡◌, ℕ, ◌<◌, ◌≤◌, true, List, ◌++◌, length, take, Option, Some, None, Result, Ok, Err, refl, sym, ap, ◌∙◌}
use Rattle.std.proofs.Common.{arith, length-take, inl, inr, ◌⊎◌}
use Rattle.std.specs.Prelude.{nat_lt, ok_or, IfSome}
use Rattle.std.specs.Io.KnownBytes.{Consumes}
use Rattle.std.proofs.lemmas.Bool.{cases_lt}
use Rattle.std.proofs.lemmas.Bool.Decides.{nat_tests}
use Rattle.std.proofs.lemmas.List.{take_all}
use Rattle.setup_model.specs.Agreement.{IsExpectedError}
use Rattle.nagsched_protocol.specs.declared.drive_error.DriveError.{DriveError}
use Rattle.nagsched_protocol.specs.declared.drive_error.DriveError.TheVariants as errors
use Rattle.nagsched_protocol.specs.declared.input.TheConstants.{MAX_READ_BYTES}
use Rattle.nagsched_protocol.specs.declared.script.TheConstants.{MAX_INPUT_BYTES}
use Rattle.nagsched_protocol.specs.declared.refusal.InputRefusal.{InputRefusal}
use Rattle.nagsched_protocol.specs.declared.refusal.InputRefusal.TheVariants as refusals
use Rattle.nagsched_protocol.specs.declared.refusal.LineFault.TheVariants as line_fault
use Rattle.nagsched_protocol.specs.declared.refusal.ScriptError.{ScriptError}
use Rattle.nagsched_protocol.specs.declared.refusal.ScriptError.TheVariants as script
use Rattle.nagsched_protocol.specs.Agreement.{refusal}
use Rattle.nagsched_protocol.specs.DrillScript.{drill_script_of}
use Rattle.nagsched_protocol.specs.Script.{if_within_limit}
use Rattle.nagsched_protocol.specs.Streams.{HasRead, IsInput}

-- ---- one byte more than an input may have is enough to refuse it

-- A function with one value for all that is longer than `most` has the same value for a longer prefix as for the whole.
prefix_agrees_by : {A : Type 0} (says : List ℕ → A) (most kept : ℕ) (long : A) → most < kept
    → ((bytes : List ℕ) → most < length bytes → says bytes ≡ long)
    → (bytes : List ℕ) → (most < length bytes) ⊎ (length bytes ≤ most) → says (take kept bytes) ≡ says bytes
prefix_agrees_by says most kept long more same bytes (inl h) =
    let l = length-take kept bytes in same (take kept bytes) (omega (arith, more, h, l)) ∙ sym (same bytes h)
prefix_agrees_by says most kept long more same bytes (inr h) = ap says (take_all kept bytes (omega (arith, more, h)))

pub prefix_agrees : {A : Type 0} (says : List ℕ → A) (most kept : ℕ) (long : A) → most < kept
    → ((bytes : List ℕ) → most < length bytes → says bytes ≡ long)
    → (bytes : List ℕ) → says (take kept bytes) ≡ says bytes
prefix_agrees says most kept long more same bytes = prefix_agrees_by says most kept long more same bytes (cases_lt most (length bytes))

-- the function has the same value for an input as for the part of it that is read
abbrev pub IsOfRead : {A : Type 0} → (List ℕ → A) → Type 0
IsOfRead says = (bytes : List ℕ) → says (take MAX_READ_BYTES bytes) ≡ says bytes

pub read_part_agrees : {A : Type 0} (says : List ℕ → A) (long : A) → ((bytes : List ℕ) → MAX_INPUT_BYTES < length bytes → says bytes ≡ long) → IsOfRead says
read_part_agrees says long same = prefix_agrees says MAX_INPUT_BYTES MAX_READ_BYTES long (omega arith) same

pub is_too_long : (bytes : List ℕ) → MAX_INPUT_BYTES < length bytes → nat_lt MAX_INPUT_BYTES (length bytes) ≡ true
is_too_long bytes h = grind (arith, nat_tests, h)

-- an input that is too long
pub refused_past_limit : {A : Type 0} (says : List ℕ → Result A InputRefusal) (bytes : List ℕ) → MAX_INPUT_BYTES < length bytes
    → if_within_limit bytes (says bytes) ≡ Err (refusals.Line line_fault.TooLong 0)
refused_past_limit says bytes h = rw (is_too_long bytes h) refl

pub drill_script_take : IsOfRead drill_script_of
unfolding drill_script_of
drill_script_take = read_part_agrees drill_script_of (Err (refusals.Line line_fault.TooLong 0)) (refused_past_limit _)

-- ---- the input of a run, whatever is known of its reader

-- what the reader had where that is known, else what was read
abbrev pub input_of : Option (List ℕ) → List ℕ → List ℕ
input_of None read = read
input_of (Some bytes) read = bytes

pub input_of-is : (had : Option (List ℕ)) (read : List ℕ) → IsInput had (input_of had read)
input_of-is None read = tt
input_of-is (Some bytes) read = refl

-- what is cut off past the limit says nothing of the text, or of the outcome
pub input_of-says : {A : Type 0} (says : List ℕ → A) → IsOfRead says → (had : Option (List ℕ)) (read : List ℕ)
    → IfSome had (λ bytes. read ≡ take MAX_READ_BYTES bytes) → says read ≡ says (input_of had read)
input_of-says says cut None read all = refl
input_of-says says cut (Some bytes) read all = ap says all ∙ cut bytes

pub has_read : (left : Option (List ℕ)) (input bytes : List ℕ) → input ≡ take MAX_READ_BYTES bytes → Consumes (Some bytes) left input
    → HasRead (Some bytes) left bytes
has_read None input bytes e c = absurd c
has_read (Some rest) input bytes e c = c ∙ ap (λ l. l ++ rest) e

pub read_some : (had left : Option (List ℕ)) (input : List ℕ) → IfSome had (λ bytes. input ≡ take MAX_READ_BYTES bytes) → Consumes had left input
    → IfSome had (HasRead had left)
read_some None left input all c = tt
read_some (Some bytes) left input all c = has_read left input bytes all c

pub read_input : (had left : Option (List ℕ)) (input : List ℕ) → IfSome had (λ bytes. input ≡ take MAX_READ_BYTES bytes) → Consumes had left input
    → HasRead had left (input_of had input)
read_input None left input all c = tt
read_input (Some bytes) left input all c = has_read left input bytes all c

-- ---- errors

-- the error of a reading that met no refusal
pub no_refusal : (error : ScriptError) (e : DriveError) → Err e ≡ ok_or (refusal error) errors.Memory → e ≡ errors.Memory
no_refusal script.Memory e is = cc
no_refusal (script.Refused why) e is = cc

-- the refusal that the reading of an input met is the input's
pub met_refusal : {Y : Type 0} (error : ScriptError) (r : InputRefusal) (expected : Result Y InputRefusal)
    → Ok r ≡ ok_or (refusal error) errors.Memory → IsExpectedError (refusal error) expected → expected ≡ Err r
met_refusal script.Memory r expected e f = cc
met_refusal (script.Refused why) r expected e f = cc
