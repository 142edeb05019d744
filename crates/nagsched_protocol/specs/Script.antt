-- The script that an input is: a scheduler's first state and the commands for it, or the first refusal.
use Rattle.std.specs.Prelude.{ℕ, zero, suc, List, [], ◌∷◌, Option, filter, length, map, not, unwrap_or, Result, Ok, Err, nat_lt, if◌then◌else◌}
use Rattle.std.specs.List.{enumerate_from}
use Rattle.serde_json.specs.Data.{Items}
use Rattle.check_objects.specs.Configuration.{Configuration}
use Rattle.check_objects.specs.Setup.{setup_of}
use Rattle.setup_model.specs.declared.error.LoadError.{LoadError}
use Rattle.setup_model.specs.Agreement.{◌>>=◌}
use Rattle.check_saved_state.specs.Saved.{Saved}
use Rattle.check_saved_state.specs.Text.{saved_of_text}
use Rattle.check_saved_state.specs.declared.fault.SavedFault.{SavedFault}
use Rattle.check_sched.specs.Saved.{state_after_resume}
use Rattle.check_sched.specs.State.{State, opening}
use Rattle.nagsched_protocol.specs.declared.command.RunCommand.{RunCommand}
use Rattle.nagsched_protocol.specs.declared.script.TheConstants.{MAX_INPUT_BYTES}
use Rattle.nagsched_protocol.specs.declared.refusal.LineFault.{LineFault}
use Rattle.nagsched_protocol.specs.declared.refusal.LineFault.TheVariants as fault
use Rattle.nagsched_protocol.specs.declared.refusal.InputRefusal.{InputRefusal}
use Rattle.nagsched_protocol.specs.declared.refusal.InputRefusal.TheVariants as refusal
use Rattle.nagsched_protocol.specs.declared.start.Start.{Start}
use Rattle.nagsched_protocol.specs.declared.start.Start.TheVariants as start
use Rattle.nagsched_protocol.specs.Command.{command_by}
use Rattle.nagsched_protocol.specs.Input.{first_line_of, lines_of}
use Rattle.nagsched_protocol.specs.Line.{is_blank, command_of}
use Rattle.nagsched_protocol.specs.LiveInput.{rest_after_line}
use Rattle.nagsched_protocol.specs.Request.{request_by}

-- ---- commands

-- the lines that aren't blank, each with its number; the first of all lines has the number n
abbrev pub numbered_from : ℕ → List (List ℕ) → List (ℕ × List ℕ)
numbered_from n lines = filter (λ p. not (is_blank p.1)) (enumerate_from n lines)

-- the values of all, or the first error among them
abbrev pub all_or_first : {A E : Type 0} → List (Result A E) → Result (List A) E
all_or_first [] = Ok []
all_or_first (r ∷ rs) = r >>= λ x. (all_or_first rs >>= λ xs. Ok (x ∷ xs))

-- The commands of the lines that aren't blank, or the first fault among them. The first of all lines has the number n. The vocabulary gives words their
-- meaning.
abbrev pub commands_of_lines : {K : Type 0} → ℕ → (List ℕ → Items → Result K LineFault) → List (List ℕ) → Result (List K) InputRefusal
commands_of_lines n meaning lines = all_or_first (map (λ p. command_of meaning p.0 p.1) (numbered_from n lines))

-- ---- what a scheduler starts with

-- a refusal of the setup document as a refusal of the input
abbrev pub with_setup_refusal : Result Configuration LoadError → Result Configuration InputRefusal
with_setup_refusal (Ok c) = Ok c
with_setup_refusal (Err e) = Err (refusal.Setup e)

-- a refusal of the saved state as a refusal of the input
abbrev pub with_saved_refusal : Result Saved SavedFault → Result Saved InputRefusal
with_saved_refusal (Ok saved) = Ok saved
with_saved_refusal (Err e) = Err (refusal.Saved e)

-- the state of a scheduler that continues over a setup from a saved state, at this moment or at the saved start
abbrev pub state_after_resume_at : Configuration → Saved → Option ℕ → State
state_after_resume_at c saved start = state_after_resume c saved (unwrap_or start saved.start)

-- a scheduler's first state, the number of the first line that is for it, and the bytes of the lines from that one on
pub record Beginning : Type 0 where
  pub state : State
  pub number : ℕ
  pub rest : List ℕ

-- The beginning over a setup, by the bytes after the setup document. All their lines are for a fresh scheduler. For a scheduler that continues, the
-- first line is the saved state, of any length.
abbrev pub beginning_over : Start → Configuration → List ℕ → Result Beginning InputRefusal
beginning_over (start.Fresh moment) c bytes = Ok (record { state = opening c moment; number = 2; rest = bytes })
beginning_over (start.Resumed moment) c bytes = with_saved_refusal (saved_of_text (first_line_of bytes)) >>= λ saved.
    Ok (record { state = state_after_resume_at c saved moment; number = 3; rest = rest_after_line bytes })

-- The beginning of an input. Line 1 is the setup document, of any length. The setup is tested before the saved state. A missing line counts as an empty
-- one.
abbrev pub beginning_of : Start → List ℕ → Result Beginning InputRefusal
beginning_of how input = with_setup_refusal (setup_of (first_line_of input)) >>= λ c. beginning_over how c (rest_after_line input)

-- ---- the script

-- a scheduler's first state, and the commands for it in their order
pub record Script : Type 0 where
  pub state : State
  pub commands : List RunCommand

-- the script of a beginning: every line from its number on is a command
abbrev pub script_from : Beginning → Result Script InputRefusal
script_from b = commands_of_lines b.number (command_by b.state.setup) (lines_of b.rest) >>= λ all. Ok (record { state = b.state; commands = all })

-- the script over a setup, by the bytes after the setup document
abbrev pub script_over : Start → Configuration → List ℕ → Result Script InputRefusal
script_over how c bytes = beginning_over how c bytes >>= script_from

-- the meaning of an input; its length is tested first
abbrev pub if_within_limit : {A : Type 0} → List ℕ → Result A InputRefusal → Result A InputRefusal
if_within_limit input says = if nat_lt MAX_INPUT_BYTES (length input) then Err (refusal.Line fault.TooLong 0) else says

-- the script of an input of `run`, by how the scheduler starts
unfoldable pub script_of : Start → List ℕ → Result Script InputRefusal
script_of how input = if_within_limit input (beginning_of how input >>= script_from)

-- ---- requests

-- Whether each line is blank or a request over this setup; otherwise the first refusal. The first line has the number n.
abbrev pub requests_in : ℕ → Configuration → List ℕ → Result (Unit {0}) InputRefusal
requests_in n c bytes = commands_of_lines n (request_by c) (lines_of bytes) >>= λ all. Ok tt

abbrev pub requests_over : Start → Configuration → List ℕ → Result (Unit {0}) InputRefusal
requests_over (start.Fresh moment) c bytes = requests_in 2 c bytes
requests_over (start.Resumed moment) c bytes =
    with_saved_refusal (saved_of_text (first_line_of bytes)) >>= λ saved. requests_in 3 c (rest_after_line bytes)

-- whether every line of an input is what it has to be, where requests may have an id; otherwise the first refusal
unfoldable pub requests_of : Start → List ℕ → Result (Unit {0}) InputRefusal
requests_of how input = if_within_limit input (with_setup_refusal (setup_of (first_line_of input)) >>= λ c. requests_over how c (rest_after_line input))

-- ---- the refused line

-- the line with this number, counted from 1, or nothing
abbrev pub line_at : ℕ → List (List ℕ) → List ℕ
line_at n [] = []
line_at zero (line ∷ lines) = []
line_at (suc zero) (line ∷ lines) = line
line_at (suc (suc n)) (line ∷ lines) = line_at (suc n) lines

-- the bytes of the line that is refused
abbrev pub refused_bytes : List ℕ → InputRefusal → List ℕ
refused_bytes input (refusal.Line f n) = line_at n (lines_of input)
refused_bytes input why = []
