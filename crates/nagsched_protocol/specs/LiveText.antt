-- The text that a conversation writes: a function of the form of its answers, of how its scheduler starts, and of the input. In words it is a run's text.
use Rattle.std.specs.Prelude.{ℕ, ◌≡◌, ◌+◌, ⊤, true, List, [], ◌∷◌, ◌++◌, Option, Some, None, Result, Ok, Err, option_map}
use Rattle.check_objects.specs.Configuration.{Configuration}
use Rattle.check_objects.specs.Setup.{setup_of}
use Rattle.check_saved_state.specs.Saved.{Saved}
use Rattle.check_saved_state.specs.Text.{saved_of_text}
use Rattle.check_sched.specs.State.{State}
use Rattle.nagsched_protocol.specs.declared.answer_form.AnswerForm.{AnswerForm}
use Rattle.nagsched_protocol.specs.declared.answer_form.AnswerForm.TheVariants as forms
use Rattle.nagsched_protocol.specs.declared.command.RunCommand.{RunCommand}
use Rattle.nagsched_protocol.specs.declared.refusal.InputRefusal.{InputRefusal}
use Rattle.nagsched_protocol.specs.declared.start.Start.{Start}
use Rattle.nagsched_protocol.specs.declared.start.Start.TheVariants as start
use Rattle.nagsched_protocol.specs.Command.{command_by}
use Rattle.nagsched_protocol.specs.Input.{first_line_of, lines_of}
use Rattle.nagsched_protocol.specs.LiveInput.{rest_after_line, has_feed, line_meaning_by}
use Rattle.nagsched_protocol.specs.Request.{Request, request_by, without_id}
use Rattle.setup_model.specs.Agreement.{◌>>=◌}
use Rattle.nagsched_protocol.specs.Script.{Beginning, beginning_of}
use Rattle.nagsched_protocol.specs.Forms.{answer_text, refusal_text}
use Rattle.nagsched_protocol.specs.Text.{state_after_command}

-- the answer to this line with number n, in this form: nothing to a blank one, the answer to a request, or the refusal
abbrev pub line_answer : AnswerForm → State → ℕ → List ℕ → Result (Option Request) InputRefusal → List ℕ
line_answer form s n line (Ok None) = []
line_answer form s n line (Ok (Some request)) = answer_text form n s request
line_answer form s n line (Err why) = refusal_text form line why

-- the state after that line: only calls change it
abbrev pub state_after_line : State → Result (Option Request) InputRefusal → State
state_after_line s (Ok None) = s
state_after_line s (Ok (Some request)) = state_after_command s request.command
state_after_line s (Err why) = s

-- a command as a request without an id
abbrev pub plain : Result (Option RunCommand) InputRefusal → Result (Option Request) InputRefusal
plain r = r >>= λ command. Ok (option_map without_id command)

-- The meaning of the line with number n over this setup. In JSON a request may have an id.
abbrev pub line_meaning : AnswerForm → Configuration → ℕ → List ℕ → Result (Option Request) InputRefusal
line_meaning forms.Words c n line = plain (line_meaning_by (command_by c) n line)
line_meaning forms.Explained c n line = plain (line_meaning_by (command_by c) n line)
line_meaning forms.Json c n line = line_meaning_by (request_by c) n line

-- the answers to these lines, one after another, from this state on; the first line has the number n
abbrev pub answers_from : AnswerForm → State → ℕ → List (List ℕ) → List ℕ
answers_from form s n [] = []
answers_from form s n (line ∷ lines) =
    line_answer form s n line (line_meaning form s.setup n line) ++ answers_from form (state_after_line s (line_meaning form s.setup n line)) (n + 1) lines

-- the answers to the lines of a beginning, or its refusal
abbrev pub answers_over : AnswerForm → Result Beginning InputRefusal → List ℕ
answers_over form (Ok b) = answers_from form b.state b.number (lines_of b.rest)
answers_over form (Err why) = refusal_text form [] why

-- The text that a conversation writes on the input. If its setup or its saved state is refused, it is this refusal. Otherwise it is, for each later
-- line in order, nothing, its refusal or its answer.
unfoldable pub live_text : AnswerForm → Start → List ℕ → List ℕ
live_text form how input = answers_over form (beginning_of how input)

-- ---- conditions of the laws

-- the bytes after the setup document contain what a scheduler starts with: the whole line of a saved state, if it starts from one
abbrev pub HasStart : Start → List ℕ → Type 0
HasStart (start.Fresh moment) bytes = ⊤
HasStart (start.Resumed moment) bytes = has_feed bytes ≡ true

-- an input that begins with this setup and this saved state
pub record BeginsWith (input : List ℕ) (setup : Configuration) (saved : Saved) : Type 0 where
  pub document : setup_of (first_line_of input) ≡ Ok setup
  pub text : saved_of_text (first_line_of (rest_after_line input)) ≡ Ok saved
