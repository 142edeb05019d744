-- The sentence that explains why a call was refused. It names the object of the call, and the time or the run that the call gave.
use Rattle.std.specs.Prelude.{ℕ, ⊤, List, [], ◌∷◌, ◌++◌, Option, Some, None, codes, decimal}
use Rattle.check_objects.specs.Configuration.{Configuration}
use Rattle.check_sched.specs.declared.call.Call.{Call}
use Rattle.check_sched.specs.declared.call.Call.TheVariants as call
use Rattle.check_sched.specs.declared.call.Reply.{Reply}
use Rattle.check_sched.specs.declared.call.Reply.TheVariants as reply
use Rattle.check_sched.specs.declared.call.Refusal.{Refusal}
use Rattle.check_sched.specs.declared.call.Refusal.TheVariants as refused
use Rattle.setup_diagnostics.specs.Excerpts.{quotation}
use Rattle.nagsched_protocol.specs.Text.{Answer, Field, answer_of, asked_name, line_of, reply_line, text_field}

-- the time that a call gives, or 0 if it gives none
abbrev pub given_time : Call → ℕ
given_time (call.Take now) = now
given_time (call.Report object run code) = 0
given_time (call.Abandon object run now) = now
given_time (call.Reschedule object time forced) = time
given_time (call.Enable object on) = 0
given_time (call.Status object) = 0

-- the number of the run that a call gives, or 0 if it gives none
abbrev pub given_run : Call → ℕ
given_run (call.Take now) = 0
given_run (call.Report object run code) = run
given_run (call.Abandon object run now) = run
given_run (call.Reschedule object time forced) = 0
given_run (call.Enable object on) = 0
given_run (call.Status object) = 0

abbrev pub time_fault : ℕ → List ℕ
time_fault time = codes "the time is " ++ (decimal time ++ codes "; it has to be a whole number of milliseconds from 0 to 2^60")

-- the object with this name has no run with this number
abbrev pub run_fault : List ℕ → List ℕ → ℕ → List ℕ
run_fault name words run = quotation name ++ (words ++ (codes "; its run " ++ (decimal run ++ codes " has ended, or never began; nothing is left to do")))

abbrev pub call_fault : Configuration → Call → Refusal → List ℕ
call_fault c asked refused.UnknownObject = codes "the setup has no object with this number"
call_fault c asked refused.TimeRange = time_fault (given_time asked)
call_fault c asked refused.NotRunning = run_fault (asked_name c asked) (codes " isn't being checked") (given_run asked)
call_fault c asked refused.WrongRun = run_fault (asked_name c asked) (codes " is being checked under another number") (given_run asked)
call_fault c asked refused.RunsSpent = codes "all 2^60 numbers of runs were handed out; start another scheduler"

-- the sentence about the call in the line with the number n
abbrev pub call_sentence : ℕ → Configuration → Call → Refusal → List ℕ
call_sentence n c asked why = codes "line " ++ (decimal n ++ (codes ": " ++ call_fault c asked why))

-- the sentence about the reply to the call in that line: there is one only if the call was refused
abbrev pub reply_sentence : ℕ → Configuration → Call → Reply → Option (List ℕ)
reply_sentence n c asked (reply.Refused why) = Some (call_sentence n c asked why)
reply_sentence n c asked other = None

-- the reply is a refusal
abbrev pub IsRefused : Reply → Type 0
IsRefused (reply.Refused why) = ⊤
IsRefused other = ⊥

-- a sentence as a line of its own
abbrev pub explained_line : List ℕ → List ℕ
explained_line text = line_of (codes "explained " ++ text)

-- a sentence as a line, and nothing without a sentence
abbrev pub sentence_lines : Option (List ℕ) → List ℕ
sentence_lines None = []
sentence_lines (Some text) = explained_line text

-- a sentence as a field, and none without a sentence
abbrev pub sentence_fields : Option (List ℕ) → List Field
sentence_fields None = []
sentence_fields (Some text) = text_field (codes "explanation") text ∷ []

-- the line of the reply to the call in that line, and the sentence about it
abbrev pub explained_reply : ℕ → Configuration → Call → Reply → List ℕ
explained_reply n c asked r = reply_line c asked r ++ sentence_lines (reply_sentence n c asked r)

-- the answer to the call in that line, with the sentence about it
abbrev pub explained_answer : ℕ → Configuration → Call → Reply → Answer
explained_answer n c asked r =
    record { kind = (answer_of c asked r).kind; fields = (answer_of c asked r).fields ++ sentence_fields (reply_sentence n c asked r) }
