-- The objects that are being checked, and their runs, by a history.
use Rattle.std.specs.Prelude.{ℕ, ◌==◌, ◌&&◌, ◌||◌, Bool, true, false, not, List, [], ◌∷◌, count_by}
use Rattle.std.specs.List.{list_any}
use Rattle.ticket_steps.specs.declared.books.Entry.{Entry}
use Rattle.check_sched.specs.declared.call.Call.{Call}
use Rattle.check_sched.specs.declared.call.Call.TheVariants as call
use Rattle.check_sched.specs.declared.call.Reply.{Reply}
use Rattle.check_sched.specs.declared.call.Reply.TheVariants as reply

-- whether the reply begins this run of the object
abbrev pub begins_by : ℕ → ℕ → Reply → Bool
begins_by object run (reply.Taken o r) = o == object && (r == run)
begins_by object run other = false

-- whether the answer ends this run of the object: its result was recorded, or it was abandoned
abbrev pub ends_by : ℕ → ℕ → Call → Reply → Bool
ends_by object run (call.Report o r code) (reply.Standing standing changed next) = o == object && (r == run)
ends_by object run (call.Abandon o r now) (reply.Freed next) = o == object && (r == run)
ends_by object run c r = false

-- whether the reply begins some run
abbrev pub takes_by : Reply → Bool
takes_by (reply.Taken o r) = true
takes_by other = false

abbrev pub begins : ℕ → ℕ → Entry Call Reply → Bool
begins object run e = begins_by object run e.reply

abbrev pub ends : ℕ → ℕ → Entry Call Reply → Bool
ends object run e = ends_by object run e.call e.reply

-- The history shows the object being checked under this run: some entry begins the run, and no later one ends it.
abbrev pub runs_under : ℕ → ℕ → List (Entry Call Reply) → Bool
runs_under object run [] = false
runs_under object run (e ∷ es) = (begins object run e && not (list_any (ends object run) es)) || runs_under object run es

-- the number of runs that were begun
abbrev pub runs_begun : List (Entry Call Reply) → ℕ
runs_begun history = count_by (λ e. takes_by e.reply) history
