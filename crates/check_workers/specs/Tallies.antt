-- Tallies: counts of entries, by call and reply.
use Rattle.std.specs.Prelude.{◌≡◌, ℕ, ◌+◌, ◌<◌, ◌^◌, ◌&&◌, Bool, true, false, List, length, count_by}
use Rattle.ticket_steps.specs.declared.books.Entry.{Entry}
use Rattle.check_sched.specs.declared.call.Call.{Call}
use Rattle.check_sched.specs.declared.call.Call.TheVariants as call
use Rattle.check_sched.specs.declared.call.Reply.{Reply}
use Rattle.check_sched.specs.declared.call.Reply.TheVariants as reply
use Rattle.check_sched.specs.declared.call.Refusal.TheVariants as refusal
use Rattle.check_workers.specs.declared.tally.Stop.{Stop}
use Rattle.check_workers.specs.declared.tally.Stop.TheVariants as stop
use Rattle.check_workers.specs.declared.tally.Tally.{Tally}

abbrev pub is_take : Call → Bool
is_take (call.Take now) = true
is_take other = false

abbrev pub is_report : Call → Bool
is_report (call.Report object run code) = true
is_report other = false

abbrev pub is_taken : Reply → Bool
is_taken (reply.Taken object run) = true
is_taken other = false

abbrev pub is_put_off : Reply → Bool
is_put_off (reply.PutOff object until) = true
is_put_off other = false

abbrev pub is_idle : Reply → Bool
is_idle (reply.Idle next) = true
is_idle other = false

abbrev pub is_at_limit : Reply → Bool
is_at_limit reply.AtLimit = true
is_at_limit other = false

abbrev pub is_refused : Reply → Bool
is_refused (reply.Refused why) = true
is_refused other = false

abbrev pub is_standing : Reply → Bool
is_standing (reply.Standing standing changed next) = true
is_standing other = false

-- the object was not running any more, or under another run
abbrev pub is_late : Reply → Bool
is_late (reply.Refused refusal.NotRunning) = true
is_late (reply.Refused refusal.WrongRun) = true
is_late other = false

abbrev pub is_no_memory : Stop → Bool
is_no_memory stop.NoMemory = true
is_no_memory stop.Spent = false

-- the number of entries that are takes with such a reply, and of entries that are reports with such a reply
abbrev pub takes_with : (Reply → Bool) → List (Entry Call Reply) → ℕ
takes_with p es = count_by (λ e. is_take e.call && p e.reply) es

abbrev pub reports_with : (Reply → Bool) → List (Entry Call Reply) → ℕ
reports_with p es = count_by (λ e. is_report e.call && p e.reply) es

-- the tally of these entries, and of workers that stopped early for these reasons
abbrev pub tally_of : List (Entry Call Reply) → List Stop → Tally
tally_of es stops = record {
  takes = takes_with (λ r. true) es;
  taken = takes_with is_taken es;
  put_off = takes_with is_put_off es;
  idle = takes_with is_idle es;
  at_limit = takes_with is_at_limit es;
  refused = takes_with is_refused es;
  reports = reports_with (λ r. true) es;
  reported = reports_with is_standing es;
  late = reports_with is_late es;
  unanswered = count_by is_no_memory stops;
  stops = length stops;
}

-- each take and each report is counted under its reply
abbrev pub IsSum : Tally → Type 0
IsSum t = (t.takes ≡ t.taken + t.put_off + t.idle + t.at_limit + t.refused) × (t.reports ≡ t.reported + t.late)

-- both tallies, added up
abbrev pub plus : Tally → Tally → Tally
plus t u = record {
  takes = t.takes + u.takes;
  taken = t.taken + u.taken;
  put_off = t.put_off + u.put_off;
  idle = t.idle + u.idle;
  at_limit = t.at_limit + u.at_limit;
  refused = t.refused + u.refused;
  reports = t.reports + u.reports;
  reported = t.reported + u.reported;
  late = t.late + u.late;
  unanswered = t.unanswered + u.unanswered;
  stops = t.stops + u.stops;
}

-- each count is below 2^42, so that two tallies can be added
pub record IsBounded (t : Tally) : Type 0 where
  pub takes : t.takes < 2 ^ 42
  pub taken : t.taken < 2 ^ 42
  pub put_off : t.put_off < 2 ^ 42
  pub idle : t.idle < 2 ^ 42
  pub at_limit : t.at_limit < 2 ^ 42
  pub refused : t.refused < 2 ^ 42
  pub reports : t.reports < 2 ^ 42
  pub reported : t.reported < 2 ^ 42
  pub late : t.late < 2 ^ 42
  pub unanswered : t.unanswered < 2 ^ 42
  pub stops : t.stops < 2 ^ 42
