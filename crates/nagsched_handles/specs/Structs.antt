-- The structs that cross to C, and the values of the scheduler that they represent.
use Rattle.std.specs.Prelude.{◌≢◌, ◌<◌, ◌^◌, ⊤, ℕ, Bool, true, false, ◌==◌, cond, List, [], ◌∷◌, Option, Some, None, unwrap_or}
use Rattle.ticket_steps.specs.declared.books.Entry.{Entry}
use Rattle.setup_model.specs.declared.error.LoadError.{LoadError}
use Rattle.setup_model.specs.declared.error.LoadError.TheVariants as load
use Rattle.setup_model.specs.declared.place.Place.{Place}
use Rattle.setup_model.specs.declared.place.Part.{Part}
use Rattle.setup_model.specs.declared.place.Part.TheVariants as part
use Rattle.setup_model.specs.LoadError.{error_number, place_of}
use Rattle.setup_model.specs.Place.{part_of_number, part_number}
use Rattle.check_states.specs.declared.standing.Kind.{Kind}
use Rattle.check_states.specs.declared.standing.Kind.TheVariants as kind
use Rattle.check_states.specs.declared.standing.Standing.{Standing}
use Rattle.check_states.specs.declared.state.Code.{Code}
use Rattle.check_states.specs.declared.state.Code.TheVariants as code
use Rattle.check_states.specs.declared.state.State.{State}
use Rattle.check_states.specs.declared.state.State.TheVariants as state
use Rattle.check_states.specs.Numbers.{code_number, kind_number, code_of_number, state_of_number, state_number}
use Rattle.check_sched.specs.declared.call.Call.{Call}
use Rattle.check_sched.specs.declared.call.Call.TheVariants as call
use Rattle.check_sched.specs.declared.call.Reply.{Reply}
use Rattle.check_sched.specs.declared.call.Reply.TheVariants as reply
use Rattle.check_sched.specs.declared.call.Refusal.TheVariants as refused
use Rattle.check_sched.specs.ReplyTable as row
use Rattle.check_sched.specs.ReplyTable.{row_of}
use Rattle.nagsched_handles.specs.declared.kinds.TheConstants.{CALL_TAKE, CALL_REPORT, CALL_ABANDON, CALL_RESCHEDULE, CALL_ENABLE, CALL_STATUS}
use Rattle.nagsched_handles.specs.declared.kinds.TheConstants.{REPLY_TAKEN, REPLY_PUT_OFF, REPLY_IDLE, REPLY_AT_LIMIT, REPLY_STANDING, REPLY_FREED, REPLY_DONE}
use Rattle.nagsched_handles.specs.declared.kinds.TheConstants.{REPLY_UNKNOWN_OBJECT, REPLY_TIME_RANGE, REPLY_NOT_RUNNING, REPLY_WRONG_RUN}
use Rattle.nagsched_handles.specs.declared.structs.CStanding.{CStanding}
use Rattle.nagsched_handles.specs.declared.structs.CCall.{CCall}
use Rattle.nagsched_handles.specs.declared.structs.CReply.{CReply}
use Rattle.nagsched_handles.specs.declared.structs.CEntry.{CEntry}
use Rattle.nagsched_handles.specs.declared.structs.CRefusal.{CRefusal}

-- yes is 1, no is 0
abbrev pub flag : Bool → ℕ
flag true = 1
flag false = 0

-- yes or no of this number, 1 or 0
abbrev pub flag_of : ℕ → Option Bool
flag_of n = cond (n == 0) (Some false) (cond (n == 1) (Some true) None)

abbrev pub c_standing : Standing → CStanding
c_standing s = record {
  checked = flag s.checked;
  state = state_number s.state;
  kind = kind_number s.kind;
  attempt = s.attempt;
  last_hard = state_number s.last_hard;
  flapping = flag s.flapping;
}

-- the standing in a reply that has no standing
abbrev pub no_standing : CStanding
no_standing = record { checked = 0; state = 0; kind = 0; attempt = 0; last_hard = 0; flapping = 0 }

abbrev pub call_struct : ℕ → ℕ → ℕ → ℕ → ℕ → ℕ → CCall
call_struct kind object run moment code flag = record { kind = kind; object = object; run = run; moment = moment; code = code; flag = flag }

abbrev pub c_call : Call → CCall
c_call (call.Take now) = call_struct CALL_TAKE 0 0 now 0 0
c_call (call.Report object run code) = call_struct CALL_REPORT object run 0 (code_number code) 0
c_call (call.Abandon object run now) = call_struct CALL_ABANDON object run now 0 0
c_call (call.Reschedule object time forced) = call_struct CALL_RESCHEDULE object 0 time 0 (flag forced)
c_call (call.Enable object on) = call_struct CALL_ENABLE object 0 0 0 (flag on)
c_call (call.Status object) = call_struct CALL_STATUS object 0 0 0 0

-- a time or an index, or 0 for None
abbrev pub number_or_0 : Option ℕ → ℕ
number_or_0 (Some number) = number
number_or_0 None = 0

-- 1 for a number, 0 for None
abbrev pub presence : Option ℕ → ℕ
presence (Some number) = 1
presence None = 0

-- a reply of this kind without fields
abbrev pub empty_reply : ℕ → CReply
empty_reply kind = record { kind = kind; object = 0; run = 0; time = 0; has_time = 0; changed = 0; standing = no_standing }

-- a reply with this time, if there is one
abbrev pub with_time : Option ℕ → CReply → CReply
with_time time r = record {
  kind = r.kind;
  object = r.object;
  run = r.run;
  time = number_or_0 time;
  has_time = presence time;
  changed = r.changed;
  standing = r.standing;
}

-- A reply with this field of a row. The struct doesn't name the object that the call asked for, and its kind says why a call was refused.
abbrev pub with_field : row.Field → CReply → CReply
with_field (row.run n) r = record {
  kind = r.kind;
  object = r.object;
  run = n;
  time = r.time;
  has_time = r.has_time;
  changed = r.changed;
  standing = r.standing;
}
with_field (row.object i) r = record {
  kind = r.kind;
  object = i;
  run = r.run;
  time = r.time;
  has_time = r.has_time;
  changed = r.changed;
  standing = r.standing;
}
with_field row.asked_object r = r
with_field (row.next_check next) r = with_time next r
with_field (row.standing s changed) r = record {
  kind = r.kind;
  object = r.object;
  run = r.run;
  time = r.time;
  has_time = r.has_time;
  changed = flag changed;
  standing = c_standing s;
}
with_field (row.reason why) r = r

abbrev pub with_fields : List row.Field → CReply → CReply
with_fields [] r = r
with_fields (f ∷ fs) r = with_fields fs (with_field f r)

-- a reply, by its row
abbrev pub c_row : row.Row → CReply
c_row r = with_fields r.fields (empty_reply r.number)

abbrev pub c_reply : Reply → CReply
c_reply r = c_row (row_of r)

abbrev pub c_entry : Entry Call Reply → CEntry
c_entry e = record { pass = e.pass; call = c_call e.call; reply = c_reply e.reply }

-- ---- refusals of a document

-- a refusal of this kind that has no place
abbrev pub refusal_without_place : ℕ → CRefusal
refusal_without_place kind = record { kind = kind; part = 0; has_index = 0; index = 0 }

abbrev pub refusal_at : ℕ → Place → CRefusal
refusal_at kind p = record { kind = kind; part = part_number p.part; has_index = presence p.index; index = number_or_0 p.index }

-- a refusal of this kind at this place, if it has one
abbrev pub refusal_of_place : ℕ → Option Place → CRefusal
refusal_of_place kind None = refusal_without_place kind
refusal_of_place kind (Some p) = refusal_at kind p

-- out of memory is a status, and no function writes its struct
abbrev pub c_refusal : LoadError → CRefusal
c_refusal e = refusal_of_place (error_number e) (place_of e)

-- ---- read back: the value with this struct, if there is one

abbrev pub code_or_unknown : ℕ → Code
code_or_unknown n = unwrap_or (code_of_number n) code.Unknown

abbrev pub state_or_unreachable : ℕ → State
state_or_unreachable n = unwrap_or (state_of_number n) state.Unreachable

abbrev pub kind_or_hard : ℕ → Kind
kind_or_hard n = cond (n == 0) kind.Soft kind.Hard

abbrev pub optional_number : ℕ → ℕ → Option ℕ
optional_number presence number = cond (presence == 0) None (Some number)

abbrev pub part_or_host_dependencies : ℕ → Part
part_or_host_dependencies n = unwrap_or (part_of_number n) part.HostDependencies

abbrev pub standing_from_c : CStanding → Standing
standing_from_c p = record {
  checked = p.checked == 1;
  state = state_or_unreachable p.state;
  kind = kind_or_hard p.kind;
  attempt = p.attempt;
  last_hard = state_or_unreachable p.last_hard;
  flapping = p.flapping == 1;
}

abbrev pub call_from_c : CCall → Call
call_from_c p = cond (p.kind == CALL_TAKE) (call.Take p.moment)
    (cond (p.kind == CALL_REPORT) (call.Report p.object p.run (code_or_unknown p.code))
    (cond (p.kind == CALL_ABANDON) (call.Abandon p.object p.run p.moment)
    (cond (p.kind == CALL_RESCHEDULE) (call.Reschedule p.object p.moment (p.flag == 1))
    (cond (p.kind == CALL_ENABLE) (call.Enable p.object (p.flag == 1)) (call.Status p.object)))))

abbrev pub reply_from_c : CReply → Reply
reply_from_c p = cond (p.kind == REPLY_TAKEN) (reply.Taken p.object p.run)
    (cond (p.kind == REPLY_PUT_OFF) (reply.PutOff p.object (optional_number p.has_time p.time))
    (cond (p.kind == REPLY_IDLE) (reply.Idle (optional_number p.has_time p.time))
    (cond (p.kind == REPLY_AT_LIMIT) reply.AtLimit
    (cond (p.kind == REPLY_STANDING) (reply.Standing (standing_from_c p.standing) (p.changed == 1) (optional_number p.has_time p.time))
    (cond (p.kind == REPLY_FREED) (reply.Freed p.time)
    (cond (p.kind == REPLY_DONE) reply.Done
    (cond (p.kind == REPLY_UNKNOWN_OBJECT) (reply.Refused refused.UnknownObject)
    (cond (p.kind == REPLY_TIME_RANGE) (reply.Refused refused.TimeRange)
    (cond (p.kind == REPLY_NOT_RUNNING) (reply.Refused refused.NotRunning)
    (cond (p.kind == REPLY_WRONG_RUN) (reply.Refused refused.WrongRun) (reply.Refused refused.RunsSpent)))))))))))

abbrev pub place_from_c : CRefusal → Place
place_from_c p = record { part = part_or_host_dependencies p.part; index = optional_number p.has_index p.index }

-- ---- structs of no value

abbrev pub IsNoCall : CCall → Type 0
IsNoCall plain = (c : Call) → c_call c ≢ plain

-- a reply's attempt is a byte
abbrev pub HasByteAttempt : Reply → Type 0
HasByteAttempt (reply.Standing standing changed next) = standing.attempt < 2 ^ 8
HasByteAttempt other = ⊤

abbrev pub IsNoReply : CReply → Type 0
IsNoReply plain = (r : Reply) → HasByteAttempt r → c_reply r ≢ plain

abbrev pub IsNoEntry : CEntry → Type 0
IsNoEntry plain = (e : Entry Call Reply) → e.pass < 2 ^ 32 → HasByteAttempt e.reply → c_entry e ≢ plain

-- out of memory doesn't count: no function writes its struct
abbrev pub IsNoRefusal : CRefusal → Type 0
IsNoRefusal plain = (e : LoadError) → e ≢ load.Memory → c_refusal e ≢ plain
