-- Facts about the replies to all calls.
use Rattle.std.specs.Prelude.{ℕ, ◌<◌, ◌≤◌, ⊤, IfSome, Result, Ok, Err}
use Rattle.check_objects.specs.Configuration.{Configuration, object_count}
use Rattle.check_sched.specs.declared.call.Refusal.{Refusal}
use Rattle.check_sched.specs.declared.call.Refusal.TheVariants as refusal
use Rattle.check_sched.specs.declared.call.Reply.{Reply}
use Rattle.check_sched.specs.declared.call.Reply.TheVariants as reply

-- the reply to a call that was answered or refused
abbrev pub reply_of : Result Reply Refusal → Reply
reply_of (Ok answer) = answer
reply_of (Err why) = reply.Refused why

-- a fact, if the reply is a refusal
abbrev pub OnRefused : Reply → Type 0 → Type 0
OnRefused (reply.Taken object run) P = ⊤
OnRefused (reply.PutOff object until) P = ⊤
OnRefused (reply.Idle next) P = ⊤
OnRefused reply.AtLimit P = ⊤
OnRefused (reply.Standing standing changed next) P = ⊤
OnRefused (reply.Freed next) P = ⊤
OnRefused reply.Done P = ⊤
OnRefused (reply.Refused why) P = P

-- the object that the reply names, if any, is one of the setup's
abbrev pub NamesObjectOf : Configuration → Reply → Type 0
NamesObjectOf setup (reply.Taken object run) = object < object_count setup
NamesObjectOf setup (reply.PutOff object until) = object < object_count setup
NamesObjectOf setup (reply.Idle next) = ⊤
NamesObjectOf setup reply.AtLimit = ⊤
NamesObjectOf setup (reply.Standing standing changed next) = ⊤
NamesObjectOf setup (reply.Freed next) = ⊤
NamesObjectOf setup reply.Done = ⊤
NamesObjectOf setup (reply.Refused why) = ⊤

-- the time in the reply, if any, is at most this one
abbrev pub HasTimesUpTo : ℕ → Reply → Type 0
HasTimesUpTo last (reply.Taken object run) = ⊤
HasTimesUpTo last (reply.PutOff object until) = IfSome until (λ time. time ≤ last)
HasTimesUpTo last (reply.Idle next) = IfSome next (λ time. time ≤ last)
HasTimesUpTo last reply.AtLimit = ⊤
HasTimesUpTo last (reply.Standing standing changed next) = IfSome next (λ time. time ≤ last)
HasTimesUpTo last (reply.Freed next) = next ≤ last
HasTimesUpTo last reply.Done = ⊤
HasTimesUpTo last (reply.Refused why) = ⊤

-- a reason to refuse a take
abbrev pub IsTakeRefusal : Refusal → Type 0
IsTakeRefusal refusal.UnknownObject = ⊥
IsTakeRefusal refusal.TimeRange = ⊤
IsTakeRefusal refusal.RunsSpent = ⊤
IsTakeRefusal refusal.NotRunning = ⊥
IsTakeRefusal refusal.WrongRun = ⊥

-- a reply that a take can have
abbrev pub IsTakeReply : Reply → Type 0
IsTakeReply (reply.Taken object run) = ⊤
IsTakeReply (reply.PutOff object until) = ⊤
IsTakeReply (reply.Idle next) = ⊤
IsTakeReply reply.AtLimit = ⊤
IsTakeReply (reply.Standing standing changed next) = ⊥
IsTakeReply (reply.Freed next) = ⊥
IsTakeReply reply.Done = ⊥
IsTakeReply (reply.Refused why) = IsTakeRefusal why

-- a reason to refuse the report of an object that exists
abbrev pub IsReportRefusal : Refusal → Type 0
IsReportRefusal refusal.UnknownObject = ⊥
IsReportRefusal refusal.TimeRange = ⊥
IsReportRefusal refusal.RunsSpent = ⊥
IsReportRefusal refusal.NotRunning = ⊤
IsReportRefusal refusal.WrongRun = ⊤

-- a reply that the report of an object that exists can have
abbrev pub IsReportReply : Reply → Type 0
IsReportReply (reply.Taken object run) = ⊥
IsReportReply (reply.PutOff object until) = ⊥
IsReportReply (reply.Idle next) = ⊥
IsReportReply reply.AtLimit = ⊥
IsReportReply (reply.Standing standing changed next) = ⊤
IsReportReply (reply.Freed next) = ⊥
IsReportReply reply.Done = ⊥
IsReportReply (reply.Refused why) = IsReportRefusal why
