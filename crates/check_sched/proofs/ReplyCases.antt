-- What holds of each sort of reply holds of all.
use Rattle.std.proofs.Common.{ℕ, Bool, Option}
use Rattle.check_states.specs.declared.standing.Standing.{Standing}
use Rattle.check_sched.specs.declared.call.Refusal.{Refusal}
use Rattle.check_sched.specs.declared.call.Reply.{Reply}
use Rattle.check_sched.specs.declared.call.Reply.TheVariants as reply

pub each_reply : (P : Reply → Type 0) → ((object run : ℕ) → P (reply.Taken object run)) → ((object : ℕ) (until : Option ℕ) → P (reply.PutOff object until))
    → ((next : Option ℕ) → P (reply.Idle next)) → P reply.AtLimit
    → ((standing : Standing) (changed : Bool) (next : Option ℕ) → P (reply.Standing standing changed next)) → ((next : ℕ) → P (reply.Freed next))
    → P reply.Done → ((why : Refusal) → P (reply.Refused why)) → (r : Reply) → P r
each_reply P taken put_off idle limit stands freed done refused (reply.Taken object run) = taken object run
each_reply P taken put_off idle limit stands freed done refused (reply.PutOff object until) = put_off object until
each_reply P taken put_off idle limit stands freed done refused (reply.Idle next) = idle next
each_reply P taken put_off idle limit stands freed done refused reply.AtLimit = limit
each_reply P taken put_off idle limit stands freed done refused (reply.Standing standing changed next) = stands standing changed next
each_reply P taken put_off idle limit stands freed done refused (reply.Freed next) = freed next
each_reply P taken put_off idle limit stands freed done refused reply.Done = done
each_reply P taken put_off idle limit stands freed done refused (reply.Refused why) = refused why
