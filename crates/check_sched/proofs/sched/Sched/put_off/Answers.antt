use Rattle.std.proofs.Common.{◌≡◌, ◌∙◌, ap, arith}
use Rattle.check_sched.specs.declared.call.Reply.TheVariants as reply
use Rattle.check_sched.specs.Report.{put_off_until}
use Rattle.check_sched.specs.Scheduling.{put_off_to}
use Rattle.check_sched.specs.Sched.{state_of}
use Rattle.check_sched.specs.Step.{with_object}
use Rattle.check_sched.proofs.IntervalLaws.{intervals_there, read_there}
use Rattle.check_sched.proofs.sched.Sched.put_off.Goals as goal

pub index-intervals-requires : goal.index-intervals-requires
index-intervals-requires c = let in_range = intervals_there c.self.inside c.args.object _ c.self.invariant c.self.view_is c.requires.in_range in omega (arith, in_range)

pub time_after-until-requires-clause-bounded : goal.time_after-until-requires-clause-bounded
time_after-until-requires-clause-bounded c =
    (read_there c.self.inside c.args.object _ c.index-intervals.result.now c.self.invariant c.self.view_is c.requires.in_range c.index-intervals.ensures).bounded.check

-- the time is the one that the setup gives
until : (c : goal.After-change) → c.time_after-until.result ≡ put_off_until c.self.inside.setup c.args.object c.args.now
until c =
    let read = read_there c.self.inside c.args.object _ c.index-intervals.result.now c.self.invariant c.self.view_is c.requires.in_range
    c.index-intervals.ensures in
    c.time_after-until.ensures.value ∙ read.until c.args.now

pub returns-clause-state : goal.returns-clause-state
returns-clause-state c = rw (c.change.ensures, ← c.self.view_is) (ap (λ time. with_object c.args.object (put_off_to time) (state_of c.self.inside)) (until c))

pub returns-clause-reply : goal.returns-clause-reply
returns-clause-reply c = rw (← c.self.view_is) (ap (reply.PutOff c.args.object) (until c))
