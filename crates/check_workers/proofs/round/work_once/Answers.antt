use Rattle.std.proofs.Common.{[], ◌∷◌, arith, sym, subst}
use Rattle.ticket_steps.specs.History.{entry}
use Rattle.check_sched.specs.declared.call.Call.TheVariants as call
use Rattle.check_sched.specs.declared.call.Reply.TheVariants as reply
use Rattle.check_desk.specs.Desks.{desk_opening}
use Rattle.check_desk.specs.Passes.{pass_of}
use Rattle.check_workers.specs.Tallies.{IsBounded, IsSum}
use Rattle.check_workers.proofs.SumLemmas.{sum_plus, take_sum}
use Rattle.check_workers.proofs.RoundLemmas.{came_other, came_taken, reported_few}
use Rattle.check_workers.proofs.TallyLemmas.{few_tally}
use Rattle.check_book.proofs.PublicLaws.{take_reply}
use Rattle.check_workers.proofs.round.work_once.Goals as goal

pub plus-requires : goal.plus-requires
plus-requires g c = (
  subst IsBounded (sym (c.of_take.ensures 0 0)) (few_tally (entry 0 (call.Take 0) (reply.Taken c.in-Taken.object c.in-Taken.run') ∷ []) [] (omega arith)
      (omega arith)),
  reported_few (g.P.Plugin.allows c.args.plugin.now) c.args.now c.in-Taken.object c.in-Taken.run' _ _ _ _ _ c.report-pass.ensures.progress,
)

pub returns-in-Taken-clause-progress : goal.returns-in-Taken-clause-progress
returns-in-Taken-clause-progress g c =
    rw c.plus.ensures (came_taken (g.P.Plugin.allows c.args.plugin.now) c.args.now c.in-Taken.object c.in-Taken.run' (desk_opening c.args.desk.now).room
    (pass_of c.args.pass) (pass_of c.ask-pass.result.0) (pass_of c.report-pass.result.0) _ _ c.report-pass.result.2
    (rw c.in-Taken.is at rw c.in-Reply.is at c.ask-pass.ensures.answer) (c.of_take.ensures (pass_of c.args.pass).own c.args.now) c.report-pass.ensures.progress)

pub returns-in_default : goal.returns-in_default
returns-in_default g c = record {
  desk = c.ask-pass.ensures.desk;
  progress =
      came_other (g.P.Plugin.allows c.args.plugin.now) c.args.now c.in-Reply.reply (pass_of c.args.pass)
      (pass_of c.ask-pass.result.0) _ c.in_default.not-Taken (rw c.in-Reply.is at c.ask-pass.ensures.answer)
      (c.of_take-in_default.ensures (pass_of c.args.pass).own c.args.now);
  sums =
      subst IsSum (sym (c.of_take-in_default.ensures 0 0))
      (take_sum take_reply (desk_opening c.args.desk.now) c.args.now c.in-Reply.reply (pass_of c.args.pass) (pass_of c.ask-pass.result.0)
      (rw c.in-Reply.is at c.ask-pass.ensures.answer) c.ask-pass.ensures.legal 0 0);
}

pub returns-in-Taken-clause-sums : goal.returns-in-Taken-clause-sums
returns-in-Taken-clause-sums g c = rw c.plus.ensures (sum_plus c.of_take.result c.report-pass.result.1
    (subst IsSum (sym (c.of_take.ensures 0 0))
    (take_sum take_reply (desk_opening c.args.desk.now) c.args.now (reply.Taken c.in-Taken.object c.in-Taken.run')
    (pass_of c.args.pass) (pass_of c.ask-pass.result.0)
    (rw c.in-Taken.is at rw c.in-Reply.is at c.ask-pass.ensures.answer) c.ask-pass.ensures.legal 0 0))
    c.report-pass.ensures.sums)
