use Rattle.std.proofs.Common.{subst, sym}
use Rattle.check_desk.specs.Desks.{desk_opening}
use Rattle.check_desk.specs.Passes.{pass_of}
use Rattle.check_workers.specs.Tallies.{IsSum}
use Rattle.check_workers.proofs.SumLemmas.{report_sum}
use Rattle.check_sched.specs.declared.call.Call.TheVariants as call
use Rattle.check_workers.proofs.CallerLemmas.{made_reply}
use Rattle.check_book.proofs.PublicLaws.{report_reply}
use Rattle.check_workers.proofs.round.report.Goals as goal

pub returns-in-Reply-clause-progress : goal.returns-in-Reply-clause-progress
returns-in-Reply-clause-progress g c = record {
  code = c.check-code.result;
  answer = c.in-Reply.reply;
  allowed = c.check-code.ensures;
  made =
      made_reply (call.Report c.args.object c.args.run c.check-code.result) c.in-Reply.reply (pass_of c.args.pass) (pass_of c.ask-pass.result.0)
      (rw c.in-Reply.is at c.ask-pass.ensures.answer);
  counted = c.of_report.ensures (pass_of c.args.pass).own c.args.object c.args.run c.check-code.result;
}

pub returns-in-Reply-clause-sums : goal.returns-in-Reply-clause-sums
returns-in-Reply-clause-sums g c = subst IsSum (sym (c.of_report.ensures 0 c.args.object c.args.run c.check-code.result))
    (report_sum report_reply (desk_opening c.args.desk.now) c.args.object c.args.run c.check-code.result c.in-Reply.reply (pass_of c.args.pass)
    (pass_of c.ask-pass.result.0) c.requires.taken
    (rw c.in-Reply.is at c.ask-pass.ensures.answer) c.ask-pass.ensures.legal 0)
