use Rattle.std.proofs.lemmas.Result.{err_from_is_err_and}
use Rattle.nagsched_jobs.proofs.CheckLemmas.{start_report_of, memory_is_no_write, printed_check, torn_check, unwritten_check}
use Rattle.nagsched_jobs.specs.CheckEnded.{IsReportFrom}
use Rattle.nagsched_jobs.specs.Reading.{check_input_of}
use Rattle.nagsched_jobs.proofs.check.check.Goals as goal

pub returns-in_err-input-clause-ending : goal.returns-in_err-input-clause-ending
returns-in_err-input-clause-ending g c =
    let p = err_from_is_err_and c.from_residual.result c.from_residual.ensures.1 in
    let e = c.in_err-input.ensures in
    rw (p.1, p.2) (unwritten_check (IsReportFrom c.args.start) (check_input_of c.args.start) _ _ _ _ e.errors e.memory)

pub returns-in_err-report-clause-ending : goal.returns-in_err-report-clause-ending
returns-in_err-report-clause-ending g c =
    let p = err_from_is_err_and c.from_residual-in_err-report.result c.from_residual-in_err-report.ensures.1 in
    rw (p.1, p.2) (unwritten_check (IsReportFrom c.args.start) (check_input_of c.args.start) _ _ _ _ (memory_is_no_write _ c.in_err-report.ensures.kind)
    (λ m. (c.in_ok-input.input.items, c.in_ok-input.ensures.left)))

pub returns-in_err-print_text-clause-ending : goal.returns-in_err-print_text-clause-ending
returns-in_err-print_text-clause-ending g c =
    let p = err_from_is_err_and c.from_residual-in_err-print_text.result c.from_residual-in_err-print_text.ensures.1 in
    let t = c.in_ok-report.report in
    let w = c.in_err-print_text.ensures in
    let can = start_report_of c.args.start _ c.in_ok-input.input.items t.text.items t.outcome c.in_ok-input.ensures.all
    (rw c.deref.ensures.value at c.in_ok-report.ensures.report) in
    rw (p.1, p.2) (torn_check (IsReportFrom c.args.start) (check_input_of c.args.start) _ _ _ _ _ c.in_ok-input.input.items t.text.items t.outcome w.only can
    (rw c.deref-2.ensures.value at w.fault))

pub returns-clause-ending : goal.returns-clause-ending
returns-clause-ending g c =
    let t = c.in_ok-report.report in
    let all = c.in_ok-input.ensures.all in
    let can = start_report_of c.args.start _ c.in_ok-input.input.items t.text.items t.outcome all
    (rw c.deref.ensures.value at c.in_ok-report.ensures.report) in
    printed_check (IsReportFrom c.args.start) (check_input_of c.args.start) _ _ _ _ c.in_ok-input.input.items t.text.items t.outcome all c.in_ok-input.ensures.left.0 can
    (rw c.deref-2.ensures.value at c.in_ok-print_text.ensures.written)
