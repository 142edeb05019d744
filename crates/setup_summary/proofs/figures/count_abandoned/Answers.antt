use Rattle.std.proofs.Common.{sym}
use Rattle.setup_summary.proofs.FigureLemmas.{all_given_up, none_given_up, out_behind}
use Rattle.setup_summary.proofs.figures.count_abandoned.Goals as goal

pub returns-then-running-limit : goal.returns-then-running-limit
returns-then-running-limit c =
    let running = out_behind c.args.setup.now c.args.kept.now c.hosts.result c.count_running-running.result c.hosts.ensures.count c.count_running-running.ensures in
    sym (none_given_up c.args.setup.now c.args.kept.now c.count_running-running.result running (rw c.options.ensures at c.if-running-limit.either))

pub returns-else-running-limit : goal.returns-else-running-limit
returns-else-running-limit c =
    let running = out_behind c.args.setup.now c.args.kept.now c.hosts.result c.count_running-running.result c.hosts.ensures.count c.count_running-running.ensures in
    let past = rw c.options.ensures at c.if-running-limit.false in
    sym (all_given_up c.args.setup.now c.args.kept.now c.count_running-running.result running past.0 past.1)
