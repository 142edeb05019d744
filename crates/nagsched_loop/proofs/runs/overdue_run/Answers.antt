use Rattle.std.proofs.Common.{arith, subst, take, ◌≡◌, ◌<◌, List}
use Rattle.std.proofs.lemmas.List.{take_all}
use Rattle.std.proofs.lemmas.List.Elements.{All-more}
use Rattle.std.specs.List.{All}
use Rattle.nagsched_loop.specs.declared.runs.Run.{Run}
use Rattle.nagsched_loop.proofs.runs.overdue_run.Goals as goal

pub loop-run-preserved : goal.loop-run-preserved
loop-run-preserved c =
    All-more (λ (run : Run). c.args.now < run.limit) c.args.runs.now c.loop-run.run-index _
    (omega arith) c.loop-run.invariant c.if-run-now.false

pub returns-clause-none : goal.returns-clause-none
returns-clause-none c =
    let runs : List Run = c.args.runs.now in
    let all : take c.loop-run.run-index runs ≡ runs = take_all _ _ (omega arith) in
    λ _. subst (λ (list : List Run). All (λ run. c.args.now < run.limit) list)
    all c.loop-run.invariant
