use Rattle.std.proofs.Common.{Result, Ok, Err, IfOk, IsOkAnd, false, ap, ap₂, ◌≡◌, ◌∙◌}
use Rattle.std.proofs.lemmas.Result.{IfOk-weaker}
use Rattle.clap.specs.declared.builder.command.Command.{Command}
use Rattle.clap.specs.declared.builder.command.Command.TheViews.{out-Command}
use Rattle.clap.specs.Simple.{app_of_fields}
use Rattle.clap.specs.Words.{App, app_of, new_app, with_subcommand}
use Rattle.std.specs.Prelude.{codes}
use Rattle.nagsched_cli.specs.Arguments.{with_version}
use Rattle.nagsched_cli.proofs.job.build_program.Goals as goal

-- a program with a subcommand that was built
with_built : {E : Type 0} (built : Result Command E) (before known after added : App) → before ≡ known
    → IfOk built (λ c. (app_of c ≡ added) × ((out-Command c).has_globals ≡ false))
    → IsOkAnd built (λ c. (out-Command c).has_globals ≡ false → after ≡ with_subcommand before (app_of c).top)
    → after ≡ with_subcommand known added.top
with_built (Ok c) before known after added same is add =
    add is.1 ∙ ap₂ with_subcommand same (ap (λ (a : App). a.top) is.0)
with_built (Err e) before known after added same is add = elim add [ ]

pub returns : goal.returns
returns c =
    let top : app_of c.version-program.result ≡ with_version (new_app (codes "nagsched")) =
    ap app_of_fields c.version-program.ensures ∙ ap with_version c.new_command.ensures.app in
    let with_run = with_built c.build_run.result _ _ _ _ top c.build_run.ensures c.in_ok-program.ensures in
    let with_live = with_built c.build_live.result _ _ _ _ with_run c.build_live.ensures c.in_ok-program-2.ensures in
    let with_check = with_built c.build_check.result _ _ _ _ with_live c.build_check.ensures c.in_ok-program-3.ensures in
    let with_drill = with_built c.build_drill.result _ _ _ _ with_check c.build_drill.ensures c.in_ok-program-4.ensures in
    IfOk-weaker c.subcommand.result _ _ (λ r h. h.shape c.build_schema.ensures.local
    ∙ ap₂ with_subcommand with_drill (ap (λ (a : App). a.top) c.build_schema.ensures.app)) c.subcommand.ensures
