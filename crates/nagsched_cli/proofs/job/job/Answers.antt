use Rattle.std.proofs.Common.{◌≡◌, ◌∙◌, ap, refl, subst, sym, true}
use Rattle.clap.specs.Walk.{texts}
use Rattle.clap.specs.Words.{App, HasKind, fault_of, is_simple, is_simple_and_free, subcommand_of}
use Rattle.clap.proofs.BuiltLemmas.{on_ok_always}
use Rattle.clap.proofs.OnLiterals.{clap_on_literals}
use Rattle.nagsched_cli.specs.Arguments.{job_of, program}
use Rattle.nagsched_cli.proofs.ArgumentLemmas.{reads_asked, reads_errors, error_explains}
use Rattle.nagsched_cli.proofs.job.job.Goals as goal

program_is_free : is_simple_and_free program ≡ true
unfolding clap_on_literals
program_is_free = refl

program_is_simple : is_simple program ≡ true
unfolding clap_on_literals
program_is_simple = refl

pub returns-in-Ok-clause-request : goal.returns-in-Ok-clause-request
returns-in-Ok-clause-request c =
    let read = (c.in-Ok.ensures.matches (ap is_simple c.in_ok-build_program.ensures ∙ program_is_simple)).1 ∙ ap
    (λ (a : App). subcommand_of a (texts c.args.words.now)) c.in_ok-build_program.ensures in
    reads_asked _ _ _ (ap job_of read) c.read_job.ensures.request

pub returns-in-Ok-clause-errors : goal.returns-in-Ok-clause-errors
returns-in-Ok-clause-errors c =
    let read = (c.in-Ok.ensures.matches (ap is_simple c.in_ok-build_program.ensures ∙ program_is_simple)).1 ∙ ap
    (λ (a : App). subcommand_of a (texts c.args.words.now)) c.in_ok-build_program.ensures in
    reads_errors (texts c.args.words.now) _ _ (ap job_of read) c.read_job.ensures.request

pub returns-in-Ok-clause-faultless : goal.returns-in-Ok-clause-faultless
returns-in-Ok-clause-faultless c =
    let none = c.in-Ok.ensures.kinds (ap is_simple_and_free c.in_ok-build_program.ensures ∙ program_is_free) in
    on_ok_always c.read_job.result (ap (λ (a : App). fault_of a (texts c.args.words.now)) (sym c.in_ok-build_program.ensures) ∙ none)

pub returns-in-Err-clause-errors : goal.returns-in-Err-clause-errors
returns-in-Err-clause-errors c =
    let kinds = c.in-Err.ensures.kinds (ap is_simple_and_free c.in_ok-build_program.ensures ∙ program_is_free) in
    error_explains (texts c.args.words.now) _ _ (subst
    (λ (a : App). HasKind (fault_of a (texts c.args.words.now)) c.in-Err.error) c.in_ok-build_program.ensures kinds) c.words_error_of.ensures
