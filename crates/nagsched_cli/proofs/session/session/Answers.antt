use Rattle.clap.specs.Walk.{texts}
use Rattle.nagsched_cli.proofs.NoteLemmas.{no_job}
use Rattle.nagsched_cli.proofs.session.session.Goals as goal

pub returns-in-Err : goal.returns-in-Err
returns-in-Err g c =
    no_job (texts c.args.words.now) c.in-Err.error c.print_words_error.result _ _ _ c.args.note.now c.in-Err.ensures.errors c.print_words_error.ensures
