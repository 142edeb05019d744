use Rattle.std.proofs.lemmas.Result.{IfOk-weaker}
use Rattle.nagsched_cli.proofs.explanation.option_text.Goals as goal

pub returns : goal.returns
returns c =
    let near = rw (c.name_part.ensures, c.option_names.ensures) at c.in_ok-near.ensures in
    IfOk-weaker c.unknown_option_text.result _ _ (λ text is. (_, near, is)) c.unknown_option_text.ensures
