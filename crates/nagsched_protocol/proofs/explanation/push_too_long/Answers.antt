use Rattle.std.proofs.Common.{◌++◌, ◌∙◌, ap}
use Rattle.std.specs.Prelude.{codes, decimal}
use Rattle.std.proofs.lemmas.Result.{on_ok_weaker}
use Rattle.setup_diagnostics.proofs.PieceLemmas.{three_pieces}
use Rattle.nagsched_protocol.specs.Explanation.{most_bytes}
use Rattle.nagsched_protocol.proofs.explanation.push_too_long.Goals as goal

pub returns : goal.returns
returns c =
    on_ok_weaker c.push_words-2.result (three_pieces c.args.line.now c.push_words.new.self c.push_number.new.self c.push_words-2.new.self
    (codes " has more than ") (decimal (most_bytes c.args.number)) (codes " bytes") c.in_ok-push_words.ensures.text
    (c.in_ok-push_number.ensures.text ∙ ap (λ n. c.push_words.new.self ++ decimal n) c.most_bytes.ensures)) c.push_words-2.ensures.text
