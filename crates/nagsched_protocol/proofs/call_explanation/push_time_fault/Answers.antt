use Rattle.std.specs.Prelude.{codes, decimal}
use Rattle.std.proofs.lemmas.Result.{on_ok_weaker}
use Rattle.setup_diagnostics.proofs.PieceLemmas.{three_pieces}
use Rattle.nagsched_protocol.proofs.call_explanation.push_time_fault.Goals as goal

pub returns : goal.returns
returns c =
    on_ok_weaker c.push_words-2.result (three_pieces c.args.line.now c.push_words.new.self c.push_number.new.self c.push_words-2.new.self
    (codes "the time is ") (decimal c.args.time) (codes "; it has to be a whole number of milliseconds from 0 to 2^60")
    c.in_ok-push_words.ensures.text c.in_ok-push_number.ensures.text) c.push_words-2.ensures.text
