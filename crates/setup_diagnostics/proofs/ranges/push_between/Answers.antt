use Rattle.std.specs.Prelude.{codes, decimal}
use Rattle.std.proofs.lemmas.Result.{on_ok_weaker}
use Rattle.setup_diagnostics.proofs.PieceLemmas.{four_pieces}
use Rattle.setup_diagnostics.proofs.ranges.push_between.Goals as goal

pub returns : goal.returns
returns c =
    on_ok_weaker c.push_number-2.result (four_pieces c.args.line.now c.push_words.new.self c.push_number.new.self c.push_words-2.new.self c.push_number-2.new.self
    (codes "; it can be ") (decimal c.args.low) (codes " to ") (decimal c.args.high) c.in_ok-push_words.ensures.text c.in_ok-push_number.ensures.text
    c.in_ok-push_words-2.ensures.text) c.push_number-2.ensures.text
