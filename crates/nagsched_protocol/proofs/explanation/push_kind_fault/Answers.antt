use Rattle.std.specs.Prelude.{codes}
use Rattle.std.proofs.lemmas.Result.{on_ok_weaker}
use Rattle.setup_diagnostics.proofs.PieceLemmas.{three_pieces}
use Rattle.nagsched_protocol.specs.Explanation.{shown_value}
use Rattle.nagsched_protocol.proofs.explanation.push_kind_fault.Goals as goal

pub returns : goal.returns
returns c =
    on_ok_weaker c.push_words-2.result (three_pieces c.args.line.now c.push_shown.new.line c.push_words.new.self c.push_words-2.new.self
    (shown_value c.args.reader.now) (codes "; it has to be ") c.args.wanted.now c.in_ok-push_shown.ensures c.in_ok-push_words.ensures.text)
    c.push_words-2.ensures.text
