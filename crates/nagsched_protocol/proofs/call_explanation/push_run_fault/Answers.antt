use Rattle.std.proofs.Common.{◌++◌}
use Rattle.std.specs.Prelude.{codes, decimal}
use Rattle.std.proofs.lemmas.Result.{on_ok_weaker}
use Rattle.setup_diagnostics.specs.Excerpts.{quotation}
use Rattle.setup_diagnostics.proofs.PieceLemmas.{four_pieces, two_pieces}
use Rattle.nagsched_protocol.proofs.call_explanation.push_run_fault.Goals as goal

pub returns : goal.returns
returns c =
    let words = c.args.words.now in
    let run = decimal c.args.run in
    let end = codes " has ended, or never began; nothing is left to do" in
    on_ok_weaker c.push_words-3.result (λ h.
    two_pieces c.args.line.now c.push_text.new.self c.push_words-3.new.self (quotation c.args.name.now) (words ++ (codes "; its run " ++ (run ++ end)))
    c.in_ok-push_text.ensures.text
    (four_pieces c.push_text.new.self c.push_words.new.self c.push_words-2.new.self c.push_number.new.self c.push_words-3.new.self
    words (codes "; its run ") run end c.in_ok-push_words.ensures.text c.in_ok-push_words-2.ensures.text c.in_ok-push_number.ensures.text h))
    c.push_words-3.ensures.text
