use Rattle.std.proofs.Common.{◌++◌, ◌∙◌, ap}
use Rattle.std.specs.Prelude.{codes, decimal}
use Rattle.std.proofs.lemmas.Result.{on_ok_weaker}
use Rattle.setup_diagnostics.specs.JsonFaults.{first_byte}
use Rattle.setup_diagnostics.proofs.PieceLemmas.{three_pieces}
use Rattle.setup_diagnostics.proofs.json_faults.push_foreign_byte.Goals as goal

pub returns : goal.returns
returns c =
    on_ok_weaker c.push_words-2.result (three_pieces c.args.line.now c.push_words.new.self c.push_number.new.self c.push_words-2.new.self
    (codes ": the byte ") (decimal (first_byte c.args.rest.now)) (codes " isn't allowed here; save the document as UTF-8") c.in_ok-push_words.ensures.text
    (c.in_ok-push_number.ensures.text ∙ ap (λ n. c.push_words.new.self ++ decimal n) c.first_byte.ensures)) c.push_words-2.ensures.text
