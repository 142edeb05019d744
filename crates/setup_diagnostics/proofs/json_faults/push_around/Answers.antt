use Rattle.std.proofs.Common.{ℕ, List, Option, ◌++◌, ◌∙◌, ap}
use Rattle.std.proofs.lemmas.Result.{on_ok_weaker}
use Rattle.setup_diagnostics.specs.JsonFaults.{first_byte, shown, start_of, text_in}
use Rattle.setup_diagnostics.proofs.PieceLemmas.{three_pieces}
use Rattle.setup_diagnostics.proofs.json_faults.push_around.Goals as goal

pub returns : goal.returns
returns c =
    let line = c.push_words.new.self in
    let text = c.text_of.ensures ∙ ap text_in c.start_of.ensures in
    on_ok_weaker c.push_words-2.result (three_pieces c.args.line.now line c.push_shown.new.line c.push_words-2.new.self c.args.front.now
    (shown (text_in (start_of c.args.rest.now)) (first_byte c.args.rest.now)) c.args.back.now c.in_ok-push_words.ensures.text
    (c.in_ok-push_shown.ensures ∙ ap (λ (t : Option (List ℕ)). line ++ shown t c.first_byte.result) text
    ∙ ap (λ n. line ++ shown (text_in (start_of c.args.rest.now)) n) c.first_byte.ensures)) c.push_words-2.ensures.text
