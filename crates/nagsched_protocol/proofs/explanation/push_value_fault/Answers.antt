use Rattle.std.proofs.Common.{List, ◌++◌, ◌∙◌, ap}
use Rattle.std.specs.Prelude.{codes, decimal}
use Rattle.std.proofs.lemmas.Result.{on_ok_weaker}
use Rattle.json.specs.Lex.{tokens}
use Rattle.json.specs.Token.{Token}
use Rattle.setup_diagnostics.specs.Places.{role_text}
use Rattle.setup_diagnostics.proofs.PieceLemmas.{four_pieces, two_pieces}
use Rattle.nagsched_protocol.specs.Explanation.{item_at, items_of, shown_value, word_of}
use Rattle.nagsched_protocol.proofs.explanation.push_value_fault.Goals as goal

pub returns : goal.returns
returns c =
    let ts = tokens c.args.text.now in
    let n = c.args.number in
    let wanted = codes "; it has to be " ++ c.args.wanted.now in
    let role = role_text (codes " of ") (word_of ts) in
    let shown = shown_value (item_at n (items_of ts)) ++ wanted in
    let line = c.push_words-2.new.self in
    let read = c.pass_items.ensures ∙ ap (item_at n) (c.pass_bracket.ensures ∙ ap items_of c.in_ok-reader.ensures.ok) in
    on_ok_weaker c.push_kind_fault.result (λ h.
    two_pieces c.args.line.now c.push_words.new.self c.push_kind_fault.new.line (codes ": value ") (decimal n ++ (role ++ (codes " is " ++ shown)))
    c.in_ok-push_words.ensures.text
    (four_pieces c.push_words.new.self c.push_number.new.self c.push_word.new.line line c.push_kind_fault.new.line (decimal n) role (codes " is ") shown
    c.in_ok-push_number.ensures.text c.in_ok-push_word.ensures c.in_ok-push_words-2.ensures.text
    (h ∙ ap (λ (us : List Token). line ++ (shown_value us ++ wanted)) read))) c.push_kind_fault.ensures
