use Rattle.std.proofs.Common.{◌++◌, ◌∙◌, ap, sym}
use Rattle.std.specs.Prelude.{codes}
use Rattle.std.proofs.lemmas.Result.{on_ok_weaker}
use Rattle.json.specs.Lex.{tokens}
use Rattle.setup_diagnostics.proofs.PieceLemmas.{two_pieces}
use Rattle.nagsched_protocol.specs.Explanation.{stop_text}
use Rattle.nagsched_protocol.proofs.ExplanationLemmas.{other_text, utf8_text}
use Rattle.nagsched_protocol.proofs.explanation.push_not_json.Goals as goal

pub returns-in_default : goal.returns-in_default
returns-in_default c =
    on_ok_weaker c.push_words.result (λ h. h ∙ ap (λ t. c.args.line.now ++ t) (sym (other_text c.args.bytes.now c.in_default.ensures.cases.0)))
    c.push_words.ensures.text

pub returns : goal.returns
returns c =
    let line = c.push_words-2.new.self in
    on_ok_weaker c.push_stop.result (λ h. two_pieces c.args.line.now line c.push_stop.new.line (codes ": it isn't JSON; ") (stop_text (tokens c.args.bytes.now))
    c.in_ok-push_words.ensures.text (h ∙ ap (λ t. line ++ stop_text (tokens t)) c.in-Ok.ensures.cases.0)
    ∙ ap (λ t. c.args.line.now ++ t) (sym (utf8_text c.args.bytes.now c.in-Ok.ensures.cases.1))) c.push_stop.ensures
