use Rattle.std.proofs.Common.{List, None, ◌++◌, ◌∙◌, ap, sym}
use Rattle.std.specs.Prelude.{codes}
use Rattle.std.proofs.lemmas.Result.{on_ok_weaker}
use Rattle.json.specs.Lex.{tokens}
use Rattle.setup_diagnostics.proofs.PieceLemmas.{three_pieces, two_pieces}
use Rattle.nagsched_protocol.specs.Explanation.{are_value, last_good, place_text, stops}
use Rattle.nagsched_protocol.proofs.ExplanationLemmas.{stop_end, stop_stopped, stop_value}
use Rattle.nagsched_protocol.proofs.explanation.push_stop.Goals as goal

pub returns-then-is_stopped : goal.returns-then-is_stopped
returns-then-is_stopped c =
    let ts = tokens c.args.text.now in
    let read = c.in_ok-reader.ensures.ok in
    let line = c.push_words.new.self in
    let stopped = ap stops (sym read) ∙ sym c.last_good-is_stopped.ensures.stops ∙ c.if-is_stopped.true in
    let last = c.last_good-is_stopped.ensures.last ∙ ap (last_good None) read in
    on_ok_weaker c.push_place.result (λ h. two_pieces c.args.line.now line c.push_place.new.line (codes "reading stopped ") (place_text (last_good None ts))
    c.in_ok-push_words.ensures.text (h ∙ ap (λ l. line ++ place_text l) last)
    ∙ ap (λ t. c.args.line.now ++ t) (sym (stop_stopped ts stopped))) c.push_place.ensures

pub returns-then-is_value : goal.returns-then-is_value
returns-then-is_value c =
    let ts = tokens c.args.text.now in
    let going = ap stops (sym c.in_ok-reader.ensures.ok) ∙ sym c.last_good-is_stopped.ensures.stops ∙ c.if-is_stopped.false in
    let whole = ap are_value (sym c.in_ok-reader-2.ensures.ok) ∙ sym c.is_value.ensures ∙ c.if-is_value.true in
    on_ok_weaker c.push_words-then-is_value.result (λ h. h ∙ ap (λ t. c.args.line.now ++ t) (sym (stop_value ts going whole)))
    c.push_words-then-is_value.ensures.text

pub returns : goal.returns
returns c =
    let ts = tokens c.args.text.now in
    let read = c.in_ok-reader.ensures.ok in
    let line = c.push_words-2.new.self in
    let going = ap stops (sym read) ∙ sym c.last_good-is_stopped.ensures.stops ∙ c.if-is_stopped.false in
    let part = ap are_value (sym c.in_ok-reader-2.ensures.ok) ∙ sym c.is_value.ensures ∙ c.if-is_value.false in
    let last = c.last_good-is_stopped.ensures.last ∙ ap (last_good None) read in
    on_ok_weaker c.push_words-3.result (λ h. three_pieces c.args.line.now line c.push_place-2.new.line c.push_words-3.new.self
    (codes "it ends ") (place_text (last_good None ts)) (codes ", but isn't one whole value of at most 127 levels") c.in_ok-push_words-2.ensures.text
    (c.in_ok-push_place.ensures ∙ ap (λ l. line ++ place_text l) last) h
    ∙ ap (λ t. c.args.line.now ++ t) (sym (stop_end ts going part))) c.push_words-3.ensures.text
