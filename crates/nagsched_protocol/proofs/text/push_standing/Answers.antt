use Rattle.std.proofs.Common.{ℕ, List, ◌++◌, ◌∙◌, ap}
use Rattle.std.specs.Prelude.{codes, decimal, string_bytes}
use Rattle.check_states.specs.Words.{kind_word}
use Rattle.check_saved_state.specs.Words.{flapping_word}
use Rattle.nagsched_protocol.specs.Text.{asked_name, state_text, changed_word, time_text}
use Rattle.nagsched_protocol.proofs.TextLemmas.{standing_appended}
use Rattle.nagsched_protocol.proofs.text.push_standing.Goals as goal

pub returns-clause-text : goal.returns-clause-text
returns-clause-text c =
    let s = c.args.standing in
    standing_appended (string_bytes c.args.line.now) (codes "standing ") (codes " ") (state_text s) (kind_word s.kind) (decimal s.attempt)
    (changed_word c.args.changed) (flapping_word s.flapping) (time_text c.args.next) (asked_name c.args.setup.now c.args.call)
    c.state_text.result.now (codes " " ++ (c.word.result.now ++ codes " ")) c.marks_between_spaces.result.now _ _ _ _ _ _ _ _
    c.state_text.ensures.text (ap (λ (w : List ℕ). codes " " ++ (w ++ codes " ")) c.word.ensures.text) c.marks_between_spaces.ensures.text
    c.in_ok-push_str.ensures.bytes c.in_ok-push_str-2.ensures.bytes c.in_ok-push_between_spaces.ensures.text c.in_ok-push_number.ensures.text
    c.in_ok-push_str-3.ensures.bytes c.in_ok-push_time.ensures.text c.in_ok-push_str-4.ensures.bytes
    (c.in_ok-push_str-5.ensures.bytes ∙ ap (λ (name : List ℕ). string_bytes c.push_str-4.new.self ++ name) c.asked_name.ensures.text)
