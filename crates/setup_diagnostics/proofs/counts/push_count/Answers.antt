use Rattle.std.proofs.Common.{◌++◌, ◌∙◌, ap}
use Rattle.std.specs.Prelude.{codes, decimal}
use Rattle.std.proofs.lemmas.Result.{on_ok_weaker}
use Rattle.setup_diagnostics.specs.Counts.{count_words, count_limit}
use Rattle.setup_diagnostics.proofs.PieceLemmas.{four_pieces, two_pieces}
use Rattle.setup_diagnostics.proofs.counts.push_count.Goals as goal

pub returns : goal.returns
returns c =
    let after = c.push_words-3.new.self in
    let words = c.in_ok-push_words-2.ensures.text ∙ ap (λ w. c.push_number.new.self ++ w) c.limit_and_words-limit.ensures.words in
    on_ok_weaker c.push_number-2.result (λ is.
    two_pieces c.args.line.now c.push_words.new.self c.push_number-2.new.self (codes "there are ")
    (decimal c.args.number ++ (count_words c.args.count ++ (codes "; there can be " ++ decimal (count_limit c.args.count)))) c.in_ok-push_words.ensures.text
    (four_pieces c.push_words.new.self c.push_number.new.self c.push_words-2.new.self after c.push_number-2.new.self
    (decimal c.args.number) (count_words c.args.count) (codes "; there can be ") (decimal (count_limit c.args.count))
    c.in_ok-push_number.ensures.text words c.in_ok-push_words-3.ensures.text (is ∙ ap (λ n. after ++ decimal n) c.limit_and_words-limit.ensures.limit))) c.push_number-2.ensures.text
