use Rattle.std.proofs.Common.{sym, ap, ◌∙◌, map, take, string_bytes, refl, arith}
use Rattle.std.proofs.lemmas.List.{take_all}
use Rattle.setup_model.specs.Ends.{is_known}
use Rattle.setup_model.proofs.ListLemmas.{mapped_next}
use Rattle.setup_reader.proofs.VerificationLemmas.{known_more}
use Rattle.setup_reader.proofs.links.distinct_texts.Goals as goal

pub loop-text-preserved : goal.loop-text-preserved
loop-text-preserved c =
    let all = c.args.all.now in
    let i = c.loop-text.text-index in
    let text = c.text-item.result in
    λ name.
    known_more c.loop-text.set.keys c.insert.new.self.keys c.as_str.result (map string_bytes (take i all))
    (string_bytes text) _ c.as_str.ensures.value refl c.in_ok-insert.ensures.keys c.loop-text.invariant name
    ∙ ap (λ l. is_known l name) (sym (mapped_next string_bytes all i text c.loop-text-test.true c.text-item.is))

pub returns : goal.returns
returns c =
    λ name. c.loop-text.invariant name ∙ ap (λ l. is_known (map string_bytes l) name) (take_all c.loop-text.text-index c.args.all.now (omega arith))
