use Rattle.std.proofs.Common.{[], ◌∷◌, ◌++◌, sym, ap, ◌∙◌}
use Rattle.nagsched_protocol.specs.Input.{without_last_feed}
use Rattle.nagsched_jobs.proofs.ReadingLemmas.{feed_cut, feed_stays}
use Rattle.nagsched_jobs.proofs.reading.document.Goals as goal

pub returns-in-Some : goal.returns-in-Some
returns-in-Some c =
    let document = c.in-Some.document.now in
    sym (ap without_last_feed c.in-Some.ensures.cases.0 ∙ ap (λ b. without_last_feed (document ++ b ∷ [])) c.if-last-eq10.true ∙ feed_cut document)

pub returns-in-Some-2 : goal.returns-in-Some-2
returns-in-Some-2 c =
    let parts = c.in-Some.ensures.cases.0 in
    parts ∙ sym (feed_stays c.in-Some.document.now c.in-Some.last.now c.if-last-eq10.false) ∙ ap without_last_feed (sym parts)
