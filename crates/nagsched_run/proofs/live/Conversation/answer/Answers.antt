use Rattle.std.proofs.Common.{◌≡◌, ◌∙◌, sym, ap, Some, Ok, Err}
use Rattle.nagsched_protocol.specs.LiveText.{line_answer, line_meaning, state_after_line}
use Rattle.nagsched_protocol.specs.Forms.{refusal_text}
use Rattle.nagsched_protocol.specs.Requested.{request as request_view}
use Rattle.nagsched_protocol.proofs.KeptLemmas.{kept_bytes, kept_refusal}
use Rattle.nagsched_run.proofs.LiveLemmas.{leaves_line, line_answered}
use Rattle.nagsched_run.proofs.live.Conversation.answer.Goals as goal

pub returns-in-Ok-Some-clause-fault : goal.returns-in-Ok-Some-clause-fault
returns-in-Ok-Some-clause-fault g c text kept =
    let form = c.args.form in
    let s = c.args.self.now.sched in
    let e : line_meaning form s.setup c.args.number text ≡ Ok (Some (request_view c.in-Ok-Some.request)) =
    rw (c.setup-setup.ensures, c.in-Ok-Some.field-0-is) at (c.in-Ok-Some.ensures text kept) in
    leaves_line c.answer_as.result _ _ _ _ (ap (line_answer form s c.args.number text) (sym e)) c.answer_as.ensures.wrote

pub returns-in-Err-Refused-clause-answered : goal.returns-in-Err-Refused-clause-answered
returns-in-Err-Refused-clause-answered g c text kept =
    let form = c.args.form in
    let s = c.args.self.now.sched in
    let e : line_meaning form s.setup c.args.number text ≡ Err c.in-Err-Refused.refusal =
    rw (c.setup-setup.ensures, c.in-Err-Refused.field-0-is) at (c.in-Err-Refused.ensures text kept) in
    let bytes = ap (λ l. refusal_text form l c.in-Err-Refused.refusal) (c.bytes.ensures ∙ kept_bytes c.args.self.now.line text kept)
    ∙ kept_refusal form s.setup c.args.number text c.in-Err-Refused.refusal e in
    line_answered c.refuse_as.result _ _ _ _ (bytes ∙ ap (line_answer form s c.args.number text) (sym e)) (ap (state_after_line s) (sym e)) c.refuse_as.ensures

pub returns-in-Err-Refused-clause-fault : goal.returns-in-Err-Refused-clause-fault
returns-in-Err-Refused-clause-fault g c text kept =
    let form = c.args.form in
    let s = c.args.self.now.sched in
    let e : line_meaning form s.setup c.args.number text ≡ Err c.in-Err-Refused.refusal =
    rw (c.setup-setup.ensures, c.in-Err-Refused.field-0-is) at (c.in-Err-Refused.ensures text kept) in
    let bytes = ap (λ l. refusal_text form l c.in-Err-Refused.refusal) (c.bytes.ensures ∙ kept_bytes c.args.self.now.line text kept)
    ∙ kept_refusal form s.setup c.args.number text c.in-Err-Refused.refusal e in
    leaves_line c.refuse_as.result _ _ _ _ (bytes ∙ ap (line_answer form s c.args.number text) (sym e)) c.refuse_as.ensures
