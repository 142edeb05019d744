use Rattle.std.proofs.Common.{◌∙◌}
use Rattle.std.proofs.lemmas.Result.{IfOk-weaker}
use Rattle.nagsched_protocol.proofs.RequestLemmas.{id_read, id_unread}
use Rattle.nagsched_protocol.proofs.request.id_of_line.Goals as goal

pub returns-in-Ok : goal.returns-in-Ok
returns-in-Ok c =
    IfOk-weaker c.id_of_tree.result _ _ (λ id h. h
    ∙ id_read c.args.line.now _ c.if-line-gt-MAX_LINE_BYTES.false c.in-Ok.ensures.ok.0 c.in-Ok.ensures.ok.1) c.id_of_tree.ensures

pub returns-else-is_memory : goal.returns-else-is_memory
returns-else-is_memory c =
    id_unread c.args.line.now c.if-line-gt-MAX_LINE_BYTES.false
    (c.in-Err.ensures.err (λ m. let t = c.is_memory.ensures.1 m in let f = c.if-is_memory.false in cc))
