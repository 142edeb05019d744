use Rattle.std.proofs.Common.{◌∙◌, sym, ap, subst, T}
use Rattle.nagsched_handles.specs.Structs.{c_reply}
use Rattle.nagsched_handles.proofs.StructLaws.{no_reply}
use Rattle.nagsched_handles.proofs.from_c.reply_of.Goals as goal

pub returns-else-has_struct-clause-none : goal.returns-else-has_struct-clause-none
returns-else-has_struct-clause-none c = no_reply c.args.plain
    (λ same. subst T (sym (c.has_struct.ensures.1 (ap c_reply c.in_ok-reply.ensures.some ∙ same)) ∙ c.if-has_struct.false) tt)
