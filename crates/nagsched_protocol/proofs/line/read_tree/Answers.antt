use Rattle.nagsched_protocol.proofs.CommandLemmas.{tree_some, tree_none}
use Rattle.nagsched_protocol.proofs.line.read_tree.Goals as goal

pub returns-in-Ok : goal.returns-in-Ok
returns-in-Ok c = tree_some _ _ _ c.in-Ok.ensures.ok.0 c.in-Ok.ensures.ok.1

pub returns-else-is_memory : goal.returns-else-is_memory
returns-else-is_memory c =
    rw c.line_refusal.ensures (tree_none _ _ (c.in-Err.ensures.err (λ m. let t = c.is_memory.ensures.1 m in let f = c.if-is_memory.false in cc)))
