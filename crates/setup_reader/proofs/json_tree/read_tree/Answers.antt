use Rattle.setup_reader.proofs.TreeLemmas.{tree_some, tree_none}
use Rattle.setup_reader.proofs.json_tree.read_tree.Goals as goal
use Rattle.setup_reader.proofs.json_tree.read_tree.Goals.{then-is_memory, else-is_memory}

pub returns-in-Ok : goal.returns-in-Ok
returns-in-Ok c = tree_some _ _ _ c.in-Ok.ensures.ok.0 c.in-Ok.ensures.ok.1

pub returns-after-is_memory : goal.returns-after-is_memory
returns-after-is_memory c =
    elim c.if-is_memory.branch [
      | then-is_memory w ↦ rw w.result-is tt
      | else-is_memory w ↦ rw w.result-is (tree_none _ _ (c.in-Err.ensures.err (λ m. let t = c.is_memory.ensures.1 m in cc)))
    ]
