use Rattle.serde_json.specs.View.{view}
use Rattle.setup_reader.proofs.FeedLemmas.{compact_free}
use Rattle.setup_diagnostics.proofs.LineLemmas.{shallow_tree, tree_is}
use Rattle.setup_diagnostics.proofs.document_line.compact_document.Goals as goal

pub returns-clause-same : goal.returns-clause-same
returns-clause-same c = λ document is.
    tree_is c.in-Ok.line.items (view c.args.tree.now) c.in-Ok.ensures.utf8 (c.in-Ok.ensures.reads_back (shallow_tree document (view c.args.tree.now) is))

pub returns-clause-one_line : goal.returns-clause-one_line
returns-clause-one_line c = compact_free c.in-Ok.line.items c.in-Ok.ensures.compact
