use Rattle.std.proofs.Common.{map, ◌∙◌, sym}
use Rattle.std.proofs.lemmas.List.{length-map}
use Rattle.setup_summary.proofs.DepthLemmas.{longest_in_cycle}
use Rattle.setup_summary.proofs.depths.longest_chain.Goals as goal

pub returns : goal.returns
returns c =
    let links = map (λ list. list.items) c.args.links.now in
    let cyclic = (rw c.in-Cycle.is at c.in_ok-order.ensures).0 in
    sym (length-map c.args.links.now (λ list. list.items)) ∙ longest_in_cycle links cyclic
