use Rattle.std.proofs.Common.{arith}
use Rattle.setup_order.proofs.DependentLemmas.{push_in}
use Rattle.setup_order.proofs.lists.push_to_list.Goals as goal

pub returns-clause-pushed : goal.returns-clause-pushed
returns-clause-pushed g c =
    push_in (λ list. list.items) c.args.lists.now.items c.args.place c.args.item c.push.new.self c.index_mut.result.now
    c.index_mut.result.now (omega (arith, c.args.lists.now.ok.0, c.requires)) c.index_mut.ensures.value c.in_ok-push.ensures.ok
