use Rattle.std.proofs.Common.{map, string_bytes}
use Rattle.setup_model.specs.ParsedViews.{parsed_view}
use Rattle.check_objects.specs.Numbering.{configuration}
use Rattle.check_objects.proofs.CycleLemmas.{acyclic_masters, parents_refuse}
use Rattle.check_objects.proofs.SetupLemmas.{has_lists, few_lists, masters_within}
use Rattle.check_objects.proofs.setup.order_without_cycles.Goals as goal

pub dependency_order-requires-clause-bounded : goal.dependency_order-requires-clause-bounded
dependency_order-requires-clause-bounded c =
    let ds = parsed_view c.args.parsed.now in
    few_lists (λ list. list.items) c.args.dependencies.now (configuration ds) (has_lists ds c.requires.faultless) c.requires.dependencies

pub dependency_order-requires-clause-within : goal.dependency_order-requires-clause-within
dependency_order-requires-clause-within c =
    let ds = parsed_view c.args.parsed.now in
    masters_within (λ list. list.items) c.args.dependencies.now (configuration ds) (has_lists ds c.requires.faultless) c.requires.dependencies

pub returns-in-Some-clause-refused : goal.returns-in-Some-clause-refused
returns-in-Some-clause-refused c =
    let ds = parsed_view c.args.parsed.now in
    let free = acyclic_masters ds _ _ c.requires.dependencies (rw c.in-Order.is at c.in_ok-order.ensures) in
    parents_refuse ds (map string_bytes c.in-Some.cycle.items) free (rw c.in-Some.is at c.in_ok-cycle.ensures)
