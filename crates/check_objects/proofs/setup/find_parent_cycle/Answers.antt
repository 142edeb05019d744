use Rattle.std.proofs.Common.{◌≡◌, ℕ, ◌≤◌, List, sym, ap, ◌∙◌, length, map, Ok, arith}
use Rattle.std.proofs.lemmas.List.{length-map}
use Rattle.setup_model.specs.ParsedSetup.{ParsedSetup}
use Rattle.setup_model.specs.ParsedViews.{parsed_view}
use Rattle.setup_reader.specs.Verification.{verification}
use Rattle.check_objects.specs.Numbering.{configuration}
use Rattle.setup_order.specs.Cycles.{has_cycle}
use Rattle.setup_order.proofs.ChainLemmas.{order_has_no_cycle}
use Rattle.check_objects.proofs.SetupLemmas.{few_host_entries, hosts_are_linked, parents_within}
use Rattle.check_objects.proofs.setup.find_parent_cycle.Goals as goal

few_links : {L : Type 0} (items : L → List ℕ) (links : List L) (ds : ParsedSetup) → map items links ≡ map (λ h. h.parents) (configuration ds).hosts → verification ds ≡ Ok tt
    → length links ≤ 4096
few_links items links ds are e =
    omega (arith, few_host_entries ds e, length-map links items, ap length are, length-map (configuration ds).hosts (λ h. h.parents))

pub topological_order-requires-clause-bounded : goal.topological_order-requires-clause-bounded
topological_order-requires-clause-bounded c =
    let ds = parsed_view c.args.parsed.now in
    let are = ap (map (λ l. l.items)) c.deref.ensures.value ∙ c.in_ok-links.ensures ∙ ap (map (λ h. h.parents)) c.requires.hosts in
    omega (arith, few_links (λ l. l.items) c.deref.result.now ds are c.requires.faultless)

pub topological_order-requires-clause-within : goal.topological_order-requires-clause-within
topological_order-requires-clause-within c =
    let ds = parsed_view c.args.parsed.now in
    let are = ap (map (λ l. l.items)) c.deref.ensures.value ∙ c.in_ok-links.ensures ∙ ap (map (λ h. h.parents)) c.requires.hosts in
    parents_within (λ l. l.items) (configuration ds).hosts c.deref.result.now are (hosts_are_linked ds)

pub returns-in-Order : goal.returns-in-Order
returns-in-Order c =
    let order = rw c.in-Order.is at c.in_ok-topological_order.ensures in
    let are = ap (map (λ l. l.items)) c.deref.ensures.value ∙ c.in_ok-links.ensures ∙ ap (map (λ h. h.parents)) c.requires.hosts in
    ap has_cycle (sym are) ∙ order_has_no_cycle _ _ order
