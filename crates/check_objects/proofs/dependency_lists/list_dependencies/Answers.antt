use Rattle.std.proofs.Common.{◌≡◌, map, ap, subst, ◌∙◌}
use Rattle.std.specs.Prelude.{IfOk}
use Rattle.setup_model.specs.ParsedViews.{dependency, parsed_view}
use Rattle.check_objects.proofs.DependencyEndLemmas.{all_numbered}
use Rattle.check_objects.proofs.dependency_lists.list_dependencies.Goals as goal

pub list_by_dependent-requires : goal.list_by_dependent-requires
list_by_dependent-requires c =
    let are = all_numbered c.args.hosts.now.entries c.args.services.now.entries (parsed_view c.args.parsed.now) _ _ _ _ _ _ c.deref-3.result.now
    c.requires.apart (ap (map dependency) c.deref.ensures.value) (ap (map dependency) c.deref-2.ensures.value)
    c.len-host_count.ensures.len c.len.ensures.len c.requires.of_services c.requires.of_hosts
    c.new-numbered.ensures.items c.in_ok-number_dependencies.ensures (c.deref-3.ensures.value ∙ c.in_ok-number_dependencies-2.ensures) in
    are.dependents

pub returns : goal.returns
returns c =
    let are = all_numbered c.args.hosts.now.entries c.args.services.now.entries (parsed_view c.args.parsed.now) _ _ _ _ _ _ c.deref-3.result.now
    c.requires.apart (ap (map dependency) c.deref.ensures.value) (ap (map dependency) c.deref-2.ensures.value)
    c.len-host_count.ensures.len c.len.ensures.len c.requires.of_services c.requires.of_hosts
    c.new-numbered.ensures.items c.in_ok-number_dependencies.ensures (c.deref-3.ensures.value ∙ c.in_ok-number_dependencies-2.ensures) in
    subst (λ lists. IfOk c.list_by_dependent.result (λ found. map (λ list. list.items) found.items ≡ lists)) are.lists c.list_by_dependent.ensures
