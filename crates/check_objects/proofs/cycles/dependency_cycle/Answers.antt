use Rattle.std.proofs.Common.{◌<◌, ap, get_or, length, subst, sym, ◌∙◌}
use Rattle.setup_model.specs.ParsedViews.{parsed_view}
use Rattle.check_objects.specs.Configuration.{masters_of}
use Rattle.check_objects.specs.Numbering.{configuration}
use Rattle.check_objects.specs.Cycles.{part_at}
use Rattle.check_objects.proofs.CycleLemmas.{cyclic_dependencies}
use Rattle.check_objects.proofs.NamedCycleLemmas.{cycle_below, host_count_is, named_cycle, objects_are, same_part}
use Rattle.check_objects.proofs.cycles.dependency_cycle.Goals as goal

pub cycle_names-requires-clause-within : goal.cycle_names-requires-clause-within
cycle_names-requires-clause-within c =
    let ds = parsed_view c.args.parsed.now in
    let objects = objects_are (configuration ds) c.args.hosts.now.entries c.args.services.now.entries c.requires.hosts c.requires.services in
    λ place h.
    subst (λ n. get_or c.args.cycle.now place 0 < n) (ap length (sym objects)) (cycle_below ds c.requires.faultless c.args.cycle.now c.requires.cycle place h)

pub returns : goal.returns
returns c =
    let ds = parsed_view c.args.parsed.now in
    let conf = configuration ds in
    let hosts = c.args.hosts.now.entries in
    let services = c.args.services.now.entries in
    let count = c.len.ensures.len ∙ host_count_is conf hosts services c.requires.hosts c.requires.services in (
      record {
        cycle =
            named_cycle conf hosts services c.requires.hosts c.requires.services (masters_of conf) c.args.cycle.now _ c.requires.cycle
            c.in_ok-names.ensures;
        sort = λ i h.
            same_part ds c.requires.faultless c.args.cycle.now c.requires.cycle i h
            ∙ ap (λ n. part_at n (get_or c.args.cycle.now 0 0)) (sym count) ∙ sym c.part_at-part.ensures;
      },
      cyclic_dependencies conf c.requires.cyclic,
    )
