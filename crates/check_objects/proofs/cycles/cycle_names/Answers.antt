use Rattle.std.proofs.Common.{ap, ◌∙◌, map, string_bytes}
use Rattle.std.proofs.lemmas.List.{take_all}
use Rattle.check_objects.specs.Entries.{objects_in}
use Rattle.check_objects.specs.Cycles.{name_among}
use Rattle.check_objects.proofs.NamedCycleLemmas.{rotated_names}
use Rattle.check_objects.proofs.cycles.cycle_names.Goals as goal

pub returns : goal.returns
returns c =
    let name = name_among (objects_in c.args.hosts.now.entries c.args.services.now.entries) in
    let all = c.loop-number.invariant ∙ ap (map name) (take_all c.loop-number.number-index c.args.cycle.now c.loop-number-test.false) in record {
      place = c.place_of_least.result;
      within = c.place_of_least.ensures.within;
      least = c.place_of_least.ensures.least;
      told =
          rotated_names string_bytes name c.args.cycle.now c.loop-number.names.items c.rotate_left.new.self.items c.place_of_least.result all
          c.rotate_left.ensures.items;
    }
