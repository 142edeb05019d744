use Rattle.setup_model.specs.ParsedViews.{dependency}
use Rattle.setup_model.specs.Ends.{has_known_ends}
use Rattle.setup_model.proofs.DefaultItems.{no_dependency}
use Rattle.check_objects.specs.Entries.{names_in}
use Rattle.check_objects.specs.Numbering.{offset_dependency}
use Rattle.check_objects.proofs.DependencyLemmas.{pushed_next}
use Rattle.check_objects.proofs.DependencyEndLemmas.{one_of_all}
use Rattle.check_objects.proofs.dependency_lists.number_dependencies.Goals as goal

pub number_dependency-requires-clause-known : goal.number_dependency-requires-clause-known
number_dependency-requires-clause-known g c =
    one_of_all (has_known_ends (names_in c.args.objects.now.entries)) dependency c.args.parsed.now c.loop-item.item-index no_dependency
    c.loop-item-test.true c.requires.known

pub loop-item-preserved : goal.loop-item-preserved
loop-item-preserved g c =
    pushed_next (offset_dependency c.args.others (names_in c.args.objects.now.entries)) dependency c.args.numbered.now.items c.loop-item.numbered.items
    c.push.new.self.items c.args.parsed.now c.loop-item.item-index no_dependency c.number_dependency.result c.loop-item.invariant c.loop-item-test.true
    c.in_ok-push.ensures.items c.number_dependency.ensures
