use Rattle.check_objects.specs.WellFormed.{configuration_of}
use Rattle.check_objects.proofs.SetupLemmas.{few_in_all}
use Rattle.check_objects.proofs.setup.Setup.number.Goals as goal

pub object_number-requires : goal.object_number-requires
object_number-requires c = few_in_all (configuration_of c.self.inside) c.self.invariant.setup.bounded

pub returns : goal.returns
returns c = rw (← c.self.view_is) c.object_number.ensures
