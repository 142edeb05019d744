use Rattle.std.proofs.Common.{◌∙◌}
use Rattle.check_objects.proofs.NumberingLemmas.{insert_new}
use Rattle.check_objects.proofs.object_index.append.Goals as goal

pub returns : goal.returns
returns g c = c.in_ok-insert.ensures.entries ∙ insert_new _ _ _ c.requires
