use Rattle.std.proofs.Common.{◌∙◌, ap}
use Rattle.std.specs.Prelude.{is_none}
use Rattle.setup_model.proofs.NameLemmas.{is_name_without_fault}
use Rattle.setup_model.proofs.name.is_name.Goals as goal

pub returns-in-Some : goal.returns-in-Some
returns-in-Some c = ap is_none c.in-Some.ensures ∙ is_name_without_fault c.args.name.now

pub returns-in-None : goal.returns-in-None
returns-in-None c = ap is_none c.in-None.ensures ∙ is_name_without_fault c.args.name.now
