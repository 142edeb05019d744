use Rattle.check_objects.proofs.NameLemmas.{name_leads_back, names_of_setup}
use Rattle.check_objects.proofs.laws.names_lead_back.Goals as goal

pub returns : goal.returns
returns c = λ setup n is below. name_leads_back setup (names_of_setup setup is) n below
