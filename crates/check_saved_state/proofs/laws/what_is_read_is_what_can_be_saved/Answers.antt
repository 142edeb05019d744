use Rattle.check_saved_state.proofs.SavedLemmas.{read_by}
use Rattle.check_saved_state.proofs.VerifiedLemmas.{verified_is}
use Rattle.check_saved_state.proofs.laws.what_is_read_is_what_can_be_saved.Goals as goal

pub returns : goal.returns
returns c = record { lawful = λ text saved e. read_by text saved e; tests = λ saved is. verified_is saved is }
