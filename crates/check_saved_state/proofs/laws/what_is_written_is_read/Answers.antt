use Rattle.check_saved_state.proofs.InverseLemmas.{fits, inverse}
use Rattle.check_saved_state.proofs.SavedLemmas.{read_by}
use Rattle.check_saved_state.proofs.laws.what_is_written_is_read.Goals as goal

pub returns : goal.returns
returns c = record {
  fits = λ saved is. fits saved is;
  inverse = λ saved is. inverse saved is;
  again = λ text saved e. inverse saved (read_by text saved e);
}
