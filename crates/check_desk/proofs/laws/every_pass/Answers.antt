use Rattle.check_desk.proofs.PassLemmas.{bounded_calls, bounded_numbers, new_at, own_number, seen_history, nonempty_numbers}
use Rattle.check_desk.specs.Passes.{opening_calls}
use Rattle.check_desk.proofs.laws.every_pass.Goals as goal

pub returns : goal.returns
returns c = record {
  legal = λ desk pass is. seen_history desk pass is;
  own = λ pass. own_number pass;
  nonempty = λ pass. nonempty_numbers pass;
  bounded = λ pass. bounded_numbers pass;
  bounded_calls = λ pass. bounded_calls pass;
  new = λ desk number passes h k d lt. new_at opening_calls desk number passes k d h lt;
}
