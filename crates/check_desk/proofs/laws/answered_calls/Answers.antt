use Rattle.check_desk.specs.Passes.{pass_of}
use Rattle.check_desk.proofs.AnsweredLemmas.{made_after}
use Rattle.check_desk.proofs.laws.answered_calls.Goals as goal

pub returns : goal.returns
returns c = record {
  made = λ opened s is call reply before after asked more. made_after opened s is call reply (pass_of before) (pass_of after) asked more;
}
