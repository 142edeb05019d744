use Rattle.std.proofs.Common.{rules, sym}
use Rattle.check_states.proofs.BoardLemmas.{word_back}
use Rattle.check_states.proofs.board.decode.Goals as goal

pub returns-clause-value : goal.returns-clause-value
returns-clause-value c = search rules

pub returns-clause-only : goal.returns-clause-only
returns-clause-only c = word_back c.args.word _ (sym (returns-clause-value c))
