use Rattle.std.proofs.Common.{rules}
use Rattle.check_states.proofs.BoardLemmas.{coded_back}
use Rattle.check_states.proofs.board.code.Goals as goal

pub returns-clause-read : goal.returns-clause-read
returns-clause-read c =
    rw (
      c.flag.ensures.value,
      c.from.ensures,
      c.number.ensures.value,
      c.from-2.ensures,
      c.number-2.ensures.value,
      c.from-3.ensures,
      c.from-4.ensures,
      c.number-3.ensures.value,
      c.flag-2.ensures.value,
    ) (coded_back c.args.standing (search rules))
