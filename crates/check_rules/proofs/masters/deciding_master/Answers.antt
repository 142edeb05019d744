use Rattle.std.proofs.Common.{rules}
use Rattle.check_rules.proofs.InheritLemmas.{decided}
use Rattle.check_rules.proofs.masters.deciding_master.Goals as goal

pub returns-clause-value : goal.returns-clause-value
returns-clause-value c =
    decided c.args.setup.now c.args.standings.now c.args.n c.dependencies-dependencies.result.now _ c.requires.valid_setup c.requires.in_range
    c.dependencies-dependencies.ensures.dependencies (search rules) (search rules) (search rules)
