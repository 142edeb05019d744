use Rattle.std.proofs.Common.{◌++◌}
use Rattle.std.specs.Prelude.{codes, decimal}
use Rattle.std.proofs.lemmas.Result.{on_ok_weaker}
use Rattle.json.specs.Print.{quoted}
use Rattle.setup_diagnostics.proofs.GrowthLemmas.{has_number}
use Rattle.setup_diagnostics.proofs.layout.Layout.number.Goals as goal

pub returns-clause-written : goal.returns-clause-written
returns-clause-written c =
    on_ok_weaker c.push_number.result (has_number (quoted c.args.name.now ++ codes ": ") (decimal c.args.number) c.begin.new.self c.push_number.new.self
    c.in_ok-begin.ensures.ends) c.push_number.ensures
