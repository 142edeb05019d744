use Rattle.std.proofs.Common.{map, string_bytes}
use Rattle.std.specs.Prelude.{codes}
use Rattle.std.proofs.lemmas.Result.{on_ok_weaker}
use Rattle.setup_diagnostics.specs.Cycles.{cycle_text}
use Rattle.setup_diagnostics.proofs.PieceLemmas.{two_pieces}
use Rattle.setup_diagnostics.proofs.cycle.push_parent_cycle.Goals as goal

pub returns : goal.returns
returns c =
    on_ok_weaker c.push_cycle.result (two_pieces c.args.line.now c.push_words.new.self c.push_cycle.new.line (codes "parents")
    (cycle_text (map string_bytes c.args.cycle.now)) c.in_ok-push_words.ensures.text) c.push_cycle.ensures
