use Rattle.std.proofs.Common.{rules}
use Rattle.check_saved_state.proofs.WriteLemmas.{adds_as, adds_then}
use Rattle.check_saved_state.proofs.json_writer.write_from_name.Goals as goal

pub returns : goal.returns
returns c =
    adds_as c.write_from_results.result _ _ _ _ _ _ c.in_ok-write_text.ensures
    (adds_then c.write_from_results.result _ _ _ _ _ c.in_ok-write_time.ensures c.write_from_results.ensures) (search rules)
