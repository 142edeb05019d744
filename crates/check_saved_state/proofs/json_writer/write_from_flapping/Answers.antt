use Rattle.std.proofs.Common.{rules}
use Rattle.check_saved_state.proofs.WriteLemmas.{adds_as, adds_then}
use Rattle.check_saved_state.proofs.json_writer.write_from_flapping.Goals as goal

pub returns : goal.returns
returns c =
    let r = c.write_from_name.result in
    adds_as r _ _ _ _ _ _ c.in_ok-write_text.ensures
    (adds_then r _ _ _ _ _ c.in_ok-write_switch.ensures
    (adds_then r _ _ _ _ _ c.in_ok-write_text-2.ensures
    (adds_then r _ _ _ _ _ c.in_ok-write_text-3.ensures
    (adds_then r _ _ _ _ _ c.in_ok-write_number.ensures c.write_from_name.ensures)))) (search rules)
