use Rattle.std.proofs.Common.{rules, [], ◌∷◌}
use Rattle.json.specs.Token.{begin_object}
use Rattle.check_saved_state.proofs.WriteLemmas.{adds_as, adds_then}
use Rattle.check_saved_state.proofs.json_writer.write_object.Goals as goal

pub returns : goal.returns
returns c =
    let r = c.write_from_flapping.result in
    adds_as r _ _ _ (begin_object ∷ []) _ _ (record { front = c.in_ok-begin_object.ensures.room.0; added = c.in_ok-begin_object.ensures.ok })
    (adds_then r _ _ _ _ _ c.in_ok-write_number.ensures
    (adds_then r _ _ _ _ _ c.in_ok-write_number-2.ensures
    (adds_then r _ _ _ _ _ c.in_ok-write_switch.ensures
    (adds_then r _ _ _ _ _ c.in_ok-write_switch-2.ensures
    (adds_then r _ _ _ _ _ c.in_ok-write_switch-3.ensures c.write_from_flapping.ensures))))) (search rules)
