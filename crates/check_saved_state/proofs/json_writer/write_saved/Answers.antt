use Rattle.std.proofs.Common.{rules, [], ◌∷◌}
use Rattle.std.specs.Prelude.{codes}
use Rattle.json.specs.Token.{begin_object, end_object, key}
use Rattle.check_saved_state.proofs.WriteLemmas.{adds_as, adds_then, adds_token}
use Rattle.check_saved_state.proofs.json_writer.write_saved.Goals as goal

pub returns-clause-written : goal.returns-clause-written
returns-clause-written c =
    let r = c.end_object.result in
    adds_as r _ _ _ (begin_object ∷ []) _ _ (record { front = c.in_ok-begin_object.ensures.room.0; added = c.in_ok-begin_object.ensures.ok })
    (adds_then r _ _ _ _ _ c.in_ok-write_number.ensures
    (adds_then r _ _ _ (key (codes "objects") ∷ []) _ (record { front = c.in_ok-key.ensures.room.0; added = c.in_ok-key.ensures.ok })
    (adds_then r _ _ _ _ _ c.in_ok-write_objects.ensures
    (adds_then r _ _ _ _ _ c.in_ok-write_number-2.ensures
    (adds_then r _ _ _ _ _ c.in_ok-write_number-3.ensures (adds_token r _ _ end_object c.end_object.ensures)))))) (search rules)
