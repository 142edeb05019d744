use Rattle.std.proofs.Common.{List, ◌∷◌, [], ◌++◌, refl}
use Rattle.std.specs.Prelude.{codes}
use Rattle.json.specs.Token.{Token, begin_object, boolean, end_object, key, string}
use Rattle.nagsched_protocol.specs.JsonText.{members_of, time_token}
use Rattle.nagsched_protocol.specs.Text.{attempt_field, kind_field, state_field}
use Rattle.nagsched_protocol.proofs.JsonLemmas.{both, then_puts}
use Rattle.nagsched_protocol.proofs.json_text.put_listed.Goals as goal

pub returns : goal.returns
returns c =
    let s = c.args.standing in
    let first : List Token = begin_object ∷ [] in
    let state = members_of (state_field s ∷ kind_field s ∷ attempt_field s ∷ []) in
    let flapping : List Token = key (codes "flapping") ∷ boolean s.flapping ∷ [] in
    let next : List Token = key (codes "next_check") ∷ time_token c.args.next ∷ [] in
    let run : List Token = key (codes "run") ∷ time_token c.args.run ∷ [] in
    let name : List Token = key (codes "name") ∷ string c.args.name.now ∷ [] in
    let begun = c.in_ok-begin_object.ensures in
    let ended = c.end_object.ensures in
    let one = both _ _ _ first state (begun.room.0, begun.ok) c.in_ok-put_state.ensures in
    let two = both _ _ _ (first ++ state) flapping one c.in_ok-put_flag.ensures in
    let three = both _ _ _ ((first ++ state) ++ flapping) next two c.in_ok-put_time.ensures in
    let four = both _ _ _ (((first ++ state) ++ flapping) ++ next) run three c.in_ok-put_time-2.ensures in
    let five = both _ _ _ ((((first ++ state) ++ flapping) ++ next) ++ run) name four c.in_ok-put_text.ensures in
    then_puts c.end_object.result _ _ _ (((((first ++ state) ++ flapping) ++ next) ++ run) ++ name) (end_object ∷ []) _ five (ended.room.0, ended.ok) refl
