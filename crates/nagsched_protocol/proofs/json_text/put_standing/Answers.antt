use Rattle.std.proofs.Common.{ℕ, List, ◌∷◌, [], ◌++◌, ap}
use Rattle.std.specs.Prelude.{codes}
use Rattle.json.specs.Token.{Token, boolean, key, string}
use Rattle.nagsched_protocol.specs.JsonText.{members_of}
use Rattle.nagsched_protocol.specs.Text.{attempt_field, kind_field, name_field, next_field, state_field}
use Rattle.nagsched_protocol.proofs.JsonLemmas.{both, then_puts}
use Rattle.nagsched_protocol.proofs.json_text.put_standing.Goals as goal

pub returns : goal.returns
returns c =
    let s = c.args.standing in
    let answer : List Token = key (codes "answer") ∷ string (codes "standing") ∷ [] in
    let state = members_of (state_field s ∷ kind_field s ∷ attempt_field s ∷ []) in
    let changed : List Token = key (codes "changed") ∷ boolean c.args.changed ∷ [] in
    let flapping : List Token = key (codes "flapping") ∷ boolean s.flapping ∷ [] in
    let next = λ (name : List ℕ). members_of (next_field c.args.next ∷ name_field name ∷ []) in
    let before = ((answer ++ state) ++ changed) ++ flapping in
    let one = both _ _ _ answer state c.in_ok-put_text.ensures c.in_ok-put_state.ensures in
    let two = both _ _ _ (answer ++ state) changed one c.in_ok-put_flag.ensures in
    let three = both _ _ _ ((answer ++ state) ++ changed) flapping two c.in_ok-put_flag-2.ensures in
    then_puts c.put_next.result _ _ _ before (next c.asked_name.result.now) _ three c.put_next.ensures
    (ap (λ (name : List ℕ). before ++ next name) c.asked_name.ensures.text)
