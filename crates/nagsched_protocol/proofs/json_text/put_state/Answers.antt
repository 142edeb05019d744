use Rattle.std.proofs.Common.{List, ◌∷◌, [], ◌++◌, ap₂}
use Rattle.std.specs.Prelude.{codes, decimal, ℕ}
use Rattle.json.specs.Token.{Token, key, string, number}
use Rattle.nagsched_protocol.proofs.JsonLemmas.{both, then_puts}
use Rattle.nagsched_protocol.proofs.json_text.put_state.Goals as goal

pub returns : goal.returns
returns c =
    let state : List Token = key (codes "state") ∷ string c.state_text.result.now ∷ [] in
    let kind : List Token = key (codes "kind") ∷ string c.word.result.now ∷ [] in
    let attempt : List Token = key (codes "attempt") ∷ number (decimal c.args.standing.attempt) ∷ [] in
    then_puts c.put_number.result _ _ _ (state ++ kind) attempt _ (both _ _ _ state kind c.in_ok-put_text.ensures c.in_ok-put_text-2.ensures) c.put_number.ensures
    (ap₂ (λ (s : List ℕ) (k : List ℕ). key (codes "state") ∷ string s ∷ key (codes "kind") ∷ string k ∷ attempt) c.state_text.ensures.text c.word.ensures.text)
