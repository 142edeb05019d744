use Rattle.std.proofs.Common.{ℕ, List, ◌∷◌, [], ◌++◌, ◌∙◌, ap}
use Rattle.std.specs.Prelude.{codes}
use Rattle.std.proofs.lemmas.Result.{on_ok_weaker}
use Rattle.json.specs.Token.{key, string}
use Rattle.nagsched_protocol.proofs.json_text.put_explanation.Goals as goal

pub returns-in-Some : goal.returns-in-Some
returns-in-Some c =
    let member = λ (text : List ℕ). key (codes "explanation") ∷ string text ∷ [] in
    rw c.in-Some.is (
      c.put_text.ensures.0,
      on_ok_weaker c.put_text.result (λ h.
          h ∙ ap (λ (text : List ℕ). c.args.json.now.tokens ++ member text) c.as_str.ensures.value) c.put_text.ensures.1,
    )
