use Rattle.std.proofs.Common.{List, ℕ, ◌∷◌, [], ◌++◌, ◌∙◌, ap, ap₂}
use Rattle.std.specs.Prelude.{codes}
use Rattle.std.proofs.lemmas.Result.{IfOk-weaker}
use Rattle.json.specs.Token.{Token, key, string}
use Rattle.json.specs.Print.{print}
use Rattle.check_saved_state.specs.Text.{saved_text}
use Rattle.nagsched_protocol.specs.JsonText.{json_saved_line, saved_members}
use Rattle.nagsched_protocol.specs.Text.{line_of}
use Rattle.nagsched_protocol.proofs.JsonLemmas.{both}
use Rattle.nagsched_protocol.proofs.json_text.json_saved_line.Goals as goal

pub returns : goal.returns
unfolding json_saved_line
returns c =
    let put = c.in_ok-key.ensures in
    let answer : List Token = key (codes "answer") ∷ string (codes "saved") ∷ [] in
    let members = both _ _ _ answer (key (codes "saved") ∷ []) c.in_ok-put_text.ensures (put.room.0, put.ok) in
    let tokens = members.1 ∙ ap (λ (l : List Token). l ++ saved_members) c.in_ok-json.ensures.1 in
    let saved = c.deref.ensures.value ∙ c.in_ok-saved.ensures.text ∙ ap saved_text c.in_ok-save.ensures in
    IfOk-weaker c.end_with_text.result _ _ (λ text h. h
    ∙ ap₂ (λ (l : List Token) (s : List ℕ). line_of (print l ++ (s ++ codes "}"))) tokens saved) c.end_with_text.ensures
