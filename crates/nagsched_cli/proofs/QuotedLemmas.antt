-- A text as JSON.
use Rattle.std.proofs.Common.{◌≡◌, ℕ, List, [], ◌∷◌, ◌++◌, ap, ap₂, ◌∙◌, append-nil}
use Rattle.json.specs.Print.{print, print_from, quoted}
use Rattle.json.specs.Token.{Token, string}

print_string : (text : List ℕ) → print (string text ∷ []) ≡ quoted text
unfolding print_from
print_string text = append-nil (quoted text)

-- what a writer that began with nothing holds after one text
pub one_string : (text items before : List ℕ) (old new : List Token) → before ≡ [] → old ≡ [] → new ≡ old ++ string text ∷ [] → items ≡ before ++ print new
    → items ≡ quoted text
one_string text items before old new b o n i =
    i ∙ ap₂ (λ x ts. x ++ print ts) b (n ∙ ap (λ ts. ts ++ string text ∷ []) o) ∙ print_string text
