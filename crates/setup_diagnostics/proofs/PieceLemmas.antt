-- Texts that are appended one after the other.
use Rattle.std.proofs.Common.{◌≡◌, ℕ, List, ◌++◌, ap, ◌∙◌, append_assoc}

pub two_pieces : (old first new a b : List ℕ) → first ≡ old ++ a → new ≡ first ++ b → new ≡ old ++ (a ++ b)
two_pieces old first new a b e f = f ∙ ap (λ x. x ++ b) e ∙ append_assoc old a b

pub three_pieces : (old first second new a b c : List ℕ) → first ≡ old ++ a → second ≡ first ++ b → new ≡ second ++ c → new ≡ old ++ (a ++ (b ++ c))
three_pieces old first second new a b c e f g = two_pieces old first new a (b ++ c) e (two_pieces first second new b c f g)

pub four_pieces : (old first second third new a b c d : List ℕ) → first ≡ old ++ a → second ≡ first ++ b → third ≡ second ++ c → new ≡ third ++ d
    → new ≡ old ++ (a ++ (b ++ (c ++ d)))
four_pieces old first second third new a b c d e f g h =
    two_pieces old first new a (b ++ (c ++ d)) e (three_pieces first second third new b c d f g h)
