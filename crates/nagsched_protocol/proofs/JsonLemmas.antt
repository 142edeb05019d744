-- Tokens that are appended one after another. A writer is seen as what stood before, and its tokens.
use Rattle.std.proofs.Common.{◌≡◌, ℕ, List, ◌∷◌, [], ◌++◌, Result, Ok, Err, ap, sym, refl, ◌∙◌, append_assoc}
use Rattle.std.specs.Prelude.{OnOk}
use Rattle.json.specs.Token.{Token}
use Rattle.nagsched_protocol.specs.JsonText.{field_tokens, members_of}
use Rattle.nagsched_protocol.specs.Text.{Field}

-- both were appended
pub both : {b b' b'' : List ℕ} (t t' t'' x y : List Token) → (b' ≡ b) × (t' ≡ t ++ x) → (b'' ≡ b') × (t'' ≡ t' ++ y)
    → (b'' ≡ b) × (t'' ≡ t ++ (x ++ y))
both t t' t'' x y first second = (second.0 ∙ first.0, second.1 ∙ ap (λ l. l ++ y) first.1 ∙ append_assoc t x y)

-- the last of them may fail
pub then_puts : {E : Type 0} (r : Result (Unit {0}) E) {b b' b'' : List ℕ} (t t' t'' x y all : List Token)
    → (b' ≡ b) × (t' ≡ t ++ x) → (b'' ≡ b') × OnOk r (t'' ≡ t' ++ y) → x ++ y ≡ all → (b'' ≡ b) × OnOk r (t'' ≡ t ++ all)
then_puts (Ok u) t t' t'' x y all first last same =
    (last.0 ∙ first.0, last.1 ∙ ap (λ l. l ++ y) first.1 ∙ append_assoc t x y ∙ ap (λ l. t ++ l) same)
then_puts (Err e) t t' t'' x y all first last same = (last.0 ∙ first.0, tt)

-- members and what follows them
pub members_more : (fs gs : List Field) → members_of (fs ++ gs) ≡ members_of fs ++ members_of gs
members_more [] gs = refl
members_more (f ∷ fs) gs = ap (λ l. field_tokens f ++ l) (members_more fs gs) ∙ sym (append_assoc (field_tokens f) (members_of fs) (members_of gs))
