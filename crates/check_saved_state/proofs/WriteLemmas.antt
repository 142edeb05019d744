-- What was written in two steps.
use Rattle.std.proofs.Common.{◌≡◌, List, [], ◌∷◌, ◌++◌, OnOk, Result, Ok, Err, ap, subst, ◌∙◌, append_assoc}
use Rattle.json.specs.Token.{Token}
use Rattle.json.specs.Written.{Written, Writes}
use Rattle.check_saved_state.specs.Tree.{Adds}

pub adds_then : {E : Type 0} (r : Result (Unit {0}) E) (a b c : Written) (ts us : List Token) → Adds a b ts → OnOk r (Adds b c us) → OnOk r (Adds a c (ts ++ us))
adds_then (Ok u) a b c ts us h k = record {
  front = k.front ∙ h.front;
  added = k.added ∙ ap (λ l. l ++ us) h.added ∙ append_assoc a.tokens ts us;
}
adds_then (Err e) a b c ts us h k = k

pub adds_as : {E : Type 0} (r : Result (Unit {0}) E) (a b c : Written) (ts us whole : List Token) → Adds a b ts → OnOk r (Adds b c us) → ts ++ us ≡ whole
    → OnOk r (Adds a c whole)
adds_as r a b c ts us whole h k e = subst (λ l. OnOk r (Adds a c l)) e (adds_then r a b c ts us h k)

pub adds_token : {E : Type 0} (r : Result (Unit {0}) E) (a b : Written) (t : Token) → Writes r a b t → OnOk r (Adds a b (t ∷ []))
adds_token (Ok u) a b t w = record { front = w.room.0; added = w.ok }
adds_token (Err e) a b t w = w.ok
