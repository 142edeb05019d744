-- Histories: lists of entries, and the single thread that could have made the same calls.
use Rattle.std.specs.Prelude.{◌≡◌, ℕ, List, [], ◌∷◌, cond, ◌==◌}
use Rattle.std.specs.Coded.{×_prop, Unit-prop}
use Rattle.ticket_steps.specs.declared.books.Entry.{Entry}

module _ {C R : Type 0} where
  -- the entry of one call, under the number of the seat that made it
  abbrev pub entry : ℕ → C → R → Entry C R
  entry number call reply = record { pass = number; call = call; reply = reply }

  -- the entries of one number, in their order
  abbrev pub of : ℕ → List (Entry C R) → List (Entry C R)
  of number [] = []
  of number (e ∷ es) = cond (e.pass == number) (e ∷ of number es) (of number es)

  module _ {S : Type 0} (step : S → C → S × R) where
    -- the state after the calls of a history, made one after another
    abbrev pub replay : S → List (Entry C R) → S
    replay state [] = state
    replay state (e ∷ es) = replay (step state e.call).0 es

    -- each reply is the sequential step's at its point
    abbrev pub IsLegal : S → List (Entry C R) → Type 0
    IsLegal state [] = Unit {0}
    IsLegal state (e ∷ es) = (e.reply ≡ (step state e.call).1) × IsLegal (step state e.call).0 es

    -- a history is legal in at most one way, if two replies are equal in at most one way
    pub IsLegal-prop : ((a b : R) → IsProp (a ≡ b)) → (state : S) (es : List (Entry C R)) → IsProp (IsLegal state es)
    IsLegal-prop set state [] = Unit-prop
    IsLegal-prop set state (e ∷ es) = ×_prop (set _ _) (IsLegal-prop set (step state e.call).0 es)
