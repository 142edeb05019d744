-- The bytes that a writer holds after writes that a fault may have cut short.
use Rattle.std.specs.Prelude.{◌≡◌, ◌≢◌, ◌⊎◌, ℕ, List, [], ◌∷◌, Option, ◌++◌}
use Rattle.std.specs.Io.KnownBytes.{Appends, Keeps}

-- these bytes end a line
abbrev pub EndsLine : List ℕ → Type 0
EndsLine bytes = (xs : List ℕ) × (bytes ≡ xs ++ 10 ∷ [])

-- these bytes end a line, or there are no bytes
abbrev pub AreWholeLines : List ℕ → Type 0
AreWholeLines bytes = (bytes ≡ []) ⊎ EndsLine bytes

-- the writer took the text up to the beginning of `rest`, and no more
pub record WroteUpTo (old new : Option (List ℕ)) (text rest : List ℕ) : Type 0 where
  pub front : List ℕ
  pub parts : text ≡ front ++ rest
  pub appended : Appends old new front

-- the writer took some prefix of the text, and no more
abbrev pub WroteFront : Option (List ℕ) → Option (List ℕ) → List ℕ → Type 0
WroteFront old new text = (rest : List ℕ) × WroteUpTo old new text rest

-- the same, and the bytes that it took are whole lines
abbrev pub WroteLinesUpTo : Option (List ℕ) → Option (List ℕ) → List ℕ → List ℕ → Type 0
WroteLinesUpTo old new text rest = (wrote : WroteUpTo old new text rest) × AreWholeLines wrote.front

-- the writer took nothing, or whole lines from the beginning of the text that aren't all of it
abbrev pub WroteShort : Option (List ℕ) → Option (List ℕ) → List ℕ → Type 0
WroteShort old new text = Keeps old new ⊎ ((rest : List ℕ) × (rest ≢ []) × WroteLinesUpTo old new text rest)
