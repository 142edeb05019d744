-- The criteria of a dependency, by the letters of their text.
use Rattle.std.specs.Prelude.{ℕ, ◌==◌, Bool, false, List, [], ◌∷◌, Option, Some, None, codes, bytes_eq}
use Rattle.std.specs.List.{list_any, list_all, slice_split}
use Rattle.setup_model.specs.declared.dependency.Criteria.{Criteria}
use Rattle.setup_reader.specs.JsonTree.{is_among}

-- the pieces of a text before, between and after its commas
abbrev pub pieces : List ℕ → List (List ℕ)
pieces text = slice_split (λ b. b == 44) text

-- Each piece is one of the letters. So the text has at least one letter, a comma between two letters, and nothing else.
abbrev pub are_letters : List (List ℕ) → List ℕ → Bool
are_letters letters text = list_all (is_among letters) (pieces text)

-- whether there is a text, and it has only these letters
abbrev pub has_only_letters : List (List ℕ) → Option (List ℕ) → Bool
has_only_letters letters None = false
has_only_letters letters (Some text) = are_letters letters text

-- whether a piece is this letter
abbrev pub has_letter : List ℕ → List ℕ → Bool
has_letter letter text = list_any (λ piece. bytes_eq piece letter) (pieces text)

-- the letters that pieces of a text are
unfoldable pub criteria_in : List ℕ → Criteria
criteria_in text = record {
  ok = has_letter (codes "o") text;
  warning = has_letter (codes "w") text;
  unknown = has_letter (codes "u") text;
  critical = has_letter (codes "c") text;
  down = has_letter (codes "d") text;
  pending = has_letter (codes "p") text;
  none = has_letter (codes "n") text;
}

-- the letters of criteria between services
abbrev pub service_letters : List (List ℕ)
service_letters = codes "o" ∷ codes "w" ∷ codes "u" ∷ codes "c" ∷ codes "p" ∷ codes "n" ∷ []

-- the letters of criteria between hosts
abbrev pub host_letters : List (List ℕ)
host_letters = codes "o" ∷ codes "u" ∷ codes "d" ∷ codes "p" ∷ codes "n" ∷ []
