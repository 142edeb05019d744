-- An input that is cut after whole lines, and the two inputs by which it is run in two parts.
use Rattle.std.specs.Prelude.{ℕ, List, ◌∷◌, ◌++◌, codes}
use Rattle.check_saved_state.specs.Text.{saved_text}
use Rattle.check_sched.specs.Saved.{saved_of}
use Rattle.check_sched.specs.State.{State}

-- the whole: a setup document, whole lines, and the bytes after the cut
abbrev pub whole_input : List ℕ → List ℕ → List ℕ → List ℕ
whole_input document front rest = document ++ 10 ∷ (front ++ rest)

-- the first part: it ends with the command `save`
abbrev pub first_part : List ℕ → List ℕ → List ℕ
first_part document front = document ++ 10 ∷ (front ++ codes "[\"save\"]")

-- the second part: the same document, the saved state of a scheduler in this state, and the bytes after the cut
abbrev pub second_part : List ℕ → State → List ℕ → List ℕ
second_part document s rest = document ++ 10 ∷ (saved_text (saved_of s) ++ 10 ∷ rest)
