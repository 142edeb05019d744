-- The changes among results, one result after another. Contracts define the percentage by the sum over pairs, `changes_weight`. These definitions are
-- for the code that adds the changes up, and for the changes that it stores.
use Rattle.std.specs.Prelude.{ℕ, ◌+◌, List, [], ◌∷◌, if◌then◌else◌}
use Rattle.check_states.specs.declared.state.State.{State}
use Rattle.check_states.specs.Board.{flag}
use Rattle.check_states.specs.State.{is_another_state}

-- The weight of the changes from one result to the last of those after it. The first of these changes has this weight.
abbrev pub weight_after : State → List State → ℕ → ℕ
weight_after before [] weight = 0
weight_after before (found ∷ rest) weight = (if is_another_state found before then weight else 0) + weight_after found rest (weight + 2)

-- the number of changes from one result through the results after it
abbrev pub changes_after : State → List State → ℕ
changes_after before [] = 0
changes_after before (found ∷ rest) = flag (is_another_state found before) + changes_after found rest

-- the number of changes among results
abbrev pub changes_in : List State → ℕ
changes_in [] = 0
changes_in (oldest ∷ rest) = changes_after oldest rest

-- the last of some results; without results, the one before them
abbrev pub last_after : State → List State → State
last_after before [] = before
last_after before (found ∷ rest) = last_after found rest
