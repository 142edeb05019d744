-- The text of a saved state, and the saved state that is read from a text.
use Rattle.std.specs.Prelude.{ℕ, List, length, Result, Err, ok_or, nat_lt, if◌then◌else◌}
use Rattle.serde_json.specs.Data.{Data}
use Rattle.serde_json.specs.Written.{compact_text}
use Rattle.setup_reader.specs.JsonTree.{tree_of}
use Rattle.setup_model.specs.Agreement.{◌>>=◌}
use Rattle.check_saved_state.specs.declared.fault.SavedFault.{SavedFault}
use Rattle.check_saved_state.specs.declared.fault.SavedFault.TheVariants as faults
use Rattle.check_saved_state.specs.Reading.{draft_in, format_test}
use Rattle.check_saved_state.specs.Saved.{Saved}
use Rattle.check_saved_state.specs.Tree.{saved_tree}
use Rattle.check_saved_state.specs.Verification.{verified_saved}

-- JSON's compact form of the tree, with nothing between its tokens and nothing at its end
abbrev pub saved_text : Saved → List ℕ
saved_text saved = compact_text (saved_tree saved)

-- the saved state in a tree, or its first refusal
abbrev pub saved_of_tree : Data → Result Saved SavedFault
saved_of_tree tree = do
  format ← format_test tree
  draft ← draft_in tree
  verified_saved draft

-- the tree of a text, or why it has none
abbrev pub saved_tree_of : List ℕ → Result Data SavedFault
saved_tree_of text = if nat_lt 16777216 (length text) then Err faults.TooLong else ok_or (tree_of text) faults.NotJson

-- the saved state in a text, or its first refusal
abbrev pub saved_of_text : List ℕ → Result Saved SavedFault
saved_of_text text = saved_tree_of text >>= saved_of_tree
