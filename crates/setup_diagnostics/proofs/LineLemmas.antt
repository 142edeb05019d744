-- The text of a tree is read to the same tree.
use Rattle.std.proofs.Common.{◌≡◌, ℕ, ◌≤◌, Bool, true, false, cond, List, Option, Some, None, refl}
use Rattle.std.specs.Prelude.{IsUtf8}
use Rattle.std.specs.Str.{is_utf8}
use Rattle.std.proofs.lemmas.Str.{is_utf8-from_IsUtf8}
use Rattle.serde_json.specs.Data.{Data, depth}
use Rattle.serde_json.specs.Read.{read, max_depth}
use Rattle.serde_json.proofs.Nesting.{depth-read}
use Rattle.setup_reader.specs.JsonTree.{tree_of}

read_by : (b : Bool) (r : Option Data) (d : Data) → cond b r None ≡ Some d → r ≡ Some d
read_by true r d e = e
read_by false r d e = cc

-- the tree of a document nests as deep as `serde_json` reads
pub shallow_tree : (bytes : List ℕ) (d : Data) → tree_of bytes ≡ Some d → depth d ≤ max_depth
unfolding tree_of
shallow_tree bytes d e = depth-read bytes d (read_by (is_utf8 bytes) (read bytes) d e)

pub tree_is : (bytes : List ℕ) (d : Data) → IsUtf8 bytes → read bytes ≡ Some d → tree_of bytes ≡ Some d
unfolding tree_of
tree_is bytes d u e = rw (is_utf8-from_IsUtf8 bytes u, e) refl
