-- The explanation of a fault, from the tree of the document that has it.
use Rattle.std.specs.Prelude.{◌≡◌, ℕ, List, [], ◌++◌, Option, Some, None, codes, decimal}
use Rattle.serde_json.specs.Data.{Data, null}
use Rattle.serde_json.specs.View.{view}
use Rattle.setup_model.specs.declared.fault.Fault as declared
use Rattle.setup_model.specs.declared.fault.Fault.TheVariants as faults
use Rattle.setup_model.specs.declared.fault.JsonPosition.{JsonPosition}
use Rattle.setup_model.specs.Fault as fault
use Rattle.setup_model.specs.Fault.{Fault}
use Rattle.setup_diagnostics.specs.Counts.{count_text}
use Rattle.setup_diagnostics.specs.Cycles.{dependency_cycle_text, parent_cycle_text}
use Rattle.setup_diagnostics.specs.JsonFaults.{reason_text}
use Rattle.setup_diagnostics.specs.Names.{bad_name_text, duplicate_text, unknown_end_text, unknown_host_text, unknown_parent_text}
use Rattle.setup_diagnostics.specs.Ranges.{range_text}
use Rattle.setup_diagnostics.specs.Shapes.{IsShapeText}
use Rattle.setup_diagnostics.specs.declared.explanation.Document.{Document}
use Rattle.setup_diagnostics.specs.declared.explanation.Document.TheVariants as document

-- the tree, or null for a document that wasn't read
abbrev pub tree_or_null : Option Data → Data
tree_or_null None = null
tree_or_null (Some tree) = tree

-- the tree of a document, or null if it has none
abbrev pub tree_in : Document → Data
tree_in (document.Tree tree) = view tree.now
tree_in (document.Bytes bytes) = null

-- the bytes of a document without a tree
abbrev pub bytes_of : Document → List ℕ
bytes_of (document.Tree tree) = []
bytes_of (document.Bytes bytes) = bytes.now

abbrev pub too_long_text : List ℕ
too_long_text = codes "the document has more than " ++ (decimal 16777216 ++ codes " bytes")

-- the whole line; `IsShapeText` defines it for a fault of shape, and `IsNotJsonText` for the position at which reading stops
abbrev pub IsExplanation : Data → Fault → List ℕ → Type 0
IsExplanation tree fault.too_long text = text ≡ too_long_text
IsExplanation tree fault.not_json text = Unit {0}
IsExplanation tree (fault.shape p w) text = IsShapeText tree p w text
IsExplanation tree (fault.too_many c n) text = text ≡ count_text c n
IsExplanation tree (fault.bad_name p w) text = text ≡ bad_name_text tree p w
IsExplanation tree (fault.duplicate p earlier) text = text ≡ duplicate_text tree p earlier
IsExplanation tree (fault.unknown_parent h i) text = text ≡ unknown_parent_text tree h i
IsExplanation tree (fault.unknown_host s) text = text ≡ unknown_host_text tree s
IsExplanation tree (fault.unknown_end p w) text = text ≡ unknown_end_text tree p w
IsExplanation tree (fault.range p w) text = text ≡ range_text tree p w
IsExplanation tree (fault.dependency_cycle p cycle) text = text ≡ dependency_cycle_text p cycle
IsExplanation tree (fault.parent_cycle cycle) text = text ≡ parent_cycle_text cycle
IsExplanation tree fault.memory text = text ≡ codes "memory ran out; that says nothing of the document"

-- the position at which reading stops in a document that isn't JSON, and why it stops there
abbrev pub json_position_text : List ℕ → JsonPosition → List ℕ
json_position_text bytes u = codes "line " ++ (decimal u.line ++ (codes ", column " ++ (decimal u.column ++ reason_text bytes u)))

abbrev pub IsNotJsonText : List ℕ → declared.Fault → List ℕ → Type 0
IsNotJsonText bytes (faults.NotJson u) text = text ≡ json_position_text bytes u
IsNotJsonText bytes other text = Unit {0}
