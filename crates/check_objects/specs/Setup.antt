-- The setup of a document, or the document's first refusal. The tests follow the tree, its items and the numbers; no object depends on itself, and
-- no host is its own parent. The fault has the same refusal, and also the details that the failed test has found.
use Rattle.std.specs.Prelude.{◌≡◌, false, ℕ, true, List, length, Option, Some, None, Result, Ok, Err, ok_or, nat_lt, if◌then◌else◌}
use Rattle.serde_json.specs.Data.{Data}
use Rattle.setup_model.specs.declared.error.LoadError.{LoadError}
use Rattle.setup_model.specs.declared.error.LoadError.TheVariants as errors
use Rattle.check_objects.specs.Configuration.{Configuration, masters_of, parents_by_host}
use Rattle.setup_order.specs.Cycles.{has_cycle}
use Rattle.setup_model.specs.Agreement.{◌>>=◌, with_error}
use Rattle.setup_model.specs.ParsedSetup.{ParsedSetup}
use Rattle.setup_model.specs.Fault as faults
use Rattle.setup_model.specs.Fault.{Fault, load_error}
use Rattle.setup_reader.specs.JsonTree.{tree_of}
use Rattle.setup_reader.specs.Reading.{parsed_setup}
use Rattle.setup_reader.specs.Verification.{verification}
use Rattle.check_objects.specs.Numbering.{configuration}
use Rattle.check_objects.specs.Cycles.{IsCycleFault, IsParentCycle}

-- the tree of a document's bytes
abbrev pub document_tree : List ℕ → Result Data Fault
document_tree bytes = if nat_lt 16777216 (length bytes) then Err faults.too_long else ok_or (tree_of bytes) faults.not_json

-- the parsed setup of a tree, if it has no fault except for cycles
abbrev pub verified_setup : Data → Result ParsedSetup Fault
verified_setup d = parsed_setup d >>= λ parsed. (verification parsed >>= λ _. Ok parsed)

-- ---- the setup, or the refusal

-- the setup, unless some object depends on itself through one dependency or more
abbrev pub without_dependency_cycle : Configuration → Result Configuration LoadError
without_dependency_cycle c = if has_cycle (masters_of c) then Err errors.DependencyCycle else Ok c

-- the setup, unless some host is its own parent through one parent or more
abbrev pub without_parent_cycle : Configuration → Result Configuration LoadError
without_parent_cycle c = if has_cycle (parents_by_host c) then Err errors.ParentCycle else Ok c

-- The setup, unless it has a cycle. A cycle of dependencies is reported before a cycle of parents.
abbrev pub without_cycles : Configuration → Result Configuration LoadError
without_cycles c = without_dependency_cycle c >>= without_parent_cycle

-- the setup of a tree
unfoldable pub setup_of_tree : Data → Result Configuration LoadError
setup_of_tree d = with_error load_error (verified_setup d) >>= λ parsed. without_cycles (configuration parsed)

-- the setup of a document's bytes
unfoldable pub setup_of : List ℕ → Result Configuration LoadError
setup_of bytes = with_error load_error (document_tree bytes) >>= setup_of_tree

-- ---- the fault

-- the fault of a tree: the first one of its parsed setup; if that has no fault except for cycles, one of the cycles
abbrev pub IsFaultBy : Result ParsedSetup Fault → Fault → Type 0
IsFaultBy (Err e) f = f ≡ e
IsFaultBy (Ok parsed) f = IsCycleFault (configuration parsed) f

abbrev pub IsFaultOfTree : Data → Fault → Type 0
IsFaultOfTree d f = IsFaultBy (verified_setup d) f

abbrev pub IsFaultIn : Result Data Fault → Fault → Type 0
IsFaultIn (Err e) f = f ≡ e
IsFaultIn (Ok d) f = IsFaultOfTree d f

-- the fault of a document's bytes
abbrev pub IsFaultOf : List ℕ → Fault → Type 0
IsFaultOf bytes f = IsFaultIn (document_tree bytes) f

-- The parsed setup is refused for this fault. None means that the code is out of memory, and says nothing.
abbrev pub AreRefusedFor : ParsedSetup → Option Fault → Type 0
AreRefusedFor ds None = Unit {0}
AreRefusedFor ds (Some f) = IsCycleFault (configuration ds) f × (without_cycles (configuration ds) ≡ Err (load_error f))

-- no host is its own parent, through one parent or more; or these hosts form a cycle
abbrev pub IsParentVerdict : ParsedSetup → Option (List (List ℕ)) → Type 0
IsParentVerdict ds None = has_cycle (parents_by_host (configuration ds)) ≡ false
IsParentVerdict ds (Some cycle) = (has_cycle (parents_by_host (configuration ds)) ≡ true) × IsParentCycle (configuration ds) cycle

-- the tree is refused for this fault
abbrev pub IsRefusedTree : Data → Option Fault → Type 0
IsRefusedTree d None = Unit {0}
IsRefusedTree d (Some f) = IsFaultOfTree d f × (setup_of_tree d ≡ Err (load_error f))

-- the document is refused for this fault
abbrev pub IsRefusedFor : List ℕ → Option Fault → Type 0
IsRefusedFor bytes None = Unit {0}
IsRefusedFor bytes (Some f) = IsFaultOf bytes f × (setup_of bytes ≡ Err (load_error f))
