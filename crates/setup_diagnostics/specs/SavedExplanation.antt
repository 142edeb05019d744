-- The explanation of a fault of a saved state, from the tree that has it.
use Rattle.std.specs.Prelude.{◌≡◌, ℕ, List, ◌++◌, Some, None, codes, decimal}
use Rattle.serde_json.specs.Data.{Data}
use Rattle.check_saved_state.specs.declared.fault.SavedFault.{SavedFault}
use Rattle.check_saved_state.specs.declared.fault.SavedFault.TheVariants as saved
use Rattle.setup_diagnostics.specs.SavedShapes.{IsSavedShapeText}

-- words about the object with this index in the list of objects
abbrev pub at_object : ℕ → List ℕ → List ℕ
at_object index words = codes "objects " ++ (decimal index ++ (codes ": " ++ words))

-- The whole line. Out of memory isn't a fault of a saved state.
abbrev pub IsSavedExplanation : Data → SavedFault → List ℕ → Type 0
IsSavedExplanation tree saved.TooLong text = text ≡ codes "the saved state has more than 16777216 bytes"
IsSavedExplanation tree saved.NotJson text = text ≡ codes "the saved state is no JSON"
IsSavedExplanation tree saved.Version text = text ≡ codes "\"format\" has to be 1"
IsSavedExplanation tree (saved.Shape index) text = IsSavedShapeText tree index text
IsSavedExplanation tree saved.TooMany text = text ≡ codes "\"objects\" has more than 4096 objects"
IsSavedExplanation tree (saved.BadName index) text =
    text ≡ at_object index (codes "\"name\" has to be a host's name, or a host's name and a description with a \";\" between them")
IsSavedExplanation tree (saved.Duplicate index) text = text ≡ at_object index (codes "\"name\" is that of an earlier object")
IsSavedExplanation tree (saved.Range None) text = text ≡ codes "\"start\" and \"runs\" can be at most 1152921504606846976"
IsSavedExplanation tree (saved.Range (Some index)) text =
    text ≡ at_object index (codes "a time, an attempt or the maximum of attempts is out of its limits")
IsSavedExplanation tree (saved.Unlawful index) text =
    text ≡ at_object index (codes "no object of its sort can have this standing, these results or this run, or a forced check without a next time")
IsSavedExplanation tree saved.Memory text = text ≡ codes "out of memory"
