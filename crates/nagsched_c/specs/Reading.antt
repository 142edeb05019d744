-- The result for C of a document that isn't a setup.
use Rattle.std.specs.Prelude.{◌≡◌, ℕ, List, Err}
use Rattle.setup_model.specs.declared.error.LoadError.{LoadError}
use Rattle.check_objects.specs.Setup.{setup_of}
use Rattle.nagsched_handles.specs.declared.structs.CRefusal.{CRefusal}
use Rattle.nagsched_handles.specs.Structs.{c_refusal}

-- the struct of the document's first fault
abbrev pub IsRefusalOf : List ℕ → CRefusal → Type 0
IsRefusalOf document output = (error : LoadError) × (setup_of document ≡ Err error) × (output ≡ c_refusal error)
