-- The structs of refusals of a saved state. They have the form of a document's refusals, and other kinds.
use Rattle.std.specs.Prelude.{◌≢◌, ℕ, ◌==◌, cond, Option, Some, None}
use Rattle.check_saved_state.specs.declared.fault.SavedFault.{SavedFault}
use Rattle.check_saved_state.specs.declared.fault.SavedFault.TheVariants as fault
use Rattle.nagsched_handles.specs.declared.kinds.TheConstants.{REFUSAL_SAVED_TOO_LONG, REFUSAL_SAVED_NOT_JSON, REFUSAL_SAVED_VERSION, REFUSAL_SAVED_SHAPE}
use Rattle.nagsched_handles.specs.declared.kinds.TheConstants.{REFUSAL_SAVED_TOO_MANY, REFUSAL_SAVED_BAD_NAME, REFUSAL_SAVED_DUPLICATE, REFUSAL_SAVED_RANGE}
use Rattle.nagsched_handles.specs.declared.kinds.TheConstants.{REFUSAL_SAVED_UNLAWFUL, REFUSAL_SAVED_MEMORY}
use Rattle.nagsched_handles.specs.declared.structs.CRefusal.{CRefusal}
use Rattle.nagsched_handles.specs.Structs.{presence, optional_number, number_or_0}

-- a refusal of this kind: it has no part, and the index of an object if it is about one object
abbrev pub fault_struct : ℕ → Option ℕ → CRefusal
fault_struct kind index = record { kind = kind; part = 0; has_index = presence index; index = number_or_0 index }

-- out of memory is a status, and no function writes its struct
abbrev pub c_fault : SavedFault → CRefusal
c_fault fault.TooLong = fault_struct REFUSAL_SAVED_TOO_LONG None
c_fault fault.NotJson = fault_struct REFUSAL_SAVED_NOT_JSON None
c_fault fault.Version = fault_struct REFUSAL_SAVED_VERSION None
c_fault (fault.Shape index) = fault_struct REFUSAL_SAVED_SHAPE index
c_fault fault.TooMany = fault_struct REFUSAL_SAVED_TOO_MANY None
c_fault (fault.BadName index) = fault_struct REFUSAL_SAVED_BAD_NAME (Some index)
c_fault (fault.Duplicate index) = fault_struct REFUSAL_SAVED_DUPLICATE (Some index)
c_fault (fault.Range index) = fault_struct REFUSAL_SAVED_RANGE index
c_fault (fault.Unlawful index) = fault_struct REFUSAL_SAVED_UNLAWFUL (Some index)
c_fault fault.Memory = fault_struct REFUSAL_SAVED_MEMORY None

-- read back: the refusal with this struct, if there is one
abbrev pub fault_from_c : CRefusal → SavedFault
fault_from_c p = cond (p.kind == REFUSAL_SAVED_TOO_LONG) fault.TooLong
    (cond (p.kind == REFUSAL_SAVED_NOT_JSON) fault.NotJson
    (cond (p.kind == REFUSAL_SAVED_VERSION) fault.Version
    (cond (p.kind == REFUSAL_SAVED_SHAPE) (fault.Shape (optional_number p.has_index p.index))
    (cond (p.kind == REFUSAL_SAVED_TOO_MANY) fault.TooMany
    (cond (p.kind == REFUSAL_SAVED_BAD_NAME) (fault.BadName p.index)
    (cond (p.kind == REFUSAL_SAVED_DUPLICATE) (fault.Duplicate p.index)
    (cond (p.kind == REFUSAL_SAVED_RANGE) (fault.Range (optional_number p.has_index p.index))
    (cond (p.kind == REFUSAL_SAVED_UNLAWFUL) (fault.Unlawful p.index) fault.Memory))))))))

-- out of memory doesn't count: no function writes its struct
abbrev pub IsNoFault : CRefusal → Type 0
IsNoFault plain = (e : SavedFault) → e ≢ fault.Memory → c_fault e ≢ plain
