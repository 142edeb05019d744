-- The results for C of asking for an object's name, number and host.
use Rattle.std.specs.Prelude.{◌≡◌, ◌⊎◌, ◌<◌, ◌≤◌, ◌++◌, ℕ, List, length, drop, IsUtf8, Some, None}
use Rattle.check_objects.specs.Configuration.{Configuration, host_of, name_of, number_by_name, object_count}
use Rattle.nagsched_c.specs.declared.status.TheConstants.{MISSING, OK, WRONG}

-- The number of an object was written, or else there is no object of that name. A name that isn't UTF-8 is no object's.
abbrev pub HasNumber : Configuration → List ℕ → ℕ → ℕ → ℕ → Type 0
HasNumber setup name before status after =
    ((status ≡ OK) × (number_by_name setup name ≡ Some after))
    ⊎ ((status ≡ MISSING) × (after ≡ before) × (IsUtf8 name → number_by_name setup name ≡ None))

-- The text is at the beginning of the room, if it fits; its length was written in any case.
abbrev pub IsPut : List ℕ → List ℕ → ℕ → List ℕ → ℕ → Type 0
IsPut text room status after bytes =
    (bytes ≡ length text)
    × (((status ≡ OK) × (length text ≤ length room) × (after ≡ text ++ drop (length text) room))
    ⊎ ((status ≡ WRONG) × (length room < length text) × (after ≡ room)))

-- The name of an object was written, or else there is no object of that number.
abbrev pub HasName : Configuration → ℕ → List ℕ → ℕ → ℕ → List ℕ → ℕ → Type 0
HasName setup number room before status after bytes =
    ((number < object_count setup) × IsPut (name_of setup number) room status after bytes)
    ⊎ ((object_count setup ≤ number) × (status ≡ WRONG) × (after ≡ room) × (bytes ≡ before))

-- the three cases: the object has a host, it is a host itself, or there is no object
abbrev pub HasHostOf : Configuration → ℕ → ℕ → ℕ → ℕ → Type 0
HasHostOf setup number before status after =
    ((number < object_count setup) × (status ≡ OK) × (host_of setup number ≡ Some after))
    ⊎ (((number < object_count setup) × (status ≡ MISSING) × (host_of setup number ≡ None) × (after ≡ before))
    ⊎ ((object_count setup ≤ number) × (status ≡ WRONG) × (after ≡ before)))
