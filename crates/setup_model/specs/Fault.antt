-- Faults of a setup document: the refusal, and the details that the failed test has found.
use Rattle.std.specs.Prelude.{ℕ, List, Option, Some, None, Result, map, string_bytes}
use Rattle.setup_model.specs.declared.error.LoadError.{LoadError}
use Rattle.setup_model.specs.declared.error.LoadError.TheVariants as errors
use Rattle.setup_model.specs.declared.fault.Count.{Count}
use Rattle.setup_model.specs.declared.fault.EndFault.{EndFault}
use Rattle.setup_model.specs.declared.fault.Fault as declared
use Rattle.setup_model.specs.declared.fault.Fault.TheVariants as faults
use Rattle.setup_model.specs.declared.fault.NameFault.{NameFault}
use Rattle.setup_model.specs.declared.fault.RangeFault as ranges
use Rattle.setup_model.specs.declared.fault.RangeFault.TheVariants as range_faults
use Rattle.setup_model.specs.declared.fault.ShapeFault as shapes
use Rattle.setup_model.specs.declared.fault.ShapeFault.TheVariants as shape_faults
use Rattle.setup_model.specs.declared.place.Part.{Part}
use Rattle.setup_model.specs.declared.place.Place.{Place}
use Rattle.setup_model.specs.Agreement as agreement
use Rattle.setup_model.specs.Member.{Row, as_row}
use Rattle.setup_model.specs.Place.{host_place, service_place}

-- a fault in the shape of a value; the index of an unknown member is that among the object's members, in their order
pub data ShapeFault : Type 0 where
  no_array : ShapeFault
  no_object : ShapeFault
  unknown : ℕ → ShapeFault
  missing : Row → ShapeFault
  wrong_kind : Row → ShapeFault

-- which number is out of its limits, and the number; for thresholds the low and the high one
pub data RangeFault : Type 0 where
  out_of_range : Row → ℕ → RangeFault
  service_thresholds : ℕ → ℕ → RangeFault
  host_thresholds : ℕ → ℕ → RangeFault

pub data Fault : Type 0 where
  too_long : Fault
  not_json : Fault
  -- the fault by the table of members
  shape : Place → ShapeFault → Fault
  too_many : Count → ℕ → Fault
  bad_name : Place → NameFault → Fault
  -- the second index is that of the earlier item
  duplicate : Place → ℕ → Fault
  -- the index of the host, and of the parent in its list
  unknown_parent : ℕ → ℕ → Fault
  -- the index of the service
  unknown_host : ℕ → Fault
  unknown_end : Place → EndFault → Fault
  range : Place → RangeFault → Fault
  -- the full names of the objects of the cycle
  dependency_cycle : Part → List (List ℕ) → Fault
  parent_cycle : List (List ℕ) → Fault
  memory : Fault

-- the refusal without the details
abbrev pub load_error : Fault → LoadError
load_error too_long = errors.TooLong
load_error not_json = errors.NotJson
load_error (shape p w) = errors.Shape p
load_error (too_many c n) = errors.TooMany
load_error (bad_name p w) = errors.BadName p
load_error (duplicate p i) = errors.Duplicate p
load_error (unknown_parent h i) = errors.UnknownHost (host_place h)
load_error (unknown_host s) = errors.UnknownHost (service_place s)
load_error (unknown_end p w) = errors.UnknownMaster p
load_error (range p w) = errors.Range p
load_error (dependency_cycle p cycle) = errors.DependencyCycle
load_error (parent_cycle cycle) = errors.ParentCycle
load_error memory = errors.Memory

-- ---- the faults of the code

abbrev pub shape_view : shapes.ShapeFault → ShapeFault
shape_view shape_faults.NotAnArray = no_array
shape_view shape_faults.NotAnObject = no_object
shape_view (shape_faults.Unknown i) = unknown i
shape_view (shape_faults.Missing m) = missing (as_row m)
shape_view (shape_faults.WrongKind m) = wrong_kind (as_row m)

abbrev pub range_view : ranges.RangeFault → RangeFault
range_view (range_faults.OutOfRange m n) = out_of_range (as_row m) n
range_view (range_faults.ServiceThresholds low high) = service_thresholds low high
range_view (range_faults.HostThresholds low high) = host_thresholds low high

abbrev pub view_of : declared.Fault → Fault
view_of faults.TooLong = too_long
view_of (faults.NotJson u) = not_json
view_of (faults.Shape p w) = shape p (shape_view w)
view_of (faults.TooMany c n) = too_many c n
view_of (faults.BadName p w) = bad_name p w
view_of (faults.Duplicate p i) = duplicate p i
view_of (faults.UnknownParent h i) = unknown_parent h i
view_of (faults.UnknownHost s) = unknown_host s
view_of (faults.UnknownEnd p w) = unknown_end p w
view_of (faults.Range p w) = range p (range_view w)
view_of (faults.DependencyCycle p cycle) = dependency_cycle p (map string_bytes cycle.items)
view_of (faults.ParentCycle cycle) = parent_cycle (map string_bytes cycle.items)
view_of faults.Memory = memory

-- the fault that an error of the code is; None if the code is out of memory
abbrev pub non_memory_fault : Fault → Option Fault
non_memory_fault memory = None
non_memory_fault other = Some other

-- the result of the code, seen by view, is the defined one, unless memory ran out
abbrev pub IsExpectedReading : {X Y : Type 0} → (X → Y) → Result X declared.Fault → Result Y Fault → Type 0
IsExpectedReading view result expected = agreement.IsExpectedResult (λ f. non_memory_fault (view_of f)) view result expected
