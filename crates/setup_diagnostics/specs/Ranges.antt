-- The explanation of a number that is out of its limits.
use Rattle.std.specs.Prelude.{ℕ, List, [], ◌++◌, Option, Some, None, codes, decimal}
use Rattle.serde_json.specs.Data.{Data}
use Rattle.setup_model.specs.declared.place.Place.{Place}
use Rattle.setup_model.specs.Fault as fault
use Rattle.setup_model.specs.Fault.{RangeFault}
use Rattle.setup_model.specs.Member.{Row, limits_of}
use Rattle.setup_model.specs.Members as members
use Rattle.setup_diagnostics.specs.Places.{place_text}
use Rattle.setup_diagnostics.specs.Excerpts.{quotation}

abbrev pub between_text : ℕ → ℕ → List ℕ
between_text low high = codes "; it can be " ++ (decimal low ++ (codes " to " ++ decimal high))

abbrev pub limits_text : Option (ℕ × ℕ) → List ℕ
limits_text None = []
limits_text (Some limits) = between_text limits.0 limits.1

-- the number of a member
abbrev pub number_text : Row → ℕ → List ℕ
number_text m n = quotation m.name ++ (codes " is " ++ decimal n)

-- the member that a number can't be above, and its number
abbrev pub above_text : Row → ℕ → List ℕ
above_text m n = codes "; it can't be above " ++ (quotation m.name ++ (codes ", which is " ++ decimal n))

abbrev pub wrong_number_text : RangeFault → List ℕ
wrong_number_text (fault.out_of_range m n) = number_text m n ++ limits_text (limits_of m.kind)
wrong_number_text (fault.service_thresholds low high) =
    number_text members.low_service_flap_threshold low ++ above_text members.high_service_flap_threshold high
wrong_number_text (fault.host_thresholds low high) =
    number_text members.low_host_flap_threshold low ++ above_text members.high_host_flap_threshold high

abbrev pub range_text : Data → Place → RangeFault → List ℕ
range_text tree place w = place_text tree place ++ wrong_number_text w
