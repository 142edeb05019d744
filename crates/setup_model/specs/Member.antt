-- A member of a setup document's objects: its name, the value that it must have, and its default.
use Rattle.std.specs.Prelude.{ℕ, ◌&&◌, Bool, true, List, Option, Some, None, nat_le, is_none}
use Rattle.setup_model.specs.declared.member.DefaultValue.{DefaultValue}
use Rattle.setup_model.specs.declared.member.DefaultValue.TheVariants as default
use Rattle.setup_model.specs.declared.member.Kind.{Kind}
use Rattle.setup_model.specs.declared.member.Kind.TheVariants as kind
use Rattle.setup_model.specs.declared.member.Member as declared

-- the fields that reading uses; the purpose of a member is left out, since reading doesn't use it
pub record Row : Type 0 where
  pub name : List ℕ
  pub kind : Kind
  -- None if the member is required
  pub default : Option DefaultValue

abbrev pub as_row : declared.Member → Row
as_row m = record { name = m.name.now; kind = m.kind; default = m.default }

-- whether an object without the member is refused
abbrev pub is_required : Row → Bool
is_required m = is_none m.default

-- the least and the greatest value of a number
abbrev pub limits_of : Kind → Option (ℕ × ℕ)
limits_of (kind.Number low high) = Some (low, high)
limits_of kind.Delay = Some (0, 86400000)
limits_of kind.Factor = Some (1, 4096)
limits_of other = None

-- whether a number is from the least to the greatest value
abbrev pub is_between : Option (ℕ × ℕ) → ℕ → Bool
is_between None n = true
is_between (Some limits) n = nat_le limits.0 n && nat_le n limits.1

-- whether a number is within the limits of a member
abbrev pub is_within_limits : Row → ℕ → Bool
is_within_limits m n = is_between (limits_of m.kind) n

-- the number that is used without a member
abbrev pub number_by_default : Option DefaultValue → Option ℕ
number_by_default (Some (default.Number n)) = Some n
number_by_default other = None

abbrev pub default_number : Row → Option ℕ
default_number m = number_by_default m.default

-- the truth value that is used without a member
abbrev pub switch_by_default : Option DefaultValue → Option Bool
switch_by_default (Some (default.Switch b)) = Some b
switch_by_default other = None

abbrev pub default_switch : Row → Option Bool
default_switch m = switch_by_default m.default
