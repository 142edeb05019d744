-- Names: which texts can be names, and their order.
use Rattle.std.specs.Prelude.{ℕ, ◌==◌, ◌&&◌, Bool, not, List, ◌∷◌, ◌++◌, Option, Some, find, length, nat_le, nat_lt, option_map, if◌then◌else◌}
use Rattle.std.specs.List.{list_all}
use Rattle.std.specs.Str.{is_utf8}
use Rattle.std.specs.declared.cmp.Ordering.{Ordering}
use Rattle.std.specs.Ordering.{nat_cmp, ordering_then}
use Rattle.std.specs.Cmp.Lexicographic.{slice_cmp}
use Rattle.setup_model.specs.declared.fault.NameFault.{NameFault}
use Rattle.setup_model.specs.declared.fault.NameFault.TheVariants as wrong

-- a byte that isn't a control byte, nor the semicolon that separates a host's name from a description
abbrev pub is_name_byte : ℕ → Bool
is_name_byte b = nat_le 32 b && not (b == 127) && not (b == 59)

-- 1 to 255 bytes that a name can have
abbrev pub has_name_bytes : List ℕ → Bool
has_name_bytes name = nat_le 1 (length name) && nat_le (length name) 255 && list_all is_name_byte name

-- a text, which is UTF-8, of 1 to 255 bytes that a name can have
abbrev pub is_name : List ℕ → Bool
is_name name = is_utf8 name && has_name_bytes name

-- The fault of a text as a name: it is empty, it has this many bytes, or this is the first byte that a name can't have. Bytes that aren't UTF-8 are no
-- text; byte 0 stands for their fault.
abbrev pub name_fault : List ℕ → Option NameFault
name_fault name =
    if length name == 0 then Some wrong.Empty
    else if nat_lt 255 (length name) then Some (wrong.Long (length name))
    else if is_utf8 name then option_map wrong.Byte (find (λ b. not (is_name_byte b)) name)
    else Some (wrong.Byte 0)

-- a text without a semicolon, as a host's name is
abbrev pub is_host_name : List ℕ → Bool
is_host_name name = list_all (λ b. not (b == 59)) name

-- the full name of a service: its host's name, a semicolon and its description
abbrev pub full_name : List ℕ × List ℕ → List ℕ
full_name key = key.0 ++ (59 ∷ key.1)

-- texts by their bytes
abbrev pub text_order : List ℕ → List ℕ → Ordering
text_order a b = slice_cmp nat_cmp a b

-- pairs of texts by the first text, and by the second if the first ones are equal
abbrev pub pair_order : List ℕ × List ℕ → List ℕ × List ℕ → Ordering
pair_order p q = ordering_then (text_order p.0 q.0) (text_order p.1 q.1)
