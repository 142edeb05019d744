-- A text is a name where nothing is wrong with it as one.
use Rattle.std.proofs.Common.{◌≡◌, ℕ, ◌==◌, ◌&&◌, not, Bool, true, false, cond, List, [], ◌∷◌, length, Some, option_map, refl, ◌∙◌, arith}
use Rattle.std.specs.Prelude.{find, is_none, nat_le, nat_lt}
use Rattle.std.specs.List.{list_all}
use Rattle.std.specs.Str.{is_utf8}
use Rattle.std.proofs.lemmas.Bool.Decides.{nat_tests}
use Rattle.setup_model.specs.declared.fault.NameFault.TheVariants as wrong
use Rattle.setup_model.specs.Name.{has_name_bytes, is_name, is_name_byte, name_fault}

bytes_by : (b : ℕ) (bs : List ℕ) (t : Bool) → is_none (option_map wrong.Byte (find (λ x. not (is_name_byte x)) bs)) ≡ list_all is_name_byte bs
    → is_none (option_map wrong.Byte (cond (not t) (Some b) (find (λ x. not (is_name_byte x)) bs))) ≡ (t && list_all is_name_byte bs)
bytes_by b bs true more = more
bytes_by b bs false more = refl

-- no byte is wrong where each can be in a name
good_bytes : (bs : List ℕ) → is_none (option_map wrong.Byte (find (λ x. not (is_name_byte x)) bs)) ≡ list_all is_name_byte bs
good_bytes [] = refl
good_bytes (b ∷ bs) = bytes_by b bs (is_name_byte b) (good_bytes bs)

name_by : (name : List ℕ) (text empty long : Bool) → (length name == 0) ≡ empty → nat_lt 255 (length name) ≡ long
    → is_none (cond empty (Some wrong.Empty) (cond long (Some (wrong.Long (length name)))
    (cond text (option_map wrong.Byte (find (λ x. not (is_name_byte x)) name)) (Some (wrong.Byte 0))))) ≡ (text && has_name_bytes name)
name_by name false true long e l = refl
name_by name false false true e l = refl
name_by name false false false e l = refl
name_by name true true long e l =
    let none : nat_le 1 (length name) ≡ false = grind (arith, nat_tests, e) in rw none refl
name_by name true false true e l =
    let many : nat_le (length name) 255 ≡ false = grind (arith, nat_tests, l) in
    let some : nat_le 1 (length name) ≡ true = grind (arith, nat_tests, l) in rw (many, some) refl
name_by name true false false e l =
    let bounded : nat_le (length name) 255 ≡ true = grind (arith, nat_tests, l) in
    let some : nat_le 1 (length name) ≡ true = grind (arith, nat_tests, e) in good_bytes name ∙ rw (bounded, some) refl

pub is_name_without_fault : (name : List ℕ) → is_none (name_fault name) ≡ is_name name
is_name_without_fault name = name_by name (is_utf8 name) (length name == 0) (nat_lt 255 (length name)) refl refl
