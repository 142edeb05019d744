-- One line of a script: it is blank, or a JSON array that is a command. The array's first member is its word. Each subcommand has a vocabulary of its
-- own, which gives a word with the members after it a meaning.
use Rattle.std.specs.Prelude.{ℕ, ◌||◌, ◌==◌, Bool, List, length, Result, Ok, Err, ok_or, nat_lt, if◌then◌else◌}
use Rattle.std.specs.List.{list_all}
use Rattle.serde_json.specs.Data.{Data, Items, no_items, item}
use Rattle.serde_json.specs.Find.{as_array, as_str}
use Rattle.check_objects.specs.JsonTree.{tree_of}
pub use Rattle.setup_model.specs.Agreement.{◌>>=◌}
use Rattle.nagsched_protocol.specs.declared.refusal.LineFault.{LineFault}
use Rattle.nagsched_protocol.specs.declared.refusal.LineFault.TheVariants as fault
use Rattle.nagsched_protocol.specs.declared.refusal.LineShape.TheVariants as shape
use Rattle.nagsched_protocol.specs.declared.refusal.InputRefusal.{InputRefusal}
use Rattle.nagsched_protocol.specs.declared.refusal.InputRefusal.TheVariants as refusal

-- a line that is skipped: only spaces, tabs and carriage returns, or nothing
abbrev pub is_blank : List ℕ → Bool
is_blank line = list_all (λ b. b == 32 || b == 9 || b == 13) line

-- a fault as the refusal of the line with number n
abbrev pub at_line : {A : Type 0} → ℕ → Result A LineFault → Result A InputRefusal
at_line n (Ok x) = Ok x
at_line n (Err e) = Err (refusal.Line e n)

-- the command that the items of an array are, by the meaning of words with members
abbrev pub command_in_items : {K : Type 0} → (List ℕ → Items → Result K LineFault) → Items → Result K LineFault
command_in_items meaning no_items = Err (fault.Shape shape.Empty)
command_in_items meaning (item word members) = ok_or (as_str word) (fault.Shape shape.NoWord) >>= λ w. meaning w members

-- the command that a tree is
abbrev pub command_in : {K : Type 0} → (List ℕ → Items → Result K LineFault) → Data → Result K LineFault
command_in meaning d = ok_or (as_array d) (fault.Shape shape.NotAnArray) >>= command_in_items meaning

-- the command of the line with number n, or its first fault: more than 4,096 bytes, then not JSON, then those of the command
unfoldable pub command_of : {K : Type 0} → (List ℕ → Items → Result K LineFault) → ℕ → List ℕ → Result K InputRefusal
command_of meaning n line = if nat_lt 4096 (length line) then Err (refusal.Line fault.TooLong n)
    else (ok_or (tree_of line) (refusal.Line fault.NotJson n) >>= λ d. at_line n (command_in meaning d))
