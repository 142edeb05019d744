-- What a job notes, for people: why it refuses its input.
use Rattle.std.specs.Prelude.{ℕ, ◌≡◌, List, [], ◌++◌, Result, Ok, Err, String, string_bytes}
use Rattle.std.specs.declared.alloc.Global.{Global}
use Rattle.nagsched_protocol.specs.declared.refusal.InputRefusal.{InputRefusal}
use Rattle.nagsched_protocol.specs.Explanation.{sentence}
use Rattle.nagsched_protocol.specs.Script.{refused_bytes}

-- the sentence that explains the refusal of an input, or nothing
abbrev pub note_of : {A : Type 0} → List ℕ → Result A InputRefusal → List ℕ
note_of input (Ok x) = []
note_of input (Err why) = sentence (refused_bytes input why) why

-- these bytes were appended to a note
abbrev pub IsNote : String Global → String Global → List ℕ → Type 0
IsNote old new text = string_bytes new ≡ string_bytes old ++ text
