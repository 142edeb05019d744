-- The room that a line needs for the bytes that are pushed to it.
use Rattle.std.specs.Prelude.{ℕ, ◌+◌, ◌<◌, ◌≤◌, Result, OnOk, OnErr, String, string_len, string_capacity}
use Rattle.std.specs.declared.alloc.Global.{Global}

-- At most this many bytes are pushed. The line keeps its room and gets at most that much longer. The push is refused only if this many bytes didn't
-- fit.
abbrev pub PushesAtMost : {A E : Type 0} → ℕ → Result A E → String Global → String Global → Type 0
PushesAtMost most result old new =
    (string_capacity old ≤ string_capacity new)
    × OnOk result (string_len new ≤ string_len old + most)
    × OnErr result (string_capacity old < string_len old + most)
