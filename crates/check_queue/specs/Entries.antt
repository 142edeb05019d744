-- Entries and their order.
use Rattle.std.specs.Prelude.{◌≡◌, ℕ, Bool, false, List, slice_index_or}
use Rattle.check_queue.specs.declared.entry.Entry.{Entry}
use Rattle.check_queue.specs.Order.{is_before}

-- whether entry a comes before entry b
abbrev pub is_entry_before : Entry → Entry → Bool
is_entry_before a b = is_before (a.time, a.number) (b.time, b.number)

-- entry a doesn't come before entry b
pub record IsNotBefore (a b : Entry) : Type 0 where
  pub is : is_entry_before a b ≡ false

-- the entry at a position
abbrev pub entry_at : List Entry → ℕ → Entry
entry_at entries i = slice_index_or entries i (record { time = 0; number = 0 })
