-- The parts of a counter book that contracts see.
use Rattle.std.specs.Prelude.{ℕ, List, vec_capacity}
use Rattle.ticket_steps.specs.declared.books.Entry.{Entry}
use Rattle.ticket_steps.specs.declared.counter.CounterBook.{CounterBook}

-- the history
abbrev pub counter_entries : CounterBook → List (Entry ℕ ℕ)
counter_entries book = book.entries.items

-- the sum of all calls, modulo 2^64
abbrev pub counter_sum : CounterBook → ℕ
counter_sum book = book.sum

-- the number of refused calls
abbrev pub counter_refusals : CounterBook → ℕ
counter_refusals book = book.refused

-- the number of entries for which it had room at first
abbrev pub counter_room : CounterBook → ℕ
counter_room book = book.room

-- the number of entries for which it has room now
abbrev pub counter_capacity : CounterBook → ℕ
counter_capacity book = vec_capacity book.entries
