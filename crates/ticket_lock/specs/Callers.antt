-- The part of a seat, a turn or a hold that contracts see: its caller.
use Rattle.std.specs.Prelude.{◌≡◌, ℕ, ◌+◌, ◌-◌, ◌*◌, ◌<◌, ◌^◌, List, [], ◌++◌, length, take, drop, Bool, true, false, slice_index}
use Rattle.ticket_steps.specs.declared.books.Entry.{Entry}
use Rattle.ticket_steps.specs.declared.books.Kept.{Ghosts}
use Rattle.ticket_steps.specs.History.{IsLegal}
use Rattle.ticket_steps.specs.Sums.{numbers_from}
use Rattle.ticket_lock.specs.declared.views.Start.{Start}
use Rattle.ticket_lock.specs.Boards.{board_after}
use Rattle.ticket_lock.specs.Layout.{board_word}
use Rattle.ticket_lock.specs.Views.{Follows, longer}

pub record Caller (C R : Type 0) : Type 0 where
  -- its own number, under which its calls are recorded
  pub own : ℕ
  -- the numbers for which it answers
  pub numbers : List ℕ
  -- the draws that it has left
  pub left : ℕ
  -- the calls that it and the callers gathered into it have ended
  pub calls : ℕ
  -- whether it has never drawn, and no other caller was gathered into it
  pub fresh : Bool
  -- the history that it has seen
  pub seen : List (Entry C R)

module _ {C R : Type 0} where
  abbrev pub caller : ℕ → List ℕ → ℕ → ℕ → Bool → List (Entry C R) → Caller C R
  caller own numbers left calls fresh seen = record { own = own; numbers = numbers; left = left; calls = calls; fresh = fresh; seen = seen }

  -- the first caller, for all numbers
  abbrev pub first_caller : ℕ → ℕ → Caller C R
  first_caller numbers draws = caller 0 (numbers_from 0 numbers) (numbers * draws) 0 true []

  -- a fresh caller without its last numbers and the draws of these numbers
  abbrev pub caller_after_split : ℕ → ℕ → Caller C R → Caller C R
  caller_after_split draws count c = caller c.own (take (length c.numbers - count) c.numbers) ((length c.numbers - count) * draws) c.calls true c.seen

  -- the caller that gets these numbers
  abbrev pub split_part : ℕ → ℕ → Caller C R → Caller C R
  split_part draws count c = caller (c.own + (length c.numbers - count)) (drop (length c.numbers - count) c.numbers) (count * draws) 0 true c.seen

  -- a caller that has drawn
  abbrev pub caller_after_draw : Caller C R → Caller C R
  caller_after_draw c = caller c.own c.numbers (c.left - 1) c.calls false c.seen

  -- a caller that has seen this history
  abbrev pub caller_with_history : List (Entry C R) → Caller C R → Caller C R
  caller_with_history history c = caller c.own c.numbers c.left c.calls c.fresh history

  -- a caller that has ended a call, and has seen the history after it
  abbrev pub caller_after_call : List (Entry C R) → Caller C R → Caller C R
  caller_after_call history c = caller c.own c.numbers c.left (c.calls + 1) c.fresh history

  -- a caller into which another was gathered
  abbrev pub gathered_caller : Caller C R → Caller C R → Caller C R
  gathered_caller c other = caller c.own (c.numbers ++ other.numbers) c.left (c.calls + other.calls) false (longer c.seen other.seen)

module _ {K C R : Type 0} (k : Ghosts K C R) where
  -- a book that is handed out to a caller whose ticket is served
  pub record IsHandedOut (start : Start K) (numbers : List ℕ) (seen : List (Entry C R)) (ticket : ℕ) (book : K) : Type 0 where
    -- it is the book with which the lock was opened
    pub opening : k.opening book ≡ k.opening start.book
    -- its entries begin with all that the caller has seen, and the rest has no entries of the caller's numbers
    pub follows : Follows numbers seen (k.history book)
    -- the number of its entries and refusals is the ticket: calls end in the order of their draws
    pub counted : length (k.history book) + k.refusals book ≡ ticket
    pub bounded : ticket < 2 ^ 42

  -- the glance of a caller with these numbers, after which it has seen these entries: it found this number in this word of the table
  pub record IsGlanceResult (start : Start K) (numbers : List ℕ) (seen entries : List (Entry C R)) (word found : ℕ) : Type 0 where
    -- the entries begin with all that the caller has seen, and the rest has no entries of the caller's numbers
    pub follows : Follows numbers seen entries
    -- they are a legal history from the book with which the lock was opened
    pub legal : IsLegal k.step (k.opening start.book) entries
    -- the number found is the word at its place on the board of the state after them
    pub shown : (place : ℕ) → word ≡ board_word place → found ≡ slice_index (board_after k start.book entries) place
