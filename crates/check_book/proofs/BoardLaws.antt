-- What a board is read as: how many words it has, and that each is read as the standing of its object.
use Rattle.std.proofs.Common.{◌≡◌, ℕ, ◌<◌, ◌≤◌, Bool, true, List, length, Option, Some, None, refl, sym, ap, subst, ◌∙◌, arith}
use Rattle.std.specs.Prelude.{slice_get, slice_index}
use Rattle.std.specs.Option.{option_map_or}
use Rattle.std.proofs.lemmas.Bool.Decides.{nat_tests}
use Rattle.ticket_steps.specs.declared.books.Entry.{Entry}
use Rattle.ticket_steps.specs.History.{replay}
use Rattle.check_objects.specs.Configuration.{Configuration, NamedObject, IsSetup, object_count, objects_of}
use Rattle.check_states.specs.declared.standing.Kind.{Kind}
use Rattle.check_states.specs.declared.standing.Kind.TheVariants as kind
use Rattle.check_states.specs.declared.standing.Standing.{Standing}
use Rattle.check_states.specs.declared.state.State as rules
use Rattle.check_states.specs.declared.state.State.TheVariants as state
use Rattle.check_states.specs.Board.{word_of_standing, standing_of_word}
use Rattle.check_states.specs.Standing.{is_lawful}
use Rattle.check_states.proofs.BoardLemmas.{coded_back}
use Rattle.check_sched.specs.declared.call.Call.{Call}
use Rattle.check_sched.specs.declared.call.Reply.{Reply}
use Rattle.check_sched.specs.State.{State, IsState, max_attempts_of, standing_at}
use Rattle.check_sched.specs.Step.{step}
use Rattle.check_sched.proofs.BoardLaws.{length-board_of, word_at}
use Rattle.check_sched.proofs.OpeningLaws.{count_is}
use Rattle.check_sched.proofs.ReplyLaws.{replay_objects}
use Rattle.check_sched.proofs.ReportLaws.{object_in_range}
use Rattle.check_sched.proofs.StandingLaws.{opening_count, opened_standing, state_standing}
use Rattle.check_book.specs.declared.book.Book.{Book}
use Rattle.check_book.specs.Board.{book_board}
use Rattle.check_book.specs.Books.{entries_of, opening_of, state_of}
use Rattle.check_book.specs.BookState.{BookState, book_opening, book_step}
use Rattle.check_book.proofs.HistoryLaws.{book_sched}

-- ---- attempts

-- a lawful standing has at most its object's maximum of attempts
lawful_few : (checked flapping : Bool) (s last : rules.State) (k : Kind) (attempt max : ℕ) → let t : Standing =
    record { checked = checked; state = s; kind = k; attempt = attempt; last_hard = last; flapping = flapping } in
    is_lawful t max ≡ true → attempt ≤ max
lawful_few checked flapping state.Ok last k attempt max h = grind (arith, nat_tests, h)
lawful_few checked flapping state.Up last k attempt max h = grind (arith, nat_tests, h)
lawful_few checked flapping state.Warning last kind.Soft attempt max h = grind (arith, nat_tests, h)
lawful_few checked flapping state.Warning last kind.Hard attempt max h = grind (arith, nat_tests, h)
lawful_few checked flapping state.Critical last kind.Soft attempt max h = grind (arith, nat_tests, h)
lawful_few checked flapping state.Critical last kind.Hard attempt max h = grind (arith, nat_tests, h)
lawful_few checked flapping state.Unknown last kind.Soft attempt max h = grind (arith, nat_tests, h)
lawful_few checked flapping state.Unknown last kind.Hard attempt max h = grind (arith, nat_tests, h)
lawful_few checked flapping state.Down last kind.Soft attempt max h = grind (arith, nat_tests, h)
lawful_few checked flapping state.Down last kind.Hard attempt max h = grind (arith, nat_tests, h)
lawful_few checked flapping state.Unreachable last kind.Soft attempt max h = grind (arith, nat_tests, h)
lawful_few checked flapping state.Unreachable last kind.Hard attempt max h = grind (arith, nat_tests, h)

few_by : (setup : Configuration) (n : ℕ) (found : Option NamedObject) → IsSetup setup → slice_get (objects_of setup) n ≡ found
    → option_map_or (λ o. o.object.max_check_attempts) found 1 ≤ 255
few_by setup n None h e = omega arith
few_by setup n (Some o) h e = let within = object_in_range setup n o h e in grind (arith, nat_tests, within)

-- a maximum of attempts is at most 255
bounded_attempts : (setup : Configuration) (n : ℕ) → IsSetup setup → max_attempts_of setup n ≤ 255
bounded_attempts setup n h = few_by setup n (slice_get (objects_of setup) n) h refl

-- so the word of a lawful standing is read as that standing
lawful_read : (setup : Configuration) (n : ℕ) (t : Standing) → IsSetup setup → is_lawful t (max_attempts_of setup n) ≡ true
    → standing_of_word (word_of_standing t) ≡ Some t
lawful_read setup n t h lawful =
    let bounded = lawful_few t.checked t.flapping t.state t.last_hard t.kind t.attempt (max_attempts_of setup n) lawful in
    let most = bounded_attempts setup n h in
    coded_back t (omega (arith, bounded, most))

-- ---- a book

-- no call changes how many objects there are
objects_from : (opened : BookState) (history : List (Entry Call Reply))
    → length (replay book_step opened history).sched.objects ≡ length opened.sched.objects
objects_from opened history = ap (λ (s : State). length s.objects) (book_sched opened history) ∙ replay_objects opened.sched history

-- the word of an object whose standing is lawful is read as that standing
read_by : (opened : BookState) (history : List (Entry Call Reply)) (object : ℕ) → IsSetup opened.sched.setup
    → length opened.sched.objects ≡ object_count opened.sched.setup
    → is_lawful (standing_at (replay step opened.sched history).standings object) (max_attempts_of opened.sched.setup object) ≡ true
    → object < object_count opened.sched.setup
    → standing_of_word (slice_index (book_board (replay book_step opened history)) object)
    ≡ Some (standing_at (replay book_step opened history).sched.standings object)
read_by opened history object h each lawful there =
    let s = (replay book_step opened history).sched in
    let here : is_lawful (standing_at s.standings object) (max_attempts_of opened.sched.setup object) ≡ true =
    subst (λ (t : State). is_lawful (standing_at t.standings object) (max_attempts_of opened.sched.setup object) ≡ true)
    (sym (book_sched opened history)) lawful in
    let count = objects_from opened history in
    ap standing_of_word (word_at s object (omega (arith, there, count, each)))
    ∙ lawful_read opened.sched.setup object (standing_at s.standings object) h here

-- The board has a word for each object of the setup, whatever the state that the book opened in.
pub state_words : (opened : BookState) (history : List (Entry Call Reply)) → IsState opened.sched
    → length (book_board (replay book_step opened history)) ≡ object_count opened.sched.setup
state_words opened history h = length-board_of (replay book_step opened history).sched ∙ objects_from opened history ∙ h.one_each

-- Each word is read as the standing of its object.
pub state_read : (opened : BookState) (history : List (Entry Call Reply)) (object : ℕ) → IsState opened.sched → object < object_count opened.sched.setup
    → standing_of_word (slice_index (book_board (replay book_step opened history)) object)
    ≡ Some (standing_at (replay book_step opened history).sched.standings object)
state_read opened history object h there =
    read_by opened history object h.valid_setup h.one_each (state_standing opened.sched history object h there).lawful there

-- So it is of a book that opens on a new scheduler.
pub opened_words : (setup : Configuration) (start room : ℕ) (history : List (Entry Call Reply))
    → length (book_board (replay book_step (book_opening setup start room) history)) ≡ object_count setup
opened_words setup start room history =
    let opened = book_opening setup start room in
    length-board_of (replay book_step opened history).sched ∙ objects_from opened history ∙ opening_count setup start

pub opened_read : (setup : Configuration) (start room : ℕ) (history : List (Entry Call Reply)) (object : ℕ) → IsSetup setup → object < object_count setup
    → standing_of_word (slice_index (book_board (replay book_step (book_opening setup start room) history)) object)
    ≡ Some (standing_at (replay book_step (book_opening setup start room) history).sched.standings object)
opened_read setup start room history object h there =
    read_by (book_opening setup start room) history object h (opening_count setup start) (opened_standing setup start history object h there).lawful there

-- A book's board has at most 4,096 words.
pub few_words : (book : Book) → length (book_board (state_of book)) ≤ 4096
few_words book =
    let opened = opening_of book in
    let words = ap (λ s. length (book_board s)) book.replayed ∙ state_words opened (entries_of book) book.opened in
    let count = count_is opened.sched.setup in
    let bounded = book.opened.valid_setup.bounded in
    omega (arith, words, count, bounded)
