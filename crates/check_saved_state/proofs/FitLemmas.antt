-- The tree of what is saved has plain values, nests a few levels deep, and has a short text.
use Rattle.std.proofs.Common.{inl, inr, ◌≡◌, ℕ, suc, ◌+◌, ◌*◌, ◌^◌, ◌<◌, ◌≤◌, Bool, true, false, ◌&&◌, List, [], ◌∷◌, length, refl, subst, sym, ap, ◌∙◌, arith}
use Rattle.std.proofs.Common.{length-append}
use Rattle.std.proofs.Common.{Option, Some, None, option_map, IsUtf8, Ordering, Less, Equal, Greater, nat_cmp}
use Rattle.std.specs.Prelude.{codes, nat_le, slice_get}
use Rattle.std.specs.Cmp.Lexicographic.{slice_cmp}
use Rattle.std.specs.Ordering.{match_ordering}
use Rattle.std.specs.Str.{is_utf8}
use Rattle.std.proofs.lemmas.Bool.{and_parts, leb-true}
use Rattle.std.proofs.lemmas.List.{length-map}
use Rattle.std.proofs.lemmas.Str.{IsUtf8-append, IsUtf8-from_is_utf8}
use Rattle.json.specs.Print.{escape_byte, quoted}
use Rattle.json.specs.Tree as tree
use Rattle.json.specs.Tree.{items_tokens, members_tokens, room}
use Rattle.json.proofs.Printed.Trees.{room-append}
use Rattle.json.proofs.Printed.Utf8.{IsUtf8-are_ascii, are_ascii}
use Rattle.serde_json.specs.Data.{Data, boolean, string, Members, no_members, member, put}
use Rattle.serde_json.specs.Written.{items_outline, members_outline, outline}
use Rattle.setup_model.specs.Name.{has_name_bytes}
use Rattle.check_states.specs.declared.standing.Kind.{Kind}
use Rattle.check_states.specs.declared.standing.Kind.TheVariants as kind
use Rattle.check_states.specs.declared.state.State as rules
use Rattle.check_states.proofs.Cases.{each_state}
use Rattle.check_states.specs.Words.{kind_word, state_letter, state_word}
use Rattle.check_saved_state.specs.declared.table.ValueKind.{ValueKind}
use Rattle.check_saved_state.specs.declared.table.ValueKind.TheVariants as kinds
use Rattle.check_saved_state.specs.Object.{members_with, number_tree, object_tree, object_values, run_tree, time_tree}
use Rattle.check_saved_state.specs.Saved.{IsFullName, IsSaved, IsSavedObject, Saved, SavedObject}
use Rattle.check_saved_state.specs.Scheduling.{OpenRun, is_moment, is_time}
use Rattle.check_saved_state.specs.Table.{Row, newest_format, object_members}
use Rattle.check_saved_state.specs.Text.{saved_text}
use Rattle.check_saved_state.specs.Tree.{objects_tree, saved_tree, tokens_of}
use Rattle.check_saved_state.specs.Words.{flapping_word, letters_of}
use Rattle.check_saved_state.proofs.PlainLemmas.{ArePlain, HavePlain, IsPlain}
use Rattle.check_saved_state.proofs.RangeLemmas.{attempt_by, short_name}
use Rattle.check_saved_state.proofs.SizeLemmas.{number_length, quoted_length, text_length}
use Rattle.check_saved_state.proofs.TreeLemmas.{letter_fits}

-- ---- members

-- a plain value of one level at most, whose text fits this room
record Fits (most : ℕ) (d : Data) : Type 0 where
  plain : IsPlain d
  shallow : tree.depth (outline d) ≤ 1
  short : room (tokens_of d) ≤ most

-- the room of members, with the closing brace
abbrev members_room : Members → ℕ
members_room ms = room (members_tokens (members_outline ms))

record MembersFit (most : ℕ) (ms : Members) : Type 0 where
  plain : HavePlain ms
  shallow : tree.members_depth (members_outline ms) ≤ 1
  short : members_room ms ≤ most

-- the room of a value of a kind is at most this
abbrev most_of : ValueKind → ℕ
most_of kinds.Text = 3069
most_of kinds.Number = 21
most_of kinds.NumberOrNull = 21
most_of kinds.Switch = 6
most_of kinds.State = 14
most_of kinds.StateKind = 7
most_of kinds.Flapping = 11
most_of kinds.Letters = 129
most_of kinds.RunOrNull = 65
most_of kinds.List = 1

abbrev most_of_all : List Row → ℕ
most_of_all [] = 0
most_of_all (m ∷ ms) = 2 + length (quoted m.name) + most_of m.kind + most_of_all ms

abbrev AllFit : List Row → List Data → Type 0
AllFit (m ∷ ms) (d ∷ ds) = Fits (most_of m.kind) d × AllFit ms ds
AllFit ms ds = Unit {0}

member_room : (k : List ℕ) (d : Data) (ms : Members) → members_room (member k d ms) ≡ 2 + length (quoted k) + room (tokens_of d) + members_room ms
member_room k d ms =
    omega (arith, length-append (quoted k) (58 ∷ []), room-append (tokens_of d) (members_tokens (members_outline ms)))

put_fits : (k : List ℕ) (d : Data) (ms : Members) (a b : ℕ) → Fits a d → MembersFit b ms → MembersFit (2 + length (quoted k) + a + b) (put k d ms)
put_fits k d no_members a b f h = record {
  plain = (f.plain, tt);
  shallow = omega (arith, f.shallow);
  short = omega (arith, f.short, h.short, member_room k d no_members);
}
put_fits k d (member l e ms) a b f h =
    put_by (slice_cmp nat_cmp k l)
    (put_fits k d ms a (members_room ms) f (record { plain = h.plain.1; shallow = omega (arith, h.shallow); short = omega arith }))
  where
    put_by : (o : Ordering) → MembersFit (2 + length (quoted k) + a + members_room ms) (put k d ms)
        → MembersFit (2 + length (quoted k) + a + b) (match_ordering o (member k d (member l e ms)) (member l d ms) (member l e (put k d ms)))
    put_by Less rest = record {
      plain = (f.plain, h.plain);
      shallow = omega (arith, f.shallow, h.shallow);
      short = omega (arith, f.short, h.short, member_room k d (member l e ms));
    }
    put_by Equal rest = record {
      plain = (f.plain, h.plain.1);
      shallow = omega (arith, f.shallow, h.shallow);
      short = omega (arith, f.short, h.short, member_room l e ms, member_room l d ms);
    }
    put_by Greater rest = record {
      plain = (h.plain.0, rest.plain);
      shallow = omega (arith, h.shallow, rest.shallow);
      short = omega (arith, h.short, rest.short, member_room l e ms, member_room l e (put k d ms));
    }

all_fit : (ms : List Row) (ds : List Data) (others : Members) (b : ℕ) → AllFit ms ds → MembersFit b others
    → MembersFit (most_of_all ms + b) (members_with ms ds others)
all_fit [] ds others b f h = record { plain = h.plain; shallow = h.shallow; short = omega (arith, h.short) }
all_fit (m ∷ ms) [] others b f h = record { plain = h.plain; shallow = h.shallow; short = omega (arith, h.short) }
all_fit (m ∷ ms) (d ∷ ds) others b f h =
    let most = 2 + length (quoted m.name) + most_of m.kind in
    let all = all_fit ms ds (put m.name d others) (most + b) f.1 (put_fits m.name d others (most_of m.kind) b f.0 h) in
    record { plain = all.plain; shallow = all.shallow; short = omega (arith, all.short) }

-- ---- values of each kind

number_fits : (n : ℕ) → n < 2 ^ 64 → Fits 21 (number_tree n)
number_fits n h = record { plain = h; shallow = omega arith; short = omega (arith, number_length n h) }

switch_fits : (b : Bool) → Fits 6 (boolean b)
switch_fits true = record { plain = tt; shallow = omega arith; short = omega arith }
switch_fits false = record { plain = tt; shallow = omega arith; short = omega arith }

ascii_fits : (most : ℕ) (s : List ℕ) → are_ascii s ≡ true → nat_le (length (quoted s)) most ≡ true → Fits (most + 1) (string s)
ascii_fits most s e f = record { plain = IsUtf8-are_ascii s e; shallow = omega arith; short = omega (arith, leb-true (length (quoted s)) most f) }

state_fits : (s : rules.State) → Fits 14 (string (state_word s))
unfolding escape_byte
state_fits s =
    ascii_fits 13 (state_word s) (each_state (λ s. are_ascii (state_word s) ≡ true) refl refl refl refl refl refl refl s)
    (each_state (λ s. nat_le (length (quoted (state_word s))) 13 ≡ true) refl refl refl refl refl refl refl s)

kind_fits : (k : Kind) → Fits 7 (string (kind_word k))
unfolding escape_byte
kind_fits kind.Soft = ascii_fits 6 (codes "SOFT") refl refl
kind_fits kind.Hard = ascii_fits 6 (codes "HARD") refl refl

flapping_fits : (b : Bool) → Fits 11 (string (flapping_word b))
unfolding escape_byte
flapping_fits true = ascii_fits 10 (codes "FLAPPING") refl refl
flapping_fits false = ascii_fits 10 (codes "STEADY") refl refl

letters_ascii : (results : List rules.State) → are_ascii (letters_of results) ≡ true
letters_ascii [] = refl
letters_ascii (s ∷ ss) = rw ((letter_fits s).1) (letters_ascii ss)

letters_fit : (results : List rules.State) → length results ≤ 21 → Fits 129 (string (letters_of results))
letters_fit results h = record {
  plain = IsUtf8-are_ascii (letters_of results) (letters_ascii results);
  shallow = omega arith;
  short = omega (arith, quoted_length (letters_of results), length-map results state_letter, h);
}

-- a name is a text
is_text : (name : List ℕ) → (is_utf8 name && has_name_bytes name) ≡ true → IsUtf8 name
is_text name e = IsUtf8-from_is_utf8 name (and_parts (is_utf8 name) (has_name_bytes name) e).0

name_is : (name : List ℕ) → IsFullName name → IsUtf8 name × (length name ≤ 511)
name_is name (inl e) = (is_text name e, omega (arith, short_name name e))
name_is name (inr (host, description, same, e, f)) = (
  subst IsUtf8 (sym same)
      (IsUtf8-append host (59 ∷ description) (is_text host e)
      (IsUtf8-append (59 ∷ []) description (IsUtf8-are_ascii (59 ∷ []) refl) (is_text description f))),
  omega (arith, short_name host e, short_name description f, ap length same ∙ length-append host (59 ∷ description)),
)

name_fits : (name : List ℕ) → IsFullName name → Fits 3069 (string name)
name_fits name h =
    let is = name_is name h in
    record { plain = is.0; shallow = omega arith; short = omega (arith, is.1, quoted_length name) }

time_fits : (time : Option ℕ) → is_time time ≡ true → Fits 21 (time_tree time)
time_fits None e = record { plain = tt; shallow = omega arith; short = omega arith }
time_fits (Some time) e = let most : time ≤ 2 ^ 61 = leb-true time (2 ^ 61) e in number_fits time (omega arith)

run_fits : (runs : ℕ) (run : Option OpenRun) → runs ≤ 2 ^ 60 → is_moment run ≡ true
    → ((n : ℕ) → option_map (λ r. r.number) run ≡ Some n → (1 ≤ n) × (n ≤ runs)) → Fits 65 (run_tree run)
unfolding escape_byte
run_fits runs None bounded e numbered = record { plain = tt; shallow = omega arith; short = omega arith }
run_fits runs (Some r) bounded e numbered =
    let most : r.start ≤ 2 ^ 60 = leb-true r.start (2 ^ 60) e in
    let number = numbered r.number refl in
    let n = number_fits r.number (omega arith) in
    let s = number_fits r.start (omega arith) in
    record { plain = (refl, refl, (n.plain, (s.plain, tt))); shallow = omega arith; short = omega (arith, n.short, s.short) }

-- ---- an object

-- a value's fact for each row of the table
values_fit : (runs : ℕ) (o : SavedObject) → runs ≤ 2 ^ 60 → IsSavedObject runs o → AllFit object_members (object_values o)
values_fit runs o bounded saved =
    let times = and_parts (is_time o.scheduling.next) (is_moment o.scheduling.run) saved.in_time in
    let attempt = attempt_by o.standing o.max_attempts saved.standing.lawful saved.nonzero_attempts saved.bounded_attempts in (
      name_fits o.name saved.name,
      (
        state_fits o.standing.state,
        (
          kind_fits o.standing.kind,
          (
            number_fits o.standing.attempt (omega (arith, attempt.1)),
            (
              state_fits o.standing.last_hard,
              (
                switch_fits o.standing.checked,
                (
                  flapping_fits o.standing.flapping,
                  (
                    letters_fit o.results saved.results.bounded,
                    (
                      time_fits o.scheduling.next times.0,
                      (
                        run_fits runs o.scheduling.run bounded times.1 saved.numbered,
                        (
                          switch_fits o.scheduling.enabled,
                          (
                            switch_fits o.scheduling.forced,
                            (
                              number_fits o.interval (omega (arith, saved.interval)),
                              (
                                number_fits o.max_attempts (omega (arith, saved.bounded_attempts)),
                                (switch_fits o.setup_enabled, tt),
                              ),
                            ),
                          ),
                        ),
                      ),
                    ),
                  ),
                ),
              ),
            ),
          ),
        ),
      ),
    )

object_fits : (runs : ℕ) (o : SavedObject) → runs ≤ 2 ^ 60 → IsSavedObject runs o
    → IsPlain (object_tree o) × (tree.depth (outline (object_tree o)) ≤ 2) × (room (tokens_of (object_tree o)) ≤ 4000)
unfolding escape_byte
object_fits runs o bounded saved =
    let all = all_fit object_members (object_values o) no_members 2 (values_fit runs o bounded saved)
    (record { plain = tt; shallow = omega arith; short = omega arith }) in
    let total : most_of_all object_members ≤ 3996 = leb-true (most_of_all object_members) 3996 refl in
    ((refl, refl, all.plain), omega (arith, all.shallow), omega (arith, all.short, total))

-- ---- all objects

objects_fit : (runs : ℕ) (objects : List SavedObject) → runs ≤ 2 ^ 60
    → ((place : ℕ) (o : SavedObject) → slice_get objects place ≡ Some o → IsSavedObject runs o)
    → ArePlain (objects_tree objects) × (tree.items_depth (items_outline (objects_tree objects)) ≤ 2) × (room (items_tokens (items_outline (objects_tree objects))) ≤ 2 + 4000 * length objects)
objects_fit runs [] bounded each = (tt, omega arith, omega arith)
objects_fit runs (o ∷ os) bounded each =
    let one = object_fits runs o bounded (each 0 o refl) in
    let more = objects_fit runs os bounded (λ place x is. each (suc place) x is) in
    ((one.0, more.0), omega (arith, one.1, more.1), omega (arith, one.2, more.2, room-append (tokens_of (object_tree o)) (items_tokens (items_outline (objects_tree os)))))

-- a saved state, whose text has at most 16,777,216 bytes
pub saved_fits : (saved : Saved) → IsSaved saved
    → IsPlain (saved_tree saved) × (tree.depth (outline (saved_tree saved)) ≤ 127) × (length (saved_text saved) ≤ 16777216)
unfolding escape_byte
saved_fits saved is =
    let start = number_fits saved.start (omega (arith, is.start)) in
    let runs = number_fits saved.runs (omega (arith, is.runs)) in
    let format = number_fits newest_format (omega arith) in
    let all = objects_fit saved.runs saved.objects is.runs is.each in
    let items = items_tokens (items_outline (objects_tree saved.objects)) in
    let parts = room-append items (members_tokens (members_outline (member (codes "runs") (number_tree saved.runs) (member (codes "start") (number_tree saved.start) no_members)))) in (
      (refl, refl, (format.plain, (all.0, (runs.plain, (start.plain, tt))))),
      omega (arith, all.1),
      omega (arith, text_length (saved_tree saved), start.short, runs.short, format.short, all.2, is.bounded, parts),
    )
