-- What follows of the attempts of a standing, and of the length of a name.
use Rattle.std.proofs.Common.{◌≡◌, ℕ, ◌≤◌, ◌&&◌, ◌==◌, Bool, true, not, List, length, arith}
use Rattle.std.specs.Prelude.{nat_le, nat_lt}
use Rattle.std.specs.List.{list_all}
use Rattle.std.specs.Str.{is_utf8}
use Rattle.std.proofs.lemmas.Bool.{and_parts, eqb-true, leb-true}
use borrow.Author.Tests.{ltb-true}
use Rattle.setup_model.specs.Name.{has_name_bytes, is_name, is_name_byte}
use Rattle.check_states.specs.declared.standing.Kind.{Kind}
use Rattle.check_states.specs.declared.standing.Kind.TheVariants as kind
use Rattle.check_states.specs.declared.standing.Standing.{Standing}
use Rattle.check_states.specs.declared.state.State.{State}
use Rattle.check_states.specs.declared.state.State.TheVariants as state
use Rattle.check_states.specs.Standing.{is_lawful}
use Rattle.check_states.specs.State.{is_problem}

fine : (attempt max : ℕ) (b : Bool) → (nat_le 1 attempt && nat_le attempt max && b) ≡ true → (1 ≤ attempt) × (attempt ≤ max)
fine attempt max b e =
    let a = and_parts (nat_le 1 attempt) (nat_le attempt max) (and_parts (nat_le 1 attempt && nat_le attempt max) b e).0 in
    (leb-true 1 attempt a.0, leb-true attempt max a.1)

soft : (attempt max : ℕ) (b : Bool) → (nat_le 1 attempt && nat_lt attempt max && b) ≡ true → (1 ≤ attempt) × (attempt ≤ max)
soft attempt max b e =
    let a = and_parts (nat_le 1 attempt) (nat_lt attempt max) (and_parts (nat_le 1 attempt && nat_lt attempt max) b e).0 in
    let low = leb-true 1 attempt a.0 in
    let high = ltb-true attempt max a.1 in
    (omega arith, omega arith)

hard : (attempt max : ℕ) → 1 ≤ max → (attempt == max && true) ≡ true → (1 ≤ attempt) × (attempt ≤ max)
hard attempt max some e =
    let same = eqb-true attempt max (and_parts (attempt == max) true e).0 in
    (omega arith, omega arith)

attempt_of : (checked flapping : Bool) (s last_hard : State) (k : Kind) (attempt max : ℕ) → 1 ≤ max
    → is_lawful (record { checked = checked; state = s; kind = k; attempt = attempt; last_hard = last_hard; flapping = flapping }) max ≡ true
    → (1 ≤ attempt) × (attempt ≤ max)
attempt_of c f state.Ok l k attempt max some e = fine attempt max (not (is_problem l)) e
attempt_of c f state.Up l k attempt max some e = fine attempt max (not (is_problem l)) e
attempt_of c f state.Warning l kind.Soft attempt max some e = soft attempt max (not (is_problem l)) e
attempt_of c f state.Warning l kind.Hard attempt max some e = hard attempt max some e
attempt_of c f state.Critical l kind.Soft attempt max some e = soft attempt max (not (is_problem l)) e
attempt_of c f state.Critical l kind.Hard attempt max some e = hard attempt max some e
attempt_of c f state.Unknown l kind.Soft attempt max some e = soft attempt max (not (is_problem l)) e
attempt_of c f state.Unknown l kind.Hard attempt max some e = hard attempt max some e
attempt_of c f state.Down l kind.Soft attempt max some e = soft attempt max (not (is_problem l)) e
attempt_of c f state.Down l kind.Hard attempt max some e = hard attempt max some e
attempt_of c f state.Unreachable l kind.Soft attempt max some e = soft attempt max (not (is_problem l)) e
attempt_of c f state.Unreachable l kind.Hard attempt max some e = hard attempt max some e

-- the attempt of a lawful standing is 1 to 255, where its maximum is
pub attempt_by : (s : Standing) (max : ℕ) → is_lawful s max ≡ true → 1 ≤ max → max ≤ 255 → (1 ≤ s.attempt) × (s.attempt ≤ 255)
attempt_by s max e some bounded =
    let b = attempt_of s.checked s.flapping s.state s.last_hard s.kind s.attempt max some e in
    (b.0, let c = b.1 in omega arith)

pub short_name : (name : List ℕ) → is_name name ≡ true → length name ≤ 255
short_name name e =
    let bytes = and_parts (is_utf8 name) (has_name_bytes name) e in
    let a = and_parts (nat_le 1 (length name) && nat_le (length name) 255) (list_all is_name_byte name) bytes.1 in
    let b = and_parts (nat_le 1 (length name)) (nat_le (length name) 255) a.0 in
    leb-true (length name) 255 b.1
