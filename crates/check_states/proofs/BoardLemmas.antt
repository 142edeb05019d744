-- The digits of a standing's word.
use Rattle.std.proofs.Common.{◌≡◌, ℕ, zero, suc, ◌+◌, ◌*◌, ◌/◌, ◌%◌, ◌<◌, ◌==◌, Bool, true, false, cond, List, [], ◌∷◌, Option, Some, None, refl, arith}
use Rattle.std.specs.Prelude.{find, nat_lt, option_and_then, option_map}
use Rattle.std.proofs.lemmas.Bool.{eqb-true}
use Rattle.std.proofs.lemmas.Bool.Decides.{nat_tests}
use Rattle.check_states.specs.declared.state.State.{State}
use Rattle.check_states.specs.declared.standing.Kind.{Kind}
use Rattle.check_states.specs.declared.standing.Kind.TheVariants as kind
use Rattle.check_states.specs.declared.standing.Standing.{Standing}
use Rattle.check_states.specs.Numbers.{all_states, kind_number, state_of_number, state_number}
use Rattle.check_states.proofs.Cases.{each_state}
use Rattle.check_states.specs.Board.{word_of_standing, flag, standing_of_word, standing_with_states}

module _ (c s k a l f : ℕ) (small_c : c < 2) (small_s : s < 8) (small_k : k < 2) (small_a : a < 256) (small_l : l < 8) (small_f : f < 2) where
  abbrev whole : ℕ
  whole = c + 2 * s + 16 * k + 32 * a + 8192 * l + 65536 * f

  digits : record {
    first : whole / 1 % 2 ≡ c;
    second : whole / 2 % 8 ≡ s;
    third : whole / 16 % 2 ≡ k;
    fourth : whole / 32 % 256 ≡ a;
    fifth : whole / 8192 % 8 ≡ l;
    sixth : whole / 65536 % 2 ≡ f;
  }
  digits = record {
    first = omega (arith, small_c, small_s, small_k, small_a, small_l, small_f);
    second = omega (arith, small_c, small_s, small_k, small_a, small_l, small_f);
    third = omega (arith, small_c, small_s, small_k, small_a, small_l, small_f);
    fourth = omega (arith, small_c, small_s, small_k, small_a, small_l, small_f);
    fifth = omega (arith, small_c, small_s, small_k, small_a, small_l, small_f);
    sixth = omega (arith, small_c, small_s, small_k, small_a, small_l, small_f);
  }

-- ---- each digit is read back

-- what each state's number is read as, and that it takes no more than three bits
number_read : (s : State) → (state_of_number (state_number s) ≡ Some s) × (state_number s < 8)
number_read =
    each_state (λ s. (state_of_number (state_number s) ≡ Some s) × (state_number s < 8))
    (refl, omega arith) (refl, omega arith) (refl, omega arith) (refl, omega arith) (refl, omega arith) (refl, omega arith) (refl, omega arith)

flag_read : (b : Bool) → (flag b == 1) ≡ b
flag_read true = refl
flag_read false = refl

small_flag : (b : Bool) → flag b < 2
small_flag true = omega arith
small_flag false = omega arith

kind_read : (k : Kind) → cond (kind_number k == 1) kind.Hard kind.Soft ≡ k
kind_read kind.Soft = refl
kind_read kind.Hard = refl

small_kind : (k : Kind) → kind_number k < 2
small_kind kind.Soft = omega arith
small_kind kind.Hard = omega arith

-- the word of a standing is read as that standing
pub coded_back : (s : Standing) → s.attempt < 256 → standing_of_word (word_of_standing s) ≡ Some s
coded_back s bounded =
    let c = flag s.checked in
    let n = state_number s.state in
    let k = kind_number s.kind in
    let l = state_number s.last_hard in
    let f = flag s.flapping in
    let small_c = small_flag s.checked in
    let small_n = (number_read s.state).1 in
    let small_k = small_kind s.kind in
    let small_l = (number_read s.last_hard).1 in
    let small_f = small_flag s.flapping in
    let below : nat_lt (word_of_standing s) 131072 ≡ true = grind (arith, nat_tests, small_c, small_n, small_k, bounded, small_l, small_f) in
    let read = digits c n k s.attempt l f small_c small_n small_k bounded small_l small_f in
    rw (
      below,
      read.second,
      (number_read s.state).0,
      read.fifth,
      (number_read s.last_hard).0,
      read.first,
      flag_read s.checked,
      read.third,
      kind_read s.kind,
      read.fourth,
      read.sixth,
      flag_read s.flapping,
    ) refl

-- ---- no other word is read as that standing

found_first : (p : State → Bool) (ss : List State) (passed : Bool) (x s : State) → p x ≡ passed → ((find p ss ≡ Some s) → p s ≡ true)
    → cond passed (Some x) (find p ss) ≡ Some s → p s ≡ true
found_first p ss true x s e rest h = let same : x ≡ s = cc in rw (← same) e
found_first p ss false x s e rest h = rest h

found_passes : (p : State → Bool) (ss : List State) (s : State) → find p ss ≡ Some s → p s ≡ true
found_passes p [] s h = cc
found_passes p (x ∷ ss) s h = found_first p ss (p x) x s refl (found_passes p ss s) h

-- what is read as a state is its number
number_of_read : (n : ℕ) (s : State) → state_of_number n ≡ Some s → state_number s ≡ n
number_of_read n s h = eqb-true (state_number s) n (found_passes (λ t. state_number t == n) all_states s h)

bit_of : (digit : ℕ) → digit < 2 → flag (digit == 1) ≡ digit
bit_of zero h = refl
bit_of (suc zero) h = refl
bit_of (suc (suc digit)) h = absurd (omega (arith, h))

kind_of : (digit : ℕ) → digit < 2 → kind_number (cond (digit == 1) kind.Hard kind.Soft) ≡ digit
kind_of zero h = refl
kind_of (suc zero) h = refl
kind_of (suc (suc digit)) h = absurd (omega (arith, h))

all_digits : (w : ℕ) → w < 131072
    → w ≡ w / 1 % 2 + 2 * (w / 2 % 8) + 16 * (w / 16 % 2) + 32 * (w / 32 % 256) + 8192 * (w / 8192 % 8) + 65536 * (w / 65536 % 2)
all_digits w h = omega (arith, h)

word_by : (w : ℕ) (current last_hard : State) → w < 131072 → state_number current ≡ w / 2 % 8 → state_number last_hard ≡ w / 8192 % 8
    → w ≡ word_of_standing (standing_with_states w current last_hard)
word_by w current last_hard below first second =
    rw (
      bit_of (w / 1 % 2) (omega arith),
      first,
      kind_of (w / 16 % 2) (omega arith),
      second,
      bit_of (w / 65536 % 2) (omega arith),
    ) (all_digits w below)

by_states : (w : ℕ) (s : Standing) (current last_hard : Option State) → w < 131072 → state_of_number (w / 2 % 8) ≡ current
    → state_of_number (w / 8192 % 8) ≡ last_hard
    → option_and_then (λ one. option_map (standing_with_states w one) last_hard) current ≡ Some s → w ≡ word_of_standing s
by_states w s None last_hard below a b h = cc
by_states w s (Some current) None below a b h = cc
by_states w s (Some current) (Some last_hard) below a b h =
    let same : standing_with_states w current last_hard ≡ s = cc in
    rw (← same) (word_by w current last_hard below (number_of_read (w / 2 % 8) current a) (number_of_read (w / 8192 % 8) last_hard b))

by_range : (w : ℕ) (s : Standing) (below : Bool) → nat_lt w 131072 ≡ below
    → cond below (option_and_then (λ current. option_map (standing_with_states w current) (state_of_number (w / 8192 % 8))) (state_of_number (w / 2 % 8))) None
    ≡ Some s → w ≡ word_of_standing s
by_range w s true e h = by_states w s _ _ (grind (arith, nat_tests, e)) refl refl h
by_range w s false e h = cc

-- a word that is read as a standing is the standing's
pub word_back : (w : ℕ) (s : Standing) → standing_of_word w ≡ Some s → w ≡ word_of_standing s
word_back w s h = by_range w s (nat_lt w 131072) refl h
