-- The lines of an input are its lines, and no others are.
use Rattle.std.proofs.Common.{◌≡◌, ◌≢◌, ℕ, ◌==◌, false, cond, List, [], ◌∷◌, ◌++◌, refl, sym, ◌∙◌, ap, inl, inr}
use Rattle.std.specs.Prelude.{if◌then◌else◌}
use Rattle.std.specs.List.{AllByRecursion, join_with_byte}
use Rattle.std.proofs.lemmas.Bool.{cases_eq, ne_eqb}
use Rattle.setup_reader.specs.Feeds.{HasNoLineFeed}
use Rattle.nagsched_protocol.specs.Input.{AreLines, lines_of, onto_first, without_last_feed}

-- the pieces between line feeds, of which there is always one
split_of : List ℕ → List (List ℕ)
split_of [] = [] ∷ []
split_of (b ∷ bs) = if b == 10 then [] ∷ split_of bs else onto_first b (split_of bs)

-- ---- a split undoes a join

split_line : (line : List ℕ) → HasNoLineFeed line → split_of line ≡ line ∷ []
unfolding split_of
split_line [] h = refl
split_line (b ∷ line) h =
    let e : (b == 10) ≡ false = ne_eqb b 10 h.0 in
    rw (e, split_line line h.1) refl

split_first : (line rest : List ℕ) → HasNoLineFeed line → split_of (line ++ (10 ∷ rest)) ≡ line ∷ split_of rest
unfolding split_of
split_first [] rest h = refl
split_first (b ∷ line) rest h =
    let e : (b == 10) ≡ false = ne_eqb b 10 h.0 in
    rw (e, split_first line rest h.1) refl

split_join : (lines : List (List ℕ)) (line : List ℕ) → AllByRecursion HasNoLineFeed (line ∷ lines)
    → split_of (join_with_byte 10 (line ∷ lines)) ≡ line ∷ lines
split_join [] line h = split_line line h.0
split_join (next ∷ lines) line h =
    split_first line (join_with_byte 10 (next ∷ lines)) h.0 ∙ ap (λ l. line ∷ l) (split_join lines next h.1)

-- ---- a join undoes a split

onto_some : (b : ℕ) (lines : List (List ℕ)) → onto_first b lines ≢ []
onto_some b [] e = cc
onto_some b (line ∷ lines) e = cc

split_some : (bs : List ℕ) → split_of bs ≢ []
unfolding split_of
split_some [] e = cc
split_some (b ∷ bs) e = elim (cases_eq b 10) [
  | inl same ↦ let f : [] ∷ split_of bs ≡ [] = rw same at e in let g : ⊥ = cc in g
  | inr other ↦ onto_some b (split_of bs) (rw (ne_eqb b 10 other) at e)
]

join_feed : (lines : List (List ℕ)) → lines ≢ [] → join_with_byte 10 ([] ∷ lines) ≡ 10 ∷ join_with_byte 10 lines
join_feed [] some = absurd (some refl)
join_feed (line ∷ lines) some = refl

join_onto : (b : ℕ) (lines : List (List ℕ)) → lines ≢ [] → join_with_byte 10 (onto_first b lines) ≡ b ∷ join_with_byte 10 lines
join_onto b [] some = absurd (some refl)
join_onto b (line ∷ []) some = refl
join_onto b (line ∷ next ∷ lines) some = refl

join_split : (bs : List ℕ) → join_with_byte 10 (split_of bs) ≡ bs
unfolding split_of
join_split [] = refl
join_split (b ∷ bs) = elim (cases_eq b 10) [
  | inl same ↦ rw same (join_feed (split_of bs) (split_some bs) ∙ ap (λ l. 10 ∷ l) (join_split bs))
  | inr other ↦ rw (ne_eqb b 10 other) (join_onto b (split_of bs) (split_some bs) ∙ ap (λ l. b ∷ l) (join_split bs))
]

-- ---- the lines of an input

-- they are the pieces without the line feed at the end
split_without : (b : ℕ) (bs : List ℕ) → split_of (without_last_feed (b ∷ bs)) ≡ lines_of (b ∷ bs)
unfolding split_of
split_without b [] = elim (cases_eq b 10) [
  | inl same ↦ rw same refl
  | inr other ↦ let e : (b == 10) ≡ false = ne_eqb b 10 other in rw e (rw e refl)
]
split_without b (c ∷ cs) = ap (λ l. cond (b == 10) ([] ∷ l) (onto_first b l)) (split_without c cs)

feedless_onto : (b : ℕ) (lines : List (List ℕ)) → b ≢ 10 → AllByRecursion HasNoLineFeed lines → AllByRecursion HasNoLineFeed (onto_first b lines)
feedless_onto b [] other h = ((other, tt), tt)
feedless_onto b (line ∷ lines) other h = ((other, h.0), h.1)

feedless_lines : (bs : List ℕ) → AllByRecursion HasNoLineFeed (lines_of bs)
feedless_lines [] = tt
feedless_lines (b ∷ bs) = elim (cases_eq b 10) [
  | inl same ↦ rw same (tt, feedless_lines bs)
  | inr other ↦ rw (ne_eqb b 10 other) (feedless_onto b (lines_of bs) other (feedless_lines bs))
]

pub lines_are : (input : List ℕ) → AreLines input (lines_of input)
lines_are [] = record { feedless = tt; joined = refl; none = (λ e. refl); some = (λ any e. any refl) }
lines_are (b ∷ bs) = record {
  feedless = feedless_lines (b ∷ bs);
  joined = ap (join_with_byte 10) (sym (split_without b bs)) ∙ join_split (without_last_feed (b ∷ bs));
  none = (λ e. let f : b ∷ bs ≡ [] = e in absurd (let g : ⊥ = cc in g));
  some = (λ any e. split_some (without_last_feed (b ∷ bs)) (split_without b bs ∙ e));
}

pub lines_only : (input : List ℕ) (lines : List (List ℕ)) → AreLines input lines → lines ≡ lines_of input
lines_only [] lines a = a.none refl
lines_only (b ∷ bs) [] a = absurd (a.some (λ e. cc) refl)
lines_only (b ∷ bs) (line ∷ lines) a =
    sym (split_join lines line a.feedless) ∙ ap split_of a.joined ∙ split_without b bs
