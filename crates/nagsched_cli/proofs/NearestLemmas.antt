-- The nearest of the names that were compared so far.
use Rattle.std.proofs.Common.{◌≡◌, ℕ, ◌+◌, ◌<◌, ◌≤◌, List, [], ◌∷◌, ◌++◌, length, take, get_or, Option, Some, None, refl, arith, ap, ◌∙◌}
use Rattle.std.specs.Borrow.{Bor}
use Rattle.std.proofs.lemmas.List.{map-append, take_more}
use Rattle.clap.specs.Walk.{texts}
use Rattle.std.specs.Prelude.{All, Contains}
use Rattle.std.proofs.lemmas.List.Elements.{All-nil, All-push, All-weaker, Contains-push, Contains-append_left}
use Rattle.clap.specs.Words.{Text}
use Rattle.nagsched_cli.specs.Nearest.{edits, IsNearest}

-- of these names this is the nearest, this many edits away; without one, three is the number to stay below
abbrev pub IsNearestYet : Text → List Text → Option Text → ℕ → Type 0
IsNearestYet word names None least = (least ≡ 3) × All (λ name. 3 ≤ edits word name) names
IsNearestYet word names (Some near) least =
    (least ≡ edits word near) × (least ≤ 2) × Contains names near × All (λ name. edits word near ≤ edits word name) names

pub no_name : (word : Text) → IsNearestYet word [] None 3
no_name word = (refl, All-nil (λ name. 3 ≤ edits word name))

pub nearer : (word : Text) (names : List Text) (near : Option Text) (least : ℕ) (name : Text)
    → IsNearestYet word names near least → edits word name < least → IsNearestYet word (names ++ name ∷ []) (Some name) (edits word name)
nearer word names None least name h lt = (
  refl,
  omega (arith, h.0, lt),
  Contains-push names name,
  All-push (λ m. edits word name ≤ edits word m) names name
      (All-weaker (λ m. 3 ≤ edits word m) (λ m. edits word name ≤ edits word m) (λ m k. omega (arith, h.0, lt, k)) names h.1) (omega arith),
)
nearer word names (Some near) least name h lt = (
  refl,
  omega (arith, h.1, lt),
  Contains-push names name,
  All-push (λ m. edits word name ≤ edits word m) names name
      (All-weaker (λ m. edits word near ≤ edits word m) (λ m. edits word name ≤ edits word m) (λ m k. omega (arith, h.0, lt, k)) names h.3) (omega arith),
)

pub no_nearer : (word : Text) (names : List Text) (near : Option Text) (least : ℕ) (name : Text)
    → IsNearestYet word names near least → (edits word name < least → ⊥) → IsNearestYet word (names ++ name ∷ []) near least
no_nearer word names None least name h ge =
    let far : 3 ≤ edits word name = omega (arith, h.0, ge) in
    (h.0, All-push (λ m. 3 ≤ edits word m) names name h.1 far)
no_nearer word names (Some near) least name h ge =
    let far : edits word near ≤ edits word name = omega (arith, h.0, ge) in
    (h.0, h.1, Contains-append_left names (name ∷ []) near h.2, All-push (λ m. edits word near ≤ edits word m) names name h.3 far)

pub nearest_at_end : (word : Text) (names : List Text) (near : Option Text) (least : ℕ)
    → IsNearestYet word names near least → IsNearest word names near
nearest_at_end word names None least h =
    All-weaker (λ m. 3 ≤ edits word m) (λ m. 2 < edits word m) (λ m k. omega (arith, k)) names h.1
nearest_at_end word names (Some near) least h = (h.2, omega (arith, h.0, h.1), h.3)

-- ---- one name more of a list of references

texts_more : (names : List (Bor Text)) (i : ℕ) (d : Bor Text) → i < length names
    → texts (take (i + 1) names) ≡ texts (take i names) ++ (get_or names i d).now ∷ []
texts_more names i d h = ap texts (take_more names i d h) ∙ map-append (λ (w : Bor Text). w.now) (take i names) (get_or names i d ∷ [])

pub nearer_more : (word : Text) (names : List (Bor Text)) (i : ℕ) (d : Bor Text) (near : Option Text) (least e : ℕ) → i < length names
    → IsNearestYet word (texts (take i names)) near least → e ≡ edits word (get_or names i d).now → e < least
    → IsNearestYet word (texts (take (i + 1) names)) (Some (get_or names i d).now) e
nearer_more word names i d near least e h yet is lt =
    let less : edits word (get_or names i d).now < least = rw (← is) lt in
    rw (texts_more names i d h, is) (nearer word (texts (take i names)) near least (get_or names i d).now yet less)

pub no_nearer_more : (word : Text) (names : List (Bor Text)) (i : ℕ) (d : Bor Text) (near : Option Text) (least e : ℕ) → i < length names
    → IsNearestYet word (texts (take i names)) near least → e ≡ edits word (get_or names i d).now → (e < least → ⊥)
    → IsNearestYet word (texts (take (i + 1) names)) near least
no_nearer_more word names i d near least e h yet is ge =
    let more : edits word (get_or names i d).now < least → ⊥ = rw (← is) ge in
    rw (texts_more names i d h) (no_nearer word (texts (take i names)) near least (get_or names i d).now yet more)
