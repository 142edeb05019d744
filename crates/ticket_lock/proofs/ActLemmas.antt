-- What acts can leave in a table of one slot, and so which single table an operation leaves that meets its play.
use Rattle.std.proofs.Common.{◌≡◌, ℕ, zero, suc, ◌⊎◌, List, [], ◌∷◌, length, get_or, set, sym, refl, ap, ◌∙◌, inl, inr, arith}
use mathlib.Core.Option.{Option, some, none, some-injective, some-ne-none}
use lib.ListN.{get_elem?}
use Rattle.atomic_table.specs.Table.{Act, keeps, takes, gives, chain, put_back, rest, homes_after, carried_after, Valid}

module _ {S : Type 0} where
  -- the one slot has this at home and the seat carries nothing, or it was at home and the seat carries it
  abbrev pub HasSlot : Option S → List (Option S) → List (ℕ × S) → Type 0
  HasSlot home homes carried =
      ((homes ≡ home ∷ []) × (carried ≡ [])) ⊎ ((y : S) × (home ≡ some y) × (homes ≡ none ∷ []) × (carried ≡ (0, y) ∷ []))

  has_taken : (home : Option S) (homes : List (Option S)) (carried : List (ℕ × S)) (k : ℕ) (y : S) → HasSlot home homes carried
      → get_elem? homes k ≡ some (some y) → HasSlot home (set homes k none) ((k, y) ∷ carried)
  has_taken home homes carried zero y (inl t) at =
      inr (
        y,
        some-injective _ _ (ap (λ (q : List (Option S)). get_elem? q 0) (sym t.0) ∙ at),
        ap (λ (q : List (Option S)). set q 0 none) t.0,
        ap (λ (q : List (ℕ × S)). (0, y) ∷ q) t.1,
      )
  has_taken home homes carried (suc k) y (inl t) at =
      absurd (some-ne-none (some y) (sym (ap (λ (q : List (Option S)). get_elem? q (suc k)) (sym t.0) ∙ at)))
  has_taken home homes carried zero y (inr t) at =
      absurd (some-ne-none y (sym (some-injective _ _ (ap (λ (q : List (Option S)). get_elem? q 0) (sym t.2) ∙ at))))
  has_taken home homes carried (suc k) y (inr t) at =
      absurd (some-ne-none (some y) (sym (ap (λ (q : List (Option S)). get_elem? q (suc k)) (sym t.2) ∙ at)))

  has_given : (home : Option S) (homes : List (Option S)) (carried : List (ℕ × S)) → HasSlot home homes carried
      → HasSlot home (put_back homes carried) (rest carried)
  has_given home homes carried (inl t) = inl (ap (put_back homes) t.1 ∙ t.0, ap rest t.1)
  has_given home homes carried (inr t) =
      inl (ap (put_back homes) t.3 ∙ (ap (λ (q : List (Option S)). set q 0 (some t.0)) t.2 ∙ ap (λ (o : Option S). o ∷ []) (sym t.1)), ap rest t.3)

  -- no act changes what the slot has in all
  pub has_after : (home : Option S) (homes : List (Option S)) (carried : List (ℕ × S)) (a : Act S) → HasSlot home homes carried
      → Valid homes carried a → HasSlot home (homes_after homes carried a) (carried_after carried a)
  has_after home homes carried keeps h v = h
  has_after home homes carried (takes k y) h v = has_taken home homes carried k y h v
  has_after home homes carried gives h v = has_given home homes carried h
  has_after home homes carried (chain a b) h v =
      has_after home (homes_after homes carried a) (carried_after carried a) b (has_after home homes carried a h v.0) v.1

  -- a seat that carries nothing left it at home
  pub left_home : (home : Option S) (homes : List (Option S)) (carried : List (ℕ × S)) → HasSlot home homes carried → carried ≡ []
      → homes ≡ home ∷ []
  left_home home homes carried (inl t) e = t.0
  left_home home homes carried (inr t) e = absurd (omega (arith, ap length t.3, ap length e))

  abbrev carried_or : S → List (ℕ × S) → S
  carried_or d [] = d
  carried_or d (x ∷ xs) = x.1

  -- a seat that carries it took it from home
  pub took_home : (home : Option S) (homes : List (Option S)) (carried : List (ℕ × S)) (y : S) → HasSlot home homes carried
      → carried ≡ (0, y) ∷ [] → (home ≡ some y) × (homes ≡ none ∷ [])
  took_home home homes carried y (inl t) e = absurd (omega (arith, ap length t.1, ap length e))
  took_home home homes carried y (inr t) e = (t.1 ∙ ap some (ap (carried_or y) (sym t.3 ∙ e)), t.2)

  pub one_slot_is : (homes : List (Option S)) → length homes ≡ 1 → homes ≡ get_or homes 0 none ∷ []
  one_slot_is [] e = absurd (omega (arith, e))
  one_slot_is (x ∷ []) e = refl
  one_slot_is (x ∷ y ∷ xs) e = absurd (omega (arith, e))
