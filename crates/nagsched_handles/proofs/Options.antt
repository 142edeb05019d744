-- A full handle leads to something.
use Rattle.std.proofs.Common.{◌≡◌, ◌==◌, not, ℕ, ◌∙◌, refl, sym, subst, Bool, true, false, T, is_some, Some, None}
use Rattle.std.specs.Prelude.{Option}
use Rattle.std.proofs.lemmas.Bool.{eqb-true}

is_not : (b : Bool) → false ≡ not b → b ≡ true
is_not true consistent = refl
is_not false consistent = absurd (subst T (sym consistent) tt)

pub some_of : {X : Type 0} (o : Option X) (full : ℕ) → is_some o ≡ not (full == 0) → (full ≡ 0 → ⊥) → (x : X) × (o ≡ Some x)
some_of (Some x) full consistent filled = (x, refl)
some_of None full consistent filled = absurd (filled (eqb-true full 0 (is_not (full == 0) consistent)))

-- An empty handle leads to nothing.
pub none_of : {X : Type 0} (o : Option X) (empty : Bool) → empty ≡ not (is_some o) → empty ≡ true → o ≡ None
none_of (Some x) empty consistent so = absurd (subst T (sym so ∙ consistent) tt)
none_of None empty consistent so = refl
