-- How a function of the code agrees with the definitions, except when it runs out of memory. The code's error is of any type. `refusal` gives the
-- refusal that an error is, and None if the code is out of memory.
use Rattle.std.specs.Prelude.{◌≡◌, ℕ, ◌+◌, List, [], ◌∷◌, ◌++◌, Option, Some, None, Result, Ok, Err}

infixl 10 ◌>>=◌
-- the next result, unless there was a refusal before it
abbrev pub ◌>>=◌ : {A B E : Type 0} → Result A E → (A → Result B E) → Result B E
(Ok x) >>= f = f x
(Err e) >>= f = Err e

-- a list, followed by the rest
abbrev pub with_front : {A E : Type 0} → List A → Result (List A) E → Result (List A) E
with_front front rest = rest >>= λ more. Ok (front ++ more)

-- a refusal at the index that is found, or none
abbrev pub error_at : {E : Type 0} → (ℕ → E) → Option ℕ → Result (Unit {0}) E
error_at fault None = Ok tt
error_at fault (Some i) = Err (fault i)

-- the refusal that is found, or none
abbrev pub ok_unless : {E : Type 0} → Option E → Result (Unit {0}) E
ok_unless None = Ok tt
ok_unless (Some e) = Err e

-- the same, with the refusal seen as another
abbrev pub with_error : {A E F : Type 0} → (E → F) → Result A E → Result A F
with_error fault (Ok x) = Ok x
with_error fault (Err e) = Err (fault e)

-- Every item of a list passes a test, and this is the index of its first item; otherwise the refusal of the first item that doesn't pass.
abbrev pub each_from : {A E : Type 0} → (ℕ → A → Result (Unit {0}) E) → ℕ → List A → Result (Unit {0}) E
each_from test i [] = Ok tt
each_from test i (x ∷ xs) = test i x >>= λ _. each_from test (i + 1) xs

-- the same for a whole list
abbrev pub each : {A E : Type 0} → (ℕ → A → Result (Unit {0}) E) → List A → Result (Unit {0}) E
each test xs = each_from test 0 xs

-- the refusal is the defined one; without a refusal the code is out of memory, which says nothing
abbrev pub IsExpectedError : {Y R : Type 0} → Option R → Result Y R → Type 0
IsExpectedError None expected = Unit {0}
IsExpectedError (Some refusal) expected = expected ≡ Err refusal

-- the result of the code, seen by view, is the defined one, unless memory ran out
abbrev pub IsExpectedResult : {X Y E R : Type 0} → (E → Option R) → (X → Y) → Result X E → Result Y R → Type 0
IsExpectedResult refusal view (Ok x) expected = expected ≡ Ok (view x)
IsExpectedResult refusal view (Err e) expected = IsExpectedError (refusal e) expected
