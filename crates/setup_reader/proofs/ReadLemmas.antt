-- What a value was read from: nothing that was read with it was missing.
use Rattle.std.proofs.Common.{◌≡◌, Bool, true, false, cond, Option, Some, None, Result, Ok, Err, refl}
use Rattle.std.specs.Prelude.{ok_or}
use Rattle.setup_model.specs.Agreement.{◌>>=◌}
use Rattle.setup_reader.specs.JsonTree.{◌>=>◌}

pub linked : {A B : Type 0} (o : Option A) (f : A → Option B) (b : B) (P : Type 0) → ((a : A) → o ≡ Some a → f a ≡ Some b → P) → (o >=> f) ≡ Some b → P
linked None f b P h e = cc
linked (Some a) f b P h e = h a refl e

pub guarded : {A : Type 0} (b : Bool) (o : Option A) (a : A) (P : Type 0) → (b ≡ true → o ≡ Some a → P) → cond b o None ≡ Some a → P
guarded true o a P h e = h refl e
guarded false o a P h e = cc

pub next : {A B E : Type 0} (r : Result A E) (f : A → Result B E) (b : B) (P : Type 0) → ((a : A) → r ≡ Ok a → f a ≡ Ok b → P) → (r >>= f) ≡ Ok b → P
next (Ok a) f b P h e = h a refl e
next (Err x) f b P h e = cc

pub from_ok_or : {A E : Type 0} (o : Option A) (x : E) (a : A) → ok_or o x ≡ Ok a → o ≡ Some a
from_ok_or None x a e = cc
from_ok_or (Some b) x a e = cc

pub some_is : {A : Type 0} (x y : A) → Some x ≡ Some y → x ≡ y
some_is x y e = let same : x ≡ y = cc in same

pub ok_is : {A E : Type 0} (x y : A) → ◌≡◌ {A = Result A E} (Ok x) (Ok y) → x ≡ y
ok_is x y e = let same : x ≡ y = cc in same
