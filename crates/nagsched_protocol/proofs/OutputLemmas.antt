-- Writes one after another, and what a writer holds where one of them fails.
use Rattle.std.proofs.Common.{◌≡◌, ◌≢◌, ℕ, List, [], ◌∷◌, ◌++◌, take, drop, Option, None, Some, refl, sym, subst, ◌∙◌, ap, append_assoc, append-nil, arith, inl}
use Rattle.std.proofs.Common.{inr}
use Rattle.std.specs.Prelude.{OnErr, Result, Ok, Err}
use Rattle.std.specs.Io.KnownBytes.{Appends, Keeps}
use Rattle.std.proofs.lemmas.Grind.{common_steps}
use Rattle.nagsched_protocol.specs.Output.{AreWholeLines, EndsLine, WroteFront, WroteLinesUpTo, WroteShort, WroteUpTo}

-- a text with something in it, with more after it or before it
pub some_append : (xs ys : List ℕ) → xs ≢ [] → xs ++ ys ≢ []
some_append [] ys some e = some refl
some_append (x ∷ xs) ys some e = cc

append_some : (xs ys : List ℕ) → ys ≢ [] → xs ++ ys ≢ []
append_some [] ys some e = some e
append_some (x ∷ xs) ys some e = cc

-- what ends a line has something in it, and so has what continues with it
pub line_goes_on : (line rest left : List ℕ) → left ≡ line ++ rest → EndsLine line → left ≢ []
line_goes_on line rest left next (xs, e) none =
    some_append line rest (λ f. append_some xs (10 ∷ []) (λ g. cc) (sym e ∙ f)) (sym next ∙ none)

-- after whole lines come whole lines
pub whole_on : (a b : List ℕ) → AreWholeLines a → AreWholeLines b → AreWholeLines (a ++ b)
whole_on a b w (inl none) = subst AreWholeLines (sym (ap (λ l. a ++ l) none ∙ append-nil a)) w
whole_on a b w (inr (xs, e)) = inr (a ++ xs, ap (λ l. a ++ l) e ∙ sym (append_assoc a xs (10 ∷ [])))

-- nothing was appended
pub Appends-none : (known : Option (List ℕ)) → Appends known known []
Appends-none None = tt
Appends-none (Some xs) = grind (arith, common_steps)

-- one text after another
pub Appends-trans : (old mid new : Option (List ℕ)) (xs ys : List ℕ) → Appends old mid xs → Appends mid new ys → Appends old new (xs ++ ys)
Appends-trans None mid new xs ys h k = tt
Appends-trans (Some a) None new xs ys h k = absurd h
Appends-trans (Some a) (Some b) None xs ys h k = absurd k
Appends-trans (Some a) (Some b) (Some c) xs ys h k = k ∙ ap (λ v. v ++ ys) h ∙ append_assoc a xs ys

-- a text, and then a flush
pub Appends-Keeps : (old mid new : Option (List ℕ)) (xs : List ℕ) → Appends old mid xs → Keeps mid new → Appends old new xs
Appends-Keeps None mid new xs h k = tt
Appends-Keeps (Some a) None new xs h k = absurd h
Appends-Keeps (Some a) (Some b) None xs h k = absurd k
Appends-Keeps (Some a) (Some b) (Some c) xs h k = k ∙ h

-- before the first write
pub WroteUpTo-none : (known : Option (List ℕ)) (text : List ℕ) → WroteUpTo known known text text
WroteUpTo-none known text = record { front = []; parts = refl; appended = Appends-none known }

-- a write took n bytes of the rest
pub WroteUpTo-more : (old mid new : Option (List ℕ)) (text rest : List ℕ) (n : ℕ) → WroteUpTo old mid text rest → Appends mid new (take n rest)
    → WroteUpTo old new text (drop n rest)
WroteUpTo-more old mid new text rest n w a = record {
  front = w.front ++ take n rest;
  parts = grind (arith, common_steps, w.parts);
  appended = Appends-trans old mid new w.front (take n rest) w.appended a;
}

-- no rest is left
pub WroteUpTo-all : (old new : Option (List ℕ)) (text : List ℕ) → WroteUpTo old new text [] → Appends old new text
WroteUpTo-all old new text w = let e : w.front ≡ text = grind (arith, common_steps, w.parts) in rw (← e) w.appended

-- ---- line by line

-- a line that is next in the text was written
pub WroteUpTo-line : (old mid new : Option (List ℕ)) (text line rest : List ℕ) → WroteUpTo old mid text (line ++ rest) → Appends mid new line
    → WroteUpTo old new text rest
WroteUpTo-line old mid new text line rest w a = record {
  front = w.front ++ line;
  parts = w.parts ∙ sym (append_assoc w.front line rest);
  appended = Appends-trans old mid new w.front line w.appended a;
}

-- a prefix of that line was
pub WroteUpTo-part : (old mid new : Option (List ℕ)) (text line rest : List ℕ) → WroteUpTo old mid text (line ++ rest) → WroteFront mid new line
    → WroteFront old new text
WroteUpTo-part old mid new text line rest w (left, f) = (
  left ++ rest,
  record {
    front = w.front ++ f.front;
    parts =
        w.parts ∙ ap (λ l. w.front ++ (l ++ rest)) f.parts ∙ ap (λ l. w.front ++ l) (append_assoc f.front left rest)
        ∙ sym (append_assoc w.front f.front (left ++ rest));
    appended = Appends-trans old mid new w.front f.front w.appended f.appended;
  },
)

-- the same two, where the rest is shown to begin with the line
pub WroteUpTo-next : (old mid new : Option (List ℕ)) (text left line rest : List ℕ) → WroteUpTo old mid text left → left ≡ line ++ rest
    → Appends mid new line → WroteUpTo old new text rest
WroteUpTo-next old mid new text left line rest w e a =
    WroteUpTo-line old mid new text line rest (record { front = w.front; parts = w.parts ∙ ap (λ l. w.front ++ l) e; appended = w.appended }) a

pub WroteUpTo-cut : (old mid new : Option (List ℕ)) (text left line rest : List ℕ) → WroteUpTo old mid text left → left ≡ line ++ rest
    → WroteFront mid new line → WroteFront old new text
WroteUpTo-cut old mid new text left line rest w e f =
    WroteUpTo-part old mid new text line rest (record { front = w.front; parts = w.parts ∙ ap (λ l. w.front ++ l) e; appended = w.appended }) f

-- the rest is shown to be empty
pub WroteUpTo-whole : (old new : Option (List ℕ)) (text left : List ℕ) → WroteUpTo old new text left → left ≡ [] → Appends old new text
WroteUpTo-whole old new text left w e =
    WroteUpTo-all old new text (record { front = w.front; parts = w.parts ∙ ap (λ l. w.front ++ l) e; appended = w.appended })

-- ---- whole lines

pub lines_none : (known : Option (List ℕ)) (text : List ℕ) → WroteLinesUpTo known known text text
unfolding WroteUpTo-none
lines_none known text = (WroteUpTo-none known text, inl refl)

-- the line that is next was written
pub lines_next : (old mid new : Option (List ℕ)) (text left line rest : List ℕ) → WroteLinesUpTo old mid text left → left ≡ line ++ rest
    → Appends mid new line → EndsLine line → WroteLinesUpTo old new text rest
unfolding WroteUpTo-next WroteUpTo-line
lines_next old mid new text left line rest (w, whole) e a ends =
    (WroteUpTo-next old mid new text left line rest w e a, whole_on w.front line whole (inr ends))

-- nothing of a text was written
pub front_none : (known : Option (List ℕ)) (text : List ℕ) → WroteFront known known text
front_none known text = (text, WroteUpTo-none known text)

-- all of a text was written
pub front_all : (old new : Option (List ℕ)) (bytes : List ℕ) → Appends old new bytes → WroteFront old new bytes
front_all old new bytes a = ([], record { front = bytes; parts = sym (append-nil bytes); appended = a })

-- ---- want of memory

-- what is next in the text ends a line, and it is missing
pub short_next : (old mid new : Option (List ℕ)) (text left line rest : List ℕ) → WroteLinesUpTo old mid text left → left ≡ line ++ rest → EndsLine line
    → Keeps mid new → WroteShort old new text
short_next old mid new text left line rest (w, whole) e ends k = inr (
  left,
  line_goes_on line rest left e ends,
  (record { front = w.front; parts = w.parts; appended = Appends-Keeps old mid new w.front w.appended k }, whole),
)

-- ---- faults

-- what holds anyway holds of an error
pub on_err_any : {T E P : Type 0} (r : Result T E) → P → OnErr r P
on_err_any (Ok x) p = tt
on_err_any (Err e) p = p
