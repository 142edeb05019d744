-- How the writing of a line or of a text ended.
use Rattle.std.proofs.Common.{◌≡◌, ◌≢◌, ℕ, List, [], ◌++◌, Option, Some, None, Result, Ok, Err, refl, subst, inl, inr}
use Rattle.std.specs.Prelude.{IsErrAnd, IsOkUnless, OnErr, OnOk}
use Rattle.std.specs.Io.KnownBytes.{Appends, Keeps}
use Rattle.nagsched_protocol.specs.declared.drive_error.DriveError.{DriveError}
use Rattle.nagsched_protocol.specs.declared.drive_error.DriveError.TheVariants as errors
use Rattle.nagsched_protocol.specs.Output.{EndsLine, WroteFront, WroteLinesUpTo, WroteShort}
use Rattle.nagsched_protocol.proofs.OutputLemmas.{Appends-Keeps, Appends-none, WroteUpTo-all, WroteUpTo-cut, WroteUpTo-next, short_next}
use Rattle.nagsched_protocol.specs.Written.{IsLineWritten, IsTextWritten, LeftOfLine, LeftOfText}

pub Keeps-same : (known : Option (List ℕ)) → Keeps known known
Keeps-same None = tt
Keeps-same (Some xs) = refl

-- where the writer was left as it was, a prefix without a byte was written
pub kept_front : (old new : Option (List ℕ)) (text : List ℕ) → Keeps old new → WroteFront old new text
kept_front old new text kept = (text, record { front = []; parts = refl; appended = Appends-Keeps old old new [] (Appends-none old) kept })

-- ---- a line

-- what it says clause by clause
pub left_clauses : (e : DriveError) (old new : Option (List ℕ)) (line : List ℕ) → LeftOfLine e old new line
    → WroteFront old new line × (e ≢ errors.Read) × (e ≡ errors.Memory → Keeps old new)
left_clauses errors.Read old new line h = absurd h
left_clauses errors.Write old new line h = (h, (λ q. cc), (λ q. cc))
left_clauses errors.Memory old new line h = (kept_front old new line h, (λ q. cc), (λ q. h))

-- how the writing of a line ended, where it is the text that was written
pub line_written : {T : Type 0} (r : Result T DriveError) (old new : Option (List ℕ)) (text line : List ℕ) → text ≡ line → OnOk r (Appends old new text)
    → OnErr r (WroteFront old new text) → IsOkUnless r errors.Write → IsLineWritten r old new line
line_written (Ok x) old new text line same all front only = subst (Appends old new) same all
line_written (Err errors.Read) old new text line same all front only = absurd (let no : errors.Read ≢ errors.Write = λ q. cc in no only)
line_written (Err errors.Write) old new text line same all front only = subst (WroteFront old new) same front
line_written (Err errors.Memory) old new text line same all front only = absurd (let no : errors.Memory ≢ errors.Write = λ q. cc in no only)

-- out of memory before anything of it was written
pub line_unwritten : {T : Type 0} (r : Result T DriveError) (held : Option (List ℕ)) (line : List ℕ) → IsErrAnd r (λ e. e ≡ errors.Memory)
    → IsLineWritten r held held line
line_unwritten (Ok x) held line is = absurd is
line_unwritten (Err e) held line is = rw is (Keeps-same held)

pub line_none : (e : DriveError) (held : Option (List ℕ)) (line : List ℕ) → e ≡ errors.Memory → LeftOfLine e held held line
line_none e held line is = rw is (Keeps-same held)

-- ---- a text

-- of which this line was next
pub text_cut : (e : DriveError) (old mid new : Option (List ℕ)) (text left line rest : List ℕ) → WroteLinesUpTo old mid text left → left ≡ line ++ rest
    → EndsLine line → LeftOfLine e mid new line → LeftOfText e old new text
text_cut errors.Read old mid new text left line rest w next ends h = h
text_cut errors.Write old mid new text left line rest w next ends h = WroteUpTo-cut old mid new text left line rest w.0 next h
text_cut errors.Memory old mid new text left line rest w next ends h = short_next old mid new text left line rest w next ends h

-- of which only this line was missing
pub text_ended : {T : Type 0} (r : Result T DriveError) (old mid new : Option (List ℕ)) (text left line : List ℕ) → WroteLinesUpTo old mid text left
    → left ≡ line ++ [] → EndsLine line → IsLineWritten r mid new line → IsTextWritten r old new text
text_ended (Ok x) old mid new text left line w next ends h = WroteUpTo-all old new text (WroteUpTo-next old mid new text left line [] w.0 next h)
text_ended (Err e) old mid new text left line w next ends h = text_cut e old mid new text left line [] w next ends h

-- that is no more than the line
pub text_line : (e : DriveError) (old new : Option (List ℕ)) (line : List ℕ) → LeftOfLine e old new line → LeftOfText e old new line
text_line errors.Read old new line h = h
text_line errors.Write old new line h = h
text_line errors.Memory old new line h = inl h

short_front : (old new : Option (List ℕ)) (text : List ℕ) → WroteShort old new text → WroteFront old new text
short_front old new text (inl kept) = kept_front old new text kept
short_front old new text (inr (rest, some, w)) = (rest, w.0)

-- what it says clause by clause
pub text_clauses : (e : DriveError) (old new : Option (List ℕ)) (text : List ℕ) → LeftOfText e old new text
    → WroteFront old new text × (e ≢ errors.Read) × (e ≡ errors.Memory → WroteShort old new text)
text_clauses errors.Read old new text h = absurd h
text_clauses errors.Write old new text h = (h, (λ q. cc), (λ q. cc))
text_clauses errors.Memory old new text h = (short_front old new text h, (λ q. cc), (λ q. h))
