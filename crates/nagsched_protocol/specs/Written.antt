-- How the writing of a line ended, or of the lines of a whole text.
use Rattle.std.specs.Prelude.{ℕ, List, Option, Result, Ok, Err}
use Rattle.std.specs.Io.KnownBytes.{Appends, Keeps}
use Rattle.nagsched_protocol.specs.declared.drive_error.DriveError.{DriveError}
use Rattle.nagsched_protocol.specs.declared.drive_error.DriveError.TheVariants as errors
use Rattle.nagsched_protocol.specs.Output.{WroteFront, WroteShort}

-- The part of a line that an error leaves: after a fault of the writer a prefix of it, and out of memory nothing. The error isn't a fault of a reader.
abbrev pub LeftOfLine : DriveError → Option (List ℕ) → Option (List ℕ) → List ℕ → Type 0
LeftOfLine errors.Read old new line = ⊥
LeftOfLine errors.Write old new line = WroteFront old new line
LeftOfLine errors.Memory old new line = Keeps old new

-- The same for a text. Out of memory, nothing was written, or whole lines of the text that aren't all of it.
abbrev pub LeftOfText : DriveError → Option (List ℕ) → Option (List ℕ) → List ℕ → Type 0
LeftOfText errors.Read old new text = ⊥
LeftOfText errors.Write old new text = WroteFront old new text
LeftOfText errors.Memory old new text = WroteShort old new text

-- all of the line was written, or the part that an error leaves
abbrev pub IsLineWritten : {T : Type 0} → Result T DriveError → Option (List ℕ) → Option (List ℕ) → List ℕ → Type 0
IsLineWritten (Ok x) old new line = Appends old new line
IsLineWritten (Err e) old new line = LeftOfLine e old new line

-- all of the text was written, or the part that an error leaves
abbrev pub IsTextWritten : {T : Type 0} → Result T DriveError → Option (List ℕ) → Option (List ℕ) → List ℕ → Type 0
IsTextWritten (Ok x) old new text = Appends old new text
IsTextWritten (Err e) old new text = LeftOfText e old new text
