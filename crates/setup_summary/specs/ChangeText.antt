-- The lines that report the changes of a resume.
use Rattle.std.specs.Prelude.{ℕ, Bool, List, [], ◌++◌, Option, Some, None, codes, decimal, flat_map, option_map, if◌then◌else◌}
use Rattle.std.specs.List.{enumerate_from}
use Rattle.check_objects.specs.Configuration.{Configuration, name_of, objects_of}
use Rattle.check_saved_state.specs.Saved.{Saved, saved_by_name}
use Rattle.setup_summary.specs.declared.figures.Figures.{Figures}
use Rattle.setup_summary.specs.declared.diffs.ObjectDiff.{ObjectDiff}
use Rattle.setup_summary.specs.Changes.{figures_of, object_diff}

-- the line of a count
abbrev pub count_line : List ℕ → ℕ → List ℕ
count_line word count = word ++ (codes " " ++ (decimal count ++ codes "\n"))

-- the numbers of objects that are kept, new and dropped, and of runs that are abandoned
unfoldable pub figures_text : Figures → List ℕ
figures_text f =
    count_line (codes "kept") f.kept
    ++ (count_line (codes "new") f.new ++ (count_line (codes "dropped") f.dropped ++ count_line (codes "given_up") f.given_up))

-- the line of a value of an object, if the setup changes it
abbrev pub change_line : Bool → List ℕ → List ℕ → List ℕ
change_line changes value name = if changes then codes "changed " ++ (value ++ (codes " " ++ (name ++ codes "\n"))) else []

-- the lines of an object that is kept
unfoldable pub object_diff_text : List ℕ → ObjectDiff → List ℕ
object_diff_text name k =
    change_line k.attempts (codes "attempts") name
    ++ (change_line k.interval (codes "interval") name ++ change_line k.enabled (codes "enabled") name)

-- the lines of an object; a new one has none
abbrev pub object_text : List ℕ → Option ObjectDiff → List ℕ
object_text name None = []
object_text name (Some k) = object_diff_text name k

-- the lines of all objects, in the order of their numbers
abbrev pub change_lines : Configuration → Saved → List ℕ
change_lines setup saved = flat_map (λ n. object_text n.name (option_map (object_diff setup n.object) (saved_by_name saved n.name))) (objects_of setup)

-- the same of the objects by number
abbrev pub change_lines_among : Configuration → List (Option ObjectDiff) → List ℕ
change_lines_among setup kept = flat_map (λ p. object_text (name_of setup p.0) p.1) (enumerate_from 0 kept)

-- all lines
abbrev pub changes_text : Configuration → Saved → List ℕ
changes_text setup saved = figures_text (figures_of setup saved) ++ change_lines setup saved
