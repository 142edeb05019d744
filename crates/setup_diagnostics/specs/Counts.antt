-- The explanation of a count that is past its limit.
use Rattle.std.specs.Prelude.{ℕ, List, ◌++◌, codes, decimal}
use Rattle.setup_model.specs.declared.fault.Count.{Count}
use Rattle.setup_model.specs.declared.fault.Count.TheVariants as count

-- the limit of a count
abbrev pub count_limit : Count → ℕ
count_limit count.Objects = 4096
count_limit count.Parents = 16384
count_limit count.Dependencies = 16384

abbrev pub count_words : Count → List ℕ
count_words count.Objects = codes " hosts and services"
count_words count.Parents = codes " parents of all hosts"
count_words count.Dependencies = codes " dependencies of both sorts"

-- a count, and its limit
abbrev pub count_text : Count → ℕ → List ℕ
count_text c n = codes "there are " ++ (decimal n ++ (count_words c ++ (codes "; there can be " ++ decimal (count_limit c))))
