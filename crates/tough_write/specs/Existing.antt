-- What is done where something stands at a target's path already.
use Rattle.std.specs.Prelude.{ℕ, List, Option, Some, None, bytes_eq, codes, if◌then◌else◌}
use Rattle.tough_write.specs.declared.path_exists.PathExists.{PathExists}
use Rattle.tough_write.specs.declared.path_exists.PathExists.TheVariants.{Skip, Replace, Fail}

-- what the word means, if it means anything
abbrev pub path_exists : List ℕ → Option PathExists
path_exists name = if bytes_eq name (codes "skip") then Some Skip
    else if bytes_eq name (codes "replace") then Some Replace
    else if bytes_eq name (codes "fail") then Some Fail
    else None
