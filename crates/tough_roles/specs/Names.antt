-- The names of the files of metadata (TUF specification 1.0, sections 3.1.2 and 6.2).
use Rattle.std.specs.Prelude.{ℕ, ◌++◌, List, Bool, codes, decimal, if◌then◌else◌}

-- a name behind a version
abbrev pub versioned : ℕ → List ℕ → List ℕ
versioned version name = decimal version ++ codes "." ++ name

-- with consistent snapshots the version stands before the name
abbrev pub file_name : Bool → ℕ → List ℕ → List ℕ
file_name consistent version name = if consistent then versioned version name else name
