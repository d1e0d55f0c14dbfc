-- Files that tell what is saved in them.
use Rattle.tough.specs.declared.progress.Watched.{Watched}

-- the files themselves
abbrev pub files_in : {F R E : Type 0} → Watched F R E → F
files_in w = w.files
