-- A temporary file at a path where nothing stood.
use Rattle.std.proofs.Common.{◌≡◌, ℕ, List, None, refl, subst}
use Rattle.tough_files.specs.declared.files.FilesError.{FilesError}
use Rattle.tough_files.specs.declared.files.FilesError.TheVariants.{NotFound, Failed, Memory}
use Rattle.tough_files.specs.Calls.{Answered, done, found, got, named, listed, refused}
use Rattle.tough_files.specs.Contents.{Contents, node_at}
use Rattle.tough_files.specs.Changes.{Gives, IsFresh, CreatesTemp, temp_path, temp_outcome}

-- no memory was found, and nothing was made
pub starved : (dir : List ℕ) (contents : Contents) (e : FilesError) → e ≡ Memory → CreatesTemp dir contents (refused e) contents
starved dir contents Memory is = (0, λ path. refl, tt)
starved dir contents NotFound is = absurd (cc is)
starved dir contents Failed is = absurd (cc is)

fresh : (dir : List ℕ) (number : ℕ) (contents : Contents) (answered : Answered) → node_at contents (temp_path dir number) ≡ None → IsFresh dir number contents answered
fresh dir number contents (refused Memory) none = tt
fresh dir number contents (refused NotFound) none = none
fresh dir number contents (refused Failed) none = none
fresh dir number contents done none = none
fresh dir number contents (found kind) none = none
fresh dir number contents (got bytes) none = none
fresh dir number contents (named path) none = none
fresh dir number contents (listed names) none = none

pub made : (dir path : List ℕ) (number : ℕ) (before after : Contents) (answered : Answered) → path ≡ temp_path dir number → node_at before path ≡ None
    → Gives (temp_outcome dir path before) before answered after → CreatesTemp dir before answered after
made dir path number before after answered at none gives =
    (number, subst (λ p. Gives (temp_outcome dir p before) before answered after) at gives, fresh dir number before answered (subst (λ p. node_at before p ≡ None) at none))
