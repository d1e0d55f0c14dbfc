-- Why a name has no place.
use Rattle.std.specs.Prelude.{◌≡◌, ℕ, List, Some}
use Rattle.std.proofs.Common.{◌∙◌}
use Rattle.std.specs.Path.{path_join, path_parent, PathStartsWith}
use Rattle.tough_save.specs.declared.error.SaveError.{SaveError}
use Rattle.tough_save.specs.declared.error.SaveError.TheVariants as error
use Rattle.tough_save.specs.Errors.{TellsOutside}
use Rattle.tough_save.specs.Places.{IsMisplaced}

-- the path's folder isn't in the output folder, and this is told
pub misplaced : (dir name parent path : List ℕ) (e : SaveError) → path ≡ path_join dir name → path_parent path ≡ Some parent → ¬ PathStartsWith parent dir
    → TellsOutside path dir e → IsMisplaced dir name e
misplaced dir name parent path (error.Outside p f) joined above out tells =
    (tells.0 ∙ joined, tells.1, (parent, rw tells.0 above, out))
misplaced dir name parent path error.Memory joined above out tells = tells
misplaced dir name parent path (error.Refused _ _ _) joined above out tells = absurd tells
misplaced dir name parent path (error.NoFolder _) joined above out tells = absurd tells
misplaced dir name parent path (error.NoParent _) joined above out tells = absurd tells
misplaced dir name parent path (error.Transport _) joined above out tells = absurd tells
