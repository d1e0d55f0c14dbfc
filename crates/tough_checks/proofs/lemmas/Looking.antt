-- The version that a document lists for a file.
use Rattle.std.proofs.Common.{◌≡◌, ℕ, List, [], ◌∷◌, Option, Some, Bool, true, false, cond, option_map, refl}
use Rattle.std.specs.Prelude.{if◌then◌else◌}
use Rattle.std.specs.Str.{bytes_eq}
use Rattle.tough_roles.specs.Timestamp.{MetafileDoc, metafile_in}
use Rattle.tough_checks.specs.Versions.{version_in}
use Rattle.tough_checks.specs.Checks.{items_in}

at : (b : Bool) (m : MetafileDoc) (r : Option ℕ) (l : Option MetafileDoc) → r ≡ option_map (λ (x : MetafileDoc). x.version) l
    → (if b then Some m.version else r) ≡ option_map (λ (x : MetafileDoc). x.version) (cond b (Some m) l)
at true m r l h = refl
at false m r l h = h

pub version-listed : (es : List (List ℕ × MetafileDoc)) (name : List ℕ) → version_in (items_in es) name ≡ option_map (λ (x : MetafileDoc). x.version) (metafile_in es name)
version-listed [] name = refl
version-listed (e ∷ es) name = at (bytes_eq name e.0) e.1 (version_in (items_in es) name) (metafile_in es name) (version-listed es name)
