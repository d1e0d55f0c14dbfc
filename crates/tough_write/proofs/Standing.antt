-- What stands at a path once files were replaced, or where it stopped.
use Rattle.std.proofs.Common.{◌≡◌, ℕ, Bool, cond, List, [], ◌∷◌, ◌++◌, Some, inl, inr, ap, ◌∙◌}
use Rattle.std.specs.Path.{path_join}
use Rattle.std.specs.Str.{bytes_eq}
use Rattle.tough_files.specs.Changes.{temp_path}
use Rattle.tough_files.specs.Contents.{Contents, file}
use Rattle.tough_write.specs.Replacing.{AreReplaced, FileDoc, IsLeft, IsNoTemporary, IsNoneOf, StopsAmong, last_in}
use Rattle.tough_write.specs.declared.replace.ReplaceError.{ReplaceError}

module _ (folder : List ℕ) where
  pub holds : (files : List FileDoc) (before after : Contents) → AreReplaced folder files before after → (path : List ℕ) → after path ≡ last_in folder path files (before path)
  holds [] before after same path = same path
  holds (f ∷ fs) before after (mid, put, rest) path = holds fs mid after rest path ∙ ap (last_in folder path fs) (put.holds path)

  left : (before after : Contents) → IsLeft folder before after → (path : List ℕ) → IsNoTemporary folder path → after path ≡ before path
  left before after (inl same) path other = same path
  left before after (inr (number, bytes, new)) path other = new.holds path ∙ ap (λ b. cond b (Some (file bytes)) (before path)) (other number)

  pub keeps : (files : List FileDoc) (last : FileDoc) (e : ReplaceError) (before after : Contents) → StopsAmong folder (files ++ (last ∷ [])) e before after
      → (path : List ℕ) → IsNoneOf folder files path → IsNoTemporary folder path → after path ≡ before path
  keeps [] last e before after (inl (told, kept)) path none other = left before after kept path other
  keeps [] last e before after (inr (mid, put, rest)) path none other = absurd rest
  keeps (f ∷ fs) last e before after (inl (told, kept)) path none other = left before after kept path other
  keeps (f ∷ fs) last e before after (inr (mid, put, rest)) path none other =
      keeps fs last e mid after rest path none.1 other ∙ put.holds path ∙ ap (λ b. cond b (Some (file f.1)) (before path)) none.0
