-- What is done at a target's path.
use Rattle.std.specs.Prelude.{◌≡◌, ℕ, Bool, true, false, List, Some, None, Ok, String, string_bytes, refl}
use Rattle.std.proofs.Common.{subst, ◌∙◌}
use Rattle.std.specs.declared.alloc.Global.{Global}
use Rattle.std.specs.Path.{path_join, path_parent}
use Rattle.tough_files.specs.Calls.{Told}
use Rattle.tough_names.specs.Named.{Named}
use Rattle.tough_save.specs.Places.{IsMisplaced}
use Rattle.tough_save.specs.declared.error.SaveError.TheVariants as save
use Rattle.tough_write.specs.declared.error.OutputError.{OutputError}
use Rattle.tough_write.specs.declared.put.Chosen.{Chosen}
use Rattle.tough_write.specs.Errors.{TellsUnsafe}
use Rattle.tough_write.specs.Putting.{Agrees, HasContent, HasPlace, Makes, MakesAt, MakesOver, Manner}
use Rattle.tough_write.specs.Steps.{Done}

module _ (consistent : Bool) (path : List ℕ) (chosen : Chosen) where
  pub agrees_named : (old : List Told) → consistent ≡ true → Agrees consistent path chosen (Ok tt) old old
  agrees_named old named = rw named (refl, tt)

  pub agrees_read : (result : Done) (old new : List Told) → consistent ≡ false → HasContent path chosen result old new → Agrees consistent path chosen result old new
  agrees_read result old new plain h = rw plain h

module _ (m : Manner) (input path : List ℕ) (chosen : Chosen) (there : Bool) (result : Done) (old new : List Told) where
  pub makes_over : there ≡ true → MakesOver m input path chosen result old new → MakesAt m input path chosen there result old new
  makes_over is h = rw is h

  pub makes_new : there ≡ false → Makes m.making input path result old new → MakesAt m input path chosen there result old new
  makes_new is h = rw is h

module _ (dir name : List ℕ) where
  -- a path without a parent lies in no folder
  no_parent : (path : String Global) → IsMisplaced dir name (save.NoParent path) → ¬ HasPlace dir (path_join dir name)
  no_parent path (joined, none) (parent, is, within) =
      let same : path_parent (path_join dir name) ≡ None = rw joined at none in cc

  no_folder : (path folder : String Global) → IsMisplaced dir name (save.Outside path folder) → ¬ HasPlace dir (path_join dir name)
  no_folder path folder (joined, at, (parent, is, out)) (other, above, within) =
      let same : path_parent (path_join dir name) ≡ Some parent = rw joined at is in
      let one : other ≡ parent = cc in
      out (rw one at within)

  module _ (who : Named) (text : List ℕ) (e : OutputError) where
    pub unsafe_parent : (path : String Global) → IsMisplaced dir name (save.NoParent path) → text ≡ string_bytes path → TellsUnsafe who dir text e
        → (¬ HasPlace dir (path_join dir name)) × TellsUnsafe who dir (path_join dir name) e
    unsafe_parent path h is tells = (no_parent path h, subst (λ p. TellsUnsafe who dir p e) (is ∙ h.0) tells)

    pub unsafe_folder : (path folder : String Global) → IsMisplaced dir name (save.Outside path folder) → text ≡ string_bytes path → TellsUnsafe who dir text e
        → (¬ HasPlace dir (path_join dir name)) × TellsUnsafe who dir (path_join dir name) e
    unsafe_folder path folder h is tells = (no_folder path folder h, subst (λ p. TellsUnsafe who dir p e) (is ∙ h.0) tells)
