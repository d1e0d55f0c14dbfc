-- What stands at a path of a folder that is walked.
use Rattle.std.specs.Prelude.{◌≡◌, ℕ, ◌+◌, List, Ok, Err, refl}
use Rattle.std.proofs.Common.{add-one}
use Rattle.tough_files.specs.declared.files.FileKind.{FileKind}
use Rattle.tough_files.specs.declared.files.FileKind.TheVariants as kind
use Rattle.tough_files.specs.declared.files.FilesError.TheVariants as files
use Rattle.tough_files.specs.Calls.{Told, found}
use Rattle.tough_write.specs.declared.error.OutputError.{OutputError}
use Rattle.tough_write.specs.declared.error.OutputError.TheVariants as error
use Rattle.tough_write.specs.declared.walk.Entry.{Entry}
use Rattle.tough_write.specs.declared.walk.Entry.TheVariants as entry
use Rattle.tough_write.specs.Errors.{TellsRefusal}
use Rattle.tough_write.specs.Putting.{Manner}
use Rattle.tough_write.specs.Steps.{Done, Outcome}
use Rattle.tough_write.specs.Walking.{looked, Enters, LooksInner, Visits, Walks}

module _ (root path : List ℕ) (k : FileKind) (old new : List Told) where
  pub looked_file : k ≡ kind.File → new ≡ old → looked root path (Ok entry.File) (found k) old new
  looked_file is h = rw is (h, refl)

  pub looked_folder : (result : Outcome Entry) → k ≡ kind.Folder → LooksInner root path result old new → looked root path result (found k) old new
  looked_folder result is h = rw is h

  pub looked_link : k ≡ kind.Link → new ≡ old → looked root path (Ok entry.Passed) (found k) old new
  looked_link is h = rw is (h, refl)

  pub looked_other : k ≡ kind.Other → new ≡ old → looked root path (Ok entry.Passed) (found k) old new
  looked_other is h = rw is (h, refl)

module _ (m : Manner) (root path : List ℕ) (left : ℕ) (x : Entry) (folder : x ≡ entry.Folder) where
  pub too_deep : (e : OutputError) (old : List Told) → left ≡ 0 → TellsRefusal (λ p w. error.WalkDir p w) root files.Failed e → Visits m root (Enters m root left) path x (Err e) old old
  unfolding Enters
  too_deep e old none h = rw (folder, none) (refl, h)

  pub entered : (k : ℕ) (r : Done) (old new : List Told) → left ≡ k + 1 → Walks m root k path r old new → Visits m root (Enters m root left) path x r old new
  unfolding Enters
  entered k r old new more h = rw (folder, more, add-one) h
