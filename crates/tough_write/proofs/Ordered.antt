-- Nothing of a repository was replaced where there was no memory for its list.
use Rattle.std.proofs.Common.{◌≡◌, ℕ, List, [], ◌∷◌, ◌++◌, inl, map, refl, sym, subst}
use Rattle.tough_files.specs.Contents.{Contents, Same}
use Rattle.tough_release.specs.Repository.{root_of, targets_of, snapshot_of, timestamp_of, delegated_of}
use Rattle.tough_release.specs.declared.repository.SignedRepository.{SignedRepository}
use Rattle.tough_write.specs.Ordering.{replaced_files}
use Rattle.tough_write.specs.Replacing.{FileDoc, StopsAmong}
use Rattle.tough_write.specs.declared.replace.ReplaceError.{ReplaceError}
use Rattle.tough_write.specs.declared.replace.ReplaceError.TheVariants.{Memory}
use Rattle.tough_signed.specs.Standing.{is_consistent, roles_of}
use Rattle.tough_write.specs.Writing.{role_files, roles_file}

some_file : (folder : List ℕ) (before after : Contents) → Same before after → (xs : List FileDoc) (y : FileDoc) (ys : List FileDoc) → StopsAmong folder (xs ++ (y ∷ ys)) Memory before after
some_file folder before after same [] y ys = inl (tt, inl same)
some_file folder before after same (x ∷ xs) y ys = inl (tt, inl same)

pub unbegun : (folder : List ℕ) (r : SignedRepository) (before : Contents) → StopsAmong folder (replaced_files r) Memory before before
unbegun folder r before =
    some_file folder before before (λ p. refl) (role_files roles_file (is_consistent (delegated_of r)) (roles_of (delegated_of r))) _ _
