-- A role of a tree gets another document (TUF specification 1.0, section 4.5).
use Rattle.std.specs.Prelude.{ℕ, List, Bool, Some, is_some, if◌then◌else◌}
use Rattle.std.specs.Str.{bytes_eq}
use Rattle.tough_schema.specs.Seek.{Sought, role_of, seek_in}
use Rattle.tough_schema.specs.Whole.{TreeDoc, tree, Branches, no_branches, unloaded, loaded, HeldDoc, put_branch}

-- a role of the name is found
abbrev pub is_role : Sought → Bool
is_role s = is_some (role_of s)

-- The role that is sought by a name, list by list, gets the document. All else is as it was, all of it where no role is found.
abbrev mutual
  pub with_document : List ℕ → HeldDoc → TreeDoc → TreeDoc
  with_document name h (tree o bs) = tree o (with_document_in name h bs)

  pub with_document_in : List ℕ → HeldDoc → Branches → Branches
  with_document_in name h no_branches = no_branches
  with_document_in name h (unloaded e bs) = if bytes_eq e.name name then put_branch (e, Some h) bs else unloaded e bs
  with_document_in name h (loaded e n signatures t bs) =
      if bytes_eq e.name name then put_branch (e, Some h) bs
      else (if is_role (seek_in name t) then loaded e n signatures (with_document name h t) bs else loaded e n signatures t (with_document_in name h bs))
