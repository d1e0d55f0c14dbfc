-- The targets whose files are copied or linked (TUF specification 1.0, sections 4.5 and 6.2).
use Rattle.std.specs.Prelude.{Bool, List, [], ◌∷◌, ◌++◌, Option, option_map}
use Rattle.tough_names.specs.Named.{Named}
use Rattle.tough_release.specs.Repository.{root_of, targets_of}
use Rattle.tough_release.specs.declared.repository.SignedRepository.{SignedRepository}
use Rattle.tough_roles.specs.Root.{root_doc}
use Rattle.tough_roles.specs.Timestamp.{HashesDoc}
use Rattle.tough_schema.specs.Entries.{all_listed}
use Rattle.tough_schema.specs.Gather.{map_docs}
use Rattle.tough_schema.specs.Search.{listed}
use Rattle.tough_schema.specs.Target.{TargetDoc}
use Rattle.tough_schema.specs.Tree.{Listing}
use Rattle.tough_schema.specs.Whole.{tree_doc}
use Rattle.tough_schema.specs.declared.targets.DelegatedTargets.{DelegatedTargets, out-DelegatedTargets}
use Rattle.tough_signed.specs.declared.signed_role.SignedRole.{SignedRole}
use Rattle.tough_signed.specs.Roles.{signed_of}
use Rattle.tough_write.specs.declared.target_files.TargetFiles.{TargetFiles}

-- what is listed, each name once
abbrev pub listing_in : TargetFiles → Listing
listing_in t = map_docs t.targets.entries

-- whether the digest stands before the name of a file
abbrev pub is_consistent : TargetFiles → Bool
is_consistent t = t.consistent_snapshot

abbrev pub hashes_of : TargetDoc → HashesDoc
hashes_of t = t.hashes

-- the digests that are listed under the name
abbrev pub listed_hashes : Listing → Named → Option HashesDoc
listed_hashes listing name = option_map hashes_of (listed name listing)

-- what the document of a role and those below it list
abbrev pub listed_in_role : SignedRole DelegatedTargets → Listing
listed_in_role r = all_listed (tree_doc (out-DelegatedTargets (signed_of r).signed).targets)

-- what the documents of these roles list, one after another
abbrev pub listed_by : List (SignedRole DelegatedTargets) → Listing
listed_by [] = []
listed_by (r ∷ rs) = listed_in_role r ++ listed_by rs

-- what the targets of a repository and the documents below them list
abbrev pub listed_in_repository : SignedRepository → Listing
listed_in_repository r = all_listed (tree_doc (signed_of (targets_of r)).signed)

abbrev pub repository_is_consistent : SignedRepository → Bool
repository_is_consistent r = (root_doc (signed_of (root_of r)).signed).consistent_snapshot
