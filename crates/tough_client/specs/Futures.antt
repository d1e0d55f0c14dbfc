-- What the futures of a repository hold.
use Rattle.std.specs.Prelude.{ℕ, Bool, List, map, Option, Some, None, option_map}
use Rattle.std.specs.Borrow.{MutBor}
use Rattle.tough_names.specs.Named.{Named}
use Rattle.tough_net.specs.declared.digest_check.DigestCheck.{DigestCheck}
use Rattle.tough_net.specs.declared.max_size.MaxSize.{MaxSize}
use Rattle.tough_save.specs.declared.saving.Saving.{Saving}
use Rattle.tough_client.specs.declared.cache.Cache.{Cache}
use Rattle.tough_client.specs.declared.cache.Caching.{Caching}
use Rattle.tough_client.specs.declared.cache.Folders.{Folders}
use Rattle.tough_client.specs.declared.cache.Wanted.{Wanted}
use Rattle.tough_client.specs.declared.cache.Wanted.TheVariants as wanted
use Rattle.tough_client.specs.declared.read.ReadTarget.{ReadTarget}
use Rattle.tough_client.specs.declared.repository.Repository.{Repository}
use Rattle.tough_client.specs.declared.save.Prefix.{Prefix}
use Rattle.tough_client.specs.declared.save.SaveTarget.{SaveTarget}

module _ {T K C R : Type 0} where
  -- the repository that is read from
  abbrev pub repository_in : ReadTarget T K C R → MutBor (Repository T K C R)
  repository_in f = f.repository

  -- the name of the target that is read
  abbrev pub name_in : ReadTarget T K C R → Named
  name_in f = f.name.now

module _ {T K C F S R : Type 0} where
  -- the repository that a target is saved from
  abbrev pub saved_from : SaveTarget T K C F S R → MutBor (Repository T K C R)
  saved_from f = f.repository

  -- the files that it is saved in
  abbrev pub files_in : SaveTarget T K C F S R → MutBor F
  files_in f = f.files

  -- its name
  abbrev pub saved_name_in : SaveTarget T K C F S R → Named
  saved_name_in f = f.name.now

  -- the output folder
  abbrev pub outdir_in : SaveTarget T K C F S R → List ℕ
  outdir_in f = f.outdir.now

  -- whether the digest stands before the name
  abbrev pub prefix_in : SaveTarget T K C F S R → Prefix
  prefix_in f = f.prefix

  -- the saving that it has come to, once it began
  abbrev pub saving_in : SaveTarget T K C F S R → Option (Saving (DigestCheck (MaxSize S)))
  saving_in f = f.saving

abbrev pub wanted_of : {N : Type 0} → (N → List ℕ) → Wanted N → Option (Option (List (List ℕ)))
wanted_of text wanted.Metadata = None
wanted_of text (wanted.Targets subset) = Some (option_map (λ names. map text names.now) subset)

module _ {T K C F N S R : Type 0} where
  -- the repository that is cached, and the files that it is cached in
  abbrev pub cached_from : Cache T K C F N S R → MutBor (Repository T K C R)
  cached_from f = f.repository

  abbrev pub cached_in : Cache T K C F N S R → MutBor F
  cached_in f = f.files

  -- the folders
  abbrev pub folders_in : Cache T K C F N S R → Folders
  folders_in f = f.folders

  -- the targets that are cached beside the metadata, if any are: the texts of the subset, where one is given
  abbrev pub wanted_in : (N → List ℕ) → Cache T K C F N S R → Option (Option (List (List ℕ)))
  wanted_in text f = wanted_of text f.wanted

  -- whether the root chain is asked for
  abbrev pub chain_in : Cache T K C F N S R → Bool
  chain_in f = f.root_chain

  -- the cache that it has come to, once it began
  abbrev pub caching_in : Cache T K C F N S R → Option (Caching S)
  caching_in f = f.caching
