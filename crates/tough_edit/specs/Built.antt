-- The document that an editor builds (TUF specification 1.0, section 4.5).
use Rattle.std.specs.Prelude.{◌≡◌, ⊤, ℕ, ℤ, List, ◌++◌, ◌⊎◌, true, is_some, Option, Some, None, option_map, codes}
use Rattle.tough_schema.specs.Entries.{merged_into}
use Rattle.tough_schema.specs.Whole.{TreeDoc, tree, DelegationsTree, branches_from, branches_of, named_tree}
use Rattle.tough_schema.specs.declared.targets.DelegatedTargets.{DelegatedTargets}
use Rattle.tough_signed.specs.declared.error.EditError.{EditError}
use Rattle.tough_signed.specs.declared.error.EditError.TheVariants as errors
use Rattle.tough_edit.specs.Edits.{EditsDoc}

-- the delegations, if any: the new roles stand after the old ones
abbrev pub delegations_built : EditsDoc → Option DelegationsTree
delegations_built e = option_map (λ keys. (keys, branches_from (e.old_roles ++ e.new_roles))) e.keys

-- the document: a new target takes the place of an old one
abbrev pub built : ℕ → ℤ → EditsDoc → TreeDoc
built version expires e = tree (record {
  head = record { spec_version = codes "1.0.0"; version = version; expires = expires };
  targets = merged_into e.old_targets e.new_targets;
  keys = e.keys;
  extra = e.extra;
}) (branches_of (delegations_built e))

-- the document that is built, under the editor's name
pub record IsBuilt (e : EditsDoc) (d : DelegatedTargets) : Type 0 where
  pub version : ℕ
  pub set_version : e.version ≡ Some version
  pub expires : ℤ
  pub set_expiry : e.expires ≡ Some expires
  pub document : named_tree d ≡ (e.name, built version expires e)

-- the field that isn't set: the version, or else the expiry
abbrev pub LacksField : EditsDoc → List ℕ → Type 0
LacksField e field =
    ((field ≡ codes "targets version") × (e.version ≡ None))
    ⊎ ((field ≡ codes "targets expiration") × (is_some e.version ≡ true) × (e.expires ≡ None))

-- the version isn't set, or else the expiry; want of memory says nothing
abbrev pub IsIncomplete : EditsDoc → EditError → Type 0
IsIncomplete e (errors.Missing field) = LacksField e field.now
IsIncomplete e errors.Memory = ⊤
IsIncomplete e _ = ⊥
