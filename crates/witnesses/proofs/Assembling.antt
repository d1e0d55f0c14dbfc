-- Documents of which all is found out are loadable.
use Rattle.std.proofs.Common.{◌≡◌, ◌≢◌, ◌<◌, ℕ, zero, suc, ◌+◌, ℤ, List, [], ◌∷◌, length, Option, Some, None, Bool, true, false, codes, refl, sym, ap, subst, ◌∙◌}
use Rattle.std.specs.Fmt.{digits}
use Rattle.tough_keys.specs.Same.{Verifies}
use Rattle.tough_roles.specs.Names.{versioned, file_name}
use Rattle.tough_roles.specs.Root.{RootDoc}
use Rattle.tough_roles.specs.Signature.{SignedDoc, signed_doc, signatures_doc}
use Rattle.tough_roles.specs.Chain.{ReachesUnder}
use Rattle.tough_roles.specs.declared.role_type.RoleType.TheVariants as role
use Rattle.tough_roles.specs.declared.signed.Signed.{Signed}
use Rattle.tough_schema.specs.Entries.{first_missing}
use Rattle.tough_schema.specs.Targets.{TargetsDoc, targets_doc, targets_json}
use Rattle.tough_schema.specs.declared.targets.Targets.{Targets}
use Rattle.tough_checks.specs.Checks.{is_expired}
use Rattle.tough_trust.specs.Listed.{targets_in, targets_text}
use Rattle.tough_roles.specs.Snapshot.{SnapshotDoc}
use Rattle.tough_roles.specs.Timestamp.{TimestampDoc, MetafileDoc, metafile_in}
use Rattle.tough_schema.specs.Entries.{entry_names}
use Rattle.tough_schema.specs.Fresh.{carriers_below}
use Rattle.tough_schema.specs.Whole.{TreeDoc, tree, Branches, no_branches, unloaded, loaded, OwnDoc, tree_doc, top_doc}
use Rattle.tough_net.specs.declared.limits.Limits.{Limits}
use Rattle.tough_checks.specs.Files.{snapshot_file, targets_file}
use Rattle.tough_vault.specs.Steps.{time_text}
use Rattle.tough_trust.specs.Requests.{fits_request, root_request, timestamp_request, snapshot_request, targets_request}
use Rattle.tough_trust.specs.delegations.Bare.{top_page}
use Rattle.tough_update.specs.Loadable.{Files, Loadable, IsServed, IsServedUnder, all_received}
use Rattle.tough_update.specs.Stages.{KnownDoc, LoadedDoc, SettingDoc}
use Rattle.tough_update.specs.growth.Full.{IsFull}
use Rattle.tough_update.specs.growth.Once.{Distinct}
use Rattle.tough_update.specs.growth.Under.{Relation, Below}
use Rattle.witnesses.specs.Served.{Repository, files_of, setting_of, IsRoot, IsTimestamp, IsSnapshot, IsTargets, HasLoadable}

-- a tree without roles
full-alone : (t : TreeDoc) → entry_names t ≡ [] → IsFull t
full-alone (tree o no_branches) h = tt
full-alone (tree o (unloaded e bs)) h = cc
full-alone (tree o (loaded e name ss t bs)) h = cc

once-alone : (t : TreeDoc) → entry_names t ≡ [] → Distinct (carriers_below t)
once-alone (tree o no_branches) h = tt
once-alone (tree o (unloaded e bs)) h = cc
once-alone (tree o (loaded e name ss t bs)) h = cc

below-alone : (U : Relation) (t : TreeDoc) → entry_names t ≡ [] → Below U t
below-alone U (tree o no_branches) h = tt
below-alone U (tree o (unloaded e bs)) h = cc
below-alone U (tree o (loaded e name ss t bs)) h = cc

-- there is no second root
no-second : (f : Repository) (version : ℕ) → version ≡ 1 → files_of f (versioned (version + 1) (codes "root.json")) ≡ None
unfolding digits
no-second f version is = subst (λ n. files_of f (versioned (n + 1) (codes "root.json")) ≡ None) (sym is) refl

-- without consistent snapshots the version doesn't count
snapshot-there : (f : Repository) (consistent : Bool) (version : ℕ) → consistent ≡ false → files_of f (file_name consistent version (codes "snapshot.json")) ≡ Some f.snapshot
snapshot-there f consistent version is = subst (λ c. files_of f (file_name c version (codes "snapshot.json")) ≡ Some f.snapshot) (sym is) refl

targets-there : (f : Repository) (consistent : Bool) (version : ℕ) → consistent ≡ false → files_of f (file_name consistent version (codes "targets.json")) ≡ Some f.targets
targets-there f consistent version is = subst (λ c. files_of f (file_name c version (codes "targets.json")) ≡ Some f.targets) (sym is) refl

-- of targets that were read it is known as of their tree
module _ (verifies : Verifies) (start : ℤ) (limits : Limits) (root : RootDoc) (entry : Option MetafileDoc) (listed : MetafileDoc) (bytes : List ℕ) (g : Signed Targets) where
  abbrev page : SignedDoc TargetsDoc
  page = signed_doc targets_doc g

  pub targets-of : targets_doc g.signed ≡ top_doc (tree_doc g.signed) → entry ≡ Some listed → targets_in bytes ≡ Some page → ReachesUnder verifies root role.Targets targets_json page
      → is_expired true start page.role.head.expires ≡ false → targets_text page ≢ None → fits_request (targets_request limits false listed) bytes ≡ true → page.role.head.version ≡ listed.version
      → entry_names (tree_doc g.signed) ≡ [] → first_missing (tree_doc g.signed) ≡ None → IsTargets verifies start limits root entry bytes (signed_doc tree_doc g)
  targets-of top is reading signed in_time stored fits version alone found =
      let same : page ≡ top_page (signed_doc tree_doc g) = ap (λ (r : TargetsDoc). let p : SignedDoc TargetsDoc = record { role = r; signatures = signatures_doc g.signatures.items } in p) top in
      record {
        listed = listed;
        is = is;
        reading = reading ∙ ap Some same;
        signed = subst (λ (p : SignedDoc TargetsDoc). ReachesUnder verifies root role.Targets targets_json p) same signed;
        in_time = subst (λ (p : SignedDoc TargetsDoc). is_expired true start p.role.head.expires ≡ false) same in_time;
        stored = subst (λ (p : SignedDoc TargetsDoc). targets_text p ≢ None) same stored;
        fits = fits;
        version = subst (λ (p : SignedDoc TargetsDoc). p.role.head.version ≡ listed.version) same version;
        alone = alone;
        found = found;
      }

module _ (verifies : Verifies) (start : ℤ) (limits : Limits) (f : Repository) where
  pub loadable-of : (root : SignedDoc RootDoc) (t : SignedDoc TimestampDoc) (s : SignedDoc SnapshotDoc) (g : SignedDoc TreeDoc) → 0 < limits.max_root_updates → time_text start ≢ None → IsRoot verifies start f.trusted root
      → IsTimestamp verifies start limits root.role f.timestamp t → IsSnapshot verifies start limits root.role (metafile_in t.role.meta snapshot_file) f.snapshot s
      → IsTargets verifies start limits root.role (metafile_in s.role.meta targets_file) f.targets g → HasLoadable verifies start limits f
  loadable-of root t s g one text r a b k =
      let known : KnownDoc = record { start = start; root = root; timestamp = t; snapshot = s } in
      let consistent = root.role.consistent_snapshot in
      record {
        l = record { known = known; targets = g; received = all_received (files_of f) (setting_of limits f) known g.role };
        begins = refl;
        able = record {
          whole = refl;
          start_text = text;
          root = r.reading;
          root_signed = r.signed;
          no_next = no-second f root.role.head.version r.first;
          one_update = one;
          root_in_time = r.in_time;
          root_stored = r.stored;
          timestamp = record { bytes = f.timestamp; served = refl; fits = a.fits; reading = a.reading };
          timestamp_signed = a.signed;
          timestamp_in_time = a.in_time;
          alone = a.alone;
          entry = b.listed;
          listed = b.is;
          snapshot = record {
            bytes = f.snapshot;
            served = snapshot-there f consistent b.listed.version r.plain;
            fits = subst (λ c. fits_request (snapshot_request limits c b.listed) f.snapshot ≡ true) (sym r.plain) b.fits;
            reading = b.reading;
          };
          snapshot_signed = b.signed;
          snapshot_version = b.version;
          snapshot_in_time = b.in_time;
          targets_entry = k.listed;
          targets_listed = k.is;
          targets = record {
            bytes = f.targets;
            served = targets-there f consistent k.listed.version r.plain;
            fits = subst (λ c. fits_request (targets_request limits c k.listed) f.targets ≡ true) (sym r.plain) k.fits;
            reading = k.reading;
          };
          targets_signed = k.signed;
          targets_version = k.version;
          targets_in_time = k.in_time;
          targets_stored = k.stored;
          full = full-alone g.role k.alone;
          once = once-alone g.role k.alone;
          delegated = below-alone (IsServedUnder verifies (files_of f) (setting_of limits f) known) g.role k.alone;
          received = refl;
          found = k.found;
        };
        first = r.first;
        plain = r.plain;
        alone = k.alone;
      }
