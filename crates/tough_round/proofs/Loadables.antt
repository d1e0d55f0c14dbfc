-- The files of a signed repository are loadable.
use Rattle.std.proofs.Common.{◌≡◌, ◌≢◌, ℕ, ℤ, ◌^◌, ◌<◌, ◌≤◌, List, [], ◌∷◌, length, Bool, true, ◌&&◌, nat_le, Option, Some, None, codes, IsUtf8, refl, sym, ap, ap₂, subst, ◌∙◌, arith}
use Rattle.std.proofs.lemmas.Str.{IsUtf8-string_bytes}
use Rattle.std.proofs.lemmas.List.{append_cancel_right}
use Rattle.std.proofs.lemmas.Bool.Decides.{nat_tests}
use Rattle.std.specs.List.{AllByRecursion}
use Rattle.std.specs.Map.{lookup}
use Rattle.std.specs.Str.{bytes_eq}
use Rattle.serde_json.specs.Read.{max_depth}
use Rattle.tough_names.specs.Apart.{EncodesApart}
use Rattle.tough_names.specs.Filename.{filename_of}
use Rattle.tough_keys.specs.Same.{Verifies}
use Rattle.tough_roles.specs.Chain.{ReachesUnder}
use Rattle.tough_roles.specs.Names.{file_name}
use Rattle.tough_roles.specs.Readable.{NestsWithin}
use Rattle.tough_roles.specs.Reaches.{IsAmong}
use Rattle.tough_roles.specs.Signature.{SignedDoc, signed_doc, signed_json}
use Rattle.tough_roles.specs.Snapshot.{snapshot_at, snapshot_doc, snapshot_json}
use Rattle.tough_roles.specs.Timestamp.{MetafileDoc, timestamp_at, timestamp_doc, timestamp_json}
use Rattle.tough_roles.specs.declared.role_type.RoleType.TheVariants as types
use Rattle.tough_schema.specs.Delegations.{DelegationsDoc}
use Rattle.tough_schema.specs.Entries.{entries}
use Rattle.tough_schema.specs.Targets.{TargetsDoc, targets_at, targets_doc, targets_json, delegated_file, KeysAreOwn, KeysRise}
use Rattle.tough_schema.specs.Tree.{Entry}
use Rattle.tough_schema.specs.Whole.{HeldDoc}
use Rattle.tough_schema.specs.declared.targets.DelegatedTargets.{DelegatedTargets, out-DelegatedTargets}
use Rattle.tough_schema.proofs.lemmas.Wholes.{top-tells}
use Rattle.tough_schema.proofs.lemmas.Valid.{valid-missing}
use Rattle.tough_checks.specs.Documents.{root_in, snapshot_in, timestamp_in}
use Rattle.tough_trust.specs.Listed.{targets_in, targets_text}
use Rattle.tough_net.specs.Digests.{has_digests}
use Rattle.tough_net.proofs.lemmas.Digests.{digests-true}
use Rattle.tough_trust.specs.Requests.{digests_in}
use Rattle.tough_trust.specs.delegations.Bare.{top_page}
use Rattle.tough_update.specs.Loadable.{Loadable, IsRoleServed, IsServedUnder}
use Rattle.tough_update.specs.Delegated.{metas_in}
use Rattle.tough_update.specs.Stages.{SettingDoc, KnownDoc}
use Rattle.tough_update.specs.delegations.Growing.{listed_as}
use Rattle.tough_update.specs.growth.Once.{Distinct}
use Rattle.tough_update.specs.growth.Under.{page_of, Relation, Below}
use Rattle.tough_sign.specs.Listing.{stated, hashes_of}
use Rattle.tough_sign.specs.Pretty.{pretty_text}
use Rattle.tough_signed.specs.Roles.{signed_of, buffer_of}
use Rattle.tough_signed.specs.Standing.{roles_of, is_consistent, IsStanding}
use Rattle.tough_signed.specs.declared.signed_role.SignedRole.{SignedRole}
use Rattle.tough_plain.proofs.Plain.{reads, storable}
use Rattle.tough_release.specs.Documents.{Metas, with_role_meta, with_role_metas}
use Rattle.tough_release.specs.Edits.{ReleaseDoc}
use Rattle.tough_release.specs.Repository.{root_of, targets_of, snapshot_of, timestamp_of, delegated_of}
use Rattle.tough_release.specs.declared.repository.SignedRepository.{SignedRepository}
use Rattle.tough_round.specs.Files.{root_in_it, timestamp_in_it, snapshot_in_it, tree_in_it, targets_version, written, files_of, known_of, loaded_of}
use Rattle.tough_round.specs.Roles.{role_name, role_version, role_file}
use Rattle.tough_round.specs.Loading.{IsRoleName, Vouch, IsSound, MayLoad}
use Rattle.tough_round.proofs.Escaping.{escapes}
use Rattle.tough_round.proofs.Filed.{IsFiled}
use Rattle.tough_round.proofs.Listing.{with_json, listed, listed-one, listed-first}
use Rattle.tough_round.proofs.Reading.{snapshot-small, targets-read, root-read}
use Rattle.tough_round.proofs.Rooting.{root-stored}
use Rattle.tough_round.proofs.Serving.{Page, Repo, IsOk, IsProper, IsServed as AreServed, served, map-all, all-mapped}
use Rattle.tough_round.proofs.Standings.{IsKept, standing-names, standing-among, standing-all, distinct-roles, page-read, page-stored, page-version}
use Rattle.tough_round.proofs.Trees.{weaker-below, both-below, Both, all-entries, below-entries, named-entries}

-- ---- a file fits what is stated of it

le-itself : (n : ℕ) → nat_le n n ≡ true
le-itself n = grind (arith, nat_tests)

le-test : (n m : ℕ) → n ≤ m → nat_le n m ≡ true
le-test n m h = grind (arith, nat_tests)

both-true : (a b : Bool) → a ≡ true → b ≡ true → (a && b) ≡ true
both-true a b h k = ap₂ (λ (x y : Bool). x && y) h k

fits-stated : (bytes : List ℕ) → (nat_le (length bytes) (length bytes) && has_digests (digests_in (hashes_of bytes)) bytes) ≡ true
fits-stated bytes = both-true _ _ (le-itself (length bytes)) (digests-true (digests_in (hashes_of bytes)) bytes (refl, refl))

small : (n : ℕ) → n < 2 ^ 64 → n < 10 ^ 64
small n h = omega (arith, h)

-- ---- the snapshot's entries

abbrev role_meta : SignedRole DelegatedTargets → MetafileDoc
role_meta d = stated (buffer_of d) (role_version d)

-- what a delegated role's document asks for by itself
abbrev Asked : (s : SettingDoc) (start : ℤ) → List ℕ → HeldDoc → Type 0
Asked s start n x = IsRoleName n × KeysAreOwn (page_of x).role.delegations × NestsWithin max_depth (signed_json targets_json (page_of x))

-- a role's document, and its file
abbrev HasFile : List (SignedRole DelegatedTargets) → Relation
HasFile ds g n p = (d : SignedRole DelegatedTargets) × IsAmong d ds × (role_name d ≡ n) × (p.role.head.version ≡ role_version d) × (targets_text p ≢ None)
    × (KeysAreOwn p.role.delegations → NestsWithin max_depth (signed_json targets_json p) → targets_in (buffer_of d) ≡ Some p)

metas-listed : (metas : Metas) (ds : List (SignedRole DelegatedTargets)) → with_role_metas metas ds ≡ listed role_name role_meta metas ds
metas-listed metas [] = refl
metas-listed metas (d ∷ ds) = metas-listed (with_role_meta metas d) ds

module _ (apart : EncodesApart) (v : Verifies) (s : SettingDoc) (start : ℤ) (e : ReleaseDoc) (r : SignedRepository) (may : MayLoad v s start e r) (f : IsFiled r) where
  abbrev ds : List (SignedRole DelegatedTargets)
  ds = roles_of (delegated_of r)

  abbrev c : Bool
  c = is_consistent (delegated_of r)

  abbrev rc : Bool
  rc = (root_in_it r).role.consistent_snapshot

  abbrev top : SignedDoc TargetsDoc
  top = top_page (tree_in_it r)

  -- ---- the documents are read from their files

  top-is : signed_doc targets_doc (signed_of (targets_of r)) ≡ top
  top-is = ap (λ (t : TargetsDoc). let p : SignedDoc TargetsDoc = record { role = t; signatures = (tree_in_it r).signatures } in p) (top-tells (signed_of (targets_of r)).signed)

  targets-reading : targets_in (buffer_of (targets_of r)) ≡ Some top
  targets-reading =
      reads targets_at targets_doc (signed_of (targets_of r)) (buffer_of (targets_of r))
      (f.targets.back (subst (λ (p : SignedDoc TargetsDoc). KeysAreOwn p.role.delegations) (sym top-is) may.targets_keys) (subst (λ (p : SignedDoc TargetsDoc). NestsWithin max_depth (signed_json targets_json p)) (sym top-is) may.targets_shallow))
      ∙ ap (λ (p : SignedDoc TargetsDoc). Some p) top-is

  targets-stored : targets_text top ≢ None
  targets-stored = subst (λ (p : SignedDoc TargetsDoc). targets_text p ≢ None) top-is (storable pretty_text (signed_json targets_json (signed_doc targets_doc (signed_of (targets_of r)))) (buffer_of (targets_of r)) f.targets.written)

  top-version : top.role.head.version ≡ targets_version r
  top-version = sym (ap (λ (p : SignedDoc TargetsDoc). p.role.head.version) top-is)

  snapshot-reading : snapshot_in (buffer_of (snapshot_of r)) ≡ Some (snapshot_in_it r)
  snapshot-reading = reads snapshot_at snapshot_doc (signed_of (snapshot_of r)) (buffer_of (snapshot_of r)) (f.snapshot.back tt f.snapshot_shallow)

  timestamp-reading : timestamp_in (buffer_of (timestamp_of r)) ≡ Some (timestamp_in_it r)
  timestamp-reading = reads timestamp_at timestamp_doc (signed_of (timestamp_of r)) (buffer_of (timestamp_of r)) (f.timestamp.back tt f.timestamp_shallow)

  -- ---- the documents of the roles

  pub standing-docs : Below (HasFile ds) (tree_in_it r).role
  standing-docs =
      below-entries (HasFile ds) (λ a x. IsKept a x ds)
      (λ g a x own q. (q.role, q.among, q.standing.alone.name, page-version a x q.role q.standing, page-stored a x q.role q.standing, page-read a x q.role q.standing))
      (tree_in_it r).role may.full (standing-among (entries (tree_in_it r).role) ds f.standing)

  asked-docs : AllByRecursion (λ d. (a : Entry) × (x : HeldDoc) × IsStanding a x d × Asked s start a.name x) ds
  asked-docs =
      standing-all (Asked s start) (entries (tree_in_it r).role) ds f.standing
      (all-entries (Asked s start) (IsSound v s start e) (λ g n x k. (k.named, k.keys, k.shallow)) (tree_in_it r).role may.roles)

  -- ---- the names of the files

  abbrev page : SignedRole DelegatedTargets → Page
  page d = record { version = role_version d; bytes = buffer_of d }

  abbrev repo : Repo (SignedRole DelegatedTargets)
  repo = record {
    consistent = c;
    root = record { version = (root_in_it r).role.head.version; bytes = buffer_of (root_of r) };
    targets = record { version = targets_version r; bytes = buffer_of (targets_of r) };
    snapshot = record { version = (snapshot_in_it r).role.head.version; bytes = buffer_of (snapshot_of r) };
    timestamp = record { version = 1; bytes = buffer_of (timestamp_of r) };
    roles = ds;
  }

  role-ok : (d : SignedRole DelegatedTargets) (a : Entry) (x : HeldDoc) → IsStanding a x d → Asked s start a.name x → IsOk IsUtf8 filename_of role_name page d
  role-ok d a x h k =
      let name : IsRoleName (role_name d) = subst IsRoleName (sym h.alone.name) k.0 in
      let word = (targets-read (buffer_of d) (page_of x) (page-read a x d h k.1 k.2)).0 in (
        record { text = IsUtf8-string_bytes (out-DelegatedTargets (signed_of d).signed).name; root = name.root; targets = name.targets; snapshot = name.snapshot; timestamp = name.timestamp; tail = name.tail },
        small (role_version d) (subst (λ n. n < 2 ^ 64) (page-version a x d h) word),
      )

  proper : IsProper IsUtf8 filename_of role_name page repo
  proper = record {
    names = map-all (λ d. (a : Entry) × (x : HeldDoc) × IsStanding a x d × Asked s start a.name x) (IsOk IsUtf8 filename_of role_name page) ds (λ d k. role-ok d k.0 k.1 k.2 k.3) asked-docs;
    once = distinct-roles ds (subst Distinct (sym (standing-names (entries (tree_in_it r).role) ds f.standing ∙ named-entries (tree_in_it r).role)) may.once);
    root = let word = (root-read (buffer_of (root_of r)) (root_in_it r) f.rooted).0.0 in omega (arith, word);
    targets = small (targets_version r) (subst (λ n. n < 2 ^ 64) top-version (targets-read (buffer_of (targets_of r)) top targets-reading).0);
    snapshot = small (snapshot_in_it r).role.head.version (snapshot-small (buffer_of (snapshot_of r)) (snapshot_in_it r) snapshot-reading);
  }

  there : AreServed IsUtf8 filename_of role_name page repo
  there = served IsUtf8 filename_of role_name page (escapes apart) repo proper

  -- each file is found under its name
  pub all-found : AllByRecursion (λ f. files_of r f.0 ≡ Some f.1) (written r)
  all-found = (there.root, (there.targets, (there.snapshot, (there.timestamp, all-mapped (role_file c) (λ f. files_of r f.0 ≡ Some f.1) ds there.roles))))

  -- ---- what is listed

  role-listed : (d : SignedRole DelegatedTargets) → IsAmong d ds → listed_as (snapshot_in_it r).role.meta (role_name d) ≡ Some (role_meta d)
  role-listed d i =
      ap (λ (m : Metas). lookup (bytes_eq (with_json (role_name d))) m) (f.snapshot_lists ∙ metas-listed ((codes "targets.json", stated (buffer_of (targets_of r)) (targets_version r)) ∷ []) ds)
      ∙ listed-one role_name role_meta d ds i proper.once ((codes "targets.json", stated (buffer_of (targets_of r)) (targets_version r)) ∷ [])

  not-targets : AllByRecursion (λ d. codes "targets.json" ≡ with_json (role_name d) → ⊥) ds
  not-targets = map-all (IsOk IsUtf8 filename_of role_name page) (λ d. codes "targets.json" ≡ with_json (role_name d) → ⊥) ds (λ d k h. k.0.targets (append_cancel_right (role_name d) (codes "targets") (codes ".json") (sym h))) proper.names

  targets-listed : lookup (bytes_eq (codes "targets.json")) (snapshot_in_it r).role.meta ≡ Some (stated (buffer_of (targets_of r)) (targets_version r))
  targets-listed =
      ap (λ (m : Metas). lookup (bytes_eq (codes "targets.json")) m) (f.snapshot_lists ∙ metas-listed ((codes "targets.json", stated (buffer_of (targets_of r)) (targets_version r)) ∷ []) ds)
      ∙ listed-first role_name role_meta (codes "targets.json") (stated (buffer_of (targets_of r)) (targets_version r)) ds not-targets

  -- ---- what is served

  abbrev files : List ℕ → Option (List ℕ)
  files = files_of r

  abbrev known : KnownDoc
  known = known_of start r

  role-served : (g : DelegationsDoc) (n : List ℕ) (p : SignedDoc TargetsDoc) → Vouch v (Some g) n p → IsSound v s start e (Some g) n p → HasFile ds (Some g) n p → IsRoleServed v files s known g n p
  role-served g n p vouched sound h =
      let d = h.0 in
      let found : files (file_name rc (role_version d) (delegated_file (role_name d))) ≡ Some (buffer_of d) =
      subst (λ (b : Bool). files (file_name b (role_version d) (delegated_file (role_name d))) ≡ Some (buffer_of d)) f.consistent (there.roles d h.1) in
      record {
        entry = role_meta d;
        listed = subst (λ (m : List ℕ). listed_as (metas_in known) m ≡ Some (role_meta d)) h.2 (role-listed d h.1);
        document = record {
          bytes = buffer_of d;
          served = subst (λ (m : List ℕ). files (file_name rc (role_version d) (delegated_file m)) ≡ Some (buffer_of d)) h.2 found;
          fits = fits-stated (buffer_of d);
          reading = h.5 sound.keys sound.shallow;
        };
        signed = vouched;
        version = h.3;
        in_time = sound.in_time;
        stored = h.4;
      }

  served-under : (g : Option DelegationsDoc) (n : List ℕ) (p : SignedDoc TargetsDoc) → Both (Vouch v) (Both (IsSound v s start e) (HasFile ds)) g n p → IsServedUnder v files s known g n p
  served-under None n p h = absurd h.0
  served-under (Some g) n p h = role-served g n p h.0 h.1.0 h.1.1

  pub keys-rise-below : Below (λ g n p. KeysRise p.role.delegations) (tree_in_it r).role
  keys-rise-below =
      weaker-below (Both (IsSound v s start e) (HasFile ds)) (λ g n p. KeysRise p.role.delegations) (λ g n p h. (targets-read (buffer_of h.1.0) p (h.1.5 h.0.keys h.0.shallow)).1) (tree_in_it r).role
      (both-below (IsSound v s start e) (HasFile ds) (tree_in_it r).role may.roles standing-docs)

  pub keys-rise-top : KeysRise top.role.delegations
  keys-rise-top = (targets-read (buffer_of (targets_of r)) top targets-reading).1

  pub loadable :
      ReachesUnder v (root_in_it r).role types.Timestamp timestamp_json (timestamp_in_it r)
      → ReachesUnder v (root_in_it r).role types.Snapshot snapshot_json (snapshot_in_it r)
      → ReachesUnder v (root_in_it r).role types.Targets targets_json top
      → Below (Vouch v) (tree_in_it r).role
      → Loadable v files s (loaded_of s start r)
  loadable timestamp-signed snapshot-signed targets-signed vouched = record {
    whole = may.whole;
    start_text = may.start_text;
    root = ap root_in may.trusted ∙ f.rooted;
    root_signed = may.root_signed;
    no_next = there.next;
    one_update = may.one_update;
    root_in_time = may.root_in_time;
    root_stored = root-stored v (root_in_it r) may.root_signed (root-read (buffer_of (root_of r)) (root_in_it r) f.rooted).1;
    timestamp = record { bytes = buffer_of (timestamp_of r); served = there.timestamp; fits = both-true (nat_le (length (buffer_of (timestamp_of r))) s.limits.max_timestamp_size) true (le-test (length (buffer_of (timestamp_of r))) s.limits.max_timestamp_size may.timestamp_size) refl; reading = timestamp-reading };
    timestamp_signed = timestamp-signed;
    timestamp_in_time = may.timestamp_in_time;
    alone = ap (λ (m : Metas). length m) f.timestamp_lists;
    entry = stated (buffer_of (snapshot_of r)) (snapshot_in_it r).role.head.version;
    listed = ap (λ (m : Metas). lookup (bytes_eq (codes "snapshot.json")) m) f.timestamp_lists;
    snapshot = record {
      bytes = buffer_of (snapshot_of r);
      served = subst (λ (b : Bool). files (file_name b (snapshot_in_it r).role.head.version (codes "snapshot.json")) ≡ Some (buffer_of (snapshot_of r))) f.consistent there.snapshot;
      fits = fits-stated (buffer_of (snapshot_of r));
      reading = snapshot-reading;
    };
    snapshot_signed = snapshot-signed;
    snapshot_version = refl;
    snapshot_in_time = may.snapshot_in_time;
    targets_entry = stated (buffer_of (targets_of r)) (targets_version r);
    targets_listed = targets-listed;
    targets = record {
      bytes = buffer_of (targets_of r);
      served = subst (λ (b : Bool). files (file_name b (targets_version r) (codes "targets.json")) ≡ Some (buffer_of (targets_of r))) f.consistent there.targets;
      fits = fits-stated (buffer_of (targets_of r));
      reading = targets-reading;
    };
    targets_signed = targets-signed;
    targets_version = top-version;
    targets_in_time = may.targets_in_time;
    targets_stored = targets-stored;
    full = may.full;
    once = may.once;
    delegated = weaker-below (Both (Vouch v) (Both (IsSound v s start e) (HasFile ds))) (IsServedUnder v files s known) served-under (tree_in_it r).role
        (both-below (Vouch v) (Both (IsSound v s start e) (HasFile ds)) (tree_in_it r).role vouched (both-below (IsSound v s start e) (HasFile ds) (tree_in_it r).role may.roles standing-docs));
    received = refl;
    found = (valid-missing (tree_in_it r).role).0 f.valid;
  }
