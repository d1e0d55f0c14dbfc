-- What a made repository files and lists, whoever signed it.
use Rattle.std.proofs.Common.{◌≡◌, ℕ, List, Some, inl, inr, refl, sym, ap, subst, ◌∙◌}
use Rattle.serde_json.specs.Data.{Members}
use Rattle.serde_json.specs.Read.{max_depth}
use Rattle.tough_keys.specs.Key.{KeyDoc}
use Rattle.tough_roles.specs.Readable.{NestsWithin}
use Rattle.tough_roles.specs.Root.{RootDoc}
use Rattle.tough_roles.specs.Signature.{SignedDoc, signed_json}
use Rattle.tough_roles.specs.Snapshot.{snapshot_json}
use Rattle.tough_roles.specs.Timestamp.{timestamp_json}
use Rattle.tough_schema.specs.Entries.{entries, IsValid}
use Rattle.tough_schema.specs.Whole.{TreeDoc}
use Rattle.tough_signed.specs.Roles.{buffer_of}
use Rattle.tough_signed.specs.Standing.{roles_of, is_consistent, AreStanding}
use Rattle.tough_checks.specs.Documents.{root_in}
use Rattle.tough_release.specs.Closing.{IsClosed}
use Rattle.tough_release.specs.Documents.{Metas, snapshot_metas, timestamp_metas}
use Rattle.tough_release.specs.Edits.{HeadingDoc, ReleaseDoc}
use Rattle.tough_release.specs.Files.{IsTargetsFile}
use Rattle.tough_release.specs.Release.{IsSnapshotFile, IsTimestampFile, IsMade}
use Rattle.tough_release.specs.Repository.{root_of, targets_of, snapshot_of, timestamp_of, delegated_of}
use Rattle.tough_release.specs.declared.repository.SignedRepository.{SignedRepository}
use Rattle.tough_round.specs.Files.{root_in_it, timestamp_in_it, snapshot_in_it, tree_in_it}
use Rattle.tough_round.specs.Loading.{IsShallow}
use Rattle.tough_round.proofs.Shallow.{AllStated, roles-stated, snapshot-within, timestamp-within}

pub record IsFiled (r : SignedRepository) : Type 0 where
  pub rooted : root_in (buffer_of (root_of r)) ≡ Some (root_in_it r)
  pub consistent : is_consistent (delegated_of r) ≡ (root_in_it r).role.consistent_snapshot
  pub targets : IsTargetsFile (targets_of r)
  pub standing : AreStanding (entries (tree_in_it r).role) (roles_of (delegated_of r))
  pub snapshot : IsSnapshotFile (snapshot_of r)
  pub snapshot_lists : (snapshot_in_it r).role.meta ≡ snapshot_metas (targets_of r) (roles_of (delegated_of r))
  pub snapshot_shallow : NestsWithin max_depth (signed_json snapshot_json (snapshot_in_it r))
  pub timestamp : IsTimestampFile (timestamp_of r)
  pub timestamp_lists : (timestamp_in_it r).role.meta ≡ timestamp_metas (snapshot_of r)
  pub timestamp_shallow : NestsWithin max_depth (signed_json timestamp_json (timestamp_in_it r))
  pub valid : IsValid (tree_in_it r).role

-- the editor of a targets document that is closed says nothing of the snapshot and of the timestamp
kept-headings : {S : Type 0} (key_of : S → KeyDoc) (signs : S → List ℕ → List ℕ → Type 0) (signers : List S) (e closed : ReleaseDoc) → IsClosed key_of signs signers e closed → (closed.snapshot ≡ e.snapshot) × (closed.timestamp ≡ e.timestamp)
kept-headings key_of signs signers e closed (inl h) = (ap (λ (x : ReleaseDoc). x.snapshot) h.1, ap (λ (x : ReleaseDoc). x.timestamp) h.1)
kept-headings key_of signs signers e closed (inr h) = (ap (λ (x : ReleaseDoc). x.snapshot) h.2.closed, ap (λ (x : ReleaseDoc). x.timestamp) h.2.closed)

-- the extras of a document are those that were taken over
taken-shallow : (extra : Members) (h k : HeadingDoc) → extra ≡ h.extra → h ≡ k → IsShallow k.extra → IsShallow extra
taken-shallow extra h k is same shallow = subst (λ (ms : Members). IsShallow ms) (sym (is ∙ ap (λ (x : HeadingDoc). x.extra) same)) shallow

pub made-filed : {S : Type 0} (key_of : S → KeyDoc) (signs : S → List ℕ → List ℕ → Type 0) (signers : List S) (e closed : ReleaseDoc) (r : SignedRepository) → IsClosed key_of signs signers e closed → IsMade key_of signs signers closed r
    → IsShallow e.snapshot.extra → IsShallow e.timestamp.extra → IsFiled r
made-filed key_of signs signers e closed r closes m snapshot timestamp = let kept = kept-headings key_of signs signers e closed closes in record {
  rooted = m.rooted;
  consistent = m.consistent ∙ sym (ap (λ (x : SignedDoc RootDoc). x.role.consistent_snapshot) m.root);
  targets = m.files.file;
  standing = subst (λ (t : SignedDoc TreeDoc). AreStanding (entries t.role) (roles_of (delegated_of r))) (sym m.files.targets) m.files.delegated;
  snapshot = m.snapshot.file;
  snapshot_lists = m.snapshot.document.meta;
  snapshot_shallow = snapshot-within (snapshot_in_it r)
      (subst (λ (metas : Metas). AllStated metas) (sym m.snapshot.document.meta) (roles-stated _ (roles_of (delegated_of r)) ((refl, refl), tt)))
      (taken-shallow (snapshot_in_it r).role.extra closed.snapshot e.snapshot m.snapshot.document.extra kept.0 snapshot);
  timestamp = m.timestamp.file;
  timestamp_lists = m.timestamp.document.meta;
  timestamp_shallow = timestamp-within (timestamp_in_it r)
      (subst (λ (metas : Metas). AllStated metas) (sym m.timestamp.document.meta) ((refl, refl), tt))
      (taken-shallow (timestamp_in_it r).role.extra closed.timestamp e.timestamp m.timestamp.document.extra kept.1 timestamp);
  valid = subst (λ (t : SignedDoc TreeDoc). IsValid t.role) (sym m.files.targets) m.valid;
}
