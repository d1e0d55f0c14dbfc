-- A repository that was signed is loadable.
use Rattle.std.proofs.Common.{◌≡◌, ℕ, ℤ, List, Some}
use Rattle.std.specs.List.{AllByRecursion}
use Rattle.tough_names.specs.Apart.{EncodesApart}
use Rattle.tough_keys.specs.Key.{KeyDoc}
use Rattle.tough_keys.specs.Same.{Verifies}
use Rattle.tough_roles.specs.declared.role_type.RoleType.TheVariants as types
use Rattle.tough_update.specs.Loadable.{Loadable}
use Rattle.tough_update.specs.Stages.{SettingDoc}
use Rattle.tough_sign.specs.Making.{SignWell}
use Rattle.tough_signed.specs.Roles.{buffer_of}
use Rattle.tough_signed.specs.Standing.{json_of}
use Rattle.tough_release.specs.Edits.{ReleaseDoc}
use Rattle.tough_release.specs.Release.{json_of_snapshot, json_of_timestamp, IsReleased}
use Rattle.tough_release.specs.Repository.{root_of}
use Rattle.tough_release.specs.declared.repository.SignedRepository.{SignedRepository}
use Rattle.tough_round.specs.Files.{root_in_it, written, files_of, loaded_of}
use Rattle.tough_round.specs.Loading.{MayLoad}
use Rattle.tough_round.proofs.Filed.{made-filed}
use Rattle.tough_round.proofs.Loadables.{all-found, keys-rise-below, keys-rise-top, loadable}
use Rattle.tough_round.proofs.Reading.{root-read}
use Rattle.tough_round.proofs.Signing.{ReachesRoot, ReachesBelow, targets-reach, vouched-below, snapshot-reaches, timestamp-reaches}

pub released-loads : {S : Type 0} (key_of : S → KeyDoc) (signs : S → List ℕ → List ℕ → Type 0) → EncodesApart
    → ReachesRoot json_of_snapshot types.Snapshot key_of signs → ReachesRoot json_of_timestamp types.Timestamp key_of signs → ReachesRoot json_of types.DelegatedTargets key_of signs → ReachesBelow json_of types.DelegatedTargets key_of signs
    → (v : Verifies) (s : SettingDoc) (start : ℤ) (signers : List S) (e : ReleaseDoc) (r : SignedRepository) → SignWell v key_of signs signers → IsReleased key_of signs signers e r → MayLoad v s start e r
    → Loadable v (files_of r) s (loaded_of s start r)
released-loads key_of signs apart snapshots timestamps roots belows v s start signers e r well released may =
    let made = released.made in
    let f = made-filed key_of signs signers e released.closed r released.closes made may.snapshot_shallow may.timestamp_shallow in
    let sorted = (root-read (buffer_of (root_of r)) (root_in_it r) f.rooted).0.1 in
    let top = keys-rise-top apart v s start e r may f in
    let below = keys-rise-below apart v s start e r may f in
    loadable apart v s start e r may f
    (timestamp-reaches key_of signs signers v well released.closed r made sorted timestamps)
    (snapshot-reaches key_of signs signers v well released.closed r made sorted snapshots)
    (targets-reach key_of signs signers v well roots belows s start e released.closed r may released.closes made sorted top below)
    (vouched-below key_of signs signers v well roots belows s start e released.closed r may released.closes made sorted top below)

pub released-found : {S : Type 0} (key_of : S → KeyDoc) (signs : S → List ℕ → List ℕ → Type 0) → EncodesApart
    → (v : Verifies) (s : SettingDoc) (start : ℤ) (signers : List S) (e : ReleaseDoc) (r : SignedRepository) → IsReleased key_of signs signers e r → MayLoad v s start e r
    → AllByRecursion (λ f. files_of r f.0 ≡ Some f.1) (written r)
released-found key_of signs apart v s start signers e r released may = all-found apart v s start e r may (made-filed key_of signs signers e released.closed r released.closes released.made may.snapshot_shallow may.timestamp_shallow)
