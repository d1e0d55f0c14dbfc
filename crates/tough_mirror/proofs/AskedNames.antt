-- The names that a client asks for, and those of a repository's files, are relative.
use Rattle.std.proofs.Common.{◌≡◌, ◌+◌, Bool, List, [], ◌∷◌, map, codes, sym, subst, inl, inr}
use Rattle.std.specs.List.{AllByRecursion}
use Rattle.std.specs.Path.{IsRelative}
use Rattle.tough_keys.specs.Same.{Verifies}
use Rattle.tough_trust.specs.Requests.{RequestDoc}
use Rattle.tough_update.specs.Answered.{AnswerDoc}
use Rattle.tough_update.specs.Asking.{AsksFile}
use Rattle.tough_update.specs.Stages.{CoreDoc}
use Rattle.tough_schema.specs.Targets.{delegated_file}
use Rattle.tough_schema.specs.declared.targets.DelegatedTargets.{DelegatedTargets}
use Rattle.tough_signed.specs.declared.signed_role.SignedRole.{SignedRole}
use Rattle.tough_signed.specs.Standing.{roles_of, is_consistent}
use Rattle.tough_release.specs.Repository.{delegated_of}
use Rattle.tough_release.specs.declared.repository.SignedRepository.{SignedRepository}
use Rattle.tough_round.specs.Files.{root_in_it, snapshot_in_it, targets_version, written}
use Rattle.tough_round.specs.Roles.{role_file, role_name, role_version}
use Rattle.tough_mirror.proofs.RelativeNames.{versioned-relative, file-relative, delegated-relative, timestamp-relative, snapshot-relative, targets-relative}

named : (q other : RequestDoc) → q ≡ other → IsRelative other.name → IsRelative q.name
named q other is h = subst (λ (x : RequestDoc). IsRelative x.name) (sym is) h

pub asked-relative : (v : Verifies) (c : CoreDoc) (answers : List AnswerDoc) (q : RequestDoc) → AsksFile v c answers q → IsRelative q.name
asked-relative v c answers q (inl a) = named q _ a.is (versioned-relative (a.last.role.head.version + 1) (codes "root.json"))
asked-relative v c answers q (inr (inl is)) = named q _ is timestamp-relative
asked-relative v c answers q (inr (inr (inl a))) = named q _ a.is (file-relative a.root.consistent_snapshot a.entry.version (codes "snapshot.json") snapshot-relative)
asked-relative v c answers q (inr (inr (inr (inl a)))) = named q _ a.is (file-relative a.root.consistent_snapshot a.entry.version (codes "targets.json") targets-relative)
asked-relative v c answers q (inr (inr (inr (inr a)))) = named q _ a.is (file-relative a.root.consistent_snapshot a.entry.version (delegated_file a.name) (delegated-relative a.name))

roles-relative : (c : Bool) (ds : List (SignedRole DelegatedTargets)) → AllByRecursion (λ f. IsRelative f.0) (map (role_file c) ds)
roles-relative c [] = tt
roles-relative c (d ∷ ds) = (file-relative c (role_version d) (delegated_file (role_name d)) (delegated-relative (role_name d)), roles-relative c ds)

pub written-relative : (r : SignedRepository) → AllByRecursion (λ f. IsRelative f.0) (written r)
written-relative r =
    let c = is_consistent (delegated_of r) in (
      versioned-relative (root_in_it r).role.head.version (codes "root.json"),
      (
        file-relative c (targets_version r) (codes "targets.json") targets-relative,
        (
          file-relative c (snapshot_in_it r).role.head.version (codes "snapshot.json") snapshot-relative,
          (
            timestamp-relative,
            roles-relative c (roles_of (delegated_of r)),
          ),
        ),
      ),
    )
