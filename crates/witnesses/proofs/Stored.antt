-- A root that a look at a store gives is what the store holds.
use Rattle.std.proofs.Common.{◌≡◌, ℕ, Bool, true, false, Option, Some, None, Ok, refl, sym, ap, ◌∙◌}
use Rattle.std.specs.Prelude.{nat_lt, if◌then◌else◌}
use Rattle.tough_keys.specs.Demo.{demo_verifies}
use Rattle.tough_roles.specs.Root.{RootDoc}
use Rattle.tough_roles.specs.Signature.{SignedDoc}
use Rattle.tough_checks.specs.Files.{root_file}
use Rattle.tough_checks.specs.StoredDocuments.{newer_root, stored_root}
use Rattle.tough_vault.specs.Looking.{Looks}
use Rattle.tough_vault.specs.Memory.{memory_files}
use Rattle.tough_vault.specs.Step.{Parts}
use Rattle.tough_vault.specs.declared.memory.MemoryStore.{MemoryStore}
use Rattle.witnesses.specs.Steps.{no_failure}

newer : (first : ℕ) (o : Option (SignedDoc RootDoc)) (d : SignedDoc RootDoc) → Some d ≡ newer_root first o → o ≡ Some d
newer first None d h = cc
newer first (Some r) d h = go (nat_lt first r.role.head.version) h
  where
    go : (t : Bool) → Some d ≡ (if t then Some r else None) → Some r ≡ Some d
    go true e = sym e
    go false e = cc

pub held : (store : MemoryStore) (old new : Parts MemoryStore) (d : SignedDoc RootDoc) → old.store ≡ store → Looks true memory_files no_failure demo_verifies 0 old new (Ok (Some d))
    → (r : SignedDoc RootDoc) × (stored_root demo_verifies (memory_files store root_file) ≡ Some r)
held store old new d is looks =
    let found = looks.sees.root in
    let there = found.1 refl ∙ ap (λ (s : MemoryStore). memory_files s root_file) is in
    (d, ap (stored_root demo_verifies) (sym there) ∙ newer 0 (stored_root demo_verifies found.0) d found.2)
