-- Steps that a vault took are a trail on its store.
use Rattle.std.proofs.Common.{◌≡◌, ℕ, ℤ, List, [], ◌∷◌, Some, true, false, Ok, refl, ap}
use Rattle.tough_keys.specs.Demo.{demo_verifies}
use Rattle.tough_roles.specs.Policy.{policy}
use Rattle.tough_roles.specs.Root.{RootDoc}
use Rattle.tough_roles.specs.Signature.{SignedDoc}
use Rattle.tough_roles.specs.Snapshot.{SnapshotDoc}
use Rattle.tough_roles.specs.Timestamp.{TimestampDoc}
use Rattle.tough_roles.specs.declared.role_type.RoleType.TheVariants as role
use Rattle.tough_checks.specs.Documents.{root_in, timestamp_in, snapshot_in}
use Rattle.tough_vault.specs.Act.{Act, NoteTime, PutRoot, AdvanceTimestamp, AdvanceSnapshot, Acts}
use Rattle.tough_vault.specs.Journal.{Note, Noted, Root, Timestamp, Snapshot, Cleared, Document, Broken, has_broken, has_cleared, note_of, entry_of}
use Rattle.tough_vault.specs.Memory.{memory_files}
use Rattle.tough_vault.specs.Step.{Parts}
use Rattle.tough_vault.specs.declared.entry.Receipt.{Receipt}
use Rattle.tough_vault.specs.declared.memory.MemoryStore.{MemoryStore}
use Rattle.tough_trust.specs.Vaults.{ReadsBack}
use Rattle.tough_shared.proofs.Going.{goes_on}
use Rattle.tough_world.specs.Steps.{Taken, Trail, all_notes}
use Rattle.witnesses.specs.Steps.{no_failure, IsPlain, Took, AllTook, four_acts, HasAccepted}

-- a step that succeeded noted the entry of its receipt
pub took : (act : Act) (old new : Parts MemoryStore) (r : Receipt) → Acts true memory_files no_failure demo_verifies act old new (Ok r) → ReadsBack act → IsPlain (note_of (entry_of r)) → Took act old new
took act old new r acts back plain = record {
  receipt = r;
  note = note_of (entry_of r);
  acts = acts;
  back = back;
  added = (goes_on true memory_files no_failure demo_verifies act old new (Ok r) acts).0;
  plain = plain;
}

-- ---- many steps

abbrev taken_in : (acts : List Act) (old new : Parts MemoryStore) → AllTook acts old new → List Taken
taken_in [] old new h = []
taken_in (act ∷ rest) old new h = record { act = act; notes = h.1.note ∷ [] } ∷ taken_in rest h.0 new h.2

trail : (acts : List Act) (old new : Parts MemoryStore) (h : AllTook acts old new) → Trail true memory_files no_failure demo_verifies old.store (taken_in acts old new h) new.store
trail [] old new h = λ tells name. ap (λ (p : Parts MemoryStore). memory_files p.store name) h
trail (act ∷ rest) old new h = (
  h.0.store,
  record { before = old; after = h.0; result = Ok h.1.receipt; acts = h.1.acts; back = h.1.back; added = h.1.added; from = λ tells name. refl; to = refl },
  trail rest h.0 new h.2,
)

-- one plain entry more
broken : (n : Note) (ns : List Note) → IsPlain n → has_broken ns ≡ false → has_broken (n ∷ ns) ≡ false
broken (Noted t) ns p h = h
broken (Root v cleared) ns p h = h
broken (Timestamp q had) ns p h = h
broken (Snapshot q had) ns p h = h
broken Cleared ns p h = h
broken (Document name) ns p h = h
broken Broken ns p h = p.0

cleared : (n : Note) (ns : List Note) → IsPlain n → has_cleared ns ≡ false → has_cleared (n ∷ ns) ≡ false
cleared (Noted t) ns p h = h
cleared (Root v true) ns p h = p.1
cleared (Root v false) ns p h = h
cleared (Timestamp q had) ns p h = h
cleared (Snapshot q had) ns p h = h
cleared Cleared ns p h = p.1
cleared (Document name) ns p h = h
cleared Broken ns p h = h

unbroken : (acts : List Act) (old new : Parts MemoryStore) (h : AllTook acts old new) → has_broken (all_notes (taken_in acts old new h)) ≡ false
unbroken [] old new h = refl
unbroken (act ∷ rest) old new h = broken h.1.note (all_notes (taken_in rest h.0 new h.2)) h.1.plain (unbroken rest h.0 new h.2)

uncleared : (acts : List Act) (old new : Parts MemoryStore) (h : AllTook acts old new) → has_cleared (all_notes (taken_in acts old new h)) ≡ false
uncleared [] old new h = refl
uncleared (act ∷ rest) old new h = cleared h.1.note (all_notes (taken_in rest h.0 new h.2)) h.1.plain (uncleared rest h.0 new h.2)

-- ---- the four

pub accepted : (start : ℤ) (root : SignedDoc RootDoc) (t : SignedDoc TimestampDoc) (listed : ℕ) (s : SignedDoc SnapshotDoc) (a b c : List ℕ) → root_in a ≡ Some root → timestamp_in b ≡ Some t → snapshot_in c ≡ Some s
    → (old new : Parts MemoryStore) → AllTook (four_acts start root t listed s) old new → HasAccepted start
accepted start root t listed s a b c is_root is_t is_s old new h =
    let acts = four_acts start root t listed s in
    let rest = PutRoot root ∷ AdvanceTimestamp root.role t start true ∷ AdvanceSnapshot root.role listed s start true ∷ [] in (
      root,
      t,
      listed,
      s,
      record {
        before = record { act = NoteTime start; notes = h.1.note ∷ [] } ∷ [];
        section = taken_in rest h.0 new h.2;
        after = [];
        old = old.store;
        new = new.store;
        P = policy root.role role.Timestamp;
        Q = policy root.role role.Snapshot;
        trail = trail acts old new h;
        are = refl;
        proper = (tt, (tt, ((b, is_t), ((c, is_s), tt))));
        read = (tt, ((a, is_root), (tt, (tt, tt))));
        under = (tt, (tt, (refl, (refl, tt))));
        unbroken = unbroken acts old new h;
        uncleared = uncleared acts old new h;
        proper_in = (tt, ((b, is_t), ((c, is_s), tt)));
        under_in = (tt, (refl, (refl, tt)));
        unbroken_in = unbroken rest h.0 new h.2;
        uncleared_in = uncleared rest h.0 new h.2;
      },
    )
