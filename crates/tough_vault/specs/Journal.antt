-- The journal of a vault, and its tip.
use Rattle.std.specs.Prelude.{◌≡◌, ℕ, ℤ, ◌≤◌, ◌≤ℤ◌, List, [], ◌∷◌, ◌++◌, map, Option, None, Some, Bool, true, false, ◌||◌, nat_le, string_bytes}
use Rattle.tough_checks.specs.Versions.{Pair, Roles, Item, time_where, pair_of, pair_where, roles_of, roles_where, version_in}
use Rattle.tough_vault.specs.declared.entry.Tip.{Tip}
use Rattle.tough_vault.specs.declared.entry.Receipt.{Receipt}
use Rattle.tough_vault.specs.declared.entry.Entry.{Entry}
use Rattle.tough_vault.specs.declared.entry.Entry.TheVariants as entry

-- an entry of the journal; an instant is in nanoseconds since 1970
pub data Note : Type 0 where
  Noted : ℤ → Note
  -- the version, and whether timestamp and snapshot were cleared
  Root : ℕ → Bool → Note
  Timestamp : Pair → Bool → Note
  Snapshot : Roles → Bool → Note
  Cleared : Note
  Document : List ℕ → Note
  Broken : Note

-- what was accepted last
pub record Last : Type 0 where
  pub time : Option ℤ
  pub root : Option ℕ
  pub timestamp : Option Pair
  pub snapshot : Option Roles

abbrev pub note_of : Entry → Note
note_of (entry.Noted t) = Noted t.nanosecond
note_of (entry.Root v cleared) = Root v cleared
note_of (entry.Timestamp p had) = Timestamp (pair_of p) had
note_of (entry.Snapshot v had) = Snapshot (roles_of v) had
note_of entry.Cleared = Cleared
note_of (entry.Document name) = Document (string_bytes name)
note_of entry.Broken = Broken

abbrev pub notes_of : List Entry → List Note
notes_of es = map note_of es

abbrev pub tip_of : Tip → Last
tip_of t = record { time = time_where t.time; root = t.root; timestamp = pair_where t.timestamp; snapshot = roles_where t.snapshot }

-- the number of a receipt's entry in the journal, and its copy of the entry
abbrev pub number_of : Receipt → ℕ
number_of r = r.number

abbrev pub entry_of : Receipt → Entry
entry_of r = r.entry

abbrev pub no_tip : Last
no_tip = record { time = None; root = None; timestamp = None; snapshot = None }

-- what is left of a part of the tip
abbrev pub unless_cleared : {A : Type 0} → Bool → Option A → Option A
unless_cleared true part = None
unless_cleared false part = part

-- the tip after an entry
abbrev pub applied : Last → Note → Last
applied tip (Noted t) = record tip { time = Some t }
applied tip (Root v cleared) = record { time = tip.time; root = Some v; timestamp = unless_cleared cleared tip.timestamp; snapshot = unless_cleared cleared tip.snapshot }
applied tip (Timestamp p had) = record tip { timestamp = Some p }
applied tip (Snapshot r had) = record tip { snapshot = Some r }
applied tip Cleared = record tip { timestamp = None; snapshot = None }
applied tip (Document name) = tip
applied tip Broken = tip

abbrev pub replay : Last → List Note → Last
replay tip [] = tip
replay tip (n ∷ ns) = replay (applied tip n) ns

-- a version is there, and is no lower
abbrev pub has_at_least : ℕ → Option ℕ → Bool
has_at_least v None = false
has_at_least v (Some w) = nat_le v w

-- Each name stays listed, and its version doesn't fall.
abbrev pub KeepsNames : List Item → List Item → Type 0
KeepsNames old new = (name : List ℕ) (v : ℕ) → version_in old name ≡ Some v → has_at_least v (version_in new name) ≡ true

-- Not below: no number is smaller, and no listed name is missing (TUF specification 5.4 and 5.5, rollback).
abbrev pub PairAtMost : Pair → Pair → Type 0
PairAtMost p q = (p.version ≤ q.version) × (p.snapshot ≤ q.snapshot)

abbrev pub RolesAtMost : Roles → Roles → Type 0
RolesAtMost r s = (r.version ≤ s.version) × KeepsNames r.items s.items

-- the entry isn't below what the tip has
abbrev pub Follows : Last → Note → Type 0
Follows tip (Noted t) = (u : ℤ) → tip.time ≡ Some u → u ≤ℤ t
Follows tip (Root v cleared) = (w : ℕ) → tip.root ≡ Some w → w ≤ v
Follows tip (Timestamp p had) = (q : Pair) → tip.timestamp ≡ Some q → PairAtMost q p
Follows tip (Snapshot r had) = (s : Roles) → tip.snapshot ≡ Some s → RolesAtMost s r
Follows tip _ = Unit {0}

-- the same along a journal
abbrev pub Rises : Last → List Note → Type 0
Rises tip [] = Unit {0}
Rises tip (n ∷ ns) = Follows tip n × Rises (applied tip n) ns

-- Replaying the journal gives the tip, and no entry is below what the entries before it leave.
pub record Legal (notes : List Note) (tip : Last) : Type 0 where
  pub replays : replay no_tip notes ≡ tip
  pub rises : (before : List Note) (n : Note) (after : List Note) → notes ≡ before ++ n ∷ after → Follows (replay no_tip before) n

abbrev pub has_broken : List Note → Bool
has_broken [] = false
has_broken (Broken ∷ ns) = true
has_broken (n ∷ ns) = has_broken ns

abbrev pub has_cleared : List Note → Bool
has_cleared [] = false
has_cleared (Cleared ∷ ns) = true
has_cleared (Root v cleared ∷ ns) = cleared || has_cleared ns
has_cleared (n ∷ ns) = has_cleared ns

-- Of two accepted documents with no clearing between them the later isn't below the earlier, and noted times don't fall.
pub record NothingGoesBack (notes : List Note) : Type 0 where
  pub timestamps : (xs ys zs : List Note) (p q : Pair) (a b : Bool)
      → notes ≡ xs ++ Timestamp p a ∷ (ys ++ Timestamp q b ∷ zs) → has_cleared ys ≡ false → PairAtMost p q
  pub snapshots : (xs ys zs : List Note) (r s : Roles) (a b : Bool)
      → notes ≡ xs ++ Snapshot r a ∷ (ys ++ Snapshot s b ∷ zs) → has_cleared ys ≡ false → RolesAtMost r s
  pub times : (xs ys zs : List Note) (t u : ℤ)
      → notes ≡ xs ++ Noted t ∷ (ys ++ Noted u ∷ zs) → t ≤ℤ u

-- Of two accepted roots the later isn't older.
pub record RootsRise (notes : List Note) : Type 0 where
  pub roots : (xs ys zs : List Note) (v w : ℕ) (a b : Bool)
      → notes ≡ xs ++ Root v a ∷ (ys ++ Root w b ∷ zs) → v ≤ w
