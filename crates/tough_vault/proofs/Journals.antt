-- The journal one entry longer.
use Rattle.std.proofs.Common.{◌≡◌, ◌⊎◌, ℕ, suc, zero, List, [], ◌∷◌, ◌++◌, Some, true, false, slice_get, refl, inl, inr}
use Rattle.tough_checks.specs.Files.{IsFree}
use Rattle.tough_vault.specs.Journal.{Note, Noted, Root, Timestamp, Snapshot, Cleared, Document, Broken, Last, applied, replay, Follows, Rises, has_broken}
use Rattle.tough_vault.specs.Parts.{NamesFree}

pub some_inj : {A : Type 0} (x y : A) → Some x ≡ Some y → x ≡ y
some_inj x y h = cc

pub replay-append : (tip : Last) (ns : List Note) (n : Note) → replay tip (ns ++ n ∷ []) ≡ applied (replay tip ns) n
replay-append tip [] n = refl
replay-append tip (x ∷ ns) n = replay-append (applied tip x) ns n

pub rises-append : (tip : Last) (ns : List Note) (n : Note) → Rises tip ns → Follows (replay tip ns) n → Rises tip (ns ++ n ∷ [])
rises-append tip [] n h f = (f, tt)
rises-append tip (x ∷ ns) n h f = (h.0, rises-append (applied tip x) ns n h.1 f)

pub broken-append : (ns : List Note) → has_broken (ns ++ Broken ∷ []) ≡ true
broken-append [] = refl
broken-append (Noted t ∷ ns) = broken-append ns
broken-append (Root v c ∷ ns) = broken-append ns
broken-append (Timestamp p o ∷ ns) = broken-append ns
broken-append (Snapshot r o ∷ ns) = broken-append ns
broken-append (Cleared ∷ ns) = broken-append ns
broken-append (Document d ∷ ns) = broken-append ns
broken-append (Broken ∷ ns) = refl

pub unbroken-before : (ns : List Note) (n : Note) → has_broken (ns ++ n ∷ []) ≡ false → has_broken ns ≡ false
unbroken-before [] n h = refl
unbroken-before (Noted t ∷ ns) n h = unbroken-before ns n h
unbroken-before (Root v c ∷ ns) n h = unbroken-before ns n h
unbroken-before (Timestamp p o ∷ ns) n h = unbroken-before ns n h
unbroken-before (Snapshot r o ∷ ns) n h = unbroken-before ns n h
unbroken-before (Cleared ∷ ns) n h = unbroken-before ns n h
unbroken-before (Document d ∷ ns) n h = unbroken-before ns n h
unbroken-before (Broken ∷ ns) n h = h

pub get_append : (ns : List Note) (n : Note) (k : ℕ) (m : Note) → slice_get (ns ++ n ∷ []) k ≡ Some m → (slice_get ns k ≡ Some m) ⊎ (n ≡ m)
get_append [] n zero m h = inr (some_inj n m h)
get_append [] n (suc k) m h = absurd (cc)
get_append (x ∷ ns) n zero m h = inl h
get_append (x ∷ ns) n (suc k) m h = get_append ns n k m h

-- a note that is a Document has a free name
abbrev pub FreeNote : Note → Type 0
FreeNote n = (name : List ℕ) → n ≡ Document name → IsFree name

pub free-append : (ns : List Note) (n : Note) → NamesFree ns → FreeNote n → NamesFree (ns ++ n ∷ [])
free-append ns n h f k name e = elim (get_append ns n k (Document name) e) [ inl a ↦ h k name a | inr b ↦ f name b ]
