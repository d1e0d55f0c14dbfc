-- Journals that grow.
use Rattle.std.proofs.Common.{◌≡◌, List, [], ◌∷◌, ◌++◌, Option, Some, true, false, refl, sym, ap, ◌∙◌}
use Rattle.std.proofs.lemmas.Bool.{true≢false}
use Rattle.std.proofs.lemmas.List.{append_cancel_left, append-nil}
use Rattle.tough_vault.specs.Journal.{Note, Noted, Root, Timestamp, Snapshot, Cleared, Document, Broken, Last, applied, replay, has_broken, has_cleared}

pub unbroken-front : (ns ms : List Note) → has_broken (ns ++ ms) ≡ false → has_broken ns ≡ false
unbroken-front [] ms h = refl
unbroken-front (Noted t ∷ ns) ms h = unbroken-front ns ms h
unbroken-front (Root v c ∷ ns) ms h = unbroken-front ns ms h
unbroken-front (Timestamp p o ∷ ns) ms h = unbroken-front ns ms h
unbroken-front (Snapshot r o ∷ ns) ms h = unbroken-front ns ms h
unbroken-front (Cleared ∷ ns) ms h = unbroken-front ns ms h
unbroken-front (Document d ∷ ns) ms h = unbroken-front ns ms h
unbroken-front (Broken ∷ ns) ms h = h

pub unbroken-behind : (ns ms : List Note) → has_broken (ns ++ ms) ≡ false → has_broken ms ≡ false
unbroken-behind [] ms h = h
unbroken-behind (Noted t ∷ ns) ms h = unbroken-behind ns ms h
unbroken-behind (Root v c ∷ ns) ms h = unbroken-behind ns ms h
unbroken-behind (Timestamp p o ∷ ns) ms h = unbroken-behind ns ms h
unbroken-behind (Snapshot r o ∷ ns) ms h = unbroken-behind ns ms h
unbroken-behind (Cleared ∷ ns) ms h = unbroken-behind ns ms h
unbroken-behind (Document d ∷ ns) ms h = unbroken-behind ns ms h
unbroken-behind (Broken ∷ ns) ms h = absurd (true≢false h)

pub uncleared-front : (ns ms : List Note) → has_cleared (ns ++ ms) ≡ false → has_cleared ns ≡ false
uncleared-front [] ms h = refl
uncleared-front (Noted t ∷ ns) ms h = uncleared-front ns ms h
uncleared-front (Root v true ∷ ns) ms h = h
uncleared-front (Root v false ∷ ns) ms h = uncleared-front ns ms h
uncleared-front (Timestamp p o ∷ ns) ms h = uncleared-front ns ms h
uncleared-front (Snapshot r o ∷ ns) ms h = uncleared-front ns ms h
uncleared-front (Cleared ∷ ns) ms h = h
uncleared-front (Document d ∷ ns) ms h = uncleared-front ns ms h
uncleared-front (Broken ∷ ns) ms h = uncleared-front ns ms h

pub uncleared-both : (ns ms : List Note) → has_cleared ns ≡ false → has_cleared ms ≡ false → has_cleared (ns ++ ms) ≡ false
uncleared-both [] ms h k = k
uncleared-both (Noted t ∷ ns) ms h k = uncleared-both ns ms h k
uncleared-both (Root v true ∷ ns) ms h k = h
uncleared-both (Root v false ∷ ns) ms h k = uncleared-both ns ms h k
uncleared-both (Timestamp p o ∷ ns) ms h k = uncleared-both ns ms h k
uncleared-both (Snapshot r o ∷ ns) ms h k = uncleared-both ns ms h k
uncleared-both (Cleared ∷ ns) ms h k = h
uncleared-both (Document d ∷ ns) ms h k = uncleared-both ns ms h k
uncleared-both (Broken ∷ ns) ms h k = uncleared-both ns ms h k

-- where the last entry cleared
pub cleared-last : (ns : List Note) (n : Note) → has_cleared (n ∷ []) ≡ true → has_cleared (ns ++ n ∷ []) ≡ true
cleared-last [] n h = h
cleared-last (Noted t ∷ ns) n h = cleared-last ns n h
cleared-last (Root v true ∷ ns) n h = refl
cleared-last (Root v false ∷ ns) n h = cleared-last ns n h
cleared-last (Timestamp p o ∷ ns) n h = cleared-last ns n h
cleared-last (Snapshot r o ∷ ns) n h = cleared-last ns n h
cleared-last (Cleared ∷ ns) n h = refl
cleared-last (Document d ∷ ns) n h = cleared-last ns n h
cleared-last (Broken ∷ ns) n h = cleared-last ns n h

pub replay-both : (tip : Last) (ns ms : List Note) → replay tip (ns ++ ms) ≡ replay (replay tip ns) ms
replay-both tip [] ms = refl
replay-both tip (n ∷ ns) ms = replay-both (applied tip n) ns ms

-- what was added, where one entry was, and where none was
pub one-added : (old new ms : List Note) (n : Note) → new ≡ old ++ n ∷ [] → new ≡ old ++ ms → ms ≡ n ∷ []
one-added old new ms n a b = append_cancel_left old ms (n ∷ []) (sym b ∙ a)

pub none-added : (old new ms : List Note) → new ≡ old → new ≡ old ++ ms → ms ≡ []
none-added old new ms a b = append_cancel_left old ms [] (sym b ∙ (a ∙ sym (append-nil old)))

-- what the later of two tips has, where the earlier one is behind it
pub timestamp-behind : (a b : Last) (ns : List Note) → ((p : _) → a.timestamp ≡ Some p → b.timestamp ≡ Some p) → (p : _) → (replay a ns).timestamp ≡ Some p → (replay b ns).timestamp ≡ Some p
timestamp-behind a b [] h p e = h p e
timestamp-behind a b (Noted t ∷ ns) h p e = timestamp-behind (applied a (Noted t)) (applied b (Noted t)) ns h p e
timestamp-behind a b (Root v true ∷ ns) h p e = timestamp-behind (applied a (Root v true)) (applied b (Root v true)) ns (λ r x. x) p e
timestamp-behind a b (Root v false ∷ ns) h p e = timestamp-behind (applied a (Root v false)) (applied b (Root v false)) ns h p e
timestamp-behind a b (Timestamp q o ∷ ns) h p e = timestamp-behind (applied a (Timestamp q o)) (applied b (Timestamp q o)) ns (λ r x. x) p e
timestamp-behind a b (Snapshot r o ∷ ns) h p e = timestamp-behind (applied a (Snapshot r o)) (applied b (Snapshot r o)) ns h p e
timestamp-behind a b (Cleared ∷ ns) h p e = timestamp-behind (applied a Cleared) (applied b Cleared) ns (λ r x. x) p e
timestamp-behind a b (Document d ∷ ns) h p e = timestamp-behind a b ns h p e
timestamp-behind a b (Broken ∷ ns) h p e = timestamp-behind a b ns h p e

pub snapshot-behind : (a b : Last) (ns : List Note) → ((p : _) → a.snapshot ≡ Some p → b.snapshot ≡ Some p) → (p : _) → (replay a ns).snapshot ≡ Some p → (replay b ns).snapshot ≡ Some p
snapshot-behind a b [] h p e = h p e
snapshot-behind a b (Noted t ∷ ns) h p e = snapshot-behind (applied a (Noted t)) (applied b (Noted t)) ns h p e
snapshot-behind a b (Root v true ∷ ns) h p e = snapshot-behind (applied a (Root v true)) (applied b (Root v true)) ns (λ q x. x) p e
snapshot-behind a b (Root v false ∷ ns) h p e = snapshot-behind (applied a (Root v false)) (applied b (Root v false)) ns h p e
snapshot-behind a b (Timestamp q o ∷ ns) h p e = snapshot-behind (applied a (Timestamp q o)) (applied b (Timestamp q o)) ns h p e
snapshot-behind a b (Snapshot r o ∷ ns) h p e = snapshot-behind (applied a (Snapshot r o)) (applied b (Snapshot r o)) ns (λ q x. x) p e
snapshot-behind a b (Cleared ∷ ns) h p e = snapshot-behind (applied a Cleared) (applied b Cleared) ns (λ q x. x) p e
snapshot-behind a b (Document d ∷ ns) h p e = snapshot-behind a b ns h p e
snapshot-behind a b (Broken ∷ ns) h p e = snapshot-behind a b ns h p e

pub time-behind : (a b : Last) (ns : List Note) → ((p : _) → a.time ≡ Some p → b.time ≡ Some p) → (p : _) → (replay a ns).time ≡ Some p → (replay b ns).time ≡ Some p
time-behind a b [] h p e = h p e
time-behind a b (Noted t ∷ ns) h p e = time-behind (applied a (Noted t)) (applied b (Noted t)) ns (λ r x. x) p e
time-behind a b (Root v c ∷ ns) h p e = time-behind (applied a (Root v c)) (applied b (Root v c)) ns h p e
time-behind a b (Timestamp q o ∷ ns) h p e = time-behind (applied a (Timestamp q o)) (applied b (Timestamp q o)) ns h p e
time-behind a b (Snapshot r o ∷ ns) h p e = time-behind (applied a (Snapshot r o)) (applied b (Snapshot r o)) ns h p e
time-behind a b (Cleared ∷ ns) h p e = time-behind (applied a Cleared) (applied b Cleared) ns h p e
time-behind a b (Document d ∷ ns) h p e = time-behind a b ns h p e
time-behind a b (Broken ∷ ns) h p e = time-behind a b ns h p e
