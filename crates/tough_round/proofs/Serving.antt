-- The files of a repository, each under its name.
use Rattle.std.proofs.Common.{◌≡◌, ◌≢◌, ℕ, ◌+◌, ◌^◌, ◌<◌, ◌≤◌, List, [], ◌∷◌, ◌++◌, map, Bool, true, false, cond, Some, None, inl, inr, codes, decimal, refl, sym, ap, ◌∙◌, subst, arith, append_assoc}
use Rattle.std.proofs.lemmas.List.{append_cancel_right}
use Rattle.std.specs.List.{AllByRecursion}
use Rattle.std.specs.Map.{lookup}
use Rattle.std.specs.Char.{digit_value}
use Rattle.std.specs.Str.{bytes_eq}
use Rattle.tough_roles.specs.Names.{versioned, file_name}
use Rattle.tough_roles.specs.Reaches.{IsAmong}
use Rattle.tough_round.proofs.Names.{same-bytes, unequal, apart, versioned-is, same-versioned, not-lettered}

-- ---- lists

pub among-all : {X : Type 0} (P : X → Type 0) (e : X) (es : List X) → AllByRecursion P es → IsAmong e es → P e
among-all P e [] a h = absurd h
among-all P e (f ∷ fs) a (inl h) = subst P h a.0
among-all P e (f ∷ fs) a (inr h) = among-all P e fs a.1 h

pub map-all : {X : Type 0} (P Q : X → Type 0) (es : List X) → ((e : X) → P e → Q e) → AllByRecursion P es → AllByRecursion Q es
map-all P Q [] f a = tt
map-all P Q (e ∷ es) f a = (f e a.0, map-all P Q es f a.1)

pub all-mapped : {X Y : Type 0} (f : X → Y) (P : Y → Type 0) (es : List X) → ((e : X) → IsAmong e es → P (f e)) → AllByRecursion P (map f es)
all-mapped f P [] h = tt
all-mapped f P (e ∷ es) h = (h e (inl refl), all-mapped f P es (λ x i. h x (inr i)))

-- no name stands twice
abbrev pub AreDistinct : {D : Type 0} → (D → List ℕ) → List D → Type 0
AreDistinct name [] = Unit {0}
AreDistinct name (d ∷ ds) = AllByRecursion (λ x. name x ≡ name d → ⊥) ds × AreDistinct name ds

-- ---- lookups

pub skip : {X : Type 0} (k : List ℕ) (x : List ℕ × X) (xs : List (List ℕ × X)) → (k ≡ x.0 → ⊥) → lookup (bytes_eq k) (x ∷ xs) ≡ lookup (bytes_eq k) xs
skip k x xs h = ap (λ b. cond b (Some x.1) (lookup (bytes_eq k) xs)) (apart k x.0 h)

pub here : {X : Type 0} (k : List ℕ) (x : List ℕ × X) (xs : List (List ℕ × X)) → k ≡ x.0 → lookup (bytes_eq k) (x ∷ xs) ≡ Some x.1
here k x xs h = ap (λ b. cond b (Some x.1) (lookup (bytes_eq k) xs)) (same-bytes k x.0 h)

-- ---- names

-- how the names of roles are escaped
pub record Encodes (IsName : List ℕ → Type 0) (enc : List ℕ → List ℕ) : Type 0 where
  pub apart : (a b : List ℕ) → IsName a → IsName b → enc a ≡ enc b → a ≡ b
  pub root : IsName (codes "root") × (enc (codes "root") ≡ codes "root")
  pub targets : IsName (codes "targets") × (enc (codes "targets") ≡ codes "targets")
  pub snapshot : IsName (codes "snapshot") × (enc (codes "snapshot") ≡ codes "snapshot")
  pub timestamp : IsName (codes "timestamp") × (enc (codes "timestamp") ≡ codes "timestamp")
  pub rooted : (n : ℕ) → n < 10 ^ 64 → IsName (decimal n ++ codes ".root") × (enc (decimal n ++ codes ".root") ≡ decimal n ++ codes ".root")

-- a name that a role has, none of those of the other files
pub record IsRole (IsName : List ℕ → Type 0) (name : List ℕ) : Type 0 where
  pub text : IsName name
  pub root : name ≢ codes "root"
  pub targets : name ≢ codes "targets"
  pub snapshot : name ≢ codes "snapshot"
  pub timestamp : name ≢ codes "timestamp"
  pub tail : (m : List ℕ) → name ≢ m ++ codes ".root"

abbrev dot_json : List ℕ → List ℕ
dot_json name = name ++ codes ".json"

module _ (IsName : List ℕ → Type 0) (enc : List ℕ → List ℕ) (en : Encodes IsName enc) where
  not_role : (n other : List ℕ) → IsName n → IsName other → enc other ≡ other → n ≢ other → dot_json (enc n) ≡ dot_json other → ⊥
  not_role n other a b e differs h = differs (en.apart n other a b (append_cancel_right (enc n) other (codes ".json") h ∙ sym e))

  not_rooted : (n : List ℕ) (v : ℕ) → v < 10 ^ 64 → IsRole IsName n → dot_json (enc n) ≡ versioned v (codes "root.json") → ⊥
  not_rooted n v small ok h =
      let whole : versioned v (codes "root.json") ≡ dot_json (decimal v ++ codes ".root") = versioned-is v (codes "root.json") ∙ sym (append_assoc (decimal v) (codes ".root") (codes ".json")) in
      let r = en.rooted v small in
      ok.tail (decimal v) (en.apart n (decimal v ++ codes ".root") ok.text r.0 (append_cancel_right (enc n) (decimal v ++ codes ".root") (codes ".json") (h ∙ whole) ∙ sym r.1))

  -- a role's file isn't a root's
  role_not_root : (c : Bool) (n : List ℕ) (w v : ℕ) → IsRole IsName n → w < 10 ^ 64 → v < 10 ^ 64 → file_name c w (dot_json (enc n)) ≡ versioned v (codes "root.json") → ⊥
  role_not_root true n w v ok s sv h = not_role n (codes "root") ok.text en.root.0 en.root.1 ok.root (same-versioned w v (dot_json (enc n)) (codes "root.json") s sv h).1
  role_not_root false n w v ok s sv h = not_rooted n v sv ok h

  role_not_timestamp : (c : Bool) (n : List ℕ) (w : ℕ) → IsRole IsName n → w < 10 ^ 64 → file_name c w (dot_json (enc n)) ≡ codes "timestamp.json" → ⊥
  role_not_timestamp true n w ok s h = not-lettered w (dot_json (enc n)) (codes "timestamp.json") 116 (codes "imestamp.json") refl s (omega arith) (omega arith) h
  role_not_timestamp false n w ok s h = not_role n (codes "timestamp") ok.text en.timestamp.0 en.timestamp.1 ok.timestamp h

  -- nor that of another role's name
  role_not_other : (c : Bool) (n other : List ℕ) (w v : ℕ) → IsName n → IsName other → enc other ≡ other → n ≢ other → w < 10 ^ 64 → v < 10 ^ 64 → file_name c w (dot_json (enc n)) ≡ file_name c v (dot_json other) → ⊥
  role_not_other true n other w v a b x differs s sv h = not_role n other a b x differs (same-versioned w v (dot_json (enc n)) (dot_json other) s sv h).1
  role_not_other false n other w v a b x differs s sv h = not_role n other a b x differs h

  same_role : (c : Bool) (n m : List ℕ) (w v : ℕ) → IsName n → IsName m → w < 10 ^ 64 → v < 10 ^ 64 → file_name c w (dot_json (enc n)) ≡ file_name c v (dot_json (enc m)) → n ≡ m
  same_role true n m w v a b s t h = en.apart n m a b (append_cancel_right (enc n) (enc m) (codes ".json") (same-versioned w v (dot_json (enc n)) (dot_json (enc m)) s t h).1)
  same_role false n m w v a b s t h = en.apart n m a b (append_cancel_right (enc n) (enc m) (codes ".json") h)

-- a root's file is none of the others
root-apart : (c : Bool) (v w : ℕ) (other : List ℕ) (a : ℕ) (rest : List ℕ) → other ≡ a ∷ rest → 114 < a → 10 ≤ digit_value a → v < 10 ^ 64 → w < 10 ^ 64 → versioned v (codes "root.json") ≡ file_name c w other → ⊥
root-apart true v w other a rest is above letter s t h =
    let e : codes "root.json" ≡ a ∷ rest = (same-versioned v w (codes "root.json") other s t h).1 ∙ is in
    let same : 114 ≡ a = cc in omega (arith, same, above)
root-apart false v w other a rest is above letter s t h = not-lettered v (codes "root.json") other a rest is s letter (omega (arith, above)) h

timestamp-apart : (c : Bool) (w : ℕ) (other : List ℕ) → (codes "timestamp.json" ≡ other → ⊥) → w < 10 ^ 64 → codes "timestamp.json" ≡ file_name c w other → ⊥
timestamp-apart true w other differs t h = not-lettered w other (codes "timestamp.json") 116 (codes "imestamp.json") refl t (omega arith) (omega arith) (sym h)
timestamp-apart false w other differs t h = differs h

both-apart : (c : Bool) (v w : ℕ) → v < 10 ^ 64 → w < 10 ^ 64 → file_name c v (codes "snapshot.json") ≡ file_name c w (codes "targets.json") → ⊥
both-apart true v w s t h = unequal (codes "snapshot.json") (codes "targets.json") refl (same-versioned v w (codes "snapshot.json") (codes "targets.json") s t h).1
both-apart false v w s t h = unequal (codes "snapshot.json") (codes "targets.json") refl h

-- ---- files

-- a file's version and its bytes
pub record Page : Type 0 where
  pub version : ℕ
  pub bytes : List ℕ

-- what is written, by whether snapshots are consistent; a role's document is seen by its name and its page
pub record Repo (D : Type 0) : Type 0 where
  pub consistent : Bool
  pub root : Page
  pub targets : Page
  pub snapshot : Page
  pub timestamp : Page
  pub roles : List D

module _ {D : Type 0} (IsName : List ℕ → Type 0) (enc : List ℕ → List ℕ) (name : D → List ℕ) (page : D → Page) where
  abbrev pub entry_of : Bool → D → List ℕ × List ℕ
  entry_of c d = (file_name c (page d).version (dot_json (enc (name d))), (page d).bytes)

  abbrev pub files_in : Repo D → List (List ℕ × List ℕ)
  files_in r =
      (versioned r.root.version (codes "root.json"), r.root.bytes)
      ∷ (file_name r.consistent r.targets.version (codes "targets.json"), r.targets.bytes)
      ∷ (file_name r.consistent r.snapshot.version (codes "snapshot.json"), r.snapshot.bytes)
      ∷ (codes "timestamp.json", r.timestamp.bytes)
      ∷ map (entry_of r.consistent) r.roles

  abbrev pub IsOk : D → Type 0
  IsOk d = IsRole IsName (name d) × ((page d).version < 10 ^ 64)

  pub record IsProper (r : Repo D) : Type 0 where
    pub names : AllByRecursion IsOk r.roles
    pub once : AreDistinct name r.roles
    pub root : r.root.version + 1 < 10 ^ 64
    pub targets : r.targets.version < 10 ^ 64
    pub snapshot : r.snapshot.version < 10 ^ 64

  -- each file is found under its name, and none under that of the next root
  pub record IsServed (r : Repo D) : Type 0 where
    pub root : lookup (bytes_eq (versioned r.root.version (codes "root.json"))) (files_in r) ≡ Some r.root.bytes
    pub next : lookup (bytes_eq (versioned (r.root.version + 1) (codes "root.json"))) (files_in r) ≡ None
    pub timestamp : lookup (bytes_eq (codes "timestamp.json")) (files_in r) ≡ Some r.timestamp.bytes
    pub snapshot : lookup (bytes_eq (file_name r.consistent r.snapshot.version (codes "snapshot.json"))) (files_in r) ≡ Some r.snapshot.bytes
    pub targets : lookup (bytes_eq (file_name r.consistent r.targets.version (codes "targets.json"))) (files_in r) ≡ Some r.targets.bytes
    pub roles : (d : D) → IsAmong d r.roles → lookup (bytes_eq (entry_of r.consistent d).0) (files_in r) ≡ Some (page d).bytes

  module _ (en : Encodes IsName enc) (r : Repo D) (ok : IsProper r) where
    abbrev file : D → List ℕ
    file d = (entry_of r.consistent d).0

    none_of : (k : List ℕ) (ds : List D) → AllByRecursion (λ d. file d ≡ k → ⊥) ds → lookup (bytes_eq k) (map (entry_of r.consistent) ds) ≡ None
    none_of k [] a = refl
    none_of k (d ∷ ds) a = skip k (entry_of r.consistent d) (map (entry_of r.consistent) ds) (λ h. a.0 (sym h)) ∙ none_of k ds a.1

    has : (d : D) (ds : List D) → IsAmong d ds → AllByRecursion IsOk ds → AreDistinct name ds → IsOk d → lookup (bytes_eq (file d)) (map (entry_of r.consistent) ds) ≡ Some (page d).bytes
    has d [] h a once p = absurd h
    has d (x ∷ xs) (inl h) a once p = here (file d) (entry_of r.consistent x) (map (entry_of r.consistent) xs) (ap file (sym h)) ∙ ap (λ y. Some (page y).bytes) h
    has d (x ∷ xs) (inr h) a once p =
        skip (file d) (entry_of r.consistent x) (map (entry_of r.consistent) xs)
        (λ k. among-all (λ y. name y ≡ name x → ⊥) d xs once.0 h (same_role IsName enc en r.consistent (name d) (name x) (page d).version (page x).version p.0.text a.0.0.text p.1 a.0.1 k))
        ∙ has d xs h a.1 once.1 p

    abbrev root_name : List ℕ
    root_name = versioned r.root.version (codes "root.json")

    abbrev targets_name : List ℕ
    targets_name = file_name r.consistent r.targets.version (codes "targets.json")

    abbrev snapshot_name : List ℕ
    snapshot_name = file_name r.consistent r.snapshot.version (codes "snapshot.json")

    root_not_targets : (v : ℕ) → v < 10 ^ 64 → versioned v (codes "root.json") ≡ targets_name → ⊥
    root_not_targets v s h = root-apart r.consistent v r.targets.version (codes "targets.json") 116 (codes "argets.json") refl (omega arith) (omega arith) s ok.targets h

    root_not_snapshot : (v : ℕ) → v < 10 ^ 64 → versioned v (codes "root.json") ≡ snapshot_name → ⊥
    root_not_snapshot v s h = root-apart r.consistent v r.snapshot.version (codes "snapshot.json") 115 (codes "napshot.json") refl (omega arith) (omega arith) s ok.snapshot h

    root_not_timestamp : (v : ℕ) → v < 10 ^ 64 → versioned v (codes "root.json") ≡ codes "timestamp.json" → ⊥
    root_not_timestamp v s h = not-lettered v (codes "root.json") (codes "timestamp.json") 116 (codes "imestamp.json") refl s (omega arith) (omega arith) h

    timestamp_not_targets : codes "timestamp.json" ≡ targets_name → ⊥
    timestamp_not_targets h = timestamp-apart r.consistent r.targets.version (codes "targets.json") (unequal (codes "timestamp.json") (codes "targets.json") refl) ok.targets h

    timestamp_not_snapshot : codes "timestamp.json" ≡ snapshot_name → ⊥
    timestamp_not_snapshot h = timestamp-apart r.consistent r.snapshot.version (codes "snapshot.json") (unequal (codes "timestamp.json") (codes "snapshot.json") refl) ok.snapshot h

    snapshot_not_targets : snapshot_name ≡ targets_name → ⊥
    snapshot_not_targets h = both-apart r.consistent r.snapshot.version r.targets.version ok.snapshot ok.targets h

    root_small : r.root.version < 10 ^ 64
    root_small = let h = ok.root in omega (arith, h)

    no_root : (v : ℕ) → v < 10 ^ 64 → AllByRecursion (λ d. file d ≡ versioned v (codes "root.json") → ⊥) r.roles
    no_root v s = map-all IsOk (λ d. file d ≡ versioned v (codes "root.json") → ⊥) r.roles (λ d p h. role_not_root IsName enc en r.consistent (name d) (page d).version v p.0 p.1 s h) ok.names

    abbrev after_snapshot : List (List ℕ × List ℕ)
    after_snapshot = (codes "timestamp.json", r.timestamp.bytes) ∷ map (entry_of r.consistent) r.roles

    abbrev after_targets : List (List ℕ × List ℕ)
    after_targets = (snapshot_name, r.snapshot.bytes) ∷ after_snapshot

    abbrev after_root : List (List ℕ × List ℕ)
    after_root = (targets_name, r.targets.bytes) ∷ after_targets

    next_none : lookup (bytes_eq (versioned (r.root.version + 1) (codes "root.json"))) (files_in r) ≡ None
    next_none =
        let v = r.root.version + 1 in
        let k = versioned v (codes "root.json") in
        skip k (root_name, r.root.bytes) after_root (λ h. let same : v ≡ r.root.version = (same-versioned v r.root.version (codes "root.json") (codes "root.json") ok.root root_small h).0 in omega (arith, same))
        ∙ (skip k (targets_name, r.targets.bytes) after_targets (root_not_targets v ok.root)
        ∙ (skip k (snapshot_name, r.snapshot.bytes) after_snapshot (root_not_snapshot v ok.root)
        ∙ (skip k (codes "timestamp.json", r.timestamp.bytes) (map (entry_of r.consistent) r.roles) (root_not_timestamp v ok.root)
        ∙ none_of k r.roles (no_root v ok.root))))

    role_served : (d : D) → IsAmong d r.roles → lookup (bytes_eq (file d)) (files_in r) ≡ Some (page d).bytes
    role_served d i =
        let p : IsOk d = among-all IsOk d r.roles ok.names i in
        let k = file d in
        let w = (page d).version in
        skip k (root_name, r.root.bytes) after_root (role_not_root IsName enc en r.consistent (name d) w r.root.version p.0 p.1 root_small)
        ∙ (skip k (targets_name, r.targets.bytes) after_targets (role_not_other IsName enc en r.consistent (name d) (codes "targets") w r.targets.version p.0.text en.targets.0 en.targets.1 p.0.targets p.1 ok.targets)
        ∙ (skip k (snapshot_name, r.snapshot.bytes) after_snapshot (role_not_other IsName enc en r.consistent (name d) (codes "snapshot") w r.snapshot.version p.0.text en.snapshot.0 en.snapshot.1 p.0.snapshot p.1 ok.snapshot)
        ∙ (skip k (codes "timestamp.json", r.timestamp.bytes) (map (entry_of r.consistent) r.roles) (role_not_timestamp IsName enc en r.consistent (name d) w p.0 p.1)
        ∙ has d r.roles i ok.names ok.once p)))

    pub served : IsServed r
    served = record {
      root = here root_name (root_name, r.root.bytes) after_root refl;
      next = next_none;
      timestamp =
          skip (codes "timestamp.json") (root_name, r.root.bytes) after_root (λ h. root_not_timestamp r.root.version root_small (sym h))
          ∙ (skip (codes "timestamp.json") (targets_name, r.targets.bytes) after_targets timestamp_not_targets
          ∙ (skip (codes "timestamp.json") (snapshot_name, r.snapshot.bytes) after_snapshot timestamp_not_snapshot
          ∙ here (codes "timestamp.json") (codes "timestamp.json", r.timestamp.bytes) (map (entry_of r.consistent) r.roles) refl));
      snapshot =
          skip snapshot_name (root_name, r.root.bytes) after_root (λ h. root_not_snapshot r.root.version root_small (sym h))
          ∙ (skip snapshot_name (targets_name, r.targets.bytes) after_targets snapshot_not_targets
          ∙ here snapshot_name (snapshot_name, r.snapshot.bytes) after_snapshot refl);
      targets =
          skip targets_name (root_name, r.root.bytes) after_root (λ h. root_not_targets r.root.version root_small (sym h))
          ∙ here targets_name (targets_name, r.targets.bytes) after_targets refl;
      roles = role_served;
    }
