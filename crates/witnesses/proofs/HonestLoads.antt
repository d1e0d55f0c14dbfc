-- A loadable repository whose files are in memory has what `honest_loads` asks.
use Rattle.std.proofs.Common.{◌≡◌, ◌<◌, ◌+◌, ℕ, ℤ, List, [], ◌∷◌, length, Option, Some, None, Result, Ok, Err, Bool, true, false, codes, refl, sym, ap, subst, ◌∙◌, inl, inr, arith}
use Rattle.std.specs.Prelude.{◌⊎◌, ◌^◌}
use Rattle.std.specs.Fmt.{digits}
use Rattle.url.specs.Parts.{Parts, serialize}
use Rattle.url.specs.Parser.{Parsed, parse_url}
use Rattle.tough_keys.specs.Demo.{demo_verifies}
use Rattle.tough_roles.specs.Names.{versioned, file_name}
use Rattle.tough_net.specs.Errors.{IsMemory, error_kind}
use Rattle.tough_net.specs.Items.{Item}
use Rattle.tough_net.specs.MemoryFiles.{file_at, CutsFile, RefusesFile}
use Rattle.tough_net.specs.declared.error.TransportError.{TransportError}
use Rattle.tough_net.specs.declared.error.TransportErrorKind.TheVariants.{FileNotFound}
use Rattle.tough_net.specs.declared.limits.Limits.{Limits}
use Rattle.tough_net.specs.declared.memory.MemoryTransport.{MemoryTransport}
use Rattle.tough_vault.specs.Memory.{memory_files}
use Rattle.tough_vault.specs.Vault.{parts_of, store_of, tip_in}
use Rattle.tough_vault.specs.Journal.{Last, no_tip}
use Rattle.tough_vault.specs.declared.memory.MemoryStore.{MemoryStore}
use Rattle.tough_vault.specs.declared.vault.Vault.{Vault}
use Rattle.tough_checks.specs.Files.{time_file, root_file, timestamp_file, snapshot_file}
use Rattle.std.specs.Prelude.{IfOk}
use Rattle.tough_trust.specs.Failure.{Failure}
use Rattle.tough_trust.specs.Requests.{RequestDoc, root_request, timestamp_request, snapshot_request, targets_request}
use Rattle.tough_update.specs.Answered.{AnswerDoc}
use Rattle.tough_update.specs.Loadable.{Files, AllHonest, Loadable}
use Rattle.tough_update.specs.Machine.{question}
use Rattle.tough_update.specs.Questions.{Fetch}
use Rattle.tough_update.specs.Runs.{run}
use Rattle.tough_update.specs.Stages.{CoreDoc, LoadedDoc, SettingDoc, Moment}
use Rattle.tough_load.specs.Loader.{IsBegun, first_core, settings_of, default_limits, transport_of, clock_of, keeper_of}
use Rattle.tough_load.specs.Words as part
use Rattle.tough_honest.specs.Fresh.{Untouched, IsFineOutcome}
use Rattle.tough_honest.specs.Loads.{LoadsAt}
use Rattle.tough_honest.specs.Serves.{ServesName}
use Rattle.tough_net.specs.Urls.{with_slash}
use Rattle.witnesses.specs.Served.{Repository, files_of, setting_of, HasLoadable}
use Rattle.witnesses.specs.Devices.{memory_refuses, memory_serves, fixed_gives, store_ghosts, MemoryLoader, MemoryLoad, MemoryFinishes, IsAt, ServesFile, ServesFour, HasHonestLoad}
use Rattle.witnesses.proofs.Asking.{IsNamed, asks-moment}

-- ---- a file in memory is served

refused-so : (file : Option (List ℕ)) (url : List ℕ) (e : TransportError) → RefusesFile file url e → IsMemory e ⊎ ((file ≡ None) × (error_kind e ≡ FileNotFound))
refused-so file url e (inl h) = inl h
refused-so file url e (inr h) = inr (h.0, h.1)

pub serves-file : (t : MemoryTransport) (base : Parts) (name : List ℕ) (url : Parts) (file : Option (List ℕ)) → IsAt base name url → file_at t (serialize url) ≡ file → ServesFile t base name file
serves-file t base name url file at is = record {
  url = url;
  joined = at.joined;
  short = at.short;
  refused = λ e h. refused-so file (serialize url) e (subst (λ (x : Option (List ℕ)). RefusesFile x (serialize url) e) is h);
  served = λ xs last h. subst (λ (x : Option (List ℕ)). CutsFile x xs last) is h;
}

-- ---- each file that is asked for is

module _ (t : MemoryTransport) (base : Parts) (limits : Limits) (f : Repository) (start : ℤ) (h : HasLoadable demo_verifies start limits f) (there : ServesFour t base f) where
  abbrev At : List ℕ → Type 0
  At name = ServesFile t base name (files_of f name)

  at-root : (version : ℕ) → version ≡ 1 → At (versioned (version + 1) (codes "root.json"))
  unfolding digits
  at-root version is = subst (λ n. At (versioned (n + 1) (codes "root.json"))) (sym is) there.root

  at-snapshot : (consistent : Bool) (version : ℕ) → consistent ≡ false → At (file_name consistent version (codes "snapshot.json"))
  at-snapshot consistent version is = subst (λ c. At (file_name c version (codes "snapshot.json"))) (sym is) there.snapshot

  at-targets : (consistent : Bool) (version : ℕ) → consistent ≡ false → At (file_name consistent version (codes "targets.json"))
  at-targets consistent version is = subst (λ c. At (file_name c version (codes "targets.json"))) (sym is) there.targets

  named : (q r : RequestDoc) → r ≡ q → At q.name → At r.name
  named q r is x = subst (λ (y : RequestDoc). At y.name) (sym is) x

  served : (r : RequestDoc) → IsNamed demo_verifies (files_of f) (setting_of limits f) h.l h.able r → At r.name
  served r (inl is) = named (root_request limits (h.l.known.root.role.head.version + 1)) r is (at-root h.l.known.root.role.head.version h.first)
  served r (inr (inl is)) = named (timestamp_request limits) r is there.timestamp
  served r (inr (inr (inl is))) = named (snapshot_request limits h.l.known.root.role.consistent_snapshot h.able.entry) r is (at-snapshot h.l.known.root.role.consistent_snapshot h.able.entry.version h.plain)
  served r (inr (inr (inr is))) = named (targets_request limits h.l.known.root.role.consistent_snapshot h.able.targets_entry) r is (at-targets h.l.known.root.role.consistent_snapshot h.able.targets_entry.version h.plain)

  abbrev first : CoreDoc
  first = record { setting = setting_of limits f; stage = Moment }

  pub loads-at : LoadsAt memory_refuses memory_serves demo_verifies base t first (files_of f) start h.l
  loads-at = record {
    start = h.begins;
    loadable = h.able;
    served = λ before r honest asked.
        served r (asks-moment demo_verifies (files_of f) (setting_of limits f) h.l h.able h.alone before r
        (subst (λ (now : ℤ). AllHonest demo_verifies (files_of f) now first before) (sym h.begins) honest) asked);
  }

-- ---- the whole

same-setting : (a b : List ℕ) (l m : Limits) (x y v w : Bool) → a ≡ b → l ≡ m → x ≡ y → v ≡ w
    → (let p : SettingDoc = record { trusted = a; limits = l; enforced = x; whole = v } in p) ≡ (let q : SettingDoc = record { trusted = b; limits = m; enforced = y; whole = w } in q)
same-setting a b l m x y v w e f g h =
    ap (λ (t : List ℕ). let p : SettingDoc = record { trusted = t; limits = l; enforced = x; whole = v } in p) e
    ∙ (ap (λ (t : Limits). let p : SettingDoc = record { trusted = b; limits = t; enforced = x; whole = v } in p) f
    ∙ (ap (λ (t : Bool). let p : SettingDoc = record { trusted = b; limits = m; enforced = t; whole = v } in p) g
    ∙ ap (λ (t : Bool). let p : SettingDoc = record { trusted = b; limits = m; enforced = y; whole = t } in p) h))

same-ok : (u w : Parts) (o : Parsed Parts) → o ≡ Ok u → o ≡ Ok w → w ≡ u
same-ok u w o h k = cc

pub has-honest-load : (f : Repository) (start : ℤ) (base : Parts) (loader : MemoryLoader) (load ended : MemoryLoad) (outcome : Result LoadedDoc Failure) → HasLoadable demo_verifies start default_limits f
    → ServesFour (transport_of loader) base f → with_slash (settings_of loader).metadata_base ≡ Ok base → (settings_of loader).root ≡ f.trusted → (settings_of loader).limits ≡ default_limits → (settings_of loader).enforced ≡ true → (settings_of loader).whole ≡ true
    → fixed_gives (clock_of loader) start → Untouched memory_files 0 (parts_of (keeper_of loader).now) → IsBegun loader load → MemoryFinishes load outcome ended → IsFineOutcome outcome → HasHonestLoad start
has-honest-load f start base loader load ended outcome h there slash trusted limits enforced whole shows untouched begun finishes fine =
    let at = loads-at (transport_of loader) base default_limits f start h there in
    let setting = same-setting f.trusted (settings_of loader).root default_limits (settings_of loader).limits true (settings_of loader).enforced true (settings_of loader).whole (sym trusted) (sym limits) (sym enforced) (sym whole) in
    let here : part.base_of load ≡ base = same-ok base (part.base_of load) (with_slash (settings_of loader).metadata_base) slash begun.base in
    record {
      loader = loader;
      load = load;
      ended = ended;
      files = files_of f;
      d = λ now. h.l;
      outcome = outcome;
      begun = begun;
      untouched = untouched;
      shows = shows;
      able = λ now shown.
          let is : now ≡ start = shown ∙ sym shows in
          subst (λ (m : ℤ). LoadsAt memory_refuses memory_serves demo_verifies (part.base_of load) (transport_of loader) (first_core (settings_of loader)) (files_of f) m h.l) (sym is)
          (subst (λ (b : Parts). LoadsAt memory_refuses memory_serves demo_verifies b (transport_of loader) (first_core (settings_of loader)) (files_of f) start h.l) (sym here)
          (subst (λ (s : SettingDoc). LoadsAt memory_refuses memory_serves demo_verifies base (transport_of loader) (record { setting = s; stage = Moment }) (files_of f) start h.l) setting at));
      finishes = finishes;
      fine = fine;
    }

pub serves-four : {E : Type 0} (r : Result MemoryTransport E) (base : Parts) (f : Repository) (none first second third : Parts) → IsAt base (codes "2.root.json") none → IsAt base (codes "timestamp.json") first → IsAt base (codes "snapshot.json") second
    → IsAt base (codes "targets.json") third → IfOk r (λ t. file_at t (serialize none) ≡ None) → IfOk r (λ t. file_at t (serialize first) ≡ Some f.timestamp) → IfOk r (λ t. file_at t (serialize second) ≡ Some f.snapshot)
    → IfOk r (λ t. file_at t (serialize third) ≡ Some f.targets) → IfOk r (λ t. ServesFour t base f)
serves-four (Ok t) base f u w x y a b c d p q r s = record {
  root = serves-file t base (codes "2.root.json") u None a p;
  timestamp = serves-file t base (codes "timestamp.json") w (Some f.timestamp) b q;
  snapshot = serves-file t base (codes "snapshot.json") x (Some f.snapshot) c r;
  targets = serves-file t base (codes "targets.json") y (Some f.targets) d s;
}
serves-four (Err e) base f u w x y a b c d p q r s = tt

pub untouched-of : (v : Vault MemoryStore store_ghosts) (m : MemoryStore) → store_of v ≡ m → tip_in v ≡ no_tip → ((name : List ℕ) → memory_files m name ≡ None) → Untouched memory_files 0 (parts_of v)
untouched-of v m store tip none = record {
  time = λ lt. (ap (λ (s : MemoryStore). memory_files s time_file) store ∙ none time_file, ap (λ (l : Last). l.time) tip);
  root = λ lt. (ap (λ (s : MemoryStore). memory_files s root_file) store ∙ none root_file, ap (λ (l : Last). l.root) tip);
  timestamp = λ lt. (ap (λ (s : MemoryStore). memory_files s timestamp_file) store ∙ none timestamp_file, ap (λ (l : Last). l.timestamp) tip);
  snapshot = λ lt. (ap (λ (s : MemoryStore). memory_files s snapshot_file) store ∙ none snapshot_file, ap (λ (l : Last). l.snapshot) tip);
}
