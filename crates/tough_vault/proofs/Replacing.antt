-- What a store that tells nothing of its files does, by the count of its failures.
use Rattle.std.specs.Prelude.{◌≡◌, ℕ, List, None, Result, Ok, Err, IsErrOf, false, true}
use Rattle.std.proofs.Common.{refl, sym, subst, ap, ◌∙◌}
use Rattle.tough_vault.specs.Folder.{no_files, store_failures}
use Rattle.tough_vault.specs.Replacing.{Fills, Removes, FillsAndRemoves, Replaces, count_after, failures_after}
use Rattle.tough_vault.specs.Stored.{Files, HasCause}
use Rattle.tough_vault.specs.declared.folder.DirStore.{DirStore}
use Rattle.tough_vault.specs.declared.store.Replaced.{Replaced}
use Rattle.tough_vault.specs.declared.store.Replaced.TheVariants.{Unwritten, Written}
use Rattle.tough_vault.specs.declared.store.StoreError.{StoreError}
use Rattle.tough_vault.specs.declared.store.StoreError.TheVariants.{Failed, Memory}

pub cause-after : (before now : ℕ) (outcome : Result Unit StoreError) → HasCause before now outcome → now ≡ count_after outcome before
cause-after before now (Ok u) h = h.quiet (λ x. absurd (cc (x)))
cause-after before now (Err Failed) h = h.failed refl
cause-after before now (Err Memory) h = h.quiet (λ x. absurd (cc (x)))

after-cause : (before : ℕ) (outcome : Result Unit StoreError) → HasCause before (count_after outcome before) outcome
after-cause before (Ok u) = record { failed = λ x. absurd (cc (x)); quiet = λ x. refl }
after-cause before (Err Failed) = record { failed = λ x. refl; quiet = λ x. absurd (x refl) }
after-cause before (Err Memory) = record { failed = λ x. absurd (cc (x)); quiet = λ x. refl }

untold : {A : Type 0} → false ≡ true → A
untold h = absurd (cc (h))

module _ {R : Type 0} where
  fills : (file bytes : List ℕ) (old new : DirStore R) (outcome : Result Unit StoreError) → HasCause (store_failures old) (store_failures new) outcome
      → Fills false no_files store_failures file bytes old new outcome
  fills file bytes old new (Ok u) h = record { written = λ t. untold t; elsewhere = λ t. untold t; memory = λ x. absurd (cc (x)); cause = h }
  fills file bytes old new (Err e) h = record { written = tt; elsewhere = λ t. untold t; memory = λ x t. untold t; cause = h }

  removes : (file : List ℕ) (old new : DirStore R) (outcome : Result Unit StoreError) → HasCause (store_failures old) (store_failures new) outcome → Removes false no_files store_failures file old new outcome
  removes file old new (Ok u) h = record { removed = λ t. untold t; elsewhere = λ t. untold t; memory = λ x. absurd (cc (x)); cause = h }
  removes file old new (Err e) h = record { removed = tt; elsewhere = λ t. untold t; memory = λ x t. untold t; cause = h }

  -- the same store, with so many failures
  abbrev counting : ℕ → DirStore R → DirStore R
  counting n s = record { rt = s.rt; folder = s.folder; failures = n; fault = s.fault; removals = s.removals; changes = s.changes; held = s.held }

  pub replaces-by : (file bytes first second : List ℕ) (old new : DirStore R) (result : Replaced) → store_failures new ≡ failures_after result (store_failures old)
      → Replaces false no_files store_failures file bytes first second old new result
  replaces-by file bytes first second old new (Unwritten e) h =
      fills file bytes old new (Err e) (subst (λ (n : ℕ). HasCause {T = Unit {0}} (store_failures old) n (Err e)) (sym h) (after-cause (store_failures old) (Err e)))
  replaces-by file bytes first second old new (Written one two) h =
      let mid = count_after one (store_failures old) in
      record {
        filled = old;
        removed = counting mid new;
        fills = fills file bytes old old (Ok (tt {0})) (after-cause (store_failures old) (Ok (tt {0})));
        tried_first = removes first old (counting mid new) one (after-cause (store_failures old) one);
        tried_second = removes second (counting mid new) new two (subst (λ (n : ℕ). HasCause {T = Unit {0}} mid n two) (sym h) (after-cause mid two));
      }
