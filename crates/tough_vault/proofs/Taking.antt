-- A step is its first part and its last part.
use Rattle.std.proofs.Common.{ℕ, [], ◌∷◌, ◌++◌, Result, Ok, Err, Bool, refl, sym, ap, ◌∙◌, subst}
use Rattle.tough_vault.specs.Stored.{Files}
use Rattle.tough_vault.specs.declared.entry.Receipt.{Receipt}
use Rattle.tough_vault.specs.declared.parts.Prepared.{Prepared}
use Rattle.tough_checks.specs.declared.checks.StepError.{StepError}
use Rattle.tough_checks.specs.declared.checks.StepError.TheVariants.{Refused, DatastoreOpen, DatastoreCreate, DatastoreRemove, Memory}
use Rattle.tough_vault.specs.Journal.{applied}
use Rattle.tough_vault.specs.Step.{Step, Parts, Takes}
use Rattle.tough_vault.specs.Parts.{Prepares, Concludes}

module _ {S : Type 0} (tells : Bool) (files : S → Files) (count : S → ℕ) (step : Step) (old new : Parts S) (mid : S) where
  abbrev between : Parts S
  between = record { store = mid; notes = old.notes; tip = old.tip }

  refused : (e : StepError) → Prepares tells files count step old.store mid (Err e) → Takes tells files count step old between (Err e)
  refused e p = record {
    done = tt;
    stored = tt;
    why = p.why;
    broken = λ x. absurd (p.early x);
    same = λ n. (refl, refl, p.same);
    elsewhere = λ t name ne. p.same t name;
  }

  pub takes : (prepared : Result Prepared StepError) (result : Result Receipt StepError)
      → Prepares tells files count step old.store mid prepared → Concludes tells files count step.file prepared between new result
      → Takes tells files count step old new result
  takes (Err e) result p c =
      let r = c.refused in
      subst (λ (n : Parts S). Takes tells files count step old n result) (sym r.1)
      (subst (λ (x : Result Receipt StepError). Takes tells files count step old between x) (sym r.0) (refused e p))
  takes (Ok q) (Ok r) p c =
      let w = c.written in
      let carries = p.ready.2 in
      record {
        done = (
          p.ready.0,
          record {
            passes = p.ready.1;
            noted = record { notes = w.done.0.notes ∙ ap (λ n. old.notes ++ n ∷ []) carries.entry; tip = w.done.0.tip ∙ ap (applied old.tip) carries.entry };
            receipt = record { number = w.done.1.number; entry = w.done.1.entry ∙ carries.entry };
          },
        );
        stored = (λ x. cc (x, carries.bytes), λ t. w.stored t ∙ sym carries.bytes);
        why = tt;
        broken = tt;
        same = tt;
        elsewhere = λ t name ne. w.elsewhere t name ne ∙ p.same t name;
      }
  takes (Ok q) (Err (DatastoreCreate path)) p c =
      let w = c.written in
      record {
        done = tt;
        stored = tt;
        why = (w.fault.0, (p.ready.0, p.ready.1), λ x. w.fault.1 (x ∙ sym p.quiet));
        broken = λ x. let b = w.broken tt in record { notes = b.notes; tip = b.tip };
        same = λ n. absurd (n tt);
        elsewhere = λ t name ne. w.elsewhere t name ne ∙ p.same t name;
      }
  takes (Ok q) (Err Memory) p c =
      let w = c.written in
      let s = w.same refl in
      record {
        done = tt;
        stored = tt;
        why = tt;
        broken = λ x. absurd x;
        same = λ n. (s.0, s.1, λ t name. s.2 t name ∙ p.same t name);
        elsewhere = λ t name ne. w.elsewhere t name ne ∙ p.same t name;
      }
  takes (Ok q) (Err (Refused r)) p c = absurd c.written.fault
  takes (Ok q) (Err (DatastoreOpen path)) p c = absurd c.written.fault
  takes (Ok q) (Err (DatastoreRemove path)) p c = absurd c.written.fault
