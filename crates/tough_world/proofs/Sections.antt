-- Trails one after another, and any part of a trail by itself.
use Rattle.std.proofs.Common.{◌≡◌, ℕ, List, [], ◌∷◌, ◌++◌, Option, Bool, true, false, refl, sym, ap, ◌∙◌, append_assoc}
use Rattle.tough_keys.specs.Same.{Verifies}
use Rattle.tough_roles.specs.Policy.{Policy}
use Rattle.tough_vault.specs.Journal.{Note, has_broken, has_cleared, NothingGoesBack}
use Rattle.tough_vault.specs.Stored.{Files, SameFiles}
use Rattle.tough_world.specs.Steps.{Taken, all_notes, AllUnder, AllProper, AllRead, Takes, Trail}
use Rattle.tough_world.proofs.Going.{steps_go_on}

pub notes-both : (xs ys : List Taken) → all_notes (xs ++ ys) ≡ all_notes xs ++ all_notes ys
notes-both [] ys = refl
notes-both (x ∷ xs) ys = ap (λ (ms : List Note). x.notes ++ ms) (notes-both xs ys) ∙ sym (append_assoc x.notes (all_notes xs) (all_notes ys))

pub proper-both : (xs ys : List Taken) → AllProper xs → AllProper ys → AllProper (xs ++ ys)
proper-both [] ys a b = b
proper-both (x ∷ xs) ys a b = (a.0, proper-both xs ys a.1 b)

pub read-both : (xs ys : List Taken) → AllRead xs → AllRead ys → AllRead (xs ++ ys)
read-both [] ys a b = b
read-both (x ∷ xs) ys a b = (a.0, read-both xs ys a.1 b)

module _ {S : Type 0} (tells : Bool) (files : S → Files) (count : S → ℕ) (verifies : Verifies) where
  takes-after : (x : Taken) (old mid new : S) → (tells ≡ true → SameFiles (files old) (files mid)) → Takes tells files count verifies x mid new → Takes tells files count verifies x old new
  takes-after x old mid new same t = record { before = t.before; after = t.after; result = t.result; acts = t.acts; back = t.back; added = t.added; from = λ e name. t.from e name ∙ same e name; to = t.to }

  -- a trail from a store with the same files
  pub trail-after : (ys : List Taken) (old mid new : S) → (tells ≡ true → SameFiles (files old) (files mid)) → Trail tells files count verifies mid ys new → Trail tells files count verifies old ys new
  trail-after [] old mid new same t = λ e name. t e name ∙ same e name
  trail-after (y ∷ ys) old mid new same t = (t.0, takes-after y old mid t.0 same t.1, t.2)

  pub trail-both : (xs ys : List Taken) (old mid new : S) → Trail tells files count verifies old xs mid → Trail tells files count verifies mid ys new → Trail tells files count verifies old (xs ++ ys) new
  trail-both [] ys old mid new a b = trail-after ys old mid new a b
  trail-both (x ∷ xs) ys old mid new a b = (a.0, a.1, trail-both xs ys a.0 mid new a.2 b)

  -- what is behind a beginning, and what is before an end
  behind : (xs ys : List Taken) (old new : S) → Trail tells files count verifies old (xs ++ ys) new → (mid : S) × Trail tells files count verifies mid ys new
  behind [] ys old new t = (old, t)
  behind (x ∷ xs) ys old new t = behind xs ys t.0 new t.2

  before : (ys zs : List Taken) (old new : S) → Trail tells files count verifies old (ys ++ zs) new → (mid : S) × Trail tells files count verifies old ys mid
  before [] zs old new t = (old, λ e name. refl)
  before (y ∷ ys) zs old new t = let b = before ys zs t.0 new t.2 in (b.0, (t.0, t.1, b.1))

  pub sections_go_on : (P Q : Option Policy) → tells ≡ true → (xs ys zs : List Taken) (old new : S) → Trail tells files count verifies old (xs ++ (ys ++ zs)) new → AllUnder P Q ys → AllProper ys
      → has_broken (all_notes ys) ≡ false → has_cleared (all_notes ys) ≡ false → NothingGoesBack (all_notes ys)
  sections_go_on P Q told xs ys zs old new t u p b c =
      let later = behind xs (ys ++ zs) old new t in
      let here = before ys zs later.0 new later.1 in
      steps_go_on tells files count verifies P Q told ys later.0 here.0 u p here.1 b c
