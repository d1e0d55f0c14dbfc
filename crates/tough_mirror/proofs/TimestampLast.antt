-- The same files in another order: the timestamp last.
use Rattle.std.proofs.Common.{◌≡◌, ℕ, Bool, true, false, cond, List, [], ◌∷◌, ◌++◌, Option, Some, None, refl, ap, ◌∙◌}
use Rattle.std.specs.List.{AllByRecursion}
use Rattle.std.specs.Map.{lookup}
use Rattle.tough_write.specs.Ordering.{timestamp_last}
use Rattle.tough_write.specs.Writing.{FileDoc}

all-append : (P : FileDoc → Type 0) (xs ys : List FileDoc) → AllByRecursion P xs → AllByRecursion P ys → AllByRecursion P (xs ++ ys)
all-append P [] ys a b = b
all-append P (x ∷ xs) ys a b = (a.0, all-append P xs ys a.1 b)

module _ (p : List ℕ → Bool) where
  missed : (f : FileDoc) (fs : List FileDoc) → lookup p (f ∷ fs) ≡ None → (p f.0 ≡ false) × (lookup p fs ≡ None)
  missed f fs h = go (p f.0) refl h
    where
      go : (v : Bool) → p f.0 ≡ v → cond v (Some f.1) (lookup p fs) ≡ None → (p f.0 ≡ false) × (lookup p fs ≡ None)
      go true e k = cc
      go false e k = (e, k)

  misses : (f : FileDoc) (fs : List FileDoc) → p f.0 ≡ false → lookup p fs ≡ None → lookup p (f ∷ fs) ≡ None
  misses f fs e h = ap (λ v. cond v (Some f.1) (lookup p fs)) e ∙ h

  apart : (xs ys : List FileDoc) → lookup p (xs ++ ys) ≡ None → (lookup p xs ≡ None) × (lookup p ys ≡ None)
  apart [] ys h = (refl, h)
  apart (x ∷ xs) ys h =
      let one = missed x (xs ++ ys) h in
      let rest = apart xs ys one.1 in
      (misses x xs one.0 rest.0, rest.1)

module _ (root targets snapshot timestamp : FileDoc) (delegated : List FileDoc) where
  pub all-last : (P : FileDoc → Type 0) → AllByRecursion P (root ∷ targets ∷ snapshot ∷ timestamp ∷ delegated) → AllByRecursion P (timestamp_last (root ∷ targets ∷ snapshot ∷ timestamp ∷ delegated))
  all-last P a = all-append P delegated (targets ∷ snapshot ∷ root ∷ timestamp ∷ []) a.1.1.1.1 (a.1.0, (a.1.1.0, (a.0, (a.1.1.1.0, tt))))

  pub miss-last : (p : List ℕ → Bool) → lookup p (timestamp_last (root ∷ targets ∷ snapshot ∷ timestamp ∷ delegated)) ≡ None → lookup p (root ∷ targets ∷ snapshot ∷ timestamp ∷ delegated) ≡ None
  miss-last p h =
      let both = apart p delegated (targets ∷ snapshot ∷ root ∷ timestamp ∷ []) h in
      let one = missed p targets (snapshot ∷ root ∷ timestamp ∷ []) both.1 in
      let two = missed p snapshot (root ∷ timestamp ∷ []) one.1 in
      let three = missed p root (timestamp ∷ []) two.1 in
      let four = missed p timestamp [] three.1 in
      misses p root (targets ∷ snapshot ∷ timestamp ∷ delegated) three.0
      (misses p targets (snapshot ∷ timestamp ∷ delegated) one.0
      (misses p snapshot (timestamp ∷ delegated) two.0
      (misses p timestamp delegated four.0 both.0)))
