-- How steps for each of a list go on.
use Rattle.std.specs.Prelude.{◌≡◌, ℕ, ◌+◌, ◌<◌, ◌≤◌, List, [], ◌∷◌, length, drop, map, Ok, Err, refl}
use Rattle.std.proofs.Common.{get_or, inl, inr, sym, subst, drop-cons, add-one}
use Rattle.std.proofs.lemmas.List.{drop_all}
use Rattle.tough_files.specs.Calls.{Told}
use Rattle.tough_save.specs.Scripts.{Script}
use Rattle.tough_write.specs.declared.error.OutputError.{OutputError}
use Rattle.tough_write.specs.Steps.{Done, EachOf}

pub front : {X : Type 0} (xs : List X) (i : ℕ) (x : X) → i < length xs → x ≡ get_or xs i x → drop i xs ≡ x ∷ drop (i + 1) xs
front {X} xs i x less is =
    let P : X → Type 0 = λ y. drop i xs ≡ y ∷ drop (i + 1) xs in
    subst P (sym is) (rw (add-one, drop-cons xs i x less) refl)

module _ {X : Type 0} (does : X → Done → Script) where
  -- none is left
  pub each_end : (xs : List X) (i : ℕ) (old : List Told) → length xs ≤ i → EachOf does (drop i xs) (Ok tt) old old
  each_end xs i old past = rw (drop_all i xs past) (refl, tt)

  module _ (xs : List X) (i : ℕ) (x : X) (old mid : List Told) (less : i < length xs) (is : x ≡ get_or xs i x) where
    -- the next one fails
    pub each_fails : (e : OutputError) → does x (Err e) old mid → EachOf does (drop i xs) (Err e) old mid
    each_fails e h = rw (front xs i x less is) (inl (e, h, refl))

    -- the next one is done
    pub each_goes : (u : Unit {0}) (r : Done) (new : List Told) → does x (Ok u) old mid → EachOf does (drop (i + 1) xs) r mid new → EachOf does (drop i xs) r old new
    each_goes u r new h k = rw (front xs i x less is) (inr (u, mid, h, k))

pub each_map : {X Y : Type 0} (does : Y → Done → Script) (f : X → Y) (xs : List X) (r : Done) (old new : List Told) → EachOf (λ x. does (f x)) xs r old new → EachOf does (map f xs) r old new
each_map does f [] r old new h = h
each_map does f (x ∷ xs) r old new (inl h) = inl h
each_map does f (x ∷ xs) r old new (inr (u, mid, h, k)) = inr (u, mid, h, each_map does f xs r mid new k)
