-- A set of bytes that a list was put into, one by one.
use Rattle.std.proofs.Common.{◌≡◌, ℕ, ◌+◌, ◌<◌, ◌≤◌, List, [], ◌∷◌, drop, drop-cons, add-one, get_or, length, Bool, true, false, ◌||◌, bytes_eq, refl, sym, ap, ◌∙◌, subst}
use Rattle.std.specs.BTreeSet.{insert_key}
use Rattle.std.specs.List.{list_any}
use Rattle.std.proofs.lemmas.Slice.Eq.{bytes_eq-Decides}
use Rattle.tough_roles.proofs.Seen.{by_bytes, inserted, or_assoc, or_comm, or_swap, same_any, stands}

agree : (a b : Bool) → (a ≡ true → b ≡ true) → (b ≡ true → a ≡ true) → a ≡ b
agree true b f g = sym (f refl)
agree false true f g = g refl
agree false false f g = refl

swap : (xs ys : List ℕ) → bytes_eq xs ys ≡ bytes_eq ys xs
swap xs ys = agree (bytes_eq xs ys) (bytes_eq ys xs)
    (λ h. (bytes_eq-Decides ys xs).1 (sym ((bytes_eq-Decides xs ys).0 h)))
    (λ h. (bytes_eq-Decides xs ys).1 (sym ((bytes_eq-Decides ys xs).0 h)))

module _ {X : Type 0} (of : X → List ℕ) where
  -- whether some of these has the bytes
  abbrev pub some_has : List X → List ℕ → Bool
  some_has xs bytes = list_any (λ x. bytes_eq bytes (of x)) xs

  pub turned : (xs : List X) (bytes : List ℕ) → list_any (λ x. bytes_eq (of x) bytes) xs ≡ some_has xs bytes
  turned xs bytes = same_any (λ x. bytes_eq (of x) bytes) (λ x. bytes_eq bytes (of x)) xs (λ x. swap (of x) bytes)

  module _ {K : Type 0} (now : K → List ℕ) where
    -- the keys and those from a place on have the bytes that all have
    abbrev pub Fills : List K → List X → ℕ → Type 0
    Fills ks xs i = (bytes : List ℕ) → stands now ks bytes || some_has (drop i xs) bytes ≡ some_has xs bytes

    pub none_in : (ks : List K) → ks ≡ [] → (xs : List X) → Fills ks xs 0
    none_in ks h xs bytes = ap (λ n. stands now n bytes || some_has xs bytes) h

    pub one_in : (ks : List K) (xs : List X) (i : ℕ) (x : X) (k : K) → i < length xs → x ≡ get_or xs i x → now k ≡ of x → Fills ks xs i → Fills (insert_key (by_bytes now) ks k) xs (i + 1)
    one_in ks xs i x k h e same fills bytes =
        let rest = some_has (drop (i + 1) xs) bytes in
        let next : some_has (drop i xs) bytes ≡ bytes_eq bytes (of x) || rest = rw (drop-cons xs i x h, ← e, add-one) refl in
        ap (λ b. b || rest) (inserted now ks k bytes ∙ ap (λ n. bytes_eq bytes n || stands now ks bytes) same)
        ∙ or_assoc (bytes_eq bytes (of x)) (stands now ks bytes) rest
        ∙ or_swap (bytes_eq bytes (of x)) (stands now ks bytes) rest
        ∙ ap (λ b. stands now ks bytes || b) (sym next)
        ∙ fills bytes

    pub all_in : (ks : List K) (xs : List X) (i : ℕ) → drop i xs ≡ [] → Fills ks xs i → (bytes : List ℕ) → stands now ks bytes ≡ some_has xs bytes
    all_in ks xs i h fills bytes = or_comm false (stands now ks bytes) ∙ ap (λ r. stands now ks bytes || some_has r bytes) (sym h) ∙ fills bytes
