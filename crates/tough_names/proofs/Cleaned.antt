-- What an accepted name's resolved text is.
use Rattle.std.proofs.Common.{◌≡◌, ◌≢◌, ℕ, Bool, true, false, List, [], refl, subst, cond, Ok, Err, bytes_eq, codes}
use Rattle.tough_names.specs.Clean.{resolve, IsSafe}
use Rattle.tough_names.specs.Named.{clean}
use Rattle.tough_names.proofs.Safe.{resolves_once, safe_from, some_kept}

tested : {X E : Type 0} (a b c d : Bool) (e f g h : E) (x r : X) → cond a (Err e) (cond b (Err f) (cond c (Err g) (cond d (Err h) (Ok x)))) ≡ Ok r → (x ≡ r) × (c ≡ false) × (d ≡ false)
tested true b c d e f g h x r p = cc
tested false true c d e f g h x r p = cc
tested false false true d e f g h x r p = cc
tested false false false true e f g h x r p = cc
tested false false false false e f g h x r p = ((cc), refl, refl)

differs : (x y : List ℕ) → bytes_eq y y ≡ true → bytes_eq x y ≡ false → x ≢ y
differs x y same no_match e =
    let P : List ℕ → Type 0 = λ t. bytes_eq t y ≡ false in
    let q : bytes_eq y y ≡ false = subst P e no_match in cc

pub record IsCleaned (text resolved : List ℕ) : Type 0 where
  pub value : resolve text ≡ resolved
  pub safe : IsSafe resolved
  pub again : resolve resolved ≡ resolved

pub cleaned : (text resolved : List ℕ) → clean text ≡ Ok resolved → IsCleaned text resolved
cleaned text resolved e =
    let t = tested (bytes_eq text (codes "..")) (bytes_eq text []) (bytes_eq (resolve text) []) (bytes_eq (resolve text) (codes "/")) _ _ _ _ (resolve text) resolved e in
    let P : List ℕ → Type 0 = λ r. IsSafe r in
    let Q : List ℕ → Type 0 = λ r. resolve r ≡ r in
    record {
      value = t.0;
      safe = subst P t.0 (safe_from text (some_kept text (differs (resolve text) [] refl t.1) (differs (resolve text) (codes "/") refl t.2)));
      again = subst Q t.0 (resolves_once text);
    }
