-- A target name, and which texts are refused.
use Rattle.std.specs.Prelude.{◌≡◌, ◌≢◌, ℕ, List, [], length, ◌==◌, Result, Ok, Err, bytes_eq, codes, if◌then◌else◌}
use Rattle.tough_names.specs.declared.name.NameError.{NameError}
use Rattle.tough_names.specs.declared.name.NameError.TheVariants.{UnsafeTargetNameDotDot, UnsafeTargetNameEmpty, UnsafeTargetNameSlash, Memory}
use Rattle.std.specs.declared.cmp.Ordering.{Ordering}
use Rattle.std.specs.Ordering.{nat_cmp, on, then_cmp}
use Rattle.std.specs.Cmp.Lexicographic.{slice_cmp}
use Rattle.tough_names.specs.Clean.{resolve}

pub record Named : Type 0 where
  pub raw : List ℕ
  pub resolved : List ℕ

-- the resolved text, or the first refusal
abbrev pub clean : List ℕ → Result (List ℕ) NameError
clean text =
    if bytes_eq text (codes "..") then Err UnsafeTargetNameDotDot
    else if bytes_eq text [] then Err UnsafeTargetNameEmpty
    else if bytes_eq (resolve text) [] then Err UnsafeTargetNameEmpty
    else if bytes_eq (resolve text) (codes "/") then Err UnsafeTargetNameSlash
    else Ok (resolve text)

-- the other text, or the first where that is empty
abbrev pub unless_empty : List ℕ → List ℕ → List ℕ
unless_empty text other = if length other == 0 then text else other

abbrev pub by_raw_then_resolved : Named → Named → Ordering
by_raw_then_resolved = then_cmp (on (λ n. n.raw) (slice_cmp nat_cmp)) (on (λ n. n.resolved) (slice_cmp nat_cmp))

-- what making a name of the text answers
abbrev pub GivesName : List ℕ → Result Named NameError → Type 0
GivesName text (Ok name) = (name.raw ≡ text) × (clean text ≡ Ok name.resolved)
GivesName text (Err e) = e ≢ Memory → clean text ≡ Err e
