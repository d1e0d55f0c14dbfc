-- A limit on the bytes of a stream.
use Rattle.std.specs.Prelude.{◌≡◌, ℕ, ◌+◌, ◌≤◌, ◌<◌, ◌-◌, ◌^◌, min, List, length, Ok, Err, IsErrAnd, string_bytes}
use Rattle.futures.specs.Runs.{Runs, Maps}
use Rattle.tough_net.specs.Errors.{IsExceeded}
use Rattle.tough_net.specs.Items.{Item}
use Rattle.tough_net.specs.declared.max_size.MaxSize.{MaxSize}

-- the bytes so far, whose sum stays at the greatest number
abbrev pub size_after : ℕ → Item → ℕ
size_after size (Ok bytes) = min (size + length bytes) (2 ^ 64 - 1)
size_after size (Err _) = size

-- a limit of max bytes on the stream of a URL, size bytes having come
pub record Limit : Type 0 where
  pub url : List ℕ
  pub max : ℕ
  pub specifier : List ℕ
  pub size : ℕ

module _ (limit : Limit) where
  -- y stands for the item x where the bytes are size with it
  abbrev pub HandsOn : ℕ → Item → Item → Type 0
  HandsOn size x y = (size ≤ limit.max → y ≡ x) × (limit.max < size → IsErrAnd y (IsExceeded limit.url limit.max limit.specifier))

  abbrev pub LimitTurn : ℕ → Item → Item → ℕ → Type 0
  LimitTurn size x y next = (next ≡ size_after size x) × HandsOn next x y

  -- the items of source while the sum of their bytes is within the limit, and an error in the place of each from there on
  abbrev pub Limits : Runs Item → Runs Item
  Limits source = Maps LimitTurn source limit.size

module _ {S : Type 0} where
  abbrev pub limited : MaxSize S → S
  limited m = m.stream

  abbrev pub limit_of : MaxSize S → Limit
  limit_of m = record { url = string_bytes m.url; max = m.max_size; specifier = m.specifier.now; size = m.size }
