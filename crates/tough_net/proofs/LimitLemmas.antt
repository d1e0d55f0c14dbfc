-- What a limit hands on is never more.
use Rattle.std.specs.Prelude.{◌≡◌, ℕ, ◌+◌, ◌-◌, ◌^◌, ◌<◌, ◌≤◌, List, [], ◌∷◌, length, Option, Some, None, Ok, Err, IsErrAnd, IsSomeAnd, MatchOption, ◌⊎◌}
use Rattle.std.proofs.Common.{arith, inl, inr, length-append, refl}
use Rattle.std.proofs.lemmas.Bool.{cases_lt}
use Rattle.futures.specs.Runs.{Runs, Turns, seconds}
use Rattle.tough_net.specs.Items.{Item, bytes_of, joined, all_bytes, last_bytes}
use Rattle.tough_net.specs.Limiting.{Limit, Limits, LimitTurn}

module _ (limit : Limit) (small : limit.max < 2 ^ 64 - 1) where
  -- what one item adds
  abbrev Adds : ℕ → Item → ℕ → Type 0
  Adds size y next =
      ((next ≤ limit.max) × (size + length (bytes_of y) ≡ next))
      ⊎ ((limit.max < next) × (length (bytes_of y) ≡ 0))

  added : (size : ℕ) (x y : Item) (next : ℕ) → LimitTurn limit size x y next → next ≤ limit.max → size + length (bytes_of y) ≡ next
  added size (Ok b) y next turned within =
      let sized = turned.0 in
      let same : y ≡ Ok b = turned.1.0 within in
      rw same (omega (arith, sized))
  added size (Err e) y next turned within =
      let sized = turned.0 in
      let same : y ≡ Err e = turned.1.0 within in
      rw same (omega (arith, sized))

  refused : (y : Item) (P : _) → IsErrAnd y P → length (bytes_of y) ≡ 0
  refused (Ok d) P h = absurd h
  refused (Err e) P h = refl

  adds : (size : ℕ) (x y : Item) (next : ℕ) → LimitTurn limit size x y next → Adds size y next
  adds size x y next turned = elim (cases_lt limit.max next) [
    | inl over ↦ inr (over, refused y _ (turned.1.1 over))
    | inr within ↦ inl (within, added size x y next turned within)
  ]

  -- once the limit is passed it stays so
  stays : (size : ℕ) (x : Item) (y : Item) (next : ℕ) → LimitTurn limit size x y next → limit.max < size → limit.max < next
  stays size (Ok b) y next turned over = let sized = turned.0 in omega (arith, sized)
  stays size (Err e) y next turned over = let sized = turned.0 in omega (arith, sized)

  -- what some items add
  abbrev AddsAll : ℕ → ℕ → ℕ → Type 0
  AddsAll size bytes next =
      (size ≤ limit.max → size + bytes ≤ limit.max) × (limit.max < size → (bytes ≡ 0) × (limit.max < next)) × (next ≤ limit.max → size + bytes ≡ next)

  joins : (size first mid later next : ℕ) → ((mid ≤ limit.max) × (size + first ≡ mid)) ⊎ ((limit.max < mid) × (first ≡ 0))
      → (limit.max < size → limit.max < mid) → AddsAll mid later next → AddsAll size (first + later) next
  joins size first mid later next (inl h) stay more =
      let b = more.0 h.0 in let c = more.2 in let sum = h.1 in let w = h.0 in
      ((λ s. omega arith), (λ s. let t = stay s in absurd (omega arith)), (λ s. let d = c s in omega arith))
  joins size first mid later next (inr h) stay more =
      let over = h.0 in let none = h.1 in let zero = (more.1 over).0 in let far = (more.1 over).1 in
      ((λ s. omega arith), (λ s. (omega arith, far)), (λ s. absurd (omega arith)))

  all_add : (size : ℕ) (ps : List (Item × Item)) (next : ℕ) → Turns (LimitTurn limit) size ps next → AddsAll size (length (joined (seconds ps))) next
  all_add size [] next turned = let same = turned in ((λ s. omega arith), (λ s. (refl, omega arith)), (λ s. omega arith))
  all_add size (p ∷ ps) next turned =
      rw (length-append (bytes_of p.1) (joined (seconds ps)))
      (joins size (length (bytes_of p.1)) turned.0 (length (joined (seconds ps))) next
      (adds size p.0 p.1 turned.0 turned.1) (stays size p.0 p.1 turned.0 turned.1) (all_add turned.0 ps next turned.2))

  last_adds : (size bytes next : ℕ) (from : Option Item) (last : Option Item) → AddsAll size bytes next → size ≤ limit.max
      → MatchOption from (last ≡ None) (λ x. (t : ℕ) × IsSomeAnd last (λ y. LimitTurn limit next x y t))
      → size + (bytes + length (last_bytes last)) ≤ limit.max
  last_adds size bytes next None last all within ends = let b = all.0 within in rw ends (omega arith)
  last_adds size bytes next (Some x) None all within ends = absurd ends.1
  last_adds size bytes next (Some x) (Some y) all within ends =
      let b = all.0 within in let c = all.2 in
      elim (adds next x y ends.0 ends.1) [
        | inl h ↦ let d = c (omega arith) in omega arith
        | inr h ↦ omega arith
      ]

  pub Limits_never_over : (source : Runs Item) → limit.size ≤ limit.max → (xs : List Item) (last : Option Item) → Limits limit source xs last
      → limit.size + length (all_bytes xs last) ≤ limit.max
  Limits_never_over source within xs last h =
      let all : AddsAll limit.size (length (joined xs)) h.state = rw h.gave (all_add limit.size h.pairs h.state h.turned) in
      rw (length-append (joined xs) (last_bytes last)) (last_adds limit.size (length (joined xs)) h.state h.next last all within h.ends)
