-- Checks one after another.
use Rattle.std.specs.Prelude.{ℕ, List, Bool, is_some, Option, Some, None, Result, Ok, Err, if◌then◌else◌}
use Rattle.tough_json.specs.Results.{json_of}
use Rattle.tough_checks.specs.Checks.{Reason}
use Rattle.tough_trust.specs.Failure.{Failure, Checked}

abbrev pub unless : {A : Type 0} → Failure → Bool → Result A Failure → Result A Failure
unless f b next = if b then next else Err f

-- whether the bytes are JSON
abbrev pub holds_json : List ℕ → Bool
holds_json bytes = is_some (json_of bytes)

-- goes on where the bytes read
abbrev pub if_read : {A B : Type 0} → Failure → Option A → (A → Result B Failure) → Result B Failure
if_read fault None next = Err fault
if_read fault (Some a) next = next a

-- this, where no check refuses
abbrev pub unrefused : {A : Type 0} → Option Reason → A → Result A Failure
unrefused None a = Ok a
unrefused (Some r) a = Err (Checked r)

abbrev pub and_then : {A B : Type 0} → Result A Failure → (A → Result B Failure) → Result B Failure
and_then (Ok a) f = f a
and_then (Err e) f = Err e
