-- What files were asked and what they answered. The TUF specification 1.0 leaves storage open (section 5, "non-volatile storage"): these calls are the ones of POSIX that a client needs.
use Rattle.std.specs.Prelude.{ℕ, ◌+◌, ◌%◌, ◌^◌, Bool, List, [], ◌∷◌, map, take, Result, Ok, Err, Vec, String, string_bytes}
use Rattle.tough_files.specs.declared.files.FileKind.{FileKind}
use Rattle.tough_files.specs.declared.files.FilesError.{FilesError}
use Rattle.tough_files.specs.declared.files.FilesError.TheVariants.{Failed, Memory}

-- paths, contents and names are the bytes of their texts
pub data Asked : Type 0 where
  kind_of : List ℕ → Bool → Asked
  read_at : List ℕ → ℕ → ℕ → Asked
  create_at : List ℕ → Asked
  create_in : List ℕ → Asked
  append_to : List ℕ → List ℕ → Asked
  rename_to : List ℕ → List ℕ → Asked
  copy_to : List ℕ → List ℕ → Asked
  link_to : List ℕ → List ℕ → Asked
  remove_at : List ℕ → Asked
  make_folders_to : List ℕ → Asked
  canonical_of : List ℕ → Asked
  list_of : List ℕ → Asked

pub data Answered : Type 0 where
  done : Answered
  found : FileKind → Answered
  got : List ℕ → Answered
  named : List ℕ → Answered
  listed : List (List ℕ) → Answered
  refused : FilesError → Answered

-- a call and its answer
pub record Told : Type 0 where
  pub asked : Asked
  pub answered : Answered

-- what the list of calls gains: a call that found no memory isn't told
abbrev pub told_of : Asked → Answered → List Told
told_of asked (refused Memory) = []
told_of asked answered = record { asked = asked; answered = answered } ∷ []

-- the count of the device's failures after such an answer
abbrev pub count_after : Answered → ℕ → ℕ
count_after (refused Failed) n = (n + 1) % 2 ^ 64
count_after answered n = n

abbrev pub done_or : Result (Unit {0}) FilesError → Answered
done_or (Ok nothing) = done
done_or (Err e) = refused e

-- the same where the answer is the path
abbrev pub named_if : List ℕ → Result (Unit {0}) FilesError → Answered
named_if path (Ok nothing) = named path
named_if path (Err e) = refused e

abbrev pub found_or : Result FileKind FilesError → Answered
found_or (Ok kind) = found kind
found_or (Err e) = refused e

-- the bytes that were read into the buffer
abbrev pub got_or : List ℕ → Result ℕ FilesError → Answered
got_or buffer (Ok n) = got (take n buffer)
got_or buffer (Err e) = refused e

abbrev pub named_or : {A : Type 0} → Result (String A) FilesError → Answered
named_or (Ok text) = named (string_bytes text)
named_or (Err e) = refused e

abbrev pub listed_or : {A B : Type 0} → Result (Vec (String A) B) FilesError → Answered
listed_or (Ok names) = listed (map string_bytes names.items)
listed_or (Err e) = refused e
