-- What is fetched of a transport that serves files, by cases.
use Rattle.std.specs.Prelude.{◌≡◌, ◌<◌, ◌≤◌, ◌⊎◌, ◌++◌, ◌+◌, ◌^◌, ℕ, List, [], length, Option, Some, None, Result, Ok, Err, Vec, Bool, true, false, ◌&&◌, nat_le}
use Rattle.std.specs.declared.alloc.Global.{Global}
use Rattle.std.proofs.Common.{refl, sym, ap, ap₂, ◌∙◌, subst, inl, inr, arith, length-append}
use Rattle.std.proofs.lemmas.Bool.Decides.{nat_tests}
use Rattle.url.specs.Parts.{Parts, serialize}
use Rattle.url.specs.Parser.{parse_url}
use Rattle.url.specs.declared.error.ParseError.{ParseError}
use Rattle.futures.specs.Runs.{Runs, Within}
use Rattle.tough_net.specs.declared.error.TransportError.{TransportError}
use Rattle.tough_net.specs.declared.error.TransportErrorKind.TheVariants as kind
use Rattle.tough_net.specs.Errors.{IsMemory, IsOther, error_kind}
use Rattle.tough_net.specs.declared.error.Cause.{Cause}
use Rattle.tough_net.specs.Items.{Item}
use Rattle.tough_net.specs.Collecting.{Bounds, Fits, Misfits, Exceeds, Comes, Collects}
use Rattle.tough_net.specs.MemoryFiles.{CutsFile}
use Rattle.tough_net.specs.Urls.{CannotJoin}
use Rattle.tough_net.proofs.lemmas.Files.{Collects_file, Collects_no_file}
use Rattle.tough_net.specs.declared.digests.WrongDigest.{WrongDigest}
use Rattle.tough_net.specs.declared.digests.WrongDigest.TheVariants as wrong
use Rattle.tough_net.specs.Digests.{Digests, has_digests, Says}
use Rattle.tough_net.proofs.lemmas.Digests.{digests-true, digests-false}
use Rattle.tough_trust.specs.Requests.{RequestDoc, fits_request}
use Rattle.tough_trust.specs.declared.fault.Fault.TheVariants as fault
use Rattle.tough_update.specs.Answered.{AnswerDoc}
use Rattle.tough_update.specs.Answered as got
use Rattle.tough_update.specs.Loadable.{Gets, Delivers}
use Rattle.tough_load.specs.Fetching.{Fetches, bounds, answer_of}
use Rattle.tough_honest.specs.Serves.{ServesName, HasMemory, FaultHasMemory}

-- ---- what is asked, as a test

both-true : (b c : Bool) → b ≡ true → c ≡ true → (b && c) ≡ true
both-true b c h k = ap₂ (λ (x y : Bool). x && y) h k

first-false : (b c : Bool) → b ≡ false → (b && c) ≡ false
first-false b c h = ap (λ (x : Bool). x && c) h

second-false : (b c : Bool) → c ≡ false → (b && c) ≡ false
second-false true c h = h
second-false false c h = refl

within : (n m : ℕ) → n ≤ m → nat_le n m ≡ true
within n m h = grind (arith, nat_tests)

beyond : (n m : ℕ) → m < n → nat_le n m ≡ false
beyond n m h = grind (arith, nat_tests)

told-kind : (url : List ℕ) (d : Digests) (w : WrongDigest) (e : TransportError) → Says url d w e → (error_kind e ≡ kind.Other) ⊎ IsMemory e
told-kind url d (wrong.Sha256 c) e (inl h) = inl h.0
told-kind url d (wrong.Sha256 c) e (inr m) = inr m
told-kind url d (wrong.Sha512 c) e (inl h) = inl h.0
told-kind url d (wrong.Sha512 c) e (inr m) = inr m

digest-lacks : (url : Parts) (r : RequestDoc) (bytes : List ℕ) (e : TransportError) → Misfits (bounds url r) bytes e → (has_digests r.digests bytes ≡ false) × ((error_kind e ≡ kind.Other) ⊎ IsMemory e)
digest-lacks url r bytes e (w, h, said) = (digests-false r.digests bytes w h, told-kind (bounds url r).url r.digests w e said)

fits-true : (url : Parts) (r : RequestDoc) (bytes : List ℕ) → Fits (bounds url r) bytes → fits_request r bytes ≡ true
fits-true url r bytes h = both-true _ _ (within (length bytes) r.max_size h.0) (digests-true r.digests bytes h.1)

-- a short name that can be joined isn't refused
unjoined : (base url : Parts) (name : List ℕ) (e : ParseError) → parse_url (Some base) name ≡ Ok url → length (serialize base) + length name < 2 ^ 30 → CannotJoin base name e → ⊥
unjoined base url name e is short (inl h) = cc (is, h)
unjoined base url name e is short (inr h) = omega (arith, short, h.1)

longer : (max : ℕ) (bytes part later : List ℕ) → bytes ≡ part ++ later → max < length part → max < length bytes
longer max bytes part later is far = let both = ap length is ∙ length-append part later in omega (arith, both, far)

said : (url : List ℕ) (says : Cause → Type 0) (e : TransportError) → IsOther url says e → (error_kind e ≡ kind.Other) ⊎ IsMemory e
said url says e (inl h) = inl h.0
said url says e (inr h) = inr h

-- ---- what is collected of less is collected

module _ (bounds : Bounds) (more less : Runs Item) (under : Within more less) where
  comes : (pieces : List (List ℕ)) (last : Option Item) → Comes bounds less [] pieces last → Comes bounds more [] pieces last
  comes pieces last h = record { came = under _ _ h.came; within = h.within }

  collects : (o : Result (Vec ℕ Global) TransportError) → Collects bounds less [] o → Collects bounds more [] o
  collects (Ok v) h = (h.0, comes _ _ h.1, h.2, h.3)
  collects (Err e) (inl h) = inl h
  collects (Err e) (inr (inl h)) = inr (inl (h.0, comes _ _ h.1))
  collects (Err e) (inr (inr (inl h))) = inr (inr (inl (h.0, h.1, comes _ _ h.2, h.3)))
  collects (Err e) (inr (inr (inr h))) = inr (inr (inr (h.0, comes _ _ h.1, h.2)))

-- ---- a file that is collected

module _ (url : Parts) (r : RequestDoc) (bytes : List ℕ) where
  delivered : (a : AnswerDoc) (b : Bool) → fits_request r bytes ≡ b → Delivers b bytes a → Delivers (fits_request r bytes) bytes a
  delivered a b is h = rw is h

  cut : (e : TransportError) → fits_request r bytes ≡ false → (error_kind e ≡ kind.Other) ⊎ IsMemory e → FaultHasMemory (fault.Transport e)
      → Delivers (fits_request r bytes) bytes (got.Cut (fault.Transport e))
  cut e is (inl k) has = delivered (got.Cut (fault.Transport e)) false is (e, refl, k)
  cut e is (inr m) has = absurd (has m)

  collected : (o : Result (Vec ℕ Global) TransportError) → Collects (bounds url r) (CutsFile (Some bytes)) [] o → HasMemory (answer_of o)
      → Delivers (fits_request r bytes) bytes (answer_of o)
  collected (Ok v) h has =
      let whole = Collects_file (bounds url r) bytes v h in
      delivered (got.Bytes v.items) true (fits-true url r bytes whole.1) (ap got.Bytes whole.0)
  collected (Err e) h has = refused (Collects_no_file (bounds url r) bytes e h) where
    refused : (IsMemory e ⊎ (((part : List ℕ) × (later : List ℕ) × (bytes ≡ part ++ later) × Exceeds (bounds url r) part e) ⊎ Misfits (bounds url r) bytes e))
        → Delivers (fits_request r bytes) bytes (got.Cut (fault.Transport e))
    refused (inl m) = absurd (has m)
    refused (inr (inl (part, later, is, far))) = cut e (first-false _ _ (beyond (length bytes) r.max_size (longer r.max_size bytes part later is far.0))) (said _ _ e far.1) has
    refused (inr (inr h)) = let lacks = digest-lacks url r bytes e h in cut e (second-false _ _ lacks.0) lacks.1 has

-- ---- a fetch

module _ {T : Type 0} (refuses : T → Parts → TransportError → Type 0) (serves : T → Parts → Runs Item) (t : T) (base : Parts) (r : RequestDoc) where
  no_source : (b : Bounds) (less : Runs Item) (under : Within (CutsFile None) less) (o : Result (Vec ℕ Global) TransportError) → Collects b less [] o → HasMemory (answer_of o) → ⊥
  no_source b less under (Ok v) h has = under _ _ h.1.came
  no_source b less under (Err e) (inl m) has = has m
  no_source b less under (Err e) (inr (inl h)) has = under _ _ h.1.came
  no_source b less under (Err e) (inr (inr (inl h))) has = under _ _ h.2.came
  no_source b less under (Err e) (inr (inr (inr h))) has = under _ _ h.1.came

  -- what the transport gives where this URL is the one that the name is joined to
  served : (file : Option (List ℕ)) (url : Parts) → Within (CutsFile file) (serves t url) → (o : Result (Vec ℕ Global) TransportError)
      → Collects (bounds url r) (serves t url) [] o → HasMemory (answer_of o) → Gets r file (answer_of o)
  served None url under o h has = absurd (no_source (bounds url r) (serves t url) under o h has)
  served (Some bytes) url under o h has = collected url r bytes o (collects (bounds url r) (CutsFile (Some bytes)) (serves t url) under o h) has

  refused_at : (file : Option (List ℕ)) (e : TransportError) → IsMemory e ⊎ ((file ≡ None) × (error_kind e ≡ kind.FileNotFound)) → FaultHasMemory (fault.Transport e)
      → Gets r file (got.NotStarted (fault.Transport e))
  refused_at file e (inl m) has = absurd (has m)
  refused_at None e (inr h) has = (e, refl, h.1)
  refused_at (Some bytes) e (inr h) has = absurd (cc (h.0))

  same-url : (a b : Parts) → parse_url (Some base) r.name ≡ Ok a → parse_url (Some base) r.name ≡ Ok b → a ≡ b
  same-url a b h k = cc (h, k)

  pub honest : (file : Option (List ℕ)) (a : AnswerDoc) → ServesName refuses serves t base r.name file → Fetches refuses serves t base r a → HasMemory a → Gets r file a
  honest file a s (inl (e, is, m)) has = absurd (subst HasMemory is has m)
  honest file a s (inr (inl (e, is, given))) has = absurd (unjoined base s.url r.name e s.joined s.short given)
  honest file a s (inr (inr (url, is, inl (e, at, inl why)))) has =
      subst (Gets r file) (sym at) (refused_at file e (s.refused e (subst (λ (u : Parts). refuses t u e) (same-url url s.url is s.joined) why)) (subst HasMemory at has))
  honest file a s (inr (inr (url, is, inl (e, at, inr m)))) has = absurd (subst HasMemory at has m)
  honest file a s (inr (inr (url, is, inr (o, at, h)))) has =
      subst (Gets r file) (sym at) (served file url (subst (λ (u : Parts). Within (CutsFile file) (serves t u)) (sym (same-url url s.url is s.joined)) s.served) o h (subst HasMemory at has))
