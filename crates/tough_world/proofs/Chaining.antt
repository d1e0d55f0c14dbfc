-- A root that is stored ends a chain from one that was handed in.
use Rattle.std.proofs.Common.{◌≡◌, ℕ, List, [], ◌∷◌, ◌++◌, Option, Some, None, Result, Ok, Err, Bool, true, false, ◌⊎◌, inl, inr, refl, sym, ap, ◌∙◌, subst}
use Rattle.std.specs.Prelude.{⊤}
use Rattle.tough_keys.specs.Same.{Verifies}
use Rattle.tough_roles.specs.Root.{RootDoc}
use Rattle.tough_roles.specs.Signature.{SignedDoc}
use Rattle.tough_checks.specs.Files.{root_file}
use Rattle.tough_checks.specs.StoredDocuments.{stored_root}
use Rattle.tough_vault.specs.Act.{Act}
use Rattle.tough_vault.specs.Journal.{Note, has_broken}
use Rattle.tough_vault.specs.Step.{Parts}
use Rattle.tough_vault.specs.Stored.{Files}
use Rattle.tough_vault.proofs.Journals.{some_inj}
use Rattle.tough_trust.proofs.lemmas.Walking.{first-passed, next-fine}
use Rattle.tough_update.specs.declared.machine.Core.{Core}
use Rattle.tough_update.specs.Answered.{AnswerDoc}
use Rattle.tough_update.specs.Machine.{question}
use Rattle.tough_update.specs.Questions.{Question}
use Rattle.tough_update.specs.Questions as ask
use Rattle.tough_update.specs.Trusted.{Chain, starts, followed, IsHandedIn}
use Rattle.tough_update.specs.View.{core_doc}
use Rattle.tough_world.specs.declared.lives.Life.{Life}
use Rattle.tough_world.specs.declared.turns.Answer.{Answer}
use Rattle.tough_world.specs.declared.turns.Answer.TheVariants as by
use Rattle.tough_world.specs.declared.turns.Turn.{Turn}
use Rattle.tough_world.specs.declared.turns.TurnError.{TurnError}
use Rattle.tough_world.specs.declared.turns.TurnError.TheVariants.{NotAsked, Misfit}
use Rattle.tough_world.specs.Lives.{joined, BeginFresh, IsGivenTo, IsGivenIn, IsChained, begun, Lives}
use Rattle.tough_world.specs.Steps.{all_notes}
use Rattle.tough_world.specs.Turns.{WorldDoc, Replies, Turned, Runs}
use Rattle.tough_world.proofs.Lists.{unbroken-front, unbroken-behind}
use Rattle.tough_world.proofs.Living.{AllSure, AllBegin, sure-get, sure-set, all-fresh, all-read}
use Rattle.tough_world.proofs.Roots.{Roots, acts}
use Rattle.tough_world.proofs.Standing.{WasRead, Begins, HandsOn, next-read, goes-sure}
use Rattle.tough_world.proofs.Telling.{replies-tell-of}
use Rattle.tough_world.proofs.Walking.{GivesGood, Sane, asked-sane, acts-grows, turned-turns, run-moves}

-- ---- chains from such bytes

module _ (v : Verifies) (B : List ℕ → Type 0) where
  abbrev From : SignedDoc RootDoc → Type 0
  From b = (bytes : List ℕ) × (B bytes × IsHandedIn v bytes b)

  -- it was read, and ends such a chain
  abbrev Ends : SignedDoc RootDoc → Type 0
  Ends root = WasRead root × Chain v From root

  first-ends : (bytes : List ℕ) → B bytes → Begins Ends v bytes
  first-ends bytes given root is =
      let p = first-passed v bytes root is in
      ((bytes, p.0), starts root (bytes, (given, record { reading = p.0; signed = p.1 })))

  next-ends : HandsOn Ends v
  next-ends old bytes root h is = (next-read v old.role bytes root is, followed old root h.1 (next-fine v old bytes root is))

  all-ends : (cs : List Core) → ((bytes : List ℕ) → IsGivenTo bytes cs → B bytes) → AllBegin Ends v cs
  all-ends [] given = tt
  all-ends (c ∷ cs) given =
      let trusted = (core_doc c).setting.trusted in
      (first-ends trusted (given trusted (inl refl)), all-ends cs (λ bytes h. given bytes (inr h)))

  module _ {S : Type 0} (tells : Bool) (files : S → Files) (count : S → ℕ) (told : tells ≡ true) where
    -- so does the stored root
    abbrev Holds : S → Type 0
    Holds store = (r : SignedDoc RootDoc) → stored_root v (files store root_file) ≡ Some r → Ends r

    same-holds : (old new : S) → files new root_file ≡ files old root_file → Holds old → Holds new
    same-holds old new same h r e = h r (ap (stored_root v) (sym same) ∙ e)

    goes-holds : (act : Act) (before after : Parts S) (ms : List Note) → GivesGood Ends act → Holds before.store → Roots tells files count v told act before after ms → Holds after.store
    goes-holds act before after ms good h (inl k) = same-holds before.store after.store k.same h
    goes-holds act before after ms good h (inr (r, is, p)) = λ q e.
        subst (λ (x : SignedDoc RootDoc). Ends x) (some_inj r q (sym p.reads ∙ e)) (subst (λ (a : Act). GivesGood Ends a) is good)

    replies-hold : (q : Question) (answer : Answer) (old new : Parts S) (reply : AnswerDoc) → Replies tells files count v q answer old reply new → ((act : Act) → q ≡ ask.Step act → Sane Ends act)
        → has_broken new.notes ≡ false → Holds old.store → Holds new.store
    replies-hold ask.Moment (by.Moment now) old new reply h g b holds = same-holds old.store new.store (ap (λ (p : Parts S). files p.store root_file) h.1) holds
    replies-hold (ask.Fetch r) (by.Bytes x) old new reply h g b holds = same-holds old.store new.store (ap (λ (p : Parts S). files p.store root_file) h.1) holds
    replies-hold (ask.Fetch r) (by.NotStarted f) old new reply h g b holds = same-holds old.store new.store (ap (λ (p : Parts S). files p.store root_file) h.1) holds
    replies-hold (ask.Fetch r) (by.Cut f) old new reply h g b holds = same-holds old.store new.store (ap (λ (p : Parts S). files p.store root_file) h.1) holds
    replies-hold (ask.Stored first) by.Step old new reply h g b holds = same-holds old.store new.store (h.2.sees.same told root_file) holds
    replies-hold (ask.Step act) by.Step old new reply h g b holds =
        let sane = g act refl in
        let s = h.2 in
        let grown = acts-grows tells files count v old new act s.0 s.2 in
        let unbroken = unbroken-behind old.notes grown.notes (ap has_broken (sym grown.added) ∙ b) in
        goes-holds act old new grown.notes sane.good holds (acts tells files count v told old new grown.notes grown.added unbroken act s.0 sane.proper sane.read s.3 s.2)
    replies-hold _ _ old new reply h g b holds = absurd (h)

    record Stood (new : WorldDoc S) : Type 0 where
      sure : AllSure Ends v new.cores
      holds : Holds new.parts.store

    stays-stood : (old new : WorldDoc S) → new ≡ old → Stood old → Stood new
    stays-stood old new e h = subst (λ (w : WorldDoc S). Stood w) (sym e) h

    turned-stood : (load : ℕ) (answer : Answer) (old new : WorldDoc S) (r : Result ⊤ TurnError) → Turned tells files count v load answer old new r → has_broken new.parts.notes ≡ false → Stood old → Stood new
    turned-stood load answer old new (Ok u) t b h =
        let c = core_doc t.core in
        let cs = sure-get Ends v old.cores load t.core h.sure t.there in
        let tells-reply = replies-tell-of Ends tells files count v (question c) answer old.parts new.parts t.reply t.replies (λ found finds r e. h.holds r (ap (stored_root v) (sym (finds told)) ∙ e)) in
        record {
          sure = subst (λ (xs : List Core). AllSure Ends v xs) (sym t.cores) (sure-set Ends v old.cores load t.next h.sure (goes-sure Ends v next-ends c (core_doc t.next) t.reply cs tells-reply t.answered.goes));
          holds = replies-hold (question c) answer old.parts new.parts t.reply t.replies (λ act e. asked-sane Ends (λ root x. x.0) c.setting.enforced c.stage act e cs.0) b h.holds;
        }
    turned-stood load answer old new (Err NotAsked) t b h = stays-stood old new t.0 h
    turned-stood load answer old new (Err Misfit) t b h = stays-stood old new t.0 h

    run-stood : (ts : List Turn) (old new : WorldDoc S) (run : Runs tells files count v old ts new) → AllSure WasRead v old.cores → has_broken new.parts.notes ≡ false → Stood old → Stood new
    run-stood [] old new run read b h = stays-stood old new run h
    run-stood (t ∷ ts) old new run read b h =
        let turn = turned-turns tells files count v t.load t.answer old run.0 run.1.0 run.1.1 read in
        let rest = run-moves tells files count v ts run.0 new run.2 turn.stand in
        let unbroken = unbroken-front run.0.parts.notes (all_notes rest.taken) (ap has_broken (sym rest.notes) ∙ b) in
        run-stood ts run.0 new run.2 turn.stand b (turned-stood t.load t.answer old run.0 run.1.0 run.1.1 unbroken h)

    lives-hold : (ls : List Life) (js : List (List Note)) (old new : S) → Lives tells files count v old ls js new → BeginFresh ls → ((bytes : List ℕ) → IsGivenIn bytes ls → B bytes) → has_broken (joined js) ≡ false → Holds old → Holds new
    lives-hold [] [] old new lived fresh given b h = same-holds old new (ap (λ (s : S). files s root_file) lived) h
    lives-hold (l ∷ ls) (j ∷ js) old new lived fresh given b h =
        let cores = l.cores.items in
        let here = run-stood l.schedule.items (begun l old) lived.0 lived.1 (all-fresh WasRead v cores fresh.0 (all-read v cores)) (ap has_broken lived.2 ∙ unbroken-front j (joined js) b)
        (record { sure = all-fresh Ends v cores fresh.0 (all-ends cores (λ bytes x. given bytes (inl x))); holds = h }) in
        lives-hold ls js lived.0.parts.store new lived.3 fresh.1 (λ bytes x. given bytes (inr x)) (unbroken-behind j (joined js) b) here.holds
    lives-hold [] (j ∷ js) old new lived fresh given b h = absurd lived
    lives-hold (l ∷ ls) [] old new lived fresh given b h = absurd lived

no-root : {X : Type 0} (v : Verifies) (file : Option (List ℕ)) (r : SignedDoc RootDoc) → file ≡ None → stored_root v file ≡ Some r → X
no-root v None r none e = absurd (cc (e))
no-root v (Some bytes) r none e = absurd (cc (none))

pub stored_is_chained : {S : Type 0} (tells : Bool) (files : S → Files) (count : S → ℕ) (v : Verifies) → tells ≡ true → (ls : List Life) (js : List (List Note)) (old new : S) → Lives tells files count v old ls js new → BeginFresh ls
    → has_broken (joined js) ≡ false → files old root_file ≡ None → (r : SignedDoc RootDoc) → stored_root v (files new root_file) ≡ Some r → IsChained v ls r
stored_is_chained tells files count v told ls js old new lived fresh b none r is =
    (lives-hold v (λ bytes. IsGivenIn bytes ls) tells files count told ls js old new lived fresh (λ bytes h. h) b (λ q e. no-root v (files old root_file) q none e) r is).1
