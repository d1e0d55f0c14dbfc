-- A load that ends so came to the documents that the files serve.
use Rattle.std.specs.Prelude.{◌≡◌, ℕ, ℤ, pos, List, Option, None, Some, Bool, true, Result, Ok}
use Rattle.std.proofs.Common.{sym, ap, subst}
use Rattle.url.specs.Parts.{Parts as Urls}
use Rattle.futures.specs.Runs.{Runs}
use Rattle.tough_keys.specs.Same.{Verifies}
use Rattle.tough_net.specs.declared.error.TransportError.{TransportError}
use Rattle.tough_net.specs.declared.collect.Collect.{Collect}
use Rattle.tough_net.specs.Items.{Item}
use Rattle.tough_checks.specs.declared.checks.StepError.{StepError}
use Rattle.tough_roles.specs.Root.{RootDoc}
use Rattle.tough_roles.specs.Signature.{SignedDoc}
use Rattle.tough_vault.specs.Looking.{Looks}
use Rattle.tough_vault.specs.Stored.{Files}
use Rattle.tough_vault.specs.declared.entry.Receipt.{Receipt}
use Rattle.tough_vault.specs.Step.{Parts}
use Rattle.tough_vault.specs.Act.{Act, Acts}
use Rattle.tough_trust.specs.Failure.{Failure}
use Rattle.tough_trust.specs.Steps.{ReadsRoot}
use Rattle.tough_update.specs.Stages.{LoadedDoc, CoreDoc}
use Rattle.tough_update.specs.Answered.{AnswerDoc}
use Rattle.tough_update.specs.Answered as got
use Rattle.tough_update.specs.Promises.{ended}
use Rattle.tough_update.specs.Loadable.{AllHonest, Loadable, IsLoaded}
use Rattle.tough_update.specs.Runs.{IsFresh}
use Rattle.tough_load.specs.Loading.{Held, Leads, Ends}
use Rattle.tough_honest.specs.Fresh.{phase, Untouched, IsFineOutcome}
use Rattle.tough_honest.specs.Loads.{LoadsAt, BeganAt}
use Rattle.tough_honest.proofs.Alone.{Alone}
use Rattle.tough_honest.proofs.Faultless.{Begins, all-fine, first-moment}
use Rattle.tough_honest.proofs.Whole.{all, ends-so}

module _ {T K S C Y : Type 0} (refuses : T → Urls → TransportError → Type 0) (serves : T → Urls → Runs Item) (tells : Bool) (files : S → Files) (count : S → ℕ) (told : tells ≡ true)
    (keeps : Verifies → K → Act → Result Receipt StepError → K → Type 0) (reads : ReadsRoot K) (may_give : C → ℤ → Type 0) (yields : Y → Runs Item) (view : K → Parts S)
    (vault : (v : Verifies) (old : K) (act : Act) (r : Result Receipt StepError) (new : K) → keeps v old act r new → Acts tells files count v act (view old) (view new) r)
    (look : (v : Verifies) (old : K) (first : ℕ) (r : Result (Option (SignedDoc RootDoc)) StepError) (new : K) → reads v old first r new → Looks tells files count v first (view old) (view new) r)
    (loads : (v : Verifies) (c : CoreDoc) (served : Files) (l : LoadedDoc) (answers : List AnswerDoc) → IsFresh c → Loadable v served c.setting l → AllHonest v served l.known.start c answers → IsLoaded v c answers l)
    (base : Urls) (served : Files) where
  -- it ends with the documents for which all is there
  abbrev Comes : Verifies → T → CoreDoc → Result LoadedDoc Failure → ℤ → Type 0
  Comes v t c o now = (l : LoadedDoc) → LoadsAt refuses serves v base t c served now l → o ≡ Ok l

  -- what is so at a moment that begins the answers
  ended-at : (v : Verifies) (t : T) (c : CoreDoc) (k : Held K Receipt C) (answers : List AnswerDoc) (last : CoreDoc) (kept : Held K Receipt C) (o : Result LoadedDoc Failure) → IsFresh c
      → Untouched files 0 (view k.keeping.keeper) → (l : LoadedDoc) → LoadsAt refuses serves v base t c served l.known.start l
      → Begins refuses serves keeps reads may_give yields v base t l.known.start answers
      → Leads refuses serves keeps reads may_give yields v base t c k answers last kept → ended last.stage ≡ Some o → IsFineOutcome o → o ≡ Ok l
  ended-at v t c k answers last kept o fresh untouched l at begins led end fine =
      let each = all-fine refuses serves keeps reads may_give yields v base t l.known.start answers c k last kept o led (λ is. begins) end fine in
      let whole = all refuses serves tells files count told v keeps reads may_give yields view (vault v) (look v) base t served l.known.start l.known.root
      answers c k last kept at.loadable.root at.loadable.no_next (subst (Alone v c.setting served l.known.start l.known.root at.loadable.root at.loadable.no_next) (sym fresh) tt)
      (subst (λ s. Untouched files (phase s) (view k.keeping.keeper)) (sym fresh) untouched) at.served led each in
      ends-so v c answers l last o (loads v c served l answers fresh at.loadable whole.0) whole.1 end fine

  ends-honest : (v : Verifies) (t : T) (c : CoreDoc) (k : Held K Receipt C) (o : Result LoadedDoc Failure) (left : CoreDoc) (kept : Held K Receipt C) → IsFresh c
      → Untouched files 0 (view k.keeping.keeper)
      → Ends refuses serves keeps reads may_give yields v base t None c k o left kept → IsFineOutcome o → BeganAt may_give k.clock (Comes v t c o)
  ends-honest v t c k o left kept fresh untouched h fine =
      let led = h.1.1 in
      let first = first-moment refuses serves keeps reads may_give yields v base t (pos 0) h.1.0 c k h.0 kept o fresh led h.2 in (
        first.0,
        first.1,
        λ l at.
            let here = subst (λ (n : ℤ). LoadsAt refuses serves v base t c served n l) (sym at.start) at in
            let begins = subst (Begins refuses serves keeps reads may_give yields v base t l.known.start) (sym first.2.1) (ap got.Moment (sym at.start)) in
            ended-at v t c k h.1.0 h.0 kept o fresh untouched l here begins led h.2 fine,
      )

  -- the same, where the load's parts are those that were given
  pub begun-honest : {V : Type 0} (w : V → Verifies) (v v' : V) (t t' : T) (c c' : CoreDoc) (k k' : Held K Receipt C) (fetch : Option (Collect Y)) (o : Result LoadedDoc Failure) (left : CoreDoc) (kept : Held K Receipt C)
      → v ≡ v' → t ≡ t' → c ≡ c' → k ≡ k' → fetch ≡ None → IsFresh c'
      → Untouched files 0 (view k'.keeping.keeper)
      → Ends refuses serves keeps reads may_give yields (w v) base t fetch c k o left kept → IsFineOutcome o → BeganAt may_give k'.clock (Comes (w v') t' c' o)
  begun-honest w v v' t t' c c' k k' fetch o left kept ev et ec ek none fresh untouched h fine =
      let h1 = subst (λ x. Ends refuses serves keeps reads may_give yields (w x) base t fetch c k o left kept) ev h in
      let h2 = subst (λ x. Ends refuses serves keeps reads may_give yields (w v') base x fetch c k o left kept) et h1 in
      let h3 = subst (λ x. Ends refuses serves keeps reads may_give yields (w v') base t' fetch x k o left kept) ec h2 in
      let h4 = subst (λ x. Ends refuses serves keeps reads may_give yields (w v') base t' fetch c' x o left kept) ek h3 in
      let h5 = subst (λ x. Ends refuses serves keeps reads may_give yields (w v') base t' x c' k' o left kept) none h4 in
      ends-honest (w v') t' c' k' o left kept fresh untouched h5 fine
