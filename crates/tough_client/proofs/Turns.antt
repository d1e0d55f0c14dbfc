-- How a cache follows from where it stands, turn by turn.
use Rattle.std.specs.Prelude.{◌≡◌, ℤ, ℕ, Bool, List, [], ◌∷◌, Option, Some, None, IsSomeAnd, Result, Ok, Err, string_bytes}
use Rattle.std.specs.Path.{path_join}
use Rattle.std.proofs.Common.{refl, sym, inl, inr, subst}
use Rattle.url.specs.Parts.{Parts}
use Rattle.futures.specs.declared.task.Poll.{Poll}
use Rattle.futures.specs.declared.task.Poll.TheVariants.{Ready, Pending}
use Rattle.futures.specs.Poll.{IfReady, OnPending}
use Rattle.futures.specs.Runs.{Runs}
use Rattle.tough_files.specs.Calls.{Told}
use Rattle.tough_keys.specs.Same.{Verifies}
use Rattle.tough_names.specs.declared.name.NameError.{NameError}
use Rattle.tough_names.specs.Named.{Named, GivesName}
use Rattle.tough_net.specs.declared.error.TransportError.{TransportError}
use Rattle.tough_net.specs.Items.{Item}
use Rattle.tough_vault.specs.Act.{Act}
use Rattle.tough_checks.specs.declared.checks.StepError.{StepError}
use Rattle.tough_trust.specs.Steps.{Keeping}
use Rattle.tough_error.specs.declared.error.Error.{Error}
use Rattle.tough_client.specs.declared.cache.Caching.{Caching}
use Rattle.tough_client.specs.declared.cache.Folders.{Folders}
use Rattle.tough_client.specs.declared.cache.Work.{Work}
use Rattle.tough_client.specs.declared.cache.Work.TheVariants as work
use Rattle.tough_client.specs.declared.plan.Plan.{Plan}
use Rattle.tough_client.specs.declared.plan.Served.{Served}
use Rattle.tough_client.specs.declared.plan.Turn.{Turn}
use Rattle.tough_client.specs.declared.plan.Turn.TheVariants as turn
use Rattle.tough_client.specs.declared.repository.Repository.{Repository}
use Rattle.tough_client.specs.Caching.{IsFetched, Ends, Follows, BeginsFile, CopiesFile, prefix_of, BeginsTarget, BeginsIf, SavesNamed, SavesText, Begins, Does, Caches, GoesOnCaching, Continues, HasBegun, GoesOnPlan}
use Rattle.tough_client.specs.Plans.{left_in}
use Rattle.tough_client.specs.Repositories.{IsKept, documents_of, keeping_of}
use Rattle.tough_client.specs.Saving.{Finishes}
use Rattle.tough_client.proofs.Savings.{saves}

-- what holds anyway holds where it waits
pub anyway : {A X : Type 0} (p : Poll A) → X → OnPending p X
anyway (Ready a) x = tt
anyway Pending x = x

module _ {T K C S R : Type 0} (refuses : T → Parts → TransportError → Type 0) (serves : T → Parts → Runs Item) (yields : S → Runs Item) (can_poll : S → Type 0)
    (keeps : Verifies → K → Act → Result R StepError → K → Type 0) (may_give : C → ℤ → Type 0) (tells : Bool) where
  module _ (r : Repository T K C R) (dirs : Folders) (old mid : List Told) (next : Keeping K R) where
    target_ended : (dir : List ℕ) (name : Named) (w : Work S) (new : List Told) (result : Result (Unit {0}) Error) → BeginsTarget refuses serves yields can_poll keeps may_give tells r dir name old mid next (Ok (Some w))
        → Ends tells yields w mid new result → SavesNamed refuses serves yields can_poll keeps may_give tells r dir name old new next result
    target_ended dir name (work.Target n s) new result h e =
        saves refuses serves yields can_poll keeps may_give tells r name dir (prefix_of (documents_of r)) old mid next s h.1 new result (subst (λ m. Finishes yields tells m s mid new result) h.0 e)
    target_ended dir name (work.File path f) new result h e = absurd h

    named_ended : (dir text : List ℕ) (name : Result Named NameError) (w : Work S) (new : List Told) (result : Result (Unit {0}) Error) → GivesName text name
        → BeginsIf refuses serves yields can_poll keeps may_give tells r dir name old mid next (Ok (Some w)) → Ends tells yields w mid new result
        → SavesText refuses serves yields can_poll keeps may_give tells r dir text old new next result
    named_ended dir text (Ok name) w new result gives h e = (Ok name, gives, target_ended dir name w new result h e)
    named_ended dir text (Err why) w new result gives h e = absurd h

    file_ended : (dir : List ℕ) (s : Served) (w : Work S) (new : List Told) (result : Result (Unit {0}) Error) → BeginsFile refuses serves yields r dir s (Ok (Some w)) → mid ≡ old
        → Ends tells yields w mid new result → CopiesFile refuses serves yields r dir s tells old new result
    file_ended dir s (work.Target name saving) new result h same e = absurd h.2
    file_ended dir s (work.File path f) new result h same e =
        let P : List ℕ → Type 0 = λ p. IsFetched tells yields p f mid new result in
        let Q : List Told → Type 0 = λ calls. IsFetched tells yields (path_join dir h.0.name) f calls new result in
        inr (h.0, h.1, record { fetch = f; started = h.2.1; fetched = subst Q same (subst P h.2.0 e) })

    -- what a turn does, once what it started has ended
    ended : (t : Turn) (w : Work S) (new : List Told) (result : Result (Unit {0}) Error) → Begins refuses serves yields can_poll keeps may_give tells r dirs t old mid next (Ok (Some w))
        → Ends tells yields w mid new result → Does refuses serves yields can_poll keeps may_give tells r dirs t old new next result
    ended (turn.Named text) w new result h e = named_ended dirs.targets.now (string_bytes text) h.0 w new result h.1 h.2 e
    ended (turn.Target name) w new result h e = target_ended dirs.targets.now name w new result h e
    ended (turn.File s) w new result h e = (file_ended dirs.metadata.now s w new result h.0 h.1 e, h.2)
    ended (turn.Role place) w new result h e = absurd h.0

    named_done : (dir text : List ℕ) (name : Result Named NameError) (u : Unit {0}) → GivesName text name → BeginsIf refuses serves yields can_poll keeps may_give tells r dir name old mid next (Ok None)
        → SavesText refuses serves yields can_poll keeps may_give tells r dir text old mid next (Ok u)
    named_done dir text (Ok name) u gives h = absurd h
    named_done dir text (Err why) u gives h = absurd h

    -- the same where it was done at once
    done : (t : Turn) (u : Unit {0}) → Begins {S = S} refuses serves yields can_poll keeps may_give tells r dirs t old mid next (Ok None) → Does {S = S} refuses serves yields can_poll keeps may_give tells r dirs t old mid next (Ok u)
    done (turn.Named text) u h = named_done dirs.targets.now (string_bytes text) h.0 u h.1 h.2
    done (turn.Target name) u h = absurd h
    done (turn.File s) u h = absurd h.0
    done (turn.Role place) u h = (h.0.1, h.1)

    named_failed : (dir text : List ℕ) (name : Result Named NameError) (e : Error) → GivesName text name → BeginsIf refuses serves yields can_poll keeps may_give tells r dir name old mid next (Err e)
        → SavesText refuses serves yields can_poll keeps may_give tells r dir text old mid next (Err e)
    named_failed dir text (Ok name) e gives h = (Ok name, gives, inl h)
    named_failed dir text (Err why) e gives h = (Err why, gives, h)

    -- the same where it couldn't start
    failed : (t : Turn) (e : Error) → Begins {S = S} refuses serves yields can_poll keeps may_give tells r dirs t old mid next (Err e) → Does {S = S} refuses serves yields can_poll keeps may_give tells r dirs t old mid next (Err e)
    failed (turn.Named text) e h = named_failed dirs.targets.now (string_bytes text) h.0 e h.1 h.2
    failed (turn.Target name) e h = inl h
    failed (turn.File s) e h = (inl (λ t. h.1, h.0), h.2)
    failed (turn.Role place) e h = h

  module _ (r : Repository T K C R) (dirs : Folders) (old mid : List Told) (c : Caching S) where
    -- ---- something is under way
    module _ (w : Work S) (is : c.work ≡ Some w) where
      pub work_failed : (e : Error) → Ends tells yields w old mid (Err e) → GoesOnCaching refuses serves yields can_poll keeps may_give tells c.work (left_in c.plan) r dirs old mid (keeping_of r) (Err e)
      work_failed e h = rw is (inl (h, tt, refl))

      later_ends : (o : Option (Work S)) (ts : List Turn) (new : List Told) (next : Keeping K R) (result : Result (Unit {0}) Error) → IsSomeAnd o (Follows tells yields w old mid)
          → GoesOnCaching refuses serves yields can_poll keeps may_give tells o ts r dirs mid new next result → GoesOnCaching refuses serves yields can_poll keeps may_give tells (Some w) ts r dirs old new next result
      later_ends None ts new next result follows h = absurd follows
      later_ends (Some w') ts new next result follows (inl h) = inl (follows result new h.0, h.1, h.2)
      later_ends (Some w') ts new next result follows (inr h) = inr (h.0, h.1, follows (Ok h.0) h.1 h.2, h.3)

      pub work_waits : (o : Option (Work S)) → IsSomeAnd o (Follows tells yields w old mid)
          → Continues refuses serves yields can_poll keeps may_give tells c r dirs old mid r (record { work = o; plan = c.plan })
      work_waits o follows = λ result new next h. rw is (later_ends o (left_in c.plan) new next result follows h)

      pub work_ended : (o : Option (Work S)) (u : Unit {0}) → Ends tells yields w old mid (Ok u) → o ≡ None
          → Continues refuses serves yields can_poll keeps may_give tells c r dirs old mid r (record { work = o; plan = c.plan })
      work_ended o u ends none = λ result new next h.
          let P : Option (Work S) → Type 0 = λ x. GoesOnCaching refuses serves yields can_poll keeps may_give tells x (left_in c.plan) r dirs mid new next result in
          rw is (inr (u, mid, ends, subst P none h))

    -- ---- nothing is under way
    module _ (is : c.work ≡ None) where
      pub all_done : left_in c.plan ≡ [] → (u : Unit {0}) → GoesOnCaching refuses serves yields can_poll keeps may_give tells c.work (left_in c.plan) r dirs old old (keeping_of r) (Ok u)
      all_done none u = rw (is, none) (λ t. refl, refl, tt)

      module _ (t : Turn) (p : Plan) (planned : left_in c.plan ≡ t ∷ left_in p) (later : Repository T K C R) where
        pub turn_failed : (e : Error) → Begins {S = S} refuses serves yields can_poll keeps may_give tells r dirs t old mid (keeping_of later) (Err e)
            → GoesOnCaching refuses serves yields can_poll keeps may_give tells c.work (left_in c.plan) r dirs old mid (keeping_of later) (Err e)
        turn_failed e h = rw (is, planned) (inl (failed r dirs old mid (keeping_of later) t e h, tt))

        goes_on : (o : Option (Work S)) → IsKept r later → Begins refuses serves yields can_poll keeps may_give tells r dirs t old mid (keeping_of later) (Ok o)
            → (new : List Told) (next : Keeping K R) (result : Result (Unit {0}) Error) → GoesOnCaching refuses serves yields can_poll keeps may_give tells o (left_in p) later dirs mid new next result
            → Caches {S = S} refuses serves yields can_poll keeps may_give tells (t ∷ left_in p) r dirs old new next result
        goes_on None kept begun new next result h = inr (tt, mid, later, done r dirs old mid (keeping_of later) t tt begun, kept, h)
        goes_on (Some w) kept begun new next result (inl h) =
            inl (subst (λ k. Does {S = S} refuses serves yields can_poll keeps may_give tells r dirs t old new k result) (sym h.2) (ended r dirs old mid (keeping_of later) t w new result begun h.0), h.1)
        goes_on (Some w) kept begun new next result (inr h) =
            inr (h.0, h.1, later, ended r dirs old mid (keeping_of later) t w h.1 (Ok h.0) begun h.2, kept, h.3)

        pub turn_begun : (o : Option (Work S)) → IsKept r later → Begins refuses serves yields can_poll keeps may_give tells r dirs t old mid (keeping_of later) (Ok o)
            → Continues refuses serves yields can_poll keeps may_give tells c r dirs old mid later (record { work = o; plan = p })
        turn_begun o kept begun = λ result new next h. rw (is, planned) (goes_on o kept begun new next result h)

  -- ---- the whole
  module _ (makes : List Told → List Told → Result (Unit {0}) Error → Type 0) (plans : List Turn → Type 0) (r : Repository T K C R) (dirs : Folders) (old mid : List Told) (o : Option (Caching S)) where
    abbrev May : Result (Unit {0}) Error → Type 0
    May result = (calls : List Told) × (k : Keeping K R) × GoesOnPlan refuses serves yields can_poll keeps may_give tells makes plans o r dirs old calls k result

    module _ (is : o ≡ None) where
      pub unbegun : (e : Error) → HasBegun {S = S} (makes old mid) plans (Err e) → GoesOnPlan refuses serves yields can_poll keeps may_give tells makes plans o r dirs old mid (keeping_of r) (Err e)
      unbegun e h = rw is (inl (h, refl))

      pub unbegun_value : (e : Error) → HasBegun {S = S} (makes old mid) plans (Err e) → May (Err e)
      unbegun_value e h = (mid, keeping_of r, unbegun e h)

      from_begun : (c : Caching S) → HasBegun (makes old mid) plans (Ok c) → (new : List Told) (next : Keeping K R) (result : Result (Unit {0}) Error)
          → GoesOnCaching refuses serves yields can_poll keeps may_give tells c.work (left_in c.plan) r dirs mid new next result
          → GoesOnPlan refuses serves yields can_poll keeps may_give tells makes plans o r dirs old new next result
      from_begun c h new next result g =
          let P : Option (Work S) → Type 0 = λ w. GoesOnCaching refuses serves yields can_poll keeps may_give tells w (left_in c.plan) r dirs mid new next result in
          rw is (inr (h.0, mid, left_in c.plan, h.1, h.3, subst P h.2 g))

      pub begun : (c : Caching S) → HasBegun (makes old mid) plans (Ok c) → (o' : Option (Caching S)) → o' ≡ Some c → (result : Result (Unit {0}) Error)
          → ((calls : List Told) × (k : Keeping K R) × GoesOnPlan refuses serves yields can_poll keeps may_give tells makes plans o' r dirs mid calls k result) → May result
      begun c h o' is' result g =
          let P : Option (Caching S) → Type 0 = λ x. GoesOnPlan refuses serves yields can_poll keeps may_give tells makes plans x r dirs mid g.0 g.1 result in
          (g.0, g.1, from_begun c h g.0 g.1 result (subst P is' g.2))

      pub begun_same : (c : Caching S) → HasBegun (makes old mid) plans (Ok c) → (o' : Option (Caching S)) → o' ≡ Some c → (result : Poll (Result (Unit {0}) Error))
          → OnPending result ((x : Result (Unit {0}) Error) → ((calls : List Told) × (k : Keeping K R) × GoesOnPlan refuses serves yields can_poll keeps may_give tells makes plans o' r dirs mid calls k x) → May x)
      begun_same c h o' is' (Ready x) = tt
      begun_same c h o' is' Pending = begun c h o' is'

      pub begun_follows : (c : Caching S) → HasBegun (makes old mid) plans (Ok c) → (o' : Option (Caching S)) → o' ≡ Some c → (result : Poll (Result (Unit {0}) Error))
          → OnPending result ((x : Result (Unit {0}) Error) (calls : List Told) (k : Keeping K R) → GoesOnPlan refuses serves yields can_poll keeps may_give tells makes plans o' r dirs mid calls k x → GoesOnPlan refuses serves yields can_poll keeps may_give tells makes plans o r dirs old calls k x)
      begun_follows c h o' is' (Ready x) = tt
      begun_follows c h o' is' Pending = λ x calls k g.
          let Q : Option (Caching S) → Type 0 = λ z. GoesOnPlan refuses serves yields can_poll keeps may_give tells makes plans z r dirs mid calls k x in
          from_begun c h calls k x (subst Q is' g)

    module _ (c : Caching S) (is : o ≡ Some c) where
      pub goes : (new : List Told) (next : Keeping K R) (result : Result (Unit {0}) Error) → GoesOnCaching refuses serves yields can_poll keeps may_give tells c.work (left_in c.plan) r dirs old new next result
          → GoesOnPlan refuses serves yields can_poll keeps may_give tells makes plans o r dirs old new next result
      goes new next result h = rw is h

      pub goes_value : (new : List Told) (next : Keeping K R) (result : Poll (Result (Unit {0}) Error)) → IfReady result (GoesOnCaching refuses serves yields can_poll keeps may_give tells c.work (left_in c.plan) r dirs old new next)
          → IfReady result May
      goes_value new next (Ready x) h = (new, next, goes new next x h)
      goes_value new next Pending h = h

      pub continues : (plans' : List Turn → Type 0) (later : Repository T K C R) (c' : Caching S) → Continues refuses serves yields can_poll keeps may_give tells c r dirs old mid later c'
          → (o' : Option (Caching S)) → o' ≡ Some c' → (result : Result (Unit {0}) Error)
          → ((calls : List Told) × (k : Keeping K R) × GoesOnPlan refuses serves yields can_poll keeps may_give tells makes plans' o' later dirs mid calls k result) → May result
      continues plans' later c' h o' is' result g =
          let P : Option (Caching S) → Type 0 = λ x. GoesOnPlan refuses serves yields can_poll keeps may_give tells makes plans' x later dirs mid g.0 g.1 result in
          (g.0, g.1, goes g.0 g.1 result (h result g.0 g.1 (subst P is' g.2)))

      pub continues_same : (plans' : List Turn → Type 0) (later : Repository T K C R) (c' : Caching S) (o' : Option (Caching S)) → o' ≡ Some c' → (result : Poll (Result (Unit {0}) Error))
          → OnPending result (Continues refuses serves yields can_poll keeps may_give tells c r dirs old mid later c')
          → OnPending result ((x : Result (Unit {0}) Error) → ((calls : List Told) × (k : Keeping K R) × GoesOnPlan refuses serves yields can_poll keeps may_give tells makes plans' o' later dirs mid calls k x) → May x)
      continues_same plans' later c' o' is' (Ready x) h = h
      continues_same plans' later c' o' is' Pending h = continues plans' later c' h o' is'

      -- the calls and the steps that follow the later one follow this one
      pub continues_follows : (plans' : List Turn → Type 0) (later : Repository T K C R) (c' : Caching S) (o' : Option (Caching S)) → o' ≡ Some c' → (result : Poll (Result (Unit {0}) Error))
          → OnPending result (Continues refuses serves yields can_poll keeps may_give tells c r dirs old mid later c')
          → OnPending result ((x : Result (Unit {0}) Error) (calls : List Told) (k : Keeping K R) → GoesOnPlan refuses serves yields can_poll keeps may_give tells makes plans' o' later dirs mid calls k x → GoesOnPlan refuses serves yields can_poll keeps may_give tells makes plans o r dirs old calls k x)
      continues_follows plans' later c' o' is' (Ready x) h = h
      continues_follows plans' later c' o' is' Pending h = λ x calls k g.
          let Q : Option (Caching S) → Type 0 = λ z. GoesOnPlan refuses serves yields can_poll keeps may_give tells makes plans' z later dirs mid calls k x in
          goes calls k x (h x calls k (subst Q is' g))
