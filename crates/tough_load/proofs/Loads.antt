-- How what a load may come to follows from one step of it.
use Rattle.std.specs.Prelude.{◌≡◌, ℕ, ℤ, List, [], ◌∷◌, Result, Option, Some, None, IfSome, IsSome, Vec, option_map}
use Rattle.std.specs.declared.alloc.Global.{Global}
use Rattle.std.proofs.Common.{refl, sym, ap, ◌∙◌, inr, subst}
use Rattle.url.specs.Parts.{Parts}
use Rattle.futures.specs.Runs.{Runs}
use Rattle.tough_keys.specs.Same.{Verifies}
use Rattle.tough_checks.specs.declared.checks.StepError.{StepError}
use Rattle.tough_net.specs.declared.error.TransportError.{TransportError}
use Rattle.tough_net.specs.declared.collect.Collect.{Collect}
use Rattle.tough_net.specs.Items.{Item}
use Rattle.tough_net.specs.Collecting.{Bounds, Collects, collected, held_by}
use Rattle.tough_net.proofs.lemmas.Collect.{Collects-Within}
use Rattle.tough_trust.specs.Requests.{RequestDoc}
use Rattle.tough_trust.specs.Failure.{Failure}
use Rattle.tough_trust.specs.Steps.{ReadsRoot}
use Rattle.tough_update.specs.Stages.{LoadedDoc, CoreDoc, handed_out}
use Rattle.tough_update.specs.Questions.{Question}
use Rattle.tough_update.specs.Questions as ask
use Rattle.tough_update.specs.Answered.{AnswerDoc}
use Rattle.tough_update.specs.Counts.{with_fetch, with_tree}
use Rattle.tough_update.specs.Counted.{Counted, turned}
use Rattle.tough_update.specs.View.{core_doc, counts_of}
use Rattle.tough_update.specs.declared.machine.Core.{Core}
use Rattle.tough_update.specs.Machine.{question}
use Rattle.tough_update.specs.Promises.{Goes, ended}
use Rattle.tough_vault.specs.Act.{Act}
use Rattle.tough_load.specs.Fetching.{Comes, IsStarted, answer_of, bounds}
use Rattle.tough_load.specs.declared.load.Load.{Load}
use Rattle.tough_load.specs.Loading.{Held, Allows, Reaches, Walks}
use Rattle.tough_load.specs.Counting.{HasCounted, EndsCounting}
use Rattle.tough_load.specs.Advancing.{MayReach, MayGive, Stays, Advances, Finishes}
use Rattle.tough_load.specs.Words.{transport_of, base_of, verifier_of, settings_of, keeping_of, held_of, core_of, fetch_of}
use Rattle.tough_load.proofs.Trails.{Walks_same, step-walks, look-walks, Walks-trans}
use Rattle.tough_load.proofs.Going.{keeps-setting, done-at}

module _ {T S K R C : Type 0} (refuses : T → Parts → TransportError → Type 0) (serves : T → Parts → Runs Item) (keeps : Verifies → K → Act → Result R StepError → K → Type 0) (reads : ReadsRoot K) (may_give : C → ℤ → Type 0) (yields : S → Runs Item)
    (verifies : Verifies) (base : Parts) (t : T) where
  -- a poll of the fetch that is pending
  Reaches_pending : (fetch : Option (Collect S)) (f f' : Collect S) (c : CoreDoc) (k : Held K R C) (c' : CoreDoc) (k' : Held K R C)
      → fetch ≡ Some f → ((r : Result (Vec ℕ Global) TransportError) → Comes yields f' r → Comes yields f r)
      → Reaches refuses serves keeps reads may_give yields verifies base t (Some f') c k c' k' → Reaches refuses serves keeps reads may_give yields verifies base t fetch c k c' k'
  Reaches_pending fetch f f' c k c' k' is same h = rw is (h.0, h.1, h.2, same h.0 h.3, h.4, h.5)

  -- the fetch is done
  Reaches_came : (fetch : Option (Collect S)) (f : Collect S) (outcome : Result (Vec ℕ Global) TransportError) (a : AnswerDoc) (c next : CoreDoc) (k : Held K R C) (c' : CoreDoc) (k' : Held K R C)
      → fetch ≡ Some f → Comes yields f outcome → a ≡ answer_of outcome → Goes verifies c a next
      → Reaches refuses serves keeps reads may_give yields verifies base t None next k c' k' → Reaches refuses serves keeps reads may_give yields verifies base t fetch c k c' k'
  Reaches_came fetch f outcome a c next k c' k' is came e goes h = rw is (outcome, next, h.0, came, subst (λ x. Goes verifies c x next) e goes, h.1)

  -- an answer without a fetch that runs
  Reaches_answer : (fetch : Option (Collect S)) (a : AnswerDoc) (c next : CoreDoc) (k l : Held K R C) (c' : CoreDoc) (k' : Held K R C)
      → fetch ≡ None → Allows refuses serves keeps reads may_give yields verifies base t (question c) k a l → Goes verifies c a next
      → Reaches refuses serves keeps reads may_give yields verifies base t fetch next l c' k' → Reaches refuses serves keeps reads may_give yields verifies base t fetch c k c' k'
  Reaches_answer fetch a c next k l c' k' is allowed goes = rw is (λ h. (a ∷ h.0, (next, l, allowed, goes, h.1)))

  -- a fetch begins
  Reaches_started : (fetch : Option (Collect S)) (f : Collect S) (r : RequestDoc) (c : CoreDoc) (k : Held K R C) (c' : CoreDoc) (k' : Held K R C)
      → fetch ≡ None → question c ≡ ask.Fetch r → IsStarted serves yields t base r f
      → Reaches refuses serves keeps reads may_give yields verifies base t (Some f) c k c' k' → Reaches refuses serves keeps reads may_give yields verifies base t fetch c k c' k'
  Reaches_started fetch f r c k c' k' is asked s h =
      let came : Collects (bounds s.url r) (yields (collected f)) [] h.0 = subst (λ (x : List ℕ). Collects (bounds s.url r) (yields (collected f)) x h.0) s.fresh (subst (λ (b : Bounds). Collects b (yields (collected f)) (held_by f) h.0) s.asked h.3) in
      let served = Collects-Within (bounds s.url r) (serves t s.url) (yields (collected f)) [] s.served h.0 came in
      rw is (answer_of h.0 ∷ h.2, (h.1, k, rw asked (inr (inr (s.url, s.joined, inr (h.0, refl, served))), refl), h.4, h.5))

-- what holds at some parts holds at equal ones
at_equal : {X Y Z : Type 0} (P : X → Y → Z → Type 0) (x x' : X) (y y' : Y) (z z' : Z) → x ≡ x' → y ≡ y' → z ≡ z' → P x y z → P x' y' z'
at_equal P x x' y y' z z' e f g h = subst (λ w. P x' y' w) g (subst (λ w. P x' w z) f (subst (λ w. P w y z) e h))

-- an answer is counted
counts-on : (v : Verifies) (old new : Core) (a : AnswerDoc) → Goes v (core_doc old) a (core_doc new) → counts_of new ≡ with_tree (core_doc new).stage (with_fetch (core_doc old).stage a (counts_of old)) → HasCounted v old → HasCounted v new
counts-on v old new a goes counts h = subst (λ n. Counted v (core_doc new) n) (sym counts) (turned (core_doc old) (core_doc new) (counts_of old) a h goes)

module _ {T K R C : Type 0} (refuses : T → Parts → TransportError → Type 0) (serves : T → Parts → Runs Item) (keeps : Verifies → K → Act → Result R StepError → K → Type 0) (reads : ReadsRoot K) (may_give : C → ℤ → Type 0) {S : Type 0} (yields : S → Runs Item) where
  pub allows-walks : (v : Verifies) (base : Parts) (t : T) (q : Question) (k : Held K R C) (a : AnswerDoc) (next : Held K R C) → Allows refuses serves keeps reads may_give yields v base t q k a next → Walks keeps reads v k.keeping next.keeping
  allows-walks v base t ask.Moment k a next h = Walks_same keeps reads v k.keeping next.keeping h.3
  allows-walks v base t (ask.Stored first) k a next (r, e, held, put, same) = look-walks keeps reads v first r k.keeping next.keeping held put
  allows-walks v base t (ask.Fetch r) k a next h = Walks_same keeps reads v k.keeping next.keeping (ap (λ (x : Held K R C). x.keeping) h.1)
  allows-walks v base t (ask.Step act) k a next (s, e, h, same) = step-walks keeps reads v act k.keeping next.keeping s h
  allows-walks v base t ask.Ready k a next h = absurd h

module _ {T K C V S R : Type 0} (refuses : T → Parts → TransportError → Type 0) (serves : T → Parts → Runs Item) (keeps : Verifies → K → Act → Result R StepError → K → Type 0) (reads : ReadsRoot K) (may_give : C → ℤ → Type 0) (yields : S → Runs Item)
    (verifies : V → Verifies) where
  -- a load goes on as these parts do
  module _ (old new : Load T K C V S R) (tr : transport_of new ≡ transport_of old) (ba : base_of new ≡ base_of old) (ve : verifier_of new ≡ verifier_of old) (se : settings_of new ≡ settings_of old) where
    at_old : (f : Option (Collect S)) (c : CoreDoc) (k : Held K R C) (c' : CoreDoc) (k' : Held K R C) → Reaches refuses serves keeps reads may_give yields (verifies (verifier_of new)) (base_of new) (transport_of new) f c k c' k'
        → Reaches refuses serves keeps reads may_give yields (verifies (verifier_of old)) (base_of old) (transport_of old) f c k c' k'
    at_old f c k c' k' h = at_equal (λ v b t. Reaches refuses serves keeps reads may_give yields (verifies v) b t f c k c' k') (verifier_of new) (verifier_of old) (base_of new) (base_of old) (transport_of new) (transport_of old) ve ba tr h

    -- an answer that was allowed
    pub by-answer : (a : AnswerDoc) → fetch_of old ≡ None → fetch_of new ≡ None
        → Allows refuses serves keeps reads may_give yields (verifies (verifier_of old)) (base_of old) (transport_of old) (question (core_doc (core_of old))) (held_of old) a (held_of new)
        → Goes (verifies (verifier_of old)) (core_doc (core_of old)) a (core_doc (core_of new))
        → counts_of (core_of new) ≡ with_tree (core_doc (core_of new)).stage (with_fetch (core_doc (core_of old)).stage a (counts_of (core_of old)))
        → Advances refuses serves keeps reads may_give yields verifies old new
    by-answer a idle none allowed goes counts = record {
      stays = record { transport = tr; base = ba; verifier = ve; settings = se; setting = keeps-setting (verifies (verifier_of old)) (core_doc (core_of old)) a (core_doc (core_of new)) goes; walked = allows-walks refuses serves keeps reads may_give yields (verifies (verifier_of old)) (base_of old) (transport_of old) (question (core_doc (core_of old))) (held_of old) a (held_of new) allowed };
      follows = λ c k h. Reaches_answer refuses serves keeps reads may_give yields (verifies (verifier_of old)) (base_of old) (transport_of old) (fetch_of old) a (core_doc (core_of old)) (core_doc (core_of new)) (held_of old) (held_of new) c k idle allowed goes
          (subst (λ f. Reaches refuses serves keeps reads may_give yields (verifies (verifier_of old)) (base_of old) (transport_of old) f (core_doc (core_of new)) (held_of new) c k) (none ∙ sym idle) (at_old (fetch_of new) (core_doc (core_of new)) (held_of new) c k h));
      counted = counts-on (verifies (verifier_of old)) (core_of old) (core_of new) a goes counts;
    }

    module _ (ke : held_of new ≡ held_of old) (f' : Collect S) (running : fetch_of new ≡ Some f') where
      kept : core_of new ≡ core_of old → Stays refuses serves keeps reads may_give yields verifies old new
      kept co = record { transport = tr; base = ba; verifier = ve; settings = se; setting = ap (λ m. (core_doc m).setting) co; walked = Walks_same keeps reads (verifies (verifier_of old)) (keeping_of old) (keeping_of new) (ap (λ (x : Held K R C). x.keeping) ke) }

      still : core_of new ≡ core_of old → HasCounted (verifies (verifier_of old)) (core_of old) → HasCounted (verifies (verifier_of old)) (core_of new)
      still co h = subst (HasCounted (verifies (verifier_of old))) (sym co) h

      at_fetch : (c : CoreDoc) (k : Held K R C) → core_of new ≡ core_of old → MayReach refuses serves keeps reads may_give yields verifies new c k
          → Reaches refuses serves keeps reads may_give yields (verifies (verifier_of old)) (base_of old) (transport_of old) (Some f') (core_doc (core_of old)) (held_of old) c k
      at_fetch c k co h = at_equal (λ x y z. Reaches refuses serves keeps reads may_give yields (verifies (verifier_of old)) (base_of old) (transport_of old) x (core_doc y) z c k) (fetch_of new) (Some f') (core_of new) (core_of old) (held_of new) (held_of old)
          running co ke (at_old (fetch_of new) (core_doc (core_of new)) (held_of new) c k h)

      -- a fetch begins
      pub by-start : (r : RequestDoc) → core_of new ≡ core_of old → fetch_of old ≡ None → question (core_doc (core_of old)) ≡ ask.Fetch r → IsStarted serves yields (transport_of old) (base_of old) r f' → Advances refuses serves keeps reads may_give yields verifies old new
      by-start r co idle asked s = record {
        stays = kept co;
        follows = λ c k h. Reaches_started refuses serves keeps reads may_give yields (verifies (verifier_of old)) (base_of old) (transport_of old) (fetch_of old) f' r (core_doc (core_of old)) (held_of old) c k idle asked s (at_fetch c k co h);
        counted = still co;
      }

      -- the fetch goes on
      pub by-poll : (f : Collect S) → core_of new ≡ core_of old → fetch_of old ≡ Some f → ((r : Result (Vec ℕ Global) TransportError) → Comes yields f' r → Comes yields f r) → Advances refuses serves keeps reads may_give yields verifies old new
      by-poll f co is same = record {
        stays = kept co;
        follows = λ c k h. Reaches_pending refuses serves keeps reads may_give yields (verifies (verifier_of old)) (base_of old) (transport_of old) (fetch_of old) f f' (core_doc (core_of old)) (held_of old) c k is same (at_fetch c k co h);
        counted = still co;
      }

    -- the fetch is done
    pub by-end : (f : Collect S) (outcome : Result (Vec ℕ Global) TransportError) (a : AnswerDoc) → held_of new ≡ held_of old → fetch_of old ≡ Some f → fetch_of new ≡ None → Comes yields f outcome → a ≡ answer_of outcome
        → Goes (verifies (verifier_of old)) (core_doc (core_of old)) a (core_doc (core_of new))
        → counts_of (core_of new) ≡ with_tree (core_doc (core_of new)).stage (with_fetch (core_doc (core_of old)).stage a (counts_of (core_of old)))
        → Advances refuses serves keeps reads may_give yields verifies old new
    by-end f outcome a ke is none came e goes counts = record {
      stays = record { transport = tr; base = ba; verifier = ve; settings = se; setting = keeps-setting (verifies (verifier_of old)) (core_doc (core_of old)) a (core_doc (core_of new)) goes; walked = Walks_same keeps reads (verifies (verifier_of old)) (keeping_of old) (keeping_of new) (ap (λ (x : Held K R C). x.keeping) ke) };
      follows = λ c k h. Reaches_came refuses serves keeps reads may_give yields (verifies (verifier_of old)) (base_of old) (transport_of old) (fetch_of old) f outcome a (core_doc (core_of old)) (core_doc (core_of new)) (held_of old) c k is came e goes
          (subst (λ x. Reaches refuses serves keeps reads may_give yields (verifies (verifier_of old)) (base_of old) (transport_of old) None (core_doc (core_of new)) x c k) ke
          (subst (λ x. Reaches refuses serves keeps reads may_give yields (verifies (verifier_of old)) (base_of old) (transport_of old) x (core_doc (core_of new)) (held_of new) c k) none (at_old (fetch_of new) (core_doc (core_of new)) (held_of new) c k h)));
      counted = counts-on (verifies (verifier_of old)) (core_of old) (core_of new) a goes counts;
    }

    -- nothing more is asked
    pub by-outcome : {X : Type 0} (view : X → Result LoadedDoc Failure) (o : Option X) → held_of new ≡ held_of old → fetch_of old ≡ None → option_map view o ≡ ended (core_doc (core_of old)).stage
        → (IsSome o → core_doc (core_of new) ≡ handed_out (core_doc (core_of old))) → counts_of (core_of new) ≡ counts_of (core_of old)
        → IfSome o (λ r. Finishes refuses serves keeps reads may_give yields verifies old (view r) new)
    by-outcome view None ke idle e l counts = tt
    by-outcome view (Some r) ke idle e l counts = record {
      stays = record { transport = tr; base = ba; verifier = ve; settings = se; setting = ap (λ (d : CoreDoc). d.setting) (l refl); walked = Walks_same keeps reads (verifies (verifier_of old)) (keeping_of old) (keeping_of new) (ap (λ (x : Held K R C). x.keeping) ke) };
      ends = (core_doc (core_of old), rw idle ([], (refl, ke)), sym e, l refl);
      counted = λ h. record { last = core_doc (core_of old); counted = subst (λ n. Counted (verifies (verifier_of old)) (core_doc (core_of old)) n) (sym counts) h; setting_is = refl; ended = done-at (core_doc (core_of old)).stage (view r) (sym e) };
    }

  pub advances-same : (l : Load T K C V S R) → Advances refuses serves keeps reads may_give yields verifies l l
  advances-same l = record { stays = record { transport = refl; base = refl; verifier = refl; settings = refl; setting = refl; walked = Walks_same keeps reads (verifies (verifier_of l)) (keeping_of l) (keeping_of l) refl }; follows = λ c k h. h; counted = λ h. h }

  module _ (a b c : Load T K C V S R) where
    stays-trans : Stays refuses serves keeps reads may_give yields verifies a b → Stays refuses serves keeps reads may_give yields verifies b c → Stays refuses serves keeps reads may_give yields verifies a c
    stays-trans f g = record {
      transport = g.transport ∙ f.transport;
      base = g.base ∙ f.base;
      verifier = g.verifier ∙ f.verifier;
      settings = g.settings ∙ f.settings;
      setting = g.setting ∙ f.setting;
      walked = Walks-trans keeps reads (verifies (verifier_of a)) (keeping_of a) (keeping_of b) (keeping_of c) f.walked (subst (λ v. Walks keeps reads (verifies v) (keeping_of b) (keeping_of c)) f.verifier g.walked);
    }

    -- what the second has counted, by its own verifier
    counts-at : Advances refuses serves keeps reads may_give yields verifies a b → HasCounted (verifies (verifier_of a)) (core_of a) → HasCounted (verifies (verifier_of b)) (core_of b)
    counts-at f h = subst (λ v. HasCounted (verifies v) (core_of b)) (sym f.stays.verifier) (f.counted h)

    pub advances-trans : Advances refuses serves keeps reads may_give yields verifies a b → Advances refuses serves keeps reads may_give yields verifies b c → Advances refuses serves keeps reads may_give yields verifies a c
    advances-trans f g = record { stays = stays-trans f.stays g.stays; follows = λ d k h. f.follows d k (g.follows d k h); counted = λ h. subst (λ v. HasCounted (verifies v) (core_of c)) f.stays.verifier (g.counted (counts-at f h)) }

    pub finishes-after : (o : Result LoadedDoc Failure) → Advances refuses serves keeps reads may_give yields verifies a b → Finishes refuses serves keeps reads may_give yields verifies b o c → Finishes refuses serves keeps reads may_give yields verifies a o c
    finishes-after o f h =
        let e = h.ends in
        record {
          stays = stays-trans f.stays h.stays;
          ends = (e.0, f.follows e.0 (held_of c) e.1, e.2, e.3);
          counted = λ had. subst (λ s. EndsCounting (verifies (verifier_of a)) s o (counts_of (core_of c))) f.stays.setting
              (subst (λ v. EndsCounting (verifies v) (core_doc (core_of b)).setting o (counts_of (core_of c))) f.stays.verifier (h.counted (counts-at f had)));
        }

    pub gives-after : (o : Result LoadedDoc Failure) → Advances refuses serves keeps reads may_give yields verifies a b → MayGive refuses serves keeps reads may_give yields verifies b o → MayGive refuses serves keeps reads may_give yields verifies a o
    gives-after o f h =
        let e = h.2 in
        (h.0, h.1, (e.0, f.follows e.0 h.1 e.1, e.2, e.3))
