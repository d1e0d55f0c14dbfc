-- What is promised after a file was taken was promised before.
use Rattle.std.proofs.Common.{◌≡◌, ◌⊎◌, ℕ, inl, inr, List, ◌∷◌, Bool, Result, Ok, Err, ap, subst}
use Rattle.tough_names.specs.Named.{Named}
use Rattle.tough_keys.specs.Same.{Verifies}
use Rattle.tough_checks.specs.declared.checks.StepError.{StepError}
use Rattle.tough_net.specs.declared.limits.Limits.{Limits}
use Rattle.tough_vault.specs.Act.{Act}
use Rattle.tough_update.specs.Stages.{LoadedDoc}
use Rattle.tough_client.specs.Repositories.{documents_of, limits_of, enforced_of}
use Rattle.tough_lazy.specs.Adding.{Adds, AddsNone}
use Rattle.tough_lazy.specs.Documents.{AddedDoc, Grows, IsSettled}
use Rattle.tough_lazy.specs.Fetching.{Remains, Takes, Settles, repository_in, verifier_in, name_in}
use Rattle.tough_lazy.specs.declared.error.FetchRolesError.{FetchRolesError}
use Rattle.tough_lazy.specs.declared.fetch.FetchRoles.{FetchRoles}

moved : (v w : Verifies) (m n : Limits) (b d : Bool) (x y : Named) (k l : LoadedDoc) (more : List AddedDoc) (end : LoadedDoc) → v ≡ w → m ≡ n → b ≡ d → x ≡ y → k ≡ l → Grows v m b x k more end → Grows w n d y l more end
moved v w m n b d x y k l more end hv hm hb hx hk h =
    subst (λ q. Grows w n d y q more end) hk (subst (λ q. Grows w n d q k more end) hx (subst (λ q. Grows w n q x k more end) hb (subst (λ q. Grows w q b x k more end) hm (subst (λ q. Grows q m b x k more end) hv h))))

module _ {T K C V S R : Type 0} (keeps : Verifies → K → Act → Result R StepError → K → Type 0) (verifies : V → Verifies) (old new : FetchRoles T K C V S R) where
  by-added : Remains old new → (bytes : List ℕ) → (Adds keeps (verifies (verifier_in old)) (name_in old) bytes (repository_in old).now (repository_in new).now ⊎ AddsNone (name_in old) (repository_in old).now (repository_in new).now)
      → Settles verifies new (Ok (tt {0})) → Settles verifies old (Ok (tt {0}))
  by-added r bytes (inl a) (more, l, grows, settled) =
      (a.stored.added ∷ more, l, (a.stored.needed, a.stored.is, moved _ _ _ _ _ _ _ _ _ _ more l (ap verifies r.verifier) r.served.limits r.served.enforced r.name a.placed grows), subst (λ q. IsSettled q l) r.name settled)
  by-added r bytes (inr a) (more, l, grows, settled) =
      (more, l, moved _ _ _ _ _ _ _ _ _ _ more l (ap verifies r.verifier) r.served.limits r.served.enforced r.name a.documents grows, subst (λ q. IsSettled q l) r.name settled)

  pub takes-settles : Remains old new → Takes keeps verifies old new → (r : Result Unit FetchRolesError) → Settles verifies new r → Settles verifies old r
  takes-settles r t (Ok u) h = by-added r t.bytes t.added h
  takes-settles r t (Err e) h = tt

pub either : {A B C : Type 0} → (A → B) → A ⊎ C → B ⊎ C
either f (inl a) = inl (f a)
either f (inr x) = inr x
