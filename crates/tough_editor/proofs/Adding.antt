-- What adding a role comes to, from where it stands.
use Rattle.std.specs.Prelude.{◌≡◌, ℕ, List, [], Option, Some, None, Result, Ok, Err, Vec, OnOk, OnErr, IfErr}
use Rattle.std.specs.declared.alloc.Global.{Global}
use Rattle.std.proofs.Common.{sym, subst, ap, inr}
use Rattle.futures.specs.declared.task.Poll.{Poll}
use Rattle.futures.specs.declared.task.Poll.TheVariants.{Ready, Pending}
use Rattle.futures.specs.Poll.{OnPending}
use Rattle.futures.specs.Runs.{Runs}
use Rattle.url.specs.Parts.{Parts}
use Rattle.tough_net.specs.declared.collect.Collect.{Collect}
use Rattle.tough_net.specs.declared.error.TransportError.{TransportError}
use Rattle.tough_net.specs.Collecting.{Collects, collected, bounds_of, held_by}
use Rattle.tough_net.specs.Items.{Item}
use Rattle.tough_net.proofs.lemmas.Collect.{Collects-Within}
use Rattle.tough_roles.specs.declared.signed.Signed.{Signed}
use Rattle.tough_schema.specs.declared.targets.Targets.{Targets}
use Rattle.tough_edit.specs.Edits.{EditsDoc}
use Rattle.tough_error.specs.declared.error.Error.{Error}
use Rattle.tough_editor.specs.Editors.{EditorDoc}
use Rattle.tough_editor.specs.Fetched.{IsDocument, bounds_at}
use Rattle.tough_editor.specs.Adding.{RoleDoc, Delegates, IsKeyless, Ends, Begins, Adds}

-- the document that was fetched was delegated to, or not
pub ended : (a : RoleDoc) (o : Result (Vec ℕ Global) TransportError) (bytes : Vec ℕ Global) (s : Signed Targets) (old new : EditsDoc) (r : Result (Unit {0}) Error) → o ≡ Ok bytes → IsDocument bytes.items s
    → OnOk r (Delegates a s old new) → IfErr r (IsKeyless a s old) → OnErr r (new ≡ old) → Ends a o old new r
ended a o bytes s old new (Ok u) is d h k n = subst (λ x. Ends a x old new (Ok u)) (sym is) (s, d, h)
ended a o bytes s old new (Err w) is d h k n = subst (λ x. Ends a x old new (Err w)) (sym is) (n, inr (s, d, k))

-- what stays the same has the same edits
pub same_edits : {T : Type 0} (old new : EditorDoc EditsDoc T) (r : Result (Unit {0}) Error) → OnErr r (new ≡ old) → OnErr r (new.edits ≡ old.edits)
same_edits old new (Ok u) h = h
same_edits old new (Err w) h = ap (λ e. e.edits) h

module _ {T S : Type 0} (refuses : T → Parts → TransportError → Type 0) (serves : T → Parts → Runs Item) (yields : S → Runs Item) (e : EditorDoc EditsDoc T) (text : List ℕ) (a : RoleDoc) (f : Collect S) where
  -- what comes of a fetch that has begun might have come from its start
  pub begun-adds : Begins refuses serves yields e text a.name f → (new : EditsDoc) (r : Result (Unit {0}) Error) → Adds refuses serves yields (Some f) e text a new r → Adds refuses serves yields None e text a new r
  begun-adds (limits, t, limited, fetching, begun) new r (outcome, came, ended) =
      let rest = subst (λ h. Collects (bounds_of f) (yields (collected f)) h outcome) begun.fresh came in
      let bounded = subst (λ b. Collects b (yields (collected f)) [] outcome) begun.bounds rest in
      inr (record {
        limits = limits;
        limited = limited;
        transport = t;
        fetching = fetching;
        url = begun.url;
        at = begun.at;
        outcome = outcome;
        came = Collects-Within (bounds_at limits begun.url) (serves t begun.url) (yields (collected f)) [] begun.served outcome bounded;
        ended = ended;
      })

  pub begun_same : (o : Option (Collect S)) → o ≡ None → Begins refuses serves yields e text a.name f → (p : Poll (Result (Unit {0}) Error))
      → OnPending p ((r : Result (Unit {0}) Error) → ((new : EditsDoc) × Adds refuses serves yields (Some f) e text a new r) → ((new : EditsDoc) × Adds refuses serves yields o e text a new r))
  begun_same o is begun (Ready x) = tt
  begun_same o is begun Pending = λ r h. (h.0, subst (λ z. Adds refuses serves yields z e text a h.0 r) (sym is) (begun-adds begun h.0 r h.1))
