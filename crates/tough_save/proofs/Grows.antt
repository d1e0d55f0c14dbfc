-- How a saving goes on at its front.
use Rattle.std.specs.Prelude.{◌≡◌, ℕ, List, [], ◌∷◌, ◌++◌, Result, Ok, Err, Some, None, IfErr, refl}
use Rattle.std.proofs.Common.{append_assoc, append-nil, inl, inr, sym, subst}
use Rattle.futures.specs.Runs.{Runs, After, Within}
use Rattle.tough_files.specs.Calls.{Told, told_of, append_to, rename_to, done}
use Rattle.tough_net.specs.declared.error.TransportError.{TransportError}
use Rattle.tough_net.specs.Items.{Item}
use Rattle.tough_save.specs.declared.error.SaveError.{SaveError}
use Rattle.tough_save.specs.declared.error.SaveError.TheVariants as error
use Rattle.tough_save.specs.declared.error.Step.TheVariants as step
use Rattle.tough_save.specs.Errors.{IsOfFiles}
use Rattle.tough_save.specs.Savings.{appended, Discards, Tries, Renamed, Saves, Tells}

module _ (source later : Runs Item) (within : Within source later) where
  pub Tells-Within : (r : Result (Unit {0}) SaveError) → Tells later r → Tells source r
  Tells-Within (Ok u) h = (h.0, within _ _ h.1)
  Tells-Within (Err (error.Transport fault)) h = (h.0, within _ _ h.1)
  Tells-Within (Err (error.Refused _ _ _)) h = h
  Tells-Within (Err (error.NoFolder _)) h = h
  Tells-Within (Err (error.NoParent _)) h = h
  Tells-Within (Err (error.Outside _ _)) h = h
  Tells-Within (Err error.Memory) h = h

  module _ (temp path : List ℕ) (old new : List Told) where
    Renamed-Within : (r : Result (Unit {0}) SaveError) → Renamed later temp path r old new → Renamed source temp path r old new
    Renamed-Within r h = record { pieces = h.pieces; came = within _ _ h.came; told = h.told }

    pub Saves-Within : (r : Result (Unit {0}) SaveError) → Saves later temp path r old new → Saves source temp path r old new
    Saves-Within (Ok u) h = Renamed-Within (Ok u) h
    Saves-Within (Err e) (inl h) = inl (Renamed-Within (Err e) h)
    Saves-Within (Err e) (inr (inl h)) = inr (inl (record { pieces = h.pieces; piece = h.piece; came = within _ _ h.came; told = h.told }))
    Saves-Within (Err e) (inr (inr h)) = inr (inr (record { pieces = h.pieces; fault = h.fault; came = within _ _ h.came; tells = h.tells; told = h.told }))

module _ (source later : Runs Item) (piece : List ℕ) (after : After source (Ok piece) later) where
  pub Tells-After : (r : Result (Unit {0}) SaveError) → Tells later r → Tells source r
  Tells-After (Ok u) h = (piece ∷ h.0, after _ _ h.1)
  Tells-After (Err (error.Transport fault)) h = (piece ∷ h.0, after _ _ h.1)
  Tells-After (Err (error.Refused _ _ _)) h = h
  Tells-After (Err (error.NoFolder _)) h = h
  Tells-After (Err (error.NoParent _)) h = h
  Tells-After (Err (error.Outside _ _)) h = h
  Tells-After (Err error.Memory) h = h

  module _ (temp path : List ℕ) (old new : List Told) where
    -- one more piece, in front of the others
    front : (pieces : List (List ℕ)) → (old ++ told_of (append_to temp piece) done) ++ appended temp pieces ≡ old ++ appended temp (piece ∷ pieces)
    front pieces = append_assoc old (told_of (append_to temp piece) done) (appended temp pieces)

    Renamed-After : (r : Result (Unit {0}) SaveError) → Renamed later temp path r (old ++ told_of (append_to temp piece) done) new → Renamed source temp path r old new
    Renamed-After r h =
        let P : List Told → Type 0 = λ before. Tries (rename_to temp path) step.Rename path temp r before new in
        record { pieces = piece ∷ h.pieces; came = after _ _ h.came; told = subst P (front h.pieces) h.told }

    pub Saves-After : (r : Result (Unit {0}) SaveError) → Saves later temp path r (old ++ told_of (append_to temp piece) done) new → Saves source temp path r old new
    Saves-After (Ok u) h = Renamed-After (Ok u) h
    Saves-After (Err e) (inl h) = inl (Renamed-After (Err e) h)
    Saves-After (Err e) (inr (inl h)) =
        let P : List Told → Type 0 = λ before. Tries (append_to temp h.piece) step.Write temp temp (Err e) before new in
        inr (inl (record { pieces = piece ∷ h.pieces; piece = h.piece; came = after _ _ h.came; told = subst P (front h.pieces) h.told }))
    Saves-After (Err e) (inr (inr h)) =
        let P : List Told → Type 0 = λ before. Discards temp before new in
        inr (inr (record { pieces = piece ∷ h.pieces; fault = h.fault; came = after _ _ h.came; tells = h.tells; told = subst P (front h.pieces) h.told }))

module _ (source : Runs Item) (temp path : List ℕ) (old new : List Told) where
  Renamed_end : source [] None → (r : Result (Unit {0}) SaveError) → Tries (rename_to temp path) step.Rename path temp r old new → Renamed source temp path r old new
  Renamed_end came r h =
      let P : List Told → Type 0 = λ before. Tries (rename_to temp path) step.Rename path temp r before new in
      record { pieces = []; came = came; told = subst P (sym (append-nil old)) h }

  pub Saves_end : source [] None → (r : Result (Unit {0}) SaveError) → Tries (rename_to temp path) step.Rename path temp r old new → Saves source temp path r old new
  Saves_end came (Ok u) h = Renamed_end came (Ok u) h
  Saves_end came (Err e) h = inl (Renamed_end came (Err e) h)

  pub Saves_unwritten : (piece : List ℕ) (e : SaveError) → source [] (Some (Ok piece)) → Tries (append_to temp piece) step.Write temp temp (Err e) old new → Saves source temp path (Err e) old new
  Saves_unwritten piece e came h =
      let P : List Told → Type 0 = λ before. Tries (append_to temp piece) step.Write temp temp (Err e) before new in
      inr (inl (record { pieces = []; piece = piece; came = came; told = subst P (sym (append-nil old)) h }))

  pub Saves_broken : (fault : TransportError) → source [] (Some (Err fault)) → Discards temp old new → Saves source temp path (Err (error.Transport fault)) old new
  Saves_broken fault came h =
      let P : List Told → Type 0 = λ before. Discards temp before new in
      inr (inr (record { pieces = []; fault = fault; came = came; tells = refl; told = subst P (sym (append-nil old)) h }))

module _ (source : Runs Item) where
  pub Tells_of_files : (e : SaveError) → IsOfFiles e → Tells source (Err e)
  Tells_of_files (error.Refused _ _ _) h = h
  Tells_of_files error.Memory h = h
  Tells_of_files (error.NoFolder _) h = absurd h
  Tells_of_files (error.NoParent _) h = absurd h
  Tells_of_files (error.Outside _ _) h = absurd h
  Tells_of_files (error.Transport _) h = absurd h

  pub Tells_end : source [] None → (r : Result (Unit {0}) SaveError) → IfErr r IsOfFiles → Tells source r
  Tells_end came (Ok u) h = ([], came)
  Tells_end came (Err e) h = Tells_of_files e h
