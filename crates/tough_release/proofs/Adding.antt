-- Targets of files are added, one after another.
use Rattle.std.proofs.Common.{◌≡◌, ℕ, suc, ◌+◌, ◌<◌, List, [], ◌∷◌, ◌++◌, Bor, take, drop, length, get_or, refl, sym, subst, ap, Option, Some, None, option_map, inl, inr}
use Rattle.std.proofs.lemmas.List.{take_more, take-append-drop}
use Rattle.std.proofs.Math.Seq.{split_at}
use Rattle.tough_files.specs.Contents.{Node, Contents, Same}
use Rattle.tough_schema.specs.FileDigest.{there}
use Rattle.tough_schema.specs.Target.{target_doc}
use Rattle.tough_signed.specs.declared.error.EditError.{EditError}
use Rattle.tough_edit.specs.Edits.{EditsDoc, with_target}
use Rattle.tough_release.specs.Edits.{ReleaseDoc}
use Rattle.tough_release.specs.Changes.{IsAdded, IsAddedOf, IsUnadded, AreAdded, AreAddedOf, SomeAdded, IsStopped}

added_more : (ps : List (Bor (List ℕ))) (p : Bor (List ℕ)) (e mid after : ReleaseDoc) → AreAdded ps e mid → IsAdded p.now mid after → AreAdded (ps ++ p ∷ []) e after
added_more [] p e mid after h k = (after, subst (λ x. IsAdded p.now x after) h k, refl)
added_more (q ∷ qs) p e mid after h k = (h.0, h.1, added_more qs p h.0 mid after h.2 k)

pub added_step : (ps : List (Bor (List ℕ))) (i : ℕ) (p : Bor (List ℕ)) (e mid after : ReleaseDoc) → i < length ps → AreAdded (take i ps) e mid → IsAdded (get_or ps i p).now mid after → AreAdded (take (i + 1) ps) e after
added_step ps i p e mid after lt h k = subst (λ l. AreAdded l e after) (sym (take_more ps i p lt)) (added_more (take i ps) (get_or ps i p) e mid after h k)

pub some_first : (ps : List (Bor (List ℕ))) (i : ℕ) (e mid after : ReleaseDoc) → AreAdded (take i ps) e mid → after ≡ mid → SomeAdded ps e after
some_first ps i e mid after h k = (take i ps, drop i ps, sym (take-append-drop i ps), subst (λ x. AreAdded (take i ps) e x) (sym k) h)

-- ---- of what stands there

none_some : {A B : Type 0} {x : A} → Some x ≡ None → B
none_some h = cc

none_before : (f : EditsDoc → EditsDoc) (x : Option EditsDoc) → option_map f x ≡ None → x ≡ None
none_before f None h = refl
none_before f (Some a) h = none_some h

there_kept : (path : List ℕ) (before after : Contents) → Same before after → there path after ≡ there path before
there_kept path before after same = let e : after ≡ before = λ i q. same q i in ap (there path) e

more_of : (c : Contents) (ps : List (Bor (List ℕ))) (p : Bor (List ℕ)) (e mid after : ReleaseDoc) → AreAddedOf c ps e mid → IsAddedOf p.now (there p.now c) mid after → AreAddedOf c (ps ++ p ∷ []) e after
more_of c [] p e mid after h k = (after, subst (λ x. IsAddedOf p.now (there p.now c) x after) h k, refl)
more_of c (q ∷ qs) p e mid after h k = (h.0, h.1, more_of c qs p h.0 mid after h.2 k)

-- the next path is added of what stands there, as it stood before
pub step_of : (c now : Contents) (ps : List (Bor (List ℕ))) (i : ℕ) (p : Bor (List ℕ)) (e mid after : ReleaseDoc) → i < length ps → Same c now
    → AreAddedOf c (take i ps) e mid → IsAddedOf (get_or ps i p).now (there (get_or ps i p).now now) mid after → AreAddedOf c (take (i + 1) ps) e after
step_of c now ps i p e mid after lt same h k =
    let q = get_or ps i p in
    subst (λ l. AreAddedOf c l e after) (sym (take_more ps i p lt))
    (more_of c (take i ps) q e mid after h (subst (λ n. IsAddedOf q.now n mid after) (there_kept q.now c now same) k))

-- an editor that isn't open after targets are added wasn't before
unopened_of : (c : Contents) (ps : List (Bor (List ℕ))) (e after : ReleaseDoc) → AreAddedOf c ps e after → after.editor ≡ None → e.editor ≡ None
unopened_of c [] e after h none = subst (λ x. x.editor ≡ None) h none
unopened_of c (p ∷ ps) e after h none =
    let next = unopened_of c ps h.0 after h.2 none in
    none_before (with_target h.1.0 (target_doc h.1.1)) e.editor (subst (λ x. x.editor ≡ None) h.1.5 next)

unadded_of : (path : List ℕ) (n : Option Node) (e mid : ReleaseDoc) (error : EditError) → (mid.editor ≡ None → e.editor ≡ None) → IsUnadded path n mid error → IsUnadded path n e error
unadded_of path n e mid error closed (inl h) = inl h
unadded_of path n e mid error closed (inr h) = inr ((h.0.0, closed h.0.1), h.1, h.2, h.3, h.4)

-- the next path is refused
pub stopped_at : (c now : Contents) (ps : List (Bor (List ℕ))) (i : ℕ) (p : Bor (List ℕ)) (e mid after : ReleaseDoc) (error : EditError) → i < length ps → Same c now
    → AreAddedOf c (take i ps) e mid → after ≡ mid → IsUnadded (get_or ps i p).now (there (get_or ps i p).now now) mid error → IsStopped c ps e after error
stopped_at c now ps i p e mid after error lt same h k refused =
    let q = get_or ps i p in
    let here = subst (λ n. IsUnadded q.now n mid error) (there_kept q.now c now same) refused in
    (take i ps, q, drop (suc i) ps, split_at ps i p lt, subst (λ x. AreAddedOf c (take i ps) e x) (sym k) h, unadded_of q.now (there q.now c) e mid error (unopened_of c (take i ps) e mid h) here)
