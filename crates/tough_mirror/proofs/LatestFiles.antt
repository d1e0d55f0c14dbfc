-- What is read in a folder is what was written last under that name.
use Rattle.std.proofs.Common.{◌≡◌, ◌≢◌, ℕ, Bool, true, false, cond, List, [], ◌∷◌, Option, Some, None, refl, sym, ap, subst, ◌∙◌}
use Rattle.std.proofs.lemmas.Bool.{false≢true}
use Rattle.std.proofs.lemmas.List.{append_cancel_left}
use Rattle.std.proofs.lemmas.Paths.{path_join_relative}
use Rattle.std.proofs.lemmas.Slice.Eq.{bytes_eq-Decides}
use Rattle.std.specs.List.{AllByRecursion}
use Rattle.std.specs.Map.{lookup}
use Rattle.std.specs.Path.{IsRelative, path_join, with_separator}
use Rattle.std.specs.Str.{bytes_eq}
use Rattle.tough_files.proofs.Following.{stays}
use Rattle.tough_files.specs.Contents.{Contents, folder, followed, is_base, node_at, past_link}
use Rattle.tough_round.proofs.Names.{same-bytes}
use Rattle.tough_round.proofs.Serving.{skip}
use Rattle.tough_write.specs.Filling.{HasNoLink, content_at, file_bytes, file_path, is_link, last_at}
use Rattle.tough_write.specs.Writing.{FileDoc}

-- one path is one name
one-name : (outdir a b : List ℕ) → IsRelative a → IsRelative b → path_join outdir a ≡ path_join outdir b → a ≡ b
one-name outdir a b p q h = append_cancel_left (with_separator outdir) a b (sym (path_join_relative outdir a p) ∙ h ∙ path_join_relative outdir b q)

other-name : (x y : List ℕ) → bytes_eq x y ≡ false → x ≡ y → ⊥
other-name x y e h = false≢true (sym e ∙ same-bytes x y h)

-- the last file of the name, where all of the name hold the same
pub latest : (outdir name : List ℕ) (g : List ℕ → Option (List ℕ)) → IsRelative name → (files : List FileDoc) → AllByRecursion (λ f. g f.0 ≡ Some f.1) files → AllByRecursion (λ f. IsRelative f.0) files
    → (there : Option (List ℕ)) → (lookup (bytes_eq name) files ≡ None → there ≡ g name) → last_at outdir (path_join outdir name) files there ≡ g name
latest outdir name g p [] all rel there h = h refl
latest outdir name g p (f ∷ fs) all rel there h =
    go (bytes_eq (file_path outdir f) (path_join outdir name)) refl (λ new k. latest outdir name g p fs all.1 rel.1 new k)
  where
    go : (t : Bool) → bytes_eq (file_path outdir f) (path_join outdir name) ≡ t
        → ((new : Option (List ℕ)) → (lookup (bytes_eq name) fs ≡ None → new ≡ g name) → last_at outdir (path_join outdir name) fs new ≡ g name)
        → last_at outdir (path_join outdir name) fs (cond t (Some f.1) there) ≡ g name
    go true e rest =
        let same : f.0 ≡ name = one-name outdir f.0 name rel.0 p ((bytes_eq-Decides (file_path outdir f) (path_join outdir name)).0 e) in
        rest (Some f.1) (λ _. sym all.0 ∙ ap g same)
    go false e rest =
        let apart : name ≡ f.0 → ⊥ = λ same. other-name (file_path outdir f) (path_join outdir name) e (ap (path_join outdir) (sym same)) in
        rest there (λ none. h (skip name f fs apart ∙ none))

-- no link stands at the path of a file that is found
found-plain : (outdir name : List ℕ) (contents : Contents) (files : List FileDoc) → AllByRecursion (λ f. HasNoLink contents (file_path outdir f)) files
    → (bytes : List ℕ) → lookup (bytes_eq name) files ≡ Some bytes → HasNoLink contents (path_join outdir name)
found-plain outdir name contents [] all bytes h = cc
found-plain outdir name contents (f ∷ fs) all bytes h = go (bytes_eq name f.0) refl h (λ k. found-plain outdir name contents fs all.1 bytes k)
  where
    go : (t : Bool) → bytes_eq name f.0 ≡ t → cond t (Some f.1) (lookup (bytes_eq name) fs) ≡ Some bytes
        → (lookup (bytes_eq name) fs ≡ Some bytes → HasNoLink contents (path_join outdir name)) → HasNoLink contents (path_join outdir name)
    go true e k rest = subst (λ x. HasNoLink contents (path_join outdir x)) (sym ((bytes_eq-Decides name f.0).0 e)) all.0
    go false e k rest = rest k

pub asked-plain : (outdir name : List ℕ) (contents : Contents) (files : List FileDoc) → AllByRecursion (λ f. HasNoLink contents (file_path outdir f)) files
    → (lookup (bytes_eq name) files ≡ None → contents (path_join outdir name) ≡ None) → HasNoLink contents (path_join outdir name)
asked-plain outdir name contents files all none = go (lookup (bytes_eq name) files) refl
  where
    go : (found : Option (List ℕ)) → lookup (bytes_eq name) files ≡ found → HasNoLink contents (path_join outdir name)
    go None e = ap is_link (none e)
    go (Some bytes) e = found-plain outdir name contents files all bytes e

-- where nothing stands no file is read
pub nothing-read : (contents : Contents) (path : List ℕ) → contents path ≡ None → content_at contents path ≡ None
nothing-read contents path h =
    let at : node_at contents path ≡ cond (is_base path) (Some folder) None = ap (λ x. cond (is_base path) (Some folder) x) h in
    let same : followed contents path ≡ path = stays 40 contents path (cond (is_base path) (Some folder) None) at (past (is_base path)) in
    ap (λ p. file_bytes (node_at contents p)) same ∙ ap file_bytes at ∙ none (is_base path)
  where
    past : (t : Bool) (go : List ℕ → List ℕ) → past_link (cond t (Some folder) None) go path ≡ path
    past true go = refl
    past false go = refl

    none : (t : Bool) → file_bytes (cond t (Some folder) None) ≡ None
    none true = refl
    none false = refl
