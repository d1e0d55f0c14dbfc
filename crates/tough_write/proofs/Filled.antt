-- What files hold once a file was written into a folder.
use Rattle.std.proofs.Common.{◌≡◌, ℕ, zero, suc, ◌+◌, ◌<◌, ◌≤◌, Bool, true, false, cond, List, [], length, drop, map, get_or, Option, Some, None, refl, sym, ap, subst, ◌∙◌}
use Rattle.std.proofs.lemmas.Bool.{false≢true}
use Rattle.std.proofs.lemmas.List.{drop_all}
use Rattle.std.proofs.lemmas.Slice.Eq.{bytes_eq-Decides}
use Rattle.std.specs.Path.{path_join}
use Rattle.std.specs.Prelude.{Result, Ok, Err, IfOk}
use Rattle.std.specs.Str.{bytes_eq}
use Rattle.tough_files.proofs.Following.{stays}
use Rattle.tough_files.specs.Calls.{done, named, refused}
use Rattle.tough_files.specs.Changes.{Gives, Grows, MakesFolders, itself, answer_only, append_outcome, append_over, canonical_answer, canonical_outcome, create_outcome, does, put, write_over}
use Rattle.tough_files.specs.Contents.{Contents, Node, file, folder, link, Same, follow, followed, has_folder, is_base, node_at, past_link}
use Rattle.tough_files.specs.declared.files.FilesError.TheVariants.{NotFound}
use Rattle.tough_write.specs.Filling.{Fills, IsPut, IsPutIn, is_link}
use Rattle.tough_write.specs.Writing.{file_doc}
use Rattle.tough_write.specs.declared.write.NamedFile.{NamedFile}
use Rattle.tough_write.proofs.Each.{front}

pub weaken : {T E : Type 0} (P Q : T → Type 0) (r : Result T E) → ((x : T) → P x → Q x) → IfOk r P → IfOk r Q
weaken P Q (Ok x) f h = f x h
weaken P Q (Err e) f h = tt

-- ---- the folder

canonical_is : (path : List ℕ) (there : Option Node) (real : List ℕ) → named real ≡ canonical_answer path there → real ≡ path
canonical_is path None real e = cc
canonical_is path (Some (file bytes)) real e = cc
canonical_is path (Some folder) real e = cc
canonical_is path (Some (link target)) real e = cc

-- a path that was looked up is that behind the links
pub resolved : (contents : Contents) (path real : List ℕ) (after : Contents) → Gives (canonical_outcome path contents) contents (named real) after → (real ≡ followed contents path) × Same contents after
resolved contents path real after g = (canonical_is (followed contents path) (node_at contents (followed contents path)) real g.0, g.1)

folder_at : (contents : Contents) (path : List ℕ) → (is_base path ≡ false → contents path ≡ Some folder) → node_at contents path ≡ Some folder
folder_at contents path h = go (is_base path) refl
  where
    go : (v : Bool) → is_base path ≡ v → cond v (Some folder) (contents path) ≡ Some folder
    go true e = refl
    go false e = h e

-- no link stands where a folder was made
made_is : (outdir : List ℕ) (before made : Contents) → MakesFolders outdir before done made → followed made outdir ≡ outdir
made_is outdir before made m = stays 40 made outdir (Some folder) (folder_at made outdir (m.made refl outdir itself)) (λ go. refl)

-- ---- the file

same_bytes : (path : List ℕ) → bytes_eq path path ≡ true
same_bytes path = (bytes_eq-Decides path path).1 refl

not_base : (contents : Contents) (path : List ℕ) (there : Option Node) → node_at contents path ≡ there → (there ≡ Some folder → ⊥) → is_base path ≡ false
not_base contents path there at other = go (is_base path) at
  where
    go : (v : Bool) → cond v (Some folder) (contents path) ≡ there → v ≡ false
    go true e = absurd (other (sym e))
    go false e = refl

-- an empty file was put at a path that is no link's
record IsCreated (path : List ℕ) (before mid : Contents) : Type 0 where
  place : is_base path ≡ false
  plain : is_link (node_at before path) ≡ false
  holds : Same (put before path (Some (file []))) mid

module _ (path : List ℕ) (before mid : Contents) where
  created_over : (there : Option Node) → node_at before path ≡ there → (done ≡ (write_over [] before path there).answered) × Same (write_over [] before path there).after mid → IsCreated path before mid
  created_over None at h = record { place = not_base before path None at (λ e. cc); plain = ap is_link at; holds = go (has_folder before path) h.0 h.1 }
    where
      go : (v : Bool) → done ≡ (cond v (does before path (Some (file []))) (answer_only (refused NotFound) before)).answered
          → Same (cond v (does before path (Some (file []))) (answer_only (refused NotFound) before)).after mid → Same (put before path (Some (file []))) mid
      go true e s = s
      go false e s = cc
  created_over (Some (file old)) at h = record { place = not_base before path (Some (file old)) at (λ e. cc); plain = ap is_link at; holds = h.1 }
  created_over (Some folder) at (e, s) = cc
  created_over (Some (link target)) at (e, s) = cc

module _ (end : List ℕ) (before mid : Contents) (c : IsCreated end before mid) where
  here : node_at mid end ≡ Some (file [])
  here = ap (λ b. cond b (Some folder) (mid end)) c.place ∙ c.holds end ∙ ap (λ b. cond b (Some (file [])) (before end)) (same_bytes end)

  elsewhere : (path : List ℕ) → bytes_eq end path ≡ false → node_at mid path ≡ node_at before path
  elsewhere path e = ap (λ x. cond (is_base path) (Some folder) x) (c.holds path ∙ ap (λ b. cond b (Some (file [])) (before path)) e)

  -- a link on the way isn't its end
  past_end : (path target : List ℕ) → node_at before path ≡ Some (link target) → bytes_eq end path ≡ false
  past_end path target at = go (bytes_eq end path) refl
    where
      go : (v : Bool) → bytes_eq end path ≡ v → v ≡ false
      go true e = absurd (false≢true (sym c.plain ∙ ap (λ p. is_link (node_at before p)) ((bytes_eq-Decides end path).0 e) ∙ ap is_link at))
      go false e = refl

  at_end : (path : List ℕ) → path ≡ end → node_at mid path ≡ Some (file [])
  at_end path e = subst (λ p. node_at mid p ≡ Some (file [])) (sym e) here

  -- the links lead to where they led
  leads : (n : ℕ) (path : List ℕ) → follow n before path ≡ end → follow n mid path ≡ end
  unfolding follow
  leads zero path e = e
  leads (suc n) path e = go (node_at before path) refl e (leads n)
    where
      go : (there : Option Node) → node_at before path ≡ there → past_link there (follow n before) path ≡ end
          → ((target : List ℕ) → follow n before target ≡ end → follow n mid target ≡ end) → past_link (node_at mid path) (follow n mid) path ≡ end
      go None at h rest = ap (λ x. past_link x (follow n mid) path) (at_end path h) ∙ h
      go (Some (file old)) at h rest = ap (λ x. past_link x (follow n mid) path) (at_end path h) ∙ h
      go (Some folder) at h rest = ap (λ x. past_link x (follow n mid) path) (at_end path h) ∙ h
      go (Some (link target)) at h rest = ap (λ x. past_link x (follow n mid) path) (elsewhere path (past_end path target at) ∙ at) ∙ rest target h

twice : {X : Type 0} (v : Bool) (x y z : X) → cond v x (cond v y z) ≡ cond v x z
twice true x y z = refl
twice false x y z = refl

-- an empty file, and then the bytes
pub wrote : (path bytes : List ℕ) (before mid after : Contents) → Gives (create_outcome path before) before done mid → Gives (append_outcome path bytes mid) mid done after → IsPut path bytes before after
wrote path bytes before mid after g h =
    let end = followed before path in
    let c = created_over end before mid (node_at before end) refl g in
    let P : List ℕ → Type 0 = λ p. (done ≡ (append_over bytes mid p (node_at mid p)).answered) × Same (append_over bytes mid p (node_at mid p)).after after in
    let Q : Option Node → Type 0 = λ there. (done ≡ (append_over bytes mid end there).answered) × Same (append_over bytes mid end there).after after in
    let k = subst Q (here end before mid c) (subst P (leads end before mid c 40 path refl) h) in
    let w = Some (file bytes) in
    record {
      place = c.place;
      holds = λ p. k.1 p ∙ ap (λ m. cond (bytes_eq end p) w m) (c.holds p) ∙ twice (bytes_eq end p) w (Some (file [])) (before p);
    }

pub put_file : (outdir name bytes real : List ℕ) (before made seen after : Contents) → MakesFolders outdir before done made → (real ≡ followed made outdir) × Same made seen
    → IsPut (path_join real name) bytes seen after → IsPutIn outdir (name, bytes) before after
put_file outdir name bytes real before made seen after m looked puts = record {
  made = seen;
  folders = λ p. subst (λ there. Grows outdir p (before p) there) (sym (looked.1 p)) (m.grows p);
  puts = subst (λ dir. IsPut (path_join dir name) bytes seen after) (looked.0 ∙ made_is outdir before made m) puts;
}

-- ---- one after another

module _ (outdir : List ℕ) (roles : List NamedFile) (i : ℕ) where
  pub fills_end : (contents : Contents) → length roles ≤ i → Fills outdir (map file_doc (drop i roles)) contents contents
  fills_end contents past = rw (drop_all i roles past) (λ p. refl)

  pub fills_goes : (role : NamedFile) (before mid after : Contents) → i < length roles → role ≡ get_or roles i role → IsPutIn outdir (file_doc role) before mid
      → Fills outdir (map file_doc (drop (i + 1) roles)) mid after → Fills outdir (map file_doc (drop i roles)) before after
  fills_goes role before mid after less is p rest = rw (front roles i role less is) (mid, p, rest)
