-- What files hold once a new file was filled, renamed or removed.
use Rattle.std.proofs.Common.{◌≡◌, ℕ, ◌+◌, ◌<◌, ◌≤◌, Bool, true, false, cond, List, [], ◌∷◌, ◌++◌, length, drop, drop-cons, add-one, map, get_or, Option, Some, None, inl, inr, arith, refl, sym, ap, subst, ◌∙◌}
use Rattle.std.proofs.lemmas.Bool.{false≢true}
use Rattle.std.proofs.lemmas.List.{drop_all}
use Rattle.std.proofs.lemmas.Slice.Eq.{bytes_eq-Decides}
use Rattle.std.specs.Prelude.{Result, Ok, Err, String, is_none, string_bytes}
use Rattle.std.specs.Str.{bytes_eq}
use Rattle.tough_files.proofs.Following.{stays}
use Rattle.tough_files.specs.declared.files.FilesError.{FilesError}
use Rattle.tough_files.specs.declared.files.FilesError.TheVariants.{NotFound, Failed, Memory}
use Rattle.tough_files.specs.Calls.{Answered, done, named, refused, done_or}
use Rattle.tough_files.specs.Changes.{CreatesTemp, Gives, answer_only, append_outcome, append_over, moved, move_over, put, remove_outcome, remove_over, rename_outcome, rename_over, temp_in, temp_outcome, temp_over, temp_path}
use Rattle.tough_files.specs.Contents.{Contents, Node, file, folder, link, Same, folder_is_there, followed, has_folder, is_base, node_at}
use Rattle.std.specs.Path.{path_parent}
use Rattle.tough_write.specs.Replacing.{AreReplaced, FileDoc, IsLeft, IsLeftAt, IsNew, IsPut, IsReplaced, StopsAmong, TellsFile, file_doc}
use Rattle.tough_write.specs.declared.replace.NewFile.{NewFile}
use Rattle.tough_write.specs.declared.replace.ReplaceError.{ReplaceError}

same_bytes : (path : List ℕ) → bytes_eq path path ≡ true
same_bytes path = (bytes_eq-Decides path path).1 refl

-- nothing stands at a path: it is no base, and has no node
fresh_at : (before : Contents) (path : List ℕ) → node_at before path ≡ None → (is_base path ≡ false) × (before path ≡ None)
fresh_at before path = go (is_base path) refl
  where
    go : (v : Bool) → is_base path ≡ v → cond v (Some folder) (before path) ≡ None → (is_base path ≡ false) × (before path ≡ None)
    go true e h = cc
    go false e h = (e, h)

-- a new file stands at its path
pub here : (path bytes : List ℕ) (before after : Contents) → IsNew path bytes before after → node_at after path ≡ Some (file bytes)
here path bytes before after n =
    ap (λ b. cond b (Some folder) (after path)) (fresh_at before path n.fresh).0 ∙ n.holds path ∙ ap (λ b. cond b (Some (file bytes)) (before path)) (same_bytes path)

twice : {X : Type 0} (v : Bool) (x y z : X) → cond v x (cond v y z) ≡ cond v x z
twice true x y z = refl
twice false x y z = refl

-- ---- appending

module _ (path bytes : List ℕ) (before mid after : Contents) (n : IsNew path [] before mid) where
  lands : followed mid path ≡ path
  lands = stays 40 mid path (Some (file [])) (here path [] before mid n) (λ go. refl)

  At : Answered → List ℕ → Type 0
  At answered p = (answered ≡ (append_over bytes mid p (node_at mid p)).answered) × Same (append_over bytes mid p (node_at mid p)).after after

  pub appended : Gives (append_outcome path bytes mid) mid done after → IsNew path bytes before after
  unfolding At
  appended g =
      let Q : Option Node → Type 0 = λ there. (done ≡ (append_over bytes mid path there).answered) × Same (append_over bytes mid path there).after after in
      let k = subst Q (here path [] before mid n) (subst (At done) lands g) in
      record {
        fresh = n.fresh;
        holds = λ p. k.1 p ∙ ap (λ m. cond (bytes_eq path p) (Some (file bytes)) m) (n.holds p) ∙ twice (bytes_eq path p) (Some (file bytes)) (Some (file [])) (before p);
      }

  stopped : (e : FilesError) (p : List ℕ) (there : Option Node) → refused e ≡ (append_over bytes mid p there).answered → Same (append_over bytes mid p there).after after → Same mid after
  stopped e p None h s = s
  stopped e p (Some (file old)) h s = cc
  stopped e p (Some folder) h s = s
  stopped e p (Some (link target)) h s = s

  pub unappended : (e : FilesError) → Gives (append_outcome path bytes mid) mid (refused e) after → IsNew path [] before after
  unappended e g = record { fresh = n.fresh; holds = λ p. go e g p ∙ n.holds p }
    where
      go : (e : FilesError) → Gives (append_outcome path bytes mid) mid (refused e) after → Same mid after
      go Memory g = g
      go NotFound g = stopped NotFound (followed mid path) (node_at mid (followed mid path)) g.0 g.1
      go Failed g = stopped Failed (followed mid path) (node_at mid (followed mid path)) g.0 g.1

-- ---- renaming

module _ (old new bytes : List ℕ) (mid after : Contents) where
  Moved : Type 0
  Moved = (is_base new ≡ false) × Same (moved old new (file bytes) mid) after

  -- what is moved into a folder isn't put where something always is
  inside : (dir : Option (List ℕ)) → folder_is_there mid dir ≡ true → is_none dir ≡ false
  inside None h = cc
  inside (Some dir) h = refl

  moves_in : (v : Bool) → has_folder mid new ≡ v → done ≡ (cond v (record { answered = done; after = moved old new (file bytes) mid }) (answer_only (refused NotFound) mid)).answered
      → Same (cond v (record { answered = done; after = moved old new (file bytes) mid }) (answer_only (refused NotFound) mid)).after after → Moved
  unfolding Moved
  moves_in true e h s = (inside (path_parent new) e, s)
  moves_in false e h s = cc

  moves : (there : Option Node) → done ≡ (move_over old new (file bytes) mid there).answered → Same (move_over old new (file bytes) mid there).after after → Moved
  unfolding Moved
  moves (Some folder) h s = cc
  moves None h s = moves_in (has_folder mid new) refl h s
  moves (Some (file there)) h s = moves_in (has_folder mid new) refl h s
  moves (Some (link there)) h s = moves_in (has_folder mid new) refl h s

  stays_put : (e : FilesError) (node : Node) (there : Option Node) → refused e ≡ (move_over old new node mid there).answered → Same (move_over old new node mid there).after after → Same mid after
  stays_put e node (Some folder) h s = s
  stays_put e node None h s = go (has_folder mid new) h s
    where
      go : (v : Bool) → refused e ≡ (cond v (record { answered = done; after = moved old new node mid }) (answer_only (refused NotFound) mid)).answered
          → Same (cond v (record { answered = done; after = moved old new node mid }) (answer_only (refused NotFound) mid)).after after → Same mid after
      go true h s = cc
      go false h s = s
  stays_put e node (Some (file there)) h s = go (has_folder mid new) h s
    where
      go : (v : Bool) → refused e ≡ (cond v (record { answered = done; after = moved old new node mid }) (answer_only (refused NotFound) mid)).answered
          → Same (cond v (record { answered = done; after = moved old new node mid }) (answer_only (refused NotFound) mid)).after after → Same mid after
      go true h s = cc
      go false h s = s
  stays_put e node (Some (link there)) h s = go (has_folder mid new) h s
    where
      go : (v : Bool) → refused e ≡ (cond v (record { answered = done; after = moved old new node mid }) (answer_only (refused NotFound) mid)).answered
          → Same (cond v (record { answered = done; after = moved old new node mid }) (answer_only (refused NotFound) mid)).after after → Same mid after
      go true h s = cc
      go false h s = s

  unmoved_over : (e : FilesError) (there : Option Node) → refused e ≡ (rename_over old new mid there).answered → Same (rename_over old new mid there).after after → Same mid after
  unmoved_over e None h s = s
  unmoved_over e (Some folder) h s = s
  unmoved_over e (Some (file there)) h s = stays_put e (file there) (node_at mid new) h s
  unmoved_over e (Some (link there)) h s = stays_put e (link there) (node_at mid new) h s

  unmoved : (e : FilesError) → Gives (rename_outcome old new mid) mid (refused e) after → Same mid after
  unmoved Memory g = g
  unmoved NotFound g = unmoved_over NotFound (node_at mid old) g.0 g.1
  unmoved Failed g = unmoved_over Failed (node_at mid old) g.0 g.1

-- what stands after a file was moved from a path where nothing had stood
module _ (old new bytes : List ℕ) (before mid after : Contents) (n : IsNew old bytes before mid) where
  nothing : (p : List ℕ) → bytes_eq old p ≡ true → before p ≡ None
  nothing p e = subst (λ q. before q ≡ None) ((bytes_eq-Decides old p).0 e) (fresh_at before old n.fresh).1

  apart : bytes_eq old new ≡ false → (p : List ℕ) → bytes_eq old p ≡ true → bytes_eq new p ≡ false
  apart ne p e = go (bytes_eq new p) refl
    where
      go : (v : Bool) → bytes_eq new p ≡ v → v ≡ false
      go true f = absurd (false≢true (sym ne ∙ (bytes_eq-Decides old new).1 ((bytes_eq-Decides old p).0 e ∙ sym ((bytes_eq-Decides new p).0 f))))
      go false f = refl

  one : bytes_eq old new ≡ false → (p : List ℕ) (v : Bool) → bytes_eq old p ≡ v
      → cond v None (cond (bytes_eq new p) (Some (file bytes)) (cond v (Some (file bytes)) (before p))) ≡ cond (bytes_eq new p) (Some (file bytes)) (before p)
  one ne p true e = sym (ap (λ b. cond b (Some (file bytes)) (before p)) (apart ne p e) ∙ nothing p e)
  one ne p false e = refl

  settled : (v : Bool) → bytes_eq old new ≡ v → Same (cond v mid (put (put mid new (Some (file bytes))) old None)) after → Same (put before new (Some (file bytes))) after
  settled true e s = subst (λ q. Same (put before q (Some (file bytes))) after) ((bytes_eq-Decides old new).0 e) (λ p. s p ∙ n.holds p)
  settled false e s = λ p. s p ∙ ap (λ m. cond (bytes_eq old p) None (cond (bytes_eq new p) (Some (file bytes)) m)) (n.holds p) ∙ one e p (bytes_eq old p) refl

  pub renamed : Gives (rename_outcome old new mid) mid done after → IsPut new bytes before after
  unfolding Moved
  renamed g =
      let Q : Option Node → Type 0 = λ there. (done ≡ (rename_over old new mid there).answered) × Same (rename_over old new mid there).after after in
      let k = subst Q (here old bytes before mid n) g in
      let m = moves old new bytes mid after (node_at mid new) k.0 k.1 in
      record { inside = m.0; holds = settled (bytes_eq old new) refl m.1 }

  pub unrenamed : (e : FilesError) → Gives (rename_outcome old new mid) mid (refused e) after → IsNew old bytes before after
  unrenamed e g = record { fresh = n.fresh; holds = λ p. unmoved old new bytes mid after e g p ∙ n.holds p }

-- ---- removing

module _ (path bytes : List ℕ) (before mid after : Contents) (n : IsNew path bytes before mid) where
  gone : (p : List ℕ) (v : Bool) → bytes_eq path p ≡ v → cond v None (cond v (Some (file bytes)) (before p)) ≡ before p
  gone p true e = sym (nothing path path bytes before mid after n p e)
  gone p false e = refl

  pub discarded : (r : Result (Unit {0}) FilesError) → Gives (remove_outcome path mid) mid (done_or r) after → IsLeftAt path before after
  discarded (Ok u) g =
      let Q : Option Node → Type 0 = λ there. (done ≡ (remove_over path mid there).answered) × Same (remove_over path mid there).after after in
      let k = subst Q (here path bytes before mid n) g in
      inl (λ p. k.1 p ∙ ap (λ m. cond (bytes_eq path p) None m) (n.holds p) ∙ gone p (bytes_eq path p) refl)
  discarded (Err Memory) g = inr (bytes, record { fresh = n.fresh; holds = λ p. g p ∙ n.holds p })
  discarded (Err NotFound) g =
      let Q : Option Node → Type 0 = λ there. (refused NotFound ≡ (remove_over path mid there).answered) × Same (remove_over path mid there).after after in
      let k = subst Q (here path bytes before mid n) g in
      cc
  discarded (Err Failed) g =
      let Q : Option Node → Type 0 = λ there. (refused Failed ≡ (remove_over path mid there).answered) × Same (remove_over path mid there).after after in
      let k = subst Q (here path bytes before mid n) g in
      cc

-- ---- making

module _ (dir path : List ℕ) (before after : Contents) where
  made_over : (temp : List ℕ) (there : Option Node) → node_at before path ≡ there → named temp ≡ (temp_over path before there).answered → Same (temp_over path before there).after after → (temp ≡ path) × IsNew path [] before after
  made_over temp None at h s = (cc, record { fresh = at; holds = s })
  made_over temp (Some there) at h s = cc

  made_in : (temp : List ℕ) (there : Option Node) → named temp ≡ (temp_in path before there).answered → Same (temp_in path before there).after after → (temp ≡ path) × IsNew path [] before after
  made_in temp None h s = cc
  made_in temp (Some folder) h s = made_over temp (node_at before path) refl h s
  made_in temp (Some (file there)) h s = cc
  made_in temp (Some (link there)) h s = cc

  unmade_over : (e : FilesError) (there : Option Node) → refused e ≡ (temp_over path before there).answered → Same (temp_over path before there).after after → Same before after
  unmade_over e None h s = cc
  unmade_over e (Some there) h s = s

  unmade_in : (e : FilesError) (there : Option Node) → refused e ≡ (temp_in path before there).answered → Same (temp_in path before there).after after → Same before after
  unmade_in e None h s = s
  unmade_in e (Some folder) h s = unmade_over e (node_at before path) h s
  unmade_in e (Some (file there)) h s = s
  unmade_in e (Some (link there)) h s = s

module _ (dir : List ℕ) (before after : Contents) where
  -- a temporary file was made, at the path of a number
  pub made : (temp : List ℕ) → CreatesTemp dir before (named temp) after → (number : ℕ) × (temp ≡ temp_path dir number) × IsNew temp [] before after
  made temp (number, g, fresh) =
      let k = made_in dir (temp_path dir number) before after temp (node_at before dir) g.0 g.1 in
      (number, k.0, subst (λ p. IsNew p [] before after) (sym k.0) k.1)

  pub unmade : (e : FilesError) → CreatesTemp dir before (refused e) after → Same before after
  unmade Memory (number, g, fresh) = g
  unmade NotFound (number, g, fresh) = unmade_in dir (temp_path dir number) before after NotFound (node_at before dir) g.0 g.1
  unmade Failed (number, g, fresh) = unmade_in dir (temp_path dir number) before after Failed (node_at before dir) g.0 g.1

pub left : (dir temp : List ℕ) (number : ℕ) (before after : Contents) → temp ≡ temp_path dir number → IsLeftAt temp before after → IsLeft dir before after
left dir temp number before after at (inl s) = inl s
left dir temp number before after at (inr (bytes, n)) = inr (number, bytes, subst (λ p. IsNew p bytes before after) at n)

-- ---- one after another

front : {X : Type 0} (xs : List X) (i : ℕ) (d : X) → i < length xs → drop i xs ≡ get_or xs i d ∷ drop (i + 1) xs
front xs i d less = rw (add-one, drop-cons xs i d less) refl

pub first : {X : Type 0} (xs : List X) (i : ℕ) → i < length xs → X
first [] i less = absurd (omega (arith, less))
first (x ∷ xs) i less = x

module _ (dir : List ℕ) (list : List NewFile) (i : ℕ) where
  pub all_end : (contents : Contents) → length list ≤ i → AreReplaced dir (map file_doc (drop i list)) contents contents
  all_end contents past = rw (drop_all i list past) (λ p. refl)

  module _ (d : NewFile) (before mid : Contents) (less : i < length list) where
    pub all_goes : (after : Contents) → IsReplaced dir (file_doc (get_or list i d)) before mid → AreReplaced dir (map file_doc (drop (i + 1) list)) mid after → AreReplaced dir (map file_doc (drop i list)) before after
    all_goes after p rest = rw (front list i d less) (mid, p, rest)

    pub stops_goes : (e : ReplaceError) (after : Contents) → IsReplaced dir (file_doc (get_or list i d)) before mid → StopsAmong dir (map file_doc (drop (i + 1) list)) e mid after → StopsAmong dir (map file_doc (drop i list)) e before after
    stops_goes e after p rest = rw (front list i d less) (inr (mid, p, rest))

  pub stops_here : (d : NewFile) (e : ReplaceError) (before after : Contents) → i < length list → TellsFile (file_doc (get_or list i d)) e → IsLeft dir before after → StopsAmong dir (map file_doc (drop i list)) e before after
  stops_here d e before after less t h = rw (front list i d less) (inl (t, h))
