-- What is read once files were written into a folder.
use Rattle.std.proofs.Common.{◌≡◌, ℕ, Bool, true, false, cond, List, [], ◌∷◌, Option, Some, None, inl, inr, refl, sym, ap, subst, ◌∙◌}
use Rattle.std.proofs.lemmas.Slice.Eq.{bytes_eq-Decides}
use Rattle.std.specs.List.{AllByRecursion}
use Rattle.std.specs.Str.{bytes_eq}
use Rattle.tough_files.proofs.Following.{stays}
use Rattle.tough_files.specs.Changes.{Grows}
use Rattle.tough_files.specs.Contents.{Contents, Node, file, folder, link, followed, is_base, node_at, past_link}
use Rattle.tough_write.specs.Filling.{Fills, HasNoLink, IsPutIn, content_at, file_bytes, file_path, is_link, last_at}
use Rattle.tough_write.specs.Writing.{FileDoc}

all_map : {X : Type 0} (P Q : X → Type 0) (xs : List X) → ((x : X) → P x → Q x) → AllByRecursion P xs → AllByRecursion Q xs
all_map P Q [] f a = tt
all_map P Q (x ∷ xs) f a = (f x a.0, all_map P Q xs f a.1)

-- ---- one path

grown_link : (outdir path : List ℕ) (b m : Option Node) → Grows outdir path b m → is_link b ≡ false → is_link m ≡ false
grown_link outdir path b m (inl e) h = ap is_link e ∙ h
grown_link outdir path b m (inr (n, f, a)) h = ap is_link f

grown_bytes : (outdir path : List ℕ) (b m : Option Node) → Grows outdir path b m → file_bytes m ≡ file_bytes b
grown_bytes outdir path b m (inl e) = ap file_bytes e
grown_bytes outdir path b m (inr (n, f, a)) = ap file_bytes f ∙ sym (ap file_bytes n)

past_plain : (there : Option Node) (path : List ℕ) → is_link there ≡ false → (go : List ℕ → List ℕ) → past_link there go path ≡ path
past_plain None path h go = refl
past_plain (Some (file bytes)) path h go = refl
past_plain (Some folder) path h go = refl
past_plain (Some (link target)) path h go = cc

node_plain : (contents : Contents) (path : List ℕ) → HasNoLink contents path → is_link (node_at contents path) ≡ false
node_plain contents path h = go (is_base path)
  where
    go : (v : Bool) → is_link (cond v (Some folder) (contents path)) ≡ false
    go true = refl
    go false = h

stands : (contents : Contents) (path : List ℕ) → HasNoLink contents path → followed contents path ≡ path
stands contents path h = stays 40 contents path (node_at contents path) refl (past_plain (node_at contents path) path (node_plain contents path h))

-- the content where no link stands
content_is : (contents : Contents) (path : List ℕ) → HasNoLink contents path → content_at contents path ≡ file_bytes (cond (is_base path) (Some folder) (contents path))
content_is contents path h = ap (λ p. file_bytes (node_at contents p)) (stands contents path h)

-- ---- one file

module _ (outdir : List ℕ) (f : FileDoc) (before after : Contents) (h : IsPutIn outdir f before after) (plain : HasNoLink before (file_path outdir f)) where
  made_plain : (q : List ℕ) → HasNoLink before q → HasNoLink h.made q
  made_plain q p = grown_link outdir q (before q) (h.made q) (h.folders q) p

  end_is : followed h.made (file_path outdir f) ≡ file_path outdir f
  end_is = stands h.made (file_path outdir f) (made_plain (file_path outdir f) plain)

  base : is_base (file_path outdir f) ≡ false
  base = subst (λ p. is_base p ≡ false) end_is h.puts.place

  after_is : (q : List ℕ) → after q ≡ cond (bytes_eq (file_path outdir f) q) (Some (file f.1)) (h.made q)
  after_is q = h.puts.holds q ∙ ap (λ p. cond (bytes_eq p q) (Some (file f.1)) (h.made q)) end_is

  still_plain : (q : List ℕ) → HasNoLink before q → HasNoLink after q
  still_plain q p = ap is_link (after_is q) ∙ go (bytes_eq (file_path outdir f) q)
    where
      go : (v : Bool) → is_link (cond v (Some (file f.1)) (h.made q)) ≡ false
      go true = refl
      go false = made_plain q p

  grown : (q : List ℕ) (t : Bool) → file_bytes (cond t (Some folder) (h.made q)) ≡ file_bytes (cond t (Some folder) (before q))
  grown q true = refl
  grown q false = grown_bytes outdir q (before q) (h.made q) (h.folders q)

  reads_one : (q : List ℕ) → HasNoLink before q → content_at after q ≡ cond (bytes_eq (file_path outdir f) q) (Some f.1) (content_at before q)
  reads_one q p =
      content_is after q (still_plain q p) ∙ ap (λ x. file_bytes (cond (is_base q) (Some folder) x)) (after_is q) ∙ go (bytes_eq (file_path outdir f) q) refl
    where
      go : (v : Bool) → bytes_eq (file_path outdir f) q ≡ v → file_bytes (cond (is_base q) (Some folder) (cond v (Some (file f.1)) (h.made q))) ≡ cond v (Some f.1) (content_at before q)
      go true e =
          let at : is_base q ≡ false = subst (λ x. is_base x ≡ false) ((bytes_eq-Decides (file_path outdir f) q).0 e) base in
          ap (λ t. file_bytes (cond t (Some folder) (Some (file f.1)))) at
      go false e = grown q (is_base q) ∙ sym (content_is before q p)

-- ---- all files

pub reads : (outdir : List ℕ) (files : List FileDoc) (before after : Contents) → AllByRecursion (λ f. HasNoLink before (file_path outdir f)) files → Fills outdir files before after
    → (q : List ℕ) → HasNoLink before q → content_at after q ≡ last_at outdir q files (content_at before q)
reads outdir [] before after plain same q p =
    content_is after q (ap is_link (same q) ∙ p) ∙ ap (λ x. file_bytes (cond (is_base q) (Some folder) x)) (same q) ∙ sym (content_is before q p)
reads outdir (f ∷ fs) before after plain (mid, one, rest) q p =
    let keeps : (g : FileDoc) → HasNoLink before (file_path outdir g) → HasNoLink mid (file_path outdir g) = λ g. still_plain outdir f before mid one plain.0 (file_path outdir g) in
    reads outdir fs mid after (all_map (λ g. HasNoLink before (file_path outdir g)) (λ g. HasNoLink mid (file_path outdir g)) fs keeps plain.1) rest q (still_plain outdir f before mid one plain.0 q p)
    ∙ ap (last_at outdir q fs) (reads_one outdir f before mid one plain.0 q p)
