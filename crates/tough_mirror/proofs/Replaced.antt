-- What a folder's files hold once files were replaced there, or where it stopped.
use Rattle.std.proofs.Common.{◌≡◌, ℕ, Bool, true, false, cond, List, [], ◌∷◌, ◌++◌, Option, Some, None, refl, sym, ap, subst, ◌∙◌}
use Rattle.std.proofs.lemmas.Slice.Eq.{bytes_eq-Decides}
use Rattle.std.specs.Path.{path_join}
use Rattle.std.specs.Str.{bytes_eq}
use Rattle.tough_files.proofs.Following.{stays}
use Rattle.tough_files.specs.Contents.{Contents, Node, file, folder, link, followed, is_base, node_at, past_link}
use Rattle.tough_write.specs.Replacing.{AreReplaced, FileDoc, IsPut}
use Rattle.tough_write.specs.Filling.{HasNoLink, content_at, file_bytes, is_link, last_at}

past_plain : (there : Option Node) (path : List ℕ) → is_link there ≡ false → (go : List ℕ → List ℕ) → past_link there go path ≡ path
past_plain None path h go = refl
past_plain (Some (file bytes)) path h go = refl
past_plain (Some folder) path h go = refl
past_plain (Some (link target)) path h go = cc

node_plain : (contents : Contents) (path : List ℕ) → HasNoLink contents path → is_link (node_at contents path) ≡ false
node_plain contents path h = go (is_base path)
  where
    go : (v : Bool) → is_link (cond v (Some folder) (contents path)) ≡ false
    go true = refl
    go false = h

-- where no link stands, the content is that of the node
content_is : (contents : Contents) (path : List ℕ) → HasNoLink contents path → content_at contents path ≡ file_bytes (cond (is_base path) (Some folder) (contents path))
content_is contents path h =
    ap (λ p. file_bytes (node_at contents p)) (stays 40 contents path (node_at contents path) refl (past_plain (node_at contents path) path (node_plain contents path h)))

-- what stands there as before holds what it held
pub still : (before after : Contents) (path : List ℕ) → HasNoLink before path → after path ≡ before path → content_at after path ≡ content_at before path
still before after path plain same =
    content_is after path (ap is_link same ∙ plain) ∙ ap (λ x. file_bytes (cond (is_base path) (Some folder) x)) same ∙ sym (content_is before path plain)

module _ (dir : List ℕ) where
  -- one file that was put
  module _ (f : FileDoc) (before after : Contents) (h : IsPut (path_join dir f.0) f.1 before after) (path : List ℕ) (plain : HasNoLink before path) where
    put_plain : HasNoLink after path
    put_plain = ap is_link (h.holds path) ∙ go (bytes_eq (path_join dir f.0) path)
      where
        go : (v : Bool) → is_link (cond v (Some (file f.1)) (before path)) ≡ false
        go true = refl
        go false = plain

    put_reads : content_at after path ≡ cond (bytes_eq (path_join dir f.0) path) (Some f.1) (content_at before path)
    put_reads = go (bytes_eq (path_join dir f.0) path) refl
      where
        go : (v : Bool) → bytes_eq (path_join dir f.0) path ≡ v → content_at after path ≡ cond v (Some f.1) (content_at before path)
        go true e =
            let no_base : is_base path ≡ false = subst (λ p. is_base p ≡ false) ((bytes_eq-Decides (path_join dir f.0) path).0 e) h.inside in
            content_is after path put_plain ∙ ap (λ b. file_bytes (cond b (Some folder) (after path))) no_base
            ∙ ap file_bytes (h.holds path ∙ ap (λ b. cond b (Some (file f.1)) (before path)) e)
        go false e = still before after path plain (h.holds path ∙ ap (λ b. cond b (Some (file f.1)) (before path)) e)

  pub reads : (files : List FileDoc) (before after : Contents) → AreReplaced dir files before after → (path : List ℕ) → HasNoLink before path
      → content_at after path ≡ last_at dir path files (content_at before path)
  reads [] before after same path plain = still before after path plain (same path)
  reads (f ∷ fs) before after (mid, put, rest) path plain =
      reads fs mid after rest path (put_plain f before mid put path plain) ∙ ap (last_at dir path fs) (put_reads f before mid put path plain)
