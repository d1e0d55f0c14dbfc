use Rattle.std.proofs.Common.{◌≡◌, ℕ, List, [], ◌∷◌, ◌++◌, Some, String, Global, string_bytes, string_cmp, sym, ap, subst, ◌∙◌, append_assoc}
use Rattle.std.proofs.lemmas.Result.{err_from_is_err_and}
use Rattle.std.specs.List.Sorted.{IsStrictlySortedBy}
use Rattle.std.specs.Map.{keys_of}
use Rattle.serde_json.specs.Data.{put}
use Rattle.serde_json.specs.View.{view, members_view}
use Rattle.serde_json.proofs.Views.{members_view-insert_entry}
use Rattle.tough_roles.specs.declared.timestamp.Metafile.{Metafile}
use Rattle.tough_roles.specs.Timestamp.{MetafileDoc, metafile_doc, metafiles_doc}
use Rattle.tough_json.specs.Writing.{named}
use Rattle.tough_roles.specs.Timestamp.{metafile_json}
use Rattle.tough_json.proofs.lemmas.Each.{keys_of-append, map-append}
use Rattle.tough_json.proofs.lemmas.Named.{snoc, named-snoc, named-refused, put-snoc, refuses-write}
use Rattle.tough_roles.proofs.write_timestamp.metafiles_value.Goals as goal

pub loop-name-init : goal.loop-name-init
unfolding named
loop-name-init c = ([], sym (c.into_iter-name-iterator.ensures.into_iter_gives ∙ c.iter-name-items.ensures.rest), ap (λ es. Some (members_view es)) (sym c.new-members.ensures.empty))

pub returns-in_err-value : goal.returns-in_err-value
returns-in_err-value c =
    let done = c.loop-name.invariant.0 in
    let e : String Global × Metafile = (c.in-Some.name.now, c.in-Some.metafile.now) in
    let left = c.next.new.self in
    let all : c.args.metafiles.now.entries ≡ done ++ e ∷ left = c.loop-name.invariant.1 ∙ ap (λ (es : List (String Global × Metafile)). done ++ es) c.in-Some.ensures.steps in
    let failed = err_from_is_err_and c.from_residual.result c.from_residual.ensures.1 in
    rw (failed.1, failed.2, all, map-append {B = List ℕ × MetafileDoc} (λ m. (string_bytes m.0, metafile_doc m.1)) done (e ∷ left)) (refuses-write (metafile_json (metafile_doc e.1)) (named metafile_json (metafiles_doc done ++ (string_bytes e.0, metafile_doc e.1) ∷ metafiles_doc left)) c.in_err-value.field-0.0
    (named-refused metafile_json (metafiles_doc done) (string_bytes e.0, metafile_doc e.1) (metafiles_doc left)) c.in_err-value.ensures)

pub loop-name-preserved : goal.loop-name-preserved
loop-name-preserved c =
    let done = c.loop-name.invariant.0 in
    let e : String Global × Metafile = (c.in-Some.name.now, c.in-Some.metafile.now) in
    let left = c.next.new.self in
    let all : c.args.metafiles.now.entries ≡ done ++ e ∷ left = c.loop-name.invariant.1 ∙ ap (λ (es : List (String Global × Metafile)). done ++ es) c.in-Some.ensures.steps in
    let ms = members_view c.loop-name.members.entries in
    let sorted : IsStrictlySortedBy string_cmp (keys_of (done ++ e ∷ left)) = subst (λ (es : List (String Global × Metafile)). IsStrictlySortedBy string_cmp (keys_of es)) all c.iter-name-items.ensures.ordered in
    let last : put (string_bytes e.0) (view c.in_ok-value.value) ms ≡ snoc ms (string_bytes e.0) (view c.in_ok-value.value) =
    put-snoc metafile_doc metafile_json done e.0 (keys_of left) (view c.in_ok-value.value) ms c.loop-name.invariant.2 (subst (IsStrictlySortedBy string_cmp) (keys_of-append done (e ∷ left)) sorted) in
    let new : members_view c.insert.new.self.entries ≡ snoc ms (string_bytes e.0) (view c.in_ok-value.value) =
    ap members_view c.in_ok-insert.ensures.entries ∙ members_view-insert_entry c.loop-name.members.entries c.in_ok-clone.field-0 c.in_ok-value.value ∙ ap (λ k. put k (view c.in_ok-value.value) ms) c.in_ok-clone.ensures.cases ∙ last in (
      done ++ e ∷ [],
      all ∙ sym (append_assoc done (e ∷ []) left),
      ap (named metafile_json) (map-append (λ m. (string_bytes m.0, metafile_doc m.1)) done (e ∷ [])) ∙ named-snoc metafile_json (metafiles_doc done) (string_bytes e.0) (metafile_doc e.1) ms (view c.in_ok-value.value) c.loop-name.invariant.2 c.in_ok-value.ensures ∙ ap Some (sym new),
    )
