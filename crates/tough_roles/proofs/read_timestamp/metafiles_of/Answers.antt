use Rattle.std.proofs.Common.{◌≡◌, List, [], ◌∷◌, ◌++◌, Some, string_bytes, string_cmp, refl, sym, ap, subst, ◌∙◌, append_assoc}
use Rattle.std.proofs.lemmas.Result.{err_from_is_err_and}
use Rattle.std.specs.List.Sorted.{IsStrictlySortedBy}
use Rattle.std.specs.Map.{keys_of}
use Rattle.serde_json.specs.View.{view, members_view}
use Rattle.serde_json.proofs.Views.{Entry}
use Rattle.tough_roles.specs.Timestamp.{metafile_doc, metafiles_doc}
use Rattle.tough_json.specs.Reading.{each}
use Rattle.tough_roles.specs.Timestamp.{metafile_at}
use Rattle.tough_json.proofs.lemmas.Each.{each-more, each-refused, insert_entry-next, keys_of-append, refuses-map, map-append}
use Rattle.tough_roles.proofs.read_timestamp.metafiles_of.Goals as goal

pub loop-name-init : goal.loop-name-init
unfolding each
loop-name-init c = (tt, tt, ([], sym c.into_iter-name-iterator.ensures.into_iter_gives.0, ap keys_of c.new-metafiles.ensures.empty, ap (λ es. Some (metafiles_doc es)) (sym c.new-metafiles.ensures.empty)))

pub returns-in_err-metafile : goal.returns-in_err-metafile
returns-in_err-metafile c =
    let done = c.loop-name.invariant.2.0 in
    let e : Entry = (c.in-Some.name, c.in-Some.value) in
    let all : c.args.members.entries ≡ done ++ e ∷ c.next.new.self = c.loop-name.invariant.2.1 ∙ ap (λ (es : List Entry). done ++ es) c.in-Some.ensures.steps in
    let failed = err_from_is_err_and c.from_residual.result c.from_residual.ensures.1 in
    rw (failed.1, failed.2, all) (refuses-map (metafile_at (view e.1)) (each metafile_at (members_view (done ++ e ∷ c.next.new.self))) c.in_err-metafile.field-0.0
    (each-refused metafile_at done e c.next.new.self (metafiles_doc c.loop-name.metafiles.entries) c.loop-name.invariant.2.3) c.in_err-metafile.ensures)

pub loop-name-preserved : goal.loop-name-preserved
loop-name-preserved c =
    let done = c.loop-name.invariant.2.0 in
    let e : Entry = (c.in-Some.name, c.in-Some.value) in
    let left = c.next.new.self in
    let all : c.args.members.entries ≡ done ++ e ∷ left = c.loop-name.invariant.2.1 ∙ ap (λ (es : List Entry). done ++ es) c.in-Some.ensures.steps in
    let es = c.loop-name.metafiles.entries in
    let sorted : IsStrictlySortedBy string_cmp (keys_of (done ++ e ∷ left)) = subst (λ (es : List Entry). IsStrictlySortedBy string_cmp (keys_of es)) all c.into_iter-name-iterator.ensures.into_iter_gives.5 in
    let last : c.insert.new.self.entries ≡ es ++ (c.in-Some.name, c.in_ok-metafile.metafile) ∷ [] = c.in_ok-insert.ensures.entries ∙ insert_entry-next es done e left c.in_ok-metafile.metafile c.loop-name.invariant.2.2 sorted in (
      tt,
      tt,
      (
        done ++ e ∷ [],
        all ∙ sym (append_assoc done (e ∷ []) left),
        rw (last, keys_of-append es ((c.in-Some.name, c.in_ok-metafile.metafile) ∷ []), keys_of-append done (e ∷ []), c.loop-name.invariant.2.2) refl,
        each-more metafile_at done e (metafiles_doc es) (metafile_doc c.in_ok-metafile.metafile) c.loop-name.invariant.2.3 c.in_ok-metafile.ensures
            ∙ ap Some (sym (ap metafiles_doc last ∙ map-append (λ m. (string_bytes m.0, metafile_doc m.1)) es ((c.in-Some.name, c.in_ok-metafile.metafile) ∷ []))),
      ),
    )
