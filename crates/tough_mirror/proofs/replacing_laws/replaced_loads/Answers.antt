use Rattle.std.proofs.Common.{◌≡◌, List, None, refl, sym, subst, ◌∙◌}
use Rattle.std.specs.List.{AllByRecursion}
use Rattle.std.specs.Path.{IsRelative}
use Rattle.std.specs.Prelude.{Some}
use Rattle.std.specs.Str.{bytes_eq}
use Rattle.tough_write.specs.Ordering.{timestamp_last}
use Rattle.tough_write.specs.Replacing.{AreReplaced}
use Rattle.std.specs.Path.{path_join}
use Rattle.tough_honest.specs.Serves.{ServesName}
use Rattle.tough_load.specs.Loader.{first_core, settings_of, transport_of, verifier_of}
use Rattle.tough_load.specs.Words as part
use Rattle.tough_round.specs.Files.{files_of, written}
use Rattle.tough_write.specs.Filling.{content_at}
use Rattle.tough_mirror.specs.Folder.{files_in}
use Rattle.tough_trust.specs.Requests.{RequestDoc}
use Rattle.tough_update.specs.Answered.{AnswerDoc}
use Rattle.tough_update.specs.Loadable.{AllHonest}
use Rattle.tough_update.specs.Machine.{question}
use Rattle.tough_update.specs.Questions.{Fetch}
use Rattle.tough_update.specs.Runs.{run}
use Rattle.tough_mirror.proofs.SameAnswers.{honest-same}
use Rattle.tough_mirror.proofs.AskedNames.{asked-relative, written-relative}
use Rattle.tough_mirror.proofs.LatestFiles.{asked-plain, latest, nothing-read}
use Rattle.tough_mirror.proofs.TimestampLast.{all-last, miss-last}
use Rattle.tough_mirror.proofs.replacing_laws.replaced_loads.Goals as goal

pub returns : goal.returns
returns g c = λ from l new signers e r outdir before after outcome released well replaced begun tells untouched finishes fine.
    let v = g.V.Verify.verifies (verifier_of from) in
    let core = first_core (settings_of from) in
    let began = c.released_loads.ensures from l new signers e r outcome begun tells untouched well released finishes fine in
    let now = began.0 in
    let in-order = subst (λ files. AreReplaced outdir (timestamp_last files) before after) (c.files_are_the_same.ensures r) replaced in (
      now,
      began.1,
      λ may free serves.
          let found = all-last _ _ _ _ _ (λ f. files_of r f.0 ≡ Some f.1) (c.released_is_found.ensures v core.setting now signers e r released may) in
          let relative-all = all-last _ _ _ _ _ (λ f. IsRelative f.0) (written-relative r) in
          let reads = c.replaced_reads_back.ensures outdir (timestamp_last (written r)) before after in-order in
          let same : (answers : List AnswerDoc) (q : RequestDoc) → AllHonest v (files_of r) now core answers → question (run v core answers) ≡ Fetch q → files_in outdir after q.name ≡ files_of r q.name
          = λ answers q honest asked.
          let relative = asked-relative v core answers q (c.asks.ensures v core answers q refl asked) in
          let path = path_join outdir q.name in
          let none : files_of r q.name ≡ None → before path ≡ None = free.others answers q honest asked in
          reads path (asked-plain outdir q.name before (written r) free.plain none)
          ∙ latest outdir q.name (files_of r) relative (timestamp_last (written r)) found relative-all (content_at before path)
          (λ e. let missed = miss-last _ _ _ _ _ (bytes_eq q.name) e in nothing-read before path (none missed) ∙ sym missed) in
          began.2 may (λ answers q honest asked.
          subst (ServesName g.T.Transport.refuses g.T.Transport.serves (transport_of from) (part.base_of l) q.name) (same answers q honest asked)
          (serves answers q (honest-same v (files_of r) (files_in outdir after) now core same answers honest) asked)),
    )
