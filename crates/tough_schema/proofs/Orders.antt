-- What is written for targets has its names in order, and numbers of 64 bits.
use Rattle.std.proofs.Common.{◌≡◌, ℕ, List, [], ◌∷◌, codes, Option, Some, refl, sym, subst, ◌∙◌}
use Rattle.serde_json.specs.Data.{Data, number, unsigned, object, Members, no_members, member}
use Rattle.tough_json.specs.Pieces.{replaced}
use Rattle.tough_json.specs.Reading.{◌>>=◌}
use Rattle.tough_json.specs.Writing.{with, with_optional, optional_json, hexadecimal_json, length_json}
use Rattle.tough_json.specs.Table.{table_json}
use Rattle.tough_json.proofs.lemmas.Write.{bind_ok, some-inj}
use Rattle.tough_names.specs.Named.{Named}
use Rattle.tough_roles.specs.Orderly.{IsOrderly, HasOrder}
use Rattle.tough_roles.specs.Timestamp.{HashesDoc, hashes_json}
use Rattle.tough_roles.proofs.lemmas.Rising.{with-order, replaced-order, digits-orderly}
use Rattle.tough_schema.specs.Fitting.{IsFit, AreFit}
use Rattle.tough_schema.specs.Target.{TargetDoc, target_json, unless_empty}
use Rattle.tough_schema.specs.Targets.{TargetsDoc, raw_name, listing_json, around_json, targets_json}
use Rattle.tough_schema.proofs.Around.{around-replaced}
use Rattle.tough_schema.proofs.TargetLemmas.{plain-json}

-- the digits that are written
digits-of : (h : HashesDoc) (d : Data) → hashes_json h ≡ Some d → (found : Data) × (hexadecimal_json h.sha256 ≡ Some found)
unfolding hashes_json
digits-of h d w =
    let a = bind_ok (optional_json hexadecimal_json h.sha512) (λ second. with_optional (codes "sha512") second h.extra >>= λ rest. hexadecimal_json h.sha256 >>= λ digits. with (codes "sha256") digits rest >>= λ ms. Some (object ms)) d w in
    let b = bind_ok (with_optional (codes "sha512") a.0 h.extra) (λ rest. hexadecimal_json h.sha256 >>= λ digits. with (codes "sha256") digits rest >>= λ ms. Some (object ms)) d a.2 in
    let c = bind_ok (hexadecimal_json h.sha256) (λ digits. with (codes "sha256") digits b.0 >>= λ ms. Some (object ms)) d b.2 in (c.0, c.1)

hashes-of : (t : TargetDoc) (d : Data) → target_json t ≡ Some d → (inner : Data) × (hashes_json t.hashes ≡ Some inner)
unfolding target_json
hashes-of t d w =
    let a = bind_ok (with_optional (codes "custom") (unless_empty t.custom) t.extra) (λ custom. hashes_json t.hashes >>= λ inner. with (codes "hashes") inner custom >>= λ hs. length_json t.length >>= λ size. with (codes "length") size hs >>= λ ms. Some (object ms)) d w in
    let b = bind_ok (hashes_json t.hashes) (λ inner. with (codes "hashes") inner a.0 >>= λ hs. length_json t.length >>= λ size. with (codes "length") size hs >>= λ ms. Some (object ms)) d a.2 in (b.0, b.1)

target-orderly : (t : TargetDoc) (d : Data) → IsFit t → target_json t ≡ Some d → IsOrderly d
target-orderly t d fit w =
    let inner = hashes-of t d w in
    let found = digits-of t.hashes inner.0 inner.1 in
    let size : Data = number (unsigned t.length) in
    let whole : Data = object (member (codes "hashes") (object (member (codes "sha256") found.0 no_members)) (member (codes "length") size no_members)) in
    let same : whole ≡ d = some-inj (sym (plain-json t found.0 size fit.0 found.1 refl) ∙ w) in
    let told : IsOrderly whole = ((refl, tt), (tt, digits-orderly t.hashes.sha256 found.0 found.1, tt), (tt, fit.1, tt)) in
    subst IsOrderly same told

listing-order : (es : List (Named × TargetDoc)) (found out : Members) → AreFit es → HasOrder found → listing_json es found ≡ Some out → HasOrder out
unfolding table_json
listing-order [] found out fit h w = subst HasOrder (some-inj w) h
listing-order (e ∷ es) found out fit h w =
    let a = bind_ok (target_json e.1) (λ value. raw_name e.0 >>= λ n. with n value found >>= λ more. listing_json es more) out w in
    let b = bind_ok (raw_name e.0) (λ n. with n a.0 found >>= λ more. listing_json es more) out a.2 in
    let c = bind_ok (with b.0 a.0 found) (λ more. listing_json es more) out b.2 in
    listing-order es c.0 out fit.1 (with-order b.0 a.0 found c.0 c.1 (target-orderly e.1 a.0 fit.0 a.1) h) c.2

pub targets-orderly : (x : Data) (t : TargetsDoc) (around : Members) (d : Data) → around_json x t ≡ Some around → HasOrder around → AreFit t.targets → targets_json t ≡ Some d → IsOrderly d
unfolding targets_json
targets-orderly x t around d told order fit w =
    let f = bind_ok (listing_json t.targets no_members) (λ listed. around_json (object listed) t >>= λ ms. Some (object ms)) d w in
    let b = bind_ok (around_json (object f.0) t) (λ ms. Some (object ms)) d f.2 in
    let same : replaced (codes "targets") (object f.0) around ≡ b.0 = some-inj (sym (around-replaced x (object f.0) t around told) ∙ b.1) in
    let whole : HasOrder b.0 = subst HasOrder same (replaced-order (codes "targets") (object f.0) around (listing-order t.targets no_members f.0 fit tt f.1) order) in
    subst IsOrderly (some-inj b.2) whole
