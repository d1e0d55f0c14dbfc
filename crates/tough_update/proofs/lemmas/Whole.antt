-- Whole updates.
use Rattle.std.specs.Prelude.{◌≡◌, ℤ, List, [], ◌∷◌, ◌++◌, Ok}
use Rattle.std.proofs.Common.{◌≤ℤ◌, refl, sym, ◌∙◌, ap, subst, inl, inr}
use Rattle.tough_keys.specs.Same.{Verifies}
use Rattle.tough_roles.specs.Signature.{SignedDoc}
use Rattle.tough_roles.specs.Root.{RootDoc}
use Rattle.tough_update.specs.Stages.{LoadedDoc, StageDoc, CoreDoc}
use Rattle.tough_update.specs.Stages as at
use Rattle.tough_update.specs.Questions as ask
use Rattle.tough_update.specs.Answered.{AnswerDoc}
use Rattle.tough_update.specs.Answered as got
use Rattle.tough_update.specs.Machine.{question, answered, settled, stage_after}
use Rattle.tough_update.specs.Runs.{run, Along, HasNoted, WasStored, IsLast, IsFresh, Loaded}
use Rattle.tough_update.proofs.Prefixes.{in_stage, run-last, over-append}
use Rattle.tough_update.proofs.History.{tells-at}
use Rattle.tough_update.proofs.Noting.{once}
use Rattle.tough_update.proofs.Sound.{Holds, Told, KnownFine, RoleFine, TreeFine, answer-fine, in-time}
use Rattle.tough_update.specs.Trusted.{IsVouched}
use Rattle.tough_update.proofs.growth.Under.{below-to}

module _ (v : Verifies) (c : CoreDoc) (fresh : IsFresh c) (all : List AnswerDoc) where
  abbrev Last : SignedDoc RootDoc → Type 0
  Last = IsLast v c all

  abbrev Noted : ℤ → Type 0
  Noted = HasNoted v c all

  abbrev Stored : SignedDoc RootDoc → Type 0
  Stored = WasStored v c all

  -- this moment was noted
  noted : (h rest : List AnswerDoc) (now : ℤ) → all ≡ h ++ got.Step (Ok (tt {0})) ∷ rest → run v c h ≡ in_stage c (at.Step (at.NoteTime now)) → Noted now
  noted h rest now is stands = record {
    before = h;
    after = rest;
    all = is;
    asked = ap question stands;
    told = tells-at v c fresh h (at.Step (at.NoteTime now)) stands;
    once = λ k t other e f. once v c k h t rest other now (sym e ∙ is) f (ap question stands);
  }

  -- the first root that wasn't there ends the walk, and the moment that was noted is the start
  told : (h rest : List AnswerDoc) (a : AnswerDoc) (st : StageDoc) → all ≡ h ++ a ∷ rest → run v c h ≡ in_stage c st → Told v c.setting Noted Stored Last st a
  told h rest a (at.Fetch (at.Root w) r) is stands = λ f ends. inl (record { before = h; answer = a; after = rest; all = is; asked = ap question stands ∙ ap ask.Fetch f; ends = ends })
  told h rest a (at.Step (at.NoteTime now)) is stands = λ f. noted h rest now (is ∙ ap (λ x. h ++ x ∷ rest) f) stands
  told h rest a (at.ReadRoot w) is stands = λ r e. record { before = h; after = rest; all = is ∙ ap (λ x. h ++ x ∷ rest) e; first = w.first.role.head.version; asked = ap question stands }
  told h rest a _ is stands = tt

  along-holds : (rest h : List AnswerDoc) (st : StageDoc) → all ≡ h ++ rest → run v c h ≡ in_stage c st → Along v (in_stage c st) rest
      → Holds v c.setting Noted Stored Last st → Holds v c.setting Noted Stored Last (run v (in_stage c st) rest).stage
  along-holds [] h st is stands keeps holds = holds
  along-holds (a ∷ rest) h st is stands keeps holds =
      along-holds rest (h ++ a ∷ []) (settled (stage_after v c.setting st a))
      (is ∙ over-append h a rest)
      (run-last v h c a ∙ ap (λ s. answered v s a) stands)
      keeps.1
      (answer-fine v c.setting Noted Stored Last (λ r e. inr e) st a holds (keeps.0, told h rest a st is stands))

pub loaded : (v : Verifies) (c : CoreDoc) (answers : List AnswerDoc) (l : LoadedDoc) → IsFresh c → Along v c answers → (run v c answers).stage ≡ at.Done (Ok l) → Loaded v c answers l
loaded v c answers l fresh keeps is =
    let both : Holds v c.setting (HasNoted v c answers) (WasStored v c answers) (IsLast v c answers) (at.Done (Ok l)) =
    subst (Holds v c.setting (HasNoted v c answers) (WasStored v c answers) (IsLast v c answers)) is
    (along-holds v c fresh answers answers [] c.stage refl refl keeps (subst (Holds v c.setting (HasNoted v c answers) (WasStored v c answers) (IsLast v c answers)) (sym fresh) tt)) in
    let known : KnownFine v c.setting (HasNoted v c answers) (WasStored v c answers) (IsLast v c answers) l.known = both.0 in
    let tree : TreeFine v c.setting (HasNoted v c answers) (WasStored v c answers) (IsLast v c answers) l.known l.targets = both.1 in
    record {
      trusted = record {
        root = known.root.1;
        timestamp = known.timestamp.0;
        alone = known.timestamp.1;
        snapshot = known.snapshot;
        snapshot_named = known.named;
        targets_signed = tree.top.0;
        targets_named = tree.top.1;
        delegated = below-to (RoleFine v c.setting (HasNoted v c answers) (WasStored v c answers) (IsLast v c answers) l.known) (IsVouched v l.known.snapshot.role.meta) (λ g name d h. h.0) l.targets.role tree.below;
        once = tree.once;
        found = tree.found;
      };
      unexpired = λ e. record {
        root = in-time c.setting.enforced _ _ e known.root.3;
        timestamp = in-time c.setting.enforced _ _ e known.timestamp.2;
        snapshot = in-time c.setting.enforced _ _ e known.in_time;
        targets = in-time c.setting.enforced _ _ e tree.top.2;
        delegated = below-to (RoleFine v c.setting (HasNoted v c answers) (WasStored v c answers) (IsLast v c answers) l.known) (λ g name d. l.known.start ≤ℤ d.role.head.expires) (λ g name d h. in-time c.setting.enforced _ _ e h.1) l.targets.role tree.below;
      };
      noted = known.root.0;
      last = known.root.2;
    }
