use Rattle.std.proofs.Common.{rules, [], ◌∷◌, ◌++◌, refl, ap, ◌∙◌}
use Rattle.witnesses.proofs.lives.life.Goals as goal

pub returns : goal.returns
returns c = record {
  core = c.new.result;
  cores = c.in_ok-push.ensures.items ∙ ap (λ xs. xs ++ c.new.result ∷ []) c.new-cores.ensures.items;
  trusts = ap (λ d. d.setting.trusted) c.new.ensures.core ∙ search rules;
  fresh = ap (λ d. d.stage) c.new.ensures.core;
  turns = refl;
}
