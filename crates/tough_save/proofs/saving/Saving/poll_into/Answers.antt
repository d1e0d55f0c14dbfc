use Rattle.std.proofs.Common.{◌≡◌, ◌++◌, ℕ, List, rules, [], Err, subst}
use Rattle.tough_files.specs.Calls.{told_of, append_to, done}
use Rattle.tough_save.specs.declared.error.SaveError.TheVariants as error
use Rattle.tough_save.specs.declared.error.Step.TheVariants as step
use Rattle.tough_save.specs.Savings.{Tries, temp_of, target_of}
use Rattle.tough_save.proofs.Grows.{Tells-After, Tells_of_files, Tells_end, Saves-Within, Saves-After, Saves_end, Saves_unwritten, Saves_broken}
use Rattle.tough_save.proofs.saving.Saving.poll_into.Goals as goal

pub returns-in-loop-clause-follows : goal.returns-in-loop-clause-follows
returns-in-loop-clause-follows g c = λ tells r calls h. c.loop.invariant.5 tells r calls
    (Saves-Within (g.S.Stream.yields c.loop.self.stream) (g.S.Stream.yields c.poll_next.new.self) (search rules) (temp_of c.args.self.now) (target_of c.args.self.now) (g.F.Files.calls c.loop.files) calls r h)

pub returns-in-Err-clause-saves : goal.returns-in-Err-clause-saves
returns-in-Err-clause-saves g c = λ tells.
    let P : List ℕ → Type 0 = λ temp. Tries (append_to temp c.in-Some-Ok.piece) step.Write temp temp (Err c.in-Err.e) (g.F.Files.calls c.loop.files) (g.F.Files.calls c.append.new.files) in
    c.loop.invariant.5 tells (Err c.in-Err.e) (g.F.Files.calls c.append.new.files)
    (Saves_unwritten (g.S.Stream.yields c.loop.self.stream) (temp_of c.args.self.now) (target_of c.args.self.now) (g.F.Files.calls c.loop.files) (g.F.Files.calls c.append.new.files)
    c.in-Some-Ok.piece c.in-Err.e (search rules) (subst P c.loop.invariant.2 (c.in-Err.ensures.tried tells)))

pub returns-in-Err-clause-tells : goal.returns-in-Err-clause-tells
returns-in-Err-clause-tells g c = c.loop.invariant.4 (Err c.in-Err.e) (Tells_of_files (g.S.Stream.yields c.loop.self.stream) c.in-Err.e c.in-Err.ensures.of_files)

pub returns-in-Some-Err-clause-saves : goal.returns-in-Some-Err-clause-saves
returns-in-Some-Err-clause-saves g c = λ tells. c.loop.invariant.5 tells (Err (error.Transport c.in-Some-Err.e)) (g.F.Files.calls c.discard.new.files)
    (Saves_broken (g.S.Stream.yields c.loop.self.stream) (temp_of c.args.self.now) (target_of c.args.self.now) (g.F.Files.calls c.loop.files) (g.F.Files.calls c.discard.new.files)
    c.in-Some-Err.e (search rules) (rw c.loop.invariant.2 at (c.discard.ensures tells)))

pub returns-in-Some-Err-clause-tells : goal.returns-in-Some-Err-clause-tells
returns-in-Some-Err-clause-tells g c = c.loop.invariant.4 (Err (error.Transport c.in-Some-Err.e)) ([], search rules)

pub returns-in-None-clause-saves : goal.returns-in-None-clause-saves
returns-in-None-clause-saves g c = λ tells. c.loop.invariant.5 tells c.rename.result (g.F.Files.calls c.rename.new.files)
    (Saves_end (g.S.Stream.yields c.loop.self.stream) (temp_of c.args.self.now) (target_of c.args.self.now) (g.F.Files.calls c.loop.files) (g.F.Files.calls c.rename.new.files)
    (search rules) c.rename.result (rw (c.loop.invariant.2, c.loop.invariant.3) at (c.rename.ensures.tried tells)))

pub returns-in-None-clause-tells : goal.returns-in-None-clause-tells
returns-in-None-clause-tells g c = c.loop.invariant.4 c.rename.result (Tells_end (g.S.Stream.yields c.loop.self.stream) (search rules) c.rename.result c.rename.ensures.of_files)

pub loop-preserved : goal.loop-preserved
loop-preserved g c = (
  search rules,
  search rules,
  search rules,
  search rules,
  λ r h. c.loop.invariant.4 r (Tells-After (g.S.Stream.yields c.loop.self.stream) (g.S.Stream.yields c.poll_next.new.self) c.in-Some-Ok.piece (search rules) r h),
  λ tells r calls h.
      let told : g.F.Files.calls c.append.new.files ≡ g.F.Files.calls c.loop.files ++ told_of (append_to (temp_of c.args.self.now) c.in-Some-Ok.piece) done = rw c.loop.invariant.2 at (c.in_default.ensures.tried tells) in
      c.loop.invariant.5 tells r calls (Saves-After (g.S.Stream.yields c.loop.self.stream) (g.S.Stream.yields c.poll_next.new.self) c.in-Some-Ok.piece (search rules) (temp_of c.args.self.now) (target_of c.args.self.now) (g.F.Files.calls c.loop.files) calls r (rw told at h)),
)
