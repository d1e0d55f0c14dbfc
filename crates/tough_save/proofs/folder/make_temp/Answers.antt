use Rattle.std.proofs.Common.{rules, string_bytes, inl, inr}
use Rattle.tough_files.specs.Calls.{done, named, refused}
use Rattle.tough_save.proofs.folder.make_temp.Goals as goal

pub returns-in-Err : goal.returns-in-Err
returns-in-Err g c = λ tells. (refused c.in-Err.e, (search rules, search rules))

pub returns-in-Err-canonical : goal.returns-in-Err-canonical
returns-in-Err-canonical g c = λ tells. (done, (refused c.in-Err-canonical.e, (search rules, search rules)))

pub returns-in-Err-canonical-2 : goal.returns-in-Err-canonical-2
returns-in-Err-canonical-2 g c = λ tells. (done, (named (string_bytes c.in-Ok.real), (refused c.in-Err-canonical-2.e, (search rules, search rules))))

pub returns-then-not-starts_with : goal.returns-then-not-starts_with
returns-then-not-starts_with g c = λ tells. (done, (named (string_bytes c.in-Ok.real), (named (string_bytes c.in-Ok-canonical.base), inr (search rules, (search rules, search rules)))))

pub returns-in-Ok-create_temp : goal.returns-in-Ok-create_temp
returns-in-Ok-create_temp g c = λ tells. (done, (named (string_bytes c.in-Ok.real), (named (string_bytes c.in-Ok-canonical.base), inl (search rules, (named (string_bytes c.in-Ok-create_temp.temp), (search rules, search rules))))))

pub returns : goal.returns
returns g c = λ tells. (done, (named (string_bytes c.in-Ok.real), (named (string_bytes c.in-Ok-canonical.base), inl (search rules, (refused c.in-Err-create_temp.e, (search rules, search rules))))))
