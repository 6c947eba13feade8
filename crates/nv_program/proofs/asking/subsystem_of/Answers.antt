use Rattle.std.proofs.Common.{◌≡◌, ◌⊎◌, ◌∙◌, ◌<◌, ◌≤◌, Err, Ok, ap, arith, length, subst, sym}
use Rattle.std.proofs.lemmas.Grind.{common_steps}
use Rattle.std.proofs.lemmas.Result.{err_from_is_err_and}
use Rattle.nv_file.specs.declared.error.SubsystemError.TheVariants.{Memory}
use Rattle.nv_program.specs.Asked.{IsSubsystemOf, most_bytes}
use Rattle.nv_program.specs.Stops.{of_file}
use Rattle.nv_program.proofs.FileLaws.{given_of, long_of, refused_of}
use Rattle.nv_program.proofs.asking.subsystem_of.Goals as goal
use Rattle.nv_subsystem.specs.FromFile.{subsystem}

pub returns-then-len-gt-MOST_BYTES-clause-exact : goal.returns-then-len-gt-MOST_BYTES-clause-exact
returns-then-len-gt-MOST_BYTES-clause-exact g c =
    let more : most_bytes < length c.in-Ok.bytes.items = grind (arith, common_steps, c.if-len-gt-MOST_BYTES.true) in
    let had = g.F.NamedFiles.had c.args.files.now c.args.path.now in
    let failed = g.F.NamedFiles.failed c.args.files.now c.args.path.now in
    let came = c.in-Ok.ensures.bytes in
    long_of had failed c.in-Ok.bytes.items came.0 came.1 more

pub returns-in_err-from_toml-clause-exact : goal.returns-in_err-from_toml-clause-exact
returns-in_err-from_toml-clause-exact g c =
    let had = g.F.NamedFiles.had c.args.files.now c.args.path.now in
    let failed = g.F.NamedFiles.failed c.args.files.now c.args.path.now in
    let few : length c.in-Ok.bytes.items ≤ most_bytes = grind (arith, common_steps, c.if-len-gt-MOST_BYTES.false) in
    let e = c.in_err-from_toml.field-0.0 in
    let gave = c.from_residual in
    let fault = err_from_is_err_and gave.result gave.ensures.1 in
    let is : gave.result ≡ Err (of_file e) = fault.1 ∙ ap Err fault.2 in
    let first = subst (λ b. (e ≡ Memory) ⊎ (subsystem b ≡ Err e)) c.deref.ensures.value
    c.in_err-from_toml.ensures.exact in
    let came = c.in-Ok.ensures.bytes in
    subst (IsSubsystemOf had failed) (sym is)
    (refused_of had failed c.in-Ok.bytes.items came.0 came.1 came.2 few e first)

pub returns-clause-exact : goal.returns-clause-exact
returns-clause-exact g c =
    let had = g.F.NamedFiles.had c.args.files.now c.args.path.now in
    let failed = g.F.NamedFiles.failed c.args.files.now c.args.path.now in
    let few : length c.in-Ok.bytes.items ≤ most_bytes = grind (arith, common_steps, c.if-len-gt-MOST_BYTES.false) in
    let s = c.in_ok-from_toml.field-0 in
    let gives = subst (λ b. subsystem b ≡ Ok s) c.deref.ensures.value c.in_ok-from_toml.ensures.exact in
    let came = c.in-Ok.ensures.bytes in
    given_of had failed c.in-Ok.bytes.items came.0 came.1 came.2 few s gives
