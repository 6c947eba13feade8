use Rattle.nv_program.proofs.FileLaws.{first_read}
use Rattle.nv_program.proofs.files.AnyNamedFiles.bytes_at.Goals as goal

pub returns-clause-bytes : goal.returns-clause-bytes
returns-clause-bytes g c =
    let first = first_read g.S.File.Read.remaining c.in_ok-file.file c.take-limited.result c.args.most
    c.new-bytes.result.items c.read_to_end.new.buf.items c.take-limited.ensures.limit c.take-limited.ensures.inner
    c.new-bytes.ensures.items c.in_ok-read_to_end.ensures.bytes in
    (first.0, (c.in_ok-file.file, first.1), first.2)
