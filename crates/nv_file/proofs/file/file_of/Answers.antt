use Rattle.std.proofs.Common.{◌≡◌, ap, sym, ◌∙◌, length}
use Rattle.nv_file.proofs.Words.{leb-true, length-map}
use Rattle.nv_file.proofs.Attached.{attached}
use Rattle.nv_file.proofs.Fused.{capacities}
use Rattle.nv_file.proofs.file.file_of.Goals as goal

pub returns-clause-sound : goal.returns-clause-sound
returns-clause-sound c =
    let top = c.in_ok-top.ensures.sound in
    let formats : length c.in_ok-formats.formats.items ≡ length c.in_ok-top.top.formats.items =
    c.in_ok-formats.ensures.count ∙ ap length c.deref.ensures.value in
    let controllers : length c.in_ok-controllers.controllers.items ≡ length
    c.in_ok-top.top.controllers.items = c.in_ok-controllers.ensures.count
    ∙ ap length c.deref-2.ensures.value in
    let namespaces : length c.in_ok-namespaces.namespaces.items ≡ length
    c.in_ok-top.top.namespaces.items = c.in_ok-namespaces.ensures.count
    ∙ ap length c.deref-4.ensures.value in
    let fits = rw c.deref-5.ensures.value at (sym c.fits.ensures ∙ c.in_ok-ensure.ensures.sound) in
    let attaches = rw (c.deref-6.ensures.value, c.deref-7.ensures.value)
    at (sym c.attaches.ensures ∙ c.in_ok-ensure-2.ensures.sound) in
    record {
      keys = top.keys;
      format_count = rw formats (simp length-map at top.formats);
      formats = c.in_ok-formats.ensures.sound;
      controller_count = rw (length-map, controllers) (simp length-map at top.controllers);
      controllers = c.in_ok-controllers.ensures.sound;
      cntlids = c.in_ok-controllers.ensures.cntlids;
      namespace_count = rw (length-map, namespaces) (simp length-map at top.namespaces);
      namespaces = rw c.deref-3.ensures.value at c.in_ok-namespaces.ensures.sound;
      nsids = c.in_ok-namespaces.ensures.nsids;
      capacities = rw capacities (leb-true _ _ fits);
      attachments = attached _ _ attaches;
    }
