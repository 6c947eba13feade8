use Rattle.nv_driver.proofs.Words.{◌+◌, ◌∙◌, ◌≡◌, Geometry, IsGeometry, Still, ap, arith, banks_of, driver_with}
use Rattle.nv_driver.proofs.Words.{idle_banks, if◌then◌else◌, length, pages_of_entry, pairs_of, rules, subst, sym}
use Rattle.nv_host.specs.declared.memory.FlatMemory.{FlatMemory}
use Rattle.nv_driver.specs.declared.host_side.HostSide.{HostSide}
use Rattle.nv_driver.proofs.BringingUpLaws.{same_geometry}
use Rattle.nv_driver.proofs.MemoryLaws.{IsFirst, driver_at_first, has_pairs}
use Rattle.nv_driver.proofs.driver.Driver.lay_out.Given.{Over}
use Rattle.nv_driver.proofs.driver.Driver.lay_out.Goals.{In_ok-enable_all}
use Rattle.nv_driver.proofs.driver.Driver.lay_out.Goals as goal

pub enable_all-requires-clause-laid : goal.enable_all-requires-clause-laid
enable_all-requires-clause-laid g c =
    has_pairs c.more_pages-more.result (subst IsGeometry c.geometry.view_is c.geometry.invariant)
    c.controllers-controllers.ensures
    (ap (λ n. n + c.more_pages-more.result) c.pages-first.ensures.pages)
    (ap (λ (h : HostSide FlatMemory). h.mem) (c.deref_mut.ensures.value ∙ c.in-Ok.ensures.ok)
    ∙ (rw (ap (λ (q : Geometry). q.page_size) c.geometry.view_is) at c.in_ok-mem.ensures))

-- it is the memory of a new driver
first : (g : Over) (c : In_ok-enable_all g)
    → IsFirst c.in_ok-geometry.geometry (length (g.B.Bus.meaning c.args.bus.now).banks) c.more_pages-more.result
    c.enable_all.new.mem c.in_ok-pairs.pairs.items c.in_ok-more_pages.more_pages
first g c =
    let e = c.in_ok-enable_all.ensures in
    driver_at_first c.more_pages-more.result (subst IsGeometry c.geometry.view_is c.geometry.invariant)
    c.controllers-controllers.ensures
    (ap (λ n. n + c.more_pages-more.result) c.pages-first.ensures.pages)
    (ap (λ (h : HostSide FlatMemory). h.mem) (c.deref_mut.ensures.value ∙ c.in-Ok.ensures.ok)
    ∙ (rw (ap (λ (q : Geometry). q.page_size) c.geometry.view_is) at c.in_ok-mem.ensures))
    (omega (arith, c.pages-first.ensures.few, c.more_pages-more.ensures.few)) e.page e.len
    c.in_ok-pairs.ensures.quiet c.in_ok-pairs.ensures.pairs e.settled (rw c.pages-first.ensures.pages at
    c.in_ok-more_pages.ensures)

pub invariant_of-result : goal.invariant_of-result
invariant_of-result g c = (first g c).driver

pub returns : goal.returns
returns g c =
    let e = c.in_ok-enable_all.ensures in
    let same : c.in_ok-geometry.geometry ≡ c.args.geometry = search rules in
    let controllers = length (g.B.Bus.meaning c.args.bus.now).banks in
    let made = (first g c).value
    ∙ ap (driver_with c.in_ok-geometry.geometry controllers) c.more_pages-more.ensures.pages
    ∙ ap (λ (q : Geometry). driver_with q controllers
    (if c.args.with_entries then pages_of_entry q.page_size else 0)) same in
    record {
      brought = record {
        driver = made;
        linked = record {
          bus = e.bus tt;
          left = e.banks tt ∙ ap (λ (q : Geometry). idle_banks q.page_size (pairs_of q controllers)) same
              ∙ sym (ap banks_of made);
        };
        state = e.state tt;
        geometry = search rules;
        ready = search rules;
        untouched = tt;
      };
      steps = (
        _,
        _,
        same_geometry g.B.Bus.was_written (Still g.B.Bus.was_read) g.B.Zeroing.was_zeroed _ _ controllers _ _ _ _ same
            e.steps,
      );
    }
