use Rattle.std.specs.FinMap as map_of
use Rattle.std.proofs.Common.{ap, map, ◌∙◌}
use Rattle.nv_subsystem.proofs.Words.{controller_entry_view, controller_of, fold, namespace_entry_view, with_namespace}
use Rattle.nv_subsystem.proofs.FileCode.{adds_up, is_sound, mdts_within, nsids_within, rules_within, within_capacity}
use Rattle.nv_subsystem.proofs.subsystem.Subsystem.from_file.Goals as goal

pub unallocated-unallocated-requires : goal.unallocated-unallocated-requires
unallocated-unallocated-requires c = rw (c.deref.ensures.value)
    (within_capacity c.args.file c.requires)

pub slots-requires-clause-nsids : goal.slots-requires-clause-nsids
slots-requires-clause-nsids c = rw (c.deref-2.ensures.value) (nsids_within c.args.file c.requires)

pub controllers-requires-clause-nsids : goal.controllers-requires-clause-nsids
controllers-requires-clause-nsids c = rw (c.deref-3.ensures.value)
    (nsids_within c.args.file c.requires)

pub controllers-requires-clause-rules : goal.controllers-requires-clause-rules
controllers-requires-clause-rules c = rules_within c.args.file c.requires

pub controllers-requires-clause-mdts : goal.controllers-requires-clause-mdts
controllers-requires-clause-mdts c = mdts_within c.args.file c.requires

pub invariant_of-result : goal.invariant_of-result
invariant_of-result c = let slots_are = c.in_ok-slots.ensures.value
    ∙ ap (λ t. record {
      first = 1;
      count = c.args.file.nn;
      values = fold with_namespace map_of.empty (map namespace_entry_view t);
    })
    c.deref-2.ensures.value in (
      is_sound c.args.file c.in_ok-slots.slots c.in_ok-controllers.controllers.items c.requires
          slots_are (c.in_ok-controllers.ensures.value
          ∙ ap (λ t. map (controller_of (map namespace_entry_view t))
          (map controller_entry_view c.args.file.controllers.items)) c.deref-3.ensures.value)
          c.in_ok-controllers.ensures.sized,
      rw slots_are (adds_up c.args.file c.unallocated-unallocated.result c.requires
          (rw c.deref.ensures.value at c.unallocated-unallocated.ensures)),
    )
