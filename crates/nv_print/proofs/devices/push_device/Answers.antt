use Rattle.nv_print.proofs.Words.{[], ◌++◌, ◌∙◌, ◌∷◌, ap, decimal, left, node_of, printable, right, string_bytes}
use Rattle.nv_print.proofs.Fields.{columns_more}
use Rattle.nv_print.proofs.devices.push_device.Goals as goal

pub returns-clause-value : goal.returns-clause-value
returns-clause-value c =
    let d = c.args.device.now in
    let node = c.in_ok-push_node_column.ensures in
    let serial = c.in_ok-push_left.ensures ∙ (λ i. node i ++ (left 20 (c.requires.serial i) ++ 32 ∷ [])) in
    let model = c.in_ok-push_left-2.ensures ∙ (λ i. serial i ++ (left 40 (c.requires.model i) ++ 32 ∷ [])) in
    let nsid = c.in_ok-push_right.ensures ∙ (λ i. model i ++ right 10 (decimal (c.from.ensures i))) in
    let bytes = c.in_ok-push_column.ensures ∙ ap (λ t. t ++ 32 ∷ right 20 (decimal d.bytes)) nsid in
    let block_size = c.in_ok-push_column-2.ensures ∙ ap (λ t. t ++ 32 ∷ right 6 (decimal d.block_size)) bytes in
    c.in_ok-push_str.ensures.bytes ∙ ap (λ t. t ++ 10 ∷ []) block_size
    ∙ columns_more (string_bytes c.args.text.now) (left 18 (node_of d.controller d.nsid)) (left 20 (printable d.serial))
    (left 40 (printable d.model)) (right 10 (decimal d.nsid)) (right 20 (decimal d.bytes))
    (right 6 (decimal d.block_size))
