use Rattle.nv_layout.proofs.LogLaws.{error_entry_back, smart_back}
use Rattle.nv_layout.proofs.IdentifyLaws.{id_ctrl_back, id_ns_back, lbaf_read_back, new_namespace_back}
use Rattle.nv_layout.proofs.RecordLaws.{cqe_back, ctrl_list_back, ns_list_back, sqe_back, status_back}
use Rattle.nv_layout.proofs.reads_back.Goals as goal

pub returns : goal.returns
returns c = record {
  sqe = sqe_back;
  cqe = cqe_back;
  status = status_back;
  id_ctrl = id_ctrl_back;
  id_ns = id_ns_back;
  lbaf = lbaf_read_back;
  new_namespace = new_namespace_back;
  ns_list = ns_list_back;
  ctrl_list = ctrl_list_back;
  smart = smart_back;
  error_entry = error_entry_back;
}
