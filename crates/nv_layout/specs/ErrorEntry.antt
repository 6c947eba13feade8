-- An entry of the error log, and when its fields fit.
use Rattle.std.specs.Prelude.{false, ◌^◌, ◌<◌}
use Rattle.nv_layout.specs.Status.{StatusFits}
use Rattle.nv_layout.specs.declared.error_entry.ErrorEntry.{ErrorEntry}
use Rattle.nv_layout.specs.declared.cqe.Status.{Status}

-- each field fits its bits
pub record ErrorEntryFits (r : ErrorEntry) : Type 0 where
  pub count : r.count < 2 ^ 64
  pub sqid : r.sqid < 2 ^ 16
  pub cid : r.cid < 2 ^ 16
  pub status : StatusFits r.status
  pub location : r.location < 2 ^ 16
  pub lba : r.lba < 2 ^ 64
  pub nsid : r.nsid < 2 ^ 32
  pub vendor : r.vendor < 2 ^ 8
  pub specific : r.specific < 2 ^ 64

-- the status of a command that succeeded: all fields are 0
abbrev success : Status
success = record { sc = 0; sct = 0; crd = 0; more = false; dnr = false }

-- the entry that holds no error
abbrev pub no_entry : ErrorEntry
no_entry = record {
  count = 0;
  sqid = 0;
  cid = 0;
  status = success;
  phase = false;
  location = 0;
  lba = 0;
  nsid = 0;
  vendor = 0;
  specific = 0;
}
