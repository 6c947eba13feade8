-- The checks of a table without members.
use Rattle.std.proofs.Common.{◌≡◌, Some, None, refl}
use Rattle.nv_model.specs.Logs.{zero_smart}
use Rattle.nv_file.specs.Check.{check, first_error}
use Rattle.nv_file.specs.File.{file_checks, first_top_checks, no_version, top_checks}
use Rattle.nv_file.specs.KeyChecks.{integer, integers_at, number_at, of_kind, optional_integer, optional_list}
use Rattle.nv_file.specs.TableChecks.{counters_checks, counters_value, smart_checks, smart_value}
use Rattle.nv_file.proofs.Words.{no_members}

-- a top table without members has no version
pub no_version_first : first_error (first_top_checks no_members) ≡ Some no_version
unfolding integer first_error check
no_version_first = refl

-- that is the first fault of the whole file, too
pub no_version_at_all : first_error (file_checks no_members) ≡ Some no_version
unfolding file_checks top_checks integer first_error check
no_version_at_all = refl

-- a table without members is a health log without a fault
pub no_smart_fault : first_error (smart_checks no_members) ≡ None
unfolding smart_checks counters_checks optional_integer optional_list of_kind integers_at first_error check
no_smart_fault = refl

-- the health log of a table without members is all zeros
pub no_smart_value : smart_value no_members ≡ zero_smart
unfolding smart_value counters_value number_at integers_at
no_smart_value = refl

pub ruleset empty_tables = (no_smart_fault, no_smart_value)
