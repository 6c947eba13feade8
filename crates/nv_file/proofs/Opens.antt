-- What `unfolding` opens by one name: the checks and values that its line lists.
use Rattle.nv_file.specs.File.{file_checks, file_value}
use Rattle.nv_file.specs.KeyChecks.{flag_at, integer, integers_at, number_at, of_kind, optional_integer, tables}
use Rattle.nv_file.specs.KeyChecks.{tables_at, text, text_at}
use Rattle.nv_file.specs.TableChecks.{controller_checks, controller_value, counters_checks, counters_value}
use Rattle.nv_file.specs.TableChecks.{defaults_checks, defaults_value, feature_checks, feature_value, format_checks}
use Rattle.nv_file.specs.TableChecks.{format_value, identity_checks, identity_value, namespace_checks, namespace_value}
use Rattle.nv_file.specs.TableChecks.{numbers_checks, numbers_value, smart_checks, smart_value, thresholds}
use Rattle.nv_file.specs.TableChecks.{thresholds_at}

-- opens the checks of one key, and the values at a key
unfoldable pub keys : Unit {0}
unfolding integer optional_integer text tables of_kind number_at flag_at text_at integers_at tables_at
keys = tt

-- opens the checks and the values of each part of a table
unfoldable pub part : Unit {0}
unfolding thresholds thresholds_at counters_checks counters_value numbers_checks numbers_value
part = tt

-- opens the checks and the values of each table without such parts
unfoldable pub table : Unit {0}
unfolding format_checks format_value namespace_checks namespace_value
table = tt

-- opens the checks and the values of each table with parts, whose own checks and values stay closed
unfoldable pub whole : Unit {0}
unfolding feature_checks feature_value smart_checks smart_value identity_checks identity_value
whole = tt

-- opens the checks and the value of a feature's defaults
unfoldable pub defaults : Unit {0}
unfolding defaults_checks defaults_value
defaults = tt

-- opens the checks and the value of a controller
unfoldable pub controller : Unit {0}
unfolding controller_checks controller_value identity_value numbers_value
controller = tt

-- opens the checks and the value of a whole file
unfoldable pub file : Unit {0}
unfolding file_checks file_value
file = tt
