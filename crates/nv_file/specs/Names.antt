-- The tables and keys of a file, as it spells them.
use Rattle.std.specs.Prelude.{ℕ, ◌==◌, if◌then◌else◌, List, [], ◌∷◌, codes}
use Rattle.nv_file.specs.declared.table_name.TableName.{TableName}
use Rattle.nv_file.specs.declared.table_name.TableName.TheVariants as table
use Rattle.nv_file.specs.declared.key.Key.{Key}
use Rattle.nv_file.specs.declared.key.Key.TheVariants as key

-- the name of each table
unfoldable pub table_text : TableName → List ℕ
table_text table.Top = codes "top"
table_text table.Format = codes "format"
table_text table.Controller = codes "controller"
table_text table.Feature = codes "feature"
table_text table.Smart = codes "smart"
table_text table.Namespace = codes "namespace"

-- the name of each key
unfoldable pub key_text : Key → List ℕ
key_text key.Version = codes "version"
key_text key.Nn = codes "nn"
key_text key.Tnvmcap = codes "tnvmcap"
key_text key.Mc = codes "mc"
key_text key.Subnqn = codes "subnqn"
key_text key.Format = codes "format"
key_text key.Controller = codes "controller"
key_text key.Namespace = codes "namespace"
key_text key.Lbads = codes "lbads"
key_text key.Ms = codes "ms"
key_text key.Rp = codes "rp"
key_text key.Cntlid = codes "cntlid"
key_text key.Sn = codes "sn"
key_text key.Mn = codes "mn"
key_text key.Fr = codes "fr"
key_text key.Vid = codes "vid"
key_text key.Ssvid = codes "ssvid"
key_text key.Rab = codes "rab"
key_text key.Ieee = codes "ieee"
key_text key.Mdts = codes "mdts"
key_text key.Elpe = codes "elpe"
key_text key.Wctemp = codes "wctemp"
key_text key.Cctemp = codes "cctemp"
key_text key.Vwc = codes "vwc"
key_text key.CryptoErase = codes "crypto_erase"
key_text key.Feature = codes "feature"
key_text key.Smart = codes "smart"
key_text key.Fid = codes "fid"
key_text key.Default = codes "default"
key_text key.Saveable = codes "saveable"
key_text key.Changeable = codes "changeable"
key_text key.Over = codes "over"
key_text key.Under = codes "under"
key_text key.CriticalWarning = codes "critical_warning"
key_text key.AvailSpare = codes "avail_spare"
key_text key.SpareThresh = codes "spare_thresh"
key_text key.PercentUsed = codes "percent_used"
key_text key.Temperature = codes "temperature"
key_text key.DataUnitsRead = codes "data_units_read"
key_text key.DataUnitsWritten = codes "data_units_written"
key_text key.HostReadCommands = codes "host_read_commands"
key_text key.HostWriteCommands = codes "host_write_commands"
key_text key.ControllerBusyTime = codes "controller_busy_time"
key_text key.PowerCycles = codes "power_cycles"
key_text key.PowerOnHours = codes "power_on_hours"
key_text key.UnsafeShutdowns = codes "unsafe_shutdowns"
key_text key.MediaErrors = codes "media_errors"
key_text key.WarningTempTime = codes "warning_temp_time"
key_text key.CriticalCompTime = codes "critical_comp_time"
key_text key.Sensors = codes "sensors"
key_text key.Nsid = codes "nsid"
key_text key.Bytes = codes "bytes"
key_text key.Extended = codes "extended"
key_text key.Shared = codes "shared"
key_text key.Controllers = codes "controllers"

-- the keys that a table may have
unfoldable pub keys_of : TableName → List Key
keys_of table.Top =
    key.Version ∷ key.Nn ∷ key.Tnvmcap ∷ key.Mc ∷ key.Subnqn ∷ key.Format ∷ key.Controller ∷
    key.Namespace ∷ []
keys_of table.Format = key.Lbads ∷ key.Ms ∷ key.Rp ∷ []
keys_of table.Controller =
    key.Cntlid ∷ key.Sn ∷ key.Mn ∷ key.Fr ∷ key.Vid ∷ key.Ssvid ∷ key.Rab ∷ key.Ieee ∷ key.Mdts ∷
    key.Elpe ∷ key.Wctemp ∷ key.Cctemp ∷ key.Vwc ∷ key.CryptoErase ∷ key.Feature ∷ key.Smart ∷ []
keys_of table.Feature =
    key.Fid ∷ key.Default ∷ key.Saveable ∷ key.Changeable ∷ key.Over ∷ key.Under ∷ []
keys_of table.Smart =
    key.CriticalWarning ∷ key.AvailSpare ∷ key.SpareThresh ∷ key.PercentUsed ∷ key.Temperature ∷
    key.DataUnitsRead ∷ key.DataUnitsWritten ∷ key.HostReadCommands ∷ key.HostWriteCommands ∷
    key.ControllerBusyTime ∷ key.PowerCycles ∷ key.PowerOnHours ∷ key.UnsafeShutdowns ∷
    key.MediaErrors ∷ key.WarningTempTime ∷ key.CriticalCompTime ∷ key.Sensors ∷ []
keys_of table.Namespace =
    key.Nsid ∷ key.Bytes ∷ key.Format ∷ key.Extended ∷ key.Shared ∷ key.Controllers ∷ []

-- the keys that a feature may have in a version of the file
unfoldable pub feature_keys : ℕ → List Key
feature_keys version =
    if version == 1
    then key.Fid ∷ key.Default ∷ key.Saveable ∷ key.Changeable ∷ []
    else keys_of table.Feature
