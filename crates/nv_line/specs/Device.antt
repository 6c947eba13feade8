-- The paths of devices: /dev/nvmeX and /dev/nvmeXnY.
use Rattle.std.specs.Prelude.{ℕ, Bool, ◌==◌, nat_lt, drop, take, length, codes, if◌then◌else◌}
use Rattle.std.specs.Prelude.{Option, Some, None, option_map, option_and_then}
use Rattle.std.specs.List.{after_first, before_first, position_or_len}
use Rattle.std.specs.Str.{bytes_eq}
use Rattle.clap.specs.Words.{Text}
use Rattle.nv_line.specs.Values.{decimal_number, within}
use Rattle.nv_line.specs.declared.device.Device.{Device}
use Rattle.nv_line.specs.Word.{nsid_limit}

-- X, the place of a controller in the subsystem's file
abbrev pub controller_index : ℕ → Text → Option ℕ
controller_index controllers text =
    option_and_then (λ x. if nat_lt x controllers then Some x else None) (decimal_number text)

-- Y, an NSID
abbrev pub nsid_of : Text → Option ℕ
nsid_of text = option_and_then (within 1 nsid_limit) (decimal_number text)

-- the letter n
abbrev pub is_n : ℕ → Bool
is_n b = b == 110

-- X, or XnY
-- a namespace of a controller, by the text of its NSID
abbrev pub namespace_address : Text → ℕ → Option Device
namespace_address text controller =
    option_map (λ n. record { controller = controller; nsid = Some n }) (nsid_of text)

-- the device of an address after /dev/nvme, which has a namespace if it has the letter n
abbrev pub address_of : ℕ → Text → Option Device
address_of controllers text =
    if nat_lt (position_or_len is_n text) (length text)
    then option_and_then (namespace_address (after_first is_n text))
    (controller_index controllers (before_first is_n text))
    else option_map (λ x. record { controller = x; nsid = None })
    (controller_index controllers text)

-- the rest of a text after a prefix
unfoldable pub strip : Text → Text → Option Text
strip prefix text =
    if bytes_eq (take (length prefix) text) prefix then Some (drop (length prefix) text) else None

-- /dev/nvmeX, or /dev/nvmeXnY
abbrev pub device_of : ℕ → Text → Option Device
device_of controllers text =
    option_and_then (address_of controllers) (strip (codes "/dev/nvme") text)
