-- What list shows of each device.
use Rattle.std.specs.Prelude.{ℕ, ◌-◌, ◌*◌, ◌^◌, ◌%◌, min, List, [], ◌∷◌, ◌++◌, codes, flat_map, map}
use Rattle.std.specs.List.{slice_get}
use Rattle.std.specs.Option.{option_map_or}
use Rattle.std.specs.Fmt.{decimal}
use Rattle.nv_layout.specs.declared.id_ctrl.IdCtrl.{IdCtrl}
use Rattle.nv_layout.specs.declared.id_ns.IdNs.{IdNs}
use Rattle.nv_print.specs.declared.device.ListedDevice.{ListedDevice}
use Rattle.serde_json.specs.Data.{Data, array, object, no_members, put}
use Rattle.serde_json.specs.View.{items_of}
use Rattle.nv_print.specs.Field.{Field, field, as_text, in_decimal, object_of}
use Rattle.nv_print.specs.Text.{left, right, printable}

-- a number of bytes as it is shown: 2^64 - 1 if it is greater
abbrev pub shown_bytes : ℕ → ℕ
shown_bytes n = min n (2 ^ 64 - 1)

-- the size of a logical block: 2^LBADS of the format in use, FLBAS 3:0
abbrev pub block_size_of : IdNs → ℕ
block_size_of r =
    option_map_or (λ f. shown_bytes (2 ^ f.lbads)) (slice_get r.lbafs (r.flbas % 16)) 0

-- a namespace of a controller
abbrev pub device_of : ℕ → ℕ → IdCtrl → IdNs → ListedDevice
device_of controller nsid identity namespace = record {
  controller = controller;
  nsid = nsid;
  serial = identity.sn;
  model = identity.mn;
  bytes = shown_bytes (namespace.nsze * block_size_of namespace);
  block_size = block_size_of namespace;
}

-- the node of a controller's namespace, such as "/dev/nvme0n1"
abbrev pub node_of : ℕ → ℕ → List ℕ
node_of controller nsid = codes "/dev/nvme" ++ (decimal controller ++ (codes "n" ++ decimal nsid))

-- node, serial number, model, NSID, bytes and block size in columns
abbrev pub device_line : ListedDevice → List ℕ
device_line d =
    left 18 (node_of d.controller d.nsid)
    ++ (32 ∷ left 20 (printable d.serial)
    ++ (32 ∷ left 40 (printable d.model)
    ++ (32 ∷ right 10 (decimal d.nsid)
    ++ (32 ∷ right 20 (decimal d.bytes)
    ++ (32 ∷ right 6 (decimal d.block_size)
    ++ 10 ∷ [])))))

-- the lines of devices
abbrev pub devices_text : List ListedDevice → List ℕ
devices_text devices = flat_map device_line devices

-- the fields of a device in JSON
unfoldable pub fields_of_device : ListedDevice → List Field
fields_of_device d =
    field (codes "node") (as_text (node_of d.controller d.nsid))
    ∷ field (codes "serial") (as_text (printable d.serial))
    ∷ field (codes "model") (as_text (printable d.model))
    ∷ field (codes "namespace") (in_decimal d.nsid)
    ∷ field (codes "bytes") (in_decimal d.bytes)
    ∷ field (codes "block_size") (in_decimal d.block_size)
    ∷ []

-- an object with the devices under the key "devices"
abbrev pub devices_data : List ListedDevice → Data
devices_data devices =
    let objects = array (items_of (map (λ d. object_of (fields_of_device d)) devices)) in
    object (put (codes "devices") objects no_members)
