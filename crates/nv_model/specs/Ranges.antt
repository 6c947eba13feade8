-- The ranges of the parts of a subsystem, and the greatest numbers.
use Rattle.std.specs.Prelude.{ℕ, ◌≡◌, ◌-◌, ◌^◌, ◌<◌, ◌≤◌, Bool, true, false, not, ◌&&◌, List, length}
use Rattle.std.specs.Prelude.{All, bit_and, nat_le, ◌==◌, slice_index, IsSomeAnd}
use Rattle.std.specs.List.{list_all}
use Rattle.nv_model.specs.declared.format.Format.{Format}
use Rattle.nv_model.specs.declared.namespace.Namespace.{Namespace}
use Rattle.nv_model.specs.declared.feature_rule.FeatureRule.{FeatureRule}
use Rattle.nv_model.specs.declared.smart_base.Counters.{Counters}
use Rattle.nv_model.specs.declared.smart_base.SmartBase.{SmartBase}
use Rattle.nv_model.specs.declared.identity.IdentityNumbers.{IdentityNumbers}
use Rattle.nv_layout.specs.Feature.{feature_of, is_value}
use Rattle.nv_model.specs.Values.{AreDefaults, are_lists, default_at}
use Rattle.nv_model.specs.State.{Identity}
use Rattle.nv_layout.specs.Limits.{most_nsids}

-- the greatest value of a count, at which it stays
abbrev pub greatest_count : ℕ
greatest_count = 18446744073709551615

-- the greatest integer that a file can hold
abbrev pub greatest_integer : ℕ
greatest_integer = 9223372036854775807

-- the number of command identifiers that a host uses in turn, 0 to FFFEh: FFFFh stands for no command
abbrev pub cid_count : ℕ
cid_count = 65535

-- a text of 1 to `most` bytes, each from 20h to 7Eh, of which the last is not a space
abbrev pub is_text : ℕ → List ℕ → Bool
is_text most s =
    (nat_le 1 (length s) && nat_le (length s) most)
    && (list_all (λ b. nat_le 32 b && nat_le b 126) s && not (slice_index s (length s - 1) == 32))

-- The greatest NSID, the capacity in bytes, where metadata can be placed, and the name of the subsystem.
pub record AreTopKeys (last_nsid capacity metadata : ℕ) (name : List ℕ) : Type 0 where
  pub nn : (1 ≤ last_nsid) × (last_nsid ≤ most_nsids)
  pub tnvmcap : capacity ≤ greatest_integer
  pub mc : metadata ≤ 3
  pub subnqn : is_text 223 name ≡ true

-- a format: its fields are in range
pub record IsFormat (f : Format) : Type 0 where
  pub lbads : (9 ≤ f.lbads) × (f.lbads ≤ 16)
  pub ms : f.ms ≤ 65535
  pub rp : f.rp ≤ 3

-- One of the features, with defaults that are values of it: lists for Temperature Threshold, and
-- one number for any other. Error Recovery is never saveable.
pub record IsFeatureRule (r : FeatureRule) : Type 0 where
  pub lists : are_lists r.defaults ≡ (r.fid == 0x04)
  pub defaults : AreDefaults r.defaults
  pub default : IsSomeAnd (feature_of r.fid)
      (λ f. (s : ℕ) → is_value f (default_at r.defaults s) ≡ true)
  pub saveable : r.fid ≡ 0x05 → r.saveable ≡ false

-- the counters of a health log are integers that a file can hold
pub record IsCounters (c : Counters) : Type 0 where
  pub data_units_read : c.data_units_read ≤ greatest_integer
  pub data_units_written : c.data_units_written ≤ greatest_integer
  pub host_read_commands : c.host_read_commands ≤ greatest_integer
  pub host_write_commands : c.host_write_commands ≤ greatest_integer
  pub controller_busy_time : c.controller_busy_time ≤ greatest_integer
  pub power_cycles : c.power_cycles ≤ greatest_integer
  pub power_on_hours : c.power_on_hours ≤ greatest_integer
  pub unsafe_shutdowns : c.unsafe_shutdowns ≤ greatest_integer
  pub media_errors : c.media_errors ≤ greatest_integer

-- a health log: its fields are in range
pub record IsSmart (s : SmartBase) : Type 0 where
  pub critical_warning : s.critical_warning ≤ 255
  pub temperature : s.temperature ≤ 65535
  pub avail_spare : s.avail_spare ≤ 255
  pub spare_thresh : s.spare_thresh ≤ 255
  pub percent_used : s.percent_used ≤ 255
  pub counters : IsCounters s.counters
  pub warning_temp_time : s.warning_temp_time ≤ 4294967295
  pub critical_comp_time : s.critical_comp_time ≤ 4294967295
  pub sensors : (length s.sensors ≡ 8) × All (λ n. n ≤ 65535) s.sensors

-- The numbers that a controller reports about itself.
pub record IsIdentityNumbers (n : IdentityNumbers) : Type 0 where
  pub vid : n.vid ≤ 65535
  pub ssvid : n.ssvid ≤ 65535
  pub rab : n.rab ≤ 255
  pub ieee : n.ieee ≤ 16777215
  pub mdts : (2 ≤ n.mdts) × (n.mdts ≤ 8)
  pub elpe : n.elpe ≤ 255
  pub wctemp : n.wctemp ≤ 65535
  pub cctemp : n.cctemp ≤ 65535
  pub vwc : n.vwc ≤ 7

-- the identity of a controller: its identifier is in range, and its texts and numbers are
pub record IsIdentity (i : Identity) : Type 0 where
  pub cntlid : i.cntlid ≤ 65519
  pub sn : is_text 20 i.sn ≡ true
  pub mn : is_text 40 i.mn ≡ true
  pub fr : is_text 8 i.fr ≡ true
  pub numbers : IsIdentityNumbers i.numbers

-- A namespace has at least one block of its format, and extended blocks only if the format and the
-- subsystem allow them.
pub record IsInFormat (mc : ℕ) (f : Format) (n : Namespace) : Type 0 where
  pub capacity : (2 ^ f.lbads ≤ n.capacity) × (n.capacity ≤ greatest_integer)
  pub extended : n.extended ≡ true → (0 < f.ms) × (bit_and mc 1 ≡ 1)
